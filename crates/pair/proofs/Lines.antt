-- Lines over any machine: what an abort leaves of one, and lines whose entries correspond.
-- Assumes nothing.
use mathlib.Core.Path.{◌≡◌, refl}
use mathlib.Core.List.{List, [], ◌∷◌, ◌++◌}
use Prim.Native.Nat.{ℕ, zero, suc}
use lib.ListN.{take, drop, take-append-drop}
use Rattle.pair.specs.Carrier.{Machine}
use Rattle.pair.proofs.OneDialogue.{is_nil, cut}

-- k is what is left of the line l when e is put behind it and the youngest entries are lost
pub record Left {X : Type 0} (l : List X) (e : X) (k : List X) : Type 0 where
  pub kept : List X
  pub lost : List X
  pub whole : kept ++ lost ≡ l
  pub is : k ≡ kept ++ (e ∷ [])

-- "may be lost, youngest first; the D-ABORT itself is not lost"
pub cut_loses_youngest : (m : Machine) (keep : ℕ) (l : List m.E) (e : m.E) → Left l e (cut m keep l e)
cut_loses_youngest m keep l e = record { kept = take keep l; lost = drop keep l; whole = take-append-drop keep l; is = refl }

-- ---- lines that correspond, entry by entry

abbrev pub LL : {X Y : Type 0} → (X → Y → Type 0) → List X → List Y → Type 0
LL EE [] [] = Unit {0}
LL EE [] (f ∷ k) = ⊥
LL EE (e ∷ l) [] = ⊥
LL EE (e ∷ l) (f ∷ k) = EE e f × LL EE l k

pub ll_snoc : {X Y : Type 0} (EE : X → Y → Type 0) (l : List X) (k : List Y) (e : X) (f : Y) → LL EE l k → EE e f → LL EE (l ++ (e ∷ [])) (k ++ (f ∷ []))
ll_snoc EE [] [] e f h x = (x, tt)
ll_snoc EE [] (z ∷ k) e f h x = absurd h
ll_snoc EE (y ∷ l) [] e f h x = absurd h
ll_snoc EE (y ∷ l) (z ∷ k) e f h x = (h.0, ll_snoc EE l k e f h.1 x)

ll_take : {X Y : Type 0} (EE : X → Y → Type 0) (n : ℕ) (l : List X) (k : List Y) → LL EE l k → LL EE (take n l) (take n k)
ll_take EE zero l k h = tt
ll_take EE (suc n) [] [] h = tt
ll_take EE (suc n) [] (z ∷ k) h = absurd h
ll_take EE (suc n) (y ∷ l) [] h = absurd h
ll_take EE (suc n) (y ∷ l) (z ∷ k) h = (h.0, ll_take EE n l k h.1)

pub ll_cut : (m n : Machine) (EE : m.E → n.E → Type 0) (keep : ℕ) (l : List m.E) (k : List n.E) (e : m.E) (f : n.E)
    → LL EE l k → EE e f → LL EE (cut m keep l e) (cut n keep k f)
ll_cut m n EE keep l k e f h x = ll_snoc EE (take keep l) (take keep k) e f (ll_take EE keep l k h) x

pub ll_nil : {X Y : Type 0} (EE : X → Y → Type 0) (l : List X) (k : List Y) → LL EE l k → is_nil l ≡ is_nil k
ll_nil EE [] [] h = refl
ll_nil EE [] (z ∷ k) h = absurd h
ll_nil EE (y ∷ l) [] h = absurd h
ll_nil EE (y ∷ l) (z ∷ k) h = refl
