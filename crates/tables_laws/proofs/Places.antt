-- What each change of a page leaves of what the page says.
-- Assumes nothing.
use mathlib.Core.Path.{◌≡◌, refl, ap, sym, ◌∙◌}
use mathlib.Core.Bool.{Bool, cond, ◌||◌}
use mathlib.Core.List.{List, [], ◌∷◌, ◌++◌}
use Prim.Native.Nat.{ℕ, zero, suc, ◌+◌, ◌*◌, ◌≤◌, ◌<◌}
use native.Mathlib.Omega.{arith}
use borrow.Author.Tests.{lt-leb, le-ltb}
use lib.Dec.{eqb, ltb}
use lib.ListN.{get_or, set}
use Rattle.pair.specs.Names.{Side}
use Rattle.pair.specs.Carrier.{Body}
use Rattle.pair.specs.Numbered.{Numbered}
use Rattle.pair.proofs.ControlMachine.{Ent}
use Rattle.duties.specs.Memory.{Notice, note}
use Rattle.tables.specs.Tables.{member, among, entry_in}
use Rattle.tables.proofs.Tables.{get_other}
use Rattle.tables_laws.proofs.Reading.{jobs_from, fate_in, notice_at, notices_from, entry_of, entry_at, line_from}

-- ---- small facts

pub cons_path : {X : Type 0} {x y : X} {s t : List X} → x ≡ y → s ≡ t → ◌≡◌ {A = List X} (x ∷ s) (y ∷ t)
cons_path {X} {x} {y} {s} {t} p q = ap (λ (u : X). u ∷ s) p ∙ ap (λ (u : List X). y ∷ u) q

pub app_assoc : {X : Type 0} (a b c : List X) → (a ++ b) ++ c ≡ a ++ (b ++ c)
app_assoc [] b c = refl
app_assoc (x ∷ a) b c = ap (λ (t : List _). x ∷ t) (app_assoc a b c)

-- the places from a on and below b are the same
abbrev pub Same : List ℕ → List ℕ → ℕ → ℕ → Type 0
Same l m a b = (i : ℕ) → a ≤ i → i < b → get_or m i 0 ≡ get_or l i 0

pub same_then : (l m n : List ℕ) (a b : ℕ) → Same l m a b → Same m n a b → Same l n a b
same_then l m n a b f g i p q = g i p q ∙ f i p q

pub same_set : (l : List ℕ) (n v a b : ℕ) → ((i : ℕ) → a ≤ i → i < b → i ≡ n → ⊥) → Same l (set l n v) a b
same_set l n v a b h i p q = get_other l n i v (h i p q)

pub same_below : (l : List ℕ) (n v a : ℕ) → Same l (set l n v) a n
same_below l n v a i p q = get_other l n i v (λ (e : i ≡ n). omega (arith, e, q))

pub same_above : (l : List ℕ) (n v a b : ℕ) → n < a → Same l (set l n v) a b
same_above l n v a b h i p q = get_other l n i v (λ (e : i ≡ n). omega (arith, e, p, h))

-- ---- lists that did not change

pub jobs_same : (l m : List ℕ) (a b : ℕ) → Same l m a b → (k i : ℕ) → a ≤ i → i + k ≤ b → jobs_from m k i ≡ jobs_from l k i
jobs_same l m a b s zero i p q = refl
jobs_same l m a b s (suc k) i p q =
    cons_path (s i p (omega (arith, q))) (jobs_same l m a b s k (suc i) (omega (arith, p)) (omega (arith, q)))

pub notice_path : {j i : ℕ} {f g : ℕ} → j ≡ i → f ≡ g → note j (fate_in f) ≡ note i (fate_in g)
notice_path {j} {i} {f} {g} p q = ap (λ (x : ℕ). note x (fate_in f)) p ∙ ap (λ (x : ℕ). note i (fate_in x)) q

pub notices_same : (l m : List ℕ) (a b : ℕ) → Same l m a b → (k i : ℕ) → a ≤ i → i + 2 * k ≤ b → notices_from m k i ≡ notices_from l k i
notices_same l m a b s zero i p q = refl
notices_same l m a b s (suc k) i p q =
    cons_path (notice_path (s i p (omega (arith, q))) (s (i + 1) (omega (arith, p)) (omega (arith, q))))
    (notices_same l m a b s k (i + 2) (omega (arith, p)) (omega (arith, q)))

pub among_same : (l m : List ℕ) (from x n : ℕ) → Same l m from (from + n) → among m from n x ≡ among l from n x
among_same l m from x zero s = refl
among_same l m from x (suc n) s =
    ap (λ (b : Bool). b || eqb (member m from n) x)
    (among_same l m from x n (λ (i : ℕ) (p : from ≤ i) (q : i < from + n). s i p (omega (arith, q))))
    ∙ ap (λ (v : ℕ). among l from n x || eqb (cond (ltb 4294967296 from) 0 (cond (ltb 4294967296 n) 0 v)) x)
    (s (from + n) (omega arith) (omega arith))

pub entry_is : (l : List ℕ) (i f : ℕ) → i < 1024 → f ≤ 2 → entry_in l i f ≡ get_or l (16 + 3 * i + f) 0
unfolding entry_in
entry_is l i f h g = rw (lt-leb 1024 i h, le-ltb 2 f g)

pub entry_same : (l m : List ℕ) → Same l m 16 3088 → (i f : ℕ) → i < 1024 → f ≤ 2 → entry_in m i f ≡ entry_in l i f
entry_same l m s i f h g =
    entry_is m i f h g ∙ s (16 + 3 * i + f) (omega arith) (omega (arith, h, g)) ∙ sym (entry_is l i f h g)

-- ---- one more

pub jobs_more : (l : List ℕ) (k i : ℕ) → jobs_from l (suc k) i ≡ jobs_from l k i ++ (get_or l (i + k) 0 ∷ [])
jobs_more l zero i =
    let e : i ≡ i + 0 = omega arith in
    ap (λ (x : ℕ). get_or l x 0 ∷ []) e
jobs_more l (suc k) i =
    let e : suc i + k ≡ i + suc k = omega arith in
    ap (λ (t : List ℕ). get_or l i 0 ∷ t) (jobs_more l k (suc i) ∙ ap (λ (x : ℕ). jobs_from l k (suc i) ++ (get_or l x 0 ∷ [])) e)

pub notices_more : (l : List ℕ) (k i : ℕ) → notices_from l (suc k) i ≡ notices_from l k i ++ (notice_at l (i + 2 * k) ∷ [])
notices_more l zero i =
    let e : i ≡ i + 2 * 0 = omega arith in
    ap (λ (x : ℕ). notice_at l x ∷ []) e
notices_more l (suc k) i =
    let e : i + 2 + 2 * k ≡ i + 2 * suc k = omega arith in
    ap (λ (t : List Notice). notice_at l i ∷ t)
    (notices_more l k (i + 2) ∙ ap (λ (x : ℕ). notices_from l k (i + 2) ++ (notice_at l x ∷ [])) e)

module _ (text : Side → ℕ → Body) (sd : Side) where
  pub entry_path : {a b c d e f : ℕ} → a ≡ b → c ≡ d → e ≡ f → entry_of text sd a c e ≡ entry_of text sd b d f
  entry_path {a} {b} {c} {d} {e} {f} p q r =
      ap (λ (x : ℕ). entry_of text sd x c e) p ∙ ap (λ (x : ℕ). entry_of text sd b x e) q ∙ ap (λ (x : ℕ). entry_of text sd b d x) r

  -- three fields are the entry
  pub entry_fields : (l m : List ℕ) (i j : ℕ) → ((f : ℕ) → f ≤ 2 → entry_in m i f ≡ entry_in l j f)
      → entry_at text sd m i ≡ entry_at text sd l j
  entry_fields l m i j h = entry_path (h 0 (omega arith)) (h 1 (omega arith)) (h 2 (omega arith))

  pub line_fields : (l m : List ℕ) (k i j : ℕ) → ((n f : ℕ) → n < k → f ≤ 2 → entry_in m (i + n) f ≡ entry_in l (j + n) f)
      → line_from text sd m k i ≡ line_from text sd l k j
  line_fields l m zero i j h = refl
  line_fields l m (suc k) i j h =
      let a : i + 0 ≡ i = omega arith in
      let b : j + 0 ≡ j = omega arith in
      cons_path
      (entry_fields l m i j (λ (f : ℕ) (g : f ≤ 2). ap (λ (x : ℕ). entry_in m x f) (sym a) ∙ h 0 f (omega arith) g
      ∙ ap (λ (x : ℕ). entry_in l x f) b))
      (line_fields l m k (suc i) (suc j) (λ (n f : ℕ) (p : n < k) (g : f ≤ 2). next n f p g))
    where
      next : (n f : ℕ) → n < k → f ≤ 2 → entry_in m (suc i + n) f ≡ entry_in l (suc j + n) f
      next n f p g =
          let a : suc i + n ≡ i + suc n = omega arith in
          let b : j + suc n ≡ suc j + n = omega arith in
          ap (λ (x : ℕ). entry_in m x f) a ∙ h (suc n) f (omega (arith, p)) g ∙ ap (λ (x : ℕ). entry_in l x f) b

  pub line_same : (l m : List ℕ) → Same l m 16 3088 → (k i : ℕ) → i + k ≤ 1024 → line_from text sd m k i ≡ line_from text sd l k i
  line_same l m s k i q =
      line_fields l m k i i (λ (n f : ℕ) (p : n < k) (g : f ≤ 2). entry_same l m s (i + n) f (omega (arith, p, q)) g)

  pub line_more : (l : List ℕ) (k i : ℕ) → line_from text sd l (suc k) i ≡ line_from text sd l k i ++ (entry_at text sd l (i + k) ∷ [])
  line_more l zero i =
      let e : i ≡ i + 0 = omega arith in
      ap (λ (x : ℕ). entry_at text sd l x ∷ []) e
  line_more l (suc k) i =
      let e : suc i + k ≡ i + suc k = omega arith in
      ap (λ (t : List (Numbered Ent)). entry_at text sd l i ∷ t)
      (line_more l k (suc i) ∙ ap (λ (x : ℕ). line_from text sd l k (suc i) ++ (entry_at text sd l x ∷ [])) e)

  pub line_last : (l : List ℕ) (k : ℕ) → line_from text sd l (suc k) 0 ≡ line_from text sd l k 0 ++ (entry_at text sd l k ∷ [])
  line_last l k =
      let e : 0 + k ≡ k = omega arith in
      line_more l k 0 ∙ ap (λ (x : ℕ). line_from text sd l k 0 ++ (entry_at text sd l x ∷ [])) e
