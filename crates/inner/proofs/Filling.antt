-- The loop that fills the places: i elements were read, the first i of m, and p is the place after them.
-- Assumes nothing.
use mathlib.Core.Path.{◌≡◌, refl, sym, ◌∙◌}
use mathlib.Core.List.{List, [], ◌∷◌, ◌++◌, append_assoc, append-nil}
use Prim.Native.Nat.{ℕ, suc, ◌+◌, ◌-◌, ◌≤◌, ◌<◌}
use native.Mathlib.Omega.{arith}
use native.Mathlib.Numerals.{add-one}
use lib.ListN.{length, take, drop, set, replicate, length-set, take-append-drop}
use lib.Seq.{take-suc-set, length-take-le, drop-set-lt, drop-drop}
use Rattle.fields.specs.Fields.{Reading, then}
use Rattle.fields.specs.declared.Refusal.{Refusal}
use Rattle.kinds.specs.declared.Direction.{Direction}
use Rattle.elements.specs.declared.values.Element.{Element}
use Rattle.elements.specs.OneElement.{bare, element_at}
use Rattle.inner.specs.Places.{row_at, laid}
use Rattle.std.specs.Prelude.{Err, Ok}

-- elements that were read before others
abbrev pub behind : List Element → Reading (List Element) → Reading (List Element)
behind xs f = then f (λ (ys : List Element) (next : ℕ). Ok (xs ++ ys, next))

pub behind_behind : (xs ys : List Element) (f : Reading (List Element)) → behind xs (behind ys f) ≡ behind (xs ++ ys) f
behind_behind xs ys (Ok (zs, n)) = rw append_assoc
behind_behind xs ys (Err r) = refl

behind_nil : (f : Reading (List Element)) → behind [] f ≡ f
behind_nil (Ok (zs, n)) = refl
behind_nil (Err r) = refl

pub row_suc : (d : Direction) (l : List ℕ) (at k : ℕ)
    → row_at d l at (suc k) ≡ then (element_at d l at) (λ (e : Element) (next : ℕ). behind (e ∷ []) (row_at d l next k))
unfolding row_at
row_suc d l at k = refl

pub row_zero : (d : Direction) (l : List ℕ) (at : ℕ) → row_at d l at 0 ≡ Ok ([], at)
unfolding row_at
row_zero d l at = refl

-- what holds at the loop's test
pub record Filled (d : Direction) (l : List ℕ) (at n i p : ℕ) (m : List Element) : Type 0 where
  pub five : length m ≡ 5
  pub read : behind (take i m) (row_at d l p (n - i)) ≡ row_at d l at n
  pub rest : drop i m ≡ replicate (5 - i) (bare 0)

pub filled_start : (d : Direction) (l : List ℕ) (at n : ℕ) → Filled d l at n 0 at (replicate 5 (bare 0))
filled_start d l at n = record { five = refl; read = start; rest = refl }
  where
    start : behind [] (row_at d l at (n - 0)) ≡ row_at d l at n
    start = let e : n - 0 ≡ n = omega arith in rw e (behind_nil (row_at d l at n))

pub filled_turn : (d : Direction) (l : List ℕ) (at n i p q : ℕ) (m : List Element) (x : Element) (f : Reading Element) → i < n → n ≤ 5
    → f ≡ element_at d l p → f ≡ Ok (x, q) → Filled d l at n i p m
    → Filled d l at n (i + 1) q (set m i x)
filled_turn d l at n i p q m x f h g e t inv =
    let five = inv.five in
    let k : n - i ≡ suc (n - suc i) = omega arith in
    let j : 5 - i ≡ suc (5 - suc i) = omega arith in
    let z : behind (take i m) (behind (x ∷ []) (row_at d l q (n - suc i))) ≡ row_at d l at n = rw
    (k, row_suc, ← e, t) at inv.read in
    let w : drop 1 (drop i m) ≡ replicate (5 - suc i) (bare 0) = rw (inv.rest, j) in
    record {
      five = length-set m i x ∙ five;
      read = rw (add-one, take-suc-set m i x (omega arith), ← behind_behind (take i m) (x ∷ []) (row_at d l q (n - suc i))) z;
      rest = rw (add-one, drop-set-lt (suc i) m i x (omega arith)) (rw (drop-drop, add-one) at w);
    }

-- the two ends of the loop, as the code has them
pub filled_bad : (d : Direction) (l : List ℕ) (at n i p : ℕ) (m : List Element) (f : Reading Element) (r : Refusal)
    → i < n → f ≡ element_at d l p → f ≡ Err r → Filled d l at n i p m → Err r ≡ laid (row_at d l at n)
filled_bad d l at n i p m f r h g e inv =
    let k : n - i ≡ suc (n - (i + 1)) = omega arith in
    let z : row_at d l at n ≡ Err r = sym inv.read ∙ rw (k, row_suc, ← g, e) in
    rw z

pub filled_done : (d : Direction) (l : List ℕ) (at n i p : ℕ) (m : List Element) → n ≤ i → i ≤ n → n ≤ 5 → Filled d l at n i p m → Ok (m, p) ≡ laid (row_at d l at n)
filled_done d l at n i p m h h' g inv =
    let five = inv.five in
    let e : i ≡ n = omega arith in
    let k : n - n ≡ 0 = omega arith in
    let z : Ok (take n m ++ [], p) ≡ row_at d l at n = rw (e, k, row_zero) at inv.read in
    let w : drop n m ≡ replicate (5 - n) (bare 0) = rw e at inv.rest in
    rw (← z, append-nil, length-take-le n m (omega arith), ← w, take-append-drop n m)
