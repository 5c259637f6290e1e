-- Two whole numbers in a row, the range of the second by the first: read back where they stand, and standing where they were read.
-- Assumes nothing.
use mathlib.Core.Path.{◌≡◌}
use mathlib.Core.Bool.{◌&&◌}
use mathlib.Core.List.{List, ◌++◌}
use Prim.Native.Nat.{ℕ, ◌≤◌}
use Rattle.words.proofs.Laws.{ok_place, ok_value}
use Rattle.bits.proofs.Numbers.{Bits}
use Rattle.fields.specs.Fields.{Reading, onto, whole_number, then}
use Rattle.fields.specs.declared.Refusal.{Refusal}
use Rattle.fields.specs.Encodings.{whole_bits, whole_fits}
use Rattle.elements.proofs.Standing.{Stands, stands_join, stands_split}
use Rattle.elements.proofs.Whole.{Ranged, whole_reads, whole_stands, whole_below}
use Rattle.elements.proofs.Steps.{onto_is, then_is}
use Rattle.std.specs.Prelude.{Ok}

-- over any way up, and whatever goes on from the two
module _ {B : Type 0} (refused : Refusal → B) (got : ℕ → ℕ → ℕ → B) (lo hi : ℕ) (low high : ℕ → ℕ) (first : Ranged lo hi) (second : (u : ℕ) → u ≤ hi → Ranged (low u) (high u)) (l : List ℕ) (at : ℕ) where
  pub pair_reads : (u v next : ℕ)
      → Stands l at (whole_fits lo hi u && whole_fits (low u) (high u) v) (whole_bits lo hi u ++ whole_bits (low u) (high u) v) next
      → onto refused (whole_number l at lo hi) (λ (u m : ℕ). onto refused (whole_number l m (low u) (high u)) (got u)) ≡ got u v next
  pair_reads u v next s =
      let p = stands_split l at next _ _ (whole_bits lo hi u) _ s in
      let r = second u (whole_below lo hi u p.0.fits) in
      rw (whole_reads l at lo hi u _ first p.0, whole_reads l _ (low u) (high u) v next r p.1)

  pub pair_is : {R : Type 0} (o : B) → Bits l → ((u v n : ℕ) → Stands l at (whole_fits lo hi u && whole_fits (low u) (high u) v) (whole_bits lo hi u ++ whole_bits (low u) (high u) v) n → got u v n ≡ o → R) → ((r : Refusal) → refused r ≡ o → R) → onto refused (whole_number l at lo hi) (λ (u m : ℕ). onto refused (whole_number l m (low u) (high u)) (got u)) ≡ o → R
  pair_is o b go bad e =
      onto_is refused (whole_number l at lo hi) (λ (u m : ℕ). onto refused (whole_number l m (low u) (high u)) (got u)) o
      (λ (u m : ℕ) (p : whole_number l at lo hi ≡ Ok (u, m)) (q : onto refused (whole_number l m (low u) (high u)) (got u) ≡ o).
      let s = whole_stands l at lo hi u m b p in
      onto_is refused (whole_number l m (low u) (high u)) (got u) o
      (λ (v n : ℕ) (t : whole_number l m (low u) (high u) ≡ Ok (v, n)) (g : got u v n ≡ o).
      go u v n (stands_join l at m n _ _ _ _ s (whole_stands l m (low u) (high u) v n b t)) g)
      bad
      q)
      bad
      e

module _ {A : Type 0} (made : ℕ → ℕ → A) (lo hi : ℕ) (low high : ℕ → ℕ) (first : Ranged lo hi) (second : (u : ℕ) → u ≤ hi → Ranged (low u) (high u)) (l : List ℕ) (at : ℕ) where
  more : ℕ → ℕ → Reading A
  more u m = then (whole_number l m (low u) (high u)) (λ (v n : ℕ). Ok (made u v, n))

  pub pair_stands : {R : Type 0} (x : A) (next : ℕ) → Bits l → ((u v : ℕ) → Stands l at (whole_fits lo hi u && whole_fits (low u) (high u) v) (whole_bits lo hi u ++ whole_bits (low u) (high u) v) next → made u v ≡ x → R) → then {B = A × ℕ} (whole_number l at lo hi) (λ (u m : ℕ). then (whole_number l m (low u) (high u)) (λ (v n : ℕ). Ok (made u v, n))) ≡ Ok (x, next) → R
  unfolding more
  pair_stands x next b go e =
      then_is (whole_number l at lo hi) more (x, next)
      (λ (u m : ℕ) (p : whole_number l at lo hi ≡ Ok (u, m)) (q : more u m ≡ Ok (x, next)).
      then_is (whole_number l m (low u) (high u)) (λ (v n : ℕ). Ok (made u v, n)) (x, next)
      (λ (v n : ℕ) (t : whole_number l m (low u) (high u) ≡ Ok (v, n)) (g : _).
      let s = stands_join l at m n _ _ _ _ (whole_stands l at lo hi u m b p) (whole_stands l m (low u) (high u) v n b t) in
      let w : n ≡ next = ok_place g in
      go u v (rw w at s) (ok_value g))
      q)
      e
