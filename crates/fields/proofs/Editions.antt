-- What a later edition writes behind the root of an extensible SEQUENCE (X.691, 19.7 to 19.9) is stepped over, to its end: 1 to 64 additions, one there at
-- least, each of at most 16,383 octets.
-- Assumes nothing.
use mathlib.Core.Path.{◌≡◌, refl, ap, sym, subst, ◌∙◌}
use mathlib.Core.Bool.{Bool, true, false, cond, ◌&&◌}
use mathlib.Core.List.{List, [], ◌∷◌, ◌++◌, append_assoc}
use Prim.Native.Nat.{ℕ, zero, suc, ◌+◌, ◌-◌, ◌*◌, ◌/◌, ◌^◌, ◌≤◌, ◌<◌}
use native.Mathlib.Omega.{arith}
use borrow.Author.Tests.{le-leb, lt-ltb, ne_eqb, eqb-true}
use lib.Count.{ones_in, ones, ones_cat}
use lib.Dec.{leb, ltb, eqb}
use lib.ListN.{length}
use Rattle.words.proofs.Laws.{both_left, both_right}
use Rattle.bits.specs.Bits.{bits_n, num_of, acc_of}
use Rattle.bits.proofs.Numbers.{Bits, length_bits_n, bits_n_split, bits_n_num, num_cons, num_lt}
use Rattle.fields.specs.Additions.{addition_count, additions_there, addition_at, stepped_over, additions_at}
use Rattle.fields.specs.Encodings.{bits_fit, length_fits, length_bits}
use Rattle.fields.specs.Fields.{bit_field, extension_bit}
use Rattle.fields.proofs.RoundTrip.{Stands, stands_split, bit_field_is, extension_bit_is, length_determinant, items_written_read}
use Rattle.std.specs.Prelude.{Ok}

-- ---- what is written

-- an addition is absent, or there with the bits of its octets
pub data Addition : Type 0 where
  absent : Addition
  there : List ℕ → Addition

unfoldable pub marks : List Addition → List ℕ
marks [] = []
marks (absent ∷ xs) = 0 ∷ marks xs
marks (there o ∷ xs) = 1 ∷ marks xs

unfoldable pub contents : List Addition → List ℕ
contents [] = []
contents (absent ∷ xs) = contents xs
contents (there o ∷ xs) = length_bits (length o / 8) ++ o ++ contents xs

-- a bit 0 and one less than their count in 6 bits, which of them are there, and those
unfoldable pub additions_bits : List Addition → List ℕ
additions_bits xs = bits_n 1 0 ++ (bits_n 6 (length xs - 1) ++ (marks xs ++ contents xs))

-- whole octets, not so many that they are in fragments
unfoldable pub additions_fit : List Addition → Bool
additions_fit [] = true
additions_fit (absent ∷ xs) = additions_fit xs
additions_fit (there o ∷ xs) = (eqb (8 * (length o / 8)) (length o) && length_fits (length o / 8)) && additions_fit xs

-- how many are there
unfoldable pub given : List Addition → ℕ
given [] = 0
given (absent ∷ xs) = given xs
given (there o ∷ xs) = suc (given xs)

-- ---- the marks

length_marks : (xs : List Addition) → length (marks xs) ≡ length xs
unfolding marks
length_marks [] = refl
length_marks (absent ∷ xs) = ap suc (length_marks xs)
length_marks (there o ∷ xs) = ap suc (length_marks xs)

bits_cons : (x : ℕ) (l : List ℕ) → x < 2 → Bits l → Bits (x ∷ l)
bits_cons x l h b zero = h
bits_cons x l h b (suc k) = b k

marks_bits : (xs : List Addition) → Bits (marks xs)
unfolding marks
marks_bits [] k = omega arith
marks_bits (absent ∷ xs) k = bits_cons 0 (marks xs) (omega arith) (marks_bits xs) k
marks_bits (there o ∷ xs) k = bits_cons 1 (marks xs) (omega arith) (marks_bits xs) k

ones_none : ones 0 ≡ 0
unfolding ones ones_in
ones_none = refl

ones_one : ones 1 ≡ 1
unfolding ones ones_in
ones_one = refl

ones_cons : (b : ℕ) (l : List ℕ) → Bits l → ones (num_of (b ∷ l)) ≡ ones b + ones (num_of l)
ones_cons b l h = ap ones (num_cons b l) ∙ ones_cat (length l) b (num_of l) (num_lt l h)

ones_marks : (xs : List Addition) → ones (num_of (marks xs)) ≡ given xs
unfolding marks given acc_of
ones_marks [] = ones_none
ones_marks (absent ∷ xs) = ones_cons 0 (marks xs) (marks_bits xs) ∙ rw (ones_none, ones_marks xs) (omega arith)
ones_marks (there o ∷ xs) = ones_cons 1 (marks xs) (marks_bits xs) ∙ rw (ones_one, ones_marks xs) (omega arith)

module _ (l : List ℕ) (at next : ℕ) (xs : List Addition) (few : length xs ≤ 64) (some : 0 < given xs) where
  there_read : Stands l at (marks xs) next → additions_there l at (length xs) ≡ Ok (num_of (marks xs), next)
  unfolding additions_there
  there_read s =
      let n = length_marks xs in
      let w : bits_n (length xs) (num_of (marks xs)) ≡ marks xs = rw (← n) (bits_n_num (marks xs) (marks_bits xs)) in
      let lt : num_of (marks xs) < 2 ^ length xs = rw n at (num_lt (marks xs) (marks_bits xs)) in
      let f : bits_fit (length xs) (num_of (marks xs)) ≡ true = rw
      (le-leb (length xs) 64 few, lt-ltb (num_of (marks xs)) (2 ^ length xs) lt) in
      let r = (bit_field_is (length xs)).written_read l at (num_of (marks xs)) next f (rw w s) in
      rw (r, ne_eqb (num_of (marks xs)) 0 not_none)
    where
      not_none : num_of (marks xs) ≡ 0 → ⊥
      not_none z =
          let e : given xs ≡ 0 = sym (ones_marks xs) ∙ ap ones z ∙ ones_none in
          absurd (omega arith)

-- ---- the count

count_read : (l : List ℕ) (at m next : ℕ) → m < 64 → Stands l at (bits_n 1 0 ++ bits_n 6 m) next → addition_count l at ≡ Ok (m + 1, next)
unfolding addition_count
count_read l at m next h s =
    let z : m / 2 ^ 6 ≡ 0 = omega arith in
    let e : bits_n 7 m ≡ bits_n 1 0 ++ bits_n 6 m = bits_n_split 1 6 m ∙ ap (λ (x : ℕ). bits_n 1 x ++ bits_n 6 m) z in
    let w = stands_split l at next (bits_n 1 0) (bits_n 6 m) s in
    let f : bits_fit 7 m ≡ true = lt-ltb m (2 ^ 7) (omega arith) in
    rw (extension_bit_is.written_read l at 0 _ refl w.first, (bit_field_is 7).written_read l at m next f (rw e s))

-- ---- those that are there

addition_read : (l : List ℕ) (at next : ℕ) (o : List ℕ) → eqb (8 * (length o / 8)) (length o) ≡ true
    → length_fits (length o / 8) ≡ true → Stands l at (length_bits (length o / 8) ++ o) next
    → addition_at l at ≡ Ok (length o / 8, next)
unfolding addition_at
addition_read l at next o e f s = items_written_read length_determinant 8 l at (length o / 8) next o f
    (sym (eqb-true (8 * (length o / 8)) (length o) e)) s

stepped_one : (l : List ℕ) (at k n next : ℕ) → addition_at l at ≡ Ok (n, next) → stepped_over l at (suc k) ≡ stepped_over l next k
unfolding stepped_over
stepped_one l at k n next e = rw e

contents_read : (l : List ℕ) (xs : List Addition) (at next : ℕ) → additions_fit xs ≡ true
    → Stands l at (contents xs) next → stepped_over l at (given xs) ≡ Ok (0, next)
unfolding contents additions_fit given stepped_over
contents_read l [] at next f s =
    let p = s.place in
    let e : at ≡ next = omega arith in
    ap (λ (place : ℕ). Ok (0, place)) e
contents_read l (absent ∷ xs) at next f s = contents_read l xs at next f s
contents_read l (there o ∷ xs) at next f s =
    let g = both_left (eqb (8 * (length o / 8)) (length o) && length_fits (length o / 8)) (additions_fit xs) f in
    let w = stands_split l at next (length_bits (length o / 8) ++ o) (contents xs) s in
    let a = addition_read l at _ o (both_left (eqb (8 * (length o / 8)) (length o)) (length_fits (length o / 8)) g)
    (both_right (eqb (8 * (length o / 8)) (length o)) (length_fits (length o / 8)) g) w.first in
    stepped_one l at (given xs) (length o / 8) _ a ∙ contents_read l xs _ next
    (both_right (eqb (8 * (length o / 8)) (length o) && length_fits (length o / 8)) (additions_fit xs) f) w.second

-- ---- all of it

some_there : (xs : List Addition) → 0 < given xs → 0 < length xs
unfolding given
some_there [] h = absurd (omega arith)
some_there (a ∷ xs) h = omega arith

pub later_stepped : (l : List ℕ) (at next : ℕ) (xs : List Addition) → length xs ≤ 64 → 0 < given xs
    → additions_fit xs ≡ true → Stands l at (additions_bits xs) next → additions_at l at ≡ Ok (0, next)
unfolding additions_bits additions_at
later_stepped l at next xs few some f s =
    let pos = some_there xs some in
    let m : ℕ = length xs - 1 in
    let e : length xs - 1 + 1 ≡ length xs = omega arith in
    let t : Stands l at ((bits_n 1 0 ++ bits_n 6 (length xs - 1)) ++ (marks xs ++ contents xs)) next = subst
    (λ (x : List ℕ). Stands l at x next)
    (sym (append_assoc (bits_n 1 0) (bits_n 6 (length xs - 1)) (marks xs ++ contents xs))) s in
    let w = stands_split l at next (bits_n 1 0 ++ bits_n 6 (length xs - 1)) (marks xs ++ contents xs) t in
    let u = stands_split l _ next (marks xs) (contents xs) w.second in
    let c : addition_count l at ≡ Ok (length xs, at + length (bits_n 1 0 ++ bits_n 6 (length xs - 1))) = count_read l
    at (length xs - 1) _ (omega arith) w.first ∙ ap
    (λ (n : ℕ). Ok (n, at + length (bits_n 1 0 ++ bits_n 6 (length xs - 1)))) e in
    rw (c, there_read l _ _ xs few some u.first, ones_marks xs) (contents_read l xs _ next f u.second)
