-- The count of elements and the bit before it, read as one number or field by field.
-- Assumes nothing.
use mathlib.Core.Path.{◌≡◌, refl, sym, ap, ◌∙◌}
use mathlib.Core.Bool.{Bool, true, false, cond}
use mathlib.Core.List.{List, ◌++◌}
use Prim.Native.Nat.{ℕ, zero, suc, ◌+◌, ◌≤◌, ◌<◌}
use native.Mathlib.Omega.{arith}
use lib.Dec.{eqb}
use borrow.Author.Tests.{eqb-true}
use Rattle.bits.specs.Bits.{bits_n, bits_to}
use Rattle.bits.specs.Read.{read_bits}
use Rattle.bits.proofs.Bytes.{Holds, bits_to_is, holds_split}
use Rattle.bits.proofs.Numbers.{Bits}
use Rattle.bits.proofs.Reading.{number_is, number_stands}
use Rattle.fields.specs.Fields.{Reading, digits_in, refused_at, then, whole_number}
use Rattle.fields.specs.Encodings.{whole_bits, whole_fits}
use Rattle.fields.specs.declared.Fault.TheVariants as fault
use Rattle.kinds.specs.declared.Direction.{Direction}
use Rattle.elements.proofs.Steps.{never, then_is}
use Rattle.elements.proofs.Whole.{ranged, whole_most, whole_reads, whole_stands}
use Rattle.inner.specs.declared.values.Header.{Header}
use Rattle.inner.specs.Places.{laid, row_at}
use Rattle.inner.specs.Messages.{body_at, count_at, message_of}
use Rattle.inner.proofs.MessageLaws.{one_bit, three_bits}
use Rattle.std.specs.Prelude.{Ok, Option, Some}

-- ---- as one number

four_bits : (v : ℕ) → v < 5 → bits_n 4 v ≡ whole_bits 0 1 0 ++ whole_bits 1 5 (v + 1)
unfolding bits_n whole_bits digits_in
four_bits zero h = refl
four_bits (suc zero) h = refl
four_bits (suc (suc zero)) h = refl
four_bits (suc (suc (suc zero))) h = refl
four_bits (suc (suc (suc (suc zero)))) h = refl
four_bits (suc (suc (suc (suc (suc v))))) h = absurd (omega arith)

few_fit : (v : ℕ) → v < 5 → whole_fits 1 5 (v + 1) ≡ true
few_fit zero h = refl
few_fit (suc zero) h = refl
few_fit (suc (suc zero)) h = refl
few_fit (suc (suc (suc zero))) h = refl
few_fit (suc (suc (suc (suc zero)))) h = refl
few_fit (suc (suc (suc (suc (suc v))))) h = absurd (omega arith)

pub count_is : (s : List ℕ) (e at v next : ℕ) (r : Option (ℕ × ℕ)) → r ≡ read_bits (bits_to s e) at 4 → r ≡ Some (v, next) → v < 5
    → Ok (v + 1, next) ≡ count_at (bits_to s e) at
count_is s e at v next r p q h =
    let l : List ℕ = bits_to s e in
    let k = number_is l at 4 v next (sym p ∙ q) in
    let w : Holds l at (whole_bits 0 1 0 ++ whole_bits 1 5 (v + 1)) = rw (four_bits v h) at
    (number_stands l at 4 v next (bits_to_is s e) (sym p ∙ q)) in
    let z = holds_split l at (whole_bits 0 1 0) (whole_bits 1 5 (v + 1)) w in
    let a : whole_number l at 0 1 ≡ Ok (0, at + 1) = whole_reads l at 0 1 0 (at + 1) (ranged 0 1 tt tt) (record { fits = refl; holds = z.0; place = ap (λ (n : ℕ). at + n) (sym one_bit) }) in
    let g : Holds l (at + 1) (whole_bits 1 5 (v + 1)) = rw one_bit at z.1 in
    let b : whole_number l (at + 1) 1 5 ≡ Ok (v + 1, next) = whole_reads l (at + 1) 1 5 (v + 1) next (ranged 1 5 tt tt) (record { fits = few_fit v h; holds = g; place = rw (three_bits (v + 1)) (omega (arith, k.place)) }) in
    rw (a, b)

-- ---- what follows the header

pub body_by_count : (d : Direction) (l : List ℕ) (h : Header) (at : ℕ)
    → body_at d l h at ≡ then (count_at l at) (λ (n q : ℕ). message_of h n (laid (row_at d l q n)))
unfolding body_at
body_by_count d l h at = refl

pub count_most : (l : List ℕ) (at n q : ℕ) (f : Reading ℕ) → f ≡ count_at l at → f ≡ Ok (n, q) → n ≤ 5
count_most l at n q f e h = then_is (whole_number l at 0 1) _ (n, q)
    (λ (c p : ℕ) (w : whole_number l at 0 1 ≡ Ok (c, p)) (z : _). known p (eqb c 0) z) (sym e ∙ h)
  where
    known : (p : ℕ) (t : Bool) → cond {A = Reading ℕ} t (whole_number l p 1 5) (refused_at at fault.NotCarried) ≡ Ok (n, q) → n ≤ 5
    known p true z = whole_most l p 1 5 n q (whole_number l p 1 5) refl z
    known p false z = never (cc)

-- the elements begin four bits behind the header
pub count_place : (l : List ℕ) (at n q : ℕ) (f : Reading ℕ) → Bits l → f ≡ count_at l at → f ≡ Ok (n, q) → q ≡ at + 4
count_place l at n q f b e h = then_is (whole_number l at 0 1) _ (n, q)
    (λ (c p : ℕ) (w : whole_number l at 0 1 ≡ Ok (c, p)) (z : _). known c p w (eqb c 0) refl z) (sym e ∙ h)
  where
    known : (c p : ℕ) → whole_number l at 0 1 ≡ Ok (c, p) → (t : Bool) → eqb c 0 ≡ t
        → cond {A = Reading ℕ} t (whole_number l p 1 5) (refused_at at fault.NotCarried) ≡ Ok (n, q) → q ≡ at + 4
    known c p w true k z =
        let a = (whole_stands l at 0 1 0 p b (rw (eqb-true c 0 k) at w)).place in
        let d = (whole_stands l p 1 5 n q b z).place in
        let o = one_bit in
        let u = three_bits n in
        omega arith
    known c p w false k z = never (cc)
