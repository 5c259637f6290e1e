-- Laws of the readers' answers: a refusal is handed up unchanged; and what a value says of the places beside it.
-- Assumes nothing.
use mathlib.Core.Path.{◌≡◌, ap, sym, ◌∙◌}
use mathlib.Core.Bool.{Bool, true, false}
use mathlib.Core.List.{List}
use Prim.Native.Nat.{ℕ, ◌*◌, ◌^◌, ◌≤◌}
use native.Mathlib.Omega.{arith}
use borrow.Author.Tests.{leb-true, ltb-true}
use lib.Dec.{leb, ltb}
use lib.Pow.{pow_mono}
use Rattle.words.proofs.Laws.{both_left, both_right, ok_value, ok_place}
use Rattle.bits.proofs.Numbers.{Bits, length_bits_n}
use Rattle.fields.specs.Fields.{Reading, then, bit_field, width_of, length_within, run_at, string_at}
use Rattle.fields.specs.declared.Refusal.{Refusal}
use Rattle.fields.proofs.Answers.{run_is}
use Rattle.fields.proofs.RoundTrip.{bit_field_is}
use Rattle.fields.proofs.Widths.{width_within}
use Rattle.apdu.specs.Reading.{optional_at}
use Rattle.apdu.specs.declared.Kind.{Kind}
use Rattle.apdu.specs.declared.Data.{Data}
use Rattle.std.specs.Prelude.{Err, Ok, Result}

-- ---- a refusal below is handed up unchanged, and nothing further is read

pub data_handed : {B : Type 0} (t : Reading Data) (r : Refusal) (k : Data → ℕ → Result B Refusal) → t ≡ Err r → then t k ≡ Err r
data_handed t r k e = rw e

pub lead_handed : {B : Type 0} (t : Reading (Kind × ℕ)) (r : Refusal) (k : Kind × ℕ → ℕ → Result B Refusal) → t ≡ Err r → then t k ≡ Err r
lead_handed t r k e = rw e

-- ---- contents end at or after their count of bits

pub string_room : (l : List ℕ) (at unit least most n next : ℕ) → string_at l at unit least most ≡ Ok (n, next) → unit * n ≤ next
unfolding string_at
string_room l at unit least most n next e = go (length_within l at least most) e
  where
    go : (f : Reading ℕ) → then f (λ (m from : ℕ). run_at l from (unit * m) m) ≡ Ok (n, next) → unit * n ≤ next
    go (Ok (m, from)) e =
        let i = run_is l from (unit * m) m n next e in
        let j : m ≡ n = sym i.value in
        let k : unit * m ≡ unit * n = ap (λ (x : ℕ). unit * x) j in
        omega (arith, i.place)
    go (Err r) e = let z : ◌≡◌ {A = ℕ} 0 1 = cc in absurd (omega arith)

pub optional_room : (l : List ℕ) (there : Bool) (at unit least most n next : ℕ)
    → optional_at l there at unit least most ≡ Ok (n, next) → unit * n ≤ next
unfolding optional_at
optional_room l true at unit least most n next e = string_room l at unit least most n next e
optional_room l false at unit least most n next e =
    let k : unit * n ≡ unit * 0 = ap (λ (x : ℕ). unit * x) (sym (ok_value e)) in
    omega arith

-- the digits of a number that was read lie in its bits
pub digits_room : (l : List ℕ) (at n v next : ℕ) (f : Reading ℕ) → Bits l → f ≡ bit_field l at n → f ≡ Ok (v, next) → width_of v ≤ next
digits_room l at n v next f b p q =
    let e = (bit_field_is n).read_fits l at v next b (sym p ∙ q) in
    let m = leb-true n 64 (both_left (leb n 64) (ltb v (2 ^ n)) e) in
    let h = ltb-true v (2 ^ n) (both_right (leb n 64) (ltb v (2 ^ n)) e) in
    let k : 2 ^ n ≤ 2 ^ 64 = pow_mono {i = n} {j = 64} m in
    let s = ((bit_field_is n).read_written l at v next b (sym p ∙ q)).place in
    omega (arith, width_within 64 v n (omega arith) h, length_bits_n n v)
