-- A header read as two numbers: the presence bits and the identification number in 8 bits, and what follows them. Where the header that
-- they say is of its type, it is the one that reading field by field finds.
-- Assumes nothing.
use mathlib.Core.Path.{◌≡◌, refl, sym, ap, ◌∙◌}
use mathlib.Core.Bool.{Bool, true, false}
use mathlib.Core.List.{List, ◌++◌}
use Prim.Native.Nat.{ℕ, zero, suc, ◌+◌, ◌-◌, ◌*◌, ◌/◌, ◌%◌, ◌^◌, ◌≤◌, ◌<◌}
use native.Mathlib.Omega.{arith}
use native.Mathlib.Nat.{div-add-mod', mod-eq_of_lt}
use lib.ListN.{length}
use lib.Dec.{eqb, leb}
use lib.Pow.{high, pow_mono}
use borrow.Author.Tests.{eqb-true}
use Rattle.bits.specs.Bits.{bits_n, bits_to, num_of}
use Rattle.bits.specs.Read.{read_bits}
use Rattle.bits.proofs.Numbers.{Bits, bits_n_high, bits_n_num, bits_n_split, length_bits_n}
use Rattle.bits.proofs.Bytes.{Holds, holds_join, bits_to_is}
use Rattle.bits.proofs.Reading.{number_is, number_lt, number_stands}
use Rattle.elements.specs.Arguments.{flag}
use Rattle.inner.specs.declared.values.DateTime.{DateTime}
use Rattle.inner.specs.declared.values.Header.{Header}
use Rattle.inner.specs.Headers.{presence, date_time_bits, reference_fits, header_fits, header_bits, header_at}
use Rattle.elements.proofs.Standing.{Stands}
use Rattle.inner.proofs.AreBits.{header_are_bits}
use Rattle.inner.proofs.HeaderLaws.{both_present, header_reads}
use Rattle.inner.proofs.HeaderNumber.{date_said, dated_fits, reference_fits_is, front_with, front_without, header_plain, header_acknowledged}
use Rattle.inner.proofs.HeaderWritten.{length_header}
use Rattle.std.specs.Prelude.{Ok, Option, Some}

-- ---- as `header_from` has it

-- each number and the rest are the number before
numbers_back : (w minute hour day month year r a b c d e f : ℕ) → w ≡ minute * 64 + a → minute ≡ hour * 64 + b
    → hour ≡ day * 32 + c → day ≡ month * 32 + d → month ≡ year * 16 + e → year ≡ r * 128 + f → w < 549755813888
    → (r < 64) × (r * 8589934592 + (((((f * 16 + e) * 32 + d) * 32 + c) * 64 + b) * 64 + a) ≡ w)
numbers_back w minute hour day month year r a b c d e f p q s t u v h = (omega arith, omega arith)

divided : (n k : ℕ) → n ≡ n / k * k + n % k
divided n k = sym (div-add-mod' n k)

pub numbers_say : (w : ℕ) → w < 549755813888
    → w / 64 / 64 / 32 / 32 / 16 / 128 % 64 * 8589934592 + (((((((1996 + w / 64 / 64 / 32 / 32 / 16 % 128) - 1996) * 16 + ((1 + w / 64 / 64 / 32 / 32 % 16) - 1)) * 32 + ((1 + w / 64 / 64 / 32 % 32) - 1)) * 32 + w / 64 / 64 % 32) * 64 + w / 64 % 64) * 64 + w % 64) ≡ w
numbers_say w h =
    let z = numbers_back w (w / 64) (w / 64 / 64) (w / 64 / 64 / 32) (w / 64 / 64 / 32 / 32)
    (w / 64 / 64 / 32 / 32 / 16) (w / 64 / 64 / 32 / 32 / 16 / 128) (w % 64) (w / 64 % 64) (w / 64 / 64 % 32)
    (w / 64 / 64 / 32 % 32) (w / 64 / 64 / 32 / 32 % 16) (w / 64 / 64 / 32 / 32 / 16 % 128) (divided w 64)
    (divided (w / 64) 64) (divided (w / 64 / 64) 32) (divided (w / 64 / 64 / 32) 32)
    (divided (w / 64 / 64 / 32 / 32) 16) (divided (w / 64 / 64 / 32 / 32 / 16) 128) h in
    rw (
      mod-eq_of_lt z.0,
      less 1996 (w / 64 / 64 / 32 / 32 / 16 % 128),
      less 1 (w / 64 / 64 / 32 / 32 % 16),
      less 1
          (w / 64 / 64 / 32 % 32),
    ) z.1
  where
    less : (k n : ℕ) → k + n - k ≡ n
    less k n = omega arith

-- ---- the number that the bits of a header say

abbrev date_number : DateTime → ℕ
date_number x =
    (((((x.year - 1996) * 16 + (x.month - 1)) * 32 + (x.day - 1)) * 32 + x.time.hours) * 64 + x.time.minutes) *
    64 + x.seconds

-- what is read, of a header x whose bits are `front` and then those of w, with a bit 0 behind them for an acknowledgement
module _ (x : Header) (fits : header_fits x ≡ true) (front w d : ℕ) (hd : d ≡ num_of (date_time_bits x.dated)) (lead : front ≡ presence x.referenced x.acknowledged * 64 + x.identification) (rest : x.reference * 8589934592 + d ≡ w) where
  none : x.referenced ≡ false → x.reference ≡ 0
  unfolding reference_fits
  none r = eqb-true x.reference 0 (rw r at (reference_fits_is x fits))

  said : (r a : Bool) → x.referenced ≡ r → x.acknowledged ≡ a
      → (num_of (header_bits x) ≡ front * 2 ^ (33 + 6 * flag r + flag a) + w * 2 ^ flag a) × (length (header_bits x) ≡ 8 + (33 + 6 * flag r + flag a))
  said true false p q =
      let v = front_with x fits _ _ refl refl p in
      let n = header_plain x fits _ d v hd q in
      let l = length_header x in
      let i : flag x.referenced ≡ 1 = rw p in
      let j : flag x.acknowledged ≡ 0 = rw q in
      (omega (arith, n, i, j, lead, rest), omega (arith, l, i, j))
  said true true p q =
      let v = front_with x fits _ _ refl refl p in
      let n = header_acknowledged x fits _ d v hd q in
      let l = length_header x in
      let i : flag x.referenced ≡ 1 = rw p in
      let j : flag x.acknowledged ≡ 1 = rw q in
      (omega (arith, n, i, j, lead, rest), omega (arith, l, i, j))
  said false false p q =
      let v = front_without x fits _ _ refl refl p in
      let n = header_plain x fits _ d v hd q in
      let l = length_header x in
      let i : flag x.referenced ≡ 0 = rw p in
      let j : flag x.acknowledged ≡ 0 = rw q in
      (omega (arith, n, i, j, lead, rest, none p), omega (arith, l, i, j))
  said false true p q =
      let v = front_without x fits _ _ refl refl p in
      let n = header_acknowledged x fits _ d v hd q in
      let l = length_header x in
      let i : flag x.referenced ≡ 0 = rw p in
      let j : flag x.acknowledged ≡ 1 = rw q in
      (omega (arith, n, i, j, lead, rest, none p), omega (arith, l, i, j))

-- bits by their number
two_numbers : (bs : List ℕ) (n front v : ℕ) → Bits bs → length bs ≡ 8 + n → num_of bs ≡ front * 2 ^ n + v → v < 2 ^ n
    → bs ≡ bits_n 8 front ++ bits_n n v
two_numbers bs n front v b e h s = sym (bits_n_num bs b) ∙ rw
    (e, h, bits_n_split 8 n (front * 2 ^ n + v), high front n s, bits_n_high n front v)

-- ---- as `read_header` has it

flags : (b : ℕ) → b ≤ 3 → (flag (leb 2 b) ≡ b / 2) × (flag (eqb (b % 2) 1) ≡ b % 2)
flags zero h = (refl, refl)
flags (suc zero) h = (refl, refl)
flags (suc (suc zero)) h = (refl, refl)
flags (suc (suc (suc zero))) h = (refl, refl)
flags (suc (suc (suc (suc b)))) h = absurd (omega arith)

module _ (l : List ℕ) (at p next n front v : ℕ) (bits : Bits l) (first : read_bits l at 8 ≡ Some (front, p)) (second : read_bits l p n ≡ Some (v, next)) (width : n ≡ 33 + 6 * (front / 64 / 2) + front / 64 % 2) where
  front_small : front < 256
  front_small = number_lt l at 8 front p bits first

  rest_small : v < 2 ^ n
  rest_small = number_lt l p n v next bits second

  module _ (x : Header) (fits : header_fits x ≡ true) (w : ℕ) (r : x.referenced ≡ leb 2 (front / 64)) (a : x.acknowledged ≡ eqb (front / 64 % 2) 1) (i : x.identification ≡ front % 64) (rest : x.reference * 8589934592 + date_number x.dated ≡ w) (same : v ≡ w * 2 ^ flag x.acknowledged) where
    header_is : Ok (x, next) ≡ header_at l at
    header_is =
        let s = front_small in
        let b = both_present (front / 64) (omega arith) in
        let f = flags (front / 64) (omega arith) in
        let lead : front ≡ presence x.referenced x.acknowledged * 64 + x.identification = rw (r, a, i, b) (omega arith) in
        let o = said x fits front w (date_number x.dated) (date_said x.dated (dated_fits x fits)) lead rest
        x.referenced x.acknowledged refl refl in
        let m : 33 + 6 * flag x.referenced + flag x.acknowledged ≡ n = rw (r, a, f.0, f.1) (sym width) in
        let t = two_numbers (header_bits x) n front v (header_are_bits x) (rw m at o.1) (rw (m, ← same) at o.0) rest_small in
        let u = number_is l at 8 front p first in
        let y = number_is l p n v next second in
        let g : Holds l (at + length (bits_n 8 front)) (bits_n n v) = rw (length_bits_n 8 front, ← u.place)
        (number_stands l p n v next bits second) in
        let k : Holds l at (bits_n 8 front ++ bits_n n v) = holds_join l at (bits_n 8 front) (bits_n n v)
        (number_stands l at 8 front p bits first) g in
        let z : next ≡ at + length (header_bits x) = rw (o.1, m) (omega (arith, u.place, y.place)) in
        sym (header_reads l at next x (record { fits = fits; holds = rw t k; place = z }))

-- the two ways that find a header
module _ (s : List ℕ) (e at p next n front v : ℕ) (f g : Option (ℕ × ℕ)) (hf : f ≡ read_bits (bits_to s e) at 8) (gf : f ≡ Some (front, p)) (hg : g ≡ read_bits (bits_to s e) p n) (gg : g ≡ Some (v, next)) (width : n ≡ 33 + 6 * (front / 64 / 2) + front / 64 % 2) where
  small : (front < 256) × (v < 2 ^ n)
  small = (number_lt (bits_to s e) at 8 front p (bits_to_is s e) (sym hf ∙ gf), number_lt (bits_to s e) p n v next (bits_to_is s e) (sym hg ∙ gg))

  pub room_acknowledged : front / 64 % 2 ≡ 1 → (front < 256) × (v / 2 < 549755813888)
  room_acknowledged t =
      let b = small in
      let m : 2 ^ n ≤ 1099511627776 = pow_mono {i = n} {j = 40} (omega (arith, b.0, width)) in
      (b.0, omega (arith, b.1, m))

  pub room_plain : (front / 64 % 2 ≡ 1 → ⊥) → (front < 256) × (v < 549755813888)
  room_plain t =
      let b = small in
      let z : front / 64 % 2 ≡ 0 = omega arith in
      let m : 2 ^ n ≤ 549755813888 = pow_mono {i = n} {j = 39} (omega (arith, b.0, width)) in
      (b.0, omega (arith, b.1, m))

  module _ (x : Header) (w : ℕ) (parts : (x.referenced ≡ leb 2 (front / 64)) × (x.acknowledged ≡ eqb (front / 64 % 2) 1) × (x.identification ≡ front % 64) × (x.reference * 8589934592 + date_number x.dated ≡ w)) (b : Bool) (hb : b ≡ header_fits x) (tb : b ≡ true) where
    found : v ≡ w * 2 ^ flag x.acknowledged → Ok (x, next) ≡ header_at (bits_to s e) at
    found same = header_is (bits_to s e) at p next n front v (bits_to_is s e) (sym hf ∙ gf) (sym hg ∙ gg) width x
        (sym hb ∙ tb) w parts.0 parts.1 parts.2 parts.3 same

    pub found_acknowledged : front / 64 % 2 ≡ 1 → (v % 2 ≡ 1 → ⊥) → w ≡ v / 2 → Ok (x, next) ≡ header_at (bits_to s e) at
    found_acknowledged t o q =
        let k : flag x.acknowledged ≡ 1 = rw (parts.1, t) in
        found (rw k (omega arith))

    pub found_plain : (front / 64 % 2 ≡ 1 → ⊥) → w ≡ v → Ok (x, next) ≡ header_at (bits_to s e) at
    found_plain t q =
        let z : front / 64 % 2 ≡ 0 = omega arith in
        let k : flag x.acknowledged ≡ 0 = rw (parts.1, z) in
        found (rw k (omega arith))
