-- Fields that stand together, as one number: an extension bit with its index.
-- Assumes nothing.
use mathlib.Core.Path.{◌≡◌, refl, sym, ◌∙◌}
use mathlib.Core.Bool.{Bool, true, false, cond, ◌&&◌}
use mathlib.Core.List.{List}
use Prim.Native.Nat.{ℕ, zero, suc, ◌+◌, ◌-◌, ◌*◌, ◌/◌, ◌^◌, ◌≤◌, ◌<◌}
use native.Mathlib.Omega.{arith}
use native.Mathlib.Nat.{suc-mul, div-eq_of_lt}
use lib.Pow.{pow-lt}
use borrow.Author.Tests.{le-leb, leb-true}
use lib.Dec.{leb}
use lib.ListN.{length, take, drop}
use lib.Seq.{take-add, drop-drop}
use Rattle.words.proofs.Laws.{both_left, both_right, some_value, some_place}
use Rattle.bits.specs.Bits.{bits_n, num_of}
use Rattle.bits.specs.Read.{read_bits}
use Rattle.bits.specs.Put.{Left, put_if, put_number}
use Rattle.bits.proofs.Numbers.{num_append, bits_n_split}
use Rattle.bits.proofs.Bytes.{length_part}
use Rattle.fields.specs.Fields.{bit_field, extension_bit, extensible_index, width_of, whole_number}
use Rattle.fields.specs.Encodings.{index_bits, whole_bits, whole_fits}
use Rattle.fields.proofs.Widths.{width_holds}
use Rattle.fields.proofs.Writers.{as_number, in_range}
use Rattle.std.specs.Prelude.{None, Ok, Option, Some}

-- ---- a number read is that of the bits

chosen : (b : Bool) (x n v next : ℕ) → cond {A = Option (ℕ × ℕ)} b (Some (x, n)) None ≡ Some (v, next) → (b ≡ true) × (v ≡ x) × (next ≡ n)
chosen true x n v next e = (refl, sym (some_value e), sym (some_place e))
chosen false x n v next e = let z : false ≡ true = cc in (z, cc, cc)

record Said (l : List ℕ) (at n v next : ℕ) : Type 0 where
  most : n ≤ 64
  there : at + n ≤ length l
  value : v ≡ num_of (take n (drop at l))
  place : next ≡ at + n

said : (l : List ℕ) (at n v next : ℕ) → read_bits l at n ≡ Some (v, next) → Said l at n v next
unfolding read_bits
said l at n v next e =
    let c = chosen (leb n 64 && leb (at + n) (length l)) (num_of (take n (drop at l))) (at + n) v next e in
    record {
      most = leb-true n 64 (both_left (leb n 64) (leb (at + n) (length l)) c.0);
      there = leb-true (at + n) (length l) (both_right (leb n 64) (leb (at + n) (length l)) c.0);
      value = c.1;
      place = c.2;
    }

reads : (l : List ℕ) (at n : ℕ) → n ≤ 64 → at + n ≤ length l → Some (num_of (take n (drop at l)), at + n) ≡ read_bits l at n
unfolding read_bits
reads l at n h g = rw (le-leb n 64 h, le-leb (at + n) (length l) g)

-- ---- a number below 2 ^ n has nothing above its n low bits

none_above : (b p w v : ℕ) → v ≡ b * p + w → v < p → (b ≡ 0) × (w ≡ v)
none_above zero p w v e h = (refl, omega (arith, e))
none_above (suc b) p w v e h = let s : suc b * p ≡ b * p + p = suc-mul b p in absurd (omega (arith, s, e, h))

in_two : (l : List ℕ) (at n : ℕ) → at + (1 + n) ≤ length l
    → num_of (take (1 + n) (drop at l)) ≡ num_of (take 1 (drop at l)) * 2 ^ n + num_of (take n (drop (at + 1) l))
in_two l at n h =
    let k : length (take n (drop (at + 1) l)) ≡ n = length_part l (at + 1) n (omega arith) in
    rw (take-add 1 n (drop at l), drop-drop, num_append, k)

field_value : (l : List ℕ) (at n v next : ℕ) → Some (v, next) ≡ read_bits l at n → bit_field l at n ≡ Ok (v, next)
unfolding bit_field
field_value l at n v next p = rw (← p)

clear_bit : (l : List ℕ) (at next : ℕ) → bit_field l at 1 ≡ Ok (0, next) → extension_bit l at ≡ Ok (0, next)
unfolding extension_bit
clear_bit l at next p = rw p

low_number : (l : List ℕ) (at last w v next : ℕ) → w ≡ width_of last → v ≤ last → bit_field l at w ≡ Ok (v, next)
    → whole_number l at 0 last ≡ Ok (v, next)
unfolding whole_number
low_number l at last w v next pw h p =
    let d : last - 0 ≡ last = omega arith in
    let z : 0 + v ≡ v = omega arith in
    rw (d, ← pw, p, z, le-leb v last h)

-- the index that is read with its extension bit
pub index_read : (l : List ℕ) (at last w v next : ℕ) (r : Option (ℕ × ℕ)) → last < 2 ^ 64 → w ≡ width_of last
    → r ≡ read_bits l at (1 + w) → r ≡ Some (v, next) → v ≤ last → Ok (v, next) ≡ extensible_index l at last
unfolding extensible_index
index_read l at last w v next r small pw p q h =
    let s = said l at (1 + w) v next (sym p ∙ q) in
    let low : last < 2 ^ w = rw pw (width_holds 64 last small) in
    let z = none_above (num_of (take 1 (drop at l))) (2 ^ w) (num_of (take w (drop (at + 1) l))) v
    (s.value ∙ in_two l at w s.there) (omega (arith, low, h)) in
    let n : next ≡ at + 1 + w = s.place ∙ omega arith in
    let bit : bit_field l at 1 ≡ Ok (0, at + 1) = rw z.0 at
    (field_value l at 1 (num_of (take 1 (drop at l))) (at + 1) (reads l at 1 (omega arith) (omega (arith, s.there)))) in
    let index : bit_field l (at + 1) w ≡ Ok (v, at + 1 + w) = rw z.1 at
    (field_value l (at + 1) w (num_of (take w (drop (at + 1) l))) (at + 1 + w) (reads l (at + 1) w (omega (arith, s.most)) (omega (arith, s.there)))) in
    let clear : extension_bit l at ≡ Ok (0, at + 1) = clear_bit l at (at + 1) bit in
    let found : whole_number l (at + 1) 0 last ≡ Ok (v, at + 1 + w) = low_number l (at + 1) last w v (at + 1 + w) pw h index in
    rw (clear, found, n)

-- ---- the index written with its extension bit

index_bits_is : (last i w : ℕ) → w ≡ width_of last → i < 2 ^ w → index_bits last i ≡ bits_n (1 + w) i
unfolding index_bits whole_bits
index_bits_is last i w pw h =
    let d : last - 0 ≡ last = omega arith in
    let e : i - 0 ≡ i = omega arith in
    let z : i / 2 ^ w ≡ 0 = div-eq_of_lt h in
    rw (d, e, ← pw) (sym (rw (bits_n_split 1 w i, z)))

pub index_put_once : (s : List ℕ) (o : Left) (e at last i w : ℕ) → last < 2 ^ 64 → w ≡ width_of last → w < 64 → i ≤ last
    → o ≡ put_number s e at (1 + w) i → o ≡ put_if (whole_fits 0 last i) s e at (index_bits last i)
index_put_once s o e at last i w small pw few h p =
    let low : last < 2 ^ w = rw pw (width_holds 64 last small) in
    let high : i < 2 ^ (1 + w) = omega (arith, low, h, pow-lt {i = w} {j = 1 + w} (omega arith)) in
    p ∙ as_number s e at (1 + w) i (whole_fits 0 last i) (index_bits last i) (omega arith) high
    (in_range 0 last i (omega arith) h) (index_bits_is last i w pw (omega (arith, low, h)))
