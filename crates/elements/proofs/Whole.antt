-- A whole number of a range: read back where it stands, and standing where it was read.
-- Assumes nothing.
use mathlib.Core.Path.{◌≡◌, sym, ◌∙◌}
use mathlib.Core.Bool.{true}
use mathlib.Core.List.{List}
use Prim.Native.Nat.{ℕ, zero, suc, ◌+◌, ◌-◌, ◌<◌, ◌≤◌, ◌^◌}
use native.Mathlib.Omega.{arith}
use lib.ListN.{length}
use lib.Dec.{T, leb, ltb, ltb→lt}
use borrow.Author.Tests.{leb-true, le-leb}
use Rattle.words.proofs.Laws.{both_left, both_right, ok_place, ok_value}
use Rattle.bits.specs.Bits.{bits_n}
use Rattle.bits.proofs.Numbers.{Bits, length_bits_n}
use Rattle.fields.specs.Fields.{refusal, bit_field, width_of, whole_number}
use Rattle.fields.specs.Encodings.{whole_bits, whole_fits}
use Rattle.fields.specs.declared.Fault.TheVariants.{Range}
use Rattle.fields.proofs.Widths.{width_holds}
use Rattle.fields.proofs.RoundTrip.{via, if_value, bit_field_is, whole_number_is}
use Rattle.elements.proofs.Standing.{Stands, both_hold, of_field, field_reads}
use Rattle.std.specs.Prelude.{Ok}
use Rattle.fields.specs.Fields.{Reading}

-- a range that has more than one number, all of 64 bits
pub record Ranged (lo hi : ℕ) : Type 0 where
  pub rising : lo < hi
  pub small : hi < 2 ^ 64

pub ranged : (lo hi : ℕ) → T (ltb lo hi) → T (ltb hi (2 ^ 64)) → Ranged lo hi
ranged lo hi a b = record { rising = ltb→lt lo hi a; small = ltb→lt hi (2 ^ 64) b }

pub whole_above : (lo hi v : ℕ) → whole_fits lo hi v ≡ true → lo ≤ v
whole_above lo hi v e = leb-true lo v (both_left (leb lo v) (leb v hi) e)

pub whole_below : (lo hi v : ℕ) → whole_fits lo hi v ≡ true → v ≤ hi
whole_below lo hi v e = leb-true v hi (both_right (leb lo v) (leb v hi) e)

-- the number stands in n bits, which hold every number up to d
wide : (n d : ℕ) → 0 < d → d < 2 ^ n → 0 < n
wide zero d p h = absurd (omega arith)
wide (suc n) d p h = omega arith

pub length_whole : (lo hi v : ℕ) → length (whole_bits lo hi v) ≡ width_of (hi - lo)
unfolding whole_bits
length_whole lo hi v = length_bits_n (width_of (hi - lo)) (v - lo)

pub whole_reads : (l : List ℕ) (at lo hi v next : ℕ) → Ranged lo hi
    → Stands l at (whole_fits lo hi v) (whole_bits lo hi v) next → whole_number l at lo hi ≡ Ok (v, next)
whole_reads l at lo hi v next r s =
    let h = r.rising in
    let k = r.small in
    let p = wide (width_of (hi - lo)) (hi - lo) (omega arith) (width_holds 64 (hi - lo) (omega arith)) in
    field_reads (whole_number_is lo hi k) l at v next (rw (length_whole lo hi v) p) s

-- the distance that was read, for a range of any size
whole_back : (R : Type 0) (l : List ℕ) (at lo hi v next : ℕ)
    → ((d : ℕ) → lo + d ≡ v → v ≤ hi → bit_field l at (width_of (hi - lo)) ≡ Ok (d, next) → R)
    → whole_number l at lo hi ≡ Ok (v, next) → R
unfolding whole_number
whole_back R l at lo hi v next c e =
    via R (bit_field l at (width_of (hi - lo))) _ v next (λ (d m : ℕ) (p : bit_field l at (width_of (hi - lo)) ≡ Ok (d, m)).
    if_value R (leb (lo + d) hi) (Ok (lo + d, m)) (refusal at Range) v next (λ (t : leb (lo + d) hi ≡ true) (q : Ok (lo + d, m) ≡ Ok (v, next)).
    let a : lo + d ≡ v = ok_value q in
    let b : m ≡ next = ok_place q in
    c d a (rw a at (leb-true (lo + d) hi t)) (rw b at p))) e

pub whole_stands : (l : List ℕ) (at lo hi v next : ℕ) → Bits l → whole_number l at lo hi ≡ Ok (v, next)
    → Stands l at (whole_fits lo hi v) (whole_bits lo hi v) next
unfolding whole_bits
whole_stands l at lo hi v next b e =
    whole_back (Stands l at (whole_fits lo hi v) (bits_n (width_of (hi - lo)) (v - lo)) next) l at lo hi v next
    (λ (d : ℕ) (p : lo + d ≡ v) (h : v ≤ hi) (q : bit_field l at (width_of (hi - lo)) ≡ Ok (d, next)).
    let k : v - lo ≡ d = omega arith in
    rw k (of_field l at next _ _ (both_hold (leb lo v) (leb v hi) (le-leb lo v (omega arith)) (le-leb v hi h))
    ((bit_field_is (width_of (hi - lo))).read_written l at d next b q))) e

-- a number that was read is at most the highest
pub whole_most : (l : List ℕ) (at lo hi v next : ℕ) (f : Reading ℕ) → f ≡ whole_number l at lo hi → f ≡ Ok (v, next) → v ≤ hi
whole_most l at lo hi v next f p q = whole_back (v ≤ hi) l at lo hi v next (λ (d : ℕ) (a : lo + d ≡ v) (h : v ≤ hi) (b : _). h) (sym p ∙ q)

-- the same number, of a range that was looked up
pub whole_as : (l : List ℕ) (at lo hi lo' hi' : ℕ) (f : Reading ℕ) → f ≡ whole_number l at lo hi → lo ≡ lo' → hi ≡ hi'
    → f ≡ whole_number l at lo' hi'
whole_as l at lo hi lo' hi' f e p q = rw (← p, ← q) e
