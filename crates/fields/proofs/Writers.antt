-- Laws of the writers' answers, as the code has them.
-- Assumes nothing.
use mathlib.Core.Path.{◌≡◌, refl, ap, sym, ◌∙◌}
use mathlib.Core.Bool.{Bool, true, false, ◌&&◌}
use mathlib.Core.List.{List, ◌++◌, append_assoc}
use Prim.Native.Nat.{ℕ, ◌+◌, ◌-◌, ◌*◌, ◌^◌, ◌≤◌, ◌<◌}
use native.Mathlib.Omega.{arith}
use borrow.Author.Tests.{le-leb, lt-leb, le-ltb, lt-ltb, leb-true}
use lib.Dec.{leb}
use lib.ListN.{length, length-append}
use lib.Pow.{pow-add}
use lib.Arith.{digits_lt}
use Rattle.bits.specs.Bits.{bits_n, bits_to, run}
use Rattle.bits.specs.Put.{Left, left, put_if, put_number, put_led}
use Rattle.bits.proofs.Numbers.{length_bits_n}
use Rattle.bits.proofs.Inside.{Within}
use Rattle.bits.proofs.Putting.{put_full, put_if_yes, put_if_no, put_then}
use Rattle.bits.proofs.Joining.{bits_n_join}
use Rattle.fields.specs.Fields.{width_of}
use Rattle.fields.specs.Encodings.{led_fits, whole_fits, whole_bits, index_bits, length_fits, length_bits}
use Rattle.fields.proofs.Answers.{past_all}
use Rattle.fields.proofs.Widths.{width_most, width_holds}
use Rattle.std.specs.Prelude.{None, Option}

-- a field that is a number in n bits
pub as_number : (s : List ℕ) (e at n v : ℕ) (ok : Bool) (bs : List ℕ) → n ≤ 64 → v < 2 ^ n → ok ≡ true → bs ≡ bits_n n v
    → put_number s e at n v ≡ put_if ok s e at bs
unfolding put_number
as_number s e at n v ok bs h g p q = rw (le-leb n 64 h, lt-ltb v (2 ^ n) g, p, q)

pub refused : (s : List ℕ) (e at : ℕ) (ok : Bool) (bs : List ℕ) → ok ≡ false → left None s ≡ put_if ok s e at bs
refused s e at ok bs p = sym (put_if_no ok s e at bs p)

-- the first run fits, but not both
pub no_room : (s : List ℕ) (e at : ℕ) (ok : Bool) (bs : List ℕ) → ok ≡ true
    → leb (at + length bs) (length (bits_to s e)) ≡ false → left None s ≡ put_if ok s e at bs
no_room s e at ok bs p h = sym (put_if_yes ok s e at bs p ∙ put_full s e at bs h)

-- so many bits are more than are left
past : (s : List ℕ) (e at m : ℕ) (bs : List ℕ) → length bs ≡ m → length (bits_to s e) < at + m
    → leb (at + length bs) (length (bits_to s e)) ≡ false
past s e at m bs p h = rw p (lt-leb (at + m) (length (bits_to s e)) h)

-- ---- whole numbers

pub below_low : (lo hi v : ℕ) → v < lo → whole_fits lo hi v ≡ false
below_low lo hi v h = rw (lt-leb lo v h)

pub above_high : (lo hi v : ℕ) → lo ≤ v → hi < v → whole_fits lo hi v ≡ false
above_high lo hi v h g = rw (le-leb lo v h, lt-leb v hi g)

pub in_range : (lo hi v : ℕ) → lo ≤ v → v ≤ hi → whole_fits lo hi v ≡ true
in_range lo hi v h g = rw (le-leb lo v h, le-leb v hi g)

pub whole_put : (s : List ℕ) (o : Left) (e at lo hi v w : ℕ) → hi < 2 ^ 64 → lo ≤ v → v ≤ hi → w ≡ width_of (hi - lo)
    → o ≡ put_number s e at w (v - lo) → o ≡ put_if (whole_fits lo hi v) s e at (whole_bits lo hi v)
unfolding whole_bits
whole_put s o e at lo hi v w b h g pw p =
    let k : hi - lo < 2 ^ width_of (hi - lo) = width_holds 64 (hi - lo) (omega arith) in
    p ∙ ap (λ (n : ℕ). put_number s e at n (v - lo)) pw
    ∙ as_number s e at (width_of (hi - lo)) (v - lo) (whole_fits lo hi v) _ (width_most 64 (hi - lo)) (omega arith)
    (in_range lo hi v h g) refl

pub length_whole : (lo hi v : ℕ) → length (whole_bits lo hi v) ≡ width_of (hi - lo)
unfolding whole_bits
length_whole lo hi v = length_bits_n (width_of (hi - lo)) (v - lo)

pub length_index : (last i : ℕ) → length (index_bits last i) ≡ 1 + width_of last
unfolding index_bits
length_index last i =
    let e : last - 0 ≡ last = omega arith in
    rw (length-append, length_bits_n, length_whole, e)

-- the extension bit, then the index
pub index_put : (s z : List ℕ) (o : Left) (r : Option ℕ) (e at last i w : ℕ) → i ≤ last → w ≡ width_of last
    → Within s e at (1 + w) → left r z ≡ put_if true s e at (bits_n 1 0)
    → o ≡ put_if (whole_fits 0 last i) z e (at + 1) (whole_bits 0 last i)
    → o ≡ put_if (whole_fits 0 last i) s e at (index_bits last i)
unfolding index_bits
index_put s z o r e at last i w h pw wi p q =
    let f = in_range 0 last i (omega arith) h in
    let n : length (bits_n 1 0 ++ whole_bits 0 last i) ≡ 1 + w = rw pw (length_index last i) in
    let k : at + (1 + w) ≤ length (bits_to s e) = leb-true _ _ wi.test in
    let one : length (bits_n 1 0) ≡ 1 = length_bits_n 1 0 in
    let t = put_then s z e at (bits_n 1 0) (whole_bits 0 last i) r (rw n k) (p ∙ put_if_yes true s e at (bits_n 1 0) refl) in
    q ∙ put_if_yes _ z e (at + 1) (whole_bits 0 last i) f ∙ (rw one at t) ∙ sym (put_if_yes _ s e at _ f)

-- ---- lengths

pub length_short : (n : ℕ) → n < 128 → length_bits n ≡ bits_n 8 n
unfolding length_bits
length_short n h = rw (lt-ltb n 128 h)

pub length_long : (n : ℕ) → 128 ≤ n → length_bits n ≡ bits_n 16 (32768 + n)
unfolding length_bits
length_long n h = rw (le-ltb n 128 h)

pub short_put : (s : List ℕ) (o : Left) (e at n : ℕ) → n < 128 → o ≡ put_number s e at 8 n → o ≡ put_if (length_fits n) s e at (length_bits n)
short_put s o e at n h p = p ∙ as_number s e at 8 n (length_fits n) (length_bits n) (omega arith) (omega arith)
    (lt-ltb n 16384 (omega arith)) (length_short n h)

pub long_put : (s : List ℕ) (o : Left) (e at n : ℕ) → 128 ≤ n → n < 16384 → o ≡ put_number s e at 16 (32768 + n)
    → o ≡ put_if (length_fits n) s e at (length_bits n)
long_put s o e at n h g p = p ∙ as_number s e at 16 (32768 + n) (length_fits n) (length_bits n) (omega arith)
    (omega arith) (lt-ltb n 16384 g) (length_long n h)

pub width_short : (n : ℕ) → n < 128 → 8 ≡ length (length_bits n)
width_short n h = rw (length_short n h) (sym (length_bits_n 8 n))

pub width_long : (n : ℕ) → 128 ≤ n → 16 ≡ length (length_bits n)
width_long n h = rw (length_long n h) (sym (length_bits_n 16 (32768 + n)))

-- ---- strings: n items of count bits, which stand at a place of src, behind a number of a few bits

module _ (lead led unit : ℕ) (t : Bool) where
  pub wide_lead : 8 < lead → led_fits lead led unit && t ≡ false
  wide_lead h = rw (lt-leb lead 8 h)

  pub large_lead : (p : ℕ) → lead ≤ 8 → p ≡ 2 ^ lead → p ≤ led → led_fits lead led unit && t ≡ false
  large_lead p h e g = rw (le-leb lead 8 h, le-ltb led (2 ^ lead) (omega arith))

  module _ (h : lead ≤ 8) (g : led < 2 ^ lead) where
    pub large_items : 64 < unit → led_fits lead led unit && t ≡ false
    large_items k = rw (le-leb lead 8 h, lt-ltb led (2 ^ lead) g, lt-leb unit 64 k)

pub too_long : (n : ℕ) (t : Bool) → 16384 ≤ n → length_fits n && t ≡ false
too_long n t h = rw (le-ltb n 16384 h)

led_fits_is : (lead led unit : ℕ) → lead ≤ 8 → led < 2 ^ lead → unit ≤ 64 → led_fits lead led unit ≡ true
led_fits_is lead led unit h g k = rw (le-leb lead 8 h, lt-ltb led (2 ^ lead) g, le-leb unit 64 k)

pub led_too_long : (lead led unit n : ℕ) (t : Bool) → lead ≤ 8 → led < 2 ^ lead → unit ≤ 64 → 16384 ≤ n
    → led_fits lead led unit && (length_fits n && t) ≡ false
led_too_long lead led unit n t h g k l = rw (led_fits_is lead led unit h g k) (too_long n t l)

-- a number and w bits of a length, as one
module _ (s src : List ℕ) (o : Left) (e at lead led f from c : ℕ) (h : lead ≤ 8) (g : led < 2 ^ lead) where
  pub led_put : (w x n : ℕ) → w ≤ 16 → x < 2 ^ w → length_bits n ≡ bits_n w x → o ≡ put_led s e at (lead + w) (led * 2 ^ w + x) src f from c
      → o ≡ put_if (leb (from + c) (length (bits_to src f))) s e at (bits_n lead led ++ (length_bits n ++ run src from c))
  unfolding put_led
  led_put w x n few small b p =
      let d : led * 2 ^ w + x < 2 ^ (lead + w) = rw (pow-add 2 lead w) (digits_lt g small) in
      p ∙ rw (
        le-leb (lead + w) 56 (omega arith),
        lt-ltb (led * 2 ^ w + x) (2 ^ (lead + w)) d,
        bits_n_join lead w led x
            small,
        append_assoc,
        b,
      )

-- a string of any size, with no number before its length
pub string_put : (s src : List ℕ) (o : Left) (e at n f from c : ℕ) → n < 16384
    → o ≡ put_if (leb (from + c) (length (bits_to src f))) s e at (bits_n 0 0 ++ (length_bits n ++ run src from c))
    → o ≡ put_if (length_fits n && leb (from + c) (length (bits_to src f))) s e at (length_bits n ++ run src from c)
unfolding bits_n
string_put s src o e at n f from c small k = k ∙ rw (lt-ltb n 16384 small)

and_no : (b : Bool) → b && false ≡ false
and_no true = refl
and_no false = refl

pub not_there : (s src : List ℕ) (e at n f from c : ℕ) (bs : List ℕ) → f < c
    → left None s ≡ put_if (length_fits n && leb (from + c) (length (bits_to src f))) s e at bs
not_there s src e at n f from c bs h = refused s e at _ _ (rw (past_all src f from c h) (and_no (length_fits n)))
