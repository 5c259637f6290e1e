-- Laws of a number and a run of bits behind it, and of the padding.
-- Assumes nothing.
use mathlib.Core.Path.{◌≡◌, ap, sym, ◌∙◌}
use mathlib.Core.Bool.{Bool, true, false, ◌&&◌}
use mathlib.Core.List.{List, ◌++◌, append_assoc}
use Prim.Native.Nat.{ℕ, ◌+◌, ◌-◌, ◌*◌, ◌/◌, ◌^◌, ◌≤◌, ◌<◌}
use native.Mathlib.Omega.{arith}
use native.Mathlib.Nat.{mul-add-div_right, div-eq_of_lt}
use borrow.Author.Tests.{le-leb, lt-leb}
use lib.Dec.{leb, ltb}
use lib.ListN.{length, length-append}
use lib.Pow.{pow_pos}
use Rattle.words.proofs.Laws.{both_right}
use Rattle.bits.specs.Bits.{bits_n, num_of, bits_to, run}
use Rattle.bits.specs.Put.{left, put_bits, put_run, put_if, put_led}
use Rattle.bits.proofs.Numbers.{bits_n_split, bits_n_high, length_bits_n}
use Rattle.bits.proofs.Bytes.{run_add, run_bits, length_run}
use Rattle.bits.proofs.Inside.{Within}
use Rattle.bits.proofs.Putting.{put_append}
use Rattle.bits.proofs.EightBytes.{run_lt}
use Rattle.std.specs.Prelude.{None, Some}

-- ---- two numbers side by side are one

pub bits_n_join : (n k v w : ℕ) → w < 2 ^ k → bits_n (n + k) (v * 2 ^ k + w) ≡ bits_n n v ++ bits_n k w
bits_n_join n k v w h =
    let d : (v * 2 ^ k + w) / 2 ^ k ≡ v + w / 2 ^ k = mul-add-div_right (pow_pos k) v w in
    let z : w / 2 ^ k ≡ 0 = div-eq_of_lt h in
    let e : (v * 2 ^ k + w) / 2 ^ k ≡ v = d ∙ omega arith in
    bits_n_split n k (v * 2 ^ k + w) ∙ rw (e, bits_n_high k v w)

-- a number and a run, put as one number
pub joined : (d z s : List ℕ) (at n v from k p w : ℕ) → from + k ≤ 8 * length s → p ≡ 2 ^ k → w ≡ num_of (run s from k)
    → z ≡ put_bits d at (bits_n (n + k) (v * p + w)) → z ≡ put_bits d at (bits_n n v ++ run s from k)
joined d z s at n v from k p w h hp hw e =
    let r : run s from k ≡ bits_n k w = run_bits s from k h ∙ ap (bits_n k) (sym hw) in
    let j = bits_n_join n k v w (run_lt s from k w h hw) in
    e ∙ ap (put_bits d at) (rw (hp, r) j)

-- the rest of a run, behind what went with the number
pub with_rest : (d x z s : List ℕ) (at n v from k count : ℕ) → n + k ≡ 56 → k ≤ count → from + count ≤ 8 * length s
    → x ≡ put_bits d at (bits_n n v ++ run s from k) → z ≡ put_bits x (at + 56) (run s (from + k) (count - k))
    → z ≡ put_bits d at (bits_n n v ++ run s from count)
with_rest d x z s at n v from k count full h g p q =
    let e : k + (count - k) ≡ count = omega arith in
    let l : length (bits_n n v ++ run s from k) ≡ 56 = length-append (bits_n n v) (run s from k) ∙ rw
    (length_bits_n n v, length_run s from k (omega arith)) full in
    let a : run s from count ≡ run s from k ++ run s (from + k) (count - k) = ap (run s from) (sym e) ∙ run_add s from k (count - k) in
    q ∙ rw p (sym (rw (a, ← append_assoc, put_append, l)))

-- ---- the answers, as the code has them

module _ (d s : List ℕ) (e at n v f from count : ℕ) where
  long : Within s f from count → length (bits_n n v ++ run s from count) ≡ n + count
  long w = length-append (bits_n n v) (run s from count) ∙ rw (length_bits_n n v, length_run s from count w.bytes)

  pub is_led : (z : List ℕ) (t : Bool) → n ≤ 56 → t ≡ (leb n 64 && ltb v (2 ^ n)) → t ≡ true → Within s f from count
      → Within d e at (n + count) → z ≡ put_bits d at (bits_n n v ++ run s from count)
      → left (Some (at + (n + count))) z ≡ put_led d e at n v s f from count
  unfolding put_led put_if put_run
  is_led z t h p q ws wd g =
      let b : ltb v (2 ^ n) ≡ true = both_right (leb n 64) (ltb v (2 ^ n)) (sym p ∙ q) in
      rw (le-leb n 56 h, b, ws.test, long ws, wd.test, g)

  pub led_full : (t : Bool) → n ≤ 56 → t ≡ (leb n 64 && ltb v (2 ^ n)) → t ≡ true → Within s f from count
      → leb (at + (n + count)) (length (bits_to d e)) ≡ false → left None d ≡ put_led d e at n v s f from count
  unfolding put_led put_if put_run
  led_full t h p q ws g =
      let b : ltb v (2 ^ n) ≡ true = both_right (leb n 64) (ltb v (2 ^ n)) (sym p ∙ q) in
      rw (le-leb n 56 h, b, ws.test, long ws, g)

  pub led_lost : (t : Bool) → n ≤ 56 → t ≡ (leb n 64 && ltb v (2 ^ n)) → t ≡ true
      → leb (from + count) (length (bits_to s f)) ≡ false → left None d ≡ put_led d e at n v s f from count
  unfolding put_led put_if
  led_lost t h p q g =
      let b : ltb v (2 ^ n) ≡ true = both_right (leb n 64) (ltb v (2 ^ n)) (sym p ∙ q) in
      rw (le-leb n 56 h, b, g)

  pub led_odd : (t : Bool) → n ≤ 56 → t ≡ (leb n 64 && ltb v (2 ^ n)) → t ≡ false → left None d ≡ put_led d e at n v s f from count
  unfolding put_led put_if
  led_odd t h p q =
      let a : leb n 64 ≡ true = le-leb n 64 (omega arith) in
      let b : ltb v (2 ^ n) ≡ false = (rw a at (sym p)) ∙ q in
      rw (le-leb n 56 h, b)

  pub led_wide : 56 < n → left None d ≡ put_led d e at n v s f from count
  unfolding put_led put_if
  led_wide h = rw (lt-leb n 56 h)
