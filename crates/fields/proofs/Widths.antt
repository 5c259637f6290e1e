-- Laws of the fewest bits that hold a number.
-- Assumes nothing.
use mathlib.Core.Path.{◌≡◌, refl}
use Prim.Native.Nat.{ℕ, zero, suc, ◌+◌, ◌-◌, ◌/◌, ◌^◌, ◌≤◌, ◌<◌}
use native.Mathlib.Omega.{arith}
use native.Mathlib.Decide.{dec_lt}
use lib.Pow.{pow_mono}
use lib.Count.{count_leading_zeros, leading_length, leading_top}
use Rattle.fields.specs.Fields.{digits_in}

pub leading_digits : (k n : ℕ) → count_leading_zeros k n + digits_in k n ≡ k
unfolding count_leading_zeros digits_in
leading_digits zero n = refl
leading_digits (suc k) zero = omega arith
leading_digits (suc k) (suc n) = omega (arith, leading_digits k (suc n / 2))

pub width_most : (k n : ℕ) → digits_in k n ≤ k
width_most k n = omega (arith, leading_digits k n)

-- they hold it
pub width_holds : (k n : ℕ) → n < 2 ^ k → n < 2 ^ digits_in k n
width_holds k n h =
    let m = leading_length k n h in
    let e : m.0 ≡ digits_in k n = omega (arith, leading_digits k n, m.1) in
    rw (← e) m.2

-- and no fewer do
pub width_fewest : (k n : ℕ) → 0 < n → n < 2 ^ k → 2 ^ (digits_in k n - 1) ≤ n
width_fewest k n pos h =
    let t = leading_top k n pos h in
    let e : digits_in k n - 1 ≡ t.0 = omega (arith, leading_digits k n, t.1) in
    rw e t.2

-- what so many bits hold has no more digits than that
pub width_within : (k n p : ℕ) → n < 2 ^ k → n < 2 ^ p → digits_in k n ≤ p
unfolding digits_in
width_within zero n p h g = omega arith
width_within (suc k) zero p h g = omega arith
width_within (suc k) (suc n) p h g =
    elim (dec_lt p (digits_in (suc k) (suc n))) [
      | yes l ↦
          let a = width_fewest (suc k) (suc n) (omega arith) h in
          let b : 2 ^ p ≤ 2 ^ (digits_in (suc k) (suc n) - 1) = pow_mono {i = p} {j = digits_in (suc k) (suc n) - 1} (omega arith) in
          absurd (omega arith)
      | no l ↦ omega arith
    ]
