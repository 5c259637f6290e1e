-- The answer of a call that refuses for a fault in bits: the number and the place can be taken out of it again, and it is told from the answer of a
-- call that is not refused.
-- Assumes nothing.
use mathlib.Core.Path.{◌≡◌}
use Prim.Native.Nat.{ℕ, ◌*◌, ◌/◌, ◌%◌, ◌<◌}
use native.Mathlib.Omega.{arith}
use Rattle.fields.specs.Refusals.{number_of, packed}
use Rattle.fields.specs.declared.Fault.{Fault}
use Rattle.fields.specs.declared.Fault.TheVariants.{Short, Range, Extension, LengthForm, Limit, Tail, NotCarried, Default}
use Rattle.fields.specs.declared.Refusal.{Refusal}

pub number_low : (f : Fault) → (0 < number_of f) × (number_of f < 256)
unfolding number_of
number_low Short = (omega arith, omega arith)
number_low Range = (omega arith, omega arith)
number_low Extension = (omega arith, omega arith)
number_low LengthForm = (omega arith, omega arith)
number_low Limit = (omega arith, omega arith)
number_low Tail = (omega arith, omega arith)
number_low NotCarried = (omega arith, omega arith)
number_low Default = (omega arith, omega arith)

-- the number and the place, where it has room: fewer than 2 ^ 56 bits stand before it
pub record Says (n : ℕ) (r : Refusal) : Type 0 where
  pub number : n % 256 ≡ number_of r.fault
  pub place : n / 256 ≡ r.at

pub packed_said : (r : Refusal) → r.at < 72057594037927936 → Says (packed r) r
unfolding packed
packed_said r h =
    let l = number_low r.fault in
    record { number = omega arith; place = omega arith }

-- no count of a call that is not refused is one
pub packed_refuses : (r : Refusal) (c : ℕ) → packed r ≡ 256 * c → {A : Type 0} → A
unfolding packed
packed_refuses r c e = let l = number_low r.fault in absurd (omega arith)
