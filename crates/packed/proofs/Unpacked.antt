-- The parts of the number that a call answers have room in it, and can be taken out of it again.
-- Assumes nothing.
use mathlib.Core.Path.{◌≡◌}
use Prim.Native.Nat.{ℕ, ◌*◌, ◌/◌, ◌%◌, ◌<◌}
use native.Mathlib.Omega.{arith}
use Rattle.machine.specs.Codes.{versions}
use Rattle.machine.specs.declared.outcome.Invoked.{Invoked}
use Rattle.machine.specs.declared.outcome.Invoked.TheVariants.{DStartRequest, DStartResponse, DDataRequest, DEndRequest, DEndResponse, DAbortRequest, DStartForwardRequest, DStartForwardResponse}
use Rattle.machine.specs.declared.outcome.Told.{Told}
use Rattle.machine.specs.declared.outcome.Told.TheVariants.{StartIndication, StartConfirmation, MessageIndication, EndIndication, EndConfirmation, UserAbortIndication, ProviderAbortIndication, ForwardIndication, ForwardConfirmation}
use Rattle.packed.specs.Packed.{refusals, codes, primitives, counts, three, invoked_number, told_number, packed}
use Rattle.std.specs.Prelude.{None, Option, Some}

-- ---- the number's parts have room

pub invoked_low : (i : Option Invoked) → invoked_number i < primitives
unfolding invoked_number
invoked_low None = omega arith
invoked_low (Some (DStartRequest q s)) = omega arith
invoked_low (Some (DStartResponse x s)) = omega arith
invoked_low (Some DDataRequest) = omega arith
invoked_low (Some DEndRequest) = omega arith
invoked_low (Some (DEndResponse x)) = omega arith
invoked_low (Some (DAbortRequest o)) = omega arith
invoked_low (Some (DStartForwardRequest q s v)) = omega arith
invoked_low (Some (DStartForwardResponse s v)) = omega arith

pub told_low : (t : Option Told) → told_number t < primitives
unfolding told_number
told_low None = omega arith
told_low (Some (StartIndication m k)) = omega arith
told_low (Some (StartConfirmation m x)) = omega arith
told_low (Some MessageIndication) = omega arith
told_low (Some (EndIndication m)) = omega arith
told_low (Some (EndConfirmation m x)) = omega arith
told_low (Some (UserAbortIndication x)) = omega arith
told_low (Some (ProviderAbortIndication x)) = omega arith
told_low (Some ForwardIndication) = omega arith
told_low (Some (ForwardConfirmation x v)) = omega arith

-- ---- the number of a call that was taken

module _ (i t s g v : ℕ) where
  -- no refusal
  pub refusal_unpacked : packed i t s g v % refusals ≡ 0
  unfolding packed
  refusal_unpacked = omega arith

  module _ (hi : i < primitives) where
    pub invoked_unpacked : packed i t s g v / refusals % primitives ≡ i
    unfolding packed
    invoked_unpacked = omega arith

    module _ (ht : t < primitives) where
      pub told_unpacked : packed i t s g v / (refusals * primitives) % primitives ≡ t
      unfolding packed
      told_unpacked = omega arith

      pub sent_unpacked : s < counts → packed i t s g v / (refusals * primitives * primitives) % counts ≡ s
      unfolding packed
      sent_unpacked h = omega arith

      pub given_unpacked : g < counts → packed i t s g v / (refusals * primitives * primitives * counts) % counts ≡ g
      unfolding packed
      given_unpacked h = omega arith

      pub version_unpacked : v < versions → packed i t s g v / (refusals * primitives * primitives * counts * counts) ≡ v
      unfolding packed
      version_unpacked h = omega arith

-- ---- a primitive's number

module _ (c x y : ℕ) (hc : c < codes) where
  pub code_unpacked : three c x y % codes ≡ c
  code_unpacked = omega arith

  pub parameter_unpacked : x < codes → three c x y / codes % codes ≡ x
  parameter_unpacked h = omega arith

  pub last_unpacked : y < 2 → three c x y / (codes * codes) % 2 ≡ y
  last_unpacked h = omega arith
