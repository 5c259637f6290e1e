use Prim.Native.Nat.{◌*◌, ◌^◌, ◌<◌}
use mathlib.Core.Path.{◌≡◌}
use Rattle.bits.specs.Bits.{num_of, run}
use Rattle.bits.proofs.eight_bytes.four_at.Given as goal

abbrev pub invariant-loop-i : goal.invariant-loop-i
invariant-loop-i l = (l.v ≡ num_of (run l.s (8 * l.q) (8 * l.i))) × (l.v < 2 ^ (8 * l.i))
