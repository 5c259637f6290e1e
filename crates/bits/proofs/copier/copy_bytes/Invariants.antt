use Prim.Native.Nat.{◌+◌, ◌*◌, ◌-◌}
use mathlib.Core.Path.{◌≡◌}
use lib.ListN.{length}
use Rattle.bits.specs.Bits.{run}
use Rattle.bits.specs.Put.{put_bits}
use Rattle.bits.proofs.copier.copy_bytes.Given as goal

abbrev pub invariant-loop-i : goal.invariant-loop-i
invariant-loop-i l = (length l.dst ≡ length l.initial.dst) × (put_bits l.dst (8 * (l.base + l.i)) (run l.src (l.at + 8 * l.i) (8 * (l.m - l.i))) ≡ put_bits l.initial.dst (8 * l.base) (run l.src l.at (8 * l.m)))
