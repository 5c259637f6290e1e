use Prim.Native.Nat.{◌+◌, ◌-◌, ◌≤◌}
use mathlib.Core.Path.{◌≡◌}
use lib.ListN.{length}
use Rattle.bits.specs.Bits.{bits_n}
use Rattle.bits.specs.Put.{put_bits}
use Rattle.bits.proofs.writer.put_by_bytes.Given as goal

abbrev pub invariant-loop-i : goal.invariant-loop-i
invariant-loop-i l = (l.i ≤ l.n) × (length l.buf ≡ length l.initial.buf) × (put_bits l.buf (l.at + l.i) (bits_n (l.n - l.i) l.v) ≡ put_bits l.initial.buf l.at (bits_n l.n l.v))

abbrev pub decreases-loop-i : goal.decreases-loop-i
decreases-loop-i l = l.n - l.i
