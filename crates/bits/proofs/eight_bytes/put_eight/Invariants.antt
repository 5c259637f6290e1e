use Prim.Native.Nat.{◌+◌, ◌*◌, ◌-◌}
use mathlib.Core.Path.{◌≡◌}
use lib.ListN.{length}
use Rattle.bits.specs.Bits.{bits_n}
use Rattle.bits.specs.Put.{put_bits}
use Rattle.bits.proofs.eight_bytes.put_eight.Given as goal

abbrev pub invariant-loop-i : goal.invariant-loop-i
invariant-loop-i l = (length l.buf ≡ length l.initial.buf) × (put_bits l.buf (8 * (l.q + l.i)) (bits_n (64 - 8 * l.i) l.w) ≡ put_bits l.initial.buf (8 * l.q) (bits_n 64 l.w))
