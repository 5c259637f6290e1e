use mathlib.Core.Path.{◌≡◌}
use Prim.Native.Nat.{◌-◌}
use Rattle.bits.specs.Bits.{bits_to}
use Rattle.inner.specs.Places.{row_at}
use Rattle.inplace.specs.InPlace.{after}
use Rattle.inplace.proofs.row_end.Given as goal

abbrev pub invariant-loop : goal.invariant-loop
invariant-loop l = after (row_at l.direction (bits_to l.s l.end) l.p (l.n - l.counter)) ≡ after (row_at l.direction (bits_to l.s l.end) l.at l.n)
