use Rattle.bits.specs.Bits.{bits_to}
use Rattle.inner.proofs.Filling.{Filled}
use Rattle.inner.proofs.five.read_places.Given as goal

abbrev pub invariant-loop-i : goal.invariant-loop-i
invariant-loop-i l = Filled l.direction (bits_to l.s l.end) l.at l.n l.i l.p l.places
