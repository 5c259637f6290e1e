use Rattle.bits.specs.Bits.{bits_to}
use Rattle.layout.proofs.InOrder.{Putting}
use Rattle.layout.proofs.RowsRead.{Gathered}
use Rattle.layout.proofs.reading.read_row.Given as goal

abbrev pub invariant-loop-i : goal.invariant-loop-i
invariant-loop-i l = Gathered l.direction (bits_to l.s l.end) l.at l.n l.i l.p l.places l.counts l.starts

abbrev pub invariant-loop-k : goal.invariant-loop-k
invariant-loop-k l = Putting l.initial.message l.message l.places l.k
