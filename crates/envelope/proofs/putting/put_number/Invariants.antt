use Rattle.envelope.proofs.Puts.{Putting}
use Rattle.envelope.proofs.putting.put_number.Given as goal

abbrev pub invariant-loop-v : goal.invariant-loop-v
invariant-loop-v l = Putting l.initial.out l.out l.at l.n l.v l.p

abbrev pub decreases-loop-v : goal.decreases-loop-v
decreases-loop-v l = l.v
