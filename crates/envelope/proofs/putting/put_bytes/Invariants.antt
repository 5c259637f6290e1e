use Rattle.envelope.proofs.Puts.{Copying}
use Rattle.envelope.proofs.putting.put_bytes.Given as goal

abbrev pub invariant-loop-i : goal.invariant-loop-i
invariant-loop-i l = Copying l.initial.out l.out l.src l.at l.n l.i
