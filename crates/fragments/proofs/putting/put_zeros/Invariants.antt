use Rattle.fragments.specs.Record.{zeros}
use Rattle.envelope.proofs.Puts.{Copying}
use Rattle.fragments.proofs.putting.put_zeros.Given as goal

abbrev pub invariant-loop-i : goal.invariant-loop-i
invariant-loop-i l = Copying l.initial.out l.out (zeros l.n) l.at l.n l.i
