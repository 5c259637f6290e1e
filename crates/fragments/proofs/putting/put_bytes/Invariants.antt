use lib.ListN.{length}
use Rattle.envelope.proofs.Puts.{Copying}
use Rattle.fragments.proofs.putting.put_bytes.Given as goal

abbrev pub invariant-loop-i : goal.invariant-loop-i
invariant-loop-i l = Copying l.initial.out l.out l.src l.at (length l.src) l.i
