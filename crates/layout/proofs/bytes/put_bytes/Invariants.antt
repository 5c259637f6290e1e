use Rattle.layout.proofs.Copied.{Copying}
use Rattle.layout.proofs.bytes.put_bytes.Given as goal

abbrev pub invariant-loop-i : goal.invariant-loop-i
invariant-loop-i l = Copying l.initial.out l.out l.src l.at l.i
