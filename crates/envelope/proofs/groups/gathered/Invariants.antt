use Rattle.envelope.proofs.Numbers.{Gathers}
use Rattle.envelope.proofs.groups.gathered.Given as goal

abbrev pub invariant-loop-i : goal.invariant-loop-i
invariant-loop-i l = Gathers l.s l.at l.i l.p l.v l.w
