use Rattle.fragments.proofs.Digits.{Spelling}
use Rattle.fragments.proofs.decimals.put_decimal.Given as goal

abbrev pub invariant-loop-v : goal.invariant-loop-v
invariant-loop-v l = Spelling l.initial.out l.out l.at l.n l.k l.v l.i

abbrev pub decreases-loop-v : goal.decreases-loop-v
decreases-loop-v l = l.v
