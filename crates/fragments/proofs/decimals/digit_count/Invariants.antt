use Rattle.fragments.proofs.Digits.{Counting}
use Rattle.fragments.proofs.decimals.digit_count.Given as goal

abbrev pub invariant-loop-v : goal.invariant-loop-v
invariant-loop-v l = Counting l.n l.v l.k

abbrev pub decreases-loop-v : goal.decreases-loop-v
decreases-loop-v l = l.v
