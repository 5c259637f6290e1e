use native.Mathlib.Omega.{arith}
use borrow.Author.Rules.{rules}
use Rattle.fragments.proofs.Digits.{counting_all, counting_more, counting_done}
use Rattle.fragments.proofs.decimals.digit_count.Goals as goal

pub loop-v-init : goal.loop-v-init
loop-v-init c = counting_all _ (search rules)

pub overflow_add-k : goal.overflow_add-k
overflow_add-k c = omega (arith, c.loop-v.invariant.count)

pub loop-v-preserved : goal.loop-v-preserved
loop-v-preserved c = counting_more _ _ _ c.loop-v.invariant c.loop-v-test.true

pub returns : goal.returns
returns c = counting_done _ _ _ c.loop-v.invariant (omega arith)
