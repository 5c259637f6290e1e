use native.Mathlib.Omega.{arith}
use borrow.Author.Rules.{rules}
use mathlib.Core.Path.{◌∙◌}
use Prim.Native.Nat.{◌+◌}
use lib.ListN.{length-set}
use Rattle.fragments.proofs.Digits.{spelling_all, spelling_more, spelling_last}
use Rattle.fragments.proofs.decimals.put_decimal.Goals as goal

pub loop-v-init : goal.loop-v-init
loop-v-init c = spelling_all _ _ _ _ (search rules) c.digit_count-k.ensures

pub overflow_sub-i : goal.overflow_sub-i
overflow_sub-i c = omega (arith, c.loop-v.invariant)

pub overflow_add-out : goal.overflow_add-out
overflow_add-out c = omega (arith, c.loop-v.invariant)

pub overflow_cast-out : goal.overflow_cast-out
overflow_cast-out c = omega (arith, c.loop-v.invariant)

pub overflow_add-out-in-loop-v : goal.overflow_add-out-in-loop-v
overflow_add-out-in-loop-v c = omega (arith, c.loop-v.invariant)

pub bounds-out-at : goal.bounds-out-at
bounds-out-at c = omega (arith, c.loop-v.invariant)

pub loop-v-preserved : goal.loop-v-preserved
loop-v-preserved c = spelling_more _ _ _ _ _ _ _ c.loop-v.invariant c.loop-v-test.true

pub overflow_add-out-2 : goal.overflow_add-out-2
overflow_add-out-2 c = omega (arith, c.loop-v.invariant)

pub bounds-out-at-2 : goal.bounds-out-at-2
bounds-out-at-2 c = omega (arith, c.loop-v.invariant)

pub overflow_add-result : goal.overflow_add-result
overflow_add-result c = omega (arith, c.loop-v.invariant)

pub shape_of-out : goal.shape_of-out
shape_of-out c = length-set c.loop-v.out c.args.at (48 + c.loop-v.v) ∙ c.loop-v.invariant.same

pub returns : goal.returns
returns c = spelling_last _ _ _ _ _ _ _ c.loop-v.invariant (omega arith)
