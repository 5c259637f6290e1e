use borrow.Author.Rules.{rules}
use Prim.Native.Nat.{◌-◌}
use mathlib.Core.Path.{sym, ◌∙◌}
use native.Mathlib.Omega.{arith}
use Rattle.card.proofs.Passing.{numbers_start, numbers_turn, numbers_length, numbers_done}
use Rattle.card.proofs.forwards.put_numbers.Goals as goal

pub loop-i-init : goal.loop-i-init
loop-i-init c = (search rules, search rules, numbers_start _ _ c.requires)

pub loop-i-preserved : goal.loop-i-preserved
loop-i-preserved c = (
  search rules,
  numbers_length _ _ _ _ c.put_eight.ensures c.loop-i.invariant.1,
  numbers_turn _ _ _
      c.loop-i.i _ c.args.h (omega arith) c.heading_part.ensures
      c.put_eight.ensures c.loop-i.invariant.2,
)

pub returns : goal.returns
returns c = sym (numbers_done _ c.loop-i.i c.args.h (omega arith)) ∙ c.loop-i.invariant.2
