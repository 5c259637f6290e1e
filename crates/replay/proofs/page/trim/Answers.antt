use mathlib.Core.Path.{refl}
use Prim.Native.Nat.{◌-◌}
use Rattle.replay.proofs.Loops.{trim_begins, trim_turn, trim_ends}
use borrow.Author.Rules.{rules}
use Rattle.replay.proofs.page.trim.Goals as goal

pub loop-i-init : goal.loop-i-init
loop-i-init c = (refl, trim_begins _ _ _ _ c.get-n.ensures)

pub loop-i-preserved : goal.loop-i-preserved
loop-i-preserved c = (
  search rules,
  trim_turn _ _ _ _ _ _ _ _ _ _ _ _ _ c.loop-i-test.true c.entry.ensures
      c.may_stay-stays.ensures c.settle.ensures c.counted-kept.ensures
      c.counted-met.ensures c.loop-i.invariant.1,
)

pub returns : goal.returns
returns c = trim_ends _ _ _ _ _ _ _ _ _ c.loop-i-test.false c.put.ensures c.loop-i.invariant.1
