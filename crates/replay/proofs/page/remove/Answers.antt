use mathlib.Core.Path.{refl}
use Prim.Native.Nat.{◌-◌}
use Rattle.replay.proofs.Loops.{draw_turn, removed_none, removed_ends}
use borrow.Author.Rules.{rules}
use Rattle.replay.proofs.page.remove.Goals as goal

pub returns-then-n-at : goal.returns-then-n-at
returns-then-n-at c = removed_none _ _ _ c.get-n.ensures c.if-n-at.true

pub loop-i-init : goal.loop-i-init
loop-i-init c = (refl, refl)

pub loop-i-preserved : goal.loop-i-preserved
loop-i-preserved c = (
  search rules,
  draw_turn _ _ _ _ _ c.loop-i-test.true c.draw.ensures
      c.loop-i.invariant.1,
)

pub returns : goal.returns
returns c =
    removed_ends _ _ _ _ _ _ c.get-n.ensures c.if-n-at.false c.loop-i-test.false
    c.loop-i.invariant.1 c.put.ensures
