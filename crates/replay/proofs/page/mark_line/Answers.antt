use mathlib.Core.Path.{refl, ap, ◌∙◌}
use mathlib.Core.Bool.{Bool}
use Prim.Native.Nat.{◌-◌}
use Rattle.tables.specs.Tables.{left}
use Rattle.replay.proofs.Breaks.{not_ok}
use Rattle.replay.proofs.Loops.{mark_begins, mark_refused, mark_turn, mark_ends}
use borrow.Author.Rules.{rules}
use Rattle.replay.proofs.page.mark_line.Goals as goal

pub loop-i-init : goal.loop-i-init
loop-i-init c = (refl, mark_begins _ _ _ c.get-n.ensures)

pub returns-in_err-mark_broken : goal.returns-in_err-mark_broken
returns-in_err-mark_broken c =
    ap (λ (t : Bool). left t c.mark_broken.new.b) (not_ok _ c.from_residual.ensures.0)
    ∙ mark_refused _ _ _ _ _ _ _ _ c.loop-i-test.true c.entry.ensures c.in_err-mark_broken.ensures refl c.loop-i.invariant.1

pub loop-i-preserved : goal.loop-i-preserved
loop-i-preserved c = (
  search rules,
  mark_turn _ _ _ _ _ _ _ _ c.loop-i-test.true c.entry.ensures
      c.in_ok-mark_broken.ensures refl c.loop-i.invariant.1,
)

pub returns : goal.returns
returns c = mark_ends _ _ _ _ _ c.loop-i-test.false c.loop-i.invariant.1
