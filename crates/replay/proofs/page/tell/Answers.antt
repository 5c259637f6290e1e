use mathlib.Core.Path.{refl, ap, ◌∙◌}
use mathlib.Core.Bool.{Bool}
use Prim.Native.Nat.{◌-◌}
use Rattle.tables.specs.Tables.{left}
use Rattle.replay.proofs.Breaks.{not_ok}
use Rattle.replay.proofs.Loops.{tell_begins, tell_full, tell_refused, tell_turn, tell_ends}
use borrow.Author.Rules.{rules}
use Rattle.replay.proofs.page.tell.Goals as goal

pub loop-i-init : goal.loop-i-init
loop-i-init c = (refl, tell_begins _ _ _ c.get-n.ensures)

pub returns-then-i-ge-OPENED_MOST : goal.returns-then-i-ge-OPENED_MOST
returns-then-i-ge-OPENED_MOST c =
    tell_full _ _ _ _ _ c.loop-i-test.true c.if-i-ge-OPENED_MOST.true c.loop-i.invariant.1

pub returns-in_err-note : goal.returns-in_err-note
returns-in_err-note c =
    ap (λ (t : Bool). left t c.note.new.p) (not_ok _ c.from_residual.ensures.0)
    ∙ tell_refused _ _ _ _ _ _ _ _ c.loop-i-test.true c.if-i-ge-OPENED_MOST.false c.get-job.ensures
    c.in_err-note.ensures refl c.loop-i.invariant.1

pub loop-i-preserved : goal.loop-i-preserved
loop-i-preserved c = (
  search rules,
  tell_turn _ _ _ _ _ _ _ _ c.loop-i-test.true c.if-i-ge-OPENED_MOST.false
      c.get-job.ensures c.in_ok-note.ensures refl c.loop-i.invariant.1,
)

pub returns : goal.returns
returns c = tell_ends _ _ _ _ _ _ c.loop-i-test.false c.put.ensures c.loop-i.invariant.1
