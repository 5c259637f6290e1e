use Rattle.bits.proofs.Inside.{is_within, not_within}
use Rattle.bits.proofs.Copying.{is_copied, no_room, not_there}
use Rattle.bits.proofs.copier.copy_bits.Goals as goal
use Rattle.bits.proofs.copier.copy_bits.Goals.{else-within-via-then-within+else-within-2, else-within-via-else-within}

pub returns-then-within-2 : goal.returns-then-within-2
returns-then-within-2 c =
    is_copied _ _ _ _ _ _ _ _ (is_within _ _ _ _ _ c.within.ensures c.if-within.true)
    (is_within _ _ _ _ _ c.within-then-within.ensures c.if-within-2.true) c.copy_run.ensures

pub returns : goal.returns
returns c =
    elim c.else-within.branch [
      | else-within-via-then-within+else-within-2 w ↦
          no_room _ _ _ _ _ _ _ (is_within _ _ _ _ _ c.within.ensures w.if-within.true)
          (not_within _ _ _ _ _ w.within-then-within.ensures w.if-within-2.false)
      | else-within-via-else-within w ↦ not_there _ _ _ _ _ _ _ (not_within _ _ _ _ _ c.within.ensures w.if-within.false)
    ]
