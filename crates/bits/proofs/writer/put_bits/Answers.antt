use Rattle.bits.proofs.Inside.{is_within, not_within}
use Rattle.bits.proofs.Putting.{is_put, is_full, is_too_wide}
use Rattle.bits.proofs.writer.put_bits.Goals as goal
use Rattle.bits.proofs.writer.put_bits.Goals.{else-holds-via-then-holds+else-within, else-holds-via-else-holds}

pub returns-then-within : goal.returns-then-within
returns-then-within c =
    is_put _ _ _ _ _ _ _ c.holds.ensures c.if-holds.true
    (is_within _ _ _ _ _ c.within.ensures c.if-within.true) c.put_number_at.ensures

pub returns : goal.returns
returns c =
    elim c.else-holds.branch [
      | else-holds-via-then-holds+else-within w ↦
          is_full _ _ _ _ _ _ c.holds.ensures w.if-holds.true (not_within _ _ _ _ _ w.within.ensures w.if-within.false)
      | else-holds-via-else-holds w ↦ is_too_wide _ _ _ _ _ _ c.holds.ensures w.if-holds.false
    ]
