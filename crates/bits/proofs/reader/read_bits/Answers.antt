use Rattle.bits.proofs.Inside.{is_within, not_within}
use Rattle.bits.proofs.Reading.{is_wide, is_short, is_number}
use Rattle.bits.proofs.reader.read_bits.Goals as goal
use Rattle.bits.proofs.reader.read_bits.Goals.{else-n-le64-via-then-n-le64+else-within, else-n-le64-via-else-n-le64}

pub returns-then-within : goal.returns-then-within
returns-then-within c =
    is_number _ _ _ _ _ c.if-n-le64.true (is_within _ _ _ _ _ c.within.ensures c.if-within.true) c.number_at.ensures

pub returns : goal.returns
returns c =
    elim c.else-n-le64.branch [
      | else-n-le64-via-then-n-le64+else-within w ↦
          is_short _ _ _ w.if-n-le64.true (not_within _ _ _ _ _ w.within.ensures w.if-within.false)
      | else-n-le64-via-else-n-le64 w ↦ is_wide _ _ _ w.if-n-le64.false
    ]
