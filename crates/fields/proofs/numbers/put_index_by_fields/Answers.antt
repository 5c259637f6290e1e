use native.Mathlib.Omega.{arith}
use Rattle.bits.proofs.Inside.{is_within, not_within}
use Rattle.fields.proofs.Widths.{width_most}
use Rattle.fields.proofs.Writers.{refused, above_high, no_room, in_range, index_put, length_index}
use Rattle.fields.proofs.numbers.put_index_by_fields.Goals as goal
use Rattle.fields.proofs.numbers.put_index_by_fields.Goals.{else-i-last-via-then-i-last+else-within, else-i-last-via-else-i-last}

pub overflow_add-width : goal.overflow_add-width
overflow_add-width c = omega (arith, c.width.ensures, width_most 64 c.args.last)

pub returns-then-within : goal.returns-then-within
returns-then-within c =
    index_put _ _ _ _ _ _ _ _ _ c.if-i-last.true c.width.ensures (is_within _ _ _ _ _ c.within.ensures c.if-within.true)
    c.put_extension_bit.ensures c.put_whole.ensures

pub returns : goal.returns
returns c =
    elim c.else-i-last.branch [
      | else-i-last-via-then-i-last+else-within w ↦
          no_room _ _ _ _ _ (in_range 0 _ _ (omega arith) w.if-i-last.true) (rw (length_index, ← w.width.ensures)
          (not_within _ _ _ _ _ w.within.ensures w.if-within.false))
      | else-i-last-via-else-i-last w ↦ refused _ _ _ _ _ (above_high 0 _ _ (omega arith) w.if-i-last.false)
    ]
