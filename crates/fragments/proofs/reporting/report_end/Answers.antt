use native.Mathlib.Omega.{arith}
use mathlib.Core.Path.{ap, ◌∙◌}
use Rattle.std.specs.Prelude.{Err, Ok}
use Rattle.envelope.specs.Envelopes.{most_bits}
use Rattle.fragments.proofs.Lines.{end_fits, refusal_fits, no_end, end_bare, end_put, end_line, refusal_line}
use borrow.Author.Rules.{rules}
use Rattle.fragments.proofs.reporting.report_end.Goals as goal

pub returns-then-out-lt-LAST_ROOM : goal.returns-then-out-lt-LAST_ROOM
returns-then-out-lt-LAST_ROOM c = no_end most_bits _ _ c.if-out-lt-LAST_ROOM.true

pub put_end-requires : goal.put_end-requires
put_end-requires c = omega (arith, end_fits c.place_behind-read.result, c.if-out-lt-LAST_ROOM.false)

pub put_refusal-requires : goal.put_refusal-requires
put_refusal-requires c =
    omega (arith, refusal_fits c.in-Err-Refused.r c.place_in-in-Err-Refused.result, c.if-out-lt-LAST_ROOM.false)

pub returns-in-Ok-Part : goal.returns-in-Ok-Part
returns-in-Ok-Part c =
    end_put most_bits _ _ _ _ _ _ _ c.if-out-lt-LAST_ROOM.false c.end.ensures (end_line _ _ _
    c.place_in.ensures _ _ _ (c.in-Ok-Part.is ∙ ap Ok c.in-Ok-Part.field-0-is) c.count_in.ensures
    c.place_behind-read.ensures) (end_fits _) c.put_end.ensures

pub returns-in-Err-Refused : goal.returns-in-Err-Refused
returns-in-Err-Refused c =
    end_put most_bits _ _ _ _ _ _ _ c.if-out-lt-LAST_ROOM.false c.end.ensures
    (refusal_line _ _ _ c.place_in-in-Err-Refused.ensures _ (c.in-Err-Refused.is ∙ ap Err c.in-Err-Refused.field-0-is) (search rules)) (refusal_fits _ _)
    c.put_refusal.ensures

pub returns-in-Ok-Whole : goal.returns-in-Ok-Whole
returns-in-Ok-Whole c =
    end_bare most_bits _ _ _ _ c.if-out-lt-LAST_ROOM.false c.end.ensures
    (rw (c.in-Ok-Whole.is ∙ ap Ok c.in-Ok-Whole.field-0-is))

pub returns-in-Err-Shape : goal.returns-in-Err-Shape
returns-in-Err-Shape c =
    end_bare most_bits _ _ _ _ c.if-out-lt-LAST_ROOM.false c.end.ensures
    (rw (c.in-Err-Shape.is ∙ ap Err c.in-Err-Shape.field-0-is))
