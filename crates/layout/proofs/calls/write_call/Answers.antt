use mathlib.Core.Path.{ap, sym, ◌∙◌}
use native.Mathlib.Omega.{arith}
use Rattle.std.specs.Prelude.{Err}
use Rattle.layout.specs.Calls.{sent_as}
use Rattle.layout.proofs.Laying.{laid_is}
use Rattle.layout.proofs.Calling.{written_few, write_room, write_unknown, write_no_way, write_is}
use Rattle.layout.proofs.calls.write_call.Goals as goal

pub returns-then-out-lt-ROOM : goal.returns-then-out-lt-ROOM
returns-then-out-lt-ROOM c = write_room _ _ _ _ c.if-out-lt-ROOM.true

pub returns-then-not-message_stands : goal.returns-then-not-message_stands
returns-then-not-message_stands c = write_unknown _ _ _ _ c.if-out-lt-ROOM.false _ c.message_stands.ensures c.if-not-message_stands.true

pub returns-in_default : goal.returns-in_default
returns-in_default c = write_no_way _ _ _ _ c.if-out-lt-ROOM.false _ c.message_stands.ensures c.if-not-message_stands.false _ c.way_of.ensures c.in_default.is

pub write_laid-requires : goal.write_laid-requires
write_laid-requires c =
    let p = laid_is _ (sym c.message_stands.ensures ∙ c.if-not-message_stands.false) in
    (p.0, p.2)

pub overflow_mul-result : goal.overflow_mul-result
overflow_mul-result c = omega (arith, written_few _ _ _ _ _ _ _ c.write_laid.ensures c.in-Ok.is)

pub returns-in-Ok : goal.returns-in-Ok
unfolding sent_as
returns-in-Ok c = write_is _ _ _ _ c.if-out-lt-ROOM.false _ c.message_stands.ensures c.if-not-message_stands.false _ c.way_of.ensures _ c.in-Some.is _ _ _ c.write_laid.ensures c.in-Ok.is

pub returns-in-Err-Room : goal.returns-in-Err-Room
unfolding sent_as
returns-in-Err-Room c = write_is _ _ _ _ c.if-out-lt-ROOM.false _ c.message_stands.ensures c.if-not-message_stands.false _ c.way_of.ensures _ c.in-Some.is _ _ _ c.write_laid.ensures (c.in-Err-Room.is ∙ ap Err c.in-Err-Room.field-0-is)

pub returns-in-Err-Shape : goal.returns-in-Err-Shape
unfolding sent_as
returns-in-Err-Shape c = write_is _ _ _ _ c.if-out-lt-ROOM.false _ c.message_stands.ensures c.if-not-message_stands.false _ c.way_of.ensures _ c.in-Some.is _ _ _ c.write_laid.ensures (c.in-Err-Shape.is ∙ ap Err c.in-Err-Shape.field-0-is)
