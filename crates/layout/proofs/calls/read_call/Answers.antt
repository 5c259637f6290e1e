use native.Mathlib.Omega.{arith}
use Rattle.layout.proofs.Calling.{read_room, read_size, read_no_way, read_way}
use Rattle.layout.proofs.calls.read_call.Goals as goal

pub returns-then-text-lt-ROOM : goal.returns-then-text-lt-ROOM
returns-then-text-lt-ROOM c = read_room _ _ _ _ _ c.if-text-lt-ROOM.true

pub returns-then-message-ne-BYTES : goal.returns-then-message-ne-BYTES
returns-then-message-ne-BYTES c = read_size _ _ _ _ _ c.if-text-lt-ROOM.false c.if-message-ne-BYTES.true

pub returns-in_default : goal.returns-in_default
returns-in_default c = read_no_way _ _ _ _ _ c.if-text-lt-ROOM.false c.if-message-ne-BYTES.false _ c.way_of.ensures c.in_default.is

pub overflow_mul-result : goal.overflow_mul-result
overflow_mul-result c = omega (arith, c.read_laid.ensures.1 _ c.in-Ok.is)

pub returns-in-Ok : goal.returns-in-Ok
returns-in-Ok c = read_way _ _ _ _ _ c.if-text-lt-ROOM.false c.if-message-ne-BYTES.false _ c.way_of.ensures _ c.in-Some.is _ _ _ (rw c.in-Ok.is at c.read_laid.ensures.0)

pub returns-in-Err-Room : goal.returns-in-Err-Room
returns-in-Err-Room c = read_way _ _ _ _ _ c.if-text-lt-ROOM.false c.if-message-ne-BYTES.false _ c.way_of.ensures _ c.in-Some.is _ _ _ (rw (c.in-Err-Room.is, c.in-Err-Room.field-0-is) at c.read_laid.ensures.0)

pub returns-in-Err-Shape : goal.returns-in-Err-Shape
returns-in-Err-Shape c = read_way _ _ _ _ _ c.if-text-lt-ROOM.false c.if-message-ne-BYTES.false _ c.way_of.ensures _ c.in-Some.is _ _ _ (rw (c.in-Err-Shape.is, c.in-Err-Shape.field-0-is) at c.read_laid.ensures.0)

pub returns-in-Err-Refused : goal.returns-in-Err-Refused
returns-in-Err-Refused c =
    rw c.packed.ensures (read_way _ _ _ _ _ c.if-text-lt-ROOM.false c.if-message-ne-BYTES.false _ c.way_of.ensures _ c.in-Some.is _ _ _ (rw (c.in-Err-Refused.is, c.in-Err-Refused.field-0-is) at c.read_laid.ensures.0))
