use native.Mathlib.Omega.{arith}
use Rattle.bits.proofs.Reading.{in_byte}
use Rattle.bits.proofs.reader.number_at.Goals as goal

pub returns-then-in_one : goal.returns-then-in_one
returns-then-in_one c =
    in_byte _ _ _ _ (omega arith) (c.in_one.ensures c.if-in_one.true).0
    (c.in_one.ensures c.if-in_one.true).1 c.piece.ensures
