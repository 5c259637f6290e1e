use native.Mathlib.Omega.{arith}
use Rattle.bits.proofs.EightBytes.{in_word}
use Rattle.bits.proofs.eight_bytes.number_in_eight.Goals as goal

pub returns : goal.returns
returns c =
    in_word _ 64 c.min-q.result _ _ _ _ _ (omega arith) (omega arith) (omega arith)
    c.eight_at.ensures c.part_of.ensures
