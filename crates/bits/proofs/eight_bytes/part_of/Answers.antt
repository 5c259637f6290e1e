use native.Mathlib.Omega.{arith}
use Rattle.bits.proofs.Parts.{part_shift}
use Rattle.bits.proofs.eight_bytes.part_of.Goals as goal

pub returns : goal.returns
returns c = part_shift _ _ _ (omega arith)
