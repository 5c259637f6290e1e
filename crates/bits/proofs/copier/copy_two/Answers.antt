use native.Mathlib.Omega.{arith}
use Rattle.bits.proofs.Copying.{in_two}
use Rattle.bits.proofs.copier.copy_two.Goals as goal

pub returns : goal.returns
returns c = in_two _ _ _ _ _ _ 56 _ (omega arith) (omega arith) c.copy_few.ensures c.copy_few-2.ensures
