use native.Mathlib.Omega.{arith}
use Rattle.bits.proofs.Copying.{in_eights}
use Rattle.bits.proofs.copier.copy_whole.Goals as goal

pub returns : goal.returns
returns c = in_eights _ _ _ _ _ _ _ (omega arith) c.copy_eights.ensures c.copy_bytes.ensures
