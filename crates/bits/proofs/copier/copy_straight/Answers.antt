use native.Mathlib.Omega.{arith}
use Rattle.bits.proofs.Copying.{in_three}
use Rattle.bits.proofs.copier.copy_straight.Goals as goal

pub returns : goal.returns
returns c =
    in_three _ _ _ _ _ _ _ _ c.min-h.result c.whole-m.result (omega arith) (omega arith) (λ h. omega arith) c.copy_few.ensures c.copy_whole.ensures c.copy_few-2.ensures
