use native.Mathlib.Omega.{arith}
use Rattle.bits.proofs.Joining.{with_rest}
use Rattle.bits.proofs.led.put_both.Goals as goal

pub returns-else-n-count-le-JOINED : goal.returns-else-n-count-le-JOINED
returns-else-n-count-le-JOINED c =
    with_rest _ _ _ _ _ _ _ _ _ _ (omega arith) (omega arith) (omega arith) c.put_joined-else-n-count-le-JOINED.ensures
    c.copy_run.ensures
