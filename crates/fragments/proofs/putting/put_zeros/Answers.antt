use native.Mathlib.Omega.{arith}
use Rattle.fragments.proofs.Ranges.{zero_more}
use Rattle.fragments.proofs.putting.put_zeros.Goals as goal

pub loop-i-preserved : goal.loop-i-preserved
loop-i-preserved c = rw c.clear.ensures (zero_more _ _ _ _ _ c.loop-i.invariant (omega arith))
