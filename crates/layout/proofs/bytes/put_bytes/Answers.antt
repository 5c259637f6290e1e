use native.Mathlib.Omega.{arith}
use Rattle.layout.proofs.Copied.{copying_all, copying_more, copying_done}
use Rattle.layout.proofs.bytes.put_bytes.Goals as goal

pub loop-i-init : goal.loop-i-init
loop-i-init c = copying_all _ _ _

pub bounds-out-at : goal.bounds-out-at
bounds-out-at c = omega (arith, c.loop-i.invariant.same)

pub loop-i-preserved : goal.loop-i-preserved
loop-i-preserved c = copying_more _ _ _ _ _ c.loop-i.invariant c.loop-i-test.true

pub returns : goal.returns
returns c = copying_done _ _ _ _ _ c.loop-i.invariant c.loop-i-test.false
