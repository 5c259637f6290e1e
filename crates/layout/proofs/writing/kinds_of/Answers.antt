use mathlib.Core.Path.{refl}
use native.Mathlib.Omega.{arith}
use Rattle.layout.proofs.KindsOnce.{known_none, known_turn, known_all}
use Rattle.layout.proofs.writing.kinds_of.Goals as goal

pub loop-i-init : goal.loop-i-init
loop-i-init c = known_none _ _ _ refl

pub bounds-ks-i : goal.bounds-ks-i
bounds-ks-i c = omega (arith, c.used-i-end.ensures, c.loop-i-test.true, c.loop-i.invariant.five)

pub loop-i-preserved : goal.loop-i-preserved
loop-i-preserved c =
    known_turn _ _ _ _ _ (omega (arith, c.used-i-end.ensures, c.loop-i-test.true)) c.loop-i.invariant c.kind_of.ensures

pub returns : goal.returns
returns c = known_all _ _ _ _ _ _ c.used-i-end.ensures c.loop-i-test.false c.loop-i.invariant
