use Rattle.layout.specs.Layout.{KindsOf}
use Rattle.layout.proofs.writing.kinds_of.Given as goal

abbrev pub invariant-loop-i : goal.invariant-loop-i
invariant-loop-i l = KindsOf l.direction l.b l.i l.ks
