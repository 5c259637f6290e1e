use Prim.Native.Nat.{◌<◌}
use Rattle.explain.proofs.lines.bytes.Given as goal

abbrev pub invariant-loop-c : goal.invariant-loop-c
invariant-loop-c l = l.high < 16
