use Prim.Native.Nat.{◌≤◌}
use Rattle.explain.proofs.lines.count.Given as goal

abbrev pub invariant-loop-c : goal.invariant-loop-c
invariant-loop-c l = l.n ≤ 99999
