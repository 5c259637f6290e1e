use Prim.Native.Nat.{◌-◌, ◌≤◌}
use Rattle.recordings.proofs.Shows.{Counts}
use Rattle.recordings.proofs.shown.count_shown.Given as goal

abbrev pub invariant-loop-i : goal.invariant-loop-i
invariant-loop-i l = (l.c ≤ l.i) × (Counts l.which l.x l.y l.n l.c l.i)
