use Prim.Native.Nat.{◌-◌, ◌≤◌}
use mathlib.Core.Path.{◌≡◌}
use Rattle.replay.specs.Watched.{found_in}
use Rattle.replay.proofs.watched.find.Given as goal

abbrev pub invariant-loop-i : goal.invariant-loop-i
invariant-loop-i l = (l.i ≤ l.n) × (found_in l.w l.air l.job l.i ≡ l.i)
