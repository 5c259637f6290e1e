use mathlib.Core.Path.{◌≡◌}
use mathlib.Core.List.{◌++◌}
use Prim.Native.Nat.{◌-◌, ◌≤◌}
use lib.ListN.{length, drop}
use Rattle.recordings.proofs.Shows.{zeros}
use Rattle.recordings.proofs.shown.clear.Given as goal

abbrev pub invariant-loop-i : goal.invariant-loop-i
invariant-loop-i l = (length l.tallies ≡ length l.initial.tallies) × (l.tallies ≡ zeros l.i ++ drop l.i l.initial.tallies)
