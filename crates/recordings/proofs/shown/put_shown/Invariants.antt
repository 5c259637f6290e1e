use mathlib.Core.Path.{◌≡◌}
use Prim.Native.Nat.{◌-◌, ◌≤◌}
use lib.ListN.{length}
use Rattle.recordings.proofs.Shows.{Behind}
use Rattle.recordings.proofs.Places.{Puts}
use Rattle.recordings.proofs.shown.put_shown.Given as goal

abbrev pub invariant-loop-i : goal.invariant-loop-i
invariant-loop-i l = (length l.list ≡ length l.initial.list) × (Behind l.which l.x l.y l.n l.p l.k l.i) × (Puts l.which l.block l.x l.y l.n l.initial.list l.list l.p l.k l.i)
