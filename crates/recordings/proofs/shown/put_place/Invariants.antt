use mathlib.Core.Path.{◌≡◌}
use Prim.Native.Nat.{◌+◌, ◌-◌, ◌≤◌}
use lib.ListN.{length}
use lib.Seq.{sets}
use Rattle.recordings.specs.Showing.{octets}
use Rattle.recordings.proofs.shown.put_place.Given as goal

abbrev pub invariant-loop-i : goal.invariant-loop-i
invariant-loop-i l = (length l.list ≡ length l.initial.list) × (sets l.list (l.at + l.i) (octets (8 - l.i) l.job) ≡ sets l.initial.list l.at (octets 8 l.job))
