use mathlib.Core.Path.{◌≡◌}
use Prim.Native.Nat.{◌-◌}
use lib.ListN.{length}
use Rattle.tables.specs.Tables.{mark_on, marked_line}
use Rattle.replay.proofs.page.mark_line.Given as goal

abbrev pub invariant-loop-i : goal.invariant-loop-i
invariant-loop-i l = (length l.b ≡ length l.initial.b) × (mark_on (l.n - l.i) l.b l.p l.i ≡ marked_line l.initial.b l.p)
