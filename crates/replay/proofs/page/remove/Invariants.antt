use mathlib.Core.Path.{◌≡◌}
use Prim.Native.Nat.{◌-◌}
use lib.ListN.{length}
use Rattle.tables.specs.Tables.{draw_on}
use Rattle.replay.proofs.page.remove.Given as goal

abbrev pub invariant-loop-i : goal.invariant-loop-i
invariant-loop-i l = (length l.p ≡ length l.initial.p) × (draw_on (l.n - l.i) l.p l.i ≡ draw_on (l.n - l.at) l.initial.p l.at)
