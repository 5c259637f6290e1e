use mathlib.Core.Path.{◌≡◌}
use Prim.Native.Nat.{◌-◌}
use lib.ListN.{length}
use Rattle.tables.specs.Tables.{tell_on, told}
use Rattle.replay.proofs.page.tell.Given as goal

abbrev pub invariant-loop-i : goal.invariant-loop-i
invariant-loop-i l = (length l.p ≡ length l.initial.p) × (tell_on (l.n - l.i) l.p l.i l.fate ≡ told l.initial.p l.fate)
