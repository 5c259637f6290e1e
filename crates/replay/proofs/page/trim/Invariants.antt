use mathlib.Core.Path.{◌≡◌}
use Prim.Native.Nat.{◌-◌}
use lib.ListN.{length}
use Rattle.tables.specs.Tables.{trim_on, trimmed}
use Rattle.replay.proofs.page.trim.Given as goal

abbrev pub invariant-loop-i : goal.invariant-loop-i
invariant-loop-i l = (length l.p ≡ length l.initial.p) × (trim_on (l.n - l.i) l.p l.number l.left l.i l.kept l.met ≡ trimmed l.initial.p l.number l.left)
