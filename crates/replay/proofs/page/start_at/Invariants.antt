use mathlib.Core.Path.{◌≡◌}
use Prim.Native.Nat.{◌-◌, ◌≤◌}
use Rattle.tables.specs.Tables.{start_on, start_in}
use Rattle.replay.proofs.page.start_at.Given as goal

abbrev pub invariant-loop-i : goal.invariant-loop-i
invariant-loop-i l = (l.i ≤ l.n) × (start_on (l.n - l.i) l.p l.number l.i ≡ start_in l.p l.number)
