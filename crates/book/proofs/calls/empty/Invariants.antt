use Prim.Native.Nat.{◌*◌, ◌-◌, ◌≤◌}
use mathlib.Core.Path.{◌≡◌}
use mathlib.Core.List.{◌++◌}
use lib.ListN.{length, replicate, drop}
use Rattle.book.proofs.calls.empty.Given as goal

-- A `for` ends and has no measure. Where must-fail/emptying_never_ends.edit plants a `while`, these two lines become its measure:
-- the signature of decreases-loop-i
-- decreases-loop-i l = 65 - l.i

abbrev pub invariant-loop-i : goal.invariant-loop-i
invariant-loop-i l = (length l.initial.b ≡ 520) × (length l.b ≡ 520) × (l.b ≡ replicate (8 * l.i) 0 ++ drop (8 * l.i) l.initial.b)
