use Prim.Native.Nat.{◌*◌, ◌-◌, ◌^◌, ◌≤◌, ◌<◌}
use mathlib.Core.Path.{◌≡◌}
use lib.ListN.{take, drop}
use Rattle.book.specs.Books.{number_of}
use Rattle.book.proofs.eight.eight_at.Given as goal

abbrev pub invariant-loop-i : goal.invariant-loop-i
invariant-loop-i l = (l.v ≡ number_of 0 (take l.i (drop l.at l.b))) × (l.v < 2 ^ (8 * l.i))
