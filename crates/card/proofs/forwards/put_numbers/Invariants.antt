use Prim.Native.Nat.{◌*◌, ◌-◌, ◌≤◌}
use mathlib.Core.Path.{◌≡◌}
use lib.ListN.{length, drop}
use lib.Seq.{sets}
use Rattle.book.specs.Books.{eights}
use Rattle.card.specs.Forwarding.{heading_bytes, heading_numbers}
use Rattle.card.proofs.forwards.put_numbers.Given as goal

abbrev pub invariant-loop-i : goal.invariant-loop-i
invariant-loop-i l = (l.i ≤ 10) × (length l.heading ≡ heading_bytes) × (sets l.heading (8 * l.i) (eights (drop l.i (heading_numbers l.h))) ≡ eights (heading_numbers l.h))

abbrev pub decreases-loop-i : goal.decreases-loop-i
decreases-loop-i l = 10 - l.i
