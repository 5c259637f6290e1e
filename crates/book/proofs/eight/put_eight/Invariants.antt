use Prim.Native.Nat.{◌+◌, ◌-◌, ◌≤◌}
use mathlib.Core.Path.{◌≡◌}
use lib.ListN.{length}
use lib.Seq.{sets}
use Rattle.book.specs.Books.{octets}
use Rattle.book.proofs.eight.put_eight.Given as goal

abbrev pub invariant-loop-i : goal.invariant-loop-i
invariant-loop-i l = (length l.b ≡ length l.initial.b) × (sets l.b (l.at + l.i) (octets (8 - l.i) l.v) ≡ sets l.initial.b l.at (octets 8 l.v))
