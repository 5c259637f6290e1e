use mathlib.Core.Path.{◌≡◌}
use Prim.Native.Nat.{◌+◌, ◌*◌}
use lib.ListN.{length, drop}
use Rattle.elements.specs.Writing.{number_pieces, put_pieces}
use Rattle.elements.proofs.numbers.put_eights.Given as goal

abbrev pub invariant-loop-k : goal.invariant-loop-k
invariant-loop-k l = (length l.buf ≡ length l.initial.buf) × (put_pieces l.buf l.end (l.at + 56 * l.k) (number_pieces 127 (drop (8 * l.k) l.items)) ≡ put_pieces l.initial.buf l.end l.at (number_pieces 127 l.items))
