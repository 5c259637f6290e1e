use mathlib.Core.Path.{◌≡◌}
use lib.ListN.{length, drop}
use Rattle.elements.specs.Writing.{number_pieces, put_pieces}
use Rattle.elements.proofs.numbers.put_numbers.Given as goal

abbrev pub invariant-loop-item : goal.invariant-loop-item
invariant-loop-item l = (length l.buf ≡ length l.initial.buf) × (put_pieces l.buf l.end l.p (number_pieces l.hi (drop l.item-index l.items)) ≡ put_pieces l.initial.buf l.end l.at (number_pieces l.hi l.items))
