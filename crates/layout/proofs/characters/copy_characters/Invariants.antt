use mathlib.Core.Path.{◌≡◌}
use Prim.Native.Nat.{◌+◌, ◌*◌, ◌-◌}
use lib.ListN.{length}
use lib.Seq.{sets}
use Rattle.bits.specs.Bits.{bits_to}
use Rattle.elements.specs.Arguments.{characters_in}
use Rattle.layout.proofs.characters.copy_characters.Given as goal

abbrev pub invariant-loop-k : goal.invariant-loop-k
invariant-loop-k l = (length l.text ≡ length l.initial.text) × (sets l.text (l.from + 8 * l.k) (characters_in (bits_to l.s l.end) (l.at + 7 * (8 * l.k)) (l.n - 8 * l.k)) ≡ sets l.initial.text l.from (characters_in (bits_to l.s l.end) l.at l.n))
