use mathlib.Core.Path.{◌≡◌}
use Prim.Native.Nat.{◌+◌, ◌*◌, ◌-◌}
use lib.ListN.{length}
use lib.Seq.{sets}
use Rattle.bits.specs.Bits.{bits_n}
use Rattle.elements.specs.Arguments.{characters_in}
use Rattle.layout.proofs.characters.spread.Given as goal

abbrev pub invariant-loop-i : goal.invariant-loop-i
invariant-loop-i l = (length l.text ≡ length l.initial.text) × (sets l.text (l.from + l.i) (characters_in (bits_n (7 * l.n) l.v) (0 + 7 * l.i) (l.n - l.i)) ≡ sets l.initial.text l.from (characters_in (bits_n (7 * l.n) l.v) 0 l.n))
