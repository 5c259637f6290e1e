use mathlib.Core.Path.{◌≡◌}
use Prim.Native.Nat.{◌*◌, ◌^◌, ◌<◌}
use lib.ListN.{take}
use Rattle.bits.specs.Bits.{bits_n}
use Rattle.elements.specs.Arguments.{characters_bits}
use Rattle.elements.proofs.numbers.gathered.Given as goal

abbrev pub invariant-loop-item : goal.invariant-loop-item
invariant-loop-item l = (bits_n (7 * l.item-index) l.v ≡ characters_bits (take l.item-index l.items)) × (l.v < 2 ^ (7 * l.item-index))
