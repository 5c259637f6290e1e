-- Document 01, refusal 16: an element whose argument kind is not listed is refused at its index, whatever follows it.
-- Assumes nothing.
use mathlib.Core.Path.{◌≡◌}
use mathlib.Core.List.{List}
use Prim.Native.Nat.{ℕ, ◌+◌}
use Rattle.fields.specs.Fields.{refused_at, extensible_index}
use Rattle.fields.specs.declared.Fault.TheVariants as fault
use Rattle.kinds.specs.declared.Direction.{Direction}
use Rattle.kinds.specs.declared.ArgumentKind.TheVariants as kind
use Rattle.kinds.specs.Elements.{kind_of}
use Rattle.elements.specs.OneElement.{last_of, argument_at, element_at}
use Rattle.std.specs.Prelude.{Ok}

pub not_carried : (d : Direction) (l : List ℕ) (at i next : ℕ) → extensible_index l at (last_of d) ≡ Ok (i, next)
    → kind_of d i ≡ kind.NotCarried → element_at d l at ≡ refused_at (at + 1) fault.NotCarried
unfolding element_at argument_at
not_carried d l at i next p q = rw (p, q)
