use mathlib.Core.Path.{sym, ◌∙◌}
use native.Mathlib.Omega.{arith}
use Rattle.bits.proofs.Bytes.{bits_to_is}
use Rattle.apdu.specs.Sizes.{all_bits}
use Rattle.apdu.proofs.Forwards.{characters_few}
use Rattle.apdu.proofs.headings.heading_at.Goals as goal

pub overflow_mul-characters : goal.overflow_mul-characters
overflow_mul-characters c =
    omega (
      arith,
      characters_few _ _ _ _ (bits_to_is c.args.s.now all_bits)
          (sym c.whole.ensures ∙ c.in_ok-characters.was),
    )
