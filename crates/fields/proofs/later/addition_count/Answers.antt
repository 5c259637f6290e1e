use mathlib.Core.Path.{sym, ◌∙◌}
use native.Mathlib.Omega.{arith}
use Rattle.bits.proofs.Bytes.{bits_to_is}
use Rattle.fields.proofs.Stepping.{count_small}
use Rattle.fields.proofs.later.addition_count.Goals as goal

pub overflow_add-result : goal.overflow_add-result
overflow_add-result c =
    omega (arith, count_small _ _ _ _ (bits_to_is _ _) (sym c.bit_field.ensures ∙ c.in_ok-v.was))
