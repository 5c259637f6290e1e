use native.Mathlib.Omega.{arith}
use Rattle.envelope.proofs.Sizes.{largest_is}
use Rattle.fragments.proofs.taking.in_record.Goals as goal

pub overflow_add-result : goal.overflow_add-result
overflow_add-result c = omega (arith, largest_is, c.requires)

pub overflow_add-result-2 : goal.overflow_add-result-2
overflow_add-result-2 c = omega (arith, largest_is, c.requires)
