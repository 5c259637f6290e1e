use native.Mathlib.Omega.{arith}
use Rattle.elements.proofs.Whole.{whole_most}
use Rattle.inner.proofs.HeaderLaws.{reference_most}
use Rattle.inner.proofs.header.read_header_by_fields.Goals as goal

pub overflow_cast-identification : goal.overflow_cast-identification
overflow_cast-identification c = omega (arith, whole_most _ _ 0 63 _ _ _ c.whole-2.ensures c.in_ok-identification.was)

pub overflow_cast-reference : goal.overflow_cast-reference
overflow_cast-reference c = omega (arith, reference_most _ _ _ _ _ _ c.read_reference.ensures c.in_ok-reference.was)
