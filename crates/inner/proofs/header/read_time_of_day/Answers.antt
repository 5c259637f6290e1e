use native.Mathlib.Omega.{arith}
use Rattle.elements.proofs.Whole.{whole_most}
use Rattle.inner.proofs.header.read_time_of_day.Goals as goal

pub overflow_cast-result : goal.overflow_cast-result
overflow_cast-result c = omega (arith, whole_most _ _ 0 59 _ _ _ c.whole.ensures c.in_ok-seconds.was)
