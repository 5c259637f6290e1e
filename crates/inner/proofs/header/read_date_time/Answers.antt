use native.Mathlib.Omega.{arith}
use Rattle.elements.proofs.Whole.{whole_most}
use Rattle.inner.proofs.header.read_date_time.Goals as goal

pub overflow_cast-year : goal.overflow_cast-year
overflow_cast-year c = omega (arith, whole_most _ _ 1996 2095 _ _ _ c.whole.ensures c.in_ok-year.was)

pub overflow_cast-month : goal.overflow_cast-month
overflow_cast-month c = omega (arith, whole_most _ _ 1 12 _ _ _ c.whole-2.ensures c.in_ok-month.was)

pub overflow_cast-day : goal.overflow_cast-day
overflow_cast-day c = omega (arith, whole_most _ _ 1 31 _ _ _ c.whole-3.ensures c.in_ok-day.was)
