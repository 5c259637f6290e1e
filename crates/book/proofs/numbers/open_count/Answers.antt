use native.Mathlib.Omega.{arith}
use lib.Count.{ones-le}
use Rattle.book.proofs.numbers.open_count.Goals as goal

pub overflow_cast-result : goal.overflow_cast-result
overflow_cast-result c = omega (arith, ones-le 64 c.args.opened (omega arith))
