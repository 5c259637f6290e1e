use Prim.Native.Nat.{◌-◌}
use native.Mathlib.Omega.{arith}
use lib.Count.{trailing_le}
use Rattle.book.proofs.numbers.lowest_free.Goals as goal

pub overflow_cast-result : goal.overflow_cast-result
overflow_cast-result c = omega (arith, trailing_le 64 (18446744073709551615 - c.args.opened))
