use native.Mathlib.Omega.{arith}
use Rattle.fields.proofs.Widths.{leading_digits}
use Rattle.fields.proofs.numbers.width.Goals as goal

pub returns : goal.returns
returns c = omega (arith, leading_digits 64 c.args.n)
