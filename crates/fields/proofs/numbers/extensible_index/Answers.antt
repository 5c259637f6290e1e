use native.Mathlib.Omega.{arith}
use Rattle.fields.proofs.Widths.{width_most}
use Rattle.fields.proofs.Joined.{index_read}
use Rattle.fields.proofs.numbers.extensible_index.Goals as goal

pub overflow_add-width : goal.overflow_add-width
overflow_add-width c = omega (arith, c.width.ensures, width_most 64 c.args.last)

pub returns-in-Some : goal.returns-in-Some
returns-in-Some c = index_read _ _ _ _ _ _ _ (omega arith) c.width.ensures c.read_bits.ensures c.in-Some.is c.if-v-last.true
