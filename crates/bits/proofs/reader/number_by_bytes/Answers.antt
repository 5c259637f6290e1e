use borrow.Author.Rules.{rules}
use mathlib.Core.Path.{sym}
use native.Mathlib.Omega.{arith}
use lib.Pow.{pow_pos}
use Rattle.bits.proofs.Numbers.{num_nil}
use Rattle.bits.proofs.Bytes.{run_zero}
use Rattle.bits.proofs.Reading.{turn, turn_lt, turn_fits, piece_lt}
use Rattle.bits.proofs.reader.number_by_bytes.Goals as goal

pub loop-i-init : goal.loop-i-init
loop-i-init c = (search rules, sym (rw run_zero num_nil), search rules)

pub overflow_mul-v : goal.overflow_mul-v
overflow_mul-v c =
    omega (
      arith,
      turn_fits c.loop-i.v c.pow2.result 0 c.loop-i.i c.min-k.result
          c.loop-i.invariant.2 c.pow2.ensures (pow_pos _) (omega arith),
    )

pub overflow_add-v : goal.overflow_add-v
overflow_add-v c =
    omega (
      arith,
      turn_fits c.loop-i.v c.pow2.result c.piece.result
          c.loop-i.i c.min-k.result c.loop-i.invariant.2
          c.pow2.ensures (piece_lt _ _ _ _ c.piece.ensures) (omega arith),
    )

pub loop-i-preserved : goal.loop-i-preserved
loop-i-preserved c = (
  search rules,
  turn c.args.s.now c.args.at c.loop-i.i c.min-k.result _ _ _
      (omega arith) (omega arith) (omega arith) c.pow2.ensures c.piece.ensures
      c.loop-i.invariant.1,
  turn_lt _ _ _ _ _ c.loop-i.invariant.2
      c.pow2.ensures (piece_lt _ _ _ _ c.piece.ensures),
)
