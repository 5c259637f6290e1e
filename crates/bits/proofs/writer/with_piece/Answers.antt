use Prim.Native.Nat.{◌+◌, ◌*◌, ◌/◌, ◌%◌, ◌<◌}
use native.Mathlib.Omega.{arith}
use Rattle.bits.proofs.Putting.{piece_put, byte_lt}
use borrow.Author.Rules.{rules}
use Rattle.bits.proofs.writer.with_piece.Goals as goal

pub overflow_cast-result : goal.overflow_cast-result
overflow_cast-result c =
    let sum : c.args.x / c.pow2-above.result * c.pow2-above.result + c.args.p * c.pow2-low.result + c.args.x % c.pow2-low.result < 256 = rw (
      c.pow2-above.ensures,
      c.pow2-low.ensures,
      piece_put c.args.x
          c.args.r c.args.k c.args.p (search rules) c.requires.0 c.requires.1,
    ) (byte_lt _ _ _ _) in
    omega (arith, sum)

pub returns : goal.returns
returns c =
    rw (c.pow2-above.ensures, c.pow2-low.ensures)
    (piece_put _ _ _ _ (search rules) c.requires.0 c.requires.1)
