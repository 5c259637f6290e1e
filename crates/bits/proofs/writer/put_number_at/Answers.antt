use mathlib.Core.Path.{sym, ap, ◌∙◌}
use Prim.Native.Nat.{◌/◌}
use native.Mathlib.Omega.{arith}
use lib.ListN.{set}
use Rattle.bits.proofs.Putting.{number_in_byte}
use Rattle.bits.proofs.writer.put_number_at.Goals as goal

pub returns-then-in_one : goal.returns-then-in_one
returns-then-in_one c =
    let one = c.in_one.ensures c.if-in_one.true in
    ap (set c.args.buf.now (c.args.at / 8)) c.with_piece.ensures
    ∙ sym (number_in_byte c.args.buf.now c.args.at c.args.n c.args.v one.0 (omega arith) one.1)
