use mathlib.Core.Path.{refl}
use Prim.Native.Nat.{◌+◌, ◌/◌}
use native.Mathlib.Omega.{arith}
use Rattle.bits.proofs.EightBytes.{in_two_bytes}
use Rattle.bits.proofs.reader.number_over_bytes.Goals as goal

pub returns-then-in_two : goal.returns-then-in_two
returns-then-in_two c =
    in_two_bytes _ _ _ _ _ _ (omega (arith, c.in_two.ensures c.if-in_two.true))
    (c.in_two.ensures c.if-in_two.true).1 refl
    (omega (arith, c.type_inv.s (c.args.at / 8))) refl
    (omega (arith, c.type_inv.s (c.args.at / 8 + 1))) c.piece_of_two.ensures
