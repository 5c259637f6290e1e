use lib.ListN.{get_or}
use borrow.Author.Rules.{rules}
use Prim.Native.Nat.{◌+◌, ◌*◌, ◌-◌, ◌/◌, ◌%◌, ◌^◌, ◌<◌}
use mathlib.Core.Path.{◌≡◌, refl}
use native.Mathlib.Omega.{arith}
use Rattle.bits.specs.Bits.{num_of, run}
use Rattle.bits.proofs.EightBytes.{nine_is, run_lt}
use Rattle.bits.proofs.eight_bytes.eight_of_nine.Goals as goal

pub overflow_add-result : goal.overflow_add-result
overflow_add-result c =
    let byte : get_or c.args.s.now (c.args.q + 8) 0 < 256 = omega (arith, c.type_inv.s (c.args.q + 8)) in
    let sum : c.eight_at-w.result * 2 ^ c.args.r % 2 ^ 64 + get_or c.args.s.now (c.args.q + 8) 0 / 2 ^ (8 - c.args.r) ≡ num_of (run c.args.s.now (8 * c.args.q + c.args.r) 64) = nine_is _ _ _ _ _ (search rules) (search rules) c.eight_at-w.ensures refl byte in
    omega (arith, run_lt _ _ 64 _ (omega arith) sum)

pub returns : goal.returns
returns c =
    let byte : get_or c.args.s.now (c.args.q + 8) 0 < 256 = omega (arith, c.type_inv.s (c.args.q + 8)) in
    let sum : c.eight_at-w.result * 2 ^ c.args.r % 2 ^ 64 + get_or c.args.s.now (c.args.q + 8) 0 / 2 ^ (8 - c.args.r) ≡ num_of (run c.args.s.now (8 * c.args.q + c.args.r) 64) = nine_is _ _ _ _ _ (search rules) (search rules) c.eight_at-w.ensures refl byte in
    sum
