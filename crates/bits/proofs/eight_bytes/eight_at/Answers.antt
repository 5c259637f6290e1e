use mathlib.Core.Path.{◌≡◌}
use Prim.Native.Nat.{◌+◌, ◌*◌}
use native.Mathlib.Omega.{arith}
use Rattle.bits.specs.Bits.{num_of, run}
use Rattle.bits.proofs.EightBytes.{run_lt, halves}
use Rattle.bits.proofs.eight_bytes.eight_at.Goals as goal

pub overflow_mul-result : goal.overflow_mul-result
overflow_mul-result c = omega (arith, run_lt _ _ 32 _ (omega arith) c.four_at.ensures)

pub overflow_add-result : goal.overflow_add-result
overflow_add-result c =
    let sum : c.four_at.result * 4294967296 + c.four_at-2.result ≡ num_of (run c.args.s.now (8 * c.args.q) 64) = halves _ _ _ _ (omega arith) c.four_at.ensures c.four_at-2.ensures in
    omega (arith, run_lt _ _ 64 _ (omega arith) sum)

pub returns : goal.returns
returns c =
    let sum : c.four_at.result * 4294967296 + c.four_at-2.result ≡ num_of (run c.args.s.now (8 * c.args.q) 64) = halves _ _ _ _ (omega arith) c.four_at.ensures c.four_at-2.ensures in
    sum
