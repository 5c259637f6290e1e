use native.Mathlib.Omega.{arith}
use Rattle.bits.proofs.Joining.{joined}
use Rattle.bits.proofs.Reading.{turn_fits, turn_lt}
use Rattle.bits.proofs.EightBytes.{run_lt}
use Prim.Native.Nat.{◌<◌, ◌+◌, ◌*◌, ◌^◌}
use Rattle.bits.proofs.led.put_joined.Goals as goal

pub overflow_mul-v : goal.overflow_mul-v
overflow_mul-v c =
    let small : c.number_at-w.result < 2 ^ c.args.k = run_lt _ _ _ _ (omega (arith, c.requires)) c.number_at-w.ensures in
    let sum : c.args.v * c.pow2.result + c.number_at-w.result < 2 ^ 64 = turn_fits _ _ _ c.args.n c.args.k c.requires.1 c.pow2.ensures small (omega (arith, c.requires)) in
    omega (arith, sum)

pub overflow_add-v : goal.overflow_add-v
overflow_add-v c =
    let small : c.number_at-w.result < 2 ^ c.args.k = run_lt _ _ _ _ (omega (arith, c.requires)) c.number_at-w.ensures in
    let sum : c.args.v * c.pow2.result + c.number_at-w.result < 2 ^ 64 = turn_fits _ _ _ c.args.n c.args.k c.requires.1 c.pow2.ensures small (omega (arith, c.requires)) in
    omega (arith, sum)

pub put_number_at-requires : goal.put_number_at-requires
put_number_at-requires c =
    let small : c.number_at-w.result < 2 ^ c.args.k = run_lt _ _ _ _ (omega (arith, c.requires)) c.number_at-w.ensures in (
      (omega (arith, c.requires), omega (arith, c.requires)),
      omega (arith, c.requires),
      turn_lt _ _ _ _ _ c.requires.1
          c.pow2.ensures small,
    )

pub returns : goal.returns
returns c =
    joined _ _ _ _ _ _ _ _ _ _ (omega (arith, c.requires)) c.pow2.ensures c.number_at-w.ensures
    c.put_number_at.ensures
