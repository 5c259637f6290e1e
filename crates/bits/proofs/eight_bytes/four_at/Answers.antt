use lib.ListN.{get_or}
use Prim.Native.Nat.{◌+◌, ◌*◌, ◌<◌}
use mathlib.Core.Path.{◌≡◌, refl, sym}
use native.Mathlib.Omega.{arith}
use Rattle.bits.proofs.Numbers.{num_nil}
use Rattle.bits.proofs.Bytes.{run_zero}
use Rattle.bits.proofs.Reading.{turn_lt}
use Rattle.bits.proofs.EightBytes.{word_turn}
use Rattle.bits.proofs.eight_bytes.four_at.Goals as goal

pub loop-i-init : goal.loop-i-init
loop-i-init c = (sym (rw run_zero num_nil), omega arith)

pub loop-i-preserved : goal.loop-i-preserved
loop-i-preserved c =
    let byte : get_or c.args.s.now (c.args.q + c.loop-i.i) 0 < 256 = omega (arith, c.type_inv.s (c.args.q + c.loop-i.i)) in
    let e : 8 * (c.loop-i.i + 1) ≡ 8 * c.loop-i.i + 8 = omega arith in
    (word_turn _ _ _ _ _ (omega arith) refl byte c.loop-i.invariant.0, rw e (turn_lt _ 256 _ _ 8 c.loop-i.invariant.1 refl byte))
