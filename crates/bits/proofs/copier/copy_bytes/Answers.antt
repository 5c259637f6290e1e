use Prim.Native.Nat.{◌+◌, ◌/◌}
use mathlib.Core.Path.{refl, sym, ◌∙◌}
use native.Mathlib.Omega.{arith}
use lib.ListN.{length-set}
use Rattle.bits.proofs.Copying.{byte_turn, none_left}
use Rattle.bits.proofs.copier.copy_bytes.Goals as goal

pub loop-i-preserved : goal.loop-i-preserved
loop-i-preserved c = (
  simp length-set c.loop-i.invariant.0,
  byte_turn _ _ _ _ _ _ _ _ _ _ _ (omega arith) (omega arith)
      (omega arith) refl refl (omega (
        arith,
        c.type_inv.src (c.args.at / 8 + c.loop-i.i + 1),
      )) c.eight.ensures
      refl c.loop-i.invariant.1,
)

pub returns : goal.returns
returns c = sym (none_left _ _ _ _ _ (omega arith)) ∙ c.loop-i.invariant.1
