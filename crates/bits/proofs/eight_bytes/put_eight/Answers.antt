use mathlib.Core.Path.{refl, sym, ◌∙◌}
use native.Mathlib.Omega.{arith}
use lib.ListN.{length-set}
use Rattle.bits.proofs.EightBytes.{put_turn, put_done}
use Rattle.bits.proofs.eight_bytes.put_eight.Goals as goal

pub loop-i-preserved : goal.loop-i-preserved
loop-i-preserved c = (
  simp length-set c.loop-i.invariant.0,
  put_turn _ _ _ _ _ _ _ (omega arith) (omega arith) refl
      refl c.loop-i.invariant.1,
)

pub returns : goal.returns
returns c = sym (put_done _ _ _ _ (omega arith)) ∙ c.loop-i.invariant.1
