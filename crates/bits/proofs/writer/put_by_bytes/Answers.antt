use borrow.Author.Rules.{rules}
use mathlib.Core.Path.{refl, sym, ◌∙◌}
use native.Mathlib.Omega.{arith}
use lib.ListN.{length-set}
use Rattle.bits.proofs.Putting.{turn, done}
use Rattle.bits.proofs.writer.put_by_bytes.Goals as goal

pub loop-i-preserved : goal.loop-i-preserved
loop-i-preserved c = (
  search rules,
  simp length-set c.loop-i.invariant.1,
  turn _ _ _ _ _ _ c.min-k.result _ _ _ _
      (omega arith) (omega arith) (omega arith) (omega arith) c.pow2.ensures refl
      c.with_piece.ensures refl c.loop-i.invariant.2,
)

pub returns : goal.returns
returns c = sym (done _ _ _ _ _ (omega arith)) ∙ c.loop-i.invariant.2
