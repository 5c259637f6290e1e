use borrow.Author.Rules.{rules}
use mathlib.Core.Path.{refl, sym, ◌∙◌}
use native.Mathlib.Omega.{arith}
use lib.ListN.{length-set}
use Rattle.book.proofs.Eights.{write_start, write_turn, write_done}
use Rattle.book.proofs.eight.put_eight.Goals as goal

pub loop-i-init : goal.loop-i-init
loop-i-init c = (refl, write_start _ _ _)

pub loop-i-preserved : goal.loop-i-preserved
loop-i-preserved c = (
  simp length-set c.loop-i.invariant.0,
  write_turn _ _ _ _ _ (omega arith)
      c.loop-i.invariant.1,
)

pub returns : goal.returns
returns c = sym (write_done _ _ _ _ (omega arith)) ∙ c.loop-i.invariant.1
