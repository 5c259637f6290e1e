use mathlib.Core.Path.{refl, sym, ◌∙◌}
use native.Mathlib.Omega.{arith}
use lib.ListN.{length-set}
use borrow.Author.Rules.{rules}
use Rattle.recordings.proofs.Places.{write_start, write_turn, write_done}
use Rattle.recordings.proofs.shown.put_place.Goals as goal

pub loop-i-init : goal.loop-i-init
loop-i-init c = (refl, write_start _ _ _)

pub bounds-list-at : goal.bounds-list-at
bounds-list-at c = omega (arith, c.loop-i.invariant.0, c.requires)

pub loop-i-preserved : goal.loop-i-preserved
loop-i-preserved c = (
  simp length-set c.loop-i.invariant.0,
  write_turn _ _ _ _ _ (omega arith)
      c.loop-i.invariant.1,
)

pub shape_of-list : goal.shape_of-list
shape_of-list c = c.loop-i.invariant.0

pub returns : goal.returns
returns c = sym (write_done _ _ c.loop-i.i _ (omega arith)) ∙ c.loop-i.invariant.1
