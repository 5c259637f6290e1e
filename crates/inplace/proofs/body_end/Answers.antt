use mathlib.Core.Path.{sym}
use borrow.Author.Tests.{eq-eqb}
use Rattle.inner.specs.Messages.{body_at}
use Rattle.inplace.proofs.Bodies.{after_laid}
use Rattle.inplace.proofs.body_end.Goals as goal

pub returns-then-constrained-eq0 : goal.returns-then-constrained-eq0
unfolding body_at
returns-then-constrained-eq0 c =
    rw (← c.whole.ensures, c.in_ok-constrained.was, eq-eqb _ _ c.if-constrained-eq0.true, ← c.whole-then-constrained-eq0.ensures, c.in_ok-n.was, after_laid)
    c.row_end.ensures
