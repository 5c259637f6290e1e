use mathlib.Core.Path.{◌≡◌, ◌∙◌}
use Rattle.std.proofs.Common.{rules}
use Rattle.std.specs.Prelude.{Err}
use Rattle.inner.proofs.Filling.{filled_turn, filled_bad, filled_done}
use Rattle.inner.proofs.five.read_places.Goals as goal

pub returns-in_err-places : goal.returns-in_err-places
returns-in_err-places c =
    let e : c.from_residual.result ≡ Err c.in_err-places.field-0.0 = search rules in
    e ∙ filled_bad _ _ _ _ _ _ _ _ _ c.loop-i-test.true c.read_element.ensures
    c.in_err-places.was c.loop-i.invariant

pub loop-i-preserved : goal.loop-i-preserved
loop-i-preserved c =
    filled_turn _ _ _ _ _ _ _ _ _ _ c.loop-i-test.true c.requires c.read_element.ensures
    c.in_ok-places.was c.loop-i.invariant

pub returns : goal.returns
returns c = filled_done _ _ _ _ _ _ _ c.loop-i-test.false c.loop-i.auto.i-end c.requires c.loop-i.invariant
