use Rattle.layout.proofs.InOrder.{standing_more, standing_not, standing_done}
use Rattle.layout.proofs.stored.places_stand.Goals as goal

pub loop-i-preserved : goal.loop-i-preserved
loop-i-preserved c =
    standing_more _ _ c.loop-i-test.true _ c.place_stands.ensures c.if-not-place_stands.false
    c.loop-i.invariant

pub returns-then-not-place_stands : goal.returns-then-not-place_stands
returns-then-not-place_stands c =
    standing_not _ _ c.loop-i-test.true _ c.place_stands.ensures c.if-not-place_stands.true c.loop-i.invariant

pub returns : goal.returns
returns c = standing_done _ _ c.loop-i-test.false c.loop-i.invariant
