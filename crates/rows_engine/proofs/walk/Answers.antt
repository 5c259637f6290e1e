use mathlib.Core.Path.{refl, ◌∙◌}
use native.Mathlib.Omega.{arith}
use Rattle.rows.specs.Table.{rows}
use Rattle.rows_engine.proofs.Digits.{number_of_row, numbers, number_row}
use Rattle.rows_engine.proofs.Walking.{found, turn, done}
use Rattle.rows_engine.proofs.walk.Goals as goal

pub loop-x-init : goal.loop-x-init
loop-x-init c = refl

pub returns-then-fits : goal.returns-then-fits
unfolding numbers number_of_row rows
returns-then-fits c =
    found _ _ _ _ c.loop-x.x-index _ _ c.loop-x-test.true c.loop-x.invariant
    (c.row_of-row.ensures ∙ number_row c.loop-x.x-index)
    c.fits.ensures c.if-fits.true

pub loop-x-preserved : goal.loop-x-preserved
unfolding numbers number_of_row rows
loop-x-preserved c =
    turn _ _ _ _ c.loop-x.x-index _ _ c.loop-x-test.true c.loop-x.invariant
    (c.row_of-row.ensures ∙ number_row c.loop-x.x-index)
    c.fits.ensures c.if-fits.false

pub returns : goal.returns
returns c = done _ _ _ _ c.loop-x.x-index (omega arith) (omega arith) c.loop-x.invariant
