use mathlib.Core.Path.{◌≡◌, ◌∙◌}
use native.Mathlib.Omega.{arith}
use Rattle.std.proofs.Common.{rules}
use Rattle.std.specs.Prelude.{Err}
use Rattle.inplace.proofs.Bodies.{row_turn, row_bad, row_done}
use Rattle.inplace.proofs.row_end.Goals as goal

pub returns-in_err-p : goal.returns-in_err-p
returns-in_err-p c =
    let e : c.from_residual.result ≡ Err c.in_err-p.field-0.0 = search rules in
    e ∙ row_bad _ _ _ _ _ _ c.loop.invariant _ _ (omega arith) c.read_element.ensures c.in_err-p.was

pub loop-preserved : goal.loop-preserved
loop-preserved c =
    row_turn _ _ _ _ _ _ c.loop.invariant _ _ _ (omega arith) c.read_element.ensures c.in_ok-p.was

pub returns : goal.returns
returns c = row_done _ _ _ _ _ _ c.loop.invariant (omega arith)
