use mathlib.Core.Path.{◌≡◌, sym, ◌∙◌}
use Prim.Native.Nat.{◌+◌, ◌-◌}
use native.Mathlib.Omega.{arith}
use Rattle.std.proofs.Common.{rules}
use Rattle.std.specs.Prelude.{Err}
use Rattle.fields.proofs.Stepping.{stepped_done, stepped_handed, stepped_on}
use Rattle.fields.proofs.later.step_over.Goals as goal

pub returns-in_err-p : goal.returns-in_err-p
returns-in_err-p c =
    let e : c.from_residual.result ≡ Err c.in_err-p.field-0.0 = search rules in
    e ∙ stepped_handed _ _ _ _ c.loop.invariant (c.args.count - (c.loop.counter + 1)) (omega arith) _
    (sym c.addition.ensures ∙ c.in_err-p.was)

pub loop-preserved : goal.loop-preserved
loop-preserved c =
    stepped_on _ _ _ _ c.loop.invariant (c.args.count - (c.loop.counter + 1)) (omega arith) _ _
    (sym c.addition.ensures ∙ c.in_ok-p.was)

pub returns : goal.returns
returns c = stepped_done _ _ _ _ c.loop.invariant (omega arith)
