use mathlib.Core.Path.{◌≡◌, refl, sym, ap}
use borrow.Author.Rules.{rules}
use Rattle.std.specs.Prelude.{Err}
use Rattle.machine.specs.Outcome.{refusal_number, is_none}
use Rattle.step.specs.Call.{forward_by}
use Rattle.step.proofs.Calling.{not_opened, is_opened, no_forward_shape, forward_refused, forward_taken}
use Rattle.step.proofs.call.forward_answer.Goals as goal

pub returns-in_err-side : goal.returns-in_err-side
unfolding forward_by
returns-in_err-side c =
    let e : c.from_residual.result ≡ Err c.in_err-side.field-0.0 = search rules in
    rw e (not_opened _ _ _ _ _ c.opened.ensures _ c.in_err-side.was)

pub returns-then-not-forward_given_fits : goal.returns-then-not-forward_given_fits
unfolding forward_by
returns-then-not-forward_given_fits c =
    is_opened _ _ _ _ _ c.opened.ensures _ c.in_ok-side.was _
    (no_forward_shape _ _ _ _ _ _ _ _ _ _ _ _ c.forward_given_fits.ensures c.if-not-forward_given_fits.true)

pub returns-in-Some : goal.returns-in-Some
unfolding forward_by
returns-in-Some c =
    is_opened _ _ _ _ _ c.opened.ensures _ c.in_ok-side.was _ (forward_refused _ _ _ _ _ _ _ _ _ _ _ _
    c.forward_given_fits.ensures c.if-not-forward_given_fits.false _ c.forward_step-o.ensures _ refl _ (ap is_none c.in-Some.is) (sym (ap refusal_number c.in-Some.is)))

pub returns : goal.returns
unfolding forward_by
returns c =
    is_opened _ _ _ _ _ c.opened.ensures _ c.in_ok-side.was _ (forward_taken _ _ _ _ _ _ _ _ _ _ _ _
    c.forward_given_fits.ensures c.if-not-forward_given_fits.false _ c.forward_step-o.ensures _ refl (ap is_none c.in_default.is) _ _ _
    c.pdus_of.ensures c.put_forward_pdu-sent.ensures _ _ c.settle.ensures)
