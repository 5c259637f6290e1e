use mathlib.Core.Path.{◌≡◌, refl, sym, ap}
use borrow.Author.Rules.{rules}
use Rattle.std.specs.Prelude.{Err}
use Rattle.machine.specs.Outcome.{refusal_number, is_none}
use Rattle.step.specs.Call.{user_by}
use Rattle.step.proofs.Calling.{not_opened, is_opened, gives, no_shape, user_refused, user_taken}
use Rattle.step.proofs.call.user_answer.Goals as goal

pub returns-in_err-side : goal.returns-in_err-side
unfolding user_by
returns-in_err-side c =
    let e : c.from_residual.result ≡ Err c.in_err-side.field-0.0 = search rules in
    rw e (not_opened _ _ _ _ _ c.opened.ensures _ c.in_err-side.was)

pub returns-then-not-given_fits : goal.returns-then-not-given_fits
unfolding user_by
returns-then-not-given_fits c =
    is_opened _ _ _ _ _ c.opened.ensures _ c.in_ok-side.was _ (no_shape _ _ _ _ _ _ _ _ _ _ _ _ _ _ c.pdus_of.ensures
    c.given_fits.ensures c.if-not-given_fits.true)

pub returns-in-Some : goal.returns-in-Some
unfolding user_by
returns-in-Some c =
    is_opened _ _ _ _ _ c.opened.ensures _ c.in_ok-side.was _ (user_refused _ _ _ _ _ _ _ _ _ _ _ _ _ _ c.pdus_of.ensures
    c.given_fits.ensures c.if-not-given_fits.false _ c.user_step-o.ensures _ refl _ (ap is_none c.in-Some.is) (sym (ap refusal_number c.in-Some.is)))

pub put_given-sent-requires : goal.put_given-sent-requires
put_given-sent-requires c = gives _ _ _ _ _ _ c.user_step-o.ensures

pub returns : goal.returns
unfolding user_by
returns c =
    is_opened _ _ _ _ _ c.opened.ensures _ c.in_ok-side.was _ (user_taken _ _ _ _ _ _ _ _ _ _ _ _ _ _ c.pdus_of.ensures
    c.given_fits.ensures c.if-not-given_fits.false _ c.user_step-o.ensures _ refl (ap is_none c.in_default.is) _ _ c.put_given-sent.ensures _
    c.held_after-number.ensures _ _ c.settle.ensures)
