use mathlib.Core.Path.{◌≡◌, refl, sym, ap}
use borrow.Author.Rules.{rules}
use Rattle.std.specs.Prelude.{Err}
use Rattle.machine.specs.Outcome.{refusal_number, is_none}
use mathlib.Core.List.{[]}
use Rattle.apdu.specs.Pdus.{lent}
use Rattle.step.specs.Call.{user_by}
use Rattle.step.proofs.Calling.{not_opened, is_opened, host_answers, host_refused, host_taken}
use Rattle.step.proofs.call.host_answer.Goals as goal

pub returns-in_err-side : goal.returns-in_err-side
unfolding user_by
returns-in_err-side c =
    let e : c.from_residual.result ≡ Err c.in_err-side.field-0.0 = search rules in
    rw e (not_opened _ _ _ _ _ c.opened.ensures _ c.in_err-side.was)

pub returns-in-Some : goal.returns-in-Some
unfolding user_by
returns-in-Some c =
    is_opened _ _ _ _ _ c.opened.ensures _ c.in_ok-side.was _ (host_refused _ _ _ c.args.e (lent []) (lent []) (lent []) _ _ _ _
    c.host_step-o.ensures _ refl _ (ap is_none c.in-Some.is) (sym (ap refusal_number c.in-Some.is)))

pub put_reply-sent-requires : goal.put_reply-sent-requires
put_reply-sent-requires c = host_answers _ _ c.args.e _ c.host_step-o.ensures

pub returns : goal.returns
unfolding user_by
returns c =
    is_opened _ _ _ _ _ c.opened.ensures _ c.in_ok-side.was _ (host_taken _ _ _ c.args.e (lent []) (lent []) (lent []) _ _ _ _
    c.host_step-o.ensures _ refl (ap is_none c.in_default.is) _ _ c.put_reply-sent.ensures _ _ c.settle.ensures)
