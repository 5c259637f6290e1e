use mathlib.Core.Path.{refl, sym, ap}
use Rattle.machine.specs.Outcome.{refusal_number, is_none}
use Rattle.step.proofs.Calling.{is_taken_is, is_refused}
use Rattle.step.proofs.call.conclude.Goals as goal

pub returns-in-Some : goal.returns-in-Some
returns-in-Some c =
    is_refused _ _ _ _ _ _ _ _ _ _ refl _ (ap is_none c.in-Some.is) (sym (ap refusal_number c.in-Some.is))

pub returns : goal.returns
returns c =
    is_taken_is _ _ _ _ _ _ _ _ _ _ refl (ap is_none c.in_default.is) c.requires.0 _ _ _ _
    c.put_reply-sent.ensures c.deliver-given.ensures _ _ c.settle.ensures
