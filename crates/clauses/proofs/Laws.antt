-- Laws of every step, of every record of the type; each is shown of the ways of a step.
-- Assumes nothing.
use mathlib.Core.Path.{◌≡◌, refl, ap, sym, subst, ◌∙◌}
use mathlib.Core.Bool.{Bool, true, false, not, cond, ◌&&◌}
use mathlib.Core.List.{List, [], ◌∷◌}
use Prim.Native.Nat.{ℕ, ◌≤◌, ◌<◌}
use native.Mathlib.Omega.{arith}
use lib.Dec.{T}
use Rattle.control.specs.Control.{is_idle, waits, goes, after, is_start}
use Rattle.machine.specs.Record.{fresh_record, with_timer, with_user, with_job, enter}
use Rattle.machine.specs.Outcome.{is_none, refused}
use Rattle.machine.specs.Exceptions.{tell, closes, aborts}
use Rattle.machine.specs.Calls.{sent, start_request, message_request}
use Rattle.machine.specs.Forwards.{forward_request, responds, forward_confirmed}
use Rattle.machine.specs.Primitives.{handed}
use Rattle.machine.specs.Step.{step}
use Rattle.machine.specs.Run.{Formed}
use Rattle.clauses.proofs.Runs.{run}
use Rattle.clauses.proofs.Ways.{Way, is_refused, is_closed, is_aborted, is_started, is_message, is_called, is_invited, is_confirmed, is_forwarding, is_responding, is_forwarded, is_read, ways, is_abort, within}
use Rattle.control.proofs.Moves.{is_confirmation, call_rests_is, primitive_rests_is, call_timed_is, call_held_is, primitive_timed_is, primitive_held_is, busy_takes}
use Rattle.control.specs.declared.Side.{Side}
use Rattle.control.specs.declared.Control.{Control}
use Rattle.control.specs.declared.Reply.{Reply}
use Rattle.control.specs.declared.Reply.TheVariants.{Accepted, Rejected}
use Rattle.control.specs.declared.Call.TheVariants.{MessageRequest}
use Rattle.control.specs.declared.Primitive.{Primitive}
use Rattle.control.specs.declared.Primitive.TheVariants.{DStart, DStartCnf, DTurnedAway, DData, DEnd, DEndCnf, DAbort, DPAbort}
use Rattle.machine.specs.declared.record.Configuration.{Configuration}
use Rattle.machine.specs.declared.record.Record.{Record}
use Rattle.machine.specs.declared.event.Event.{Event}
use Rattle.machine.specs.declared.outcome.Outcome.{Outcome}

never : {A : Type 0} → true ≡ false → A
never e = absurd (subst T e tt)

-- ---- entering IDLE sets DSC false, stops the timer and makes the user not active

pub record Rests (r : Record) : Type 0 where
  pub dsc : r.control.dsc ≡ false
  pub timer : r.timer ≡ false
  pub user : r.active ≡ false

enter_rests : (q : Record) (c : Control) → is_idle c ≡ true → c.dsc ≡ false → Rests (enter q c)
unfolding enter
enter_rests q c i d = record { dsc = d; timer = rw i; user = rw i }

way_rests : (sd : Side) (r : Record) (o : Outcome) → Way sd r o → is_none o.refusal ≡ true
    → is_idle o.next.control ≡ true → Rests o.next
unfolding closes aborts start_request message_request sent handed forward_request responds forward_confirmed enter
way_rests sd r o (is_refused w n) t i = never (sym t ∙ n)
way_rests sd r o (is_closed t a) n i = record { dsc = refl; timer = refl; user = refl }
way_rests sd r o (is_aborted p t a) n i = record { dsc = refl; timer = refl; user = refl }
way_rests sd r o (is_started m k s e) n i = never (sym i)
way_rests sd r o (is_message j e h) n i = never (sym i ∙ busy_takes sd r.control MessageRequest e refl)
way_rests sd r o (is_called k x a e b) n i = enter_rests r (goes r.control k) i (call_rests_is sd r.control k e i)
way_rests sd r o (is_invited m x e) n i = never (sym i)
way_rests sd r o (is_confirmed a m x e) n i =
    enter_rests (with_timer r false) (after r.control (DStartCnf a)) i (primitive_rests_is sd r.control (DStartCnf a) e i)
way_rests sd r o (is_forwarding k s e) n i = never (sym i)
way_rests sd r o (is_responding x s v t j b) n i = record { dsc = refl; timer = refl; user = refl }
way_rests sd r o (is_forwarded x v e) n i = record { dsc = refl; timer = refl; user = refl }
way_rests sd r o (is_read p t e w a) n i = enter_rests r (after r.control p) i (primitive_rests_is sd r.control p e i)

pub idle_rests : (sd : Side) (r : Record) (e : Event) → is_none (step sd r e).refusal ≡ true
    → is_idle (step sd r e).next.control ≡ true → Rests (step sd r e).next
idle_rests sd r e = way_rests sd r (step sd r e) (ways sd r e)

-- ---- a refused call changes nothing, the highest job included, and yields nothing

way_refused : (sd : Side) (r : Record) (o : Outcome) → Way sd r o → is_none o.refusal ≡ false → o ≡ refused o.refusal r
unfolding closes aborts start_request message_request sent handed forward_request responds forward_confirmed
way_refused sd r o (is_refused w n) f = refl
way_refused sd r o (is_closed t a) f = never f
way_refused sd r o (is_aborted p t a) f = never f
way_refused sd r o (is_started m k s e) f = never f
way_refused sd r o (is_message j e h) f = never f
way_refused sd r o (is_called k x a e b) f = never f
way_refused sd r o (is_invited m x e) f = never f
way_refused sd r o (is_confirmed a m x e) f = never f
way_refused sd r o (is_forwarding k s e) f = never f
way_refused sd r o (is_responding x s v t j b) f = never f
way_refused sd r o (is_forwarded x v e) f = never f
way_refused sd r o (is_read p t e w a) f = never f

pub refused_same : (sd : Side) (r : Record) (e : Event) → is_none (step sd r e).refusal ≡ false
    → step sd r e ≡ refused (step sd r e).refusal r
refused_same sd r e = way_refused sd r (step sd r e) (ways sd r e)

-- ---- a user who is not active gets no abort indication

way_untold : (sd : Side) (r : Record) (o : Outcome) → Way sd r o → r.active ≡ false → is_abort o.told ≡ false
unfolding closes aborts start_request message_request sent handed forward_request responds forward_confirmed
way_untold sd r o (is_refused w n) f = refl
way_untold sd r o (is_closed t a) f = ap is_abort (a f)
way_untold sd r o (is_aborted p t a) f = ap is_abort (a f)
way_untold sd r o (is_started m k s e) f = refl
way_untold sd r o (is_message j e h) f = refl
way_untold sd r o (is_called k x a e b) f = refl
way_untold sd r o (is_invited m x e) f = refl
way_untold sd r o (is_confirmed a m x e) f = refl
way_untold sd r o (is_forwarding k s e) f = refl
way_untold sd r o (is_responding x s v t j b) f = b
way_untold sd r o (is_forwarded x v e) f = refl
way_untold sd r o (is_read p t e w a) f = a

pub inactive_untold : (sd : Side) (r : Record) (e : Event) → r.active ≡ false → is_abort (step sd r e).told ≡ false
inactive_untold sd r e = way_untold sd r (step sd r e) (ways sd r e)

-- ---- the highest job never falls, and survives a closing

way_rises : (sd : Side) (r : Record) (o : Outcome) → Way sd r o → r.highest ≤ o.next.highest
unfolding closes aborts start_request message_request sent handed forward_request responds forward_confirmed enter
way_rises sd r o (is_refused w n) = omega arith
way_rises sd r o (is_closed t a) = omega arith
way_rises sd r o (is_aborted p t a) = omega arith
way_rises sd r o (is_started m k s e) = omega arith
way_rises sd r o (is_message j e h) = omega arith
way_rises sd r o (is_called k x a e b) = omega arith
way_rises sd r o (is_invited m x e) = omega arith
way_rises sd r o (is_confirmed a m x e) = omega arith
way_rises sd r o (is_forwarding k s e) = omega arith
way_rises sd r o (is_responding x s v t j b) = omega arith
way_rises sd r o (is_forwarded x v e) = omega arith
way_rises sd r o (is_read p t e w a) = omega arith

pub highest_rises : (sd : Side) (r : Record) (e : Event) → r.highest ≤ (step sd r e).next.highest
highest_rises sd r e = way_rises sd r (step sd r e) (ways sd r e)

way_survives : (sd : Side) (r : Record) (o : Outcome) → Way sd r o → is_idle o.next.control ≡ true → o.next.highest ≡ r.highest
unfolding closes aborts start_request message_request sent handed forward_request responds forward_confirmed enter
way_survives sd r o (is_refused w n) i = refl
way_survives sd r o (is_closed t a) i = refl
way_survives sd r o (is_aborted p t a) i = refl
way_survives sd r o (is_started m k s e) i = refl
way_survives sd r o (is_message j e h) i = never (sym i ∙ busy_takes sd r.control MessageRequest e refl)
way_survives sd r o (is_called k x a e b) i = refl
way_survives sd r o (is_invited m x e) i = refl
way_survives sd r o (is_confirmed a m x e) i = refl
way_survives sd r o (is_forwarding k s e) i = refl
way_survives sd r o (is_responding x s v t j b) i = refl
way_survives sd r o (is_forwarded x v e) i = refl
way_survives sd r o (is_read p t e w a) i = refl

pub highest_survives : (sd : Side) (r : Record) (e : Event) → is_idle (step sd r e).next.control ≡ true
    → (step sd r e).next.highest ≡ r.highest
highest_survives sd r e = way_survives sd r (step sd r e) (ways sd r e)

-- ---- the policy is fixed when the record is made

way_policy : (sd : Side) (r : Record) (o : Outcome) → Way sd r o → o.next.policy ≡ r.policy
unfolding closes aborts start_request message_request sent handed forward_request responds forward_confirmed enter
way_policy sd r o (is_refused w n) = refl
way_policy sd r o (is_closed t a) = refl
way_policy sd r o (is_aborted p t a) = refl
way_policy sd r o (is_started m k s e) = refl
way_policy sd r o (is_message j e h) = refl
way_policy sd r o (is_called k x a e b) = refl
way_policy sd r o (is_invited m x e) = refl
way_policy sd r o (is_confirmed a m x e) = refl
way_policy sd r o (is_forwarding k s e) = refl
way_policy sd r o (is_responding x s v t j b) = refl
way_policy sd r o (is_forwarded x v e) = refl
way_policy sd r o (is_read p t e w a) = refl

pub policy_fixed : (sd : Side) (r : Record) (e : Event) → (step sd r e).next.policy ≡ r.policy
policy_fixed sd r e = way_policy sd r (step sd r e) (ways sd r e)

-- ---- and so is the edition (document 02, E14: "fixed from then on")

way_edition : (sd : Side) (r : Record) (o : Outcome) → Way sd r o → o.next.edition ≡ r.edition
unfolding closes aborts start_request message_request sent handed forward_request responds forward_confirmed enter
way_edition sd r o (is_refused w n) = refl
way_edition sd r o (is_closed t a) = refl
way_edition sd r o (is_aborted p t a) = refl
way_edition sd r o (is_started m k s e) = refl
way_edition sd r o (is_message j e h) = refl
way_edition sd r o (is_called k x a e b) = refl
way_edition sd r o (is_invited m x e) = refl
way_edition sd r o (is_confirmed a m x e) = refl
way_edition sd r o (is_forwarding k s e) = refl
way_edition sd r o (is_responding x s v t j b) = refl
way_edition sd r o (is_forwarded x v e) = refl
way_edition sd r o (is_read p t e w a) = refl

pub edition_fixed : (sd : Side) (r : Record) (e : Event) → (step sd r e).next.edition ≡ r.edition
edition_fixed sd r e = way_edition sd r (step sd r e) (ways sd r e)

-- ---- and so are the version and whether forwarding is supported

pub record Configured (r q : Record) : Type 0 where
  pub forwards : q.forwards ≡ r.forwards
  pub version : q.version ≡ r.version

way_configured : (sd : Side) (r : Record) (o : Outcome) → Way sd r o → Configured r o.next
unfolding closes aborts start_request message_request sent handed forward_request responds forward_confirmed enter
way_configured sd r o (is_refused w n) = record { forwards = refl; version = refl }
way_configured sd r o (is_closed t a) = record { forwards = refl; version = refl }
way_configured sd r o (is_aborted p t a) = record { forwards = refl; version = refl }
way_configured sd r o (is_started m k s e) = record { forwards = refl; version = refl }
way_configured sd r o (is_message j e h) = record { forwards = refl; version = refl }
way_configured sd r o (is_called k x a e b) = record { forwards = refl; version = refl }
way_configured sd r o (is_invited m x e) = record { forwards = refl; version = refl }
way_configured sd r o (is_confirmed a m x e) = record { forwards = refl; version = refl }
way_configured sd r o (is_forwarding k s e) = record { forwards = refl; version = refl }
way_configured sd r o (is_responding x s v t j b) = record { forwards = refl; version = refl }
way_configured sd r o (is_forwarded x v e) = record { forwards = refl; version = refl }
way_configured sd r o (is_read p t e w a) = record { forwards = refl; version = refl }

pub configuration_fixed : (sd : Side) (r : Record) (e : Event) → Configured r (step sd r e).next
configuration_fixed sd r e = way_configured sd r (step sd r e) (ways sd r e)

-- ---- from a fresh record: t-start runs only in START-REQ and FORWARD, the user is active outside IDLE only

-- a primitive inside a dialogue is no start and no confirmation of one
inner : (p : Primitive) → within p ≡ true → (not (is_confirmation p) ≡ true) × (not (is_start p) ≡ true)
inner (DStart m) e = never (sym e)
inner (DStartCnf a) e = never (sym e)
inner DTurnedAway e = never (sym e)
inner DData e = (refl, refl)
inner DEnd e = (refl, refl)
inner (DEndCnf a) e = (refl, refl)
inner DAbort e = never (sym e)
inner DPAbort e = never (sym e)

-- the control goes from c to d, the timer and the user with it
entered_formed : (q : Record) (d : Control) → (not (is_idle d) && q.timer) ≡ waits d.state
    → (not (is_idle d) && q.active) ≡ not (is_idle d) → (is_idle d ≡ true → d.dsc ≡ false) → Formed (enter q d)
unfolding enter
entered_formed q d t u i = record { timer = t; user = u; idle = i }

way_formed : (sd : Side) (r : Record) (o : Outcome) → Way sd r o → Formed r → Formed o.next
unfolding closes aborts start_request message_request sent handed forward_request responds forward_confirmed enter
way_formed sd r o (is_refused w n) h = h
way_formed sd r o (is_closed t a) h = record { timer = refl; user = refl; idle = λ i. refl }
way_formed sd r o (is_aborted p t a) h = record { timer = refl; user = refl; idle = λ i. refl }
way_formed sd r o (is_started m k s e) h = record { timer = refl; user = refl; idle = λ i. never (sym i) }
way_formed sd r o (is_message j e n) h =
    entered_formed (with_job r j) r.control (rw h.timer (call_timed_is sd r.control MessageRequest e refl))
    (rw h.user (call_held_is sd r.control MessageRequest e refl)) h.idle
way_formed sd r o (is_called k x a e b) h =
    entered_formed r (goes r.control k) (rw h.timer (call_timed_is sd r.control k e b))
    (rw h.user (call_held_is sd r.control k e b)) (call_rests_is sd r.control k e)
way_formed sd r o (is_invited m x e) h =
    entered_formed (with_user r true) (after r.control (DStart m))
    (rw h.timer (primitive_timed_is sd r.control (DStart m) e refl)) refl (λ i. never (sym i))
way_formed sd r o (is_confirmed Accepted m x e) h =
    entered_formed (with_timer r false) (after r.control (DStartCnf Accepted)) refl
    (rw h.user (primitive_held_is sd r.control (DStartCnf Accepted) e refl)) (λ i. never (sym i))
way_formed sd r o (is_confirmed Rejected m x e) h = record { timer = refl; user = refl; idle = λ i. refl }
way_formed sd r o (is_forwarding k s e) h = record { timer = refl; user = refl; idle = λ i. never (sym i) }
way_formed sd r o (is_responding x s v t j b) h = record { timer = refl; user = refl; idle = λ i. refl }
way_formed sd r o (is_forwarded x v e) h = record { timer = refl; user = refl; idle = λ i. refl }
way_formed sd r o (is_read p t e w a) h =
    entered_formed r (after r.control p) (rw h.timer (primitive_timed_is sd r.control p e (inner p w).0))
    (rw h.user (primitive_held_is sd r.control p e (inner p w).1)) (primitive_rests_is sd r.control p e)

pub step_formed : (sd : Side) (r : Record) (e : Event) → Formed r → Formed (step sd r e).next
step_formed sd r e = way_formed sd r (step sd r e) (ways sd r e)

pub run_formed : (sd : Side) (es : List Event) (r : Record) → Formed r → Formed (run sd r es)
unfolding run
run_formed sd [] r h = h
run_formed sd (e ∷ es) r h = run_formed sd es (step sd r e).next (step_formed sd r e h)

pub fresh_formed : (g : Configuration) → Formed (fresh_record g)
fresh_formed g = record { timer = refl; user = refl; idle = λ i. refl }

pub reached_formed : (sd : Side) (g : Configuration) (es : List Event) → Formed (run sd (fresh_record g) es)
reached_formed sd g es = run_formed sd es (fresh_record g) (fresh_formed g)

pub run_rises : (sd : Side) (es : List Event) (r : Record) → r.highest ≤ (run sd r es).highest
unfolding run
run_rises sd [] r = omega arith
run_rises sd (e ∷ es) r = omega (arith, highest_rises sd r e, run_rises sd es (step sd r e).next)
