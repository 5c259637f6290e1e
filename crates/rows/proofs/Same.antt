-- The engine of the rows parameters what the first parameters: for every record, formed or not, and every event, refused ones too.
-- Assumes nothing.
use mathlib.Core.Path.{◌≡◌, refl, ap, sym, subst, ◌∙◌}
use mathlib.Core.Bool.{Bool, true, false, not, cond, ◌&&◌, ◌||◌}
use mathlib.Core.List.{List, [], ◌∷◌}
use Prim.Native.Nat.{ℕ}
use lib.Dec.{T, eqb, leb}
use Rattle.control.specs.Control.{is, is_idle, entered, may_start, other, takes, goes, closed, takes_forward, forwarding, awaits_response, expects, after}
use Rattle.control.specs.declared.Side.{Side}
use Rattle.control.specs.declared.Side.TheVariants.{Air, Ground}
use Rattle.control.specs.declared.Control.{Control}
use Rattle.control.specs.declared.State.{State}
use Rattle.control.specs.declared.State.TheVariants as st
use Rattle.control.specs.declared.Reply.{Reply}
use Rattle.control.specs.declared.Reply.TheVariants.{Accepted, Rejected}
use Rattle.control.specs.declared.Call.{Call}
use Rattle.control.specs.declared.Call.TheVariants.{StartRequest, StartResponse, MessageRequest, EndRequest, EndResponse, UserAbort}
use Rattle.control.specs.declared.Primitive.{Primitive}
use Rattle.control.specs.declared.Primitive.TheVariants.{DStart, DStartCnf, DData, DEnd, DEndCnf, DAbort, DPAbort}
use Rattle.machine.specs.Codes.{accepted, user, provider}
use Rattle.machine.specs.Record.{with_timer, with_user, enter}
use Rattle.machine.specs.Event.{is_dsc, qos_fits, event_fits}
use Rattle.machine.specs.UserData.{mode_of, reason_of, is_missing, is_invalid, is_start_pdu, is_send, is_user_abort, is_provider_abort, is_forward, is_response, abort_fits}
use Rattle.machine.specs.Outcome.{is_none, refused, outcome}
use Rattle.machine.specs.Exceptions.{tell, closes, aborts, excepts, timer_expires, system_error, no_instruction}
use Rattle.machine.specs.Calls.{reply_of, sent as sending, start_request, start_response, message_request, end_request, end_response, user_abort, call_of, unsent, called}
use Rattle.machine.specs.Forwards.{forward_request, responds, forward_arrives, forward_confirmed}
use Rattle.machine.specs.Faults.{differs, send_allowed, turned_away, pdu_fault, peer_fits, from_centre, start_fits_of, indication_fault, response_fault, confirmation_fault, send_fault, abort_fault, first_fault}
use Rattle.machine.specs.Primitives.{handed, abort_told, instructed, answered, reached}
use Rattle.machine.specs.Step.{permitted, message_refusal, refusal_fitting, acts, step_fitting, step}
use Rattle.machine.proofs.Fitting.{step_shape, step_of_fitting}
use Rattle.machine.specs.declared.record.Record.{Record}
use Rattle.machine.specs.declared.event.UserData.{UserData}
use Rattle.machine.specs.declared.event.UserData.TheVariants.{Absent, NotValid, Start, Send, AbortUser, AbortProvider, ForwardResponse}
use Rattle.machine.specs.declared.event.UserData.TheVariants as pdu
use Rattle.machine.specs.declared.event.Qos.{Qos}
use Rattle.machine.specs.declared.event.UserPrimitive.{UserPrimitive}
use Rattle.machine.specs.declared.event.UserPrimitive.TheVariants.{StartServiceRequest, StartServiceResponse, MessageServiceRequest, EndServiceRequest, EndServiceResponse, UserAbortServiceRequest}
use Rattle.machine.specs.declared.event.ServicePrimitive.{ServicePrimitive}
use Rattle.machine.specs.declared.event.ServicePrimitive.TheVariants.{DStartIndication, DStartConfirmation, DDataIndication, DEndIndication, DEndConfirmation, DAbortIndication, DPAbortIndication}
use Rattle.machine.specs.declared.event.Event.{Event}
use Rattle.machine.specs.declared.event.Event.TheVariants.{User, Forward, Service, TimerExpires, UnrecoverableSystemError}
use Rattle.machine.specs.declared.faults.Fault.{Fault}
use Rattle.machine.specs.declared.faults.Fault.TheVariants.{NoInstruction, Quality, TurnedAway, Security, Missing, Invalid, NotPermitted}
use Rattle.machine.specs.declared.outcome.StepRefusal.{StepRefusal}
use Rattle.machine.specs.declared.outcome.StepRefusal.TheVariants.{Shape, Stale, Prohibited, NoMessage, Repeat}
use Rattle.machine.specs.declared.outcome.Told.{Told}
use Rattle.machine.specs.declared.outcome.Told.TheVariants.{ProviderAbortIndication, StartConfirmation, ForwardIndication}
use Rattle.words.proofs.Laws.{both_left, both_right}
use Rattle.machine.specs.declared.outcome.Outcome.{Outcome}
use Rattle.numbered.specs.Numbers.{is_stale, numbered_step}
use Rattle.numbered.proofs.Laws.{shape_first, then_stale, then_fitting}
use Rattle.rows.specs.Names as n
use Rattle.rows.specs.Events.{carried, parameters, user_title, service_title, pdu_first, user_condition, forward_condition, start_condition, answer_condition, send_condition, service_condition, user_parameters, service_parameters, parameters_of, title_of, condition_of}
use Rattle.rows.specs.declared.Parameters.{Parameters}
use Rattle.rows.specs.declared.Out.{Out}
use Rattle.rows.specs.Table.{rows}
use Rattle.editions.specs.Editions.{secures, spares}
use Rattle.rows.specs.Engine.{refusal_is, walk, outcome_of, row_of, rows_step, rows_numbered}
use Rattle.rows.proofs.Wanted.{out, alike, until, refused_out, call_out, call_wanted, call_title, users, except_out, quiet_out, answer_out, handed_out, start_fault, start_instruction, can_see, start_wanted, start_conditions, confirmation_conditions, is_accepted, confirmed_fault, responded_fault, confirmation_wanted, send_conditions, send_wanted, abort_conditions, told_out, abort_wanted, fail_wanted, mem, call_alike, empty_alike, again_alike, forward_alike, start_alike, accepted_alike, rejected_alike, data_alike, end_alike, ended_alike, unended_alike, abort_alike, failing_alike, expiry_alike, stopped_alike, error_alike}
use Rattle.rows.proofs.Alike.{alike_does, there, keeping, moved}
use Rattle.std.specs.Prelude.{None, Option, Some}

-- ---- a choice

chosen : {A B : Type 0} (f : A → B) (b : Bool) (x y : A) (x' y' : B) → f x ≡ x' → f y ≡ y' → f (cond b x y) ≡ cond b x' y'
chosen f true x y x' y' p q = p
chosen f false x y x' y' p q = q

-- ---- refused by a row

refused_does : (r : Record) (g : Parameters) (z : ℕ) → outcome_of r g (refused_out r.control z) ≡ refused (refusal_is z) r
refused_does r g z = there r g r.control n.as_is n.as_is n.nothing z n.silent 0 n.untold 0

-- ---- user requests and responses

start_does : (r : Record) (k s : ℕ) (d : Bool)
    → outcome_of r (parameters k (carried r s) 0 0 0 0 Absent) (call_out r.control (StartRequest d)) ≡ start_request r d k s
unfolding start_request sending enter
start_does r k s true = there r (parameters k (carried r s) 0 0 0 0 Absent) (goes r.control (StartRequest true))
    n.yes n.yes n.security n.taken n.dsc_start_out 0 n.untold 0
start_does r k s false = there r (parameters k (carried r s) 0 0 0 0 Absent) (goes r.control (StartRequest false))
    n.yes n.yes n.security n.taken n.start_out 0 n.untold 0

-- the title of a response
reply_title : (x : ℕ) (m h : Bool) → call_title (StartResponse m (reply_of x)) ≡ user_title (StartServiceResponse m x h)
unfolding reply_of
reply_title x m h = go (eqb x accepted) m
  where
    go : (b m : Bool)
        → call_title (StartResponse m (cond b Accepted Rejected)) ≡ cond m (cond b n.dsc_start_response_accepted n.dsc_start_response_rejected) (cond b n.start_response_accepted n.start_response_rejected)
    go true true = refl
    go true false = refl
    go false true = refl
    go false false = refl

end_title : (x : ℕ) (m h : Bool) → call_title (EndResponse m (reply_of x)) ≡ user_title (EndServiceResponse m x h)
unfolding reply_of
end_title x m h = go (eqb x accepted) m
  where
    go : (b m : Bool)
        → call_title (EndResponse m (cond b Accepted Rejected)) ≡ cond m (cond b n.dsc_end_response_accepted n.dsc_end_response_rejected) (cond b n.end_response_accepted n.end_response_rejected)
    go true true = refl
    go true false = refl
    go false true = refl
    go false false = refl

-- a call of the title t does what the row says
call_does : (sd : Side) (r : Record) (g : Parameters) (t : ℕ) (k : Call) (o : Outcome) → users k ≡ true
    → call_title k ≡ t → outcome_of r g (call_out r.control k) ≡ o
    → outcome_of r g (walk rows sd r.control t n.plain) ≡ cond (takes sd r.control k) o (refused (Some Prohibited) r)
call_does sd r g t k o u e p =
    subst (λ (z : ℕ). outcome_of r g (walk rows sd r.control z n.plain) ≡ cond (takes sd r.control k) o (refused (Some Prohibited) r)) e
    (alike_does r g _ _ (call_alike sd r.control k u) ∙ chosen (outcome_of r g) (takes sd r.control k)
    (call_out r.control k) (refused_out r.control n.prohibited) o (refused (Some Prohibited) r) p
    (refused_does r g n.prohibited))

-- without a message to refuse
by_takes : (t : Bool) (o : Outcome) (r : Record)
    → cond t o (refused (Some Prohibited) r) ≡ cond (is_none (cond (not t) (Some Prohibited) None)) o (refused (cond (not t) (Some Prohibited) None) r)
by_takes true o r = refl
by_takes false o r = refl

-- a message request: h holds a message, l its job is not above the highest
message_does : (sd : Side) (r : Record) (g : Parameters) (h l : Bool) (o : Outcome)
    → outcome_of r g (call_out r.control MessageRequest) ≡ o
    → outcome_of r g (walk rows sd r.control n.message_request (cond (not h) n.no_message (cond l n.repeat n.plain)))
    ≡ cond (is_none
    (cond (not (takes sd r.control MessageRequest)) (Some Prohibited) (cond (not h) (Some NoMessage) (cond l (Some Repeat) None))))
    o (refused
    (cond (not (takes sd r.control MessageRequest)) (Some Prohibited) (cond (not h) (Some NoMessage) (cond l (Some Repeat) None)))
    r)
message_does sd r g true true o p = alike_does r g _ _ (again_alike sd r.control) ∙ go (takes sd r.control MessageRequest)
  where
    go : (t : Bool)
        → outcome_of r g (cond t (refused_out r.control n.repeated) (refused_out r.control n.prohibited)) ≡ cond (is_none (cond (not t) (Some Prohibited) (Some Repeat))) o (refused (cond (not t) (Some Prohibited) (Some Repeat)) r)
    go true = refused_does r g n.repeated
    go false = refused_does r g n.prohibited
message_does sd r g true false o p = call_does sd r g n.message_request MessageRequest o refl refl p ∙ by_takes
    (takes sd r.control MessageRequest) o r
message_does sd r g false l o p = alike_does r g _ _ (empty_alike sd r.control) ∙ go (takes sd r.control MessageRequest)
  where
    go : (t : Bool)
        → outcome_of r g (cond t (refused_out r.control n.without_message) (refused_out r.control n.prohibited)) ≡ cond (is_none (cond (not t) (Some Prohibited) (Some NoMessage))) o (refused (cond (not t) (Some Prohibited) (Some NoMessage)) r)
    go true = refused_does r g n.without_message
    go false = refused_does r g n.prohibited

user_same : (sd : Side) (r : Record) (u : UserPrimitive)
    → outcome_of r (user_parameters r u) (walk rows sd r.control (user_title u) (user_condition r u)) ≡ step_fitting sd r (User u)
unfolding step_fitting refusal_fitting permitted message_refusal acts called call_of unsent start_response message_request
    end_request end_response user_abort sending
user_same sd r (StartServiceRequest m k s) =
    call_does sd r (parameters k (carried r s) 0 0 0 0 Absent) _ (StartRequest (is_dsc m)) (start_request r (is_dsc m) k s)
    refl refl (start_does r k s (is_dsc m)) ∙ by_takes (takes sd r.control (StartRequest (is_dsc m)))
    (start_request r (is_dsc m) k s) r
user_same sd r (StartServiceResponse m x h) =
    call_does sd r (user_parameters r (StartServiceResponse m x h)) _ (StartResponse m (reply_of x)) _ refl
    (reply_title x m h) (moved r (user_parameters r (StartServiceResponse m x h))
    (goes r.control (StartResponse m (reply_of x))) n.nothing n.start_answer 0 n.untold 0) ∙ by_takes
    (takes sd r.control (StartResponse m (reply_of x))) _ r
user_same sd r (MessageServiceRequest h j) =
    message_does sd r (parameters 0 0 0 j 0 0 Send) h (leb j r.highest) _
    (moved r (parameters 0 0 0 j 0 0 Send) (goes r.control MessageRequest) n.job n.data_out 0 n.untold 0)
user_same sd r (EndServiceRequest m h) =
    call_does sd r (user_parameters r (EndServiceRequest m h)) _ (EndRequest m) _ refl refl (moved r
    (user_parameters r (EndServiceRequest m h)) (goes r.control (EndRequest m)) n.nothing n.end_out 0 n.untold
    0) ∙ by_takes (takes sd r.control (EndRequest m)) _ r
user_same sd r (EndServiceResponse m x h) =
    call_does sd r (user_parameters r (EndServiceResponse m x h)) _ (EndResponse m (reply_of x)) _ refl (end_title x m h) (
    moved r (user_parameters r (EndServiceResponse m x h)) (goes r.control (EndResponse m (reply_of x)))
    n.nothing n.end_answer 0 n.untold 0) ∙ by_takes (takes sd r.control (EndResponse m (reply_of x))) _ r
user_same sd r (UserAbortServiceRequest g x) =
    call_does sd r (user_parameters r (UserAbortServiceRequest g x)) n.user_abort UserAbort _ refl refl
    (moved r (user_parameters r (UserAbortServiceRequest g x)) closed n.nothing n.abort_by_user 0 n.untold 0) ∙
    by_takes (takes sd r.control UserAbort) _ r

forward_same : (sd : Side) (r : Record) (k s : ℕ)
    → outcome_of r (parameters k (carried r s) 0 0 0 0 Absent) (walk rows sd r.control n.forward_request n.plain) ≡ step_fitting sd r (Forward k s)
unfolding step_fitting refusal_fitting permitted message_refusal acts forward_request enter
forward_same sd r k s =
    alike_does r (parameters k (carried r s) 0 0 0 0 Absent) _ _ (forward_alike sd r.control)
    ∙ chosen (outcome_of r (parameters k (carried r s) 0 0 0 0 Absent)) (takes_forward sd r.control)
    (out (forwarding r.control) n.yes n.yes n.security n.taken n.forward_out 0 n.untold 0)
    (refused_out r.control n.prohibited) (forward_request r k s) (refused (Some Prohibited) r)
    (there r (parameters k (carried r s) 0 0 0 0 Absent) (forwarding r.control) n.yes n.yes n.security n.taken
    n.forward_out 0 n.untold 0) (refused_does r (parameters k (carried r s) 0 0 0 0 Absent) n.prohibited)
    ∙ by_takes (takes_forward sd r.control) (forward_request r k s) r

-- ---- faults

except_does : (r : Record) (g : Parameters) (live : Bool) (x y : ℕ) → outcome_of r g (except_out live x y) ≡ excepts r live x y
unfolding outcome_of excepts aborts closes tell enter
except_does r g true x y = refl
except_does r g false x y = refl

quiet_does : (r : Record) (g : Parameters) → outcome_of r g quiet_out ≡ closes r None
unfolding outcome_of closes enter
quiet_does r g = refl

quality_does : (r : Record) (g : Parameters)
    → outcome_of r g (out closed n.no n.no n.nothing n.taken n.abort_by_provider 6 n.untold 0) ≡ aborts r 6 None
unfolding outcome_of aborts enter
quality_does r g = refl

away_does : (r : Record) (g : Parameters) → outcome_of r g (except_out false 0 4) ≡ closes r (tell r (Some (ProviderAbortIndication 4)))
unfolding outcome_of closes tell enter
away_does r g = refl

abbrev is_fault : Option Fault → Bool
is_fault None = false
is_fault (Some (NoInstruction live)) = true
is_fault (Some Quality) = true
is_fault (Some TurnedAway) = true
is_fault (Some (Security live)) = true
is_fault (Some Missing) = true
is_fault (Some (Invalid live)) = true
is_fault (Some (NotPermitted live)) = true

module _ (r : Record) (p : ServicePrimitive) (a : UserData) (d : Out) where
  -- what is done about a fault, whatever the instruction is
  fault_does : (f : Option Fault) → is_fault f ≡ true → outcome_of r (service_parameters r p a) (answer_out r.control d f) ≡ answered r p a f
  unfolding answered no_instruction
  fault_does None e = absurd (subst T (sym e) tt)
  fault_does (Some (NoInstruction live)) e =
      chosen (outcome_of r (service_parameters r p a)) (is_idle r.control) quiet_out (except_out live 3 3)
      (closes r None) (excepts r live 3 3) (quiet_does r (service_parameters r p a))
      (except_does r (service_parameters r p a) live 3 3)
  fault_does (Some Quality) e = quality_does r (service_parameters r p a)
  fault_does (Some TurnedAway) e = away_does r (service_parameters r p a)
  fault_does (Some (Security live)) e = except_does r (service_parameters r p a) live 5 5
  fault_does (Some Missing) e = except_does r (service_parameters r p a) true 7 8
  fault_does (Some (Invalid live)) e = except_does r (service_parameters r p a) live 2 2
  fault_does (Some (NotPermitted live)) e = except_does r (service_parameters r p a) live 3 3

-- ---- a primitive whose PDU is to be a send

module _ (sd : Side) (r : Record) (p : ServicePrimitive) (q : Primitive) (live : Bool) (y : ℕ) where
  -- may: may there be no PDU; x: is it expected
  send_does : (may x : Bool) (a : UserData)
      → outcome_of r (service_parameters r p a) (handed_out r.control q n.as_is n.as_is y) ≡ instructed r p a
      → outcome_of r (service_parameters r p a) (answer_out r.control (handed_out r.control q n.as_is n.as_is y) (cond
      (not x) (Some (NoInstruction true)) (cond (eqb (send_condition may a) n.no_pdu) (Some Missing) (cond
      (eqb (send_condition may a) n.invalid_pdu) (Some (Invalid live))
      (cond (eqb (send_condition may a) n.send) None (Some (NotPermitted live)))))))
      ≡ answered r p a (cond (not x) (Some (NoInstruction true)) (pdu_fault may (is_send a) live live a None))
  unfolding pdu_fault answered
  send_does may false a h = fault_does r p a (handed_out r.control q n.as_is n.as_is y) (Some (NoInstruction true)) refl
  send_does true true Absent h = h
  send_does false true Absent h = fault_does r p Absent (handed_out r.control q n.as_is n.as_is y) (Some Missing) refl
  send_does may true NotValid h = fault_does r p NotValid (handed_out r.control q n.as_is n.as_is y) (Some (Invalid live)) refl
  send_does may true (Start m) h = fault_does r p (Start m) (handed_out r.control q n.as_is n.as_is y) (Some (NotPermitted live)) refl
  send_does may true Send h = h
  send_does may true (AbortUser w) h = fault_does r p (AbortUser w) (handed_out r.control q n.as_is n.as_is y) (Some (NotPermitted live)) refl
  send_does may true (AbortProvider w) h = fault_does r p (AbortProvider w) (handed_out r.control q n.as_is n.as_is y)
      (Some (NotPermitted live)) refl
  send_does may true pdu.Forward h = fault_does r p pdu.Forward (handed_out r.control q n.as_is n.as_is y) (Some (NotPermitted live)) refl
  send_does may true (ForwardResponse w) h = fault_does r p (ForwardResponse w)
      (handed_out r.control q n.as_is n.as_is y) (Some (NotPermitted live)) refl

send_among : (may : Bool) (a : UserData) → mem send_conditions (send_condition may a) ≡ true
unfolding mem
send_among true Absent = refl
send_among false Absent = refl
send_among may NotValid = refl
send_among may (Start m) = refl
send_among may Send = refl
send_among may (AbortUser w) = refl
send_among may (AbortProvider w) = refl
send_among may pdu.Forward = refl
send_among may (ForwardResponse w) = refl

data_same : (sd : Side) (r : Record) (a : UserData)
    → outcome_of r (service_parameters r DDataIndication a) (walk rows sd r.control n.d_data (send_condition false a)) ≡ reached sd r DDataIndication a
unfolding reached first_fault send_fault instructed handed
data_same sd r a =
    alike_does r (service_parameters r DDataIndication a) _ _ (data_alike sd r.control (send_condition false a) (send_among false a))
    ∙ send_does sd r DDataIndication DData true n.message_indication false (expects sd r.control DData) a (moved r
    (service_parameters r DDataIndication a) (after r.control DData) n.nothing n.silent 0 n.message_indication
    0)

end_same : (sd : Side) (r : Record) (a : UserData)
    → outcome_of r (service_parameters r DEndIndication a) (walk rows sd r.control n.d_end (send_condition (spares r.edition) a)) ≡ reached sd r DEndIndication a
unfolding reached first_fault send_fault instructed handed
end_same sd r a =
    alike_does r (service_parameters r DEndIndication a) _ _
    (end_alike sd r.control (send_condition (spares r.edition) a) (send_among (spares r.edition) a))
    ∙ send_does sd r DEndIndication DEnd true n.end_indication (spares r.edition) (expects sd r.control DEnd) a (
    moved r (service_parameters r DEndIndication a) (after r.control DEnd) n.nothing n.silent 0
    n.end_indication 0)

-- b: is it accepted
end_confirmed_of : (sd : Side) (r : Record) (x : ℕ) (a : UserData) (b : Bool) → eqb x accepted ≡ b
    → outcome_of r (service_parameters r (DEndConfirmation x) a)
    (walk rows sd r.control (cond b n.d_end_accepted n.d_end_rejected) (send_condition (spares r.edition) a)) ≡
    reached sd r (DEndConfirmation x) a
unfolding reached first_fault send_fault instructed handed reply_of
end_confirmed_of sd r x a true e =
    let g = service_parameters r (DEndConfirmation x) a in
    let h : outcome_of r g
    (send_wanted sd r.control (DEndCnf Accepted) false n.end_confirmation (send_condition (spares r.edition) a))
    ≡ reached sd r (DEndConfirmation x) a
    = rw e (send_does sd r (DEndConfirmation x) (DEndCnf Accepted) false n.end_confirmation (spares r.edition)
    (expects sd r.control (DEndCnf Accepted)) a
    (rw e (moved r g (after r.control (DEndCnf Accepted)) n.nothing n.silent 0 n.end_confirmation 0))) in
    alike_does r g (walk rows sd r.control n.d_end_accepted (send_condition (spares r.edition) a))
    (send_wanted sd r.control (DEndCnf Accepted) false n.end_confirmation (send_condition (spares r.edition) a))
    (ended_alike sd r.control (send_condition (spares r.edition) a) (send_among (spares r.edition) a)) ∙ h
end_confirmed_of sd r x a false e =
    let g = service_parameters r (DEndConfirmation x) a in
    let h : outcome_of r g
    (send_wanted sd r.control (DEndCnf Rejected) true n.end_confirmation (send_condition (spares r.edition) a)) ≡
    reached sd r (DEndConfirmation x) a
    = rw e (send_does sd r (DEndConfirmation x) (DEndCnf Rejected) true n.end_confirmation (spares r.edition)
    (expects sd r.control (DEndCnf Rejected)) a
    (rw e (moved r g (after r.control (DEndCnf Rejected)) n.nothing n.silent 0 n.end_confirmation 0))) in
    alike_does r g (walk rows sd r.control n.d_end_rejected (send_condition (spares r.edition) a))
    (send_wanted sd r.control (DEndCnf Rejected) true n.end_confirmation (send_condition (spares r.edition) a))
    (unended_alike sd r.control (send_condition (spares r.edition) a) (send_among (spares r.edition) a)) ∙ h

-- ---- aborts

-- a choice within a list
mem_cond : (l : List ℕ) (b : Bool) (x y : ℕ) → mem l x ≡ true → mem l y ≡ true → mem l (cond b x y) ≡ true
mem_cond l true x y p q = p
mem_cond l false x y p q = q

abort_among : (b c u v : Bool)
    → mem abort_conditions (cond b (cond u n.abort_of_user n.other_pdu) (cond c (cond v n.abort_of_provider n.other_pdu) n.other_pdu)) ≡ true
unfolding mem
abort_among b c u v = mem_cond abort_conditions b _ _ (mem_cond abort_conditions u _ _ refl refl)
    (mem_cond abort_conditions c _ _ (mem_cond abort_conditions v _ _ refl refl) refl)

-- the APDU fits the originator, or not
abort_other : (b c u v : Bool)
    → eqb (cond b (cond u n.abort_of_user n.other_pdu) (cond c (cond v n.abort_of_provider n.other_pdu) n.other_pdu)) n.other_pdu ≡ not (cond b u (cond c v false))
abort_other true c true v = refl
abort_other true c false v = refl
abort_other false true u true = refl
abort_other false true u false = refl
abort_other false false u v = refl

pdu_told : (r : Record) (p : ServicePrimitive) (g : Parameters)
    → outcome_of r g (told_out n.abort_of_pdu 0) ≡ closes r (tell r (abort_told g.pdu))
unfolding outcome_of closes tell enter
pdu_told r p g = refl

-- x: is it expected, f: does it fit
abort_does : (r : Record) (o : ℕ) (a : UserData) (x f : Bool)
    → outcome_of r (service_parameters r (DAbortIndication o) a) (answer_out r.control (told_out n.abort_of_pdu 0)
    (cond (not x) (Some (NoInstruction false)) (cond (not f) (Some (NoInstruction false)) None))) ≡ answered r
    (DAbortIndication o) a (cond (not x) (Some (NoInstruction false)) (cond (not f) (Some (NoInstruction false)) None))
unfolding answered instructed
abort_does r o a true true = pdu_told r (DAbortIndication o) (service_parameters r (DAbortIndication o) a)
abort_does r o a true false = fault_does r (DAbortIndication o) a (told_out n.abort_of_pdu 0) (Some (NoInstruction false)) refl
abort_does r o a false f = fault_does r (DAbortIndication o) a (told_out n.abort_of_pdu 0) (Some (NoInstruction false)) refl

abort_same : (sd : Side) (r : Record) (o : ℕ) (a : UserData)
    → outcome_of r (service_parameters r (DAbortIndication o) a) (walk rows sd r.control n.d_abort (service_condition sd r (DAbortIndication o) a)) ≡ reached sd r (DAbortIndication o) a
unfolding reached first_fault abort_fault
abort_same sd r o a =
    alike_does r (service_parameters r (DAbortIndication o) a) _ _ (abort_alike sd r.control
    (service_condition sd r (DAbortIndication o) a)
    (abort_among (eqb o user) (eqb o provider) (is_user_abort a) (is_provider_abort a)))
    ∙ ap (λ (z : Bool). outcome_of r (service_parameters r (DAbortIndication o) a) (answer_out r.control
    (told_out n.abort_of_pdu 0) (cond (not (expects sd r.control DAbort)) (Some (NoInstruction false))
    (cond z (Some (NoInstruction false)) None))))
    (abort_other (eqb o user) (eqb o provider) (is_user_abort a) (is_provider_abort a))
    ∙ abort_does r o a (expects sd r.control DAbort) (abort_fits o a)

failing_does : (r : Record) (a : UserData) (x : Bool)
    → outcome_of r (service_parameters r DPAbortIndication a)
    (answer_out r.control (told_out n.abort_for 5) (cond (not x) (Some (NoInstruction false)) None)) ≡ answered r
    DPAbortIndication a (cond (not x) (Some (NoInstruction false)) (cond (not true) (Some (NoInstruction false)) None))
unfolding answered instructed outcome_of closes tell enter
failing_does r a true = refl
failing_does r a false = fault_does r DPAbortIndication a (told_out n.abort_for 5) (Some (NoInstruction false)) refl

failing_same : (sd : Side) (r : Record) (a : UserData)
    → outcome_of r (service_parameters r DPAbortIndication a) (walk rows sd r.control n.d_pabort n.plain) ≡ reached sd r DPAbortIndication a
unfolding reached first_fault abort_fault
failing_same sd r a = alike_does r (service_parameters r DPAbortIndication a) _ _ (failing_alike sd r.control) ∙
    failing_does r a (expects sd r.control DPAbort)

-- ---- D-START indication

abbrev good : Side → ℕ → Bool
good sd k = mem start_conditions k && can_see sd k

good_cond : (sd : Side) (b : Bool) (x y : ℕ) → good sd x ≡ true → good sd y ≡ true → good sd (cond b x y) ≡ true
good_cond sd true x y p q = p
good_cond sd false x y p q = q

quality_good : (sd : Side) → good sd n.wrong_quality ≡ true
unfolding mem
quality_good Air = refl
quality_good Ground = refl

security_good : (sd : Side) → good sd n.wrong_security ≡ true
unfolding mem
security_good Air = refl
security_good Ground = refl

abbrev centre : Side → Bool → Bool
centre Air z = false
centre Ground z = z

abbrev peer : Side → Bool → Bool
peer Air z = z
peer Ground z = true

-- the PDU's condition; m missing, i invalid, t a start with the mode d, f a forward, z from a facility, w supported, e of the own version
pdu_good : (sd : Side) (m i t d f z w e : Bool)
    → good sd (cond m n.no_pdu (cond i n.invalid_pdu (cond (centre sd z) (cond f (cond (not w) n.unsupported_forward (cond e n.equal_forward n.other_forward)) n.other_pdu) (cond t (cond d n.dsc_start (cond (peer sd z) n.start n.start_of_aircraft)) n.other_pdu)))) ≡ true
unfolding mem
pdu_good Air m i t d f z w e = good_cond Air m _ _ refl
    (good_cond Air i _ _ refl (good_cond Air t _ _ (good_cond Air d _ _ refl (good_cond Air z _ _ refl refl)) refl))
pdu_good Ground m i t d f z w e =
    good_cond Ground m _ _ refl
    (good_cond Ground i _ _ refl (good_cond Ground z _ _
    (good_cond Ground f _ _ (good_cond Ground (not w) _ _ refl (good_cond Ground e _ _ refl refl)) refl)
    (good_cond Ground t _ _ (good_cond Ground d _ _ refl refl) refl)))

start_good : (sd : Side) (r : Record) (x v : ℕ) (a : UserData) → good sd (pdu_first false a (start_condition sd r x v a)) ≡ true
start_good Air r x v a = pdu_good Air (is_missing a) (is_invalid a) (is_start_pdu a) (mode_of a) (is_forward a) (eqb x 0)
    r.forwards (eqb v r.version)
start_good Ground r x v a = pdu_good Ground (is_missing a) (is_invalid a) (is_start_pdu a) (mode_of a) (is_forward a)
    (eqb x 0) r.forwards (eqb v r.version)

indication_good : (sd : Side) (r : Record) (x s v : ℕ) (q : Qos) (a : UserData)
    → good sd (service_condition sd r (DStartIndication x s q v) a) ≡ true
indication_good sd r x s v q a = good_cond sd (not (qos_fits q)) _ _ (quality_good sd)
    (good_cond sd (differs (secures r.edition) s r.policy) _ _ (security_good sd) (start_good sd r x v a))

module _ (r : Record) (x s v : ℕ) (q : Qos) where
  -- the rest of its fault at an IDLE record
  abbrev rest : Side → UserData → Bool → Option Fault
  rest sd a i = pdu_fault false
      (cond (from_centre sd x) (is_forward a) (is_start_pdu a && (i && may_start (other sd) (mode_of a)))) true true a
      (cond (peer_fits sd x) None (Some (NoInstruction true)))

  abbrev does : Side → ℕ → UserData → Outcome
  does sd k a = outcome_of r (service_parameters r (DStartIndication x s q v) a)
      (answer_out r.control (start_instruction r.control k) (start_fault sd k))

  invited_does : (a : UserData) (d : Bool)
      → outcome_of r (service_parameters r (DStartIndication x s q v) a) (start_instruction r.control (cond d n.dsc_start n.start)) ≡ instructed r (DStartIndication x s q v) (Start d)
  unfolding instructed handed enter
  invited_does a true = there r (service_parameters r (DStartIndication x s q v) a) (after r.control (DStart true))
      n.as_is n.yes n.nothing n.taken n.silent 0 n.dsc_start_indication 0
  invited_does a false = there r (service_parameters r (DStartIndication x s q v) a) (after r.control (DStart false))
      n.as_is n.yes n.nothing n.taken n.silent 0 n.start_indication 0

  arrives_does : (w e : Bool)
      → outcome_of r (service_parameters r (DStartIndication x s q v) pdu.Forward) (start_instruction r.control (cond (not w) n.unsupported_forward (cond e n.equal_forward n.other_forward)))
      ≡ cond (not w) (responds r 1 s 0 None) (cond e (responds r 0 s 0 (Some ForwardIndication)) (responds r 2 s r.version None))
  unfolding outcome_of responds enter
  arrives_does true true = refl
  arrives_does true false = refl
  arrives_does false e = refl

  centre_does : (w e : Bool) → does Ground (cond (not w) n.unsupported_forward (cond e n.equal_forward n.other_forward)) pdu.Forward
      ≡ cond (not w) (responds r 1 s 0 None) (cond e (responds r 0 s 0 (Some ForwardIndication)) (responds r 2 s r.version None))
  centre_does true true = arrives_does true true
  centre_does true false = arrives_does true false
  centre_does false e = arrives_does false e

  other_does : (sd : Side) (a : UserData) (k : ℕ) (f : Option Fault) → start_fault sd k ≡ f → is_fault f ≡ true
      → does sd k a ≡ answered r (DStartIndication x s q v) a f
  other_does sd a k f e t = ap (λ (g : Option Fault). outcome_of r (service_parameters r (DStartIndication x s q v) a)
      (answer_out r.control (start_instruction r.control k) g)) e ∙ fault_does r (DStartIndication x s q v) a
      (start_instruction r.control k) f t

  air_does : (a : UserData)
      → does Air (pdu_first false a (start_condition Air r x v a)) a ≡ answered r (DStartIndication x s q v) a (rest Air a true)
  unfolding pdu_fault answered
  air_does Absent = other_does Air Absent n.no_pdu (Some Missing) refl refl
  air_does NotValid = other_does Air NotValid n.invalid_pdu (Some (Invalid true)) refl refl
  air_does (Start true) = other_does Air (Start true) n.dsc_start (Some (NotPermitted true)) refl refl
  air_does (Start false) = go (eqb x 0)
    where
      go : (b : Bool)
          → does Air (cond b n.start n.start_of_aircraft) (Start false) ≡ answered r (DStartIndication x s q v) (Start false) (cond b None (Some (NoInstruction true)))
      go true = invited_does (Start false) false
      go false = other_does Air (Start false) n.start_of_aircraft (Some (NoInstruction true)) refl refl
  air_does Send = other_does Air Send n.other_pdu (Some (NotPermitted true)) refl refl
  air_does (AbortUser w) = other_does Air (AbortUser w) n.other_pdu (Some (NotPermitted true)) refl refl
  air_does (AbortProvider w) = other_does Air (AbortProvider w) n.other_pdu (Some (NotPermitted true)) refl refl
  air_does pdu.Forward = other_does Air pdu.Forward n.other_pdu (Some (NotPermitted true)) refl refl
  air_does (ForwardResponse w) = other_does Air (ForwardResponse w) n.other_pdu (Some (NotPermitted true)) refl refl

  -- a PDU that is none of a start and a forward
  neither : (a : UserData) (b : Bool)
      → does Ground (cond b n.other_pdu n.other_pdu) a ≡ answered r (DStartIndication x s q v) a (cond (not (cond b false false)) (Some (NotPermitted true)) None)
  neither a true = other_does Ground a n.other_pdu (Some (NotPermitted true)) refl refl
  neither a false = other_does Ground a n.other_pdu (Some (NotPermitted true)) refl refl

  ground_does : (a : UserData)
      → does Ground (pdu_first false a (start_condition Ground r x v a)) a ≡ answered r (DStartIndication x s q v) a (rest Ground a true)
  unfolding pdu_fault answered instructed forward_arrives
  ground_does Absent = other_does Ground Absent n.no_pdu (Some Missing) refl refl
  ground_does NotValid = other_does Ground NotValid n.invalid_pdu (Some (Invalid true)) refl refl
  ground_does (Start d) = go (eqb x 0) d
    where
      go : (b d : Bool)
          → does Ground (cond b n.other_pdu (cond d n.dsc_start n.start)) (Start d) ≡ answered r (DStartIndication x s q v) (Start d) (cond (not (cond b false true)) (Some (NotPermitted true)) None)
      go true d = other_does Ground (Start d) n.other_pdu (Some (NotPermitted true)) refl refl
      go false true = invited_does (Start true) true
      go false false = invited_does (Start false) false
  ground_does Send = neither Send (eqb x 0)
  ground_does (AbortUser w) = neither (AbortUser w) (eqb x 0)
  ground_does (AbortProvider w) = neither (AbortProvider w) (eqb x 0)
  ground_does pdu.Forward = go (eqb x 0)
    where
      go : (b : Bool)
          → does Ground (cond b (cond (not r.forwards) n.unsupported_forward (cond (eqb v r.version) n.equal_forward n.other_forward)) n.other_pdu) pdu.Forward ≡ answered r (DStartIndication x s q v) pdu.Forward (cond (not (cond b true false)) (Some (NotPermitted true)) None)
      go true = centre_does r.forwards (eqb v r.version)
      go false = other_does Ground pdu.Forward n.other_pdu (Some (NotPermitted true)) refl refl
  ground_does (ForwardResponse w) = neither (ForwardResponse w) (eqb x 0)

  either_does : (sd : Side) (a : UserData)
      → does sd (pdu_first false a (start_condition sd r x v a)) a ≡ answered r (DStartIndication x s q v) a (rest sd a true)
  either_does Air a = air_does a
  either_does Ground a = ground_does a

  -- i: IDLE, m: the quality of service fits, l: security differs
  outer : (sd : Side) (a : UserData) (i m l : Bool)
      → outcome_of r (service_parameters r (DStartIndication x s q v) a) (answer_out r.control (start_instruction
      r.control
      (cond (not m) n.wrong_quality (cond l n.wrong_security (pdu_first false a (start_condition sd r x v a))))) (
      cond (not i) (Some (NoInstruction true)) (start_fault sd (cond (not m) n.wrong_quality
      (cond l n.wrong_security (pdu_first false a (start_condition sd r x v a)))))))
      ≡ answered r (DStartIndication x s q v) a
      (cond (not i) (Some (NoInstruction true)) (cond (not m) (Some Quality) (cond l (Some (Security true)) (rest sd a i))))
  outer sd a false m l = fault_does r (DStartIndication x s q v) a (start_instruction r.control
      (cond (not m) n.wrong_quality (cond l n.wrong_security (pdu_first false a (start_condition sd r x v a)))))
      (Some (NoInstruction true)) refl
  outer sd a true false l = fault_does r (DStartIndication x s q v) a (start_instruction r.control n.wrong_quality) (Some Quality) refl
  outer sd a true true true = fault_does r (DStartIndication x s q v) a (start_instruction r.control n.wrong_security) (Some (Security true)) refl
  outer sd a true true false = either_does sd a

  indication_same : (sd : Side) (a : UserData)
      → outcome_of r (service_parameters r (DStartIndication x s q v) a) (walk rows sd r.control n.d_start (service_condition sd r (DStartIndication x s q v) a)) ≡ reached sd r (DStartIndication x s q v) a
  unfolding reached first_fault indication_fault start_fits_of
  indication_same sd a =
      alike_does r (service_parameters r (DStartIndication x s q v) a) _ _
      (start_alike sd r.control (service_condition sd r (DStartIndication x s q v) a) (both_left
      (mem start_conditions (service_condition sd r (DStartIndication x s q v) a))
      (can_see sd (service_condition sd r (DStartIndication x s q v) a)) (indication_good sd r x s v q a)) (
      both_right (mem start_conditions (service_condition sd r (DStartIndication x s q v) a))
      (can_see sd (service_condition sd r (DStartIndication x s q v) a)) (indication_good sd r x s v q a)))
      ∙ outer sd a (is_idle r.control) (qos_fits q) (differs (secures r.edition) s r.policy)

-- ---- D-START confirmation

answer_in : (may live : Bool) (a : UserData) → mem confirmation_conditions (answer_condition may live a) ≡ true
unfolding mem
answer_in may live a =
    mem_cond confirmation_conditions (is_missing a) _ _ (mem_cond confirmation_conditions may _ _ refl refl)
    (mem_cond confirmation_conditions (is_invalid a) _ _ refl (mem_cond confirmation_conditions (send_allowed may live a) _
    _ refl (mem_cond confirmation_conditions (is_response a) _ _ refl refl)))

-- w: in FORWARD, m: may there be no PDU elsewhere
abbrev condition : Bool → Bool → Bool → UserData → ℕ
condition w m live a = cond w (answer_condition false live a) (answer_condition m live a)

answer_among : (t l w m live : Bool) (a : UserData)
    → mem confirmation_conditions (cond t n.turned_away (cond l n.wrong_security (condition w m live a))) ≡ true
unfolding mem
answer_among t l w m live a = mem_cond confirmation_conditions t _ _ refl (mem_cond confirmation_conditions l _ _ refl
    (mem_cond confirmation_conditions w _ _ (answer_in false live a) (answer_in m live a)))

abbrev forward_over : Out
forward_over = out closed n.no n.no n.nothing n.taken n.silent 0 n.forward_confirmation 0

-- its response's fault in FORWARD; b: accepted
abbrev responding : Bool → UserData → Option Fault
responding b a = cond b (pdu_fault false false true true a None) (pdu_fault false (is_response a) false true a None)

module _ (r : Record) (x o s v : ℕ) (a : UserData) where
  abbrev here : ServicePrimitive
  here = DStartConfirmation x o s v

  abbrev does_at : Reply → ℕ → Option Fault → Outcome
  does_at b k f = outcome_of r (service_parameters r here a) (answer_out r.control
      (cond (eqb k n.response) forward_over (handed_out r.control (DStartCnf b) n.no n.as_is n.start_confirmation)) f)

  fails_at : (b : Reply) (k : ℕ) (f : Option Fault) → is_fault f ≡ true → does_at b k f ≡ answered r here a f
  fails_at b k f t = fault_does r here a
      (cond (eqb k n.response) forward_over (handed_out r.control (DStartCnf b) n.no n.as_is n.start_confirmation)) f t

confirmed_does : (r : Record) (x o s v : ℕ) (b : Reply) (a : UserData) → is_response a ≡ false → reply_of x ≡ b
    → outcome_of r (service_parameters r (DStartConfirmation x o s v) a) (handed_out r.control (DStartCnf b) n.no n.as_is n.start_confirmation) ≡ instructed r (DStartConfirmation x o s v) a
unfolding instructed handed enter
confirmed_does r x o s v Accepted a k e = rw (k, e) (there r (service_parameters r (DStartConfirmation x o s v) a)
    (after r.control (DStartCnf Accepted)) n.no n.as_is n.nothing n.taken n.silent 0 n.start_confirmation 0)
confirmed_does r x o s v Rejected a k e = rw (k, e) (there r (service_parameters r (DStartConfirmation x o s v) a) closed
    n.no n.no n.nothing n.taken n.silent 0 n.start_confirmation 0)

forward_over_is : (r : Record) (x o s v w : ℕ)
    → outcome_of r (service_parameters r (DStartConfirmation x o s v) (ForwardResponse w)) forward_over ≡ instructed r (DStartConfirmation x o s v) (ForwardResponse w)
unfolding instructed outcome_of forward_confirmed closes enter
forward_over_is r x o s v w = refl

-- a PDU that is no send is not allowed
not_allowed : (may live : Bool) → (not (may && live) && false) ≡ false
not_allowed true true = refl
not_allowed true false = refl
not_allowed false live = refl

-- a start's confirmation whose PDU decides; m: may there be none
sent_back : (r : Record) (x o s v : ℕ) (m : Bool) (b : Reply) (a : UserData) → reply_of x ≡ b
    → does_at r x o s v a b (answer_condition m (is_accepted b) a) (confirmed_fault b (answer_condition m (is_accepted b) a)) ≡ answered r (DStartConfirmation x o s v) a (pdu_fault m (send_allowed m (is_accepted b) a) (is_accepted b) true a None)
unfolding pdu_fault answered
sent_back r x o s v true b Absent e = confirmed_does r x o s v b Absent refl e
sent_back r x o s v false b Absent e = fails_at r x o s v Absent b n.no_pdu (Some Missing) refl
sent_back r x o s v m b NotValid e = fails_at r x o s v NotValid b n.invalid_pdu (Some (Invalid (is_accepted b))) refl
sent_back r x o s v m b (Start d) e = rw (not_allowed m (is_accepted b)) (fails_at r x o s v (Start d) b n.other_pdu (Some (NotPermitted true)) refl)
sent_back r x o s v true Accepted Send e = fails_at r x o s v Send Accepted n.other_pdu (Some (NotPermitted true)) refl
sent_back r x o s v true Rejected Send e = confirmed_does r x o s v Rejected Send refl e
sent_back r x o s v false b Send e = confirmed_does r x o s v b Send refl e
sent_back r x o s v m b (AbortUser w) e = rw (not_allowed m (is_accepted b))
    (fails_at r x o s v (AbortUser w) b n.other_pdu (Some (NotPermitted true)) refl)
sent_back r x o s v m b (AbortProvider w) e = rw (not_allowed m (is_accepted b))
    (fails_at r x o s v (AbortProvider w) b n.other_pdu (Some (NotPermitted true)) refl)
sent_back r x o s v m b pdu.Forward e = rw (not_allowed m (is_accepted b))
    (fails_at r x o s v pdu.Forward b n.other_pdu (Some (NotPermitted true)) refl)
sent_back r x o s v m b (ForwardResponse w) e = rw (not_allowed m (is_accepted b))
    (fails_at r x o s v (ForwardResponse w) b n.response (Some (NotPermitted true)) refl)

-- and a forward's
came_back : (r : Record) (x o s v : ℕ) (b : Reply) (a : UserData)
    → does_at r x o s v a b (answer_condition false (is_accepted b) a) (responded_fault b (answer_condition false (is_accepted b) a)) ≡ answered r (DStartConfirmation x o s v) a (responding (is_accepted b) a)
unfolding pdu_fault answered
came_back r x o s v Accepted Absent = fails_at r x o s v Absent Accepted n.no_pdu (Some Missing) refl
came_back r x o s v Accepted NotValid = fails_at r x o s v NotValid Accepted n.invalid_pdu (Some (Invalid true)) refl
came_back r x o s v Accepted (Start m) = fails_at r x o s v (Start m) Accepted n.other_pdu (Some (NotPermitted true)) refl
came_back r x o s v Accepted Send = fails_at r x o s v Send Accepted n.send (Some (NotPermitted true)) refl
came_back r x o s v Accepted (AbortUser w) = fails_at r x o s v (AbortUser w) Accepted n.other_pdu (Some (NotPermitted true)) refl
came_back r x o s v Accepted (AbortProvider w) = fails_at r x o s v (AbortProvider w) Accepted n.other_pdu (Some (NotPermitted true)) refl
came_back r x o s v Accepted pdu.Forward = fails_at r x o s v pdu.Forward Accepted n.other_pdu (Some (NotPermitted true)) refl
came_back r x o s v Accepted (ForwardResponse w) = fails_at r x o s v (ForwardResponse w) Accepted n.response (Some (NotPermitted true)) refl
came_back r x o s v Rejected Absent = fails_at r x o s v Absent Rejected n.no_pdu (Some Missing) refl
came_back r x o s v Rejected NotValid = fails_at r x o s v NotValid Rejected n.invalid_pdu (Some (Invalid false)) refl
came_back r x o s v Rejected (Start m) = fails_at r x o s v (Start m) Rejected n.other_pdu (Some (NotPermitted true)) refl
came_back r x o s v Rejected Send = fails_at r x o s v Send Rejected n.send (Some (NotPermitted true)) refl
came_back r x o s v Rejected (AbortUser w) = fails_at r x o s v (AbortUser w) Rejected n.other_pdu (Some (NotPermitted true)) refl
came_back r x o s v Rejected (AbortProvider w) = fails_at r x o s v (AbortProvider w) Rejected n.other_pdu (Some (NotPermitted true)) refl
came_back r x o s v Rejected pdu.Forward = fails_at r x o s v pdu.Forward Rejected n.other_pdu (Some (NotPermitted true)) refl
came_back r x o s v Rejected (ForwardResponse w) = forward_over_is r x o s v w

-- START-REQ is not FORWARD
one_state : (z : State) (m : Bool) → (is z st.StartReq && m) ≡ true → is z st.Forward ≡ false
one_state st.Idle m e = refl
one_state st.StartReq m e = refl
one_state st.StartInd m e = refl
one_state st.Dialogue m e = refl
one_state st.End m e = refl
one_state st.Forward m e = absurd (subst T (sym e) tt)

-- e: expected, w: in FORWARD, t: turned away, l: security differs, m: may there be no PDU
confirmation_does : (r : Record) (x o s v : ℕ) (b : Reply) (a : UserData) (e w t l m : Bool) → reply_of x ≡ b → (e ≡ true → w ≡ false)
    → does_at r x o s v a b (cond t n.turned_away (cond l n.wrong_security (condition w m (is_accepted b) a))) (cond
    (not e) (cond w
    (responded_fault b (cond t n.turned_away (cond l n.wrong_security (condition w m (is_accepted b) a))))
    (Some (NoInstruction true)))
    (confirmed_fault b (cond t n.turned_away (cond l n.wrong_security (condition w m (is_accepted b) a)))))
    ≡ answered r (DStartConfirmation x o s v) a (cond (not e) (cond w
    (cond t (Some TurnedAway) (cond l (Some (Security (is_accepted b))) (responding (is_accepted b) a)))
    (Some (NoInstruction true))) (cond t (Some TurnedAway) (cond l (Some (Security (is_accepted b)))
    (pdu_fault m (send_allowed m (is_accepted b) a) (is_accepted b) true a None))))
confirmation_does r x o s v b a true true t l m h y = absurd (subst T (y refl) tt)
confirmation_does r x o s v b a true false true l m h y = fails_at r x o s v a b n.turned_away (Some TurnedAway) refl
confirmation_does r x o s v b a true false false true m h y = fails_at r x o s v a b n.wrong_security (Some (Security (is_accepted b))) refl
confirmation_does r x o s v b a true false false false m h y = sent_back r x o s v m b a h
confirmation_does r x o s v b a false true true l m h y = fails_at r x o s v a b n.turned_away (Some TurnedAway) refl
confirmation_does r x o s v b a false true false true m h y = fails_at r x o s v a b n.wrong_security (Some (Security (is_accepted b))) refl
confirmation_does r x o s v b a false true false false m h y = came_back r x o s v b a
confirmation_does r x o s v b a false false t l m h y = fails_at r x o s v a b
    (cond t n.turned_away (cond l n.wrong_security (answer_condition m (is_accepted b) a))) (Some (NoInstruction true)) refl

confirmation_same : (sd : Side) (r : Record) (x o s v : ℕ) (a : UserData) (b : Bool) → eqb x accepted ≡ b
    → outcome_of r (service_parameters r (DStartConfirmation x o s v) a) (walk rows sd r.control
    (cond b n.d_start_accepted n.d_start_rejected) (service_condition sd r (DStartConfirmation x o s v) a)) ≡ reached
    sd r (DStartConfirmation x o s v) a
unfolding reached first_fault confirmation_fault response_fault reply_of
confirmation_same sd r x o s v a true e =
    let g = service_parameters r (DStartConfirmation x o s v) a in
    let k = service_condition sd r (DStartConfirmation x o s v) a in
    let l = differs (secures r.edition) s r.request in
    let h : outcome_of r g (confirmation_wanted sd r.control Accepted k) ≡ reached sd r (DStartConfirmation x o s v) a
    = rw e (confirmation_does r x o s v Accepted a (expects sd r.control (DStartCnf Accepted))
    (awaits_response r.control) (turned_away x o) l (spares r.edition) (rw e)
    (one_state r.control.state (may_start sd r.control.dsc))) in
    alike_does r g (walk rows sd r.control n.d_start_accepted k) (confirmation_wanted sd r.control Accepted k) (
    accepted_alike sd r.control k
    (answer_among (turned_away x o) l (awaits_response r.control) (spares r.edition) (eqb x accepted) a)) ∙
    h
confirmation_same sd r x o s v a false e =
    let g = service_parameters r (DStartConfirmation x o s v) a in
    let k = service_condition sd r (DStartConfirmation x o s v) a in
    let l = differs (secures r.edition) s r.request in
    let h : outcome_of r g (confirmation_wanted sd r.control Rejected k) ≡ reached sd r (DStartConfirmation x o s v) a
    = rw e (confirmation_does r x o s v Rejected a (expects sd r.control (DStartCnf Rejected))
    (awaits_response r.control) (turned_away x o) l (spares r.edition) (rw e)
    (one_state r.control.state (may_start sd r.control.dsc))) in
    alike_does r g (walk rows sd r.control n.d_start_rejected k) (confirmation_wanted sd r.control Rejected k) (
    rejected_alike sd r.control k
    (answer_among (turned_away x o) l (awaits_response r.control) (spares r.edition) (eqb x accepted) a)) ∙
    h

-- ---- every event

service_same : (sd : Side) (r : Record) (p : ServicePrimitive) (a : UserData)
    → outcome_of r (service_parameters r p a) (walk rows sd r.control (service_title p) (service_condition sd r p a)) ≡ reached sd r p a
service_same sd r (DStartIndication x s q v) a = indication_same r x s v q sd a
service_same sd r (DStartConfirmation x o s v) a = confirmation_same sd r x o s v a (eqb x accepted) refl
service_same sd r DDataIndication a = data_same sd r a
service_same sd r DEndIndication a = end_same sd r a
service_same sd r (DEndConfirmation x) a = end_confirmed_of sd r x a (eqb x accepted) refl
service_same sd r (DAbortIndication o) a = abort_same sd r o a
service_same sd r DPAbortIndication a = failing_same sd r a

expiry_same : (sd : Side) (r : Record) (g : Parameters) (t : Bool)
    → outcome_of r g (walk rows sd r.control n.expiry (cond t n.plain n.timer_stopped)) ≡ cond (is_none (cond (not t) (Some Prohibited) None)) (timer_expires r) (refused (cond (not t) (Some Prohibited) None) r)
unfolding timer_expires
expiry_same sd r g true = alike_does r g (walk rows sd r.control n.expiry n.plain) (except_out true 0 0)
    (expiry_alike sd r.control) ∙ except_does r g true 0 0
expiry_same sd r g false = alike_does r g (walk rows sd r.control n.expiry n.timer_stopped)
    (refused_out r.control n.prohibited) (stopped_alike sd r.control) ∙ refused_does r g n.prohibited

error_same : (sd : Side) (r : Record) (g : Parameters) → outcome_of r g (walk rows sd r.control n.system_error n.plain) ≡ system_error r
unfolding system_error
error_same sd r g =
    alike_does r g (walk rows sd r.control n.system_error n.plain) (fail_wanted r.control) (error_alike sd r.control)
    ∙ chosen (outcome_of r g) (is_idle r.control) quiet_out (except_out true 1 1) (closes r None) (excepts r true 1 1)
    (quiet_does r g) (except_does r g true 1 1)

pub fitting_same : (sd : Side) (r : Record) (e : Event) → outcome_of r (parameters_of r e) (row_of sd r e) ≡ step_fitting sd r e
unfolding row_of step_fitting refusal_fitting permitted message_refusal acts
fitting_same sd r (User u) = user_same sd r u
fitting_same sd r (Forward k s) = forward_same sd r k s
fitting_same sd r (Service p a) = service_same sd r p a
fitting_same sd r TimerExpires = expiry_same sd r (parameters 0 0 0 0 0 0 Absent) r.timer
fitting_same sd r UnrecoverableSystemError = error_same sd r (parameters 0 0 0 0 0 0 Absent)

-- the theorem: every record and every event
pub rows_same : (sd : Side) (r : Record) (e : Event) → rows_step sd r e ≡ step sd r e
unfolding rows_step
rows_same sd r e = go (event_fits sd r.edition e) refl
  where
    go : (b : Bool) → event_fits sd r.edition e ≡ b
        → cond (not b) (refused (Some Shape) r) (outcome_of r (parameters_of r e) (row_of sd r e)) ≡ step sd r e
    go true f = fitting_same sd r e ∙ sym (step_of_fitting sd r e f)
    go false f = sym (step_shape sd r e f)

-- and every dialogue number, so that the bytes are the same too
pub rows_numbered_is : (sd : Side) (r : Record) (m : ℕ) (e : Event) (v : ℕ) → rows_numbered sd r m e v ≡ numbered_step sd r m e v
unfolding rows_numbered
rows_numbered_is sd r m e v = go (event_fits sd r.edition e) refl (is_stale m e v) refl
  where
    go : (b : Bool) → event_fits sd r.edition e ≡ b → (l : Bool) → is_stale m e v ≡ l
        → cond (not b) (refused (Some Shape) r) (cond l (refused (Some Stale) r) (outcome_of r (parameters_of r e) (row_of sd r e))) ≡ numbered_step sd r m e v
    go true f true l = sym (then_stale sd r m e v f l)
    go true f false l = fitting_same sd r e ∙ sym (then_fitting sd r m e v f l)
    go false f l h = sym (shape_first sd r m e v f)
