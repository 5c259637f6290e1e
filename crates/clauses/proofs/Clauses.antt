-- What document 01 says of single events, as equations of the step.
-- Assumes nothing.
use mathlib.Core.Path.{◌≡◌, refl, ap, sym, subst, ◌∙◌}
use mathlib.Core.Bool.{Bool, true, false, not, cond}
use mathlib.Core.List.{List, [], ◌∷◌}
use Prim.Native.Nat.{ℕ, ◌≤◌, ◌<◌}
use lib.Dec.{T, ltb, leb, eqb}
use borrow.Author.Tests.{le-leb, le-ltb, lt-leb, eqb-true, not-false}
use Rattle.editions.specs.Editions.{secures, spares, user_reasons}
use Rattle.machine.specs.Codes.{dsc_mode, modes, accepted, user, undefined, timer_expired, invalid_pdu, protocol_error, communication_service_failure, communication_service_error, invalid_qos_parameter, expected_pdu_missing, not_permitted_pdu}
use Rattle.control.specs.Control.{is_idle, takes, goes, sends, awaits_response, expects, after, is_start}
use Rattle.machine.specs.Record.{with_job, enter}
use Rattle.machine.specs.UserData.{mode_of, is_send, user_data_fits, abort_fits}
use Rattle.machine.specs.Event.{has_mode, qos_fits, user_fits, service_fits, event_fits}
use Rattle.machine.specs.Outcome.{is_none, refused}
use Rattle.machine.specs.Exceptions.{tell, closes, aborts, excepts, timer_expires, system_error, no_instruction}
use Rattle.machine.specs.Calls.{reply_of, sent, start_request, start_response, message_request, end_request, end_response, user_abort, call_of, unsent, called}
use Rattle.machine.specs.Faults.{differs, turned_away, from_centre, start_fits_of, pdu_fault, send_fault, abort_fault, indication_fault, confirmation_fault, first_fault}
use Rattle.machine.specs.Primitives.{handed, instructed, answered, reached}
use Rattle.machine.specs.Step.{permitted, message_refusal, refusal_of, acts, step}
use Rattle.clauses.proofs.Ways.{by_test}
use Rattle.control.proofs.Moves.{idle_expects_is, idle_awaits_is}
use Rattle.control.specs.declared.Side.{Side}
use Rattle.control.specs.declared.Side.TheVariants.{Ground}
use Rattle.control.specs.declared.Reply.TheVariants.{Accepted, Rejected}
use Rattle.control.specs.declared.Call.TheVariants.{MessageRequest}
use Rattle.control.specs.declared.Primitive.{Primitive}
use Rattle.control.specs.declared.Primitive.TheVariants.{DStart, DStartCnf, DData, DEnd, DEndCnf, DAbort, DPAbort}
use Rattle.machine.specs.declared.record.Record.{Record}
use Rattle.machine.specs.declared.event.UserData.{UserData}
use Rattle.machine.specs.declared.event.UserData.TheVariants.{Absent, NotValid, AbortUser, Forward}
use Rattle.machine.specs.declared.event.UserPrimitive.{UserPrimitive}
use Rattle.machine.specs.declared.event.UserPrimitive.TheVariants.{StartServiceRequest, StartServiceResponse, MessageServiceRequest, EndServiceRequest, EndServiceResponse, UserAbortServiceRequest}
use Rattle.machine.specs.declared.event.ServicePrimitive.{ServicePrimitive}
use Rattle.machine.specs.declared.event.ServicePrimitive.TheVariants.{DStartIndication, DStartConfirmation, DDataIndication, DEndIndication, DEndConfirmation, DAbortIndication, DPAbortIndication}
use Rattle.machine.specs.declared.event.Event.{Event}
use Rattle.machine.specs.declared.event.Event.TheVariants.{User, Service, TimerExpires, UnrecoverableSystemError}
use Rattle.machine.specs.declared.event.Qos.{Qos}
use Rattle.machine.specs.declared.faults.Fault.{Fault}
use Rattle.machine.specs.declared.faults.Fault.TheVariants.{NoInstruction, Quality, TurnedAway, Security, Missing, Invalid, NotPermitted}
use Rattle.machine.specs.declared.outcome.StepRefusal.TheVariants.{Shape, Prohibited, NoMessage, Repeat}
use Rattle.machine.specs.declared.outcome.Invoked.{Invoked}
use Rattle.machine.specs.declared.outcome.Invoked.TheVariants.{DStartRequest, DStartResponse, DDataRequest, DEndRequest, DEndResponse, DAbortRequest, DStartForwardRequest, DStartForwardResponse}
use Rattle.machine.specs.declared.outcome.Told.{Told}
use Rattle.machine.specs.declared.outcome.Told.TheVariants.{StartIndication, StartConfirmation, MessageIndication, EndIndication, EndConfirmation, UserAbortIndication, ProviderAbortIndication, ForwardIndication, ForwardConfirmation}
use Rattle.machine.specs.declared.outcome.Outcome.{Outcome}
use Rattle.std.specs.Prelude.{None, Option, Some}

-- ---- the order of refusals

pub shape_first : (sd : Side) (r : Record) (e : Event) → event_fits sd r.edition e ≡ false → step sd r e ≡ refused (Some Shape) r
unfolding step refusal_of
shape_first sd r e s = rw s

pub then_prohibited : (sd : Side) (r : Record) (e : Event) → event_fits sd r.edition e ≡ true
    → permitted sd r e ≡ false → step sd r e ≡ refused (Some Prohibited) r
unfolding step refusal_of
then_prohibited sd r e s p = rw (s, p)

pub then_no_message : (sd : Side) (r : Record) (j : ℕ) → ltb 0 j ≡ true → takes sd r.control MessageRequest ≡ true
    → step sd r (User (MessageServiceRequest false j)) ≡ refused (Some NoMessage) r
unfolding step refusal_of event_fits user_fits permitted call_of message_refusal unsent
then_no_message sd r j s p = rw (s, p)

pub then_repeat : (sd : Side) (r : Record) (j : ℕ) → ltb 0 j ≡ true → takes sd r.control MessageRequest ≡ true
    → j ≤ r.highest → step sd r (User (MessageServiceRequest true j)) ≡ refused (Some Repeat) r
unfolding step refusal_of event_fits user_fits permitted call_of message_refusal unsent
then_repeat sd r j s p h = rw (s, p, le-leb j r.highest h)

-- the mode that is not dsc
abbrev pub cpdlc_mode : ℕ
cpdlc_mode = 0

-- document 02, E7: mode dsc at the ground machine is SHAPE in every state, so before PROHIBITED; and any other code is, at both machines
pub dsc_at_ground : (r : Record) (k s : ℕ) → step Ground r (User (StartServiceRequest dsc_mode k s)) ≡ refused (Some Shape) r
unfolding event_fits user_fits has_mode
dsc_at_ground r k s = shape_first Ground r (User (StartServiceRequest dsc_mode k s)) refl

pub no_such_mode : (sd : Side) (r : Record) (m k s : ℕ) → modes ≤ m → step sd r (User (StartServiceRequest m k s)) ≡ refused (Some Shape) r
unfolding event_fits user_fits has_mode
no_such_mode sd r m k s h = shape_first sd r (User (StartServiceRequest m k s)) (rw (le-ltb m modes h))

-- document 01, "Sizes": a job number is from 1 on. So job 0 is SHAPE, in every state and with or without a message
pub job_zero : (sd : Side) (r : Record) (h : Bool) → step sd r (User (MessageServiceRequest h 0)) ≡ refused (Some Shape) r
unfolding event_fits user_fits
job_zero sd r h = shape_first sd r (User (MessageServiceRequest h 0)) refl

-- a taken message request moves the highest job to its own
pub job_taken : (sd : Side) (r : Record) (j : ℕ) → ltb 0 j ≡ true → takes sd r.control MessageRequest ≡ true
    → r.highest < j → step sd r (User (MessageServiceRequest true j)) ≡ message_request r j
unfolding step refusal_of event_fits user_fits permitted call_of message_refusal unsent acts called
job_taken sd r j s p h = rw (s, p, lt-leb j r.highest h)

-- a dialogue-service primitive is never refused but for SHAPE
pub service_taken : (sd : Side) (r : Record) (p : ServicePrimitive) (a : UserData)
    → event_fits sd r.edition (Service p a) ≡ true → step sd r (Service p a) ≡ reached sd r p a
unfolding step refusal_of permitted message_refusal acts
service_taken sd r p a s = rw s

-- and its first fault decides what is done
pub fault_answered : (sd : Side) (r : Record) (p : ServicePrimitive) (a : UserData) (f : Option Fault)
    → event_fits sd r.edition (Service p a) ≡ true → first_fault sd r p a ≡ f
    → step sd r (Service p a) ≡ answered r p a f
unfolding reached
fault_answered sd r p a f s e = service_taken sd r p a s ∙ ap (answered r p a) e

-- ---- the control decides where a call leads

pub called_goes : (r : Record) (u : UserPrimitive) → (called r u).next.control ≡ goes r.control (call_of u)
unfolding called call_of start_request start_response message_request end_request end_response user_abort sent enter
called_goes r (StartServiceRequest m k s) = refl
called_goes r (StartServiceResponse m x h) = refl
called_goes r (MessageServiceRequest h j) = refl
called_goes r (EndServiceRequest m h) = refl
called_goes r (EndServiceResponse m x h) = refl
called_goes r (UserAbortServiceRequest g x) = refl

-- what an invoked primitive puts on the line, of those that the control has
abbrev pub line : Option Invoked → UserData → List Primitive
line None a = []
line (Some (DStartRequest q s)) a = DStart (mode_of a) ∷ []
line (Some (DStartResponse x s)) a = DStartCnf (reply_of x) ∷ []
line (Some DDataRequest) a = DData ∷ []
line (Some DEndRequest) a = DEnd ∷ []
line (Some (DEndResponse x)) a = DEndCnf (reply_of x) ∷ []
line (Some (DAbortRequest o)) a = DAbort ∷ []
line (Some (DStartForwardRequest q s v)) a = []
line (Some (DStartForwardResponse s v)) a = []

-- the control decides what a call puts on the line
pub called_sends : (r : Record) (u : UserPrimitive) → line (called r u).invoked (called r u).apdu ≡ sends (call_of u) ∷ []
unfolding called call_of start_request start_response message_request end_request end_response user_abort sent
called_sends r (StartServiceRequest m k s) = refl
called_sends r (StartServiceResponse m x h) = refl
called_sends r (MessageServiceRequest h j) = refl
called_sends r (EndServiceRequest m h) = refl
called_sends r (EndServiceResponse m x h) = refl
called_sends r (UserAbortServiceRequest g x) = refl

-- an expected primitive puts nothing there, and leads where the control says
pub handed_after : (r : Record) (p : Primitive) (t : Option Told)
    → ((handed r p t).next.control ≡ after r.control p) × ((handed r p t).invoked ≡ None)
unfolding handed enter
handed_after r p t = (refl, refl)

-- ---- a PDU that is not valid where the peer is gone: no D-ABORT, the active user is told invalid-PDU

pub end_unreadable : (sd : Side) (r : Record) → expects sd r.control (DEndCnf Accepted) ≡ true
    → step sd r (Service (DEndConfirmation accepted) NotValid) ≡ closes r (tell r (Some (ProviderAbortIndication invalid_pdu)))
unfolding event_fits service_fits user_data_fits first_fault send_fault pdu_fault answered excepts reply_of
end_unreadable sd r e = fault_answered sd r (DEndConfirmation accepted) NotValid (Some (Invalid false)) refl (rw e)

pub end_unreadable_silent : (sd : Side) (r : Record) → expects sd r.control (DEndCnf Accepted) ≡ true
    → (step sd r (Service (DEndConfirmation accepted) NotValid)).invoked ≡ None
unfolding closes
end_unreadable_silent sd r e = rw (end_unreadable sd r e)

pub start_unreadable : (sd : Side) (r : Record) (x o s v : ℕ) → service_fits (DStartConfirmation x o s v) ≡ true
    → expects sd r.control (DStartCnf Rejected) ≡ true → eqb x accepted ≡ false → turned_away x o ≡ false
    → differs (secures r.edition) s r.request ≡ false
    → step sd r (Service (DStartConfirmation x o s v) NotValid) ≡ closes r (tell r (Some (ProviderAbortIndication invalid_pdu)))
unfolding event_fits user_data_fits first_fault confirmation_fault pdu_fault answered excepts reply_of
start_unreadable sd r x o s v h e n t y = fault_answered sd r (DStartConfirmation x o s v) NotValid (Some (Invalid false)) (rw h) (rw (n, e, t, y))

-- ---- a missing PDU: the APDU says expected-PDU-missing, the user is told not-permitted-PDU

pub missing : (sd : Side) (r : Record) (p : ServicePrimitive) → event_fits sd r.edition (Service p Absent) ≡ true
    → first_fault sd r p Absent ≡ Some Missing
    → step sd r (Service p Absent) ≡ aborts r expected_pdu_missing (tell r (Some (ProviderAbortIndication not_permitted_pdu)))
unfolding answered excepts
missing sd r p s e = fault_answered sd r p Absent (Some Missing) s e

pub missing_data : (sd : Side) (r : Record) → expects sd r.control DData ≡ true
    → step sd r (Service DDataIndication Absent) ≡ aborts r expected_pdu_missing (tell r (Some (ProviderAbortIndication not_permitted_pdu)))
unfolding event_fits service_fits user_data_fits first_fault send_fault pdu_fault
missing_data sd r e = missing sd r DDataIndication refl (rw e)

pub missing_end : (sd : Side) (r : Record) → spares r.edition ≡ false → expects sd r.control DEnd ≡ true
    → step sd r (Service DEndIndication Absent) ≡ aborts r expected_pdu_missing (tell r (Some (ProviderAbortIndication not_permitted_pdu)))
unfolding event_fits service_fits user_data_fits first_fault send_fault pdu_fault
missing_end sd r z e = missing sd r DEndIndication refl (rw (e, z))

pub missing_end_confirmation : (sd : Side) (r : Record) (x : ℕ) → spares r.edition ≡ false → ltb x 2 ≡ true
    → expects sd r.control (DEndCnf (reply_of x)) ≡ true
    → step sd r (Service (DEndConfirmation x) Absent) ≡ aborts r expected_pdu_missing (tell r (Some (ProviderAbortIndication not_permitted_pdu)))
unfolding event_fits service_fits user_data_fits first_fault send_fault pdu_fault
missing_end_confirmation sd r x z s e = missing sd r (DEndConfirmation x) (rw s) (rw (e, z))

pub missing_start : (sd : Side) (r : Record) (x s v : ℕ) (q : Qos) → service_fits (DStartIndication x s q v) ≡ true
    → is_idle r.control ≡ true → qos_fits q ≡ true → differs (secures r.edition) s r.policy ≡ false
    → step sd r (Service (DStartIndication x s q v) Absent) ≡ aborts r expected_pdu_missing (tell r (Some (ProviderAbortIndication not_permitted_pdu)))
unfolding event_fits user_data_fits first_fault indication_fault pdu_fault
missing_start sd r x s v q h d g y = missing sd r (DStartIndication x s q v) (rw h) (rw (d, g, y))

pub missing_confirmation : (sd : Side) (r : Record) (x o s v : ℕ) → spares r.edition ≡ false
    → service_fits (DStartConfirmation x o s v) ≡ true → expects sd r.control (DStartCnf (reply_of x)) ≡ true
    → turned_away x o ≡ false → differs (secures r.edition) s r.request ≡ false
    → step sd r (Service (DStartConfirmation x o s v) Absent) ≡ aborts r expected_pdu_missing (tell r (Some (ProviderAbortIndication not_permitted_pdu)))
unfolding event_fits user_data_fits first_fault confirmation_fault pdu_fault
missing_confirmation sd r x o s v z h e t y = missing sd r (DStartConfirmation x o s v) (rw h) (rw (e, t, y, z))

-- ---- several faults in one D-START indication: each hides those behind it

module _ (sd : Side) (r : Record) (x s v : ℕ) (q : Qos) (a : UserData) (h : event_fits sd r.edition (Service (DStartIndication x s q v) a) ≡ true) where
  pub start_unexpected : is_idle r.control ≡ false → step sd r (Service (DStartIndication x s q v) a) ≡ no_instruction r true
  unfolding first_fault indication_fault answered
  start_unexpected d = fault_answered sd r (DStartIndication x s q v) a (Some (NoInstruction true)) h (rw d)

  pub then_quality : is_idle r.control ≡ true → qos_fits q ≡ false
      → step sd r (Service (DStartIndication x s q v) a) ≡ aborts r invalid_qos_parameter None
  unfolding first_fault indication_fault answered
  then_quality d g = fault_answered sd r (DStartIndication x s q v) a (Some Quality) h (rw (d, g))

  pub then_security : is_idle r.control ≡ true → qos_fits q ≡ true
      → differs (secures r.edition) s r.policy ≡ true
      → step sd r (Service (DStartIndication x s q v) a) ≡ aborts r communication_service_failure (tell r (Some (ProviderAbortIndication communication_service_failure)))
  unfolding first_fault indication_fault answered excepts
  then_security d g y = fault_answered sd r (DStartIndication x s q v) a (Some (Security true)) h (rw (d, g, y))

-- ---- and in one D-START confirmation

module _ (sd : Side) (r : Record) (x o s v : ℕ) (a : UserData) (h : event_fits sd r.edition (Service (DStartConfirmation x o s v) a) ≡ true) where
  pub confirmation_unexpected : expects sd r.control (DStartCnf (reply_of x)) ≡ false
      → awaits_response r.control ≡ false → step sd r (Service (DStartConfirmation x o s v) a) ≡ no_instruction r true
  unfolding first_fault confirmation_fault answered
  confirmation_unexpected e w = fault_answered sd r (DStartConfirmation x o s v) a (Some (NoInstruction true)) h (rw (e, w))

  pub then_turned_away : expects sd r.control (DStartCnf (reply_of x)) ≡ true → turned_away x o ≡ true
      → step sd r (Service (DStartConfirmation x o s v) a) ≡ closes r (tell r (Some (ProviderAbortIndication communication_service_error)))
  unfolding first_fault confirmation_fault answered
  then_turned_away e t = fault_answered sd r (DStartConfirmation x o s v) a (Some TurnedAway) h (rw (e, t))

  -- the dialogue is open at an accepted confirmation only
  pub then_insecure : expects sd r.control (DStartCnf (reply_of x)) ≡ true → turned_away x o ≡ false
      → differs (secures r.edition) s r.request ≡ true
      → step sd r (Service (DStartConfirmation x o s v) a) ≡ excepts r (eqb x accepted) communication_service_failure communication_service_failure
  unfolding first_fault confirmation_fault answered
  then_insecure e t y = fault_answered sd r (DStartConfirmation x o s v) a (Some (Security (eqb x accepted))) h (rw (e, t, y))

-- ---- no dialogue exists after a D-ABORT or D-P-ABORT indication: none is sent back

abbrev Unsent : Outcome → Type 0
Unsent o = o.invoked ≡ None

none_unsent : (r : Record) → Unsent (no_instruction r false)
unfolding no_instruction excepts closes
none_unsent r = by_test Unsent (is_idle r.control) _ _ (λ e. refl) (λ e. refl)

abort_unsent : (sd : Side) (r : Record) (p : ServicePrimitive) (a : UserData) (k : Primitive) (fits : Bool)
    → Unsent (instructed r p a) → Unsent (answered r p a (abort_fault sd r k fits))
unfolding answered abort_fault
abort_unsent sd r p a k fits u =
    by_test (λ (f : Option Fault). Unsent (answered r p a f)) (not (expects sd r.control k)) _ _ (λ e. none_unsent r)
    (λ e. by_test (λ (f : Option Fault). Unsent (answered r p a f)) (not fits) _ _ (λ n. none_unsent r) (λ n. u))

pub abort_unanswered : (sd : Side) (r : Record) (o : ℕ) (a : UserData) → (step sd r (Service (DAbortIndication o) a)).invoked ≡ None
unfolding step acts reached first_fault instructed closes
abort_unanswered sd r o a =
    by_test Unsent (is_none (refusal_of sd r (Service (DAbortIndication o) a))) _ _
    (λ n. abort_unsent sd r (DAbortIndication o) a DAbort _ refl) (λ n. refl)

pub p_abort_unanswered : (sd : Side) (r : Record) (a : UserData) → (step sd r (Service DPAbortIndication a)).invoked ≡ None
unfolding step acts reached first_fault instructed closes
p_abort_unanswered sd r a =
    by_test Unsent (is_none (refusal_of sd r (Service DPAbortIndication a))) _ _
    (λ n. abort_unsent sd r DPAbortIndication a DPAbort true refl) (λ n. refl)

-- 3.5.3.15, 2.3.5.5.16: outside IDLE an active user is told communication-service-failure, which is 5 in CPDLCProviderAbortReason; IDLE
pub p_abort_told : (sd : Side) (r : Record) (a : UserData) → user_data_fits r.edition a ≡ true
    → is_idle r.control ≡ false
    → step sd r (Service DPAbortIndication a) ≡ closes r (tell r (Some (ProviderAbortIndication 5)))
unfolding event_fits service_fits first_fault abort_fault answered instructed
p_abort_told sd r a w i = fault_answered sd r DPAbortIndication a None w (rw i)

-- ---- in IDLE a primitive with no instruction, an abort indication and a system error leave no output

abbrev pub starts_here : ServicePrimitive → Bool
starts_here (DStartIndication x s q v) = true
starts_here (DStartConfirmation x o s v) = false
starts_here DDataIndication = false
starts_here DEndIndication = false
starts_here (DEndConfirmation x) = false
starts_here (DAbortIndication o) = false
starts_here DPAbortIndication = false

none_idle : (r : Record) (x : Bool) → is_idle r.control ≡ true → no_instruction r x ≡ closes r None
unfolding no_instruction
none_idle r x i = rw i

send_idle : (sd : Side) (r : Record) (p : Primitive) (may live : Bool) (a : UserData) → is_idle r.control ≡ true
    → is_start p ≡ false → send_fault sd r p may live a ≡ Some (NoInstruction true)
unfolding send_fault
send_idle sd r p may live a d n = rw (idle_expects_is sd r.control p d n)

abort_idle : (sd : Side) (r : Record) (p : Primitive) (fits : Bool) → is_idle r.control ≡ true → is_start p ≡ false
    → abort_fault sd r p fits ≡ Some (NoInstruction false)
unfolding abort_fault
abort_idle sd r p fits d n = rw (idle_expects_is sd r.control p d n)

pub reached_idle : (sd : Side) (r : Record) (p : ServicePrimitive) (a : UserData) → is_idle r.control ≡ true
    → starts_here p ≡ false → reached sd r p a ≡ closes r None
unfolding reached first_fault confirmation_fault answered
reached_idle sd r (DStartIndication x s q v) a d n = absurd (subst T n tt)
reached_idle sd r (DStartConfirmation x o s v) a d n = rw
    (idle_expects_is sd r.control (DStartCnf (reply_of x)) d refl, idle_awaits_is r.control d) (none_idle r true d)
reached_idle sd r DDataIndication a d n = rw (send_idle sd r DData false true a d refl) (none_idle r true d)
reached_idle sd r DEndIndication a d n = rw (send_idle sd r DEnd (spares r.edition) true a d refl) (none_idle r true d)
reached_idle sd r (DEndConfirmation x) a d n = rw
    (send_idle sd r (DEndCnf (reply_of x)) (spares r.edition) (not (eqb x accepted)) a d refl) (none_idle r true d)
reached_idle sd r (DAbortIndication o) a d n = rw (abort_idle sd r DAbort (abort_fits o a) d refl) (none_idle r false d)
reached_idle sd r DPAbortIndication a d n = rw (abort_idle sd r DPAbort true d refl) (none_idle r false d)

pub error_idle : (sd : Side) (r : Record) → is_idle r.control ≡ true → step sd r UnrecoverableSystemError ≡ closes r None
unfolding step refusal_of event_fits permitted message_refusal acts system_error
error_idle sd r d = rw d

-- ---- a start or a forward is offered to the user with the security value that local policy accepts only

abbrev invites : Option Told → Bool
invites None = false
invites (Some (StartIndication m x)) = true
invites (Some (StartConfirmation m x)) = false
invites (Some MessageIndication) = false
invites (Some (EndIndication m)) = false
invites (Some (EndConfirmation m x)) = false
invites (Some (UserAbortIndication x)) = false
invites (Some (ProviderAbortIndication x)) = false
invites (Some ForwardIndication) = true
invites (Some (ForwardConfirmation x v)) = false

-- what an outcome that invites nobody would have to show
abbrev Secure : Bool → Outcome → Type 0
Secure b o = invites o.told ≡ true → b ≡ true

except_secure : (r : Record) (b o : Bool) (p s : ℕ) → Secure b (excepts r o p s)
unfolding excepts aborts closes tell
except_secure r b true p s = by_test (λ (t : Option Told). invites t ≡ true → b ≡ true) r.active _ _
    (λ a e. absurd (subst T (sym e) tt)) (λ a e. absurd (subst T (sym e) tt))
except_secure r b false p s = by_test (λ (t : Option Told). invites t ≡ true → b ≡ true) r.active _ _
    (λ a e. absurd (subst T (sym e) tt)) (λ a e. absurd (subst T (sym e) tt))

none_secure : (r : Record) (b x : Bool) → Secure b (no_instruction r x)
unfolding no_instruction closes
none_secure r b x = by_test (Secure b) (is_idle r.control) _ _ (λ d e. absurd (subst T (sym e) tt)) (λ d. except_secure r b x _ _)

pub start_secure : (sd : Side) (r : Record) (x s v : ℕ) (q : Qos) (a : UserData)
    → invites (step sd r (Service (DStartIndication x s q v) a)).told ≡ true
    → not (differs (secures r.edition) s r.policy) ≡ true
unfolding step acts reached first_fault indication_fault answered aborts
start_secure sd r x s v q a =
    by_test (Secure (not (differs (secures r.edition) s r.policy)))
    (is_none (refusal_of sd r (Service (DStartIndication x s q v) a))) _ _
    (λ n. by_test Offers (not (is_idle r.control)) _ _ (λ d. none_secure r _ true)
    (λ d. by_test Offers (not (qos_fits q)) _ _ (λ g e. absurd (subst T (sym e) tt))
    (λ g. by_test Offers (differs (secures r.edition) s r.policy) _ _ (λ y. except_secure r _ true _ _) (λ y e. ap not y))))
    (λ n e. absurd (subst T (sym e) tt))
  where
    Offers : Option Fault → Type 0
    Offers f = Secure (not (differs (secures r.edition) s r.policy)) (answered r (DStartIndication x s q v) a f)

-- ---- a message request stays in its state (3.5.3.10, 2.3.5.5.10)

pub message_stays : (r : Record) (j : ℕ) → (message_request r j).next.control ≡ r.control
unfolding message_request sent enter
message_stays r j = refl

-- ---- user abort outside IDLE: D-ABORT with originator "user"; no reason given means undefined

pub user_aborts : (sd : Side) (r : Record) (g : Bool) (x : ℕ) → ltb x (user_reasons r.edition) ≡ true
    → is_idle r.control ≡ false → step sd r (User (UserAbortServiceRequest g x)) ≡ user_abort r g x
unfolding step refusal_of event_fits user_fits permitted call_of message_refusal unsent acts called
user_aborts sd r g x s i = rw (s, i)

pub user_abort_says : (r : Record) (g : Bool) (x : ℕ)
    → ((user_abort r g x).invoked ≡ Some (DAbortRequest user)) × ((user_abort r g x).apdu ≡ AbortUser (cond g x undefined))
unfolding user_abort sent
user_abort_says r g x = (refl, refl)

-- ---- timer expiry: D-ABORT "provider" with timer-expired, an active user told; prohibited exactly while no timer runs

pub expiry : (sd : Side) (r : Record) → r.timer ≡ true
    → step sd r TimerExpires ≡ aborts r timer_expired (tell r (Some (ProviderAbortIndication timer_expired)))
unfolding step refusal_of event_fits permitted message_refusal acts timer_expires excepts
expiry sd r t = rw t

pub no_expiry : (sd : Side) (r : Record) → r.timer ≡ false → step sd r TimerExpires ≡ refused (Some Prohibited) r
unfolding step refusal_of event_fits permitted
no_expiry sd r t = rw t

-- ---- a primitive with no instruction: protocol-error; D-ABORT only if a dialogue exists

pub unexpected : (sd : Side) (r : Record) (p : Primitive) (may live : Bool) (a : UserData)
    → expects sd r.control p ≡ false → send_fault sd r p may live a ≡ Some (NoInstruction true)
unfolding send_fault
unexpected sd r p may live a e = rw e

pub no_instruction_outside : (r : Record) (x : Bool) → is_idle r.control ≡ false
    → no_instruction r x ≡ excepts r x protocol_error protocol_error
unfolding no_instruction
no_instruction_outside r x i = rw i

-- ---- a forward APDU is not permitted where a send is asked for, nor in a start that is not of a centre

pub forward_read : (may i u : Bool) (g : Option Fault) → pdu_fault may (is_send Forward) i u Forward g ≡ Some (NotPermitted u)
unfolding pdu_fault
forward_read may i u g = refl

pub forward_start : (sd : Side) (r : Record) (x s v : ℕ) (q : Qos) → from_centre sd x ≡ false
    → service_fits (DStartIndication x s q v) ≡ true → is_idle r.control ≡ true → qos_fits q ≡ true
    → differs (secures r.edition) s r.policy ≡ false
    → step sd r (Service (DStartIndication x s q v) Forward) ≡ aborts r protocol_error (tell r (Some (ProviderAbortIndication protocol_error)))
unfolding event_fits user_data_fits first_fault indication_fault start_fits_of pdu_fault answered excepts
forward_start sd r x s v q w h d g y = fault_answered sd r (DStartIndication x s q v) Forward (Some (NotPermitted true)) (rw h) (rw (d, g, y, w))
