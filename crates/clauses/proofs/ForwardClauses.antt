-- What Doc 9705 says of the CPDLC-forward service, clause by clause, as equations of the step.
-- Assumes nothing.
use mathlib.Core.Path.{◌≡◌, refl, ap, sym, subst, ◌∙◌}
use mathlib.Core.Bool.{Bool, true, false, not, cond, ◌&&◌}
use Prim.Native.Nat.{ℕ}
use lib.Dec.{T, ltb, eqb}
use Rattle.editions.specs.Editions.{secures}
use Rattle.control.specs.Control.{is_idle, entered, takes, awaits_response, expects}
use Rattle.machine.specs.Codes.{security_values, routing_classes, versions, forward_results, facility, success, service_not_supported, version_not_equal, no_version, protocol_error, accepted, permanent}
use Rattle.machine.specs.Record.{enter}
use Rattle.machine.specs.UserData.{is_missing, is_invalid, is_forward, user_data_fits}
use Rattle.machine.specs.Event.{qos_fits, service_fits, event_fits}
use Rattle.machine.specs.Outcome.{refused}
use Rattle.machine.specs.Exceptions.{tell, aborts, closes, excepts}
use Rattle.machine.specs.Calls.{reply_of, call_of}
use Rattle.machine.specs.Forwards.{forward_request, responds, forward_arrives, forward_confirmed}
use Rattle.machine.specs.Faults.{differs, pdu_fault, start_fits_of, indication_fault, response_fault, confirmation_fault, first_fault}
use Rattle.machine.specs.Primitives.{instructed, answered}
use Rattle.machine.specs.Step.{permitted, message_refusal, refusal_of, acts, step}
use Rattle.clauses.proofs.Clauses.{fault_answered}
use Rattle.control.specs.declared.Side.{Side}
use Rattle.control.specs.declared.Side.TheVariants.{Air, Ground}
use Rattle.control.specs.declared.State.TheVariants.{Forward as FORWARD}
use Rattle.machine.specs.declared.record.Record.{Record}
use Rattle.machine.specs.declared.event.UserData.{UserData}
use Rattle.machine.specs.declared.event.UserData.TheVariants.{Forward, ForwardResponse}
use Rattle.machine.specs.declared.event.Qos.{Qos}
use Rattle.machine.specs.declared.event.UserPrimitive.{UserPrimitive}
use Rattle.machine.specs.declared.event.UserPrimitive.TheVariants.{StartServiceRequest, StartServiceResponse, MessageServiceRequest, EndServiceRequest, EndServiceResponse, UserAbortServiceRequest}
use Rattle.machine.specs.declared.event.ServicePrimitive.TheVariants.{DStartIndication, DStartConfirmation}
use Rattle.machine.specs.declared.event.Event.TheVariants.{User, Service}
use Rattle.machine.specs.declared.event.Event.TheVariants.{Forward as ForwardRequested}
use Rattle.machine.specs.declared.faults.Fault.TheVariants.{NotPermitted}
use Rattle.machine.specs.declared.outcome.StepRefusal.TheVariants.{Prohibited}
use Rattle.machine.specs.declared.outcome.Told.TheVariants.{ProviderAbortIndication, ForwardIndication}
use Rattle.std.specs.Prelude.{None, Some}

-- ---- the request: 2.3.5.5.13.1; elsewhere, and at the air machine, it is prohibited

pub request_taken : (r : Record) (k s : ℕ) → ltb k routing_classes ≡ true → ltb s security_values ≡ true
    → is_idle r.control ≡ true → step Ground r (ForwardRequested k s) ≡ forward_request r k s
unfolding step refusal_of event_fits permitted message_refusal acts
request_taken r k s h g i = rw (h, g, i)

pub request_prohibited : (r : Record) (k s : ℕ) → ltb k routing_classes ≡ true → ltb s security_values ≡ true
    → is_idle r.control ≡ false → step Ground r (ForwardRequested k s) ≡ refused (Some Prohibited) r
unfolding step refusal_of event_fits permitted
request_prohibited r k s h g i = rw (h, g, i)

pub request_at_air : (r : Record) (k s : ℕ) → ltb k routing_classes ≡ true → ltb s security_values ≡ true
    → step Air r (ForwardRequested k s) ≡ refused (Some Prohibited) r
unfolding step refusal_of event_fits permitted
request_at_air r k s h g = rw (h, g)

-- in FORWARD every user primitive but the user abort is prohibited (2.3.5.5.1.1, table 2.3.5-3)
abbrev pub is_user_abort : UserPrimitive → Bool
is_user_abort (StartServiceRequest m k s) = false
is_user_abort (StartServiceResponse m x h) = false
is_user_abort (MessageServiceRequest h j) = false
is_user_abort (EndServiceRequest m h) = false
is_user_abort (EndServiceResponse m x h) = false
is_user_abort (UserAbortServiceRequest g x) = true

pub only_abort : (sd : Side) (d : Bool) (u : UserPrimitive) → is_user_abort u ≡ false → takes sd (entered FORWARD d) (call_of u) ≡ false
unfolding call_of
only_abort sd d (StartServiceRequest m k s) e = refl
only_abort sd d (StartServiceResponse m x h) e = refl
only_abort sd d (MessageServiceRequest h j) e = refl
only_abort sd d (EndServiceRequest m h) e = refl
only_abort sd d (EndServiceResponse m x h) e = refl
only_abort sd d (UserAbortServiceRequest g x) e = absurd (subst T e tt)

-- ---- the indication, at an IDLE ground machine, with the right quality of service and the security value that local policy accepts

module _ (r : Record) (s v : ℕ) (q : Qos) (h : service_fits (DStartIndication facility s q v) ≡ true) (i : is_idle r.control ≡ true) (g : qos_fits q ≡ true) (y : differs (secures r.edition) s r.policy ≡ false) where
  arrives : step Ground r (Service (DStartIndication facility s q v) Forward) ≡ forward_arrives r s v
  unfolding event_fits user_data_fits first_fault indication_fault start_fits_of pdu_fault answered instructed
  arrives = fault_answered Ground r (DStartIndication facility s q v) Forward None (rw h) (rw (i, g, y))

  -- 2.3.5.5.2.4, whatever the version
  pub not_supported : r.forwards ≡ false
      → step Ground r (Service (DStartIndication facility s q v) Forward) ≡ responds r service_not_supported s no_version None
  unfolding forward_arrives
  not_supported n = arrives ∙ rw n

  -- 2.3.5.5.2.3 a): the user is told, and does not become active
  pub supported : r.forwards ≡ true → eqb v r.version ≡ true
      → step Ground r (Service (DStartIndication facility s q v) Forward) ≡ responds r success s no_version (Some ForwardIndication)
  unfolding forward_arrives
  supported n e = arrives ∙ rw (n, e)

  -- 2.3.5.5.2.3 b): the response carries the own version
  pub other_version : r.forwards ≡ true → eqb v r.version ≡ false
      → step Ground r (Service (DStartIndication facility s q v) Forward) ≡ responds r version_not_equal s r.version None
  unfolding forward_arrives
  other_version n e = arrives ∙ rw (n, e)

  -- any other valid PDU of a centre is not permitted
  pub not_forward : (a : UserData) → user_data_fits r.edition a ≡ true → is_missing a ≡ false → is_invalid a ≡ false
      → is_forward a ≡ false
      → step Ground r (Service (DStartIndication facility s q v) a) ≡ aborts r protocol_error (tell r (Some (ProviderAbortIndication protocol_error)))
  unfolding event_fits first_fault indication_fault start_fits_of pdu_fault answered excepts
  not_forward a w m n f = fault_answered Ground r (DStartIndication facility s q v) a (Some (NotPermitted true)) (rw (h, w))
      (rw (i, g, y, m, n, f))

pub answer_inactive : (r : Record) (x s v : ℕ)
    → ((responds r x s v (Some ForwardIndication)).next.active ≡ false) × (is_idle (responds r x s v (Some ForwardIndication)).next.control ≡ true)
unfolding responds enter
answer_inactive r x s v = (refl, refl)

-- ---- the confirmation: 2.3.5.5.3.3

pub confirmed : (sd : Side) (r : Record) (d : Bool) (s v x : ℕ) → r.control ≡ entered FORWARD d
    → ltb s security_values ≡ true → ltb v versions ≡ true → ltb x forward_results ≡ true
    → differs (secures r.edition) s r.request ≡ false
    → step sd r (Service (DStartConfirmation permanent 0 s v) (ForwardResponse x)) ≡ forward_confirmed r x v
unfolding event_fits service_fits user_data_fits first_fault confirmation_fault response_fault pdu_fault answered instructed reply_of
confirmed sd r d s v x c h g w y = fault_answered sd r (DStartConfirmation permanent 0 s v) (ForwardResponse x) None
    (rw (h, g, w)) (rw (c, y))

-- the timer is stopped, the user is not active, and IDLE
pub confirmed_closes : (r : Record) (x v : ℕ)
    → ((forward_confirmed r x v).next.timer ≡ false) × ((forward_confirmed r x v).next.active ≡ false) × (is_idle (forward_confirmed r x v).next.control ≡ true)
unfolding forward_confirmed closes enter
confirmed_closes r x v = (refl, refl, refl)

-- "accepted" has no action there: protocol-error, whatever the PDU
pub accepted_not_permitted : (sd : Side) (r : Record) (d : Bool) (s v x : ℕ) → r.control ≡ entered FORWARD d
    → ltb s security_values ≡ true → ltb v versions ≡ true → ltb x forward_results ≡ true
    → differs (secures r.edition) s r.request ≡ false
    → step sd r (Service (DStartConfirmation accepted 0 s v) (ForwardResponse x)) ≡ aborts r protocol_error
    (tell r (Some (ProviderAbortIndication protocol_error)))
unfolding event_fits service_fits user_data_fits first_fault confirmation_fault response_fault pdu_fault answered excepts reply_of
accepted_not_permitted sd r d s v x c h g w y = fault_answered sd r (DStartConfirmation accepted 0 s v)
    (ForwardResponse x) (Some (NotPermitted true)) (rw (h, g, w)) (rw (c, y))
