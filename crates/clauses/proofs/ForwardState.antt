-- The state FORWARD (Doc 9705 2.3.5.5, table 2.3.5-3), and the three clauses of the forward service, field by field.
-- Assumes nothing.
use mathlib.Core.Path.{◌≡◌, refl, ap, sym, ◌∙◌}
use mathlib.Core.Bool.{Bool, true, false, cond}
use Prim.Native.Nat.{ℕ}
use lib.Dec.{ltb, eqb}
use borrow.Author.Tests.{eqb-true}
use Rattle.editions.specs.Editions.{secures}
use Rattle.control.specs.Control.{is_idle, number, entered, closed, takes, Did, quiet, aborts, meets, hands, expects}
use Rattle.control.specs.declared.Side.{Side}
use Rattle.control.specs.declared.Side.TheVariants.{Air, Ground}
use Rattle.control.specs.declared.State.{State}
use Rattle.control.specs.declared.State.TheVariants.{Idle, StartReq, StartInd, Dialogue, End, Forward as FORWARD}
use Rattle.control.specs.declared.Control.{Control}
use Rattle.control.specs.declared.Reply.TheVariants.{Accepted, Rejected}
use Rattle.control.specs.declared.Call.{Call}
use Rattle.control.specs.declared.Call.TheVariants.{StartRequest, StartResponse, MessageRequest, EndRequest, EndResponse, UserAbort, TimerExpiry, SystemError}
use Rattle.control.specs.declared.Primitive.{Primitive}
use Rattle.control.specs.declared.Primitive.TheVariants.{DStart, DStartCnf, DTurnedAway, DData, DEnd, DEndCnf, DAbort, DPAbort}
use Rattle.machine.specs.Codes.{security_values, routing_classes, versions, forward_results, facility, results, permanent}
use Rattle.machine.specs.Record.{enter}
use Rattle.machine.specs.UserData.{user_data_fits}
use Rattle.machine.specs.Event.{qos_fits, service_fits, event_fits}
use Rattle.machine.specs.Exceptions.{tell, closes, aborts as abortsWith, excepts, no_instruction}
use Rattle.machine.specs.Calls.{security_sent, reply_of}
use Rattle.machine.specs.Forwards.{forward_request, responds, forward_arrives, forward_confirmed}
use Rattle.machine.specs.Faults.{differs, pdu_fault, send_fault, start_fits_of, indication_fault, response_fault, confirmation_fault, first_fault}
use Rattle.machine.specs.Primitives.{instructed, answered}
use Rattle.machine.specs.Step.{step}
use Rattle.machine.specs.declared.record.Record.{Record}
use Rattle.machine.specs.declared.event.UserData.{UserData}
use Rattle.machine.specs.declared.event.UserData.TheVariants.{Absent, AbortProvider, Forward, ForwardResponse}
use Rattle.machine.specs.declared.event.Qos.{Qos}
use Rattle.machine.specs.declared.event.ServicePrimitive.{ServicePrimitive}
use Rattle.machine.specs.declared.event.ServicePrimitive.TheVariants.{DStartIndication, DStartConfirmation, DDataIndication, DEndIndication, DEndConfirmation}
use Rattle.machine.specs.declared.event.Event.TheVariants.{Service}
use Rattle.machine.specs.declared.event.Event.TheVariants.{Forward as ForwardRequested}
use Rattle.machine.specs.declared.faults.Fault.TheVariants.{NoInstruction}
use Rattle.machine.specs.declared.outcome.Invoked.TheVariants.{DAbortRequest, DStartForwardRequest, DStartForwardResponse}
use Rattle.machine.specs.declared.outcome.Told.{Told}
use Rattle.machine.specs.declared.outcome.Told.TheVariants.{ProviderAbortIndication, ForwardIndication, ForwardConfirmation}
use Rattle.machine.specs.declared.outcome.Outcome.{Outcome}
use Rattle.clauses.proofs.Clauses.{fault_answered}
use Rattle.clauses.proofs.ForwardClauses.{request_taken, not_supported, supported, other_version, confirmed}
use Rattle.std.specs.Prelude.{None, Option, Some}

-- ---- the row of FORWARD, at either side and with either DSC

-- the calls: none but those that close the dialogue
abbrev pub closing : Call → Bool
closing (StartRequest m) = false
closing (StartResponse m a) = false
closing MessageRequest = false
closing (EndRequest m) = false
closing (EndResponse m a) = false
closing UserAbort = true
closing TimerExpiry = true
closing SystemError = true

pub forward_takes : (sd : Side) (d : Bool) (k : Call) → takes sd (entered FORWARD d) k ≡ closing k
forward_takes sd d (StartRequest m) = refl
forward_takes sd d (StartResponse m a) = refl
forward_takes sd d MessageRequest = refl
forward_takes sd d (EndRequest m) = refl
forward_takes sd d (EndResponse m a) = refl
forward_takes sd d UserAbort = refl
forward_takes sd d TimerExpiry = refl
forward_takes sd d SystemError = refl

-- the primitives: an abort closes; every other one is answered by a D-ABORT, and none is handed out as a message. (The D-START confirmation
-- that ends a forward is no primitive of a dialogue: `confirmed_is`.)
abbrev pub abort_only : Primitive → Did
abort_only (DStart m) = aborts (entered Idle false)
abort_only (DStartCnf a) = aborts (entered Idle false)
abort_only DTurnedAway = aborts (entered Idle false)
abort_only DData = aborts (entered Idle false)
abort_only DEnd = aborts (entered Idle false)
abort_only (DEndCnf a) = aborts (entered Idle false)
abort_only DAbort = quiet (entered Idle false)
abort_only DPAbort = quiet (entered Idle false)

pub forward_meets : (sd : Side) (d : Bool) (p : Primitive) → meets sd (entered FORWARD d) p ≡ abort_only p
forward_meets sd d (DStart m) = refl
forward_meets sd d (DStartCnf a) = refl
forward_meets sd d DTurnedAway = refl
forward_meets sd d DData = refl
forward_meets sd d DEnd = refl
forward_meets sd d (DEndCnf a) = refl
forward_meets sd d DAbort = refl
forward_meets sd d DPAbort = refl

pub forward_hands : (sd : Side) (d : Bool) (p : Primitive) → hands sd (entered FORWARD d) p ≡ false
forward_hands sd d (DStart m) = refl
forward_hands sd d (DStartCnf a) = refl
forward_hands sd d DTurnedAway = refl
forward_hands sd d DData = refl
forward_hands sd d DEnd = refl
forward_hands sd d (DEndCnf a) = refl
forward_hands sd d DAbort = refl
forward_hands sd d DPAbort = refl

-- ---- the same of the step: D-ABORT "provider" (1) with protocol-error (3), an active user is told; IDLE

abbrev pub left : Record → Record
left r = record { control = entered Idle false; timer = false; active = false; highest = r.highest; request = r.request; policy = r.policy; forwards = r.forwards; version = r.version; edition = r.edition }

abbrev pub protocol_erred : Record → Outcome
protocol_erred r = record { refusal = None; next = left r; invoked = Some (DAbortRequest 1); told = cond r.active (Some (ProviderAbortIndication 3)) None; apdu = AbortProvider 3; delivers = false }

module _ (sd : Side) (r : Record) (d : Bool) (c : r.control ≡ entered FORWARD d) (a : UserData) (w : user_data_fits r.edition a ≡ true) where
  pub data_in_forward : step sd r (Service DDataIndication a) ≡ protocol_erred r
  unfolding event_fits service_fits first_fault send_fault answered no_instruction excepts abortsWith tell enter
  data_in_forward = fault_answered sd r DDataIndication a (Some (NoInstruction true)) (rw w) (rw c) ∙ rw c

  pub end_in_forward : step sd r (Service DEndIndication a) ≡ protocol_erred r
  unfolding event_fits service_fits first_fault send_fault answered no_instruction excepts abortsWith tell enter
  end_in_forward = fault_answered sd r DEndIndication a (Some (NoInstruction true)) (rw w) (rw c) ∙ rw c

  pub end_confirmed_in_forward : (x : ℕ) → ltb x results ≡ true → step sd r (Service (DEndConfirmation x) a) ≡ protocol_erred r
  unfolding event_fits service_fits first_fault send_fault answered no_instruction excepts abortsWith tell enter
  end_confirmed_in_forward x h = fault_answered sd r (DEndConfirmation x) a (Some (NoInstruction true)) (rw (h, w)) (rw c) ∙ rw c

  pub start_in_forward : (x s v : ℕ) (q : Qos) → service_fits (DStartIndication x s q v) ≡ true
      → step sd r (Service (DStartIndication x s q v) a) ≡ protocol_erred r
  unfolding event_fits first_fault indication_fault answered no_instruction excepts abortsWith tell enter
  start_in_forward x s v q h = fault_answered sd r (DStartIndication x s q v) a (Some (NoInstruction true)) (rw (h, w)) (rw c) ∙ rw c

-- ---- 2.3.5.5.13.1, the request in IDLE: D-START request with priority 1, residual error rate 1, the class, the security value and the own
-- version, the forward as user data; t-start runs, the user is active, the security value is kept; FORWARD

pub requested_is : (r : Record) (k s : ℕ) → ltb k routing_classes ≡ true → ltb s security_values ≡ true → is_idle r.control ≡ true
    → step Ground r (ForwardRequested k s) ≡ record {
      refusal = None;
      next = record { control = record { state = FORWARD; dsc = r.control.dsc }; timer = true; active = true; highest = r.highest; request = security_sent (secures r.edition) s; policy = r.policy; forwards = r.forwards; version = r.version; edition = r.edition };
      invoked = Some (DStartForwardRequest (record { priority = 1; rer = 1; routing = k }) (security_sent (secures r.edition) s) r.version);
      told = None;
      apdu = Forward;
      delivers = false;
    }
unfolding forward_request enter
requested_is r k s h g i = request_taken r k s h g i

-- ---- 2.3.5.5.2.3, 2.3.5.5.2.4, the indication at an IDLE ground machine: the D-START response with the security value, and the result

abbrev pub answers : Record → ℕ → ℕ → ℕ → Option Told → Outcome
answers r result s v t = record { refusal = None; next = left r; invoked = Some (DStartForwardResponse (security_sent (secures r.edition) s) v); told = t; apdu = ForwardResponse result; delivers = false }

module _ (r : Record) (s v : ℕ) (q : Qos) (h : service_fits (DStartIndication facility s q v) ≡ true) (i : is_idle r.control ≡ true) (g : qos_fits q ≡ true) (y : differs (secures r.edition) s r.policy ≡ false) where
  -- service-not-supported (1), no version, nobody is told
  pub unsupported_is : r.forwards ≡ false → step Ground r (Service (DStartIndication facility s q v) Forward) ≡ answers r 1 s 0 None
  unfolding responds enter
  unsupported_is n = not_supported r s v q h i g y n

  -- success (0), no version, the user is told
  pub supported_is : r.forwards ≡ true → eqb v r.version ≡ true
      → step Ground r (Service (DStartIndication facility s q v) Forward) ≡ answers r 0 s 0 (Some ForwardIndication)
  unfolding responds enter
  supported_is n e = supported r s v q h i g y n e

  -- version-not-equal (2) with the own version, nobody is told
  pub unequal_is : r.forwards ≡ true → eqb v r.version ≡ false
      → step Ground r (Service (DStartIndication facility s q v) Forward) ≡ answers r 2 s r.version None
  unfolding responds enter
  unequal_is n e = other_version r s v q h i g y n e

-- ---- 2.3.5.5.3.3, the confirmation in FORWARD: the user is told the result and the version as they came; nothing is sent; IDLE

pub confirmed_is : (sd : Side) (r : Record) (d : Bool) (s v x : ℕ) → r.control ≡ entered FORWARD d
    → ltb s security_values ≡ true → ltb v versions ≡ true → ltb x forward_results ≡ true
    → differs (secures r.edition) s r.request ≡ false
    → step sd r (Service (DStartConfirmation permanent 0 s v) (ForwardResponse x)) ≡ record { refusal = None; next = left r; invoked = None; told = Some (ForwardConfirmation x v); apdu = Absent; delivers = false }
unfolding forward_confirmed closes enter
confirmed_is sd r d s v x c h g w y = confirmed sd r d s v x c h g w y
