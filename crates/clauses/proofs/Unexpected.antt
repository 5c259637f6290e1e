-- What a primitive does in the states that have no instruction for it, what the faults of a confirmation do in FORWARD, and an expiry and a
-- system error in any state, field by field: Doc 9705 2.3.5.6, Doc 9880 3.5.4.
-- Assumes nothing.
use mathlib.Core.Path.{◌≡◌, refl, ◌∙◌}
use mathlib.Core.Bool.{Bool, true, false, cond}
use Prim.Native.Nat.{ℕ}
use lib.Dec.{ltb, eqb}
use Rattle.editions.specs.Editions.{secures}
use Rattle.control.specs.Control.{is_idle, entered, expects}
use Rattle.control.specs.declared.Side.{Side}
use Rattle.control.specs.declared.Side.TheVariants.{Air, Ground}
use Rattle.control.specs.declared.State.TheVariants.{StartReq, StartInd, Dialogue, End, Forward as FORWARD}
use Rattle.control.specs.declared.Primitive.TheVariants.{DStartCnf, DEnd, DEndCnf}
use Rattle.machine.specs.Codes.{results}
use Rattle.machine.specs.Record.{enter}
use Rattle.machine.specs.UserData.{user_data_fits, is_missing, is_invalid, is_response}
use Rattle.machine.specs.Event.{service_fits, event_fits}
use Rattle.machine.specs.Exceptions.{tell, closes, aborts, excepts, no_instruction, system_error}
use Rattle.machine.specs.Calls.{reply_of}
use Rattle.machine.specs.Faults.{differs, pdu_fault, send_fault, indication_fault, response_fault, confirmation_fault, first_fault}
use Rattle.machine.specs.Primitives.{answered}
use Rattle.machine.specs.Step.{step, refusal_of, permitted, message_refusal, acts}
use Rattle.machine.specs.declared.record.Record.{Record}
use Rattle.machine.specs.declared.event.UserData.{UserData}
use Rattle.machine.specs.declared.event.UserData.TheVariants.{Absent, NotValid, AbortProvider}
use Rattle.machine.specs.declared.event.Qos.{Qos}
use Rattle.machine.specs.declared.event.ServicePrimitive.TheVariants.{DStartIndication, DStartConfirmation, DEndIndication, DEndConfirmation}
use Rattle.machine.specs.declared.event.Event.TheVariants.{Service, TimerExpires, UnrecoverableSystemError}
use Rattle.machine.specs.declared.faults.Fault.TheVariants.{NoInstruction, TurnedAway, Security, Missing, Invalid, NotPermitted}
use Rattle.machine.specs.declared.outcome.Invoked.TheVariants.{DAbortRequest}
use Rattle.machine.specs.declared.outcome.Told.TheVariants.{ProviderAbortIndication}
use Rattle.machine.specs.declared.outcome.Outcome.{Outcome}
use Rattle.clauses.proofs.Clauses.{fault_answered, expiry}
use Rattle.clauses.proofs.ForwardState.{left, protocol_erred}
use Rattle.std.specs.Prelude.{None, Some}

-- D-ABORT "provider" (1) with a reason, an active user is told one; IDLE
abbrev pub aborted : Record → ℕ → ℕ → Outcome
aborted r p t = record { refusal = None; next = left r; invoked = Some (DAbortRequest 1); told = cond r.active (Some (ProviderAbortIndication t)) None; apdu = AbortProvider p; delivers = false }

-- the peer is gone: nothing is sent
abbrev pub gone : Record → ℕ → Outcome
gone r t = record { refusal = None; next = left r; invoked = None; told = cond r.active (Some (ProviderAbortIndication t)) None; apdu = Absent; delivers = false }

-- ---- 2.3.5.6.1, 2.3.5.6.2: the timer expires (0), in any state; a system error (1) outside IDLE

pub expiry_is : (sd : Side) (r : Record) → r.timer ≡ true → step sd r TimerExpires ≡ aborted r 0 0
unfolding aborts tell enter
expiry_is sd r t = expiry sd r t

pub error_is : (sd : Side) (r : Record) → is_idle r.control ≡ false → step sd r UnrecoverableSystemError ≡ aborted r 1 1
unfolding step refusal_of event_fits permitted message_refusal acts system_error excepts aborts tell enter
error_is sd r i = rw i

-- ---- the faults of a confirmation in FORWARD: accepted (0), rejected (permanent) (1) and (transient) (2), by the DS user (0) and the DS provider (1)

module _ (sd : Side) (r : Record) (d : Bool) (c : r.control ≡ entered FORWARD d) (s v : ℕ) (a : UserData) (w : user_data_fits r.edition a ≡ true) where
  -- turned away: communication-service-error (4), nothing is sent
  pub transient_in_forward : (o : ℕ) → service_fits (DStartConfirmation 2 o s v) ≡ true
      → step sd r (Service (DStartConfirmation 2 o s v) a) ≡ gone r 4
  unfolding event_fits first_fault confirmation_fault response_fault answered closes tell enter
  transient_in_forward o h = fault_answered sd r (DStartConfirmation 2 o s v) a (Some TurnedAway) (rw (h, w)) (rw c)

  pub provider_rejects_in_forward : service_fits (DStartConfirmation 1 1 s v) ≡ true
      → step sd r (Service (DStartConfirmation 1 1 s v) a) ≡ gone r 4
  unfolding event_fits first_fault confirmation_fault response_fault answered closes tell enter
  provider_rejects_in_forward h = fault_answered sd r (DStartConfirmation 1 1 s v) a (Some TurnedAway) (rw (h, w)) (rw c)

  -- another security value: communication-service-failure (5); the dialogue is open after "accepted" only
  pub accepted_insecure_in_forward : service_fits (DStartConfirmation 0 0 s v) ≡ true
      → differs (secures r.edition) s r.request ≡ true
      → step sd r (Service (DStartConfirmation 0 0 s v) a) ≡ aborted r 5 5
  unfolding event_fits first_fault confirmation_fault response_fault answered excepts aborts tell enter
  accepted_insecure_in_forward h y = fault_answered sd r (DStartConfirmation 0 0 s v) a (Some (Security true)) (rw (h, w)) (rw (c, y))

  pub rejected_insecure_in_forward : service_fits (DStartConfirmation 1 0 s v) ≡ true
      → differs (secures r.edition) s r.request ≡ true
      → step sd r (Service (DStartConfirmation 1 0 s v) a) ≡ gone r 5
  unfolding event_fits first_fault confirmation_fault response_fault answered excepts closes tell enter
  rejected_insecure_in_forward h y = fault_answered sd r (DStartConfirmation 1 0 s v) a (Some (Security false)) (rw (h, w)) (rw (c, y))

  -- a PDU that is not permitted: protocol-error (3); after "accepted" every one is
  pub accepted_in_forward : service_fits (DStartConfirmation 0 0 s v) ≡ true
      → differs (secures r.edition) s r.request ≡ false → is_missing a ≡ false → is_invalid a ≡ false
      → step sd r (Service (DStartConfirmation 0 0 s v) a) ≡ aborted r 3 3
  unfolding event_fits first_fault confirmation_fault response_fault pdu_fault answered excepts aborts tell enter
  accepted_in_forward h y m n = fault_answered sd r (DStartConfirmation 0 0 s v) a (Some (NotPermitted true)) (rw (h, w)) (rw (c, y, m, n))

  pub no_response_in_forward : service_fits (DStartConfirmation 1 0 s v) ≡ true
      → differs (secures r.edition) s r.request ≡ false → is_missing a ≡ false → is_invalid a ≡ false
      → is_response a ≡ false → step sd r (Service (DStartConfirmation 1 0 s v) a) ≡ aborted r 3 3
  unfolding event_fits first_fault confirmation_fault response_fault pdu_fault answered excepts aborts tell enter
  no_response_in_forward h y m n f = fault_answered sd r (DStartConfirmation 1 0 s v) a (Some (NotPermitted true)) (rw (h, w)) (rw (c, y, m, n, f))

module _ (sd : Side) (r : Record) (d : Bool) (c : r.control ≡ entered FORWARD d) (s v : ℕ) (y : differs (secures r.edition) s r.request ≡ false) where
  -- none: the APDU says expected-PDU-missing (7), the user is told not-permitted-PDU (8)
  pub accepted_bare_in_forward : service_fits (DStartConfirmation 0 0 s v) ≡ true
      → step sd r (Service (DStartConfirmation 0 0 s v) Absent) ≡ aborted r 7 8
  unfolding event_fits user_data_fits first_fault confirmation_fault response_fault pdu_fault answered excepts aborts tell enter
  accepted_bare_in_forward h = fault_answered sd r (DStartConfirmation 0 0 s v) Absent (Some Missing) (rw h) (rw (c, y))

  pub rejected_bare_in_forward : service_fits (DStartConfirmation 1 0 s v) ≡ true
      → step sd r (Service (DStartConfirmation 1 0 s v) Absent) ≡ aborted r 7 8
  unfolding event_fits user_data_fits first_fault confirmation_fault response_fault pdu_fault answered excepts aborts tell enter
  rejected_bare_in_forward h = fault_answered sd r (DStartConfirmation 1 0 s v) Absent (Some Missing) (rw h) (rw (c, y))

  -- not valid: invalid-PDU (2); after a rejection the peer is gone
  pub accepted_unread_in_forward : service_fits (DStartConfirmation 0 0 s v) ≡ true
      → step sd r (Service (DStartConfirmation 0 0 s v) NotValid) ≡ aborted r 2 2
  unfolding event_fits user_data_fits first_fault confirmation_fault response_fault pdu_fault answered excepts aborts tell enter
  accepted_unread_in_forward h = fault_answered sd r (DStartConfirmation 0 0 s v) NotValid (Some (Invalid true)) (rw h) (rw (c, y))

  pub rejected_unread_in_forward : service_fits (DStartConfirmation 1 0 s v) ≡ true
      → step sd r (Service (DStartConfirmation 1 0 s v) NotValid) ≡ gone r 2
  unfolding event_fits user_data_fits first_fault confirmation_fault response_fault pdu_fault answered excepts closes tell enter
  rejected_unread_in_forward h = fault_answered sd r (DStartConfirmation 1 0 s v) NotValid (Some (Invalid false)) (rw h) (rw (c, y))

-- ---- no instruction: whatever the user data, protocol-error (3)

module _ (sd : Side) (r : Record) (a : UserData) (w : user_data_fits r.edition a ≡ true) where
  -- a start outside IDLE
  pub start_outside_idle : (x s v : ℕ) (q : Qos) → service_fits (DStartIndication x s q v) ≡ true
      → is_idle r.control ≡ false → step sd r (Service (DStartIndication x s q v) a) ≡ protocol_erred r
  unfolding event_fits first_fault indication_fault answered no_instruction excepts aborts tell enter
  start_outside_idle x s v q h i = fault_answered sd r (DStartIndication x s q v) a (Some (NoInstruction true)) (rw (h, w)) (rw i) ∙ rw i

  end_errs : is_idle r.control ≡ false → expects sd r.control DEnd ≡ false → step sd r (Service DEndIndication a) ≡ protocol_erred r
  unfolding event_fits service_fits first_fault send_fault answered no_instruction excepts aborts tell enter
  end_errs i e = fault_answered sd r DEndIndication a (Some (NoInstruction true)) (rw w) (rw e) ∙ rw i

  ended_errs : (x : ℕ) → ltb x results ≡ true → is_idle r.control ≡ false
      → expects sd r.control (DEndCnf (reply_of x)) ≡ false
      → step sd r (Service (DEndConfirmation x) a) ≡ protocol_erred r
  unfolding event_fits service_fits first_fault send_fault answered no_instruction excepts aborts tell enter
  ended_errs x h i e = fault_answered sd r (DEndConfirmation x) a (Some (NoInstruction true)) (rw (h, w)) (rw e) ∙ rw i

  -- an end, or its confirmation, before the dialogue is open; an end in END; a confirmation in DIALOGUE
  pub end_not_asked : (d : Bool) → r.control ≡ entered StartReq d → step sd r (Service DEndIndication a) ≡ protocol_erred r
  end_not_asked d c = end_errs (rw c) (rw c)

  pub end_not_answered : (d : Bool) → r.control ≡ entered StartInd d → step sd r (Service DEndIndication a) ≡ protocol_erred r
  end_not_answered d c = end_errs (rw c) (rw c)

  pub end_in_end : (d : Bool) → r.control ≡ entered End d → step sd r (Service DEndIndication a) ≡ protocol_erred r
  end_in_end d c = end_errs (rw c) (rw c)

  pub ended_not_asked : (x : ℕ) (d : Bool) → ltb x results ≡ true → r.control ≡ entered StartReq d
      → step sd r (Service (DEndConfirmation x) a) ≡ protocol_erred r
  ended_not_asked x d h c = ended_errs x h (rw c) (rw c)

  pub ended_not_answered : (x : ℕ) (d : Bool) → ltb x results ≡ true → r.control ≡ entered StartInd d
      → step sd r (Service (DEndConfirmation x) a) ≡ protocol_erred r
  ended_not_answered x d h c = ended_errs x h (rw c) (rw c)

  pub ended_in_dialogue : (x : ℕ) (d : Bool) → ltb x results ≡ true → r.control ≡ entered Dialogue d
      → step sd r (Service (DEndConfirmation x) a) ≡ protocol_erred r
  ended_in_dialogue x d h c = ended_errs x h (rw c) (rw c)

  -- a start's confirmation where none was asked for
  pub started_not_answered : (x o s v : ℕ) (d : Bool) → service_fits (DStartConfirmation x o s v) ≡ true
      → r.control ≡ entered StartInd d → step sd r (Service (DStartConfirmation x o s v) a) ≡ protocol_erred r
  unfolding event_fits first_fault confirmation_fault answered no_instruction excepts aborts tell enter
  started_not_answered x o s v d h c = fault_answered sd r (DStartConfirmation x o s v) a (Some (NoInstruction true)) (rw (h, w)) (rw c) ∙ rw c

  pub started_in_dialogue : (x o s v : ℕ) (d : Bool) → service_fits (DStartConfirmation x o s v) ≡ true
      → r.control ≡ entered Dialogue d → step sd r (Service (DStartConfirmation x o s v) a) ≡ protocol_erred r
  unfolding event_fits first_fault confirmation_fault answered no_instruction excepts aborts tell enter
  started_in_dialogue x o s v d h c = fault_answered sd r (DStartConfirmation x o s v) a (Some (NoInstruction true)) (rw (h, w)) (rw c) ∙ rw c

  pub started_in_end : (x o s v : ℕ) (d : Bool) → service_fits (DStartConfirmation x o s v) ≡ true
      → r.control ≡ entered End d → step sd r (Service (DStartConfirmation x o s v) a) ≡ protocol_erred r
  unfolding event_fits first_fault confirmation_fault answered no_instruction excepts aborts tell enter
  started_in_end x o s v d h c = fault_answered sd r (DStartConfirmation x o s v) a (Some (NoInstruction true)) (rw (h, w)) (rw c) ∙ rw c

-- an end of the peer's is no instruction at the side that may ask for it, nor a confirmation at the one that may not: the ground asks for the end
-- of a CPDLC dialogue, the air for that of a DSC dialogue
module _ (r : Record) (a : UserData) (w : user_data_fits r.edition a ≡ true) where
  pub end_not_ground : r.control ≡ entered Dialogue false → step Ground r (Service DEndIndication a) ≡ protocol_erred r
  end_not_ground c = end_errs Ground r a w (rw c) (rw c)

  pub end_not_air : r.control ≡ entered Dialogue true → step Air r (Service DEndIndication a) ≡ protocol_erred r
  end_not_air c = end_errs Air r a w (rw c) (rw c)

  pub ended_not_ground : (x : ℕ) → ltb x results ≡ true → r.control ≡ entered End true
      → step Ground r (Service (DEndConfirmation x) a) ≡ protocol_erred r
  ended_not_ground x h c = ended_errs Ground r a w x h (rw c) (rw c)

  pub ended_not_air : (x : ℕ) → ltb x results ≡ true → r.control ≡ entered End false
      → step Air r (Service (DEndConfirmation x) a) ≡ protocol_erred r
  ended_not_air x h c = ended_errs Air r a w x h (rw c) (rw c)
