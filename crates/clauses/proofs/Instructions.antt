-- What a dialogue-service primitive without a fault does in each state that has an instruction for it, and what a taken call invokes, field by
-- field: Doc 9705 2.3.5.3, 2.3.5.5, Doc 9880 3.5.3.
-- Assumes nothing.
use mathlib.Core.Path.{◌≡◌, refl, ap, sym, ◌∙◌}
use mathlib.Core.Bool.{Bool, true, false, not, cond, ◌&&◌, ◌||◌}
use Prim.Native.Nat.{ℕ}
use lib.Dec.{ltb, eqb}
use Rattle.editions.specs.Editions.{secures, spares, user_reasons}
use Rattle.control.specs.Control.{is_idle, entered}
use Rattle.control.specs.declared.Side.{Side}
use Rattle.control.specs.declared.Side.TheVariants.{Air, Ground}
use Rattle.control.specs.declared.State.TheVariants.{Idle, StartReq, StartInd, Dialogue, End}
use Rattle.control.specs.declared.Control.{Control}
use Rattle.machine.specs.Codes.{provider_reasons, facility, aircraft}
use Rattle.machine.specs.Record.{enter}
use Rattle.machine.specs.UserData.{user_data_fits}
use Rattle.machine.specs.Event.{is_dsc, qos_fits, service_fits, event_fits}
use Rattle.machine.specs.Exceptions.{tell, closes, aborts, excepts, no_instruction}
use Rattle.machine.specs.Calls.{security_sent, unless_spared, reply_of, sent, start_request, start_response, message_request, end_request, end_response, user_abort, called}
use Rattle.machine.specs.Faults.{differs, send_allowed, pdu_fault, send_fault, abort_fault, start_fits_of, indication_fault, confirmation_fault, first_fault}
use Rattle.machine.specs.Primitives.{handed, instructed, answered}
use Rattle.machine.specs.Step.{step}
use Rattle.machine.specs.declared.record.Record.{Record}
use Rattle.machine.specs.declared.event.UserData.{UserData}
use Rattle.machine.specs.declared.event.UserData.TheVariants.{Absent, Start, Send, AbortUser, AbortProvider}
use Rattle.machine.specs.declared.event.Qos.{Qos}
use Rattle.machine.specs.declared.event.UserPrimitive.TheVariants.{StartServiceRequest, StartServiceResponse, MessageServiceRequest, EndServiceRequest, EndServiceResponse, UserAbortServiceRequest}
use Rattle.machine.specs.declared.event.ServicePrimitive.TheVariants.{DStartIndication, DStartConfirmation, DDataIndication, DEndIndication, DEndConfirmation, DAbortIndication, DPAbortIndication}
use Rattle.machine.specs.declared.event.Event.TheVariants.{Service}
use Rattle.machine.specs.declared.faults.Fault.TheVariants.{NoInstruction}
use Rattle.machine.specs.declared.outcome.Invoked.{Invoked}
use Rattle.machine.specs.declared.outcome.Invoked.TheVariants.{DStartRequest, DStartResponse, DDataRequest, DEndRequest, DEndResponse, DAbortRequest}
use Rattle.machine.specs.declared.outcome.Told.{Told}
use Rattle.machine.specs.declared.outcome.Told.TheVariants.{StartIndication, StartConfirmation, MessageIndication, EndIndication, EndConfirmation, UserAbortIndication, ProviderAbortIndication}
use Rattle.machine.specs.declared.outcome.Outcome.{Outcome}
use Rattle.clauses.proofs.Clauses.{fault_answered}
use Rattle.clauses.proofs.ForwardState.{left, protocol_erred}
use Rattle.std.specs.Prelude.{None, Option, Some}

-- the user is told, with the message data; nothing is sent
abbrev pub delivered : Record → Control → Bool → Bool → Option Told → Outcome
delivered r c t u x = record { refusal = None; next = record { control = c; timer = t; active = u; highest = r.highest; request = r.request; policy = r.policy; forwards = r.forwards; version = r.version; edition = r.edition }; invoked = None; told = x; apdu = Absent; delivers = true }

-- nothing is delivered; an active user is told; IDLE
abbrev pub closed : Record → Option Told → Outcome
closed r x = record { refusal = None; next = left r; invoked = None; told = cond r.active x None; apdu = Absent; delivers = false }

-- ---- D-DATA indication (2.3.5.3.4, 2.3.5.5.4): in DIALOGUE, and in END at the side that asked for the end, which is the ground of a CPDLC
-- dialogue and the air of a DSC dialogue

pub data_in_dialogue : (sd : Side) (r : Record) (d : Bool) → r.control ≡ entered Dialogue d
    → step sd r (Service DDataIndication Send) ≡ delivered r (entered Dialogue d) r.timer r.active (Some MessageIndication)
unfolding event_fits service_fits user_data_fits first_fault send_fault pdu_fault answered instructed handed enter
data_in_dialogue sd r d c = fault_answered sd r DDataIndication Send None refl (rw c) ∙ rw c

pub data_in_end_ground : (r : Record) → r.control ≡ entered End false
    → step Ground r (Service DDataIndication Send) ≡ delivered r (entered End false) r.timer r.active (Some MessageIndication)
unfolding event_fits service_fits user_data_fits first_fault send_fault pdu_fault answered instructed handed enter
data_in_end_ground r c = fault_answered Ground r DDataIndication Send None refl (rw c) ∙ rw c

pub data_in_end_air : (r : Record) → r.control ≡ entered End true
    → step Air r (Service DDataIndication Send) ≡ delivered r (entered End true) r.timer r.active (Some MessageIndication)
unfolding event_fits service_fits user_data_fits first_fault send_fault pdu_fault answered instructed handed enter
data_in_end_air r c = fault_answered Air r DDataIndication Send None refl (rw c) ∙ rw c

pub data_not_ground : (r : Record) → r.control ≡ entered End true → step Ground r (Service DDataIndication Send) ≡ protocol_erred r
unfolding event_fits service_fits user_data_fits first_fault send_fault answered no_instruction excepts aborts tell enter
data_not_ground r c = fault_answered Ground r DDataIndication Send (Some (NoInstruction true)) refl (rw c) ∙ rw c

pub data_not_air : (r : Record) → r.control ≡ entered End false → step Air r (Service DDataIndication Send) ≡ protocol_erred r
unfolding event_fits service_fits user_data_fits first_fault send_fault answered no_instruction excepts aborts tell enter
data_not_air r c = fault_answered Air r DDataIndication Send (Some (NoInstruction true)) refl (rw c) ∙ rw c

pub data_not_asked : (sd : Side) (r : Record) (d : Bool) → r.control ≡ entered StartReq d
    → step sd r (Service DDataIndication Send) ≡ protocol_erred r
unfolding event_fits service_fits user_data_fits first_fault send_fault answered no_instruction excepts aborts tell enter
data_not_asked sd r d c = fault_answered sd r DDataIndication Send (Some (NoInstruction true)) refl (rw c) ∙ rw c

pub data_not_answered : (sd : Side) (r : Record) (d : Bool) → r.control ≡ entered StartInd d
    → step sd r (Service DDataIndication Send) ≡ protocol_erred r
unfolding event_fits service_fits user_data_fits first_fault send_fault answered no_instruction excepts aborts tell enter
data_not_answered sd r d c = fault_answered sd r DDataIndication Send (Some (NoInstruction true)) refl (rw c) ∙ rw c

-- ---- D-END indication (2.3.5.3.5, 2.3.5.5.5)

pub end_at_air : (r : Record) → r.control ≡ entered Dialogue false
    → step Air r (Service DEndIndication Send) ≡ delivered r (entered End false) r.timer r.active (Some (EndIndication false))
unfolding event_fits service_fits user_data_fits first_fault send_fault pdu_fault answered instructed handed enter
end_at_air r c = fault_answered Air r DEndIndication Send None refl (rw c) ∙ rw c

pub end_at_ground : (r : Record) → r.control ≡ entered Dialogue true
    → step Ground r (Service DEndIndication Send) ≡ delivered r (entered End true) r.timer r.active (Some (EndIndication true))
unfolding event_fits service_fits user_data_fits first_fault send_fault pdu_fault answered instructed handed enter
end_at_ground r c = fault_answered Ground r DEndIndication Send None refl (rw c) ∙ rw c

-- ---- D-END confirmation (2.3.5.3.6, 2.3.5.5.6), accepted (0) and rejected (1)

pub ended_at_ground : (r : Record) → r.control ≡ entered End false
    → step Ground r (Service (DEndConfirmation 0) Send) ≡ delivered r (entered Idle false) false false (Some (EndConfirmation false 0))
unfolding event_fits service_fits user_data_fits first_fault send_fault pdu_fault answered instructed handed enter reply_of
ended_at_ground r c = fault_answered Ground r (DEndConfirmation 0) Send None refl (rw c) ∙ rw c

pub kept_at_ground : (r : Record) → r.control ≡ entered End false
    → step Ground r (Service (DEndConfirmation 1) Send) ≡ delivered r (entered Dialogue false) r.timer r.active (Some (EndConfirmation false 1))
unfolding event_fits service_fits user_data_fits first_fault send_fault pdu_fault answered instructed handed enter reply_of
kept_at_ground r c = fault_answered Ground r (DEndConfirmation 1) Send None refl (rw c) ∙ rw c

pub ended_at_air : (r : Record) → r.control ≡ entered End true
    → step Air r (Service (DEndConfirmation 0) Send) ≡ delivered r (entered Idle false) false false (Some (EndConfirmation true 0))
unfolding event_fits service_fits user_data_fits first_fault send_fault pdu_fault answered instructed handed enter reply_of
ended_at_air r c = fault_answered Air r (DEndConfirmation 0) Send None refl (rw c) ∙ rw c

pub kept_at_air : (r : Record) → r.control ≡ entered End true
    → step Air r (Service (DEndConfirmation 1) Send) ≡ delivered r (entered Dialogue true) r.timer r.active (Some (EndConfirmation true 1))
unfolding event_fits service_fits user_data_fits first_fault send_fault pdu_fault answered instructed handed enter reply_of
kept_at_air r c = fault_answered Air r (DEndConfirmation 1) Send None refl (rw c) ∙ rw c

and_false : (b : Bool) → (b && false) ≡ false
and_false true = refl
and_false false = refl

-- ---- D-START confirmation (2.3.5.3.3, 2.3.5.5.3), accepted (0) and rejected (permanent) (1), by the DS user (0), with the value asked for

module _ (r : Record) (s v : ℕ) (h : service_fits (DStartConfirmation 0 0 s v) ≡ true) (g : service_fits (DStartConfirmation 1 0 s v) ≡ true) (y : differs (secures r.edition) s r.request ≡ false) where
  pub started_at_air : spares r.edition ≡ false → (d : Bool) → r.control ≡ entered StartReq d
      → step Air r (Service (DStartConfirmation 0 0 s v) Send) ≡ delivered r (entered Dialogue d) false r.active (Some (StartConfirmation d 0))
  unfolding event_fits user_data_fits first_fault confirmation_fault pdu_fault answered instructed handed enter reply_of
  started_at_air z d c = fault_answered Air r (DStartConfirmation 0 0 s v) Send None (rw h) (rw (c, y, z)) ∙ rw c

  pub rejected_at_air : (d : Bool) → r.control ≡ entered StartReq d
      → step Air r (Service (DStartConfirmation 1 0 s v) Send) ≡ delivered r (entered Idle false) false false (Some (StartConfirmation d 1))
  unfolding event_fits user_data_fits first_fault confirmation_fault pdu_fault answered instructed handed enter reply_of
  rejected_at_air d c = fault_answered Air r (DStartConfirmation 1 0 s v) Send None (rw g)
      (rw (c, y, and_false (spares r.edition))) ∙ rw c

  pub started_at_ground : spares r.edition ≡ false → r.control ≡ entered StartReq false
      → step Ground r (Service (DStartConfirmation 0 0 s v) Send) ≡ delivered r (entered Dialogue false) false r.active (Some (StartConfirmation false 0))
  unfolding event_fits user_data_fits first_fault confirmation_fault pdu_fault answered instructed handed enter reply_of
  started_at_ground z c = fault_answered Ground r (DStartConfirmation 0 0 s v) Send None (rw h) (rw (c, y, z)) ∙ rw c

  pub rejected_at_ground : r.control ≡ entered StartReq false
      → step Ground r (Service (DStartConfirmation 1 0 s v) Send) ≡ delivered r (entered Idle false) false false (Some (StartConfirmation false 1))
  unfolding event_fits user_data_fits first_fault confirmation_fault pdu_fault answered instructed handed enter reply_of
  rejected_at_ground c = fault_answered Ground r (DStartConfirmation 1 0 s v) Send None (rw g)
      (rw (c, y, and_false (spares r.edition))) ∙ rw c

-- ---- D-START indication (2.3.5.3.2, 2.3.5.5.2) in IDLE: the air's from a facility (0), the ground's from an aircraft (1) in either mode

pub invited_at_air : (r : Record) (d : Bool) (s v : ℕ) (q : Qos) → service_fits (DStartIndication 0 s q v) ≡ true
    → qos_fits q ≡ true → differs (secures r.edition) s r.policy ≡ false → r.control ≡ entered Idle d
    → step Air r (Service (DStartIndication 0 s q v) (Start false)) ≡ delivered r (entered StartInd d) r.timer true
    (Some (StartIndication false q.routing))
unfolding event_fits user_data_fits first_fault indication_fault start_fits_of pdu_fault answered instructed handed enter
invited_at_air r d s v q h g y c = fault_answered Air r (DStartIndication 0 s q v) (Start false) None (rw h) (rw (c, g, y)) ∙ rw c

pub invited_at_ground : (r : Record) (d m : Bool) (s v : ℕ) (q : Qos) → service_fits (DStartIndication 1 s q v) ≡ true
    → qos_fits q ≡ true → differs (secures r.edition) s r.policy ≡ false → r.control ≡ entered Idle d
    → step Ground r (Service (DStartIndication 1 s q v) (Start m)) ≡ delivered r (entered StartInd (m || d)) r.timer
    true (Some (StartIndication m q.routing))
unfolding event_fits user_data_fits first_fault indication_fault start_fits_of pdu_fault answered instructed handed enter
invited_at_ground r d m s v q h g y c = fault_answered Ground r (DStartIndication 1 s q v) (Start m) None (rw h) (rw (c, g, y)) ∙ rw c

-- ---- D-ABORT indication (3.5.3.14, 2.3.5.5.15) outside IDLE, of the user (0) and of the provider (1)

pub abort_by_user : (sd : Side) (r : Record) (x : ℕ) → ltb x (user_reasons r.edition) ≡ true
    → is_idle r.control ≡ false
    → step sd r (Service (DAbortIndication 0) (AbortUser x)) ≡ closed r (Some (UserAbortIndication x))
unfolding event_fits service_fits user_data_fits first_fault abort_fault answered instructed closes tell enter
abort_by_user sd r x h i = fault_answered sd r (DAbortIndication 0) (AbortUser x) None (rw h) (rw i)

pub abort_by_provider : (sd : Side) (r : Record) (x : ℕ) → ltb x provider_reasons ≡ true → is_idle r.control ≡ false
    → step sd r (Service (DAbortIndication 1) (AbortProvider x)) ≡ closed r (Some (ProviderAbortIndication x))
unfolding event_fits service_fits user_data_fits first_fault abort_fault answered instructed closes tell enter
abort_by_provider sd r x h i = fault_answered sd r (DAbortIndication 1) (AbortProvider x) None (rw h) (rw i)

-- ---- what a taken call invokes, with its parameters and the APDU; nobody is told and nothing is delivered

pub record Invokes (o : Outcome) (i : Option Invoked) (a : UserData) : Type 0 where
  pub taken : o.refusal ≡ None
  pub invoked : o.invoked ≡ i
  pub apdu : o.apdu ≡ a
  pub told : o.told ≡ None
  pub delivers : o.delivers ≡ false

module _ (r : Record) where
  pub start_invokes : (m k s : ℕ) → Invokes (called r (StartServiceRequest m k s)) (Some (DStartRequest (record { priority = 1; rer = 1; routing = k }) (security_sent (secures r.edition) s))) (Start (eqb m 1))
  unfolding called start_request sent
  start_invokes m k s = record { taken = refl; invoked = refl; apdu = refl; told = refl; delivers = refl }

  pub answer_invokes : (m : Bool) (x : ℕ) (h : Bool)
      → Invokes (called r (StartServiceResponse m x h)) (Some (DStartResponse x (security_sent (secures r.edition) r.policy))) (unless_spared (spares r.edition) h)
  unfolding called start_response sent
  answer_invokes m x h = record { taken = refl; invoked = refl; apdu = refl; told = refl; delivers = refl }

  pub message_invokes : (h : Bool) (j : ℕ) → Invokes (called r (MessageServiceRequest h j)) (Some DDataRequest) Send
  unfolding called message_request sent
  message_invokes h j = record { taken = refl; invoked = refl; apdu = refl; told = refl; delivers = refl }

  pub end_invokes : (m h : Bool) → Invokes (called r (EndServiceRequest m h)) (Some DEndRequest) (unless_spared (spares r.edition) h)
  unfolding called end_request sent
  end_invokes m h = record { taken = refl; invoked = refl; apdu = refl; told = refl; delivers = refl }

  pub end_answer_invokes : (m : Bool) (x : ℕ) (h : Bool)
      → Invokes (called r (EndServiceResponse m x h)) (Some (DEndResponse x)) (unless_spared (spares r.edition) h)
  unfolding called end_response sent
  end_answer_invokes m x h = record { taken = refl; invoked = refl; apdu = refl; told = refl; delivers = refl }

  pub abort_invokes : (g : Bool) (x : ℕ) → Invokes (called r (UserAbortServiceRequest g x)) (Some (DAbortRequest 0)) (AbortUser (cond g x 0))
  unfolding called user_abort sent
  abort_invokes g x = record { taken = refl; invoked = refl; apdu = refl; told = refl; delivers = refl }
