-- What application type 2 does otherwise (document 02, E14; source document 004, S-4 to S-9): user data may be left out of an end, of its
-- confirmation and of a D-START confirmation; a start that is accepted has none; user abort reasons are 0 to 6. Each outcome whole, field by
-- field, over any edition that answers so.
-- Assumes nothing.
use Prim.Native.Nat.{ℕ, ◌≤◌}
use mathlib.Core.Path.{◌≡◌, refl, ◌∙◌}
use mathlib.Core.Bool.{Bool, true, false}
use borrow.Author.Tests.{le-ltb}
use Rattle.editions.specs.Editions.{secures, spares, user_reasons}
use Rattle.editions.specs.declared.Edition.TheVariants.{Plain, Protected}
use Rattle.control.specs.Control.{entered}
use Rattle.control.specs.declared.Side.{Side}
use Rattle.control.specs.declared.Side.TheVariants.{Air, Ground}
use Rattle.control.specs.declared.State.TheVariants.{Idle, StartReq, Dialogue, End}
use Rattle.machine.specs.Record.{enter}
use Rattle.machine.specs.UserData.{user_data_fits}
use Rattle.machine.specs.Event.{user_fits, service_fits, event_fits}
use Rattle.machine.specs.Outcome.{refused}
use Rattle.machine.specs.Exceptions.{tell, aborts, excepts}
use Rattle.machine.specs.Calls.{reply_of}
use Rattle.machine.specs.Faults.{differs, send_allowed, pdu_fault, send_fault, confirmation_fault, first_fault}
use Rattle.machine.specs.Primitives.{handed, instructed, answered}
use Rattle.machine.specs.Step.{step}
use Rattle.machine.specs.declared.record.Record.{Record}
use Rattle.machine.specs.declared.event.UserData.TheVariants.{Absent, Send}
use Rattle.machine.specs.declared.event.UserPrimitive.TheVariants.{UserAbortServiceRequest}
use Rattle.machine.specs.declared.event.ServicePrimitive.TheVariants.{DStartConfirmation, DEndIndication, DEndConfirmation}
use Rattle.machine.specs.declared.event.Event.TheVariants.{User, Service}
use Rattle.machine.specs.declared.faults.Fault.TheVariants.{NotPermitted}
use Rattle.machine.specs.declared.outcome.StepRefusal.TheVariants.{Shape}
use Rattle.machine.specs.declared.outcome.Told.TheVariants.{StartConfirmation, EndIndication, EndConfirmation}
use Rattle.clauses.proofs.Clauses.{shape_first, fault_answered}
use Rattle.clauses.proofs.ForwardState.{protocol_erred}
use Rattle.clauses.proofs.Instructions.{delivered}
use Rattle.std.specs.Prelude.{None, Some}

-- ---- user data left out

module _ (r : Record) (z : spares r.edition ≡ true) where
  pub end_spared_at_air : r.control ≡ entered Dialogue false
      → step Air r (Service DEndIndication Absent) ≡ delivered r (entered End false) r.timer r.active (Some (EndIndication false))
  unfolding event_fits service_fits user_data_fits first_fault send_fault pdu_fault answered instructed handed enter
  end_spared_at_air c = fault_answered Air r DEndIndication Absent None refl (rw (c, z)) ∙ rw c

  pub end_spared_at_ground : r.control ≡ entered Dialogue true
      → step Ground r (Service DEndIndication Absent) ≡ delivered r (entered End true) r.timer r.active (Some (EndIndication true))
  unfolding event_fits service_fits user_data_fits first_fault send_fault pdu_fault answered instructed handed enter
  end_spared_at_ground c = fault_answered Ground r DEndIndication Absent None refl (rw (c, z)) ∙ rw c

  pub ended_spared_at_ground : r.control ≡ entered End false
      → step Ground r (Service (DEndConfirmation 0) Absent) ≡ delivered r (entered Idle false) false false (Some (EndConfirmation false 0))
  unfolding event_fits service_fits user_data_fits first_fault send_fault pdu_fault answered instructed handed enter reply_of
  ended_spared_at_ground c = fault_answered Ground r (DEndConfirmation 0) Absent None refl (rw (c, z)) ∙ rw c

  pub kept_spared_at_ground : r.control ≡ entered End false
      → step Ground r (Service (DEndConfirmation 1) Absent) ≡ delivered r (entered Dialogue false) r.timer r.active (Some (EndConfirmation false 1))
  unfolding event_fits service_fits user_data_fits first_fault send_fault pdu_fault answered instructed handed enter reply_of
  kept_spared_at_ground c = fault_answered Ground r (DEndConfirmation 1) Absent None refl (rw (c, z)) ∙ rw c

  pub ended_spared_at_air : r.control ≡ entered End true
      → step Air r (Service (DEndConfirmation 0) Absent) ≡ delivered r (entered Idle false) false false (Some (EndConfirmation true 0))
  unfolding event_fits service_fits user_data_fits first_fault send_fault pdu_fault answered instructed handed enter reply_of
  ended_spared_at_air c = fault_answered Air r (DEndConfirmation 0) Absent None refl (rw (c, z)) ∙ rw c

  pub kept_spared_at_air : r.control ≡ entered End true
      → step Air r (Service (DEndConfirmation 1) Absent) ≡ delivered r (entered Dialogue true) r.timer r.active (Some (EndConfirmation true 1))
  unfolding event_fits service_fits user_data_fits first_fault send_fault pdu_fault answered instructed handed enter reply_of
  kept_spared_at_air c = fault_answered Air r (DEndConfirmation 1) Absent None refl (rw (c, z)) ∙ rw c

  module _ (s v : ℕ) (h : service_fits (DStartConfirmation 0 0 s v) ≡ true) (g : service_fits (DStartConfirmation 1 0 s v) ≡ true) (y : differs (secures r.edition) s r.request ≡ false) where
    pub accepted_bare_at_air : (d : Bool) → r.control ≡ entered StartReq d
        → step Air r (Service (DStartConfirmation 0 0 s v) Absent) ≡ delivered r (entered Dialogue d) false r.active (Some (StartConfirmation d 0))
    unfolding event_fits user_data_fits first_fault confirmation_fault pdu_fault answered instructed handed enter reply_of
    accepted_bare_at_air d c = fault_answered Air r (DStartConfirmation 0 0 s v) Absent None (rw h) (rw (c, y, z)) ∙ rw c

    pub rejected_bare_at_air : (d : Bool) → r.control ≡ entered StartReq d
        → step Air r (Service (DStartConfirmation 1 0 s v) Absent) ≡ delivered r (entered Idle false) false false (Some (StartConfirmation d 1))
    unfolding event_fits user_data_fits first_fault confirmation_fault pdu_fault answered instructed handed enter reply_of
    rejected_bare_at_air d c = fault_answered Air r (DStartConfirmation 1 0 s v) Absent None (rw g) (rw (c, y, z)) ∙ rw c

    pub accepted_bare_at_ground : r.control ≡ entered StartReq false
        → step Ground r (Service (DStartConfirmation 0 0 s v) Absent) ≡ delivered r (entered Dialogue false) false r.active (Some (StartConfirmation false 0))
    unfolding event_fits user_data_fits first_fault confirmation_fault pdu_fault answered instructed handed enter reply_of
    accepted_bare_at_ground c = fault_answered Ground r (DStartConfirmation 0 0 s v) Absent None (rw h) (rw (c, y, z)) ∙ rw c

    pub rejected_bare_at_ground : r.control ≡ entered StartReq false
        → step Ground r (Service (DStartConfirmation 1 0 s v) Absent) ≡ delivered r (entered Idle false) false false (Some (StartConfirmation false 1))
    unfolding event_fits user_data_fits first_fault confirmation_fault pdu_fault answered instructed handed enter reply_of
    rejected_bare_at_ground c = fault_answered Ground r (DStartConfirmation 1 0 s v) Absent None (rw g) (rw (c, y, z)) ∙ rw c

    -- data in a start that is accepted: no action is described, protocol-error (2.3.5.6.4.1)
    pub accepted_with_data_at_air : (d : Bool) → r.control ≡ entered StartReq d
        → step Air r (Service (DStartConfirmation 0 0 s v) Send) ≡ protocol_erred r
    unfolding event_fits user_data_fits first_fault confirmation_fault pdu_fault answered excepts aborts tell enter reply_of
    accepted_with_data_at_air d c = fault_answered Air r (DStartConfirmation 0 0 s v) Send (Some (NotPermitted true)) (rw h) (rw (c, y, z))

    pub accepted_with_data_at_ground : r.control ≡ entered StartReq false
        → step Ground r (Service (DStartConfirmation 0 0 s v) Send) ≡ protocol_erred r
    unfolding event_fits user_data_fits first_fault confirmation_fault pdu_fault answered excepts aborts tell enter reply_of
    accepted_with_data_at_ground c = fault_answered Ground r (DStartConfirmation 0 0 s v) Send (Some (NotPermitted true)) (rw h) (rw (c, y, z))

-- ---- a user abort's reason outside the edition's type is SHAPE, in every state; 7 is one in application type 2

pub reason_outside : (sd : Side) (r : Record) (g : Bool) (x : ℕ) → user_reasons r.edition ≤ x
    → step sd r (User (UserAbortServiceRequest g x)) ≡ refused (Some Shape) r
unfolding event_fits user_fits
reason_outside sd r g x h = shape_first sd r (User (UserAbortServiceRequest g x)) (le-ltb x (user_reasons r.edition) h)

pub reason_seven : (sd : Side) (r : Record) (g : Bool) → r.edition ≡ Plain
    → step sd r (User (UserAbortServiceRequest g 7)) ≡ refused (Some Shape) r
unfolding event_fits user_fits
reason_seven sd r g e = shape_first sd r (User (UserAbortServiceRequest g 7)) (rw e)

-- ---- nothing is compared where the edition has no security

pub nothing_compared : (r : Record) (s v : ℕ) → secures r.edition ≡ false → differs (secures r.edition) s v ≡ false
nothing_compared r s v z = rw z

-- ---- what the two editions answer

pub plain_answers : secures Plain ≡ false
plain_answers = refl

pub plain_spares : spares Plain ≡ true
plain_spares = refl

pub protected_secures : secures Protected ≡ true
protected_secures = refl

pub protected_spares : spares Protected ≡ false
protected_spares = refl
