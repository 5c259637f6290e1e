-- Document 01's two examples of jobs, and a dialogue from start to end at both sides, computed.
-- Assumes nothing.
use mathlib.Core.Path.{◌≡◌, refl}
use mathlib.Core.Bool.{Bool, true, false}
use mathlib.Core.List.{List, [], ◌∷◌}
use Prim.Native.Nat.{ℕ}
use Rattle.editions.specs.declared.Edition.TheVariants.{Protected}
use Rattle.machine.specs.Codes.{accepted}
use Rattle.clauses.proofs.Clauses.{cpdlc_mode}
use Rattle.machine.specs.Record.{fresh_record, enter}
use Rattle.machine.specs.UserData.{user_data_fits}
use Rattle.machine.specs.Event.{has_mode, qos_fits, user_fits, service_fits, event_fits}
use Rattle.machine.specs.Outcome.{refusal_number}
use Rattle.machine.specs.Calls.{reply_of, sent, start_request, start_response, message_request, end_request, end_response, user_abort, call_of, unsent, called}
use Rattle.machine.specs.Faults.{pdu_fault, send_fault, start_fits_of, indication_fault, response_fault, confirmation_fault, first_fault}
use Rattle.machine.specs.Primitives.{handed, instructed, answered, reached}
use Rattle.machine.specs.Step.{permitted, message_refusal, refusal_of, acts, step}
use Rattle.clauses.proofs.Runs.{run}
use Rattle.control.specs.declared.Side.{Side}
use Rattle.control.specs.declared.Side.TheVariants.{Air, Ground}
use Rattle.control.specs.declared.State.TheVariants.{Idle, Dialogue}
use Rattle.machine.specs.declared.record.Record.{Record}
use Rattle.machine.specs.declared.event.UserData.TheVariants.{Start, Send, Forward, ForwardResponse}
use Rattle.machine.specs.declared.event.UserPrimitive.TheVariants.{StartServiceRequest, StartServiceResponse, MessageServiceRequest, EndServiceRequest, EndServiceResponse}
use Rattle.machine.specs.declared.event.ServicePrimitive.TheVariants.{DStartIndication, DStartConfirmation, DEndIndication, DEndConfirmation, DDataIndication}
use Rattle.machine.specs.declared.event.Event.{Event}
use Rattle.machine.specs.declared.event.Event.TheVariants.{User, Service}
use Rattle.machine.specs.declared.event.Event.TheVariants.{Forward as ForwardRequested}
use Rattle.machine.specs.declared.event.Qos.{Qos}
use Rattle.machine.specs.declared.outcome.Invoked.TheVariants.{DStartForwardResponse}
use Rattle.machine.specs.declared.outcome.Told.TheVariants.{ForwardIndication}
use Rattle.machine.specs.Exceptions.{closes}
use Rattle.machine.specs.Forwards.{forward_request, responds, forward_arrives, forward_confirmed}
use Rattle.std.specs.Prelude.{None, Some}

-- a record with local policy "no security"
abbrev fresh : Record
fresh = fresh_record (record { policy = 0; forwards = true; version = 1; edition = Protected })

abbrev confirmation : Event
confirmation = Service (DStartConfirmation 0 0 0 0) Send

abbrev message : ℕ → Event
message j = User (MessageServiceRequest true j)

-- the number of the last event's refusal
abbrev last : Side → List Event → Event → ℕ
last sd es e = refusal_number (step sd (run sd fresh es) e).refusal

-- job 7, then 7: REPEAT
pub seven_twice : last Air (User (StartServiceRequest cpdlc_mode 0 0) ∷ confirmation ∷ message 7 ∷ []) (message 7) ≡ 5
unfolding run step refusal_of permitted message_refusal acts event_fits user_fits has_mode service_fits user_data_fits call_of
    unsent called reached start_request message_request sent enter first_fault confirmation_fault pdu_fault answered
    instructed reply_of handed
seven_twice = refl

-- job 7 refused with 3, then 7 again in DIALOGUE: taken
pub seven_refused : last Air [] (message 7) ≡ 3
unfolding run step refusal_of permitted message_refusal event_fits user_fits has_mode call_of
seven_refused = refl

pub seven_again : last Air (message 7 ∷ User (StartServiceRequest cpdlc_mode 0 0) ∷ confirmation ∷ []) (message 7) ≡ 0
unfolding run step refusal_of permitted message_refusal acts event_fits user_fits has_mode service_fits user_data_fits call_of
    unsent called reached start_request message_request sent enter first_fault confirmation_fault pdu_fault answered
    instructed reply_of handed
seven_again = refl

-- the highest job survives the closing: after an end, 7 is refused with 5 in the next dialogue
pub seven_later : last Air (User (StartServiceRequest cpdlc_mode 0 0) ∷ confirmation ∷ message 7 ∷ Service DEndIndication
    Send ∷ User (EndServiceResponse false accepted true) ∷ User (StartServiceRequest cpdlc_mode 0 0) ∷ confirmation ∷
    []) (message 7) ≡ 5
unfolding run step refusal_of permitted message_refusal acts event_fits user_fits has_mode service_fits user_data_fits call_of
    unsent called reached start_request message_request end_response sent enter first_fault confirmation_fault send_fault
    pdu_fault answered instructed reply_of handed
seven_later = refl

-- a DSC dialogue at the ground: invited, accepted, abort_fault by the air, closed by the accepted DSC-end response
pub downstream : run Ground fresh (Service (DStartIndication 1 0 (record { priority = 1; rer = 1; routing = 0 }) 0) (Start true) ∷ User (StartServiceResponse true 0 true) ∷ Service DDataIndication Send ∷ Service DEndIndication Send ∷ message 9 ∷ User (EndServiceResponse true 0 true) ∷ []) ≡ record { control = record { state = Idle; dsc = false }; timer = false; active = false; highest = 9; request = 0; policy = 0; forwards = true; version = 1; edition = Protected }
unfolding run step refusal_of permitted message_refusal acts event_fits user_fits has_mode service_fits user_data_fits qos_fits
    call_of unsent called reached start_response message_request end_response sent enter first_fault indication_fault
    start_fits_of send_fault pdu_fault answered instructed reply_of handed
downstream = refl

-- ---- a forward between two centres of version 1: the request, what the other centre does with it, the response

abbrev quality : Qos
quality = record { priority = 1; rer = 1; routing = 0 }

-- the receiver answers in the same event, tells its user, and stays as it was
pub forward_answered : step Ground fresh (Service (DStartIndication 0 0 quality 1) Forward) ≡ record { refusal = None; next = fresh; invoked = Some (DStartForwardResponse 0 0); told = Some ForwardIndication; apdu = ForwardResponse 0; delivers = false }
unfolding step refusal_of permitted message_refusal acts event_fits service_fits user_data_fits qos_fits reached first_fault
    indication_fault start_fits_of pdu_fault answered instructed forward_arrives responds enter
forward_answered = refl

-- and the sender is IDLE again
pub forward_over_is : run Ground fresh (ForwardRequested 3 0 ∷ Service (DStartConfirmation 1 0 0 0) (ForwardResponse 0) ∷ []) ≡ fresh
unfolding run step refusal_of permitted message_refusal acts event_fits service_fits user_data_fits reply_of reached first_fault
    confirmation_fault response_fault pdu_fault answered instructed forward_request forward_confirmed closes enter
forward_over_is = refl
