-- A ground end that is closed by the accepted DSC-end response, meets a late D-ABORT and starts again; computed.
-- Assumes nothing.
use mathlib.Core.Path.{◌≡◌, refl}
use mathlib.Core.Bool.{true}
use mathlib.Core.List.{List, [], ◌∷◌}
use Rattle.editions.specs.declared.Edition.TheVariants.{Protected}
use Rattle.machine.specs.Record.{fresh_record, enter}
use Rattle.machine.specs.UserData.{user_data_fits}
use Rattle.machine.specs.Event.{has_mode, qos_fits, user_fits, service_fits, event_fits}
use Rattle.machine.specs.Calls.{reply_of, sent, start_request, start_response, end_response, call_of, unsent, called}
use Rattle.machine.specs.Exceptions.{tell, closes, aborts, excepts, no_instruction}
use Rattle.machine.specs.Faults.{pdu_fault, send_fault, start_fits_of, indication_fault, abort_fault, first_fault}
use Rattle.machine.specs.Primitives.{handed, instructed, answered, reached}
use Rattle.machine.specs.Step.{permitted, message_refusal, acts}
use Rattle.numbered.specs.Numbers.{user_starts, service_starts, is_start, is_service, is_stale, held_after, refusal_of, numbered_step}
use Rattle.control.specs.declared.Side.TheVariants.{Ground}
use Rattle.machine.specs.declared.event.UserData.TheVariants.{Start, Send, AbortUser}
use Rattle.machine.specs.declared.event.UserPrimitive.TheVariants.{StartServiceRequest, StartServiceResponse, EndServiceResponse}
use Rattle.machine.specs.declared.event.ServicePrimitive.TheVariants.{DStartIndication, DEndIndication, DAbortIndication}
use Rattle.machine.specs.declared.event.Event.TheVariants.{User, Service}
use Rattle.told.specs.Lists.{among, begins, ends}
use Rattle.told.specs.Histories.{NumberedEvent, End, end, history, reaches, activations, closings}

abbrev ground : End
ground = end (fresh_record (record { policy = 0; forwards = true; version = 1; edition = Protected })) 0

abbrev events : List NumberedEvent
events =
    record { event = Service (DStartIndication 1 0 (record { priority = 1; rer = 1; routing = 0 }) 0) (Start true); number = 5 } ∷
    record { event = User (StartServiceResponse true 0 true); number = 0 } ∷
    record { event = User (StartServiceRequest 0 0 0); number = 6 } ∷
    record { event = Service DEndIndication Send; number = 5 } ∷
    record { event = User (EndServiceResponse true 0 true); number = 0 } ∷
    record { event = Service (DAbortIndication 0) (AbortUser 0); number = 5 } ∷
    record { event = User (StartServiceRequest 0 0 0); number = 6 } ∷ []

-- the start in DIALOGUE is refused, the late D-ABORT tells nobody: two activations, one closing, and active now
pub told_of_one : (activations Ground (history Ground ground events) ≡ 2) ×
    (closings Ground (history Ground ground events) ≡ 1) × ((reaches Ground ground events).dialogue.active ≡ true)
unfolding activations closings history reaches among begins ends numbered_step refusal_of is_stale is_start is_service
    user_starts service_starts held_after permitted message_refusal acts event_fits user_fits has_mode service_fits user_data_fits
    qos_fits call_of unsent called reached start_request start_response end_response sent enter first_fault indication_fault
    start_fits_of send_fault abort_fault pdu_fault answered instructed reply_of handed closes aborts excepts no_instruction tell
told_of_one = (refl, refl, refl)
