-- That there is a codec, and a run of the machines over bytes, computed. (A theorem over every codec says nothing where there is
-- none.) Three numbers stand for each APDU's leading bits; the real codec is the card's.
-- Assumes nothing.
use mathlib.Core.Path.{◌≡◌, refl}
use mathlib.Core.Bool.{Bool, true, false, cond}
use mathlib.Core.List.{List, [], ◌∷◌}
use Prim.Native.Nat.{ℕ}
use lib.Dec.{T, ltb, eqb}
use Rattle.editions.specs.declared.Edition.TheVariants.{Plain, Protected}
use Rattle.machine.specs.Codes.{dsc_mode, provider_reasons}
use Rattle.machine.specs.Record.{enter}
use Rattle.machine.specs.UserData.{user_data_fits}
use Rattle.machine.specs.Event.{has_mode, qos_fits, user_fits, service_fits, event_fits}
use Rattle.machine.specs.Exceptions.{tell, aborts, excepts, timer_expires}
use Rattle.machine.specs.Calls.{reply_of, sent, start_request, start_response, message_request, end_request, call_of, unsent, called, end_response}
use Rattle.machine.specs.Faults.{pdu_fault, send_fault, start_fits_of, indication_fault, confirmation_fault, first_fault}
use Rattle.machine.specs.Primitives.{handed, instructed, answered, reached}
use Rattle.machine.specs.Step.{permitted, message_refusal, refusal_of, acts, step}
use Rattle.machine.specs.declared.event.UserData.{UserData}
use Rattle.machine.specs.declared.event.UserData.TheVariants.{Absent, NotValid, Start, Send, AbortUser, AbortProvider, Forward, ForwardResponse}
use Rattle.machine.specs.declared.outcome.Invoked.TheVariants.{DStartResponse, DDataRequest, DEndRequest, DAbortRequest}
use Rattle.pair.specs.Names.{Side, Air, Ground, Dialogue, End, entered, closed}
use Rattle.pair.specs.Carrier.{Body, user_call, hand_over, timer_expires_of, Turn}
use Rattle.pair.proofs.OneDialogue.{Sys, fresh, run, is_nil}
use Rattle.pair.proofs.StepMachine.{end_response_of, Read, got, fault, Codec, Order, start_request_of, start_response_of, message_request_of, end_request_of, step_machine, fresh_with}
use Rattle.std.specs.Prelude.{Some}

abbrev fits : Side → UserData → Body → Bool
fits sd Absent b = is_nil b
fits sd NotValid b = false
fits sd (Start m) b = true
fits sd Send b = true
fits sd (AbortUser x) b = true
fits sd (AbortProvider x) b = true
fits sd Forward b = false
fits sd (ForwardResponse x) b = false

abbrev enc : Side → UserData → Body → List ℕ
enc sd Absent b = []
enc sd NotValid b = []
enc sd (Start m) b = 1 ∷ (cond m 1 0 ∷ b)
enc sd Send b = 2 ∷ (0 ∷ b)
enc sd (AbortUser x) b = 3 ∷ (x ∷ b)
enc sd (AbortProvider x) b = 4 ∷ (x ∷ b)
enc sd Forward b = []
enc sd (ForwardResponse x) b = []

abbrev dec : Side → List ℕ → Read
dec sd [] = got Absent []
dec sd (t ∷ []) = fault
dec sd (t ∷ (x ∷ b)) =
    cond (eqb t 1) (got (Start (eqb x 1)) b)
    (cond (eqb t 2) (got Send b)
    (cond (eqb t 3) (got (AbortUser x) b)
    (cond (eqb t 4) (got (AbortProvider x) b) fault)))

pub back : (sd : Side) (a : UserData) (b : Body) → T (fits sd a b) → dec sd (enc sd a b) ≡ got a b
back sd Absent [] t = refl
back sd Absent (x ∷ b) t = absurd t
back sd NotValid b t = absurd t
back sd (Start true) b t = refl
back sd (Start false) b t = refl
back sd Send b t = refl
back sd (AbortUser x) b t = refl
back sd (AbortProvider x) b t = refl
back sd Forward b t = absurd t
back sd (ForwardResponse x) b t = absurd t

abbrev carries : Body → Bool
carries [] = false
carries (x ∷ l) = true

pub reasons_fit : (sd : Side) (x : ℕ) → T (ltb x provider_reasons) → T true
reasons_fit sd x t = tt

abbrev sample : Codec
sample = record { fits = fits; enc = enc; dec = dec; carries = carries; reasons_fit = reasons_fit; back = back }

-- ---- a run, with "secured exchange" at both ends

abbrev asks : Side → Order → Turn Order
asks sd a = record { side = sd; step = user_call a 0 }

abbrev gets : Side → Turn Order
gets sd = record { side = sd; step = hand_over 0 }

abbrev turns : List (Turn Order)
turns =
    asks Air (start_request_of dsc_mode 3 (9 ∷ [])) ∷ gets Ground ∷ asks Ground (start_response_of true 0 []) ∷ gets Air ∷ asks
    Air (message_request_of (5 ∷ []) 1) ∷ asks Air (message_request_of [] 2) ∷
    asks Air (message_request_of (6 ∷ []) 2) ∷ gets Ground ∷ asks Air (end_request_of true []) ∷ []

abbrev after : List (Turn Order) → Sys (step_machine sample 1)
after ts = run (step_machine sample 1) (fresh (step_machine sample 1) (fresh_with Protected 1) (fresh_with Protected 1)) ts

-- the second message request has no message and is refused, so its job is free
pub bytes_run :
    ((after turns).here.rec.control ≡ entered End true) × ((after turns).there.rec.control ≡ entered Dialogue true) ×
    ((after turns).here.taken ≡ (5 ∷ []) ∷ (6 ∷ []) ∷ []) × ((after turns).there.handed ≡ (5 ∷ []) ∷ [])
    × ((after turns).here.jobs ≡ 1 ∷ 2 ∷ []) × ((after turns).here.line ≡ record { primitive = Some DDataRequest; bytes = 2 ∷ (0 ∷ (6 ∷ [])) } ∷ (record { primitive = Some DEndRequest; bytes = 2 ∷ (0 ∷ []) } ∷ []))
unfolding run step refusal_of event_fits user_fits has_mode service_fits user_data_fits permitted call_of message_refusal unsent
    acts called reached start_request start_response message_request end_request sent reply_of enter qos_fits first_fault
    indication_fault confirmation_fault send_fault start_fits_of pdu_fault answered instructed handed
bytes_run = (refl, refl, refl, refl, refl, refl)

-- t-start expires before the response is delivered: the ground is told by the D-ABORT, and the air discards the response
abbrev late : List (Turn Order)
late = asks Air (start_request_of dsc_mode 0 []) ∷ gets Ground ∷ asks Ground (start_response_of true 0 []) ∷ record { side = Air; step = timer_expires_of 0 } ∷ gets Air ∷ []

pub bytes_late :
    ((after late).here.rec.control ≡ closed) × ((after late).there.rec.control ≡ entered Dialogue true) × ((after late).here.line ≡ record { primitive = Some (DAbortRequest 1); bytes = 4 ∷ (0 ∷ []) } ∷ []) × ((after late).there.line ≡ []) × ((after late).broken ≡ true)
unfolding run step refusal_of event_fits user_fits has_mode service_fits user_data_fits permitted call_of message_refusal unsent
    acts called reached start_request start_response sent reply_of enter qos_fits first_fault indication_fault start_fits_of
    pdu_fault answered instructed handed timer_expires excepts aborts tell
bytes_late = (refl, refl, refl, refl, refl)

-- ---- a run of two ends of type 2: nothing is sent with the start, the answer that accepts it, the end and its answer; the message arrives, and both close

abbrev plainly : List (Turn Order) → Sys (step_machine sample 0)
plainly ts = run (step_machine sample 0) (fresh (step_machine sample 0) (fresh_with Plain 0) (fresh_with Plain 0)) ts

abbrev opened : List (Turn Order)
opened = asks Air (start_request_of 0 3 []) ∷ gets Ground ∷ asks Ground (start_response_of false 0 []) ∷ []

abbrev closing : List (Turn Order)
closing =
    asks Air (start_request_of 0 3 []) ∷ gets Ground ∷ asks Ground (start_response_of false 0 []) ∷ gets Air ∷ asks Ground
    (message_request_of (5 ∷ []) 1) ∷ gets Air ∷ asks Ground (end_request_of false []) ∷ gets Air ∷ asks Air
    (end_response_of false 0 []) ∷ gets Ground ∷ []

pub plain_opened : (plainly opened).there.line ≡ record { primitive = Some (DStartResponse 0 0); bytes = [] } ∷ []
unfolding run step refusal_of event_fits user_fits has_mode service_fits user_data_fits permitted call_of message_refusal unsent
    acts called reached start_request start_response message_request end_request end_response sent reply_of enter qos_fits
    first_fault indication_fault confirmation_fault send_fault start_fits_of pdu_fault answered instructed handed
plain_opened = refl

pub plain_closed : ((plainly closing).here.rec.control ≡ closed) × ((plainly closing).there.rec.control ≡ closed) ×
    ((plainly closing).here.handed ≡ (5 ∷ []) ∷ [])
unfolding run step refusal_of event_fits user_fits has_mode service_fits user_data_fits permitted call_of message_refusal unsent
    acts called reached start_request start_response message_request end_request end_response sent reply_of enter qos_fits
    first_fault indication_fault confirmation_fault send_fault start_fits_of pdu_fault answered instructed handed
plain_closed = (refl, refl, refl)
