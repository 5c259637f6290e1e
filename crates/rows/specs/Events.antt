-- What the engine sees of an event: which row title it is, which condition holds first, and its parameters.
use Rattle.std.specs.Prelude.{ℕ, Bool, true, false, not, cond, eqb, leb}
use Rattle.control.specs.Control.{awaits_response}
use Rattle.control.specs.declared.Side.{Side}
use Rattle.editions.specs.Editions.{secures, spares}
use Rattle.machine.specs.Codes.{accepted, user, provider, undefined}
use Rattle.machine.specs.Event.{is_dsc, qos_fits}
use Rattle.machine.specs.UserData.{mode_of, is_missing, is_invalid, is_start_pdu, is_send, is_user_abort, is_provider_abort, is_forward, is_response}
use Rattle.machine.specs.Calls.{security_sent, unless_spared}
use Rattle.machine.specs.Faults.{turned_away as turned, peer_fits, from_centre, differs, send_allowed}
use Rattle.machine.specs.declared.record.Record.{Record}
use Rattle.machine.specs.declared.event.UserData.{UserData}
use Rattle.machine.specs.declared.event.UserData.TheVariants.{Absent, Send}
use Rattle.machine.specs.declared.event.Qos.{Qos}
use Rattle.machine.specs.declared.event.UserPrimitive.{UserPrimitive}
use Rattle.machine.specs.declared.event.UserPrimitive.TheVariants.{StartServiceRequest, StartServiceResponse, MessageServiceRequest, EndServiceRequest, EndServiceResponse, UserAbortServiceRequest}
use Rattle.machine.specs.declared.event.ServicePrimitive.{ServicePrimitive}
use Rattle.machine.specs.declared.event.ServicePrimitive.TheVariants.{DStartIndication, DStartConfirmation, DDataIndication, DEndIndication, DEndConfirmation, DAbortIndication, DPAbortIndication}
use Rattle.machine.specs.declared.event.Event.{Event}
use Rattle.machine.specs.declared.event.Event.TheVariants.{User, Forward, Service, TimerExpires, UnrecoverableSystemError}
use Rattle.rows.specs.declared.Parameters.{Parameters}
use Rattle.rows.specs.Names.{start_request, dsc_start_request, start_response_accepted, start_response_rejected, dsc_start_response_accepted, dsc_start_response_rejected, message_request, end_request, dsc_end_request, end_response_accepted, end_response_rejected, dsc_end_response_accepted, dsc_end_response_rejected, user_abort, forward_request, d_start, d_start_accepted, d_start_rejected, d_data, d_end, d_end_accepted, d_end_rejected, d_abort, d_pabort, expiry, system_error, plain, wrong_quality, turned_away, wrong_security, no_pdu, invalid_pdu, start, dsc_start, start_of_aircraft, send, unsupported_forward, equal_forward, other_forward, response, abort_of_user, abort_of_provider, other_pdu, no_message, repeat, timer_stopped}

-- ---- the title

abbrev pub user_title : UserPrimitive → ℕ
user_title (StartServiceRequest m k s) = cond (is_dsc m) dsc_start_request start_request
user_title (StartServiceResponse m x h) = cond m (cond (eqb x accepted) dsc_start_response_accepted dsc_start_response_rejected) (cond (eqb x accepted) start_response_accepted start_response_rejected)
user_title (MessageServiceRequest h j) = message_request
user_title (EndServiceRequest m h) = cond m dsc_end_request end_request
user_title (EndServiceResponse m x h) = cond m (cond (eqb x accepted) dsc_end_response_accepted dsc_end_response_rejected) (cond (eqb x accepted) end_response_accepted end_response_rejected)
user_title (UserAbortServiceRequest g x) = user_abort

abbrev pub service_title : ServicePrimitive → ℕ
service_title (DStartIndication x s q v) = d_start
service_title (DStartConfirmation x o s v) = cond (eqb x accepted) d_start_accepted d_start_rejected
service_title DDataIndication = d_data
service_title DEndIndication = d_end
service_title (DEndConfirmation x) = cond (eqb x accepted) d_end_accepted d_end_rejected
service_title (DAbortIndication o) = d_abort
service_title DPAbortIndication = d_pabort

abbrev pub title_of : Event → ℕ
title_of (User u) = user_title u
title_of (Forward k s) = forward_request
title_of (Service p a) = service_title p
title_of TimerExpires = expiry
title_of UnrecoverableSystemError = system_error

-- ---- the condition: quality of service, result or reject source, security, missing, invalid, then which PDU

-- a PDU that may be absent (may) counts, where it is, as the send that it stands for
abbrev pub pdu_first : Bool → UserData → ℕ → ℕ
pdu_first may a k = cond (is_missing a) (cond may send no_pdu) (cond (is_invalid a) invalid_pdu k)

abbrev pub user_condition : Record → UserPrimitive → ℕ
user_condition r (StartServiceRequest m k s) = plain
user_condition r (StartServiceResponse m x h) = plain
user_condition r (MessageServiceRequest h j) = cond (not h) no_message (cond (leb j r.highest) repeat plain)
user_condition r (EndServiceRequest m h) = plain
user_condition r (EndServiceResponse m x h) = plain
user_condition r (UserAbortServiceRequest g x) = plain

-- a forward message of a centre
abbrev pub forward_condition : Record → ℕ → UserData → ℕ
forward_condition r v a = cond (is_forward a) (cond (not r.forwards) unsupported_forward (cond (eqb v r.version) equal_forward other_forward)) other_pdu

-- a start: of a centre to the ground a forward; else a start, from the right peer or not
abbrev pub start_condition : Side → Record → ℕ → ℕ → UserData → ℕ
start_condition sd r x v a = cond (from_centre sd x) (forward_condition r v a) (cond (is_start_pdu a) (cond (mode_of a) dsc_start (cond (peer_fits sd x) start start_of_aircraft)) other_pdu)

-- live: accepted
abbrev pub answer_condition : Bool → Bool → UserData → ℕ
answer_condition may live a = pdu_first may a (cond (send_allowed may live a) send (cond (is_response a) response other_pdu))

abbrev pub abort_condition : ℕ → UserData → ℕ
abort_condition o a = cond (eqb o user) (cond (is_user_abort a) abort_of_user other_pdu) (cond (eqb o provider) (cond (is_provider_abort a) abort_of_provider other_pdu) other_pdu)

abbrev pub send_condition : Bool → UserData → ℕ
send_condition may a = pdu_first may a (cond (is_send a) send other_pdu)

abbrev pub indication_condition : Side → Record → ℕ → ℕ → Qos → ℕ → UserData → ℕ
indication_condition sd r x s q v a = cond (not (qos_fits q)) wrong_quality (cond (differs (secures r.edition) s r.policy) wrong_security (pdu_first false a (start_condition sd r x v a)))

-- in FORWARD the response is never left out
abbrev pub confirmation_condition : Record → ℕ → ℕ → ℕ → UserData → ℕ
confirmation_condition r x o s a =
    cond (turned x o) turned_away
    (cond (differs (secures r.edition) s r.request) wrong_security
    (cond (awaits_response r.control) (answer_condition false (eqb x accepted) a) (answer_condition (spares r.edition) (eqb x accepted) a)))

abbrev pub service_condition : Side → Record → ServicePrimitive → UserData → ℕ
service_condition sd r (DStartIndication x s q v) a = indication_condition sd r x s q v a
service_condition sd r (DStartConfirmation x o s v) a = confirmation_condition r x o s a
service_condition sd r DDataIndication a = send_condition false a
service_condition sd r DEndIndication a = send_condition (spares r.edition) a
service_condition sd r (DEndConfirmation x) a = send_condition (spares r.edition) a
service_condition sd r (DAbortIndication o) a = abort_condition o a
service_condition sd r DPAbortIndication a = plain

abbrev pub condition_of : Side → Record → Event → ℕ
condition_of sd r (User u) = user_condition r u
condition_of sd r (Forward k s) = plain
condition_of sd r (Service p a) = service_condition sd r p a
condition_of sd r TimerExpires = cond r.timer plain timer_stopped
condition_of sd r UnrecoverableSystemError = plain

-- ---- the parameters

abbrev pub parameters : ℕ → ℕ → ℕ → ℕ → ℕ → ℕ → UserData → Parameters
parameters k s x j y v a = record { class = k; security = s; result = x; job = j; reason = y; version = v; pdu = a }

-- the security value that a D-START carries
abbrev pub carried : Record → ℕ → ℕ
carried r s = security_sent (secures r.edition) s

-- with the PDU that goes out, where that is the user's message
abbrev pub user_parameters : Record → UserPrimitive → Parameters
user_parameters r (StartServiceRequest m k s) = parameters k (carried r s) 0 0 0 0 Absent
user_parameters r (StartServiceResponse m x h) = parameters 0 (carried r r.policy) x 0 0 0 (unless_spared (spares r.edition) h)
user_parameters r (MessageServiceRequest h j) = parameters 0 0 0 j 0 0 Send
user_parameters r (EndServiceRequest m h) = parameters 0 0 0 0 0 0 (unless_spared (spares r.edition) h)
user_parameters r (EndServiceResponse m x h) = parameters 0 0 x 0 0 0 (unless_spared (spares r.edition) h)
user_parameters r (UserAbortServiceRequest g x) = parameters 0 0 0 0 (cond g x undefined) 0 Absent

abbrev pub service_parameters : Record → ServicePrimitive → UserData → Parameters
service_parameters r (DStartIndication x s q v) a = parameters q.routing (carried r s) 0 0 0 v a
service_parameters r (DStartConfirmation x o s v) a = parameters 0 s x 0 0 v a
service_parameters r DDataIndication a = parameters 0 0 0 0 0 0 a
service_parameters r DEndIndication a = parameters 0 0 0 0 0 0 a
service_parameters r (DEndConfirmation x) a = parameters 0 0 x 0 0 0 a
service_parameters r (DAbortIndication o) a = parameters 0 0 0 0 0 0 a
service_parameters r DPAbortIndication a = parameters 0 0 0 0 0 0 a

abbrev pub parameters_of : Record → Event → Parameters
parameters_of r (User u) = user_parameters r u
parameters_of r (Forward k s) = parameters k (carried r s) 0 0 0 0 Absent
parameters_of r (Service p a) = service_parameters r p a
parameters_of r TimerExpires = parameters 0 0 0 0 0 0 Absent
parameters_of r UnrecoverableSystemError = parameters 0 0 0 0 0 0 Absent
