-- Which events have codes of their types; SHAPE otherwise (document 01, refusal 2).
use Rattle.std.specs.Prelude.{ℕ, Bool, true, false, not, ◌&&◌, ltb, eqb}
use Rattle.machine.specs.Codes.{dsc_mode, modes, security_values, results, start_results, reject_sources, originators, peers, high_priority, low_error_rate, routing_classes, versions, accepted}
use Rattle.editions.specs.Editions.{spares, user_reasons}
use Rattle.editions.specs.declared.Edition.{Edition}
use Rattle.machine.specs.UserData.{user_data_fits}
use Rattle.control.specs.Control.{may_start}
use Rattle.control.specs.declared.Side.{Side}
use Rattle.machine.specs.declared.event.Qos.{Qos}
use Rattle.machine.specs.declared.event.UserPrimitive.{UserPrimitive}
use Rattle.machine.specs.declared.event.UserPrimitive.TheVariants.{StartServiceRequest, StartServiceResponse, MessageServiceRequest, EndServiceRequest, EndServiceResponse, UserAbortServiceRequest}
use Rattle.machine.specs.declared.event.ServicePrimitive.{ServicePrimitive}
use Rattle.machine.specs.declared.event.ServicePrimitive.TheVariants.{DStartIndication, DStartConfirmation, DDataIndication, DEndIndication, DEndConfirmation, DAbortIndication, DPAbortIndication}
use Rattle.machine.specs.declared.event.Event.{Event}
use Rattle.machine.specs.declared.event.Event.TheVariants.{User, Forward, Service, TimerExpires, UnrecoverableSystemError}

-- Doc 9880 3.5.4.6 (air), Doc 9705 2.3.5.6.6 (ground); the values: Doc 9705 2.3.6.2.2
unfoldable pub qos_fits : Qos → Bool
qos_fits q = eqb q.priority high_priority && (eqb q.rer low_error_rate && ltb q.routing routing_classes)

-- document 02, E7: a start request is in the mode cpdlc or dsc; "the ground machine has no downstream mode"
abbrev pub is_dsc : ℕ → Bool
is_dsc m = eqb m dsc_mode

unfoldable pub has_mode : Side → ℕ → Bool
has_mode sd m = ltb m modes && may_start sd (is_dsc m)

-- the result of a start response (h: there is a message); where user data may be left out, a start that is accepted has no message (004, S-4.4, S-5.4: "the
-- reason for .. rejection")
abbrev pub answer_fits : Bool → ℕ → Bool → Bool
answer_fits may x h = not (may && (eqb x accepted && h)) && ltb x results

-- document 01, SHAPE: "an argument breaks the sizes above, its type or its codes"; a job is 1 or more ("Sizes")
unfoldable pub user_fits : Side → Edition → UserPrimitive → Bool
user_fits sd ed (StartServiceRequest m k s) = has_mode sd m && (ltb k routing_classes && ltb s security_values)
user_fits sd ed (StartServiceResponse m x h) = answer_fits (spares ed) x h
user_fits sd ed (MessageServiceRequest h j) = ltb 0 j
user_fits sd ed (EndServiceRequest m h) = true
user_fits sd ed (EndServiceResponse m x h) = ltb x results
user_fits sd ed (UserAbortServiceRequest g x) = ltb x (user_reasons ed)

-- a received Quality of Service is not looked at ("received QOS values excepted")
unfoldable pub service_fits : ServicePrimitive → Bool
service_fits (DStartIndication x s q v) = ltb x peers && (ltb s security_values && ltb v versions)
service_fits (DStartConfirmation x o s v) = ltb x start_results && (ltb o reject_sources && (ltb s security_values && ltb v versions))
service_fits DDataIndication = true
service_fits DEndIndication = true
service_fits (DEndConfirmation x) = ltb x results
service_fits (DAbortIndication o) = ltb o originators
service_fits DPAbortIndication = true

unfoldable pub event_fits : Side → Edition → Event → Bool
event_fits sd ed (User u) = user_fits sd ed u
event_fits sd ed (Forward k s) = ltb k routing_classes && ltb s security_values
event_fits sd ed (Service p a) = service_fits p && user_data_fits ed a
event_fits sd ed TimerExpires = true
event_fits sd ed UnrecoverableSystemError = true
