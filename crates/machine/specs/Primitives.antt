-- Dialogue-service primitives: the instruction of each, and what is done about its first fault.
use Rattle.std.specs.Prelude.{ℕ, Bool, true, false, cond, None, Option, Some}
use Rattle.machine.specs.Codes.{invalid_pdu, protocol_error, communication_service_error, communication_service_failure, invalid_qos_parameter, expected_pdu_missing, not_permitted_pdu}
use Rattle.control.specs.Control.{after}
use Rattle.machine.specs.Record.{with_timer, with_user, enter}
use Rattle.machine.specs.UserData.{mode_of, reason_of, is_user_abort, is_forward, is_response}
use Rattle.machine.specs.Outcome.{outcome}
use Rattle.machine.specs.Exceptions.{tell, closes, aborts, excepts, no_instruction}
use Rattle.machine.specs.Calls.{reply_of}
use Rattle.machine.specs.Forwards.{forward_arrives, forward_confirmed}
use Rattle.machine.specs.Faults.{first_fault}
use Rattle.control.specs.declared.Side.{Side}
use Rattle.control.specs.declared.Primitive.{Primitive}
use Rattle.control.specs.declared.Primitive.TheVariants.{DStart, DStartCnf, DData, DEnd, DEndCnf}
use Rattle.machine.specs.declared.record.Record.{Record}
use Rattle.machine.specs.declared.event.UserData.{UserData}
use Rattle.machine.specs.declared.event.UserData.TheVariants.{Absent}
use Rattle.machine.specs.declared.event.ServicePrimitive.{ServicePrimitive}
use Rattle.machine.specs.declared.event.ServicePrimitive.TheVariants.{DStartIndication, DStartConfirmation, DDataIndication, DEndIndication, DEndConfirmation, DAbortIndication, DPAbortIndication}
use Rattle.machine.specs.declared.faults.Fault.{Fault}
use Rattle.machine.specs.declared.faults.Fault.TheVariants.{NoInstruction, Quality, TurnedAway, Security, Missing, Invalid, NotPermitted}
use Rattle.machine.specs.declared.outcome.Told.{Told}
use Rattle.machine.specs.declared.outcome.Told.TheVariants.{StartIndication, StartConfirmation, MessageIndication, EndIndication, EndConfirmation, UserAbortIndication, ProviderAbortIndication}
use Rattle.machine.specs.declared.outcome.Outcome.{Outcome}

-- ---- without a fault

-- the control goes where the primitive leads; the user is told, with the message data
unfoldable pub handed : Record → Primitive → Option Told → Outcome
handed r p t = outcome (enter r (after r.control p)) None t Absent true

-- the indication with the reason of the APDU
abbrev pub abort_told : UserData → Option Told
abort_told a = cond (is_user_abort a) (Some (UserAbortIndication (reason_of a))) (Some (ProviderAbortIndication (reason_of a)))

-- D-START indication: 2.3.5.3.2 (air), 2.3.5.5.2 (ground); the user becomes active (2.3.5.3.1 Note 2 b, 3.5.5.1.6 b, c), unless it is a
-- forward D-START confirmation: 2.3.5.3.3, 2.3.5.5.3; t-start is stopped
-- D-DATA indication: 2.3.5.3.4, 2.3.5.5.4   D-END indication: 2.3.5.3.5, 2.3.5.5.5   D-END confirmation: 2.3.5.3.6, 2.3.5.5.6
-- D-ABORT indication: 3.5.3.14, 2.3.5.5.15   D-P-ABORT indication: 3.5.3.15, 2.3.5.5.16
unfoldable pub instructed : Record → ServicePrimitive → UserData → Outcome
instructed r (DStartIndication x s q v) a =
    cond (is_forward a) (forward_arrives r s v) (handed (with_user r true) (DStart (mode_of a)) (Some (StartIndication (mode_of a) q.routing)))
instructed r (DStartConfirmation x o s v) a =
    cond (is_response a) (forward_confirmed r (reason_of a) v) (handed (with_timer r false) (DStartCnf (reply_of x)) (Some (StartConfirmation r.control.dsc x)))
instructed r DDataIndication a = handed r DData (Some MessageIndication)
instructed r DEndIndication a = handed r DEnd (Some (EndIndication r.control.dsc))
instructed r (DEndConfirmation x) a = handed r (DEndCnf (reply_of x)) (Some (EndConfirmation r.control.dsc x))
instructed r (DAbortIndication o) a = closes r (tell r (abort_told a))
instructed r DPAbortIndication a = closes r (tell r (Some (ProviderAbortIndication communication_service_failure)))

-- ---- with a fault

-- no instruction: 3.5.4.4.3, 2.3.5.6.4.4; quality of service: 3.5.4.6, 2.3.5.6.6, told to nobody; result or reject source: 3.5.4.5,
-- 2.3.5.6.5;
-- security: 3.5.4.8, 2.3.5.6.8; missing: 3.5.4.7, 2.3.5.6.7; not valid: 3.5.4.3, 2.3.5.6.3; not permitted: 3.5.4.4.1, 3.5.4.4.2,
-- 2.3.5.6.4.1, 2.3.5.6.4.3
unfoldable pub answered : Record → ServicePrimitive → UserData → Option Fault → Outcome
answered r p a None = instructed r p a
answered r p a (Some (NoInstruction live)) = no_instruction r live
answered r p a (Some Quality) = aborts r invalid_qos_parameter None
answered r p a (Some TurnedAway) = closes r (tell r (Some (ProviderAbortIndication communication_service_error)))
answered r p a (Some (Security live)) = excepts r live communication_service_failure communication_service_failure
answered r p a (Some Missing) = excepts r true expected_pdu_missing not_permitted_pdu
answered r p a (Some (Invalid live)) = excepts r live invalid_pdu invalid_pdu
answered r p a (Some (NotPermitted live)) = excepts r live protocol_error protocol_error

unfoldable pub reached : Side → Record → ServicePrimitive → UserData → Outcome
reached sd r p a = answered r p a (first_fault sd r p a)
