-- The first fault of a dialogue-service primitive, once for each: document 01's orders of several faults in one.
-- A flag beside a fault says whether the dialogue is open still, so that a D-ABORT is sent.
use Rattle.std.specs.Prelude.{ℕ, Bool, true, false, not, cond, ◌&&◌, ◌||◌, eqb, None, Option, Some}
use Rattle.machine.specs.Codes.{accepted, transient, ds_provider, facility, aircraft}
use Rattle.editions.specs.Editions.{secures, spares}
use Rattle.control.specs.Control.{is_idle, awaits_response, expects}
use Rattle.machine.specs.UserData.{mode_of, is_missing, is_invalid, is_start_pdu, is_send, is_forward, is_response, abort_fits}
use Rattle.machine.specs.Event.{qos_fits}
use Rattle.machine.specs.Calls.{reply_of}
use Rattle.control.specs.declared.Side.{Side}
use Rattle.control.specs.declared.Side.TheVariants.{Air, Ground}
use Rattle.control.specs.declared.Primitive.{Primitive}
use Rattle.control.specs.declared.Primitive.TheVariants.{DStart, DStartCnf, DData, DEnd, DEndCnf, DAbort, DPAbort}
use Rattle.machine.specs.declared.record.Record.{Record}
use Rattle.machine.specs.declared.event.UserData.{UserData}
use Rattle.machine.specs.declared.event.Qos.{Qos}
use Rattle.machine.specs.declared.event.ServicePrimitive.{ServicePrimitive}
use Rattle.machine.specs.declared.event.ServicePrimitive.TheVariants.{DStartIndication, DStartConfirmation, DDataIndication, DEndIndication, DEndConfirmation, DAbortIndication, DPAbortIndication}
use Rattle.machine.specs.declared.faults.Fault.{Fault}
use Rattle.machine.specs.declared.faults.Fault.TheVariants.{NoInstruction, Quality, TurnedAway, Security, Missing, Invalid, NotPermitted}

-- ---- the parts

-- "missing PDU, invalid PDU, PDU not permitted", then what is behind them. fits: is the PDU one for which action is described;
-- i, u: is the dialogue open for a PDU that is not valid, for one that is not permitted; may: may there be none
unfoldable pub pdu_fault : Bool → Bool → Bool → Bool → UserData → Option Fault → Option Fault
pdu_fault may fits i u a behind = cond (is_missing a) (cond may behind (Some Missing)) (cond (is_invalid a) (Some (Invalid i)) (cond (not fits) (Some (NotPermitted u)) behind))

-- "In every other primitive: unexpected state, missing, invalid, not permitted"; the PDU is to be a send
unfoldable pub send_fault : Side → Record → Primitive → Bool → Bool → UserData → Option Fault
send_fault sd r p may live a = cond (not (expects sd r.control p)) (Some (NoInstruction true)) (pdu_fault may (is_send a) live live a None)

-- a security value that is not the one it is compared with, where they are compared
abbrev pub differs : Bool → ℕ → ℕ → Bool
differs compared s v = compared && not (eqb s v)

-- "a D-ABORT indication without a fitting APDU has no instruction"; no dialogue exists after a D-ABORT or a D-P-ABORT indication
unfoldable pub abort_fault : Side → Record → Primitive → Bool → Option Fault
abort_fault sd r p fits = cond (not (expects sd r.control p)) (Some (NoInstruction false)) (cond (not fits) (Some (NoInstruction false)) None)

-- the Calling Peer ID that a start is to have: a facility designation at the air (2.3.5.3.2.1); at the ground an aircraft address
-- (2.3.5.5.2.1, 2.3.5.5.2.2), or a facility designation for a forward (2.3.5.5.2.3)
abbrev pub peer_fits : Side → ℕ → Bool
peer_fits Air x = eqb x facility
peer_fits Ground x = true

-- what a facility sends to the ground machine is a forward (2.3.5.5.2.3, 2.3.5.5.2.4)
abbrev pub from_centre : Side → ℕ → Bool
from_centre Air x = false
from_centre Ground x = eqb x facility

-- a PDU for which action is described (3.5.4.4.1): a start of a mode that the other side may start; of a centre, a forward message
unfoldable pub start_fits_of : Side → Record → ℕ → UserData → Bool
start_fits_of sd r x a = cond (from_centre sd x) (is_forward a) (is_start_pdu a && expects sd r.control (DStart (mode_of a)))

-- 3.5.4.5, 2.3.5.6.5: Result "rejected (transient)" or Reject Source "DS provider"
abbrev pub turned_away : ℕ → ℕ → Bool
turned_away x s = eqb x transient || eqb s ds_provider

-- ---- the two with orders of their own

-- "unexpected state, quality of service, security, missing PDU, invalid PDU, PDU not permitted"; last the calling peer, for which a wrong
-- kind has no instruction
unfoldable pub indication_fault : Side → Record → ℕ → ℕ → Qos → UserData → Option Fault
indication_fault sd r x s q a =
    cond (not (is_idle r.control)) (Some (NoInstruction true))
    (cond (not (qos_fits q)) (Some Quality)
    (cond (differs (secures r.edition) s r.policy) (Some (Security true))
    (pdu_fault false (start_fits_of sd r x a) true true a (cond (peer_fits sd x) None (Some (NoInstruction true))))))

-- In FORWARD the confirmation is "rejected (permanent)" with a forward response (2.3.5.5.3.3); with "accepted" no PDU is permitted
unfoldable pub response_fault : Record → ℕ → ℕ → ℕ → UserData → Option Fault
response_fault r x o s a =
    cond (turned_away x o) (Some TurnedAway)
    (cond (differs (secures r.edition) s r.request) (Some (Security (eqb x accepted)))
    (cond (eqb x accepted) (pdu_fault false false true true a None) (pdu_fault false (is_response a) false true a None)))

-- the PDU of a confirmation is a send; where user data may be left out, a start that is accepted has none (004, S-4.4, S-5.4)
abbrev pub send_allowed : Bool → Bool → UserData → Bool
send_allowed may live a = not (may && live) && is_send a

-- "unexpected state, result or reject source, security, missing, invalid, not permitted". After a rejection the dialogue is not open for a
-- security fault, and for a PDU that is not valid the peer is gone (3.5.4.3.2, 2.3.5.6.3.2)
unfoldable pub confirmation_fault : Side → Record → ℕ → ℕ → ℕ → UserData → Option Fault
confirmation_fault sd r x o s a =
    cond (not (expects sd r.control (DStartCnf (reply_of x)))) (cond (awaits_response r.control) (response_fault r x o s a) (Some (NoInstruction true)))
    (cond (turned_away x o) (Some TurnedAway)
    (cond (differs (secures r.edition) s r.request) (Some (Security (eqb x accepted)))
    (pdu_fault (spares r.edition) (send_allowed (spares r.edition) (eqb x accepted) a) (eqb x accepted) true a None)))

-- ---- all of them; after a D-END confirmation "accepted" the peer is gone (3.5.4.3.2, 3.5.4.4.2, 2.3.5.6.3.2, 2.3.5.6.4.3)

unfoldable pub first_fault : Side → Record → ServicePrimitive → UserData → Option Fault
first_fault sd r (DStartIndication x s q v) a = indication_fault sd r x s q a
first_fault sd r (DStartConfirmation x o s v) a = confirmation_fault sd r x o s a
first_fault sd r DDataIndication a = send_fault sd r DData false true a
first_fault sd r DEndIndication a = send_fault sd r DEnd (spares r.edition) true a
first_fault sd r (DEndConfirmation x) a = send_fault sd r (DEndCnf (reply_of x)) (spares r.edition) (not (eqb x accepted)) a
first_fault sd r (DAbortIndication o) a = abort_fault sd r DAbort (abort_fits o a)
first_fault sd r DPAbortIndication a = abort_fault sd r DPAbort true
