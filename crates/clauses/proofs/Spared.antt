-- What the machine asks that an edition may answer in two ways: is security compared, may user data be left out. Here each question
-- with each answer; the step asks the edition of its record (`secures`, `spares` of crate editions).
-- Assumes nothing.
use Prim.Native.Nat.{ℕ}
use mathlib.Core.Path.{◌≡◌, refl}
use mathlib.Core.Bool.{Bool, true, false, not}
use lib.Dec.{ltb, eqb}
use Rattle.machine.specs.Codes.{no_security, accepted, results}
use Rattle.machine.specs.UserData.{is_send}
use Rattle.machine.specs.Event.{answer_fits}
use Rattle.machine.specs.Calls.{security_sent, unless_spared}
use Rattle.machine.specs.Faults.{pdu_fault, differs, send_allowed}
use Rattle.machine.specs.declared.event.UserData.{UserData}
use Rattle.machine.specs.declared.event.UserData.TheVariants.{Absent, NotValid, Send}
use Rattle.machine.specs.declared.faults.Fault.{Fault}
use Rattle.machine.specs.declared.faults.Fault.TheVariants.{Missing, Invalid}
use Rattle.std.specs.Prelude.{Option, Some}

-- ---- user data that may be left out

-- then a PDU that is not there is no fault, and what is behind decides; else it is missing
pub may_be_absent : (fits i u : Bool) (f : Option Fault) → pdu_fault true fits i u Absent f ≡ f
unfolding pdu_fault
may_be_absent fits i u f = refl

pub must_be_there : (fits i u : Bool) (f : Option Fault) → pdu_fault false fits i u Absent f ≡ Some Missing
unfolding pdu_fault
must_be_there fits i u f = refl

-- one that is there is judged the same
pub there_the_same : (may i u : Bool) (f : Option Fault) → pdu_fault may true i u Send f ≡ f
unfolding pdu_fault
there_the_same may i u f = refl

pub invalid_the_same : (may fits i u : Bool) (f : Option Fault) → pdu_fault may fits i u NotValid f ≡ Some (Invalid i)
unfolding pdu_fault
invalid_the_same may fits i u f = refl

-- a response or an end: a message is always sent, and no user data only where both allow it
pub message_sent : (may : Bool) → unless_spared may true ≡ Send
message_sent true = refl
message_sent false = refl

pub none_sent : unless_spared true false ≡ Absent
none_sent = refl

pub always_sent : (h : Bool) → unless_spared false h ≡ Send
always_sent h = refl

-- a start that is accepted: no message is given with it, and none may come
pub accepted_without : (h : Bool) → answer_fits true accepted h ≡ not h
accepted_without true = refl
accepted_without false = refl

pub rejected_either : (may h : Bool) → answer_fits may 1 h ≡ true
rejected_either true h = refl
rejected_either false h = refl

pub results_alone : (x : ℕ) (h : Bool) → answer_fits false x h ≡ ltb x results
results_alone x h = refl

pub none_allowed : (a : UserData) → send_allowed true true a ≡ false
none_allowed a = refl

pub allowed_rejected : (may : Bool) (a : UserData) → send_allowed may false a ≡ is_send a
allowed_rejected true a = refl
allowed_rejected false a = refl

pub allowed_accepted : (a : UserData) → send_allowed false true a ≡ is_send a
allowed_accepted a = refl

-- ---- security values that are not compared: none differs, and none is sent

pub never_differs : (s v : ℕ) → differs false s v ≡ false
never_differs s v = refl

pub compared_differs : (s v : ℕ) → differs true s v ≡ not (eqb s v)
compared_differs s v = refl

pub none_carried : (s : ℕ) → security_sent false s ≡ no_security
none_carried s = refl

pub as_asked : (s : ℕ) → security_sent true s ≡ s
as_asked s = refl
