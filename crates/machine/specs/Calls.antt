-- User requests and responses: whether they are taken, and what a taken one does.
use Rattle.std.specs.Prelude.{ℕ, Bool, true, false, not, cond, ◌&&◌, eqb, leb, None, Option, Some}
use Rattle.machine.specs.Codes.{no_security, accepted, user, undefined, high_priority, low_error_rate}
use Rattle.editions.specs.Editions.{secures, spares}
use Rattle.control.specs.Control.{goes}
use Rattle.machine.specs.Event.{is_dsc}
use Rattle.machine.specs.Record.{with_timer, with_user, with_job, with_request, enter}
use Rattle.machine.specs.Outcome.{outcome}
use Rattle.control.specs.declared.Reply.{Reply}
use Rattle.control.specs.declared.Reply.TheVariants.{Accepted, Rejected}
use Rattle.control.specs.declared.Call.{Call}
use Rattle.control.specs.declared.Call.TheVariants.{StartRequest, StartResponse, MessageRequest, EndRequest, EndResponse, UserAbort}
use Rattle.machine.specs.declared.record.Record.{Record}
use Rattle.machine.specs.declared.event.UserData.{UserData}
use Rattle.machine.specs.declared.event.UserData.TheVariants.{Absent, Start, Send, AbortUser}
use Rattle.machine.specs.declared.event.Qos.{Qos}
use Rattle.machine.specs.declared.event.UserPrimitive.{UserPrimitive}
use Rattle.machine.specs.declared.event.UserPrimitive.TheVariants.{StartServiceRequest, StartServiceResponse, MessageServiceRequest, EndServiceRequest, EndServiceResponse, UserAbortServiceRequest}
use Rattle.machine.specs.declared.outcome.StepRefusal.{StepRefusal}
use Rattle.machine.specs.declared.outcome.StepRefusal.TheVariants.{NoMessage, Repeat}
use Rattle.machine.specs.declared.outcome.Invoked.{Invoked}
use Rattle.machine.specs.declared.outcome.Invoked.TheVariants.{DStartRequest, DStartResponse, DDataRequest, DEndRequest, DEndResponse, DAbortRequest}
use Rattle.machine.specs.declared.outcome.Outcome.{Outcome}

-- a Result: accepted, or rejected
unfoldable pub reply_of : ℕ → Reply
reply_of x = cond (eqb x accepted) Accepted Rejected

-- the control goes where the call leads; a primitive is invoked with an APDU
unfoldable pub sent : Record → Call → Option Invoked → UserData → Outcome
sent r k i a = outcome (enter r (goes r.control k)) i None a false

-- the Quality of Service of a D-START request with Class of Communication k (2.3.5.3.7 b, 3.5.3.9 b; 2.3.5.5.7 b)
abbrev pub qos_asked : ℕ → Qos
qos_asked k = record { priority = high_priority; rer = low_error_rate; routing = k }

-- the security value that a D-START carries: none where they are not compared
abbrev pub security_sent : Bool → ℕ → ℕ
security_sent compared s = cond compared s no_security

-- Start request, in the mode cpdlc: 2.3.5.3.7 (air), 2.3.5.5.7 (ground); in the mode dsc: 3.5.3.9 (air).
-- t-start is started and the user becomes active (2.3.5.3.1 Note 2 a, c; 3.5.5.1.6 a)
unfoldable pub start_request : Record → Bool → ℕ → ℕ → Outcome
start_request r m k s =
    sent (with_request (with_user (with_timer r true) true) (security_sent (secures r.edition) s)) (StartRequest m) (Some (DStartRequest (qos_asked k) (security_sent (secures r.edition) s))) (Start m)

-- the user data of a response or an end: a send; none where it may be left out and there is no message (h: there is one)
abbrev pub unless_spared : Bool → Bool → UserData
unless_spared may h = cond (may && not h) Absent Send

-- CPDLC-start response: 2.3.5.3.8 (air), 2.3.5.5.8 (ground); DSC-start response: 2.3.5.5.9 (ground).
-- The security value received in the indication is the one that local policy accepts
unfoldable pub start_response : Record → Bool → ℕ → Bool → Outcome
start_response r m x h = sent r (StartResponse m (reply_of x)) (Some (DStartResponse x (security_sent (secures r.edition) r.policy))) (unless_spared (spares r.edition) h)

-- CPDLC-message request: 3.5.3.10 (air), 2.3.5.5.10 (ground)
unfoldable pub message_request : Record → ℕ → Outcome
message_request r j = sent (with_job r j) MessageRequest (Some DDataRequest) Send

-- CPDLC-end request: 2.3.5.5.11 (ground); DSC-end request: 3.5.3.12 (air)
unfoldable pub end_request : Record → Bool → Bool → Outcome
end_request r m h = sent r (EndRequest m) (Some DEndRequest) (unless_spared (spares r.edition) h)

-- CPDLC-end response: 3.5.3.11 (air); DSC-end response: 2.3.5.5.12 (ground)
unfoldable pub end_response : Record → Bool → ℕ → Bool → Outcome
end_response r m x h = sent r (EndResponse m (reply_of x)) (Some (DEndResponse x)) (unless_spared (spares r.edition) h)

-- no reason given means undefined
abbrev pub reason_sent : Bool → ℕ → ℕ
reason_sent given x = cond given x undefined

-- CPDLC-user-abort request: 3.5.3.13 (air), 2.3.5.5.14 (ground)
unfoldable pub user_abort : Record → Bool → ℕ → Outcome
user_abort r given x = sent r UserAbort (Some (DAbortRequest user)) (AbortUser (reason_sent given x))

-- ---- all of them

-- what it is to the control
unfoldable pub call_of : UserPrimitive → Call
call_of (StartServiceRequest m k s) = StartRequest (is_dsc m)
call_of (StartServiceResponse m x h) = StartResponse m (reply_of x)
call_of (MessageServiceRequest h j) = MessageRequest
call_of (EndServiceRequest m h) = EndRequest m
call_of (EndServiceResponse m x h) = EndResponse m (reply_of x)
call_of (UserAbortServiceRequest g x) = UserAbort

-- document 01, NO-MESSAGE and REPEAT: a message request without a CPDLC message, then one whose job is not above the highest taken
unfoldable pub unsent : ℕ → UserPrimitive → Option StepRefusal
unsent highest (StartServiceRequest m k s) = None
unsent highest (StartServiceResponse m x h) = None
unsent highest (MessageServiceRequest h j) = cond (not h) (Some NoMessage) (cond (leb j highest) (Some Repeat) None)
unsent highest (EndServiceRequest m h) = None
unsent highest (EndServiceResponse m x h) = None
unsent highest (UserAbortServiceRequest g x) = None

unfoldable pub called : Record → UserPrimitive → Outcome
called r (StartServiceRequest m k s) = start_request r (is_dsc m) k s
called r (StartServiceResponse m x h) = start_response r m x h
called r (MessageServiceRequest h j) = message_request r j
called r (EndServiceRequest m h) = end_request r m h
called r (EndServiceResponse m x h) = end_response r m x h
called r (UserAbortServiceRequest g x) = user_abort r g x
