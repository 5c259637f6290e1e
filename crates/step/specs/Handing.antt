-- What the code hands on between the parts of a call. No promise rests on it: were it wrong, a proof would fail.
use Rattle.std.specs.Prelude.{ℕ, ◌+◌, ◌-◌, Bool, true, false, cond, List, [], ◌++◌, eqb, ltb, length, take, drop, ok_or, Err, None, Ok, Option, Result, Some}
use Rattle.bits.specs.Bits.{bits_n}
use Rattle.apdu.specs.Writing.{Done, write_out}
use Rattle.pdus.specs.declared.PduType.{PduType}
use Rattle.pdus.specs.declared.PduType.TheVariants as pdus
use Rattle.apdu.specs.declared.Data.{Data}
use Rattle.editions.specs.declared.Edition.{Edition}
use Rattle.editions.specs.declared.Edition.TheVariants.{Plain, Protected}
use Rattle.apdu.specs.declared.Apdu.{Apdu}
use Rattle.apdu.specs.declared.Apdu.TheVariants as is
use Rattle.machine.specs.Outcome.{refusal_number, is_none}
use Rattle.machine.specs.UserData.{is_invalid}
use Rattle.control.specs.declared.Side.{Side}
use Rattle.control.specs.declared.Control.{Control}
use Rattle.machine.specs.declared.event.UserData.{UserData}
use Rattle.machine.specs.declared.event.UserData.TheVariants.{Absent, NotValid, Start, Send, AbortUser, AbortProvider, Forward, ForwardResponse}
use Rattle.machine.specs.declared.event.ServicePrimitive.{ServicePrimitive}
use Rattle.machine.specs.declared.event.Event.{Event}
use Rattle.machine.specs.declared.event.Event.TheVariants.{TimerExpires, UnrecoverableSystemError}
use Rattle.machine.specs.declared.outcome.Outcome.{Outcome}
use Rattle.step.specs.Call.{Called, called, carries_data, no_data, nothing_to, first_takes, passes, finished, reads_as, read_pdu}
use Rattle.step.specs.declared.arrived.Arrival.{Arrival}
use Rattle.step.specs.declared.answers.CallRefusal.{CallRefusal}
use Rattle.step.specs.declared.answers.CallRefusal.TheVariants as refused
use Rattle.step.specs.declared.call.HostEvent.{HostEvent}
use Rattle.step.specs.declared.call.HostEvent.TheVariants as host
use Rattle.stored.specs.declared.Stored.{Stored}
use Rattle.stored.specs.Stored.{load_at}
use Rattle.machine.specs.declared.outcome.StepRefusal.TheVariants.{Shape}
use Rattle.apdu.specs.Sizes.{buffer_least}
use Rattle.fields.specs.declared.Refusal.{Refusal}
use Rattle.pdus.specs.declared.Span.{Span}

-- ---- what came with a primitive: what it is to the machine, and the bits of it that a user may be handed

abbrev pub came : UserData → ℕ → ℕ → Arrival
came m from n = record { pdu = m; from = from; count = n }

-- where the message data of a send, and of a start with its mode, begin: with their extension bit
abbrev pub send_at : PduType → ℕ
send_at pdus.AircraftPdus = 3
send_at pdus.GroundPdus = 4

abbrev pub start_at : PduType → ℕ → ℕ
start_at pdus.AircraftPdus m = cond (eqb m 0) 4 5
start_at pdus.GroundPdus m = 4

-- message data whose extension bit stands at p: the root behind it
abbrev pub root_of : UserData → ℕ → Data → Arrival
root_of m p d = came m (p + 1) (d.check.at + d.check.count - (p + 1))

-- a message in place, or none
abbrev pub message_of : UserData → Option Span → Arrival
message_of m None = came m 0 0
message_of m (Some x) = came m x.at x.count

-- message data, whose extension bit, where they have one, stands at p
abbrev pub body_of : Edition → UserData → ℕ → Data → Arrival
body_of Protected m p d = root_of m p d
body_of Plain m p d = message_of m d.message

unfoldable pub arrival_of : Edition → PduType → Result Apdu Refusal → Arrival
arrival_of ed t (Err r) = came NotValid 0 0
arrival_of ed t (Ok (is.AbortUser r)) = came (AbortUser r) 0 0
arrival_of ed t (Ok (is.AbortProvider r)) = came (AbortProvider r) 0 0
arrival_of ed t (Ok (is.Start m d)) = body_of ed (Start (eqb m 1)) (start_at t m) d
arrival_of ed t (Ok (is.Send d)) = body_of ed Send (send_at t) d
arrival_of ed t (Ok (is.Forward f)) = came Forward 4 (f.message.at + f.message.count - 4)
arrival_of ed t (Ok (is.ForwardResponse x)) = came (ForwardResponse x) 0 0

-- of a second reading only an abort by a provider counts
unfoldable pub abort_in : Arrival → Apdu → Arrival
abort_in x (is.AbortUser r) = x
abort_in x (is.AbortProvider r) = came (AbortProvider r) 0 0
abort_in x (is.Start m d) = x
abort_in x (is.Send d) = x
abort_in x (is.Forward f) = x
abort_in x (is.ForwardResponse y) = x

unfoldable pub again : Arrival → Result Apdu Refusal → Arrival
again x (Ok a) = abort_in x a
again x (Err r) = x

unfoldable pub or_again : Arrival → Result Apdu Refusal → Arrival
or_again x y = cond (is_invalid x.pdu) (again x y) x

-- given: 0 no user data, 1 user data
unfoldable pub arrived : Edition → Side → Control → ServicePrimitive → ℕ → List ℕ → Arrival
arrived ed sd c p given l = cond (eqb given 1) (arrival_of ed (reads_as sd c p) (read_pdu ed sd c p l)) (came Absent 0 0)

-- ---- what is written

-- a run of the bits l behind n bits 0
abbrev pub led_run : List ℕ → ℕ → ℕ → ℕ → List ℕ
led_run l n from count = bits_n n 0 ++ take count (drop from l)

-- the extension bit of message data
abbrev pub lead_of : Edition → ℕ
lead_of Protected = 1
lead_of Plain = 0

-- what the second buffer takes of what came: a forward message as it is, message data behind their extension bit, which is 0
unfoldable pub delivered_of : Edition → List ℕ → Arrival → Outcome → List ℕ → Done
delivered_of ed l x o s =
    cond (passes o.told) (write_out true s (led_run l 0 x.from x.count))
    (cond o.delivers (write_out true s (led_run l (lead_of ed) x.from x.count)) (nothing_to s))

-- the APDU of a user primitive
abbrev pub is_given : UserData → Bool
is_given Absent = true
is_given NotValid = false
is_given (Start m) = true
is_given Send = true
is_given (AbortUser x) = true
is_given (AbortProvider x) = false
is_given Forward = false
is_given (ForwardResponse x) = false

-- what answers a primitive of the dialogue service, an expiry or a system error: an abort, a forward's response, or nothing
abbrev pub is_reply : UserData → Bool
is_reply Absent = true
is_reply NotValid = false
is_reply (Start m) = false
is_reply Send = false
is_reply (AbortUser x) = false
is_reply (AbortProvider x) = true
is_reply Forward = false
is_reply (ForwardResponse x) = true

abbrev pub reply_takes : Edition → Side → UserData → List ℕ → Done
reply_takes ed sd a s = first_takes ed sd [] [] [] (carries_data no_data) a s

-- ---- the end of a call

-- the answer and the record's bytes
pub record Settled : Type 0 where
  pub number : ℕ
  pub bytes : List ℕ

abbrev pub settled : ℕ → List ℕ → Settled
settled n r = record { number = n; bytes = r }

-- the outcome of a step about what came
unfoldable pub concluded_of : List ℕ → List ℕ → List ℕ → Edition → Side → ℕ → Outcome → Arrival → List ℕ → Called
concluded_of r a b ed sd n o x l =
    cond (is_none o.refusal) (finished r a b sd n o (reply_takes ed sd o.apdu a) (delivered_of ed l x o b)) (called (refusal_number o.refusal) r a b)

-- an expiry, or a system error
abbrev pub host_event : HostEvent → Event
host_event host.TimerExpires = TimerExpires
host_event host.SystemError = UnrecoverableSystemError

-- ---- in front of each call: ROOM, then bytes that are no record
unfoldable pub opened : List ℕ → List ℕ → List ℕ → Result Stored CallRefusal
opened r a b =
    cond (ltb (length a) buffer_least) (Err refused.Room)
    (cond (ltb (length b) buffer_least) (Err refused.Room) (ok_or (load_at r) (refused.Step Shape)))
