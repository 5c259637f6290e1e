-- The step on bytes: what a call answers and leaves, from the record's bytes, what the host gives, and the two lent output buffers.
-- Read the record, read the APDU, take the machine's step, write the APDU and the message data, keep the record.
use Rattle.std.specs.Prelude.{ℕ, ◌+◌, ◌*◌, Bool, true, false, not, cond, ◌&&◌, ◌||◌, List, [], ltb, leb, eqb, length, Err, None, Ok, Result, Option, Some}
use Rattle.words.specs.Limits.{room, shape}
use Rattle.apdu.specs.Sizes.{buffer_least, bit}
use Rattle.apdu.specs.Headings.{triple}
use Rattle.apdu.specs.Pdus.{lent, items_in, content_in, pdu_in}
use Rattle.apdu.specs.Writing.{Done, done, write_out, data_fits, forward_fits}
use Rattle.codec.specs.Codec.{content_bits, forward_bits, pdu_bits, given_fits, forward_given_fits, apdu_fits, apdu_at}
use Rattle.editions.specs.declared.Edition.{Edition}
use Rattle.pdus.specs.declared.PduType.TheVariants as pdu
use Rattle.pdus.specs.declared.PduType.{PduType}
use Rattle.pdus.specs.declared.Span.{Span}
use Rattle.apdu.specs.declared.Data.{Data}
use Rattle.apdu.specs.declared.Forward.{Forward as Forwarded}
use Rattle.apdu.specs.declared.Apdu.{Apdu}
use Rattle.apdu.specs.declared.Apdu.TheVariants as is
use Rattle.machine.specs.Codes.{aircraft, facility, provider}
use Rattle.machine.specs.Outcome.{refusal_number, is_none}
use Rattle.control.specs.declared.Side.{Side}
use Rattle.control.specs.declared.Side.TheVariants.{Air, Ground}
use Rattle.machine.specs.declared.record.Record.{Record}
use Rattle.machine.specs.declared.event.UserData.{UserData}
use Rattle.machine.specs.declared.event.UserData.TheVariants.{Absent, NotValid, Start, Send, AbortUser, AbortProvider, Forward, ForwardResponse}
use Rattle.machine.specs.declared.event.ServicePrimitive.{ServicePrimitive}
use Rattle.machine.specs.declared.event.ServicePrimitive.TheVariants.{DStartIndication, DStartConfirmation, DDataIndication, DEndIndication, DEndConfirmation, DAbortIndication, DPAbortIndication}
use Rattle.machine.specs.declared.event.Event.{Event}
use Rattle.machine.specs.declared.event.Event.TheVariants.{Service}
use Rattle.machine.specs.declared.event.Event.TheVariants.{Forward as ForwardRequested}
use Rattle.machine.specs.declared.outcome.Told.{Told}
use Rattle.machine.specs.declared.outcome.Told.TheVariants.{StartIndication, StartConfirmation, MessageIndication, EndIndication, EndConfirmation, UserAbortIndication, ProviderAbortIndication, ForwardIndication, ForwardConfirmation}
use Rattle.control.specs.Control.{awaits_response}
use Rattle.control.specs.declared.Control.{Control}
use Rattle.machine.specs.declared.outcome.Outcome.{Outcome}
use Rattle.numbered.specs.Numbers.{held_after, numbered_step}
use Rattle.stored.specs.Stored.{flag, load_at, store_at, Kept}
use Rattle.packed.specs.Packed.{packed, invoked_number, told_number, version_number}
use Rattle.fields.specs.declared.Refusal.{Refusal}
use Rattle.words.specs.declared.Unwritten.{Unwritten}
use Rattle.words.specs.declared.Unwritten.TheVariants.{Room}
use Rattle.words.specs.declared.Unwritten.TheVariants.{Shape}
use Rattle.stored.specs.declared.Stored.{Stored}
use Rattle.step.specs.declared.answers.CallRefusal.{CallRefusal}
use Rattle.step.specs.declared.answers.CallRefusal.TheVariants as is_refused

-- what a call leaves: the number that it answers, the record's bytes and the two buffers
pub record Called : Type 0 where
  pub number : ℕ
  pub kept : List ℕ
  pub first : List ℕ
  pub second : List ℕ

abbrev pub called : ℕ → List ℕ → List ℕ → List ℕ → Called
called n r a b = record { number = n; kept = r; first = a; second = b }

-- the number of what a call is refused for, and of what it answers
abbrev pub call_refusal : CallRefusal → ℕ
call_refusal is_refused.Room = room
call_refusal (is_refused.Step why) = refusal_number (Some why)

abbrev pub answer_number : Result ℕ CallRefusal → ℕ
answer_number (Ok n) = n
answer_number (Err why) = call_refusal why

-- ---- what a call or an APDU carries: message data, or a forward message; what is not there is empty

-- no message data
abbrev pub no_data : Data
no_data = record { identifier = None; message = None; check = record { at = 0; count = 0 } }

-- no forward message: one that can't be written
abbrev pub no_forward : Forwarded
no_forward =
    record {
      heading = record { date = triple 0 0 0; time = triple 0 0 0; characters = 0; flight = 0; address = 0; direction = 0 };
      message = record { at = 0; count = 0 };
    }

pub record Carried : Type 0 where
  pub content : Data
  pub forward : Forwarded

abbrev pub carries : Data → Forwarded → Carried
carries d f = record { content = d; forward = f }

abbrev pub carries_data : Data → Carried
carries_data d = carries d no_forward

abbrev pub carries_forward : Forwarded → Carried
carries_forward f = carries no_data f

-- ---- what is written

-- the type that a side writes
abbrev pub pdus_of : Side → PduType
pdus_of Air = pdu.AircraftPdus
pdus_of Ground = pdu.GroundPdus

-- the bits that were written
abbrev pub bits_of_written : Result ℕ Unwritten → ℕ
bits_of_written (Ok n) = n
bits_of_written (Err Room) = 0
bits_of_written (Err Shape) = 0

-- what a buffer takes: a count of bits and the buffer afterwards
abbrev pub nothing_to : List ℕ → Done
nothing_to s = done (Ok 0) s

-- an APDU with its message data, whose parts stand in the bits li, lm and lc
abbrev pub pdu_to : Edition → PduType → List ℕ → List ℕ → List ℕ → Apdu → List ℕ → Done
pdu_to ed pdus li lm lc a s = write_out (apdu_fits ed pdus li lm lc a) s (pdu_bits ed pdus (pdu_in li lm lc a))

-- the first buffer takes the outcome's APDU
unfoldable pub first_takes : Edition → Side → List ℕ → List ℕ → List ℕ → Carried → UserData → List ℕ → Done
first_takes ed sd li lm lc d Absent s = nothing_to s
first_takes ed sd li lm lc d NotValid s = nothing_to s
first_takes ed sd li lm lc d (Start m) s = pdu_to ed (pdus_of sd) li lm lc (is.Start (flag m) d.content) s
first_takes ed sd li lm lc d Send s = pdu_to ed (pdus_of sd) li lm lc (is.Send d.content) s
first_takes ed sd li lm lc d (AbortUser x) s = pdu_to ed (pdus_of sd) li lm lc (is.AbortUser x) s
first_takes ed sd li lm lc d (AbortProvider x) s = pdu_to ed (pdus_of sd) li lm lc (is.AbortProvider x) s
first_takes ed sd li lm lc d Forward s = pdu_to ed (pdus_of sd) li lm lc (is.Forward d.forward) s
first_takes ed sd li lm lc d (ForwardResponse x) s = pdu_to ed (pdus_of sd) li lm lc (is.ForwardResponse x) s

-- a forward indication hands the forward message on (Doc 9705, 2.3.5.5.2.3 a)
abbrev pub passes : Option Told → Bool
passes None = false
passes (Some (StartIndication m k)) = false
passes (Some (StartConfirmation m x)) = false
passes (Some MessageIndication) = false
passes (Some (EndIndication m)) = false
passes (Some (EndConfirmation m x)) = false
passes (Some (UserAbortIndication x)) = false
passes (Some (ProviderAbortIndication x)) = false
passes (Some ForwardIndication) = true
passes (Some (ForwardConfirmation x v)) = false

-- a forward message, whose bits stand in lm
abbrev pub forward_to : Edition → List ℕ → Forwarded → List ℕ → Done
forward_to ed lm f s = write_out (forward_fits lm f) s (forward_bits ed f.heading (items_in lm bit f.message))

-- the second buffer takes the forward message that is passed on, or the message data that is delivered
unfoldable pub second_takes : Edition → List ℕ → List ℕ → List ℕ → Carried → Bool → Bool → List ℕ → Done
second_takes ed li lm lc d passed delivers s =
    cond passed (forward_to ed lm d.forward s)
    (cond delivers (write_out (data_fits li lm lc d.content) s (content_bits ed (content_in li lm lc d.content))) (nothing_to s))

-- a step that was taken: the buffers, the record with the dialogue number n that it holds afterwards, and the answer's number
unfoldable pub finished : List ℕ → List ℕ → List ℕ → Side → ℕ → Outcome → Done → Done → Called
finished r a b sd n o one two =
    called (packed (invoked_number o.invoked) (told_number o.told) (bits_of_written one.answer) (bits_of_written two.answer) (version_number o.invoked o.told))
    (store_at r sd o.next n).bytes one.bytes two.bytes

-- the outcome of a step at a record of the edition ed, with what the host gave or the APDU carries
unfoldable pub concluded : List ℕ → List ℕ → List ℕ → Edition → Side → ℕ → Outcome → List ℕ → List ℕ → List ℕ → Carried → Called
concluded r a b ed sd n o li lm lc d =
    cond (is_none o.refusal)
    (finished r a b sd n o (first_takes ed sd li lm lc d o.apdu a) (second_takes ed li lm lc d (passes o.told) o.delivers b))
    (called (refusal_number o.refusal) r a b)

-- ---- refusals before the step

-- ROOM, then bytes that are no record
unfoldable pub with_record : List ℕ → List ℕ → List ℕ → Option Stored → (Side → Record → ℕ → Called) → Called
with_record r a b (Some z) k = k z.side z.machine z.number
with_record r a b None k = called shape r a b

unfoldable pub entering : List ℕ → List ℕ → List ℕ → (Side → Record → ℕ → Called) → Called
entering r a b k = cond (ltb (length a) buffer_least) (called room r a b) (cond (ltb (length b) buffer_least) (called room r a b) (with_record r a b (load_at r) k))

-- ---- the user data of a dialogue-service primitive

-- The type that the user data is read as. The air end reads GroundPDUs, the ground end AircraftPDUs; but what a facility sends in a D-START
-- indication to the ground end, and the confirmation in FORWARD, are GroundPDUs (Doc 9705, 2.3.5.5.2.3, 2.3.5.5.3.3).
abbrev pub peer_reads : ℕ → PduType
peer_reads x = cond (eqb x facility) pdu.GroundPdus pdu.AircraftPdus

abbrev pub confirmation_reads : Control → PduType
confirmation_reads c = cond (awaits_response c) pdu.GroundPdus pdu.AircraftPdus

unfoldable pub reads_as : Side → Control → ServicePrimitive → PduType
reads_as Air c p = pdu.GroundPdus
reads_as Ground c (DStartIndication x s q v) = peer_reads x
reads_as Ground c (DStartConfirmation x o s v) = confirmation_reads c
reads_as Ground c DDataIndication = pdu.AircraftPdus
reads_as Ground c DEndIndication = pdu.AircraftPdus
reads_as Ground c (DEndConfirmation x) = pdu.AircraftPdus
reads_as Ground c (DAbortIndication o) = pdu.AircraftPdus
reads_as Ground c DPAbortIndication = pdu.AircraftPdus

-- a D-ABORT of a provider at the ground end may hold the abort of a ground provider (Doc 9705, 2.3.5.5.15.2)
unfoldable pub reads_again : Side → ServicePrimitive → Bool
reads_again Air p = false
reads_again Ground (DStartIndication x s q v) = false
reads_again Ground (DStartConfirmation x o s v) = false
reads_again Ground DDataIndication = false
reads_again Ground DEndIndication = false
reads_again Ground (DEndConfirmation x) = false
reads_again Ground (DAbortIndication o) = eqb o provider
reads_again Ground DPAbortIndication = false

-- of a second reading only an abort by a provider counts
unfoldable pub abort_of : Result Apdu Refusal → Apdu → Result Apdu Refusal
abort_of first (is.AbortUser r) = first
abort_of first (is.AbortProvider r) = Ok (is.AbortProvider r)
abort_of first (is.Start m d) = first
abort_of first (is.Send d) = first
abort_of first (is.Forward f) = first
abort_of first (is.ForwardResponse x) = first

unfoldable pub or_abort : Result Apdu Refusal → Result Apdu Refusal → Result Apdu Refusal
or_abort (Ok a) second = Ok a
or_abort (Err x) (Ok a) = abort_of (Err x) a
or_abort (Err x) (Err y) = Err x

unfoldable pub read_pdu : Edition → Side → Control → ServicePrimitive → List ℕ → Result Apdu Refusal
read_pdu ed sd c p l = cond (reads_again sd p) (or_abort (apdu_at ed (reads_as sd c p) l) (apdu_at ed pdu.GroundPdus l)) (apdu_at ed (reads_as sd c p) l)

-- refusals 10 to 17 mean "no valid PDU"
unfoldable pub meaning : Result Apdu Refusal → UserData
meaning (Err r) = NotValid
meaning (Ok (is.AbortUser r)) = AbortUser r
meaning (Ok (is.AbortProvider r)) = AbortProvider r
meaning (Ok (is.Start m d)) = Start (eqb m 1)
meaning (Ok (is.Send d)) = Send
meaning (Ok (is.Forward f)) = Forward
meaning (Ok (is.ForwardResponse x)) = ForwardResponse x

-- where its message data stand
unfoldable pub data_of : Result Apdu Refusal → Data
data_of (Err r) = no_data
data_of (Ok (is.AbortUser r)) = no_data
data_of (Ok (is.AbortProvider r)) = no_data
data_of (Ok (is.Start m d)) = d
data_of (Ok (is.Send d)) = d
data_of (Ok (is.Forward f)) = no_data
data_of (Ok (is.ForwardResponse x)) = no_data

-- its forward message
unfoldable pub forward_of : Result Apdu Refusal → Forwarded
forward_of (Err r) = no_forward
forward_of (Ok (is.AbortUser r)) = no_forward
forward_of (Ok (is.AbortProvider r)) = no_forward
forward_of (Ok (is.Start m d)) = no_forward
forward_of (Ok (is.Send d)) = no_forward
forward_of (Ok (is.Forward f)) = f
forward_of (Ok (is.ForwardResponse x)) = no_forward

abbrev pub carried_by : Result Apdu Refusal → Carried
carried_by a = carries (data_of a) (forward_of a)

-- ---- an engine: side, record, the number that the record holds, event, the number that the event brings

abbrev pub Engine : Type 0
Engine = Side → Record → ℕ → Event → ℕ → Outcome

module _ (engine : Engine) where
  -- an event that brings the dialogue number v, at a record that holds n
  abbrev pub event_step : List ℕ → List ℕ → List ℕ → Event → ℕ → List ℕ → List ℕ → List ℕ → Carried → Side → Record → ℕ → Called
  event_step r a b e v li lm lc d sd x n = concluded r a b x.edition sd (held_after n e v) (engine sd x n e v) li lm lc d

  -- ---- a user primitive, an expiry or a system error; the message data stand in the lent bytes ids, msgs and checks

  unfoldable pub user_step : List ℕ → List ℕ → List ℕ → Event → ℕ → List ℕ → List ℕ → List ℕ → Data → Side → Record → ℕ → Called
  user_step r a b e v li lm lc d sd x n =
      cond (given_fits x.edition (pdus_of sd) li lm lc d) (event_step r a b e v li lm lc (carries_data d) sd x n) (called shape r a b)

  unfoldable pub user_by : List ℕ → List ℕ → List ℕ → Event → ℕ → List ℕ → List ℕ → List ℕ → Data → Called
  user_by r a b e v ids msgs checks d = entering r a b (user_step r a b e v (lent ids) (lent msgs) (lent checks) d)

  -- ---- a forward request with Class of Communication k and Security Required s, of the dialogue number v; the message's bits stand in the lent bytes msgs

  unfoldable pub forward_step : List ℕ → List ℕ → List ℕ → ℕ → ℕ → ℕ → List ℕ → Forwarded → Side → Record → ℕ → Called
  forward_step r a b k s v lm f sd x n =
      cond (forward_given_fits x.edition lm f) (event_step r a b (ForwardRequested k s) v lm lm lm (carries_forward f) sd x n) (called shape r a b)

  unfoldable pub forward_by : List ℕ → List ℕ → List ℕ → ℕ → ℕ → ℕ → List ℕ → Forwarded → Called
  forward_by r a b k s v msgs f = entering r a b (forward_step r a b k s v (lent msgs) f)

  -- ---- a dialogue-service primitive; its user data stand in lent bytes, or there are none

  -- with user data, or without
  unfoldable pub data_step : List ℕ → List ℕ → List ℕ → ServicePrimitive → ℕ → List ℕ → Side → Record → ℕ → Called
  data_step r a b p v l sd x n = event_step r a b (Service p (meaning (read_pdu x.edition sd x.control p l))) v l l l (carried_by (read_pdu x.edition sd x.control p l)) sd x n

  unfoldable pub bare_step : List ℕ → List ℕ → List ℕ → ServicePrimitive → ℕ → List ℕ → Side → Record → ℕ → Called
  bare_step r a b p v l sd x n = event_step r a b (Service p Absent) v l l l (carries_data no_data) sd x n

  -- given: 0 no user data, 1 user data; another number is SHAPE
  unfoldable pub service_step : List ℕ → List ℕ → List ℕ → ServicePrimitive → ℕ → ℕ → List ℕ → Side → Record → ℕ → Called
  service_step r a b p v given l sd x n =
      cond (ltb 1 given) (called shape r a b) (cond (eqb given 1) (data_step r a b p v l sd x n) (bare_step r a b p v l sd x n))

  unfoldable pub service_by : List ℕ → List ℕ → List ℕ → ServicePrimitive → ℕ → ℕ → List ℕ → Called
  service_by r a b p v given bytes = entering r a b (service_step r a b p v given (lent bytes))

-- ---- the card's calls: the engine is the machine's step with its dialogue number

abbrev pub user_call : List ℕ → List ℕ → List ℕ → Event → ℕ → List ℕ → List ℕ → List ℕ → Data → Called
user_call = user_by numbered_step

abbrev pub forward_call : List ℕ → List ℕ → List ℕ → ℕ → ℕ → ℕ → List ℕ → Forwarded → Called
forward_call = forward_by numbered_step

abbrev pub service_call : List ℕ → List ℕ → List ℕ → ServicePrimitive → ℕ → ℕ → List ℕ → Called
service_call = service_by numbered_step
