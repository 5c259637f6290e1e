-- The exported calls at the two ends of the carrier. A record is its bytes, as the host keeps them; an entry of a line is a primitive's
-- numbers, the bytes of its user data and its dialogue number; a user call is an exported call with its arguments. What a call sends and
-- hands out is taken out of its answer, and the dialogue number of what it sends out of the record's bytes.
use Rattle.std.specs.Prelude.{ℕ, suc, ◌^◌, ◌≤◌, ◌<◌, Bool, cond, List, [], length, None, Option, Some}
use Rattle.apdu.specs.Sizes.{buffer_least}
use Rattle.apdu.specs.Pdus.{lent, content_in}
use Rattle.plain.specs.Plain.{is_empty}
use Rattle.codec.specs.Codec.{content_bits}
use Rattle.editions.specs.declared.Edition.{Edition}
use Rattle.editions.specs.declared.Edition.TheVariants.{Protected}
use Rattle.machine.specs.declared.record.Record.{Record}
use Rattle.machine.specs.declared.event.UserPrimitive.TheVariants.{StartServiceRequest, StartServiceResponse, EndServiceRequest, EndServiceResponse}
use Rattle.machine.specs.declared.event.Event.{Event}
use Rattle.machine.specs.declared.event.Event.TheVariants.{User, TimerExpires, UnrecoverableSystemError}
use Rattle.machine.specs.declared.event.ServicePrimitive.{ServicePrimitive}
use Rattle.machine.specs.declared.event.ServicePrimitive.TheVariants.{DPAbortIndication}
use Rattle.machine.specs.declared.outcome.Invoked.{Invoked}
use Rattle.machine.specs.declared.outcome.Invoked.TheVariants.{DStartRequest, DStartResponse, DDataRequest, DEndRequest, DEndResponse, DAbortRequest, DStartForwardRequest, DStartForwardResponse}
use Rattle.stored.specs.Stored.{load_at}
use Rattle.step.specs.Call.{Called, service_call}
use Rattle.card.specs.Face.{given_data, numbered_call, data_call, plain_call, message_requested, abort_requested, holds_message}
use Rattle.pair.specs.Names.{Side, Control, closed}
use Rattle.pair.specs.Carrier.{Body, Sent, nothing, puts, message, Outcome, refused, acts}
use Rattle.pair.specs.Numbered.{NMachine, Numbered, mark}
use Rattle.pair.specs.Wires.{Wire, sort_of, arrives, rejects}
use Rattle.card_pair.specs.Answered.{is_taken, entry_of, handed_of}
use Rattle.stored.specs.declared.Stored.{Stored}

-- ---- what the host gives

-- the two output buffers, lent at full size, with any bytes in them
pub record Buffers : Type 0 where
  pub first : List ℕ
  pub second : List ℕ
  pub first_full : buffer_least ≤ length first
  pub second_full : buffer_least ≤ length second

-- message data: the identifier's octets; a message and its count of bits, or the count that says none; a check and its count of bits
pub record Given : Type 0 where
  pub ids : List ℕ
  pub msgs : List ℕ
  pub bits : ℕ
  pub checks : List ℕ
  pub check : ℕ

-- a number of eight bytes: a job, a dialogue number
pub record Word : Type 0 where
  pub number : ℕ
  pub low : number < 2 ^ 64

-- the calls, any numbers and any ranges; a start has its dialogue number and its mode, and true is the DSC- one of the others. A number or
-- a byte that C has no place for is taken too, but for a job and a dialogue number, which the record keeps in eight bytes each
pub data Asked : Type 0 where
  start_request_of : Word → ℕ → ℕ → Given → Asked
  start_response_of : Bool → ℕ → Given → Asked
  message_request_of : Word → Given → Asked
  end_request_of : Bool → Given → Asked
  end_response_of : Bool → ℕ → Given → Asked
  user_abort_of : ℕ → Asked

-- what a host keeps for an end: the record's bytes, and how many calls were taken with it. The count only says which buffers are lent
pub record Kept : Type 0 where
  pub bytes : List ℕ
  pub calls : ℕ

abbrev pub newly : List ℕ → Kept
newly b = record { bytes = b; calls = 0 }

-- what is looked at in a record that was loaded; x where there is none
abbrev pub in_record : {A : Type 0} → (Record → ℕ → A) → A → Option Stored → A
in_record f x (Some z) = f z.machine z.number
in_record f x None = x

-- the dialogue number that the bytes of a record hold, and its edition, as the header's readers take them out of the bytes
abbrev pub held_by : List ℕ → ℕ
held_by b = in_record (λ (r : Record) (n : ℕ). n) 0 (load_at b)

abbrev pub edition_by : List ℕ → Edition
edition_by b = in_record (λ (r : Record) (n : ℕ). r.edition) Protected (load_at b)

-- ---- calls, with a record's bytes and two buffers; every start asks for the security value p and brings its dialogue number. The other user calls bring none

abbrev pub answered : ℕ → Buffers → List ℕ → Asked → Called
answered p w r (start_request_of v m k g) = numbered_call r w.first w.second (StartServiceRequest m k p) v.number g.ids g.msgs g.bits g.checks g.check
answered p w r (start_response_of m x g) = data_call r w.first w.second (StartServiceResponse m x (holds_message g.bits)) g.ids g.msgs g.bits g.checks g.check
answered p w r (message_request_of j g) = data_call r w.first w.second (message_requested g.bits j.number) g.ids g.msgs g.bits g.checks g.check
answered p w r (end_request_of m g) = data_call r w.first w.second (EndServiceRequest m (holds_message g.bits)) g.ids g.msgs g.bits g.checks g.check
answered p w r (end_response_of m x g) = data_call r w.first w.second (EndServiceResponse m x (holds_message g.bits)) g.ids g.msgs g.bits g.checks g.check
answered p w r (user_abort_of x) = plain_call r w.first w.second (User (abort_requested x))

-- the encoding of the message data that the host gave: of type 2 it is the message's own bits, or none
abbrev pub body_given : Edition → Given → Body
body_given ed g = content_bits ed (content_in (lent g.ids) (lent g.msgs) (lent g.checks) (given_data (length g.ids) g.bits g.check))

-- "those sent carry the number held after the event"
abbrev pub marked_entry : Called → Numbered Wire
marked_entry c = mark (held_by c.kept) (entry_of c)

-- nothing, or the primitive that the call invoked
abbrev pub put_on : Numbered Wire → Option Invoked → Sent (Numbered Wire)
put_on e None = nothing
put_on e (Some (DStartRequest q s)) = puts e
put_on e (Some (DStartResponse x s)) = puts e
put_on e (Some DDataRequest) = puts e
put_on e (Some DEndRequest) = puts e
put_on e (Some (DEndResponse x)) = puts e
put_on e (Some (DAbortRequest o)) = puts e
put_on e (Some (DStartForwardRequest q s v)) = puts e
put_on e (Some (DStartForwardResponse s v)) = puts e

abbrev pub sent_of : Called → Sent (Numbered Wire)
sent_of c = put_on (marked_entry c) (entry_of c).primitive

-- a message request that is not refused took its message and its job
abbrev pub sent_for : Edition → Asked → Called → Sent (Numbered Wire)
sent_for ed (start_request_of v m k g) c = sent_of c
sent_for ed (start_response_of m x g) c = sent_of c
sent_for ed (message_request_of j g) c = message (marked_entry c) (body_given ed g) j.number
sent_for ed (end_request_of m g) c = sent_of c
sent_for ed (end_response_of m x g) c = sent_of c
sent_for ed (user_abort_of x) c = sent_of c

-- what a call leaves of an end whose calls so far were n. A refused one leaves everything (crate step, proofs/Refusing)
abbrev pub left : ℕ → Called → Sent (Numbered Wire) → Outcome Kept (Numbered Wire)
left n c s = cond (is_taken c.number) (acts (record { bytes = c.kept; calls = suc n }) (handed_of c) s) refused

-- a call that takes no message
abbrev pub simply : ℕ → Called → Outcome Kept (Numbered Wire)
simply n c = left n c (sent_of c)

-- ---- the machine; p: the security value of both ends; host: the buffers that a side lends to its next call after so many

abbrev pub control_in : Option Stored → Control
control_in l = in_record (λ (r : Record) (n : ℕ). r.control) closed l

-- an entry without bytes has no user data
abbrev pub given_of : List ℕ → ℕ
given_of w = cond (is_empty w) 0 1

module _ (p : ℕ) (host : Side → ℕ → Buffers) where
  -- an exported call of a dialogue-service primitive with the dialogue number v, an expiry or a system error
  abbrev pub arriving : Side → Kept → ServicePrimitive → ℕ → ℕ → List ℕ → Outcome Kept (Numbered Wire)
  arriving sd r a v given bytes = simply r.calls (service_call r.bytes (host sd r.calls).first (host sd r.calls).second a v given bytes)

  abbrev pub reported : Side → Kept → Event → Outcome Kept (Numbered Wire)
  reported sd r e = simply r.calls (plain_call r.bytes (host sd r.calls).first (host sd r.calls).second e)

  abbrev pub asking : Side → Kept → Asked → Outcome Kept (Numbered Wire)
  asking sd r a = left r.calls (answered p (host sd r.calls) r.bytes a) (sent_for (edition_by r.bytes) a (answered p (host sd r.calls) r.bytes a))

  -- what the carrier itself makes carries the number held by the end that gets it
  abbrev pub card_machine : NMachine
  card_machine = record {
    at = record {
      R = Kept;
      E = Numbered Wire;
      A = Asked;
      ctl = λ (r : Kept). control_in (load_at r.bytes);
      sort = λ (w : Numbered Wire). sort_of w.it.primitive;
      call = asking;
      receive = λ (sd : Side) (r : Kept) (w : Numbered Wire). arriving sd r (arrives sd w.it.primitive) w.no (given_of w.it.bytes) w.it.bytes;
      expiry = λ (sd : Side) (r : Kept). reported sd r TimerExpires;
      error = λ (sd : Side) (r : Kept). reported sd r UnrecoverableSystemError;
      away = λ (sd : Side) (r : Kept). arriving sd r rejects (held_by r.bytes) 0 [];
      p_abort = λ (sd : Side) (r : Kept). arriving sd r DPAbortIndication (held_by r.bytes) 0 [];
    };
    holds = λ (r : Kept). held_by r.bytes;
    carries = λ (w : Numbered Wire). w.no;
  }
