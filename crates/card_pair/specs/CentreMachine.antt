-- The exported calls of two ground cards at the two ends of the carrier (document 02, E8). As in CardMachine a record is its bytes, an
-- entry of a line a primitive's numbers, the bytes of its user data and its dialogue number. Between two ground ends a forward request is
-- the only start; so a D-START request is a forward's, and a D-START response its answer.
use Rattle.std.specs.Prelude.{ℕ, suc, ◌*◌, ◌/◌, Bool, true, false, cond, List, [], None, Option, Some}
use Rattle.apdu.specs.declared.Heading.{Heading}
use Rattle.machine.specs.declared.event.Event.{Event}
use Rattle.machine.specs.declared.event.Event.TheVariants.{TimerExpires, UnrecoverableSystemError}
use Rattle.machine.specs.declared.event.ServicePrimitive.{ServicePrimitive}
use Rattle.machine.specs.declared.event.ServicePrimitive.TheVariants.{DPAbortIndication}
use Rattle.machine.specs.declared.outcome.Invoked.{Invoked}
use Rattle.machine.specs.declared.outcome.Invoked.TheVariants.{DStartRequest, DStartResponse, DDataRequest, DEndRequest, DEndResponse, DAbortRequest, DStartForwardRequest, DStartForwardResponse}
use Rattle.stored.specs.Stored.{load_at}
use Rattle.packed.specs.Packed.{refusals, primitives, counts}
use Rattle.step.specs.Call.{Called, service_call, forward_call}
use Rattle.card.specs.Face.{plain_call}
use Rattle.pair.specs.Names.{Side}
use Rattle.pair.specs.Carrier.{Outcome, refused, acts}
use Rattle.pair.specs.Numbered.{NMachine, Numbered, mark}
use Rattle.pair.specs.Wires.{Wire, sort_of, arrives, rejects}
use Rattle.card_pair.specs.Answered.{is_taken, entry_of, handed_of}
use Rattle.card_pair.specs.CardMachine.{Buffers, Word, Asked, start_request_of, start_response_of, message_request_of, end_request_of, end_response_of, user_abort_of, Kept, newly, held_by, control_in, answered, put_on}

-- ---- what the host gives

-- a forward message: what stands before the message's bits, a range, and how many of its bits are the message
pub record Passed : Type 0 where
  pub heading : Heading
  pub msgs : List ℕ
  pub bits : ℕ

-- the calls: a forward request with its dialogue number and Class of Communication, and those of CardMachine
pub data CentreAsked : Type 0 where
  forward_request_of : Word → ℕ → Passed → CentreAsked
  other_call : Asked → CentreAsked

-- "between two ground ends it is the only start"
abbrev pub is_start_call : Asked → Bool
is_start_call (start_request_of v m k g) = true
is_start_call (start_response_of m x g) = false
is_start_call (message_request_of j g) = false
is_start_call (end_request_of m g) = false
is_start_call (end_response_of m x g) = false
is_start_call (user_abort_of x) = false

-- what a host keeps for a centre: the record's bytes with the count of calls, and the buffers that it lends to the next call after so many
pub record Desk : Type 0 where
  pub kept : Kept
  pub lends : ℕ → Buffers

abbrev pub new_desk : List ℕ → (ℕ → Buffers) → Desk
new_desk b w = record { kept = newly b; lends = w }

-- ---- what a call sends

-- the version in an answer's number (crate step, Packed)
abbrev pub version_part : ℕ → ℕ
version_part n = n / (refusals * primitives * primitives * counts * counts)

abbrev pub between_centres : ℕ → Option Invoked → Option Invoked
between_centres v None = None
between_centres v (Some (DStartRequest q s)) = Some (DStartForwardRequest q s v)
between_centres v (Some (DStartResponse x s)) = Some (DStartForwardResponse s v)
between_centres v (Some DDataRequest) = Some DDataRequest
between_centres v (Some DEndRequest) = Some DEndRequest
between_centres v (Some (DEndResponse x)) = Some (DEndResponse x)
between_centres v (Some (DAbortRequest o)) = Some (DAbortRequest o)
between_centres v (Some (DStartForwardRequest q s w)) = Some (DStartForwardRequest q s w)
between_centres v (Some (DStartForwardResponse s w)) = Some (DStartForwardResponse s w)

abbrev pub centre_entry : Called → Numbered Wire
centre_entry c = mark (held_by c.kept) (record { primitive = between_centres (version_part c.number) (entry_of c).primitive; bytes = (entry_of c).bytes })

abbrev pub after : Desk → Called → Desk
after d c = record { kept = record { bytes = c.kept; calls = suc d.kept.calls }; lends = d.lends }

abbrev pub does : Desk → Called → Outcome Desk (Numbered Wire)
does d c = cond (is_taken c.number) (acts (after d c) (handed_of c) (put_on (centre_entry c) (centre_entry c).it.primitive)) refused

-- ---- the machine; p: the security value of both ends

abbrev pub lent_first : Desk → List ℕ
lent_first d = (d.lends d.kept.calls).first

abbrev pub lent_second : Desk → List ℕ
lent_second d = (d.lends d.kept.calls).second

abbrev pub hears : Desk → ServicePrimitive → ℕ → ℕ → List ℕ → Called
hears d a v given bytes = service_call d.kept.bytes (lent_first d) (lent_second d) a v given bytes

abbrev pub reports : Desk → Event → Called
reports d e = plain_call d.kept.bytes (lent_first d) (lent_second d) e

module _ (p : ℕ) where
  abbrev pub forwards : Desk → Word → ℕ → Passed → Called
  forwards d v k f = forward_call d.kept.bytes (lent_first d) (lent_second d) k p v.number f.msgs (record { heading = f.heading; message = record { at = 0; count = f.bits } })

  abbrev pub centre_asks : Desk → CentreAsked → Outcome Desk (Numbered Wire)
  centre_asks d (forward_request_of v k f) = does d (forwards d v k f)
  centre_asks d (other_call a) = cond (is_start_call a) refused (does d (answered p (d.lends d.kept.calls) d.kept.bytes a))

  abbrev pub centre_machine : NMachine
  centre_machine = record {
    at = record {
      R = Desk;
      E = Numbered Wire;
      A = CentreAsked;
      ctl = λ (d : Desk). control_in (load_at d.kept.bytes);
      sort = λ (w : Numbered Wire). sort_of w.it.primitive;
      call = λ (sd : Side) (d : Desk) (a : CentreAsked). centre_asks d a;
      receive = λ (sd : Side) (d : Desk) (w : Numbered Wire). does d (hears d (arrives sd w.it.primitive) w.no 1 w.it.bytes);
      expiry = λ (sd : Side) (d : Desk). does d (reports d TimerExpires);
      error = λ (sd : Side) (d : Desk). does d (reports d UnrecoverableSystemError);
      away = λ (sd : Side) (d : Desk). does d (hears d rejects (held_by d.kept.bytes) 0 []);
      p_abort = λ (sd : Side) (d : Desk). does d (hears d DPAbortIndication (held_by d.kept.bytes) 0 []);
    };
    holds = λ (d : Desk). held_by d.kept.bytes;
    carries = λ (w : Numbered Wire). w.no;
  }
