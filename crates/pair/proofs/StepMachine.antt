-- The air machine and the ground machine as they are, at the two ends: crate machine's step, with lines that carry encoded
-- APDUs. The codec is any that reads back what it wrote.
-- Assumes nothing.
use Prim.Native.Nat.{ℕ}
use mathlib.Core.Path.{◌≡◌}
use mathlib.Core.Bool.{Bool, true, cond, ◌&&◌}
use mathlib.Core.List.{List, [], ◌∷◌}
use lib.Dec.{T, ltb}
use Rattle.editions.specs.declared.Edition.{Edition}
use Rattle.machine.specs.Codes.{provider_reasons}
use Rattle.machine.specs.Outcome.{is_none}
use Rattle.machine.specs.Record.{fresh_record}
use Rattle.machine.specs.Step.{step}
use Rattle.machine.specs.declared.record.Record.{Record}
use Rattle.machine.specs.declared.event.UserData.{UserData}
use Rattle.machine.specs.declared.event.UserData.TheVariants.{Absent, NotValid, AbortProvider}
use Rattle.machine.specs.declared.event.UserPrimitive.{UserPrimitive}
use Rattle.machine.specs.declared.event.UserPrimitive.TheVariants.{StartServiceRequest, StartServiceResponse, MessageServiceRequest, EndServiceRequest, EndServiceResponse, UserAbortServiceRequest}
use Rattle.machine.specs.declared.event.ServicePrimitive.TheVariants.{DPAbortIndication}
use Rattle.machine.specs.declared.event.Event.TheVariants.{User, Service, TimerExpires, UnrecoverableSystemError}
use Rattle.machine.specs.declared.outcome.Invoked.{Invoked}
use Rattle.machine.specs.declared.outcome.Invoked.TheVariants.{DStartRequest, DStartResponse, DDataRequest, DEndRequest, DEndResponse, DAbortRequest, DStartForwardRequest, DStartForwardResponse}
use Rattle.machine.specs.declared.outcome.Told.{Told}
use Rattle.machine.specs.declared.outcome.Told.TheVariants.{StartIndication, StartConfirmation, MessageIndication, EndIndication, EndConfirmation, UserAbortIndication, ProviderAbortIndication, ForwardIndication, ForwardConfirmation}
use Rattle.machine.specs.declared.outcome.Outcome.{Outcome}
use Rattle.pair.specs.Names.{Side, other}
use Rattle.pair.specs.Carrier.{Body, Sent, nothing, puts, message, Machine}
use Rattle.pair.specs.Carrier as C
use Rattle.pair.specs.Wires.{Wire, sort_of, arrives, rejects}
use Rattle.std.specs.Prelude.{None, Option, Some}

-- ---- the codec

-- an APDU with the message data in it; or bits that are no valid PDU
pub data Read : Type 0 where
  got : UserData → Body → Read
  fault : Read

-- all that the pair needs to know of the codec. A side writes its own PDUs, or no user data, which is no bytes: fits, are the data within
-- document 01's sizes; carries, is there a CPDLC message in them
pub record Codec : Type 0 where
  pub fits : Side → UserData → Body → Bool
  pub enc : Side → UserData → Body → List ℕ
  pub dec : Side → List ℕ → Read
  pub carries : Body → Bool
  pub reasons_fit : (sd : Side) (x : ℕ) → T (ltb x provider_reasons) → T (fits sd (AbortProvider x) [])
  pub back : (sd : Side) (a : UserData) (b : Body) → T (fits sd a b) → dec sd (enc sd a b) ≡ got a b

-- ---- what is read

abbrev pub apdu_of : Read → UserData
apdu_of (got a b) = a
apdu_of fault = NotValid

abbrev pub body_of : Read → Body
body_of (got a b) = b
body_of fault = []

-- ---- what an event does

-- the message in b, where the data received are delivered with a message indication
abbrev pub handed_by : Option Told → Body → List Body
handed_by None b = []
handed_by (Some (StartIndication m k)) b = []
handed_by (Some (StartConfirmation m x)) b = []
handed_by (Some MessageIndication) b = b ∷ []
handed_by (Some (EndIndication m)) b = []
handed_by (Some (EndConfirmation m x)) b = []
handed_by (Some (UserAbortIndication x)) b = []
handed_by (Some (ProviderAbortIndication x)) b = []
handed_by (Some ForwardIndication) b = []
handed_by (Some (ForwardConfirmation x v)) b = []

abbrev pub sent_by : Option Invoked → List ℕ → Body → ℕ → Sent Wire
sent_by None w b j = nothing
sent_by (Some (DStartRequest q s)) w b j = puts (record { primitive = Some (DStartRequest q s); bytes = w })
sent_by (Some (DStartResponse x s)) w b j = puts (record { primitive = Some (DStartResponse x s); bytes = w })
sent_by (Some DDataRequest) w b j = message (record { primitive = Some DDataRequest; bytes = w }) b j
sent_by (Some DEndRequest) w b j = puts (record { primitive = Some DEndRequest; bytes = w })
sent_by (Some (DEndResponse x)) w b j = puts (record { primitive = Some (DEndResponse x); bytes = w })
sent_by (Some (DAbortRequest o)) w b j = puts (record { primitive = Some (DAbortRequest o); bytes = w })
sent_by (Some (DStartForwardRequest q s v)) w b j = puts (record { primitive = Some (DStartForwardRequest q s v); bytes = w })
sent_by (Some (DStartForwardResponse s v)) w b j = puts (record { primitive = Some (DStartForwardResponse s v); bytes = w })

-- b, j: the data and the job that the user gave; x: the data that were received
abbrev pub taken : Codec → Side → Outcome → Body → ℕ → Body → C.Outcome Record Wire
taken K sd o b j x = C.acts o.next (cond o.delivers (handed_by o.told x) []) (sent_by o.invoked (K.enc sd o.apdu b) b j)

abbrev pub happens : Codec → Side → Outcome → Body → C.Outcome Record Wire
happens K sd o x = cond (is_none o.refusal) (taken K sd o [] 0 x) C.refused

-- ---- the user's calls, with the data that travel in them

-- mode, class of communication; mode, result; job; mode; mode, result; is a reason given, reason
pub data Order : Type 0 where
  start_request_of : ℕ → ℕ → Body → Order
  start_response_of : Bool → ℕ → Body → Order
  message_request_of : Body → ℕ → Order
  end_request_of : Bool → Body → Order
  end_response_of : Bool → ℕ → Body → Order
  user_abort_of : Bool → ℕ → Order

-- every start asks for the security value p
abbrev pub asked : Codec → ℕ → Order → UserPrimitive
asked K p (start_request_of m k b) = StartServiceRequest m k p
asked K p (start_response_of m x b) = StartServiceResponse m x (K.carries b)
asked K p (message_request_of b j) = MessageServiceRequest (K.carries b) j
asked K p (end_request_of m b) = EndServiceRequest m (K.carries b)
asked K p (end_response_of m x b) = EndServiceResponse m x (K.carries b)
asked K p (user_abort_of g x) = UserAbortServiceRequest g x

abbrev pub data_of : Order → Body
data_of (start_request_of m k b) = b
data_of (start_response_of m x b) = b
data_of (message_request_of b j) = b
data_of (end_request_of m b) = b
data_of (end_response_of m x b) = b
data_of (user_abort_of g x) = []

abbrev pub job_of : Order → ℕ
job_of (start_request_of m k b) = 0
job_of (start_response_of m x b) = 0
job_of (message_request_of b j) = j
job_of (end_request_of m b) = 0
job_of (end_response_of m x b) = 0
job_of (user_abort_of g x) = 0

-- a call whose data do not fit is refused, as one that the step refuses
abbrev pub calls : Codec → Side → Outcome → Body → ℕ → C.Outcome Record Wire
calls K sd o b j = cond (is_none o.refusal && K.fits sd o.apdu b) (taken K sd o b j []) C.refused

-- ---- the machine; p: the security value of both ends

abbrev pub step_machine : Codec → ℕ → Machine
step_machine K p = record {
  R = Record;
  E = Wire;
  A = Order;
  ctl = λ (r : Record). r.control;
  sort = λ (w : Wire). sort_of w.primitive;
  call = λ (sd : Side) (r : Record) (a : Order). calls K sd (step sd r (User (asked K p a))) (data_of a) (job_of a);
  receive = λ (sd : Side) (r : Record) (w : Wire). happens K sd
      (step sd r (Service (arrives sd w.primitive) (apdu_of (K.dec (other sd) w.bytes))))
      (body_of (K.dec (other sd) w.bytes));
  expiry = λ (sd : Side) (r : Record). happens K sd (step sd r TimerExpires) [];
  error = λ (sd : Side) (r : Record). happens K sd (step sd r UnrecoverableSystemError) [];
  away = λ (sd : Side) (r : Record). happens K sd (step sd r (Service rejects Absent)) [];
  p_abort = λ (sd : Side) (r : Record). happens K sd (step sd r (Service DPAbortIndication Absent)) [];
}

-- a fresh record of an edition whose policy accepts p
abbrev pub fresh_with : Edition → ℕ → Record
fresh_with ed p = fresh_record (record { policy = p; forwards = true; version = 1; edition = ed })
