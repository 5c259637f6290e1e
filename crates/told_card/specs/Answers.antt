-- The exported calls on the bytes of one record, and what a host counts of them: by the calls that it made and the numbers that they
-- answered, without a look at the record (document 02, E12).
use Rattle.std.specs.Prelude.{ℕ, zero, suc, ◌*◌, ◌/◌, ◌%◌, ◌≡◌, Bool, List, [], ◌∷◌, eqb}
use Rattle.control.specs.declared.Side.{Side}
use Rattle.machine.specs.Event.{is_dsc}
use Rattle.machine.specs.Calls.{reply_of}
use Rattle.machine.specs.declared.record.Record.{Record}
use Rattle.machine.specs.declared.event.UserPrimitive.TheVariants.{StartServiceRequest, StartServiceResponse, EndServiceRequest, EndServiceResponse}
use Rattle.machine.specs.declared.event.ServicePrimitive.{ServicePrimitive}
use Rattle.machine.specs.declared.event.Event.TheVariants.{User, TimerExpires, UnrecoverableSystemError}
use Rattle.stored.specs.Stored.{load_at, is_stored}
use Rattle.packed.specs.Packed.{codes}
use Rattle.step.specs.Call.{Called, service_call, forward_call}
use Rattle.card.specs.Face.{numbered_call, data_call, plain_call, message_requested, abort_requested, holds_message}
use Rattle.card_pair.specs.Answered.{is_taken, told_part_of}
use Rattle.card_pair.specs.CardMachine.{Given, Word}
use Rattle.card_pair.specs.CentreMachine.{Passed}
use Rattle.told.specs.Lists.{Item, start_request, start_indication, start_response, start_confirmation, end_response, end_confirmation, user_abort_request, user_abort_indication, provider_abort_indication, forward_request, forward_confirmation, unlisted}
use Rattle.told.specs.Histories.{Entry, ToldOnce}

-- ---- the calls

-- an exported call with its arguments; true is the DSC- one of two. A job and a dialogue number have eight bytes, and every other number is any
pub data Call : Type 0 where
  -- the dialogue number, mode, class and security value
  start : Word → ℕ → ℕ → ℕ → Given → Call
  start_response_of : Bool → ℕ → Given → Call
  message_request_of : Word → Given → Call
  end_request_of : Bool → Given → Call
  end_response_of : Bool → ℕ → Given → Call
  user_abort_of : ℕ → Call
  -- the dialogue number, class and security value
  forward_request_of : Word → ℕ → ℕ → Passed → Call
  -- with its dialogue number, whether there is user data, and the user data
  service_primitive : ServicePrimitive → Word → ℕ → List ℕ → Call
  timer_expiry : Call
  system_error : Call

-- and the two buffers that it is lent: any bytes, of any size
pub record Lent : Type 0 where
  pub call : Call
  pub first : List ℕ
  pub second : List ℕ

-- what a call answers and leaves, as its contract says, on the record's bytes r and the buffers a and b
abbrev pub answer_of : List ℕ → List ℕ → List ℕ → Call → Called
answer_of r a b (start v m k s g) = numbered_call r a b (StartServiceRequest m k s) v.number g.ids g.msgs g.bits g.checks g.check
answer_of r a b (start_response_of m x g) = data_call r a b (StartServiceResponse m x (holds_message g.bits)) g.ids g.msgs g.bits g.checks g.check
answer_of r a b (message_request_of j g) = data_call r a b (message_requested g.bits j.number) g.ids g.msgs g.bits g.checks g.check
answer_of r a b (end_request_of m g) = data_call r a b (EndServiceRequest m (holds_message g.bits)) g.ids g.msgs g.bits g.checks g.check
answer_of r a b (end_response_of m x g) = data_call r a b (EndServiceResponse m x (holds_message g.bits)) g.ids g.msgs g.bits g.checks g.check
answer_of r a b (user_abort_of x) = plain_call r a b (User (abort_requested x))
answer_of r a b (forward_request_of v k s f) = forward_call r a b k s v.number f.msgs (record { heading = f.heading; message = record { at = 0; count = f.bits } })
answer_of r a b (service_primitive p v given bytes) = service_call r a b p v.number given bytes
answer_of r a b timer_expiry = plain_call r a b TimerExpires
answer_of r a b system_error = plain_call r a b UnrecoverableSystemError

abbrev pub answer : List ℕ → Lent → Called
answer r c = answer_of r c.first c.second c.call

-- ---- what a host counts

-- what its user invokes by a call
abbrev pub invocation_by : Call → Item
invocation_by (start v m k s g) = start_request (is_dsc m)
invocation_by (start_response_of m x g) = start_response m (reply_of x)
invocation_by (message_request_of j g) = unlisted
invocation_by (end_request_of m g) = unlisted
invocation_by (end_response_of m x g) = end_response m (reply_of x)
invocation_by (user_abort_of x) = user_abort_request
invocation_by (forward_request_of v k s f) = forward_request
invocation_by (service_primitive p v given bytes) = unlisted
invocation_by timer_expiry = unlisted
invocation_by system_error = unlisted

-- the user primitive of a code, with its parameter and whether it is the DSC- one (crate packed, Packed)
abbrev pub code_item : ℕ → ℕ → Bool → Item
code_item zero x d = unlisted
code_item (suc zero) x d = start_indication d
code_item (suc (suc zero)) x d = start_confirmation d (reply_of x)
code_item (suc (suc (suc zero))) x d = unlisted
code_item (suc (suc (suc (suc zero)))) x d = unlisted
code_item (suc (suc (suc (suc (suc zero))))) x d = end_confirmation d (reply_of x)
code_item (suc (suc (suc (suc (suc (suc zero)))))) x d = user_abort_indication
code_item (suc (suc (suc (suc (suc (suc (suc zero))))))) x d = provider_abort_indication
code_item (suc (suc (suc (suc (suc (suc (suc (suc zero)))))))) x d = unlisted
code_item (suc (suc (suc (suc (suc (suc (suc (suc (suc zero))))))))) x d = forward_confirmation
code_item (suc (suc (suc (suc (suc (suc (suc (suc (suc (suc n)))))))))) x d = unlisted

abbrev pub told_item : ℕ → Item
told_item t = code_item (t % codes) (t / codes % codes) (eqb (t / (codes * codes) % 2) 1)

-- the entry of a call whose user invoked i by it, and that answered n
abbrev pub entry : Item → ℕ → Entry
entry i n = record { taken = is_taken n; invocation = i; receipt = told_item (told_part_of n) }

unfoldable pub history : List ℕ → List Lent → List Entry
history r [] = []
history r (c ∷ cs) = entry (invocation_by c.call) (answer r c).number ∷ history (answer r c).kept cs

-- the bytes of the record afterwards
unfoldable pub leaves : List ℕ → List Lent → List ℕ
leaves r [] = r
leaves r (c ∷ cs) = leaves (answer r c).kept cs

-- ---- what is claimed: the bytes b are those of a record of side sd, and the history l is told once with its user as it is now. So bytes
-- that are no record can't count as a user who is not active

pub record CardToldOnce (sd : Side) (b : List ℕ) (l : List Entry) : Type 0 where
  pub held : Record
  pub number : ℕ
  pub load : load_at b ≡ is_stored sd held number
  pub told : ToldOnce sd held.active l
