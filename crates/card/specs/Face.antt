-- What the host gives to a call, and a fresh record.
use Rattle.std.specs.Prelude.{ℕ, Bool, true, false, not, cond, List, [], ltb, eqb, length, None, Option, Some}
use Rattle.words.specs.Limits.{shape}
use Rattle.pdus.specs.declared.Span.{Span}
use Rattle.apdu.specs.declared.Data.{Data}
use Rattle.editions.specs.Editions.{is_type, edition_of}
use Rattle.machine.specs.Record.{fresh_record}
use Rattle.control.specs.declared.Side.TheVariants.{Air, Ground}
use Rattle.machine.specs.declared.record.Configuration.{Configuration}
use Rattle.machine.specs.declared.event.UserPrimitive.{UserPrimitive}
use Rattle.machine.specs.declared.event.UserPrimitive.TheVariants.{MessageServiceRequest, UserAbortServiceRequest}
use Rattle.machine.specs.declared.event.Event.{Event}
use Rattle.machine.specs.declared.event.Event.TheVariants.{User}
use Rattle.stored.specs.Stored.{store_at, Kept}
use Rattle.step.specs.Call.{Called, user_call, no_data}

-- what stands for the dialogue number of an event that brings none; nothing looks at it (crate numbered, is_stale and held_after)
abbrev pub no_number : ℕ
no_number = 0

-- a call without message data
abbrev pub plain_call : List ℕ → List ℕ → List ℕ → Event → Called
plain_call r a b e = user_call r a b e no_number [] [] [] no_data

-- the count that says "none": no message, no reason
abbrev pub no_count : ℕ
no_count = 18446744073709551615

-- message data from the first bits of three ranges: an identifier of no octets is absent, and a message whose count says none
unfoldable pub part_of : Bool → ℕ → Option Span
part_of none n = cond none None (Some (record { at = 0; count = n }))

unfoldable pub given_data : ℕ → ℕ → ℕ → Data
given_data octets m k = record { identifier = part_of (eqb octets 0) octets; message = part_of (eqb m no_count) m; check = record { at = 0; count = k } }

-- a user primitive with message data, and the dialogue number that it brings
abbrev pub numbered_call : List ℕ → List ℕ → List ℕ → UserPrimitive → ℕ → List ℕ → List ℕ → ℕ → List ℕ → ℕ → Called
numbered_call r a b u v ids msgs m checks k = user_call r a b (User u) v ids msgs checks (given_data (length ids) m k)

-- one that brings none: every user primitive but a start
abbrev pub data_call : List ℕ → List ℕ → List ℕ → UserPrimitive → List ℕ → List ℕ → ℕ → List ℕ → ℕ → Called
data_call r a b u ids msgs m checks k = numbered_call r a b u no_number ids msgs m checks k

-- the message data hold a CPDLC message, or not
abbrev pub holds_message : ℕ → Bool
holds_message m = not (eqb m no_count)

abbrev pub message_requested : ℕ → ℕ → UserPrimitive
message_requested m j = MessageServiceRequest (holds_message m) j

-- a user abort gives a reason, or not
abbrev pub abort_requested : ℕ → UserPrimitive
abort_requested x = UserAbortServiceRequest (not (eqb x no_count)) (cond (eqb x no_count) 0 x)

-- ---- a fresh record for a side (1 air, 2 ground), with what it is made with; its number is "0 at first" (document 02, E9)

abbrev pub first_number : ℕ
first_number = 0

pub record Made : Type 0 where
  pub number : ℕ
  pub bytes : List ℕ

abbrev pub made : ℕ → List ℕ → Made
made n r = record { number = n; bytes = r }

-- 0 where the record was stored; SHAPE where the range is not of its size, or a value is none of its type
unfoldable pub fresh_for : Kept → Made
fresh_for k = made (cond k.done 0 shape) k.bytes

-- the security value that local policy accepts, whether forwarding is supported (0, 1), the own version, the application type
abbrev pub configured : ℕ → ℕ → ℕ → ℕ → Configuration
configured policy forwards version application = record { policy = policy; forwards = eqb forwards 1; version = version; edition = edition_of application }

unfoldable pub fresh_call : List ℕ → ℕ → ℕ → ℕ → ℕ → ℕ → Made
fresh_call r side policy forwards version application =
    cond (ltb 1 forwards) (made shape r)
    (cond (not (is_type application)) (made shape r)
    (cond (eqb side 1) (fresh_for (store_at r Air (fresh_record (configured policy forwards version application)) first_number))
    (cond (eqb side 2) (fresh_for (store_at r Ground (fresh_record (configured policy forwards version application)) first_number)) (made shape r))))
