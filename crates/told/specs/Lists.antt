-- Who is an active user, and until when: the lists of the documents, item by item, and which item an event is.
-- Ground: Doc 9880 3.5.5.1.6. Air: Doc 9705 2.3.5.3.1 Note 2. Document 01 adds the accepted DSC-end response to the ground's c).
use Rattle.std.specs.Prelude.{ℕ, ◌+◌, Bool, true, false, cond, ◌||◌, List, [], ◌∷◌, eqb, None, Option, Some}
use Rattle.control.specs.declared.Side.{Side}
use Rattle.control.specs.declared.Side.TheVariants.{Air, Ground}
use Rattle.control.specs.declared.Reply.{Reply}
use Rattle.control.specs.declared.Reply.TheVariants.{Accepted, Rejected}
use Rattle.machine.specs.Event.{is_dsc}
use Rattle.machine.specs.Calls.{reply_of}
use Rattle.machine.specs.declared.event.UserPrimitive.{UserPrimitive}
use Rattle.machine.specs.declared.event.UserPrimitive.TheVariants.{StartServiceRequest, StartServiceResponse, MessageServiceRequest, EndServiceRequest, EndServiceResponse, UserAbortServiceRequest}
use Rattle.machine.specs.declared.event.Event.{Event}
use Rattle.machine.specs.declared.event.Event.TheVariants.{User, Forward, Service, TimerExpires, UnrecoverableSystemError}
use Rattle.machine.specs.declared.outcome.Told.{Told}
use Rattle.machine.specs.declared.outcome.Told.TheVariants.{StartIndication, StartConfirmation, MessageIndication, EndIndication, EndConfirmation, UserAbortIndication, ProviderAbortIndication, ForwardIndication, ForwardConfirmation}

-- ---- an item of the lists

-- requests and responses the user invokes, indications and confirmations it receives. A flag: true for the DSC- service, false for the CPDLC-
-- one. Unlisted: what no list names
pub data Item : Type 0 where
  start_request : Bool → Item
  start_indication : Bool → Item
  start_response : Bool → Reply → Item
  start_confirmation : Bool → Reply → Item
  end_response : Bool → Reply → Item
  end_confirmation : Bool → Reply → Item
  user_abort_request : Item
  user_abort_indication : Item
  provider_abort_indication : Item
  forward_request : Item
  forward_confirmation : Item
  unlisted : Item

abbrev pub cpdlc : Bool
cpdlc = false

abbrev pub dsc : Bool
dsc = true

-- a number for each
abbrev pub replied : ℕ → Bool → Reply → ℕ
replied n d Accepted = cond d (n + 1) n
replied n d Rejected = cond d (n + 3) (n + 2)

abbrev pub item_number : Item → ℕ
item_number (start_request d) = cond d 1 0
item_number (start_indication d) = cond d 3 2
item_number (start_response d a) = replied 4 d a
item_number (start_confirmation d a) = replied 8 d a
item_number (end_response d a) = replied 12 d a
item_number (end_confirmation d a) = replied 16 d a
item_number user_abort_request = 20
item_number user_abort_indication = 21
item_number provider_abort_indication = 22
item_number forward_request = 23
item_number forward_confirmation = 24
item_number unlisted = 25

abbrev pub is_item : Item → Item → Bool
is_item x y = eqb (item_number x) (item_number y)

-- ---- the lists

-- "is an active user from .. until .."
pub record Period : Type 0 where
  pub from : Item
  pub until : List Item

abbrev pub period : Item → List Item → Period
period x ys = record { from = x; until = ys }

-- Doc 9705 2.3.5.3.1 Note 2
abbrev pub air_periods : List Period
air_periods =
    period (start_request cpdlc) (start_confirmation cpdlc Rejected ∷ end_response cpdlc Accepted ∷ user_abort_request ∷ user_abort_indication ∷ provider_abort_indication ∷ []) ∷
    period (start_indication cpdlc) (start_response cpdlc Rejected ∷ end_response cpdlc Accepted ∷ user_abort_request ∷ user_abort_indication ∷ provider_abort_indication ∷ []) ∷
    period (start_request dsc) (start_confirmation dsc Rejected ∷ end_confirmation dsc Accepted ∷ user_abort_request ∷ user_abort_indication ∷ provider_abort_indication ∷ []) ∷ []

-- Doc 9880 3.5.5.1.6, and in c) the accepted DSC-end response (document 01)
abbrev pub ground_periods : List Period
ground_periods =
    period (start_request cpdlc) (start_confirmation cpdlc Rejected ∷ end_confirmation cpdlc Accepted ∷ user_abort_request ∷ user_abort_indication ∷ provider_abort_indication ∷ []) ∷
    period (start_indication cpdlc) (start_response cpdlc Rejected ∷ end_confirmation cpdlc Accepted ∷ user_abort_request ∷ user_abort_indication ∷ provider_abort_indication ∷ []) ∷
    period (start_indication dsc) (start_response dsc Rejected ∷ end_response dsc Accepted ∷ user_abort_request ∷ user_abort_indication ∷ provider_abort_indication ∷ []) ∷
    period forward_request (forward_confirmation ∷ user_abort_request ∷ user_abort_indication ∷ provider_abort_indication ∷ []) ∷ []

abbrev pub periods : Side → List Period
periods Air = air_periods
periods Ground = ground_periods

-- is it one of them
unfoldable pub among : List Item → Item → Bool
among [] x = false
among (y ∷ ys) x = is_item y x || among ys x

unfoldable pub begins : List Period → Item → Bool
begins [] x = false
begins (p ∷ ps) x = is_item p.from x || begins ps x

unfoldable pub ends : List Period → Item → Bool
ends [] x = false
ends (p ∷ ps) x = among p.until x || ends ps x

-- ---- which item an event is to the user

-- what the user invokes
abbrev pub user_item : UserPrimitive → Item
user_item (StartServiceRequest m k s) = start_request (is_dsc m)
user_item (StartServiceResponse m x h) = start_response m (reply_of x)
user_item (MessageServiceRequest h j) = unlisted
user_item (EndServiceRequest m h) = unlisted
user_item (EndServiceResponse m x h) = end_response m (reply_of x)
user_item (UserAbortServiceRequest g x) = user_abort_request

abbrev pub invocation_of : Event → Item
invocation_of (User u) = user_item u
invocation_of (Forward k s) = forward_request
invocation_of (Service p a) = unlisted
invocation_of TimerExpires = unlisted
invocation_of UnrecoverableSystemError = unlisted

-- what the user receives
abbrev pub receipt_of : Option Told → Item
receipt_of None = unlisted
receipt_of (Some (StartIndication m k)) = start_indication m
receipt_of (Some (StartConfirmation m x)) = start_confirmation m (reply_of x)
receipt_of (Some MessageIndication) = unlisted
receipt_of (Some (EndIndication m)) = unlisted
receipt_of (Some (EndConfirmation m x)) = end_confirmation m (reply_of x)
receipt_of (Some (UserAbortIndication x)) = user_abort_indication
receipt_of (Some (ProviderAbortIndication x)) = provider_abort_indication
receipt_of (Some ForwardIndication) = unlisted
receipt_of (Some (ForwardConfirmation x v)) = forward_confirmation
