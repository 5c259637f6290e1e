-- The machine's step with a dialogue number (document 02, E9). n: the number that the record holds; v: the one that the event brings. A
-- user primitive other than a start, an expiry and a system error bring none, and nothing looks at their v.
use Rattle.std.specs.Prelude.{ℕ, Bool, true, false, not, cond, ◌&&◌, ltb, eqb, None, Option, Some}
use Rattle.control.specs.declared.Side.{Side}
use Rattle.machine.specs.Event.{event_fits}
use Rattle.machine.specs.Outcome.{is_none, refused}
use Rattle.machine.specs.Step.{permitted, message_refusal, acts}
use Rattle.machine.specs.declared.record.Record.{Record}
use Rattle.machine.specs.declared.event.UserPrimitive.{UserPrimitive}
use Rattle.machine.specs.declared.event.UserPrimitive.TheVariants.{StartServiceRequest, StartServiceResponse, MessageServiceRequest, EndServiceRequest, EndServiceResponse, UserAbortServiceRequest}
use Rattle.machine.specs.declared.event.ServicePrimitive.{ServicePrimitive}
use Rattle.machine.specs.declared.event.ServicePrimitive.TheVariants.{DStartIndication, DStartConfirmation, DDataIndication, DEndIndication, DEndConfirmation, DAbortIndication, DPAbortIndication}
use Rattle.machine.specs.declared.event.Event.{Event}
use Rattle.machine.specs.declared.event.Event.TheVariants.{User, Forward, Service, TimerExpires, UnrecoverableSystemError}
use Rattle.machine.specs.declared.outcome.StepRefusal.{StepRefusal}
use Rattle.machine.specs.declared.outcome.StepRefusal.TheVariants.{Shape, Stale, Prohibited}
use Rattle.machine.specs.declared.outcome.Outcome.{Outcome}

-- "a user start"
unfoldable pub user_starts : UserPrimitive → Bool
user_starts (StartServiceRequest m k s) = true
user_starts (StartServiceResponse m x h) = false
user_starts (MessageServiceRequest h j) = false
user_starts (EndServiceRequest m h) = false
user_starts (EndServiceResponse m x h) = false
user_starts (UserAbortServiceRequest g x) = false

-- "a D-START indication"
unfoldable pub service_starts : ServicePrimitive → Bool
service_starts (DStartIndication x s q v) = true
service_starts (DStartConfirmation x o s v) = false
service_starts DDataIndication = false
service_starts DEndIndication = false
service_starts (DEndConfirmation x) = false
service_starts (DAbortIndication o) = false
service_starts DPAbortIndication = false

-- "a forward request is a start here too"
unfoldable pub is_start : Event → Bool
is_start (User u) = user_starts u
is_start (Forward k s) = true
is_start (Service p a) = service_starts p
is_start TimerExpires = false
is_start UnrecoverableSystemError = false

unfoldable pub is_service : Event → Bool
is_service (User u) = false
is_service (Forward k s) = false
is_service (Service p a) = true
is_service TimerExpires = false
is_service UnrecoverableSystemError = false

-- refusal 6: "a dialogue-service primitive other than a D-START indication whose number is not the record's, and a user start or a D-START
-- indication whose number is not above it"
unfoldable pub is_stale : ℕ → Event → ℕ → Bool
is_stale n e v = cond (is_start e) (not (ltb n v)) (is_service e && not (eqb v n))

-- the number that the record holds after an event that is not refused: a start's own, "also where its state or a fault turns the start
-- away"
unfoldable pub held_after : ℕ → Event → ℕ → ℕ
held_after n e v = cond (is_start e) v n

-- the order of refusals: SHAPE, STALE, PROHIBITED, then NO-MESSAGE and REPEAT of a message request. (ROOM comes before them all: crate
-- step, `entering`)
unfoldable pub refusal_of : Side → Record → ℕ → Event → ℕ → Option StepRefusal
refusal_of sd r n e v = cond (not (event_fits sd r.edition e)) (Some Shape) (cond (is_stale n e v) (Some Stale) (cond (not (permitted sd r e)) (Some Prohibited) (message_refusal r e)))

-- the first two of them
abbrev pub looked_over : Side → Record → ℕ → Event → ℕ → Option StepRefusal
looked_over sd r n e v = cond (not (event_fits sd r.edition e)) (Some Shape) (cond (is_stale n e v) (Some Stale) None)

unfoldable pub numbered_step : Side → Record → ℕ → Event → ℕ → Outcome
numbered_step sd r n e v = cond (is_none (refusal_of sd r n e v)) (acts sd r e) (refused (refusal_of sd r n e v) r)
