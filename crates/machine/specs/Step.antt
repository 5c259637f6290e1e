-- The step of either machine: the refusals in document 01's order, else the clause of the event.
use Rattle.std.specs.Prelude.{Bool, true, false, not, cond, None, Option, Some}
use Rattle.control.specs.Control.{takes, takes_forward}
use Rattle.machine.specs.Event.{event_fits}
use Rattle.machine.specs.Outcome.{is_none, refused}
use Rattle.machine.specs.Exceptions.{timer_expires, system_error}
use Rattle.machine.specs.Calls.{call_of, unsent, called}
use Rattle.machine.specs.Forwards.{forward_request}
use Rattle.machine.specs.Primitives.{reached}
use Rattle.control.specs.declared.Side.{Side}
use Rattle.machine.specs.declared.record.Record.{Record}
use Rattle.machine.specs.declared.event.Event.{Event}
use Rattle.machine.specs.declared.event.Event.TheVariants.{User, Forward, Service, TimerExpires, UnrecoverableSystemError}
use Rattle.machine.specs.declared.outcome.StepRefusal.{StepRefusal}
use Rattle.machine.specs.declared.outcome.StepRefusal.TheVariants.{Shape, Prohibited}
use Rattle.machine.specs.declared.outcome.Outcome.{Outcome}

-- has a user primitive an action in this state with this DSC (2.3.5.3.1.1, 2.3.5.5.1.1); an expiry asks whether the timer runs;
-- a dialogue-service primitive and a system error are never prohibited
unfoldable pub permitted : Side → Record → Event → Bool
permitted sd r (User u) = takes sd r.control (call_of u)
permitted sd r (Forward k s) = takes_forward sd r.control
permitted sd r (Service p a) = true
permitted sd r TimerExpires = r.timer
permitted sd r UnrecoverableSystemError = true

unfoldable pub message_refusal : Record → Event → Option StepRefusal
message_refusal r (User u) = unsent r.highest u
message_refusal r (Forward k s) = None
message_refusal r (Service p a) = None
message_refusal r TimerExpires = None
message_refusal r UnrecoverableSystemError = None

-- the order of refusals: SHAPE, PROHIBITED, then NO-MESSAGE and REPEAT of a message request
unfoldable pub refusal_of : Side → Record → Event → Option StepRefusal
refusal_of sd r e = cond (not (event_fits sd r.edition e)) (Some Shape) (cond (not (permitted sd r e)) (Some Prohibited) (message_refusal r e))

-- the same of an event whose codes are of their types
unfoldable pub refusal_fitting : Side → Record → Event → Option StepRefusal
refusal_fitting sd r e = cond (not (permitted sd r e)) (Some Prohibited) (message_refusal r e)

-- the clause of an event that is not refused
unfoldable pub acts : Side → Record → Event → Outcome
acts sd r (User u) = called r u
acts sd r (Forward k s) = forward_request r k s
acts sd r (Service p a) = reached sd r p a
acts sd r TimerExpires = timer_expires r
acts sd r UnrecoverableSystemError = system_error r

unfoldable pub step : Side → Record → Event → Outcome
step sd r e = cond (is_none (refusal_of sd r e)) (acts sd r e) (refused (refusal_of sd r e) r)

-- the step of an event whose codes are of their types
unfoldable pub step_fitting : Side → Record → Event → Outcome
step_fitting sd r e = cond (is_none (refusal_fitting sd r e)) (acts sd r e) (refused (refusal_fitting sd r e) r)
