-- The step is SHAPE, and else the step of an event whose codes are of their types.
-- Assumes nothing.
use mathlib.Core.Path.{◌≡◌}
use mathlib.Core.Bool.{true, false}
use Rattle.control.specs.declared.Side.{Side}
use Rattle.machine.specs.Event.{event_fits}
use Rattle.machine.specs.Outcome.{refused}
use Rattle.machine.specs.Step.{refusal_of, step, refusal_fitting, step_fitting}
use Rattle.machine.specs.declared.record.Record.{Record}
use Rattle.machine.specs.declared.event.Event.{Event}
use Rattle.machine.specs.declared.outcome.StepRefusal.TheVariants.{Shape}
use Rattle.std.specs.Prelude.{Some}

pub step_shape : (sd : Side) (r : Record) (e : Event) → event_fits sd r.edition e ≡ false → step sd r e ≡ refused (Some Shape) r
unfolding step refusal_of
step_shape sd r e f = rw f

pub step_of_fitting : (sd : Side) (r : Record) (e : Event) → event_fits sd r.edition e ≡ true → step sd r e ≡ step_fitting sd r e
unfolding step refusal_of step_fitting refusal_fitting
step_of_fitting sd r e f = rw f
