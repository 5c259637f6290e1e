-- Events in a row at one machine.
-- Assumes nothing.
use mathlib.Core.List.{List, [], ◌∷◌}
use Rattle.machine.specs.Step.{step}
use Rattle.control.specs.declared.Side.{Side}
use Rattle.machine.specs.declared.record.Record.{Record}
use Rattle.machine.specs.declared.event.Event.{Event}

unfoldable pub run : Side → Record → List Event → Record
run sd r [] = r
run sd r (e ∷ es) = run sd (step sd r e).next es
