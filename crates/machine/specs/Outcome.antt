-- What a call answers (document 01, "The numbers a refusal carries", "The two machines").
use Rattle.std.specs.Prelude.{ℕ, Bool, true, false, None, Option, Some}
use Rattle.machine.specs.declared.event.UserData.{UserData}
use Rattle.machine.specs.declared.event.UserData.TheVariants.{Absent}
use Rattle.machine.specs.declared.record.Record.{Record}
use Rattle.machine.specs.declared.outcome.StepRefusal.{StepRefusal}
use Rattle.machine.specs.declared.outcome.StepRefusal.TheVariants.{Shape, Stale, Prohibited, NoMessage, Repeat}
use Rattle.machine.specs.declared.outcome.Invoked.{Invoked}
use Rattle.machine.specs.declared.outcome.Told.{Told}
use Rattle.machine.specs.declared.outcome.Outcome.{Outcome}

-- document 01's number; 0: not refused
abbrev pub refusal_number : Option StepRefusal → ℕ
refusal_number None = 0
refusal_number (Some Shape) = 2
refusal_number (Some Stale) = 6
refusal_number (Some Prohibited) = 3
refusal_number (Some NoMessage) = 4
refusal_number (Some Repeat) = 5

abbrev pub is_none : Option StepRefusal → Bool
is_none None = true
is_none (Some x) = false

-- "a refusal returns its number with every other result zero", and the record stays
abbrev pub refused : Option StepRefusal → Record → Outcome
refused why r = record { refusal = why; next = r; invoked = None; told = None; apdu = Absent; delivers = false }

abbrev pub outcome : Record → Option Invoked → Option Told → UserData → Bool → Outcome
outcome r i t a d = record { refusal = None; next = r; invoked = i; told = t; apdu = a; delivers = d }
