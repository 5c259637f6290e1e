-- Words of the laws: where a search stops, what it finds, and a difference.
-- Assumes nothing.
use Rattle.std.specs.Prelude.{ℕ, Result}
use Rattle.envelope.specs.declared.EnvelopeRefusal.{EnvelopeRefusal}
use Rattle.recordings.specs.declared.Stop.{Stop}
use Rattle.recordings.specs.declared.Difference.{Difference}

abbrev pub stop : EnvelopeRefusal → ℕ → ℕ → Stop
stop r recording at = record { refusal = r; recording = recording; byte = at }

abbrev pub Searched : Type 0
Searched = Result (Unit {0}) Stop

abbrev pub found : ℕ → ℕ → ℕ → Difference
found i at f = record { before = i; byte = at; field = f }
