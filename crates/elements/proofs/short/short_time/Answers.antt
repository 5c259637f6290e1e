use mathlib.Core.Path.{sym, ◌∙◌}
use Rattle.elements.specs.Measuring.{time_fits_use}
use Rattle.elements.proofs.Joined.{time_said}
use Rattle.elements.proofs.short.short_time.Goals as goal

pub returns-then-time_fits_use : goal.returns-then-time_fits_use
unfolding time_fits_use
returns-then-time_fits_use c = time_said _ (sym c.time_fits_use.ensures ∙ c.if-time_fits_use.true)
