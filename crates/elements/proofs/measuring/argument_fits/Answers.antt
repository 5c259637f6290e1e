use mathlib.Core.Path.{◌∙◌}
use Rattle.elements.proofs.Measured.{argument_parts}
use Rattle.elements.proofs.measuring.argument_fits.Goals as goal

pub returns-then-parts_fit : goal.returns-then-parts_fit
returns-then-parts_fit c =
    rw (← c.used_by.ensures, ← c.parts_fit.ensures, c.if-parts_fit.true, ← c.text_fits_kind.ensures) at (argument_parts
    c.args.kind c.args.e c.args.text.now)

pub returns-else-parts_fit : goal.returns-else-parts_fit
returns-else-parts_fit c =
    c.if-parts_fit.false ∙ (rw (← c.used_by.ensures, ← c.parts_fit.ensures, c.if-parts_fit.false) at (argument_parts
    c.args.kind c.args.e c.args.text.now))
