use mathlib.Core.Path.{◌≡◌}
use borrow.Author.Rules.{rules}
use Rattle.std.specs.Prelude.{Err}
use Rattle.step.specs.Call.{service_by}
use Rattle.step.proofs.Fitting.{read_fits}
use Rattle.step.proofs.Runs.{stands_there}
use Rattle.step.proofs.Calling.{not_opened, is_opened, opened_room, given_odd, codes_odd, number_odd, answers, served}
use Rattle.step.proofs.call.service_answer.Goals as goal

pub returns-in_err-side : goal.returns-in_err-side
unfolding service_by
returns-in_err-side c =
    let e : c.from_residual.result ≡ Err c.in_err-side.field-0.0 = search rules in
    rw e (not_opened _ _ _ _ _ c.opened.ensures _ c.in_err-side.was)

pub returns-then-given-gt1 : goal.returns-then-given-gt1
unfolding service_by
returns-then-given-gt1 c =
    is_opened _ _ _ _ _ c.opened.ensures _ c.in_ok-side.was _ (given_odd _ _ _ _ _ _ _ _ _ _ c.if-given-gt1.true)

pub returns-then-not-fits : goal.returns-then-not-fits
unfolding service_by
returns-then-not-fits c =
    is_opened _ _ _ _ _ c.opened.ensures _ c.in_ok-side.was _ (codes_odd _ _ _ _ _ _ _ _ _ (read_fits _ _ _ _ _) _
    c.if-given-gt1.false _ c.fits.ensures c.if-not-fits.true)

pub returns-then-is_stale : goal.returns-then-is_stale
unfolding service_by
returns-then-is_stale c =
    is_opened _ _ _ _ _ c.opened.ensures _ c.in_ok-side.was _ (number_odd _ _ _ _ _ _ _ _ _ (read_fits _ _ _ _ _) _
    c.if-given-gt1.false _ c.fits.ensures c.if-not-fits.false _ c.is_stale.ensures c.if-is_stale.true)

pub conclude-requires : goal.conclude-requires
conclude-requires c = (
  answers _ _ _ _ _ c.service_fitting-o.ensures,
  opened_room _ _ _ _ _ c.opened.ensures c.in_ok-side.was,
  (stands_there _ _ _ _ _ _ _ c.arrived-x.ensures).0,
  (stands_there _ _ _ _ _ _ _ c.arrived-x.ensures).1,
)

pub returns : goal.returns
unfolding service_by
returns c =
    is_opened _ _ _ _ _ c.opened.ensures _ c.in_ok-side.was _ (served _ _ _ _ _ _ _ _ _ _ c.if-given-gt1.false _
    c.fits.ensures c.if-not-fits.false _ c.is_stale.ensures c.if-is_stale.false _ c.arrived-x.ensures _
    c.service_fitting-o.ensures _ c.conclude.ensures)
