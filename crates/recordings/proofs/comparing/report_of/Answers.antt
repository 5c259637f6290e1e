use mathlib.Core.Path.{◌∙◌}
use borrow.Author.Tests.{lt-ltb, le-ltb}
use Rattle.recordings.specs.Showing.{reported, longer, rest_at}
use Rattle.recordings.proofs.comparing.report_of.Goals as goal

pub returns-then-m-n : goal.returns-then-m-n
unfolding reported longer rest_at
returns-then-m-n c = c.report.ensures ∙ rw (c.in-None.is, lt-ltb _ _ c.if-m-n.true)

pub returns-then-n-m : goal.returns-then-n-m
unfolding reported longer rest_at
returns-then-n-m c =
    c.report-then-n-m.ensures ∙ rw
    (c.in-None.is, le-ltb _ _ c.if-m-n.false, lt-ltb _ _ c.if-n-m.true)

pub returns-else-n-m : goal.returns-else-n-m
unfolding reported longer rest_at
returns-else-n-m c =
    c.report-in-None.ensures ∙ rw
    (c.in-None.is, le-ltb _ _ c.if-m-n.false, le-ltb _ _ c.if-n-m.false)

pub returns-in-Some : goal.returns-in-Some
unfolding reported
returns-in-Some c = c.report-in-Some.ensures ∙ rw c.in-Some.is
