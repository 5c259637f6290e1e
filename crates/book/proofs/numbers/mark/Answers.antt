use mathlib.Core.Path.{sym}
use Rattle.book.proofs.Marks.{mark_one}
use Rattle.book.proofs.numbers.mark.Goals as goal

pub returns-else-job-eq0 : goal.returns-else-job-eq0
returns-else-job-eq0 c = sym (mark_one _ c.if-job-eq0.false)
