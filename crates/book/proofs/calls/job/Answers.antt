use native.Mathlib.Omega.{arith}
use Rattle.book.proofs.Books.{is_known, not_known, book_long, job_none, job_above, job_at_is}
use Rattle.book.proofs.calls.job.Goals as goal

pub returns-in_default : goal.returns-in_default
returns-in_default c = job_none _ _ (not_known _ _ _ c.load.ensures c.in_default.is)

pub returns-then-number : goal.returns-then-number
returns-then-number c = job_above _ _ _ (is_known _ _ _ c.load.ensures c.in-Ok.is) c.if-number.true

pub eight_at-requires : goal.eight_at-requires
eight_at-requires c = omega (arith, book_long _ (is_known _ _ _ c.load.ensures c.in-Ok.is).book)

pub returns : goal.returns
returns c =
    job_at_is _ _ _ _ (is_known _ _ _ c.load.ensures c.in-Ok.is) c.if-number.false
    c.eight_at.ensures
