use native.Mathlib.Omega.{arith}
use Rattle.std.proofs.num.Checked.{at_some, at_none}
use Rattle.fields.proofs.Writers.{refused, too_long, not_there, string_put}
use Rattle.fields.proofs.strings.put_string.Goals as goal

pub returns-then-n-ge16384 : goal.returns-then-n-ge16384
returns-then-n-ge16384 c = refused _ _ _ _ _ (too_long _ _ c.if-n-ge16384.true)

pub returns-in_err-count : goal.returns-in_err-count
returns-in_err-count c =
    rw c.from_residual.ensures
    (not_there _ _ _ _ _ _ _ _ _ (omega (arith, at_none _ _ _ c.checked_mul.ensures c.in_err-count.was)))

pub returns : goal.returns
returns c =
    rw (← (at_some _ _ _ _ c.checked_mul.ensures c.in_ok-count.was).1)
    (string_put _ _ _ _ _ _ _ _ _ c.if-n-ge16384.false c.put_counted.ensures)
