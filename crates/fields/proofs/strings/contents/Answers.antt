use native.Mathlib.Omega.{arith}
use Rattle.std.proofs.num.Checked.{at_none}
use Rattle.fields.proofs.Answers.{past_all, run_short}
use Rattle.fields.proofs.strings.contents.Goals as goal

pub returns-in_default : goal.returns-in_default
returns-in_default c =
    run_short _ _ _ _ _ (past_all _ _ _ _ (omega (arith, at_none _ _ _ c.checked_mul.ensures c.in_default.is)))
    c.refused_at.ensures
