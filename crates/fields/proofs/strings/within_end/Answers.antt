use Rattle.bits.proofs.Inside.{is_within, not_within}
use Rattle.fields.proofs.Answers.{run_there, run_short}
use Rattle.fields.proofs.strings.within_end.Goals as goal

pub returns-then-within : goal.returns-then-within
returns-then-within c = run_there _ _ _ _ _ (is_within _ _ _ _ _ c.within.ensures c.if-within.true)

pub returns : goal.returns
returns c =
    run_short _ _ _ _ _ (not_within _ _ _ _ _ c.within.ensures c.if-within.false)
    c.refused_at.ensures
