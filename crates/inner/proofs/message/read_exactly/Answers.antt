use mathlib.Core.Path.{sym, ◌∙◌}
use Rattle.bits.proofs.Inside.{is_within, not_within}
use Rattle.inner.proofs.HeaderWays.{exactly_more, exactly_done}
use Rattle.inner.proofs.message.read_exactly.Goals as goal

pub returns-then-within : goal.returns-then-within
returns-then-within c =
    c.refused_at.ensures ∙ sym (exactly_more _ _ _ c.read_message.ensures _ _ c.in_ok-message.was
    (is_within _ _ _ _ _ c.within.ensures c.if-within.true).test)

pub returns : goal.returns
returns c =
    sym c.in_ok-message.was ∙ exactly_done _ _ _ c.read_message.ensures _ _ c.in_ok-message.was
    (not_within _ _ _ _ _ c.within.ensures c.if-within.false)
