use Rattle.layout.proofs.Fronts.{count_joined}
use Rattle.layout.proofs.writing.put_count.Goals as goal

pub returns-then-within : goal.returns-then-within
returns-then-within c =
    count_joined _ _ _ _ _ _ _ c.is_count.ensures c.if-is_count.true _
    c.within.ensures c.if-within.true c.put_bits.ensures
