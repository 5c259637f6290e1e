use Rattle.inner.proofs.Counted.{count_is}
use Rattle.inner.proofs.message.read_count.Goals as goal

pub returns-in-Some : goal.returns-in-Some
returns-in-Some c = count_is _ _ _ _ _ _ c.read_bits.ensures c.in-Some.is c.if-v.true
