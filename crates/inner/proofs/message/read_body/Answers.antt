use Rattle.inner.proofs.Counted.{count_most}
use Rattle.inner.proofs.message.read_body.Goals as goal

pub read_places-requires : goal.read_places-requires
read_places-requires c = count_most _ _ _ _ _ c.read_count.ensures c.in_ok-n.was
