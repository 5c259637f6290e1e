use Rattle.envelope.specs.Envelopes.{most_bits}
use Rattle.fragments.proofs.Storing.{empty_put}
use Rattle.fragments.proofs.stored.put_empty.Goals as goal

pub returns : goal.returns
returns c =
    empty_put most_bits c.args.rec.now _ _ _ _ c.requires c.put_zeros.ensures
    c.put_head.ensures
