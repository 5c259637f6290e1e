use Rattle.apdu.proofs.ForwardWriters.{triple_put}
use Rattle.apdu.proofs.heading_writer.put_triple.Goals as goal

pub returns : goal.returns
returns c =
    triple_put _ _ _ _ _ _ _ _ _ _ _ _ c.requires.0 c.requires.1 c.put_whole.ensures
    c.place-p.ensures c.put_whole-2.ensures c.place-q.ensures
    c.put_whole-3.ensures
