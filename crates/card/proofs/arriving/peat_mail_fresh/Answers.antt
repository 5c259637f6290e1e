use Rattle.card.specs.Arriving.{fresh_mail}
use Rattle.card.proofs.Arrived.{arrived_as}
use Rattle.card.proofs.arriving.peat_mail_fresh.Goals as goal

pub returns : goal.returns
unfolding fresh_mail
returns c = arrived_as _ _ _ _ c.taken_number.ensures c.make_fresh.ensures
