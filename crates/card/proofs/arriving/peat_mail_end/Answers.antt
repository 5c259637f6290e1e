use Rattle.card.specs.Arriving.{end_mail}
use Rattle.card.proofs.Arrived.{arrived_as}
use Rattle.card.proofs.arriving.peat_mail_end.Goals as goal

pub returns : goal.returns
unfolding end_mail
returns c = arrived_as _ _ _ _ c.taken_number.ensures c.end.ensures
