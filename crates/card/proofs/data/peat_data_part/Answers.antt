use Rattle.card.proofs.Taking.{part_small}
use Rattle.card.proofs.data.peat_data_part.Goals as goal

pub put_out-requires : goal.put_out-requires
put_out-requires c =
    part_small _ _ _ _ _ _ _ c.read_data.ensures c.in-Ok.is c.unit_of.ensures c.chosen.ensures
