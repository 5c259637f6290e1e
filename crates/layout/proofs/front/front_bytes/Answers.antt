use Rattle.layout.proofs.Pieces.{front_is}
use Rattle.layout.proofs.front.front_bytes.Goals as goal

pub returns : goal.returns
returns c =
    front_is _ _ _ _ _ _ c.flag_code.ensures c.high.ensures c.low.ensures
    c.flag_code-2.ensures
