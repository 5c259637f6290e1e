use mathlib.Core.Path.{refl}
use Rattle.layout.proofs.Pieces.{place_is}
use Rattle.layout.proofs.place.place_bytes.Goals as goal

pub returns : goal.returns
returns c =
    place_is _ _ _ _ _ _ _ _ _ _ _ _ _ _ c.high.ensures c.low.ensures
    c.flag_code.ensures c.high-2.ensures c.low-2.ensures c.high-3.ensures
    c.low-3.ensures c.flag_code-2.ensures c.high-4.ensures
    c.low-4.ensures c.high-5.ensures c.low-5.ensures refl
