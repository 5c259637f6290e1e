use mathlib.Core.Path.{refl}
use Rattle.bits.proofs.Bytes.{bits_to_is}
use Rattle.layout.proofs.Texts.{few_are}
use Rattle.layout.proofs.characters.copy_few.Goals as goal

pub returns : goal.returns
returns c =
    few_are _ _ _ _ _ _ _ _ (bits_to_is _ _) refl c.requires.0 c.number_of-v.ensures
    c.spread.ensures
