use Rattle.layout.proofs.Texts.{number_there, not_short}
use Rattle.layout.proofs.characters.number_of.Goals as goal

pub returns-in_default : goal.returns-in_default
returns-in_default c = not_short _ _ _ _ c.read_bits.ensures c.requires.0 c.requires.1 c.in_default.is

pub returns : goal.returns
returns c = number_there _ _ _ _ c.read_bits.ensures _ _ c.in-Some.is
