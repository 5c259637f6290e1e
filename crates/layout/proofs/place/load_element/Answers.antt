use Rattle.layout.specs.Layout.{element_of}
use Rattle.layout.proofs.place.load_element.Goals as goal

pub returns : goal.returns
unfolding element_of
returns c = rw (c.load_level-level.ensures, c.load_level-other.ensures, c.of_two-characters.ensures)
