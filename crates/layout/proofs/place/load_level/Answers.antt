use Rattle.layout.specs.Layout.{level_of}
use Rattle.layout.proofs.place.load_level.Goals as goal

pub returns : goal.returns
unfolding level_of
returns c = rw (c.of_two-first.ensures, c.of_two-second.ensures)
