use Rattle.layout.specs.Layout.{header_of}
use Rattle.layout.proofs.front.load_header.Goals as goal

pub returns : goal.returns
unfolding header_of
returns c = rw c.of_two-year.ensures
