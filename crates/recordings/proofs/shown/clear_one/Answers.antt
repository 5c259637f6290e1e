use Rattle.recordings.proofs.Shows.{clear_same}
use Rattle.recordings.proofs.shown.clear_one.Goals as goal

pub returns-then-tallies-at-eq0 : goal.returns-then-tallies-at-eq0
returns-then-tallies-at-eq0 c = clear_same _ _ c.if-tallies-at-eq0.true
