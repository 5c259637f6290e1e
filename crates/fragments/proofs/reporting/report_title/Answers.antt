use Rattle.fragments.proofs.Lines.{title_put}
use Rattle.fragments.proofs.reporting.report_title.Goals as goal

pub returns : goal.returns
returns c = title_put _ _ _ c.if-out-lt-LAST_ROOM.false c.put_text.ensures
