use Rattle.inner.proofs.MessageWritten.{message_first, message_second, message_third}
use Rattle.layout.specs.Layout.{message_of}
use Rattle.layout.proofs.Fronts.{front_put}
use Rattle.layout.proofs.writing.put_laid.Goals as goal

pub returns-in_err-p : goal.returns-in_err-p
returns-in_err-p c =
    rw c.from_residual.ensures (message_first _ (message_of c.args.b.now) _ _ _ _ _ _
    (front_put _ _ c.load_header.ensures _ _ _ _ _ c.put_header.ensures)
    c.in_err-p.was)

pub returns-in_err-q : goal.returns-in_err-q
unfolding message_of
returns-in_err-q c =
    rw c.from_residual-in_err-q.ensures (message_second _ (message_of c.args.b.now) _ _ _ _ _ _
    (front_put _ _ c.load_header.ensures _ _ _ _ _ c.put_header.ensures) _
    c.in_ok-p.was _ _ c.put_count.ensures c.in_err-q.was)

pub returns : goal.returns
unfolding message_of
returns c =
    message_third _ (message_of c.args.b.now) _ _ _ _ _ _
    (front_put _ _ c.load_header.ensures _ _ _ _ _ c.put_header.ensures) _
    c.in_ok-p.was _ _ c.put_count.ensures _ c.in_ok-q.was _ _
    c.put_row.ensures
