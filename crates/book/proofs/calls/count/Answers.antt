use Rattle.book.proofs.Books.{is_known, count_is}
use Rattle.book.proofs.calls.count.Goals as goal

pub returns : goal.returns
returns c = count_is _ _ _ (is_known _ _ _ c.load.ensures c.in_ok-opened.was) c.open_count.ensures
