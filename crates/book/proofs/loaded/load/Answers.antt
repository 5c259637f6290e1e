use Rattle.book.proofs.Books.{load_long, load_is, load_not}
use Rattle.book.proofs.loaded.load.Goals as goal

pub returns-then-b-ne-BYTES : goal.returns-then-b-ne-BYTES
returns-then-b-ne-BYTES c = load_long _ c.if-b-ne-BYTES.true

pub returns-then-eight_at-opened : goal.returns-then-eight_at-opened
returns-then-eight_at-opened c =
    load_is _ c.if-b-ne-BYTES.false _ c.marked-opened.ensures _ c.eight_at.ensures c.if-eight_at-opened.true

pub returns : goal.returns
returns c =
    load_not _ c.if-b-ne-BYTES.false _ c.marked-opened.ensures _ c.eight_at.ensures c.if-eight_at-opened.false
