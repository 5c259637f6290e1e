use Rattle.book.proofs.Marks.{bit_is}
use Rattle.book.proofs.numbers.bit_of.Goals as goal

pub returns : goal.returns
returns c = bit_is c.args.n c.requires
