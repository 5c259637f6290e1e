use Rattle.elements.proofs.OneRead.{code_is}
use Rattle.elements.proofs.arguments.read_code.Goals as goal

pub returns : goal.returns
returns c = code_is _ _ _ _ _ _ c.read_bits.ensures c.in-Some.is
