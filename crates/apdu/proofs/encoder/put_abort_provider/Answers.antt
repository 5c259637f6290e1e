use native.Mathlib.Omega.{arith}
use Rattle.apdu.specs.Encoding.{pdu_bits}
use Rattle.apdu.proofs.Writers.{both_have}
use Rattle.apdu.proofs.encoder.put_abort_provider.Goals as goal

pub put_choice-requires : goal.put_choice-requires
put_choice-requires c = both_have c.args.pdus 1 (omega arith)

pub returns : goal.returns
unfolding pdu_bits
returns c = c.put_choice.ensures
