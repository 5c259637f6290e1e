use Rattle.envelope.specs.Envelopes.{most_bits}
use Rattle.fragments.proofs.Storing.{refusal_made}
use Rattle.fragments.proofs.taking.refuse.Goals as goal

pub returns : goal.returns
returns c = refusal_made most_bits _ _ _ _ c.number.ensures c.put_empty.ensures
