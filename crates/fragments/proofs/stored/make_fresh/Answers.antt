use native.Mathlib.Omega.{arith}
use Rattle.envelope.specs.Envelopes.{most_bits}
use Rattle.envelope.proofs.Sizes.{largest_is}
use Rattle.fragments.proofs.Storing.{fresh_odd, fresh_made}
use Rattle.fragments.proofs.stored.make_fresh.Goals as goal

pub returns-then-rec-ne-SIZE : goal.returns-then-rec-ne-SIZE
returns-then-rec-ne-SIZE c = fresh_odd most_bits _ (λ p. c.if-rec-ne-SIZE.true (omega (arith, largest_is)))

pub put_empty-requires : goal.put_empty-requires
put_empty-requires c = omega (arith, largest_is, c.if-rec-ne-SIZE.false)

pub returns : goal.returns
returns c = fresh_made most_bits _ _ (omega (arith, largest_is, c.if-rec-ne-SIZE.false)) c.put_empty.ensures
