use mathlib.Core.Path.{◌∙◌}
use native.Mathlib.Omega.{arith}
use Rattle.envelope.specs.Envelopes.{most_bits}
use Rattle.envelope.proofs.Sizes.{largest_is}
use Rattle.fragments.proofs.Storing.{load_long, load_many, load_is}
use Rattle.fragments.proofs.stored.load.Goals as goal

pub returns-then-rec-ne-SIZE : goal.returns-then-rec-ne-SIZE
returns-then-rec-ne-SIZE c = load_long most_bits _ (λ p. c.if-rec-ne-SIZE.true (omega (arith, largest_is)))

pub returns-then-n-gt-LARGEST : goal.returns-then-n-gt-LARGEST
returns-then-n-gt-LARGEST c =
    load_many most_bits _ _ (omega (arith, largest_is, c.if-rec-ne-SIZE.false)) c.count_in-n.ensures
    (omega (arith, largest_is))

pub returns : goal.returns
returns c =
    load_is most_bits _ _ (omega (arith, largest_is, c.if-rec-ne-SIZE.false)) c.count_in-n.ensures _ _
    (omega (arith, largest_is, c.if-n-gt-LARGEST.false)) c.place_in.ensures
    (c.load_by.ensures ∙ rw c.byte_at.ensures)
