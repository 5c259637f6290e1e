use mathlib.Core.Path.{refl, ◌∙◌}
use native.Mathlib.Omega.{arith}
use Rattle.envelope.specs.Envelopes.{most_bits}
use Rattle.envelope.proofs.Numbers.{AllBytes}
use Rattle.recordings.proofs.Walks.{onward}
use Rattle.recordings.proofs.Tallies.{tally_start, tally_more, tally_out, tally_stop}
use Rattle.recordings.proofs.tally.tally.Goals as goal

pub loop-at-init : goal.loop-at-init
loop-at-init c = (refl, tally_start most_bits _ _ _)

pub tally_one-requires : goal.tally_one-requires
tally_one-requires c = (c.requires.0, omega (arith, c.requires.1, c.loop-at.invariant.0))

pub loop-at-smaller : goal.loop-at-smaller
loop-at-smaller c =
    let bytes : AllBytes c.args.s.now = λ k. omega (arith, c.type_inv.s k) in
    omega (arith, onward most_bits _ _ _ _ bytes c.read_envelope.ensures c.in-Ok.is)

pub loop-at-preserved : goal.loop-at-preserved
loop-at-preserved c =
    let bytes : AllBytes c.args.s.now = λ k. omega (arith, c.type_inv.s k) in (
      c.tally_one.auto.tallies ∙ c.loop-at.invariant.0,
      tally_more most_bits _ _ _ _ _ _ _ _
          bytes c.loop-at-test.true c.read_envelope.ensures c.in-Ok.is
          c.tally_one.ensures c.loop-at.invariant.1,
    )

pub shape_of-tallies-in-Err : goal.shape_of-tallies-in-Err
shape_of-tallies-in-Err c = c.loop-at.invariant.0

pub returns-in-Err : goal.returns-in-Err
returns-in-Err c =
    tally_stop most_bits _ _ _ _ _ _ _ c.loop-at-test.true c.read_envelope.ensures
    c.in-Err.is c.loop-at.invariant.1

pub shape_of-tallies : goal.shape_of-tallies
shape_of-tallies c = c.loop-at.invariant.0

pub returns : goal.returns
returns c = tally_out most_bits _ c.loop-at.at _ _ _ (omega arith) c.loop-at.invariant.1
