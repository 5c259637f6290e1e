use native.Mathlib.Omega.{arith}
use borrow.Author.Rules.{rules}
use Rattle.envelope.specs.Envelopes.{most_bits}
use Rattle.envelope.proofs.Numbers.{AllBytes}
use Rattle.recordings.proofs.Walks.{onward}
use Rattle.recordings.proofs.Differences.{differs_all, differs_end, differs_short, differs_stop, differs_other, differs_here, differs_more, body_within}
use Rattle.recordings.proofs.differing.first_difference.Goals as goal

pub loop-at-init : goal.loop-at-init
loop-at-init c = (search rules, search rules, differs_all most_bits _ _)

pub returns-then-second-at : goal.returns-then-second-at
returns-then-second-at c =
    differs_short most_bits _ _ c.loop-at.before c.loop-at.at c.if-second-at.true
    c.loop-at.invariant.2

pub returns-in_default : goal.returns-in_default
returns-in_default c =
    differs_stop most_bits _ _ c.loop-at.before c.loop-at.at _ _ c.loop-at-test.true
    c.read_envelope.ensures c.in_default.is c.loop-at.invariant.2

pub returns-in_default-read_envelope : goal.returns-in_default-read_envelope
returns-in_default-read_envelope c =
    differs_other most_bits _ _ c.loop-at.before c.loop-at.at _ _ (omega arith)
    c.read_envelope-in-loop-at.ensures c.in_default-read_envelope.is c.loop-at.invariant.2

pub field_of-field-requires : goal.field_of-field-requires
field_of-field-requires c =
    let one : AllBytes c.args.first.now = λ k. omega (arith, c.type_inv.first k) in
    let two : AllBytes c.args.second.now = λ k. omega (arith, c.type_inv.second k) in (
      body_within most_bits _ c.loop-at.at _ _ one c.read_envelope.ensures
          c.in-Ok.is,
      body_within most_bits _ c.loop-at.at _ _ two
          c.read_envelope-in-loop-at.ensures c.in-Ok-read_envelope.is,
    )

pub returns-then-field-ne0 : goal.returns-then-field-ne0
returns-then-field-ne0 c =
    let one : AllBytes c.args.first.now = λ k. omega (arith, c.type_inv.first k) in
    let two : AllBytes c.args.second.now = λ k. omega (arith, c.type_inv.second k) in
    differs_here most_bits _ _ c.loop-at.before c.loop-at.at _ _ _ _ _ one
    two c.loop-at-test.true (omega arith) c.read_envelope.ensures
    c.in-Ok.is c.read_envelope-in-loop-at.ensures c.in-Ok-read_envelope.is c.field_of-field.ensures
    c.if-field-ne0.true c.loop-at.invariant.2

pub loop-at-smaller : goal.loop-at-smaller
loop-at-smaller c =
    let one : AllBytes c.args.first.now = λ k. omega (arith, c.type_inv.first k) in
    omega (arith, onward most_bits _ _ _ _ one c.read_envelope.ensures c.in-Ok.is)

pub loop-at-preserved : goal.loop-at-preserved
loop-at-preserved c =
    let one : AllBytes c.args.first.now = λ k. omega (arith, c.type_inv.first k) in
    let two : AllBytes c.args.second.now = λ k. omega (arith, c.type_inv.second k) in (
      omega (arith, onward most_bits _ _ _ _ one c.read_envelope.ensures c.in-Ok.is),
      omega
          (arith, onward most_bits _ _ _ _ one c.read_envelope.ensures c.in-Ok.is),
      differs_more most_bits _ _ c.loop-at.before c.loop-at.at _ _ _ _ _ one
          two c.loop-at-test.true (omega arith)
          c.read_envelope.ensures c.in-Ok.is c.read_envelope-in-loop-at.ensures
          c.in-Ok-read_envelope.is c.field_of-field.ensures c.if-field-ne0.false c.loop-at.invariant.2,
    )

pub returns : goal.returns
returns c = differs_end most_bits _ _ c.loop-at.before c.loop-at.at (omega arith) c.loop-at.invariant.2
