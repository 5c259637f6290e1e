use mathlib.Core.Path.{ap}
use native.Mathlib.Omega.{arith}
use borrow.Author.Rules.{rules}
use Rattle.envelope.specs.Envelopes.{most_bits}
use Rattle.envelope.specs.Strings.{Walk}
use Rattle.envelope.proofs.Numbers.{AllBytes}
use Rattle.recordings.proofs.Walks.{from_start, onward}
use Rattle.recordings.proofs.Searches.{left_first, next_recording, stops_there, all_read, read_on_is, read_out, read_stopped}
use Rattle.recordings.proofs.searching.search.Goals as goal

pub recordings-init : goal.recordings-init
recordings-init c = (search rules, search rules, left_first most_bits _ _)

pub loop-at-init : goal.loop-at-init
loop-at-init c = ap (λ (w : Walk). w.ending) (from_start most_bits _)

pub loop-at-smaller : goal.loop-at-smaller
loop-at-smaller c =
    let bytes : AllBytes c.chosen-s.result.now = λ k. omega (arith, c.type_inv.s k) in
    omega (arith, onward most_bits _ _ _ _ bytes c.read_envelope.ensures c.in-Ok.is)

pub loop-at-preserved : goal.loop-at-preserved
loop-at-preserved c =
    let bytes : AllBytes c.chosen-s.result.now = λ k. omega (arith, c.type_inv.s k) in
    read_on_is most_bits _ _ _ _ _ bytes (omega arith) c.read_envelope.ensures c.in-Ok.is c.loop-at.invariant

pub recordings-preserved : goal.recordings-preserved
recordings-preserved c = (
  search rules,
  search rules,
  next_recording most_bits _ _ _ c.loop-at.at _ (search rules) (search rules)
      (rw c.chosen-s.ensures at (read_out most_bits _ _ _ (omega arith) c.loop-at.invariant))
      c.recordings.invariant.2,
)

pub returns-then-recording-gt2 : goal.returns-then-recording-gt2
returns-then-recording-gt2 c = all_read most_bits _ _ _ _ (search rules) c.recordings.invariant.2

pub returns-in-Err : goal.returns-in-Err
returns-in-Err c =
    stops_there most_bits _ _ _ _ _ _ (search rules) (search rules) (rw c.chosen-s.ensures at (read_stopped most_bits _ _ _ _ _
    (omega arith) c.read_envelope.ensures c.in-Err.is c.loop-at.invariant)) c.recordings.invariant.2
