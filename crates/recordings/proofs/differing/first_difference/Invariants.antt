use Prim.Native.Nat.{◌-◌, ◌≤◌}
use lib.ListN.{length}
use Rattle.envelope.specs.Envelopes.{most_bits}
use Rattle.recordings.proofs.Differences.{Differs}
use Rattle.recordings.proofs.differing.first_difference.Given as goal

abbrev pub invariant-loop-at : goal.invariant-loop-at
invariant-loop-at l = (l.at ≤ length l.first) × (l.before ≤ l.at) × (Differs most_bits l.first l.second l.before l.at)

abbrev pub decreases-loop-at : goal.decreases-loop-at
decreases-loop-at l = length l.first - l.at
