use mathlib.Core.Path.{◌≡◌}
use Prim.Native.Nat.{◌-◌}
use lib.ListN.{length, take}
use Rattle.envelope.specs.Envelopes.{most_bits}
use Rattle.recordings.specs.Blocks.{tallied_all}
use Rattle.recordings.specs.Recordings.{jobs}
use Rattle.recordings.proofs.Gathers.{jobs_from}
use Rattle.recordings.proofs.tally.tally.Given as goal

abbrev pub invariant-loop-at : goal.invariant-loop-at
invariant-loop-at l = (length l.tallies ≡ length l.initial.tallies) × (tallied_all (jobs_from most_bits l.s l.at) (take l.n l.block) l.tallies ≡ tallied_all (jobs most_bits l.s) (take l.n l.block) l.initial.tallies)

abbrev pub decreases-loop-at : goal.decreases-loop-at
decreases-loop-at l = length l.s - l.at
