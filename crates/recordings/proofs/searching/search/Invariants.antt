use mathlib.Core.Path.{◌≡◌}
use Prim.Native.Nat.{◌-◌, ◌≤◌}
use lib.ListN.{length}
use Rattle.envelope.specs.Envelopes.{most_bits}
use Rattle.envelope.specs.Strings.{walk}
use Rattle.recordings.specs.Recordings.{searched}
use Rattle.recordings.proofs.Walks.{from}
use Rattle.recordings.proofs.Searches.{left_of}
use Rattle.recordings.proofs.searching.search.Given as goal

abbrev pub invariant-loop-at : goal.invariant-loop-at
invariant-loop-at l = (from most_bits l.s l.at).ending ≡ (walk most_bits l.s).ending

abbrev pub decreases-loop-at : goal.decreases-loop-at
decreases-loop-at l = length l.s - l.at

abbrev pub invariant-recordings : goal.invariant-recordings
invariant-recordings l = (1 ≤ l.recording) × (l.recording ≤ 3) × (left_of most_bits l.recording l.first l.second ≡ searched most_bits l.first l.second)

abbrev pub decreases-recordings : goal.decreases-recordings
decreases-recordings l = 3 - l.recording
