use Prim.Native.Nat.{◌-◌}
use lib.ListN.{length}
use Rattle.envelope.specs.Envelopes.{most_bits}
use Rattle.fragments.proofs.Resuming.{Resuming}
use Rattle.fragments.proofs.taking.resume.Given as goal

abbrev pub invariant-loop-lacks : goal.invariant-loop-lacks
invariant-loop-lacks l = Resuming most_bits l.initial.rec l.rec l.fragment l.n l.m l.i l.lacks

abbrev pub decreases-loop-lacks : goal.decreases-loop-lacks
decreases-loop-lacks l = length l.fragment - l.i
