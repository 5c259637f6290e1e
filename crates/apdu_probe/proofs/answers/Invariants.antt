use Rattle.std.proofs.Common.{length}
use Rattle.apdu_probe.proofs.answers.Given as goal

abbrev pub decreases-loop-h : goal.decreases-loop-h
decreases-loop-h g l = length l.rest
