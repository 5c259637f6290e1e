use Rattle.std.proofs.Common.{◌+◌, ◌-◌, length}
use Rattle.envelope.specs.Envelopes.{most_bits}
use Rattle.fragments.proofs.Lines.{Reporting}
use Rattle.fragments.proofs.reporting.report_lines.Given as goal

abbrev pub invariant-loop-turn : goal.invariant-loop-turn
invariant-loop-turn l = Reporting most_bits l.initial.rec l.fragment l.initial.out l.rec l.out l.p l.at (length l.fragment + 1 - l.turn)
