use Rattle.step.proofs.Runs.{no_data_came, read_once, read_twice}
use Rattle.step.proofs.arrived.arrived.Goals as goal

pub returns-then-reads_again : goal.returns-then-reads_again
returns-then-reads_again c =
    read_twice _ _ _ _ _ _ c.if-given-eq1.true _ c.reads_as.ensures _ c.read_as-x.ensures _
    c.reads_again.ensures c.if-reads_again.true _ c.read_again.ensures

pub returns-then-given-eq1 : goal.returns-then-given-eq1
returns-then-given-eq1 c =
    read_once _ _ _ _ _ _ c.if-given-eq1.true _ c.reads_as.ensures _ c.read_as-x.ensures _
    c.reads_again.ensures c.if-reads_again.false

pub returns : goal.returns
returns c = no_data_came _ _ _ _ _ _ _ c.if-given-eq1.false c.bare.ensures
