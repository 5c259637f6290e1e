-- What holds of a record that a run reaches.
use Rattle.std.specs.Prelude.{◌≡◌, Bool, true, false, not}
use Rattle.control.specs.Control.{is_idle, waits}
use Rattle.machine.specs.declared.record.Record.{Record}

-- the timer runs exactly where a start is to be confirmed, the user is active exactly outside IDLE, and IDLE has DSC false
pub record Formed (r : Record) : Type 0 where
  pub timer : r.timer ≡ waits r.control.state
  pub user : r.active ≡ not (is_idle r.control)
  pub idle : is_idle r.control ≡ true → r.control.dsc ≡ false
