use Rattle.inner.proofs.HeaderNumber.{date_above, date_said}
use Rattle.inner.proofs.writing.date_time_number.Goals as goal

pub overflow_sub-month : goal.overflow_sub-month
overflow_sub-month c = (date_above c.args.x c.requires).0

pub overflow_sub-month-2 : goal.overflow_sub-month-2
overflow_sub-month-2 c = (date_above c.args.x c.requires).1

pub overflow_sub-hour : goal.overflow_sub-hour
overflow_sub-hour c = (date_above c.args.x c.requires).2

pub returns : goal.returns
returns c = date_said c.args.x c.requires
