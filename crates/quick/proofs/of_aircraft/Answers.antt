use native.Mathlib.Omega.{arith}
use lib.Dec.{lit≤}
use Rattle.quick.proofs.Bytes.{row_says}
use Rattle.quick.proofs.of_aircraft.Goals as goal

pub returns-in-0-to-31 : goal.returns-in-0-to-31
returns-in-0-to-31 c = row_says 0 (lit≤ tt) c.args.first (omega arith) (omega arith)

pub returns-in-32-to-63 : goal.returns-in-32-to-63
returns-in-32-to-63 c = row_says 1 (lit≤ tt) c.args.first (omega arith) (omega arith)

pub returns-in-64-to-79 : goal.returns-in-64-to-79
returns-in-64-to-79 c = row_says 2 (lit≤ tt) c.args.first (omega arith) (omega arith)

pub returns-in-80-to-87 : goal.returns-in-80-to-87
returns-in-80-to-87 c = row_says 3 (lit≤ tt) c.args.first (omega arith) (omega arith)

pub returns-in-88-to-95 : goal.returns-in-88-to-95
returns-in-88-to-95 c = row_says 4 (lit≤ tt) c.args.first (omega arith) (omega arith)

pub returns-in-96-to-127 : goal.returns-in-96-to-127
returns-in-96-to-127 c = row_says 5 (lit≤ tt) c.args.first (omega arith) (omega arith)

pub returns-in_default : goal.returns-in_default
returns-in_default c = row_says 6 (lit≤ tt) c.args.first (omega arith) (omega arith)
