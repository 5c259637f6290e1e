use native.Mathlib.Omega.{arith}
use lib.Dec.{lit≤}
use Rattle.quick.proofs.Bytes.{row_says}
use Rattle.quick.proofs.of_ground.Goals as goal

pub returns-in-0-to-15 : goal.returns-in-0-to-15
returns-in-0-to-15 c = row_says 7 (lit≤ tt) c.args.first (omega arith) (omega arith)

pub returns-in-16-to-31 : goal.returns-in-16-to-31
returns-in-16-to-31 c = row_says 8 (lit≤ tt) c.args.first (omega arith) (omega arith)

pub returns-in-32-to-47 : goal.returns-in-32-to-47
returns-in-32-to-47 c = row_says 9 (lit≤ tt) c.args.first (omega arith) (omega arith)

pub returns-in-48-to-63 : goal.returns-in-48-to-63
returns-in-48-to-63 c = row_says 10 (lit≤ tt) c.args.first (omega arith) (omega arith)

pub returns-in-64-to-79 : goal.returns-in-64-to-79
returns-in-64-to-79 c = row_says 11 (lit≤ tt) c.args.first (omega arith) (omega arith)

pub returns-in-80-to-95 : goal.returns-in-80-to-95
returns-in-80-to-95 c = row_says 12 (lit≤ tt) c.args.first (omega arith) (omega arith)

pub returns-in-96-to-127 : goal.returns-in-96-to-127
returns-in-96-to-127 c = row_says 13 (lit≤ tt) c.args.first (omega arith) (omega arith)

pub returns-in_default : goal.returns-in_default
returns-in_default c = row_says 14 (lit≤ tt) c.args.first (omega arith) (omega arith)
