use mathlib.Core.Path.{◌≡◌}
use lib.ListN.{drop}
use Rattle.rows.specs.Table.{rows}
use Rattle.rows.specs.Engine.{walk}
use Rattle.rows_engine.proofs.walk.Given as goal

abbrev pub invariant-loop-x : goal.invariant-loop-x
invariant-loop-x l = walk (drop l.x-index rows) l.side l.c l.title l.condition ≡ walk rows l.side l.c l.title l.condition
