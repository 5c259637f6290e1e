-- `kinds::kind_at` meets its contract: the constant is the rows of the definition, computed.
use native.Mathlib.Omega.{arith}
use mathlib.Core.Path.{refl}
use Rattle.kinds.specs.Elements.{kinds, downlink, uplink, rows, kind_at}
use Rattle.kinds.proofs.Table.{all_rows, row_known}
use Rattle.kinds.proofs.kind_at.Goals as goal

pub bounds-row : goal.bounds-row
bounds-row c = omega (arith, all_rows, c.requires)

pub overflow_cast-result : goal.overflow_cast-result
unfolding kinds rows downlink uplink
overflow_cast-result c = omega (arith, row_known c.args.row c.requires)

pub bounds-row-row : goal.bounds-row-row
unfolding kinds rows downlink uplink
bounds-row-row c = row_known c.args.row c.requires

pub returns : goal.returns
unfolding kind_at kinds rows downlink uplink
returns c = refl
