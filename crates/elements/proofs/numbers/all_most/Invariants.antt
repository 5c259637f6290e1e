use mathlib.Core.Path.{◌≡◌}
use mathlib.Core.Bool.{◌&&◌}
use lib.ListN.{drop}
use lib.Dec.{leb}
use Rattle.elements.specs.Measuring.{all_most}
use Rattle.elements.proofs.numbers.all_most.Given as goal

abbrev pub invariant-loop-item : goal.invariant-loop-item
invariant-loop-item l = (leb l.most l.hi && all_most l.hi (drop l.item-index l.items)) ≡ all_most l.hi l.items
