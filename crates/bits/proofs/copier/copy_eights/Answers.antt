use mathlib.Core.Path.{ap, sym, ◌∙◌}
use native.Mathlib.Omega.{arith}
use lib.ListN.{length}
use Rattle.bits.proofs.Putting.{length_put}
use Rattle.bits.proofs.EightBytes.{eights_turn}
use Rattle.bits.proofs.Copying.{none_left}
use Rattle.bits.proofs.copier.copy_eights.Goals as goal

pub loop-i-preserved : goal.loop-i-preserved
loop-i-preserved c =
    let e = c.put_eight.ensures in
    let inv = c.loop-i.invariant in
    (ap length e ∙ length_put _ _ _ ∙ inv.0, eights_turn _ _ _ _ _ _ _ _ _ (omega arith) (omega arith) c.eight_of_nine-x.ensures e inv.1)

pub returns : goal.returns
returns c = sym (none_left _ _ _ _ _ (omega arith)) ∙ c.loop-i.invariant.1
