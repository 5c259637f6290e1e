use mathlib.Core.Path.{refl, ◌∙◌}
use native.Mathlib.Omega.{arith}
use lib.ListN.{length-set}
use Rattle.recordings.proofs.Shows.{clear_start, clear_more, clear_out}
use Rattle.recordings.proofs.shown.clear.Goals as goal

pub loop-i-init : goal.loop-i-init
loop-i-init c = (refl, clear_start _)

pub loop-i-preserved : goal.loop-i-preserved
loop-i-preserved c =
    rw c.clear_one.ensures (
      length-set c.loop-i.tallies c.loop-i.i 0 ∙
          c.loop-i.invariant.0,
      clear_more _ _ _
          (omega (arith, c.loop-i.invariant.0)) c.loop-i.invariant.1,
    )

pub returns : goal.returns
returns c = clear_out _ _ c.loop-i.i (omega (arith, c.loop-i.invariant.0)) c.loop-i.invariant.1
