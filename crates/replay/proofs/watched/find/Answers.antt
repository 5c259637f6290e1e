use borrow.Author.Tests.{eq-eqb}
use Prim.Native.Nat.{◌-◌}
use mathlib.Core.Path.{refl, sym, ◌∙◌}
use native.Mathlib.Omega.{arith}
use Rattle.replay.proofs.Found.{found_here, found_turn, found_end}
use Rattle.replay.proofs.watched.find.Goals as goal

pub loop-i-init : goal.loop-i-init
loop-i-init c = (omega arith, refl)

pub returns-then-job_at-job : goal.returns-then-job_at-job
returns-then-job_at-job c =
    sym (found_here _ _ _ _ _ c.loop-i-test.true c.loop-i.invariant.1
    (eq-eqb _ _ (sym c.job_at.ensures ∙ c.if-job_at-job.true)))

pub loop-i-preserved : goal.loop-i-preserved
loop-i-preserved c = (
  omega arith,
  found_turn c.args.w.now c.args.air
      c.args.job c.loop-i.i c.job_at.result c.job_at.ensures
      c.if-job_at-job.false c.loop-i.invariant.1,
)

pub returns : goal.returns
returns c = found_end _ _ _ _ _ c.loop-i.invariant.0 c.loop-i-test.false c.loop-i.invariant.1
