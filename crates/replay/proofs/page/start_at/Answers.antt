use Prim.Native.Nat.{◌-◌}
use native.Mathlib.Omega.{arith}
use Rattle.replay.proofs.Loops.{start_begins, start_found, start_turn, start_ends}
use Rattle.replay.proofs.page.start_at.Goals as goal

pub loop-i-init : goal.loop-i-init
loop-i-init c = (omega arith, start_begins _ _ _ c.get-n.ensures)

pub returns-then-is_start_of : goal.returns-then-is_start_of
returns-then-is_start_of c =
    start_found _ _ _ _ _ _ c.loop-i-test.true c.is_start_of.ensures c.if-is_start_of.true
    c.loop-i.invariant.1

pub loop-i-preserved : goal.loop-i-preserved
loop-i-preserved c = (
  omega arith,
  start_turn _ _ _ _ _ _ c.loop-i-test.true c.is_start_of.ensures
      c.if-is_start_of.false c.loop-i.invariant.1,
)

pub returns : goal.returns
returns c = start_ends _ _ _ _ _ c.loop-i.invariant.0 c.loop-i-test.false c.loop-i.invariant.1
