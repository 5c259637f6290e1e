use native.Mathlib.Omega.{arith}
use Rattle.recordings.proofs.Sames.{sames_all, sames_more, sames_not, sames_out}
use Rattle.recordings.proofs.differing.same_bytes.Goals as goal

pub loop-i-init : goal.loop-i-init
loop-i-init c = sames_all c.args.a.now c.args.p c.args.b.now c.args.q c.args.n

pub returns-then-a-p : goal.returns-then-a-p
returns-then-a-p c = sames_not _ _ _ _ _ c.loop-i.i (omega arith) (omega arith) (omega arith) c.if-a-p.true c.loop-i.invariant

pub loop-i-preserved : goal.loop-i-preserved
loop-i-preserved c = sames_more _ _ _ _ _ c.loop-i.i (omega arith) (omega arith) (omega arith) c.if-a-p.false c.loop-i.invariant

pub returns : goal.returns
returns c = sames_out _ _ _ _ _ c.loop-i.i (omega arith) c.loop-i.invariant
