use native.Mathlib.Omega.{arith}
use borrow.Author.Rules.{rules}
use Rattle.envelope.proofs.Puts.{putting_all, putting_room, putting_more, putting_last}
use Rattle.envelope.proofs.putting.put_number.Goals as goal

pub loop-v-init : goal.loop-v-init
loop-v-init c = putting_all _ _ _ (search rules)

pub bounds-out-p : goal.bounds-out-p
bounds-out-p c = putting_room _ _ _ _ _ _ c.loop-v.invariant c.requires

pub loop-v-preserved : goal.loop-v-preserved
loop-v-preserved c = putting_more _ _ _ _ _ _ c.loop-v.invariant c.loop-v-test.true

pub bounds-out-p-2 : goal.bounds-out-p-2
bounds-out-p-2 c = putting_room _ _ _ _ _ _ c.loop-v.invariant c.requires

pub returns : goal.returns
returns c = putting_last _ _ _ _ _ _ c.loop-v.invariant (omega arith)
