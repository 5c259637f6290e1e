use Rattle.layout.proofs.InOrder.{Standing}
use Rattle.layout.proofs.stored.places_stand.Given as goal

abbrev pub invariant-loop-i : goal.invariant-loop-i
invariant-loop-i l = Standing l.b l.i
