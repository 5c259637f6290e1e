use mathlib.Core.Path.{refl, ◌∙◌}
use native.Mathlib.Omega.{arith}
use borrow.Author.Rules.{rules}
use Rattle.recordings.proofs.Shows.{behind_all, behind_more, behind_room, behind_out}
use Rattle.recordings.proofs.Places.{puts_all, puts_more, puts_out}
use Rattle.recordings.proofs.shown.put_shown.Goals as goal

pub loop-i-init : goal.loop-i-init
loop-i-init c = (
  refl,
  behind_all c.args.which c.args.x.now c.args.y.now c.args.n c.args.p,
  puts_all c.args.which c.args.block.now c.args.x.now c.args.y.now c.args.n
      c.args.list.now c.args.p,
)

pub bounds-x-i : goal.bounds-x-i
bounds-x-i c = omega (arith, c.requires.1)

pub bounds-y-i : goal.bounds-y-i
bounds-y-i c = omega (arith, c.requires.2)

pub bounds-block-i : goal.bounds-block-i
bounds-block-i c = omega (arith, c.requires.0)

pub put_if-k-requires : goal.put_if-k-requires
put_if-k-requires c =
    behind_room c.args.which c.args.x.now c.args.y.now c.args.n c.args.p
    c.loop-i.k c.loop-i.i _ c.is_shown-shown.result (omega arith)
    c.requires.1 c.requires.2 c.is_shown-shown.ensures
    (omega (arith, c.requires.3, c.loop-i.invariant.0)) c.loop-i.invariant.1

pub loop-i-preserved : goal.loop-i-preserved
loop-i-preserved c = (
  c.put_if-k.auto.list ∙ c.loop-i.invariant.0,
  behind_more c.args.which
      c.args.x.now c.args.y.now c.args.n c.args.p c.loop-i.k _
      c.loop-i.i c.is_shown-shown.result (omega arith) c.requires.1 c.requires.2
      c.is_shown-shown.ensures c.put_if-k.ensures.0 c.loop-i.invariant.1,
  puts_more
      c.args.which c.args.block.now c.args.x.now c.args.y.now c.args.n
      c.args.list.now c.loop-i.list _ c.args.p c.loop-i.k _
      c.loop-i.i c.is_shown-shown.result (omega arith) c.requires.0 c.requires.1
      c.requires.2 c.is_shown-shown.ensures c.put_if-k.ensures.0
      c.put_if-k.ensures.1 c.loop-i.invariant.2,
)

pub shape_of-list : goal.shape_of-list
shape_of-list c = c.loop-i.invariant.0

pub returns : goal.returns
returns c = (
  behind_out c.args.which c.args.x.now c.args.y.now c.args.n c.args.p c.loop-i.k
      c.loop-i.i (omega arith) c.loop-i.invariant.1,
  puts_out c.args.which
      c.args.block.now c.args.x.now c.args.y.now c.args.n c.args.list.now
      c.loop-i.list c.args.p c.loop-i.k c.loop-i.i (omega arith) c.requires.0
      c.loop-i.invariant.2,
)
