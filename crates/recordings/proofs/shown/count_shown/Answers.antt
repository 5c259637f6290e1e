use native.Mathlib.Omega.{arith}
use borrow.Author.Rules.{rules}
use Rattle.recordings.proofs.Shows.{counts_all, counts_more, counts_out, one_most}
use Rattle.recordings.proofs.shown.count_shown.Goals as goal

pub loop-i-init : goal.loop-i-init
loop-i-init c = (
  search rules,
  counts_all c.args.which c.args.x.now
      c.args.y.now c.args.n,
)

pub overflow_add-c : goal.overflow_add-c
overflow_add-c c =
    omega (arith, one_most c.is_shown.result c.one_if-c.result c.one_if-c.ensures, c.loop-i.invariant.0)

pub loop-i-preserved : goal.loop-i-preserved
loop-i-preserved c = (
  omega (
    arith,
    one_most c.is_shown.result c.one_if-c.result c.one_if-c.ensures,
    c.loop-i.invariant.0,
  ),
  counts_more c.args.which c.args.x.now
      c.args.y.now c.args.n c.loop-i.c c.loop-i.i c.one_if-c.result
      c.is_shown.result (omega arith) c.requires.0 c.requires.1
      c.is_shown.ensures c.one_if-c.ensures c.loop-i.invariant.1,
)

pub returns : goal.returns
returns c =
    counts_out c.args.which c.args.x.now c.args.y.now c.args.n c.loop-i.c
    c.loop-i.i (omega arith) c.loop-i.invariant.1
