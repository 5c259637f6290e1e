use borrow.Author.Rules.{rules}
use Prim.Native.Nat.{ℕ}
use mathlib.Core.Path.{◌≡◌, ap, ◌∙◌}
use native.Mathlib.Omega.{arith}
use lib.ListN.{drop}
use Rattle.book.specs.Books.{marks, jobs_in}
use Rattle.book.proofs.Marks.{mark_lt}
use Rattle.book.proofs.Books.{marks_end, marks_turn, turn_fits, turn_lt}
use Rattle.book.proofs.loaded.marked.Goals as goal

pub loop-i-init : goal.loop-i-init
loop-i-init c = (search rules, marks_end _, search rules)

pub overflow_mul-m : goal.overflow_mul-m
overflow_mul-m c =
    omega (
      arith,
      turn_fits c.loop-i.m 0 c.loop-i.i c.loop-i.invariant.2 (omega arith)
          (omega arith),
    )

pub overflow_add-m : goal.overflow_add-m
overflow_add-m c =
    omega (
      arith,
      turn_fits c.loop-i.m c.mark.result c.loop-i.i c.loop-i.invariant.2
          (omega (arith, c.mark.ensures, mark_lt c.eight_at.result)) (omega arith),
    )

pub loop-i-preserved : goal.loop-i-preserved
loop-i-preserved c = (
  search rules,
  marks_turn c.args.b.now c.loop-i.i _ _ _ (omega arith) (omega arith)
      c.loop-i.invariant.1 c.eight_at.ensures c.mark.ensures,
  turn_lt c.loop-i.m
      c.mark.result c.loop-i.i c.loop-i.invariant.2
      (omega (arith, c.mark.ensures, mark_lt c.eight_at.result)) (omega arith) (omega arith),
)

pub returns : goal.returns
returns c =
    let e : c.loop-i.i ≡ 0 = omega arith in c.loop-i.invariant.1 ∙ ap (λ (n : ℕ). marks (drop n (jobs_in c.args.b.now))) e
