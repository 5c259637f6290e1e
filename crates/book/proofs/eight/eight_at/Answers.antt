use borrow.Author.Rules.{rules}
use Prim.Native.Nat.{ℕ, ◌+◌, ◌<◌}
use mathlib.Core.Path.{◌≡◌, sym, ap, ◌∙◌}
use native.Mathlib.Omega.{arith}
use lib.ListN.{take, drop}
use Rattle.book.specs.Books.{number_of, eight_at}
use Rattle.book.proofs.Eights.{number_nil, read_turn, read_fits, read_lt}
use Rattle.book.proofs.eight.eight_at.Goals as goal

pub loop-i-init : goal.loop-i-init
loop-i-init c = (sym (number_nil 0), search rules)

pub overflow_mul-v : goal.overflow_mul-v
overflow_mul-v c =
    omega (
      arith,
      read_fits c.loop-i.v 0 c.loop-i.i c.loop-i.invariant.1 (omega arith)
          (omega arith),
    )

pub overflow_add-v : goal.overflow_add-v
overflow_add-v c =
    let byte : c.wide.result < 256 = omega (arith, c.wide.ensures, c.shared_slice_known-1.given (c.args.at + c.loop-i.i)) in
    omega (arith, read_fits c.loop-i.v c.wide.result c.loop-i.i c.loop-i.invariant.1 byte (omega arith))

pub loop-i-preserved : goal.loop-i-preserved
loop-i-preserved c =
    let byte : c.wide.result < 256 = omega (arith, c.wide.ensures, c.shared_slice_known-1.given (c.args.at + c.loop-i.i)) in (
      read_turn c.args.b.now c.args.at c.loop-i.i _ _
          (omega arith) c.loop-i.invariant.0 c.wide.ensures,
      read_lt c.loop-i.v c.wide.result c.loop-i.i
          c.loop-i.invariant.1 byte,
    )

pub returns : goal.returns
unfolding eight_at
returns c =
    let e : c.loop-i.i ≡ 8 = omega arith in c.loop-i.invariant.0 ∙ ap (λ (n : ℕ). number_of 0 (take n (drop c.args.at c.args.b.now))) e
