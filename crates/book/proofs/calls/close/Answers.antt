use Prim.Native.Nat.{ℕ}
use mathlib.Core.Path.{ap}
use native.Mathlib.Omega.{arith}
use lib.ListN.{length}
use lib.Seq.{length-sets}
use Rattle.book.proofs.Books.{Known, is_known, book_long, close_above, close_not, close_le, close_is}
use Rattle.book.proofs.calls.close.Goals as goal

pub returns-then-number : goal.returns-then-number
returns-then-number c =
    let known : Known c.args.b.now c.in_ok-opened.opened = is_known _ _ _ c.load.ensures c.in_ok-opened.was in
    close_above _ _ _ known c.if-number.true

pub eight_at-job-requires : goal.eight_at-job-requires
eight_at-job-requires c =
    let known : Known c.args.b.now c.in_ok-opened.opened = is_known _ _ _ c.load.ensures c.in_ok-opened.was in
    omega (arith, book_long _ known.book)

pub returns-then-job-eq0 : goal.returns-then-job-eq0
returns-then-job-eq0 c =
    let known : Known c.args.b.now c.in_ok-opened.opened = is_known _ _ _ c.load.ensures c.in_ok-opened.was in
    close_not _ _ _ known c.if-number.false _ c.eight_at-job.ensures c.if-job-eq0.true

pub overflow_sub-opened : goal.overflow_sub-opened
overflow_sub-opened c =
    let known : Known c.args.b.now c.in_ok-opened.opened = is_known _ _ _ c.load.ensures c.in_ok-opened.was in
    omega (
      arith,
      close_le _ _ _ known c.if-number.false _ c.eight_at-job.ensures
          c.if-job-eq0.false,
      c.bit_of.ensures,
    )

pub put_eight-requires : goal.put_eight-requires
put_eight-requires c =
    let known : Known c.args.b.now c.in_ok-opened.opened = is_known _ _ _ c.load.ensures c.in_ok-opened.was in
    omega (arith, book_long _ known.book)

pub put_eight-requires-2 : goal.put_eight-requires-2
put_eight-requires-2 c =
    let known : Known c.args.b.now c.in_ok-opened.opened = is_known _ _ _ c.load.ensures c.in_ok-opened.was in
    omega (arith, simp length-sets at (ap length c.put_eight.ensures), book_long _ known.book)

pub returns : goal.returns
returns c =
    let known : Known c.args.b.now c.in_ok-opened.opened = is_known _ _ _ c.load.ensures c.in_ok-opened.was in
    close_is _ _ _ known c.if-number.false _ c.eight_at-job.ensures c.if-job-eq0.false _ _ _ (λ (m : ℕ). (c.slice_known-1.given m).fits) c.bit_of.ensures c.put_eight.ensures c.put_eight-2.ensures
