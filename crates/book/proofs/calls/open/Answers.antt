use Prim.Native.Nat.{ℕ}
use mathlib.Core.Path.{ap}
use native.Mathlib.Omega.{arith}
use lib.ListN.{length}
use lib.Seq.{length-sets}
use Rattle.book.proofs.Books.{Known, is_known, book_long, open_zero, open_full, open_le, open_fits, open_is}
use Rattle.book.proofs.calls.open.Goals as goal

pub returns-then-job-eq0 : goal.returns-then-job-eq0
returns-then-job-eq0 c = open_zero _ _ c.if-job-eq0.true

pub returns-then-n-eq-NUMBERS : goal.returns-then-n-eq-NUMBERS
returns-then-n-eq-NUMBERS c =
    let known : Known c.args.b.now c.in_ok-opened.opened = is_known _ _ _ c.load.ensures c.in_ok-opened.was in
    open_full _ _ c.if-job-eq0.false _ _ known c.lowest_free-n.ensures c.if-n-eq-NUMBERS.true

pub bit_of-requires : goal.bit_of-requires
bit_of-requires c =
    let known : Known c.args.b.now c.in_ok-opened.opened = is_known _ _ _ c.load.ensures c.in_ok-opened.was in
    omega (arith, open_le _ _ c.if-job-eq0.false _ _ known c.lowest_free-n.ensures)

pub overflow_add-opened : goal.overflow_add-opened
overflow_add-opened c =
    let known : Known c.args.b.now c.in_ok-opened.opened = is_known _ _ _ c.load.ensures c.in_ok-opened.was in
    omega (
      arith,
      open_fits _ _ c.if-job-eq0.false _ _ known c.lowest_free-n.ensures
          c.if-n-eq-NUMBERS.false,
      c.bit_of.ensures,
    )

pub put_eight-requires : goal.put_eight-requires
put_eight-requires c =
    let known : Known c.args.b.now c.in_ok-opened.opened = is_known _ _ _ c.load.ensures c.in_ok-opened.was in
    omega (arith, book_long _ known.book)

pub overflow_add-n : goal.overflow_add-n
overflow_add-n c =
    let known : Known c.args.b.now c.in_ok-opened.opened = is_known _ _ _ c.load.ensures c.in_ok-opened.was in
    omega (arith, open_le _ _ c.if-job-eq0.false _ _ known c.lowest_free-n.ensures)

pub overflow_mul-n : goal.overflow_mul-n
overflow_mul-n c =
    let known : Known c.args.b.now c.in_ok-opened.opened = is_known _ _ _ c.load.ensures c.in_ok-opened.was in
    omega (arith, open_le _ _ c.if-job-eq0.false _ _ known c.lowest_free-n.ensures)

pub put_eight-requires-2 : goal.put_eight-requires-2
put_eight-requires-2 c =
    let known : Known c.args.b.now c.in_ok-opened.opened = is_known _ _ _ c.load.ensures c.in_ok-opened.was in
    omega (
      arith,
      simp length-sets at (ap length c.put_eight.ensures),
      book_long _ known.book,
      open_le _ _ c.if-job-eq0.false _ _ known c.lowest_free-n.ensures,
    )

pub returns : goal.returns
returns c =
    let known : Known c.args.b.now c.in_ok-opened.opened = is_known _ _ _ c.load.ensures c.in_ok-opened.was in
    open_is _ _ c.if-job-eq0.false _ _ known c.lowest_free-n.ensures c.if-n-eq-NUMBERS.false _ _ _ (λ (m : ℕ). (c.slice_known-1.given m).fits) c.bit_of.ensures c.put_eight.ensures c.put_eight-2.ensures
