use mathlib.Core.Path.{◌≡◌, sym, ◌∙◌}
use Prim.Native.Nat.{ℕ}
use Rattle.std.proofs.Common.{rules}
use Rattle.std.specs.Prelude.{Err, Ok}
use Rattle.inner.specs.declared.values.Unopened.TheVariants.{Refused}
use Rattle.inner.proofs.Counted.{count_most}
use Rattle.layout.proofs.RowsRead.{none_taken}
use Rattle.layout.proofs.ReadWays.{read_long, read_past, header_refused, count_refused, row_told}
use Rattle.layout.proofs.reading.read_laid.Goals as goal

pub returns-then-count-gt-BITS : goal.returns-then-count-gt-BITS
returns-then-count-gt-BITS c = (read_long _ _ _ _ _ c.requires.1 c.if-count-gt-BITS.true, λ (k : ℕ) h. none_taken _ k h)

pub returns-then-not-within : goal.returns-then-not-within
returns-then-not-within c = (
  read_past _ _ _ _ _ c.requires.1 c.if-count-gt-BITS.false _ c.within.ensures c.if-not-within.true,
  λ (k : ℕ) h. none_taken _ k h,
)

pub returns-in_err-header : goal.returns-in_err-header
returns-in_err-header c =
    let e : c.from_residual.result ≡ Err (Refused c.in_err-header.field-0.0) = search rules in (
      rw e (header_refused _ _ _ _ _ c.requires.1 c.if-count-gt-BITS.false _ c.within.ensures c.if-not-within.false _ c.read_header.ensures _ c.in_err-header.was),
      λ (k : ℕ) h. none_taken _ k (sym e ∙ h),
    )

pub returns-in_err-n : goal.returns-in_err-n
returns-in_err-n c =
    let e : c.from_residual-in_err-n.result ≡ Err (Refused c.in_err-n.field-0.0) = search rules in (
      rw e (count_refused _ _ _ _ _ c.requires.1 c.if-count-gt-BITS.false _ c.within.ensures c.if-not-within.false _ c.read_header.ensures _ _ c.in_ok-header.was _ c.read_count.ensures _ c.in_err-n.was),
      λ (k : ℕ) h. none_taken _ k (sym e ∙ h),
    )

pub read_row-requires : goal.read_row-requires
read_row-requires c = (count_most _ _ _ _ _ c.read_count.ensures c.in_ok-n.was, c.requires.0, c.requires.1)

pub returns : goal.returns
returns c = (
  row_told _ _ _ _ _ c.requires.1 c.if-count-gt-BITS.false _ c.within.ensures c.if-not-within.false _ c.read_header.ensures _ _ c.in_ok-header.was _
      c.read_count.ensures _ _ c.in_ok-n.was _ _ _ c.read_row.ensures.0,
  c.read_row.ensures.1,
)
