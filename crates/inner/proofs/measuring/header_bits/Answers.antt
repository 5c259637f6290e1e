use native.Mathlib.Omega.{arith}
use Rattle.inner.proofs.HeaderPieces.{flag_most}
use Rattle.inner.proofs.HeaderWritten.{header_measured, header_shapeless}
use Rattle.inner.proofs.measuring.header_bits.Goals as goal

pub overflow_mul-optional : goal.overflow_mul-optional
overflow_mul-optional c = omega (arith, flag_most c.args.h.referenced _ c.flag.ensures)

pub overflow_add-optional : goal.overflow_add-optional
overflow_add-optional c =
    omega (
      arith,
      flag_most c.args.h.referenced _ c.flag.ensures,
      flag_most
          c.args.h.acknowledged _ c.flag-then-header_fits.ensures,
    )

pub overflow_add-result : goal.overflow_add-result
overflow_add-result c =
    omega (
      arith,
      flag_most c.args.h.referenced _ c.flag.ensures,
      flag_most
          c.args.h.acknowledged _ c.flag-then-header_fits.ensures,
    )

pub returns-then-header_fits : goal.returns-then-header_fits
returns-then-header_fits c =
    header_measured _ _ c.header_fits.ensures _ _ c.if-header_fits.true c.flag.ensures
    c.flag-then-header_fits.ensures

pub returns : goal.returns
returns c = header_shapeless _ _ c.header_fits.ensures c.if-header_fits.false
