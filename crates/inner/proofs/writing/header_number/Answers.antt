use native.Mathlib.Omega.{arith}
use Rattle.inner.proofs.HeaderNumber.{dated_fits, number_small, header_acknowledged, header_plain}
use Rattle.inner.proofs.writing.header_number.Goals as goal

pub date_time_number-requires : goal.date_time_number-requires
date_time_number-requires c = dated_fits c.args.h c.requires

pub overflow_add-all : goal.overflow_add-all
overflow_add-all c =
    omega (
      arith,
      number_small c.args.h c.requires _ _ c.front_number.ensures
          c.date_time_number.ensures,
    )

pub overflow_mul-result : goal.overflow_mul-result
overflow_mul-result c =
    omega (
      arith,
      number_small c.args.h c.requires _ _ c.front_number.ensures
          c.date_time_number.ensures,
    )

pub returns-then-h : goal.returns-then-h
returns-then-h c =
    header_acknowledged c.args.h c.requires _ _ c.front_number.ensures
    c.date_time_number.ensures c.if-h.true

pub returns : goal.returns
returns c =
    header_plain c.args.h c.requires _ _ c.front_number.ensures
    c.date_time_number.ensures c.if-h.false
