use native.Mathlib.Omega.{arith}
use Rattle.inner.proofs.HeaderPieces.{flag_most}
use Rattle.inner.proofs.HeaderNumber.{number_most, front_with, front_without}
use Rattle.inner.proofs.writing.front_number.Goals as goal

pub overflow_mul-present : goal.overflow_mul-present
overflow_mul-present c = omega (arith, flag_most c.args.h.referenced _ c.flag.ensures)

pub overflow_add-present : goal.overflow_add-present
overflow_add-present c =
    omega (
      arith,
      flag_most c.args.h.referenced _ c.flag.ensures,
      flag_most
          c.args.h.acknowledged _ c.flag-2.ensures,
    )

pub overflow_mul-front : goal.overflow_mul-front
overflow_mul-front c =
    omega (
      arith,
      flag_most c.args.h.referenced _ c.flag.ensures,
      flag_most
          c.args.h.acknowledged _ c.flag-2.ensures,
    )

pub overflow_add-front : goal.overflow_add-front
overflow_add-front c =
    omega (
      arith,
      flag_most c.args.h.referenced _ c.flag.ensures,
      flag_most
          c.args.h.acknowledged _ c.flag-2.ensures,
      number_most c.args.h c.requires,
    )

pub overflow_mul-result : goal.overflow_mul-result
overflow_mul-result c =
    omega (
      arith,
      flag_most c.args.h.referenced _ c.flag.ensures,
      flag_most
          c.args.h.acknowledged _ c.flag-2.ensures,
      number_most c.args.h
          c.requires,
    )

pub overflow_add-result : goal.overflow_add-result
overflow_add-result c =
    omega (
      arith,
      (front_with c.args.h c.requires _ _ c.flag.ensures
          c.flag-2.ensures c.if-h.true).0,
    )

pub returns-then-h : goal.returns-then-h
returns-then-h c =
    front_with c.args.h c.requires _ _ c.flag.ensures
    c.flag-2.ensures c.if-h.true

pub returns : goal.returns
returns c =
    front_without c.args.h c.requires _ _ c.flag.ensures c.flag-2.ensures
    c.if-h.false
