use native.Mathlib.Omega.{arith}
use Rattle.inner.proofs.HeaderPieces.{flag_most}
use Rattle.inner.proofs.writing.put_header_by_fields.Goals as goal

pub overflow_mul-present : goal.overflow_mul-present
overflow_mul-present c = omega (arith, flag_most c.args.h.referenced _ c.flag.ensures)

pub overflow_add-present : goal.overflow_add-present
overflow_add-present c =
    omega (
      arith,
      flag_most c.args.h.referenced _ c.flag.ensures,
      flag_most
          c.args.h.acknowledged _ c.flag-2.ensures,
    )
