use native.Mathlib.Omega.{arith}
use Rattle.elements.proofs.Joined.{width_few, number_above, type_small, type_said}
use Rattle.elements.proofs.short.type_number.Goals as goal

pub overflow_shl-result : goal.overflow_shl-result
overflow_shl-result c =
    omega (
      arith,
      width_few c.args.x c.requires _ _ _ c.lowest-low.ensures
          c.highest.ensures c.whole_bits-n.ensures,
    )

pub overflow_sub-result : goal.overflow_sub-result
overflow_sub-result c =
    number_above c.args.x c.requires _ _ _ c.lowest-low.ensures
    c.highest.ensures c.whole_bits-n.ensures

pub overflow_add-result : goal.overflow_add-result
overflow_add-result c =
    omega (
      arith,
      type_small c.args.x c.requires _ _ _ c.lowest-low.ensures
          c.highest.ensures c.whole_bits-n.ensures,
    )

pub returns : goal.returns
returns c =
    type_said c.args.x c.requires _ _ _ c.lowest-low.ensures
    c.highest.ensures c.whole_bits-n.ensures
