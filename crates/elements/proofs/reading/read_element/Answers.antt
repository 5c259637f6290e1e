use native.Mathlib.Omega.{arith}
use Rattle.bits.proofs.Bytes.{bits_to_is}
use Rattle.elements.proofs.Indices.{index_as, index_behind, index_most, last_ranged, last_small}
use Rattle.elements.proofs.reading.read_element.Goals as goal

pub overflow_cast-number : goal.overflow_cast-number
overflow_cast-number c =
    omega (
      arith,
      index_most _ _ c.last_of.result _ _ _ c.extensible_index.ensures
          c.in_ok-i.was,
      c.last_of.ensures,
      last_small c.args.direction,
    )

pub overflow_add-at : goal.overflow_add-at
overflow_add-at c =
    omega (
      arith,
      index_behind _ _ _ _ _ (last_ranged c.args.direction) (bits_to_is _ _) _
          (index_as _ _ _ _ _ c.extensible_index.ensures c.last_of.ensures)
          c.in_ok-i.was,
    )
