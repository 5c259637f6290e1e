use native.Mathlib.Omega.{arith}
use mathlib.Core.Path.{◌∙◌}
use Rattle.inner.proofs.RowPieces.{measured_start, measured_turn, measured_bad, measured_small, measured_done, measured_over}
use Rattle.layout.proofs.InOrder.{row_next}
use Rattle.layout.proofs.KindsOnce.{size_once}
use Rattle.layout.proofs.writing.row_bits.Goals as goal

pub loop-i-init : goal.loop-i-init
loop-i-init c = (omega arith, measured_start _ _ _ _)

pub bounds-ks-i : goal.bounds-ks-i
bounds-ks-i c = omega (arith, c.requires.2.five, c.requires.0, c.loop-i-test.true)

pub slice_bounds-element_bits-count : goal.slice_bounds-element_bits-count
slice_bounds-element_bits-count c = omega (arith, c.part_end-to.ensures)

pub returns-in_err-k : goal.returns-in_err-k
returns-in_err-k c =
    c.from_residual.ensures ∙ measured_bad _ _ _ _ _ _ _ c.loop-i.invariant.1 _ (row_next _ _ (omega arith) _
    c.load_element-e.ensures _ c.loop-i-test.true c.requires.0) _
    c.loop-i.invariant.0 c.part_end-to.ensures _ (size_once _ _ _ _ _ _ c.requires.2 c.loop-i-test.true
    c.requires.0 c.load_element-e.ensures _ _
    c.element_bits.ensures) c.in_err-k.was

pub overflow_add-total : goal.overflow_add-total
overflow_add-total c =
    omega (
      arith,
      measured_small _ _ _ _ _ _ _ c.loop-i.invariant.1 _ (row_next _ _ (omega arith) _
          c.load_element-e.ensures _ c.loop-i-test.true c.requires.0) _
          c.loop-i.invariant.0 c.part_end-to.ensures _ (size_once _ _ _ _ _ _ c.requires.2
          c.loop-i-test.true c.requires.0 c.load_element-e.ensures _ _
          c.element_bits.ensures) _ c.in_ok-k.was,
      c.loop-i.invariant.1.most,
    )

pub loop-i-preserved : goal.loop-i-preserved
loop-i-preserved c = (
  omega (arith, c.part_end-to.ensures),
  measured_turn _ _ _ _ _ _ _
      c.loop-i.invariant.1 _ (row_next _ _ (omega arith) _ c.load_element-e.ensures _
      c.loop-i-test.true c.requires.0) _ c.loop-i.invariant.0 c.part_end-to.ensures
      _ (size_once _ _ _ _ _ _ c.requires.2 c.loop-i-test.true c.requires.0
      c.load_element-e.ensures _ _ c.element_bits.ensures) _ c.in_ok-k.was,
)

pub returns-then-from-text : goal.returns-then-from-text
returns-then-from-text c =
    measured_done _ _ _ _ _ _ _ c.loop-i.invariant.1 c.loop-i-test.false c.if-from-text.true

pub returns : goal.returns
returns c =
    measured_over _ _ _ _ _ _ _ c.loop-i.invariant.1 c.loop-i-test.false
    c.loop-i.invariant.0 c.if-from-text.false
