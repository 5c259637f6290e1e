use mathlib.Core.Path.{refl, ap, ◌∙◌}
use native.Mathlib.Omega.{arith}
use lib.ListN.{drop}
use Rattle.elements.specs.Writing.{put_pieces}
use Rattle.inner.proofs.RowPieces.{row_turn, row_full, row_done}
use Rattle.layout.specs.Layout.{elements_of}
use Rattle.layout.proofs.InOrder.{row_next}
use Rattle.layout.proofs.KindsOnce.{pieces_once}
use Rattle.layout.proofs.writing.put_row.Goals as goal

pub loop-i-init : goal.loop-i-init
loop-i-init c = (omega arith, refl, refl)

pub bounds-ks-i : goal.bounds-ks-i
bounds-ks-i c = omega (arith, c.requires.2.five, c.requires.0, c.loop-i-test.true)

pub slice_bounds-put_element-count : goal.slice_bounds-put_element-count
slice_bounds-put_element-count c = omega (arith, c.part_end-to.ensures)

pub shape_of-buf-in_err-p : goal.shape_of-buf-in_err-p
shape_of-buf-in_err-p c = c.put_element.auto.buf ∙ c.loop-i.invariant.1

pub returns-in_err-p : goal.returns-in_err-p
returns-in_err-p c =
    rw c.from_residual.ensures (row_full _ (elements_of 5 (drop 12 c.args.b.now)) c.args.n _ _ _ c.loop-i.i _ _ _
    c.loop-i.invariant.2 _ (row_next _ _ (omega arith) _ c.load_element-e.ensures _
    c.loop-i-test.true c.requires.0) _ c.loop-i.invariant.0 c.part_end-to.ensures _
    _ (c.put_element.ensures ∙ ap (put_pieces _ _ _) (pieces_once _ _ _ _ _ _ c.requires.2
    c.loop-i-test.true c.requires.0 c.load_element-e.ensures _))
    c.in_err-p.was)

pub loop-i-preserved : goal.loop-i-preserved
loop-i-preserved c = (
  omega (arith, c.part_end-to.ensures),
  c.put_element.auto.buf ∙
      c.loop-i.invariant.1,
  row_turn _ (elements_of 5 (drop 12 c.args.b.now)) c.args.n _ _ _
      c.loop-i.i _ _ _ c.loop-i.invariant.2 _ (row_next _ _ (omega arith) _
      c.load_element-e.ensures _ c.loop-i-test.true c.requires.0) _
      c.loop-i.invariant.0 c.part_end-to.ensures _ _ (c.put_element.ensures ∙ ap (put_pieces _ _ _) (
      pieces_once _ _ _ _ _ _ c.requires.2 c.loop-i-test.true c.requires.0
      c.load_element-e.ensures _)) _ c.in_ok-p.was,
)

pub shape_of-buf : goal.shape_of-buf
shape_of-buf c = c.loop-i.invariant.1

pub returns : goal.returns
returns c =
    row_done _ _ _ c.args.text.now _ _ _ c.loop-i.from _ _ c.loop-i.invariant.2
    c.loop-i-test.false
