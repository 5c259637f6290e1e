use native.Mathlib.Omega.{arith}
use Rattle.apdu.proofs.InPlaceWriters.{heading_asked, items_fit_is, items_room, counted_goes, placed_goes}
use Rattle.apdu.proofs.heading_writer.put_forward_at.Goals as goal

pub put_heading-requires : goal.put_heading-requires
put_heading-requires c = heading_asked _ _ _ c.args.counted _ c.requires.0 c.requires.1

pub put_items-requires : goal.put_items-requires
put_items-requires c = (
  (omega arith, omega arith),
  omega arith,
  omega arith,
  items_fit_is c.args.buf.now _ c.args.at
      c.args.counted _ c.requires.0 c.requires.1 _ _ _ c.put_heading.ensures
      c.place-p.ensures c.if-counted.true,
  items_room c.args.buf.now _
      c.args.at c.args.counted _ c.requires.0 c.requires.1 _ _ _ c.put_heading.ensures
      c.place-p.ensures c.if-counted.true,
)

pub returns-then-counted : goal.returns-then-counted
returns-then-counted c =
    counted_goes c.args.buf.now _ c.args.at c.args.counted _ c.requires.0 c.requires.1 _ _ _
    c.put_heading.ensures c.place-p.ensures c.if-counted.true _ _
    c.put_items.ensures

pub returns : goal.returns
returns c =
    placed_goes c.args.buf.now _ c.args.at c.args.counted _ c.requires.0 c.requires.1 _ _ _
    c.put_heading.ensures c.place-p.ensures c.if-counted.false _ _ _ c.copy_bits.ensures
    c.place.ensures
