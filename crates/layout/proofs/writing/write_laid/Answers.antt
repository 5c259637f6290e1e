use mathlib.Core.Path.{refl, sym, ◌∙◌}
use native.Mathlib.Omega.{arith}
use Rattle.inner.proofs.MessageWritten.{no_header, too_small, not_carried, written_count, written_out}
use Rattle.layout.specs.Layout.{message_of}
use Rattle.layout.proofs.Fronts.{front_measured}
use Rattle.layout.proofs.writing.write_laid.Goals as goal

pub returns-then-out-lt-ROOM : goal.returns-then-out-lt-ROOM
returns-then-out-lt-ROOM c = too_small _ _ _ _ c.if-out-lt-ROOM.true

pub returns-in_default : goal.returns-in_default
returns-in_default c =
    not_carried c.args.direction (message_of c.args.b.now) c.args.text.now _ c.if-out-lt-ROOM.false _ (
    no_header c.args.direction (message_of c.args.b.now) c.args.text.now _
    (front_measured _ _ c.load_header.ensures _ c.header_bits.ensures)
    c.in_default.is) refl

pub laid_bits-requires : goal.laid_bits-requires
laid_bits-requires c = (
  c.requires.0,
  c.requires.1,
  c.kinds_of-ks.ensures,
  sym c.in-Some.is ∙ front_measured _ _
      c.load_header.ensures _ c.header_bits.ensures,
)

pub returns-in_default-laid_bits : goal.returns-in_default-laid_bits
returns-in_default-laid_bits c =
    not_carried _ _ _ _ c.if-out-lt-ROOM.false _ c.laid_bits.ensures c.in_default-laid_bits.is

pub put_laid-requires : goal.put_laid-requires
unfolding message_of
put_laid-requires c = (
  written_count c.args.direction (message_of c.args.b.now) c.args.text.now c.args.out.now
      c.if-out-lt-ROOM.false _ c.laid_bits.ensures _ c.in-Some-laid_bits.is,
  omega arith,
  c.kinds_of-ks.ensures,
)

pub returns : goal.returns
returns c =
    written_out _ _ _ _ c.if-out-lt-ROOM.false _ c.laid_bits.ensures _ c.in-Some-laid_bits.is _ _ _ _ _
    c.put_laid.ensures c.padding.ensures c.put_bits.ensures
