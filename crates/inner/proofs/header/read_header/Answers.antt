use mathlib.Core.Path.{refl}
use Rattle.inner.proofs.HeaderRead.{room_acknowledged, room_plain, found_acknowledged, found_plain}
use Rattle.inner.proofs.header.read_header.Goals as goal

pub header_from-h-requires : goal.header_from-h-requires
header_from-h-requires c =
    room_acknowledged _ _ _ _ _ _ _ _ _ _ c.read_bits.ensures c.in-Some.is
    c.read_bits-2.ensures c.in-Some-read_bits.is refl c.if-present-eq1.true

pub returns-then-header_fits : goal.returns-then-header_fits
returns-then-header_fits c =
    found_acknowledged _ _ _ _ _ _ _ _ _ _ c.read_bits.ensures c.in-Some.is
    c.read_bits-2.ensures c.in-Some-read_bits.is refl _ _
    c.header_from-h.ensures _ c.header_fits.ensures c.if-header_fits.true
    c.if-present-eq1.true c.if-v-eq1.false refl

pub header_from-h-requires-2 : goal.header_from-h-requires-2
header_from-h-requires-2 c =
    room_plain _ _ _ _ _ _ _ _ _ _ c.read_bits.ensures c.in-Some.is
    c.read_bits-2.ensures c.in-Some-read_bits.is refl c.if-present-eq1.false

pub returns-then-header_fits-2 : goal.returns-then-header_fits-2
returns-then-header_fits-2 c =
    found_plain _ _ _ _ _ _ _ _ _ _ c.read_bits.ensures c.in-Some.is
    c.read_bits-2.ensures c.in-Some-read_bits.is refl _ _
    c.header_from-h-2.ensures _ c.header_fits-2.ensures c.if-header_fits-2.true c.if-present-eq1.false
    refl
