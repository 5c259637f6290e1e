use Rattle.inner.proofs.HeaderNumber.{header_joined, header_sized}
use Rattle.inner.proofs.writing.put_header.Goals as goal

pub header_number-requires : goal.header_number-requires
header_number-requires c = (header_sized _ _ _ c.header_bits.ensures c.in-Some.is).0

pub returns-in-Some : goal.returns-in-Some
returns-in-Some c =
    header_joined _ _ _ _ _ _ _ _ c.put_bits.ensures
    (header_sized _ _ _ c.header_bits.ensures c.in-Some.is)
    c.header_number.ensures _ c.within.ensures c.if-within.true
