-- Contents in place: the bits alone, with no count before them, as application type 2 has them (source document 004, M-1, M-2, M-9, M-10).
use Rattle.std.specs.Prelude.{List, [], ◌++◌, Bool, true, false, ℕ}
use Rattle.bits.specs.Bits.{bits_n}
use Rattle.apdu.specs.Headings.{heading_bits}
use Rattle.apdu.specs.Pdus.{Optional, absent, given}
use Rattle.apdu.specs.Encoding.{presence, forward_bits}
use Rattle.apdu.specs.declared.Heading.{Heading}

-- a message's bits, or none
unfoldable pub bits_in : Optional → List ℕ
bits_in absent = []
bits_in (given l) = l

-- a CHOICE of no_message (0) and message (1), without an extension marker
unfoldable pub perhaps_bits : Optional → List ℕ
perhaps_bits x = bits_n 1 (presence x) ++ bits_in x

-- what stands before the elements, then they
unfoldable pub headed_bits : Heading → List ℕ → List ℕ
headed_bits h m = heading_bits h ++ m

-- a forward message: the message behind its count, or in place
abbrev pub forward_by : Bool → Heading → List ℕ → List ℕ
forward_by true h m = forward_bits h m
forward_by false h m = headed_bits h m
