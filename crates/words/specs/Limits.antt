-- What document 01 says once and more than one crate keeps, with the limits that document 02, E3, gives them.
use Rattle.std.specs.Prelude.{ℕ}
use Rattle.words.specs.declared.Unwritten.{Unwritten}
use Rattle.words.specs.declared.Unwritten.TheVariants.{Room, Shape}

-- "Sizes": the bits of a CPDLC message, at most; the bytes of a lent output buffer, at least
abbrev pub message_bits : ℕ
message_bits = 16383

abbrev pub buffer_bytes : ℕ
buffer_bytes = 2112

-- "The numbers a refusal carries": the two that a call has before it knows more
abbrev pub room : ℕ
room = 1

abbrev pub shape : ℕ
shape = 2

abbrev pub unwritten_number : Unwritten → ℕ
unwritten_number Room = room
unwritten_number Shape = shape
