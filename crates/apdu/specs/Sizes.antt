-- Limits, each named once: document 01, "Sizes", and the enumerations of Doc 9705, 2.3.4.2.
use Rattle.std.specs.Prelude.{ℕ}
use Rattle.words.specs.Limits.{message_bits, buffer_bytes}

-- algorithm identifier, contents octets, if present
abbrev pub identifier_least : ℕ
identifier_least = 1

abbrev pub identifier_most : ℕ
identifier_most = 16

-- CPDLC message, bits
abbrev pub message_most : ℕ
message_most = message_bits

-- integrity check, bits
abbrev pub check_most : ℕ
check_most = 64

-- each of the two lent output buffers, bytes
abbrev pub buffer_least : ℕ
buffer_least = buffer_bytes

-- the last numbers of CPDLCUserAbortReason, CPDLCProviderAbortReason and Mode
abbrev pub user_last : ℕ
user_last = 12

abbrev pub provider_last : ℕ
provider_last = 7

abbrev pub mode_last : ℕ
mode_last = 1

-- more bits than a count of bits can say are in no memory: as the end of lent bytes it means all of them
abbrev pub all_bits : ℕ
all_bits = 18446744073709551615

-- bits of an item: an octet, and a bit
abbrev pub octet : ℕ
octet = 8

abbrev pub bit : ℕ
bit = 1

-- the longest count that is not in fragments (X.691, 11.9.3.8)
abbrev pub length_most : ℕ
length_most = 16383
