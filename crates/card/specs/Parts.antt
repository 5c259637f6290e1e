-- The parts of message data that was delivered, for the host: 0 the algorithm identifier, 1 the CPDLC message, 2 the integrity check.
-- The number that taking one out answers. A refusal is its number, with its place above it where the bytes are at fault (fields' `packed`),
-- and every other bit is zero. Else, from the lowest bit on:
--    8 bits  0
--    8 bits  1 where the part is there, 0 where it is not
--   16 bits  its bits, in the buffer from the first on
use Rattle.std.specs.Prelude.{ℕ, zero, suc, ◌+◌, ◌*◌, ◌%◌, cond, List, eqb, ltb, length, Err, None, Ok, Option, Result, Some}
use Rattle.words.specs.Limits.{room, shape, unwritten_number}
use Rattle.bits.specs.Bits.{run}
use Rattle.fields.specs.Refusals.{packed}
use Rattle.apdu.specs.Sizes.{buffer_least, octet, bit}
use Rattle.apdu.specs.Pdus.{lent}
use Rattle.apdu.specs.Reading.{whole_data}
use Rattle.apdu.specs.Writing.{Done, write_out, run_fits}
use Rattle.apdu.specs.declared.Data.{Data}
use Rattle.layout.specs.Calls.{Sent, sent}
use Rattle.fields.specs.Fields.{Reading}
use Rattle.pdus.specs.declared.Span.{Span}
use Rattle.words.specs.declared.Unwritten.{Unwritten}

unfoldable pub chosen : ℕ → Data → Option Span
chosen which d = cond (eqb which 0) d.identifier (cond (eqb which 1) d.message (Some d.check))

-- the bits of an item
unfoldable pub unit_of : ℕ → ℕ
unit_of which = cond (eqb which 0) octet bit

abbrev pub count_of : Option Span → ℕ
count_of None = 0
count_of (Some x) = x.count

unfoldable pub part_answer : Result ℕ Unwritten → ℕ
part_answer (Ok n) = 256 * (1 + 256 * (n % 65536))
part_answer (Err x) = unwritten_number x

abbrev pub part_done : Done → Sent
part_done x = sent (part_answer x.answer) x.bytes

-- a part that is there, at the front of the buffer
unfoldable pub put_out : List ℕ → List ℕ → ℕ → Option Span → Sent
put_out out s unit None = sent 0 out
put_out out s unit (Some x) = part_done (write_out (run_fits s x.at (unit * x.count)) out (run s x.at (unit * x.count)))

unfoldable pub put_chosen : List ℕ → List ℕ → ℕ → Reading Data → Sent
put_chosen out s which (Ok (d, next)) = put_out out s (unit_of which) (chosen which d)
put_chosen out s which (Err r) = sent (packed r) out

-- ROOM, then SHAPE of the number that chooses, then the refusals of message data
unfoldable pub part_call : List ℕ → ℕ → List ℕ → Sent
part_call out which s =
    cond (ltb (length out) buffer_least) (sent room out) (cond (ltb 2 which) (sent shape out) (put_chosen out s which (whole_data (lent s))))
