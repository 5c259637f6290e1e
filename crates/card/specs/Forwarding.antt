-- A forward message that was delivered, taken apart for the host. Its parts by number: 0 year, 1 month, 2 day, 3 hours, 4 minutes, 5
-- seconds, 6 the count of the flight identification's characters, 7 they as one number, seven bits each, the first on top, 8 the aircraft's
-- address, 9 what the message's bits are (0 uplink, 1 downlink), 10 those bits. 16 to 26 are the same parts of a forward message of application type 2.
-- The number that taking one out answers. A refusal is its number, with its place above it where the bytes are at fault (fields' `packed`),
-- and every other bit is zero. Else, from the lowest bit on:
--    8 bits  0
--   56 bits  the part; of the message's bits, which stand in the buffer from the first on, their count
-- All parts at once: the ten numbers into a lent range, eight bytes each, the most significant first; and the message's bits into the
-- buffer. The number that is answered is that of the message's bits.
use Rattle.std.specs.Prelude.{ℕ, zero, suc, ◌-◌, ◌*◌, ◌%◌, cond, not, List, [], ◌∷◌, eqb, ltb, length, Err, Ok, Result}
use Rattle.words.specs.Limits.{room, shape, unwritten_number}
use Rattle.bits.specs.Bits.{run}
use Rattle.book.specs.Books.{eights}
use Rattle.fields.specs.Refusals.{packed}
use Rattle.apdu.specs.Sizes.{buffer_least}
use Rattle.apdu.specs.Pdus.{lent}
use Rattle.codec.specs.Codec.{whole_forward}
use Rattle.editions.specs.Editions.{is_type, edition_of}
use Rattle.editions.specs.declared.Edition.{Edition}
use Rattle.editions.specs.declared.Edition.TheVariants.{Plain, Protected}
use Rattle.apdu.specs.Writing.{Done, write_out, run_fits}
use Rattle.pdus.specs.declared.Span.{Span}
use Rattle.apdu.specs.declared.Heading.{Heading}
use Rattle.apdu.specs.declared.Forward.{Forward}
use Rattle.layout.specs.Calls.{Sent, sent}
use Rattle.fields.specs.Fields.{Reading}
use Rattle.words.specs.declared.Unwritten.{Unwritten}

-- the message's bits
abbrev pub message_part : ℕ
message_part = 10

-- where the parts of type 2 begin; the edition of a part's number, and the part
abbrev pub plain_parts : ℕ
plain_parts = 16

abbrev pub edition_in : ℕ → Edition
edition_in which = cond (ltb which plain_parts) Protected Plain

abbrev pub part_in : ℕ → ℕ
part_in which = cond (ltb which plain_parts) which (which - plain_parts)

abbrev pub heading_part : ℕ → Heading → ℕ
heading_part zero h = h.date.first
heading_part (suc zero) h = h.date.second
heading_part (suc (suc zero)) h = h.date.third
heading_part (suc (suc (suc zero))) h = h.time.first
heading_part (suc (suc (suc (suc zero)))) h = h.time.second
heading_part (suc (suc (suc (suc (suc zero))))) h = h.time.third
heading_part (suc (suc (suc (suc (suc (suc zero)))))) h = h.characters
heading_part (suc (suc (suc (suc (suc (suc (suc zero))))))) h = h.flight
heading_part (suc (suc (suc (suc (suc (suc (suc (suc zero)))))))) h = h.address
heading_part (suc (suc (suc (suc (suc (suc (suc (suc (suc n))))))))) h = h.direction

-- a number in 56 bits, above the eight of a refusal
abbrev pub told : ℕ → ℕ
told n = 256 * (n % 72057594037927936)

unfoldable pub message_answer : Result ℕ Unwritten → ℕ
message_answer (Ok n) = told n
message_answer (Err x) = unwritten_number x

abbrev pub message_done : Done → Sent
message_done x = sent (message_answer x.answer) x.bytes

-- the message's bits, at the front of the buffer
abbrev pub message_out : List ℕ → List ℕ → Span → Done
message_out out s m = write_out (run_fits s m.at m.count) out (run s m.at m.count)

unfoldable pub forward_part : List ℕ → List ℕ → ℕ → Forward → Sent
forward_part out s which f =
    cond (eqb which message_part) (message_done (message_out out s f.message)) (sent (told (heading_part which f.heading)) out)

unfoldable pub forward_chosen : List ℕ → List ℕ → ℕ → Reading Forward → Sent
forward_chosen out s which (Ok (f, next)) = forward_part out s which f
forward_chosen out s which (Err r) = sent (packed r) out

-- ROOM, then SHAPE of the number that chooses, then the refusals of a forward message
unfoldable pub forward_part_call : List ℕ → ℕ → List ℕ → Sent
forward_part_call out which s =
    cond (ltb (length out) buffer_least) (sent room out) (cond (ltb message_part (part_in which)) (sent shape out) (forward_chosen out s (part_in which) (whole_forward (edition_in which) (lent s))))

-- ---- all parts at once

-- the numbers in front of the message's bits, each in its part's place
abbrev pub heading_numbers : Heading → List ℕ
heading_numbers h =
    h.date.first ∷ h.date.second ∷ h.date.third ∷ h.time.first ∷ h.time.second ∷ h.time.third ∷
    h.characters ∷ h.flight ∷ h.address ∷ h.direction ∷ []

-- the bytes that take them
abbrev pub heading_bytes : ℕ
heading_bytes = 80

-- what a call leaves: the number, the range for the heading, and the buffer
pub record Opened : Type 0 where
  pub number : ℕ
  pub heading : List ℕ
  pub bytes : List ℕ

abbrev pub opened : ℕ → List ℕ → List ℕ → Opened
opened n h b = record { number = n; heading = h; bytes = b }

-- the numbers, where the message's bits stand in the buffer
unfoldable pub heading_by : List ℕ → Heading → Result ℕ Unwritten → List ℕ
heading_by b h (Ok n) = eights (heading_numbers h)
heading_by b h (Err x) = b

abbrev pub opened_by : List ℕ → Heading → Done → Opened
opened_by b h x = opened (message_answer x.answer) (heading_by b h x.answer) x.bytes

unfoldable pub forward_parts : List ℕ → List ℕ → List ℕ → Forward → Opened
forward_parts b out s f = opened_by b f.heading (message_out out s f.message)

unfoldable pub forward_opened : List ℕ → List ℕ → List ℕ → Reading Forward → Opened
forward_opened b out s (Ok (f, next)) = forward_parts b out s f
forward_opened b out s (Err r) = opened (packed r) b out

-- ROOM, then SHAPE of the type and of a range for the heading of another size, then the refusals of a forward message
unfoldable pub read_forward : List ℕ → List ℕ → List ℕ → ℕ → Opened
read_forward b out s application =
    cond (ltb (length out) buffer_least) (opened room b out)
    (cond (not (is_type application)) (opened shape b out)
    (cond (eqb (length b) heading_bytes) (forward_opened b out s (whole_forward (edition_of application) (lent s))) (opened shape b out)))
