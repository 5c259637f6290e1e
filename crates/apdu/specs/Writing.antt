-- What a writer leaves in a lent buffer.
use Rattle.std.specs.Prelude.{ℕ, ◌≡◌, ◌≤◌, ◌<◌, ◌+◌, ◌-◌, ◌*◌, ◌^◌, List, Bool, true, false, cond, ◌&&◌, length, leb, ltb, Err, None, Ok, Option, Result, Some}
use Rattle.bits.specs.Bits.{bits_n}
use Rattle.bits.specs.Put.{put_bits}
use Rattle.fields.specs.Encodings.{whole_fits, within_fits}
use Rattle.fields.specs.declared.Lead.{Lead}
use Rattle.apdu.specs.Sizes.{identifier_least, identifier_most, message_most, check_most, buffer_least, user_last, provider_last, octet, bit}
use Rattle.apdu.specs.Headings.{response_last, heading_fits}
use Rattle.apdu.specs.Pdus.{lent, forwards}
use Rattle.apdu.specs.Encoding.{padded, mode_fits}
use Rattle.pdus.specs.declared.PduType.{PduType}
use Rattle.pdus.specs.declared.Span.{Span}
use Rattle.apdu.specs.declared.Data.{Data}
use Rattle.apdu.specs.declared.Forward.{Forward}
use Rattle.apdu.specs.declared.Apdu.{Apdu}
use Rattle.apdu.specs.declared.Apdu.TheVariants as apdu
use Rattle.words.specs.declared.Unwritten.{Unwritten}
use Rattle.words.specs.declared.Unwritten.TheVariants.{Room}
use Rattle.words.specs.declared.Unwritten.TheVariants.{Shape}

-- ---- SHAPE: an argument breaks the sizes, its type or its codes, or a count is more than the lent bytes hold

-- items of `unit` bits each at a place of the bits l: from least to most of them, and l holds them
unfoldable pub items_fit : List ℕ → ℕ → ℕ → ℕ → Span → Bool
items_fit l unit least most x = within_fits least most x.count && leb (x.at + unit * x.count) (length l)

unfoldable pub part_fits : List ℕ → ℕ → ℕ → ℕ → Option Span → Bool
part_fits l unit least most None = true
part_fits l unit least most (Some x) = items_fit l unit least most x

unfoldable pub data_fits : List ℕ → List ℕ → List ℕ → Data → Bool
data_fits li lm lc d =
    part_fits li octet identifier_least identifier_most d.identifier && part_fits lm bit 0 message_most d.message &&
    items_fit lc bit 0 check_most d.check

-- a forward message: what stands before the message's bits keeps its types, and lm holds those bits
unfoldable pub forward_fits : List ℕ → Forward → Bool
forward_fits lm f = heading_fits f.heading && items_fit lm bit 0 message_most f.message

unfoldable pub apdu_fits : PduType → List ℕ → List ℕ → List ℕ → Apdu → Bool
apdu_fits pdus li lm lc (apdu.AbortUser r) = whole_fits 0 user_last r
apdu_fits pdus li lm lc (apdu.AbortProvider r) = whole_fits 0 provider_last r
apdu_fits pdus li lm lc (apdu.Start m d) = mode_fits pdus m && data_fits li lm lc d
apdu_fits pdus li lm lc (apdu.Send d) = data_fits li lm lc d
apdu_fits pdus li lm lc (apdu.Forward f) = forwards pdus && forward_fits lm f
apdu_fits pdus li lm lc (apdu.ForwardResponse x) = forwards pdus && whole_fits 0 response_last x

-- n bits at a place of lent bytes, at most so many
unfoldable pub run_within : ℕ → List ℕ → ℕ → ℕ → Bool
run_within most s at n = leb n most && leb (at + n) (length (lent s))

-- at most those of a message
abbrev pub run_fits : List ℕ → ℕ → ℕ → Bool
run_fits = run_within message_most

-- the bits that a buffer takes with their padding
abbrev pub passed_most : ℕ
passed_most = 8 * buffer_least - 7

-- ---- a number of a few bits that waits for what goes out behind it

-- at most so many bits, which hold it
abbrev pub Waits : ℕ → Lead → Type 0
Waits most x = (x.width ≤ most) × (x.number < 2 ^ x.width)

abbrev pub waiting : Lead → List ℕ
waiting x = bits_n x.width x.number

-- ---- bits that go out at a place of a buffer

-- the buffer has room for them
abbrev pub RoomFor : List ℕ → ℕ → List ℕ → Type 0
RoomFor s at bs = at + length bs ≤ length (lent s)

-- the place after them, and the buffer that holds them
abbrev pub Goes : List ℕ → List ℕ → ℕ → ℕ → List ℕ → Type 0
Goes s z at p bs = (p ≡ at + length bs) × (z ≡ put_bits s at bs)

-- ---- the answer and the buffer

-- the presence bit of a part
abbrev pub there : Option Span → ℕ
there None = 0
there (Some x) = 1

-- the place after what was written
abbrev pub place_of : Option ℕ → ℕ
place_of (Some p) = p
place_of None = 0

pub record Done : Type 0 where
  pub answer : Result ℕ Unwritten
  pub bytes : List ℕ

abbrev pub done : Result ℕ Unwritten → List ℕ → Done
done a s = record { answer = a; bytes = s }

-- whether a value may be written to a buffer of so many bytes: one that is too small, then a value that is not right, is refused
abbrev pub writable : ℕ → Bool → Result (Unit {0}) Unwritten
writable n right = cond (ltb n buffer_least) (Err Room) (cond right (Ok tt) (Err Shape))

-- Bits written from the first bit of a buffer on, padded with zeros to a whole byte, and their count before the padding; later bytes stay.
-- A buffer that is too small, then a value that is not right, is refused, and every byte stays.
unfoldable pub write_out : Bool → List ℕ → List ℕ → Done
write_out ok s bs =
    cond (ltb (length s) buffer_least) (done (Err Room) s)
    (cond ok (done (Ok (length bs)) (put_bits s 0 (padded bs))) (done (Err Shape) s))
