-- A message: the header, no constrained data, and one to five elements (ATCUplinkMessage, ATCDownlinkMessage, Doc 9705 2.3.4.3).
use Rattle.std.specs.Prelude.{ℕ, ◌+◌, ◌-◌, ◌*◌, ◌%◌, List, [], ◌∷◌, ◌++◌, Bool, true, false, cond, ◌&&◌, length, take, drop, replicate, eqb, leb, ltb, Err, Ok, Result}
use Rattle.words.specs.Limits as limits
use Rattle.bits.specs.Bits.{bits_n, bits_to}
use Rattle.bits.specs.Put.{put_bits}
use Rattle.fields.specs.Fields.{Reading, refused_at, then, whole_number, onto}
use Rattle.fields.specs.Encodings.{whole_bits, whole_fits}
use Rattle.fields.specs.declared.Refusal.{Refusal}
use Rattle.fields.specs.declared.Fault.TheVariants as fault
use Rattle.kinds.specs.declared.Direction.{Direction}
use Rattle.inner.specs.declared.values.Header.{Header}
use Rattle.elements.specs.declared.values.Element.{Element}
use Rattle.inner.specs.declared.values.Message.{Message}
use Rattle.inner.specs.declared.values.Unopened.{Unopened}
use Rattle.inner.specs.declared.values.Unopened.TheVariants as unopened
use Rattle.elements.specs.OneElement.{bare, no_time, plain}
use Rattle.inner.specs.Headers.{header_fits, header_bits, header_at}
use Rattle.inner.specs.Places.{no_text, row_at, text_at, row_fits, row_bits, laid}
use Rattle.words.specs.declared.Unwritten.{Unwritten}
use Rattle.words.specs.declared.Unwritten.TheVariants.{Room, Shape}

abbrev pub no_header : Header
no_header =
    record {
      identification = 0;
      referenced = false;
      reference = 0;
      dated = record { year = 0; month = 0; day = 0; time = no_time; seconds = 0 };
      acknowledged = false;
    }

abbrev pub message_of : Header → ℕ → Reading (List Element) → Reading Message
message_of h n f = then f (λ (es : List Element) (next : ℕ). Ok (record { header = h; count = n; places = es }, next))

-- the count of elements, behind the bit that says whether there is constrained data
abbrev pub count_at : List ℕ → ℕ → Reading ℕ
count_at l at = then (whole_number l at 0 1) (λ (c p : ℕ). cond (eqb c 0) (whole_number l p 1 5) (refused_at at fault.NotCarried))

-- what follows the header: constrained data marked present is not carried, which is a fault of its presence bit; that stands before the
-- count of elements
unfoldable pub body_at : Direction → List ℕ → Header → ℕ → Reading Message
body_at d l h at = then (count_at l at) (λ (n q : ℕ). message_of h n (laid (row_at d l q n)))

-- the message at a place; what follows it is not looked at
unfoldable pub message_at : Direction → List ℕ → ℕ → Reading Message
message_at d l at = then (header_at l at) (body_at d l)

-- a message and nothing after it: any bit that is left over is refused, at the first of them
abbrev pub ended_at : List ℕ → Message → ℕ → Reading Message
ended_at l m next = cond (leb (next + 1) (length l)) (refused_at next fault.Tail) (Ok (m, next))

unfoldable pub exactly : Direction → List ℕ → Reading Message
exactly d l = then (message_at d l 0) (ended_at l)

-- the characters of a message that was read: its elements follow the header, a presence bit and the count in three bits
abbrev pub elements_text : Direction → List ℕ → ℕ → ℕ → List ℕ
elements_text d l at n = onto no_text (header_at l at) (λ (h : Header) (next : ℕ). text_at d l (next + 4) n)

unfoldable pub message_text : Direction → List ℕ → ℕ → Message → List ℕ
message_text d l at m = elements_text d l at m.count

-- ---- which messages there are, with their characters t beside them, and their bits

unfoldable pub empty : Element → Bool
empty e = eqb e.number 0 && plain e && eqb e.characters 0

unfoldable pub all_empty : List Element → Bool
all_empty [] = true
all_empty (e ∷ es) = empty e && all_empty es

-- five places, the unused ones empty
unfoldable pub message_fits : Direction → Message → List ℕ → Bool
message_fits d m t =
    header_fits m.header && whole_fits 1 5 m.count && eqb (length m.places) 5 && row_fits d (take m.count m.places) t
    && all_empty (drop m.count m.places)

unfoldable pub message_bits : Direction → Message → List ℕ → List ℕ
message_bits d m t = header_bits m.header ++ whole_bits 0 1 0 ++ whole_bits 1 5 m.count ++ row_bits d (take m.count m.places) t

-- ---- limits, each named once (document 01, "Sizes"): the bits of a message, the bytes of a lent output buffer

abbrev pub bits_most : ℕ
bits_most = limits.message_bits

abbrev pub room_least : ℕ
room_least = limits.buffer_bytes

-- a message that the card carries: it is of its type, and it does not pass the limit
abbrev pub message_carried : Direction → Message → List ℕ → Bool
message_carried d m t = message_fits d m t && leb (length (message_bits d m t)) bits_most

-- ---- writing: what a call leaves in a lent buffer

-- zero bits up to a whole byte
abbrev pub padding : ℕ → ℕ
padding n = (8 - n % 8) % 8

unfoldable pub padded : List ℕ → List ℕ
padded l = l ++ bits_n (padding (length l)) 0

pub record Done : Type 0 where
  pub answer : Result ℕ Unwritten
  pub bytes : List ℕ

abbrev pub done : Result ℕ Unwritten → List ℕ → Done
done a s = record { answer = a; bytes = s }

-- A buffer that is too small is refused first, then a message that is not carried; every byte stays. Else the bits stand from the buffer's
-- first bit on, padded with zeros to a whole byte, and their count is answered; later bytes stay.
unfoldable pub write_message : Direction → Message → List ℕ → List ℕ → Done
write_message d m t out =
    cond (ltb (length out) room_least) (done (Err Room) out)
    (cond (message_carried d m t) (done (Ok (length (message_bits d m t))) (put_bits out 0 (padded (message_bits d m t)))) (done (Err Shape) out))

-- ---- reading: the message in the first n bits of lent bytes, its characters in a lent text

pub record Opening : Type 0 where
  pub answer : Result (Message × ℕ) Unopened
  pub text : List ℕ

abbrev pub opening : Result (Message × ℕ) Unopened → List ℕ → Opening
opening a z = record { answer = a; text = z }

abbrev pub not_opened : List ℕ → Unopened → Opening
not_opened z u = opening (Err u) z

-- a message m that was read, with the count of its characters t: they lie in the first bytes of the text z, and later bytes stay
abbrev pub opened_as : List ℕ → Message → List ℕ → Opening
opened_as z m t = opening (Ok (m, length t)) (t ++ drop (length t) z)

-- what reading refused
abbrev pub refused_by : List ℕ → Refusal → Opening
refused_by z r = not_opened z (unopened.Refused r)

-- A text that is too small is refused first, then a count that passes the limit or the lent bytes, then what reading refuses; every byte of
-- the text stays.
unfoldable pub open_message : Direction → List ℕ → ℕ → List ℕ → Opening
open_message d s n z =
    cond (ltb (length z) room_least) (not_opened z unopened.Room)
    (cond (leb n bits_most && leb n (8 * length s))
    (onto (refused_by z) (exactly d (bits_to s n)) (λ (m : Message) (next : ℕ). opened_as z m (message_text d (bits_to s n) 0 m)))
    (not_opened z unopened.Shape))
