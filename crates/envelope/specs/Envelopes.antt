-- Document 01, "The broker envelope", and the refusals 20 to 23 of "The numbers a refusal carries".
-- The largest bit count is a parameter, `limit`.
use Rattle.std.specs.Prelude.{ℕ, ◌+◌, ◌-◌, ◌*◌, ◌/◌, ◌%◌, ◌^◌, ◌<◌, ◌≡◌, Bool, true, false, cond, ◌&&◌, ◌||◌, not, List, ◌++◌, length, take, drop, get_or, leb, ltb, eqb, Err, Ok, Result}
use Rattle.words.specs.Limits.{message_bits, buffer_bytes}
use Rattle.words.specs.Readings.{then}
use Rattle.envelope.specs.Numbers.{number, number_at}
use Rattle.envelope.specs.declared.EnvelopeRefusal.{EnvelopeRefusal}
use Rattle.envelope.specs.declared.EnvelopeRefusal.TheVariants.{Cut, Groups, Kind, Size}
use Rattle.envelope.specs.declared.Envelope.{Envelope}
use Rattle.words.specs.declared.Unwritten.{Unwritten}
use Rattle.words.specs.declared.Unwritten.TheVariants.{Room, Shape}

-- "The numbers a refusal carries"
abbrev pub refusal_number : EnvelopeRefusal → ℕ
refusal_number Cut = 20
refusal_number Groups = 21
refusal_number Kind = 22
refusal_number Size = 23

-- "Sizes": the bits of a message, at most; the bytes of a lent output buffer, at least
abbrev pub most_bits : ℕ
most_bits = message_bits

abbrev pub least_room : ℕ
least_room = buffer_bytes

-- the kind that is a refusal, and the bits of its number
abbrev pub refusal_kind : ℕ
refusal_kind = 3

abbrev pub refusal_bits : ℕ
refusal_bits = 8

-- ---- what the fields may be

-- kind 1 is a message to send, 2 a delivered one, 3 a refusal
unfoldable pub is_kind : ℕ → Bool
is_kind kind = leb 1 kind && leb kind refusal_kind

-- a bit count is within the limit; a refusal has 8 bits, its number
unfoldable pub size_fits : ℕ → ℕ → ℕ → Bool
size_fits limit kind bits = leb bits limit && (not (eqb kind refusal_kind) || eqb bits refusal_bits)

-- the bytes of a body
unfoldable pub bytes_for : ℕ → ℕ
bytes_for bits = (bits + 7) / 8

-- the bits of the last byte past the count are zero
unfoldable pub is_padded : ℕ → List ℕ → Bool
is_padded bits body = eqb (get_or body (bytes_for bits - 1) 0 % 2 ^ (8 * bytes_for bits - bits)) 0

-- ---- reading, in the order kind number (20, 21, 22), job (20, 21), bit count (20, 21, 23), body (20, 23)

unfoldable pub body_at : List ℕ → ℕ → ℕ → ℕ → ℕ → Result Envelope EnvelopeRefusal
body_at s kind job bits at =
    cond (ltb (length s) (at + bytes_for bits)) (Err Cut)
    (cond (is_padded bits (drop at s)) (Ok (record { kind = kind; job = job; bits = bits; body = at; next = at + bytes_for bits }))
    (Err Size))

unfoldable pub size_at : ℕ → List ℕ → ℕ → ℕ → ℕ → ℕ → Result Envelope EnvelopeRefusal
size_at limit s kind job bits at = cond (size_fits limit kind bits) (body_at s kind job bits at) (Err Size)

unfoldable pub job_at : ℕ → List ℕ → ℕ → ℕ → ℕ → Result Envelope EnvelopeRefusal
job_at limit s kind job at = cond (eqb job 0) (Err Groups) (then (number_at s at) (size_at limit s kind job))

unfoldable pub kind_at : ℕ → List ℕ → ℕ → ℕ → Result Envelope EnvelopeRefusal
kind_at limit s kind at = cond (is_kind kind) (then (number_at s at) (job_at limit s kind)) (Err Kind)

-- the envelope that begins at a position
unfoldable pub envelope_at : ℕ → List ℕ → ℕ → Result Envelope EnvelopeRefusal
envelope_at limit s at = then (number_at s at) (kind_at limit s)

-- ---- writing

-- what an envelope says
pub record Content : Type 0 where
  pub kind : ℕ
  pub job : ℕ
  pub bits : ℕ
  pub body : List ℕ

-- the bytes of an envelope
unfoldable pub bytes_of : Content → List ℕ
bytes_of c = number c.kind ++ (number c.job ++ (number c.bits ++ c.body))

-- what is taken of a lent body
abbrev pub content : ℕ → ℕ → ℕ → List ℕ → Content
content kind job bits body = record { kind = kind; job = job; bits = bits; body = take (bytes_for bits) body }

-- reading refuses none of it, and the body is there
unfoldable pub fits : ℕ → ℕ → ℕ → ℕ → List ℕ → Bool
fits limit kind job bits body =
    is_kind kind && (not (eqb job 0) && (size_fits limit kind bits && (leb (bytes_for bits) (length body) && is_padded bits body)))

-- the answer and the buffer after it
pub record Left : Type 0 where
  pub answer : Result ℕ Unwritten
  pub bytes : List ℕ

abbrev pub left : Result ℕ Unwritten → List ℕ → Left
left w s = record { answer = w; bytes = s }

-- bytes put at the front of a buffer, the rest of it as it was
abbrev pub wrote : List ℕ → List ℕ → Left
wrote bs out = left (Ok (length bs)) (bs ++ drop (length bs) out)

-- ROOM, then SHAPE ("Order for calls"), and the buffer as it was; or the envelope
unfoldable pub write_envelope : ℕ → ℕ → List ℕ → ℕ → ℕ → ℕ → List ℕ → Left
write_envelope room limit out kind job bits body =
    cond (ltb (length out) room) (left (Err Room) out)
    (cond (fits limit kind job bits body) (wrote (bytes_of (content kind job bits body)) out) (left (Err Shape) out))

-- ---- what the theorems speak of

-- an envelope that reading does not refuse
pub record Fit (limit : ℕ) (c : Content) : Type 0 where
  pub kind : is_kind c.kind ≡ true
  pub job : eqb c.job 0 ≡ false
  pub within : c.job < 2 ^ 64
  pub size : size_fits limit c.kind c.bits ≡ true
  pub body : length c.body ≡ bytes_for c.bits
  pub padded : is_padded c.bits c.body ≡ true

-- the bytes before the body
unfoldable pub header : Content → List ℕ
header c = number c.kind ++ (number c.job ++ number c.bits)

-- an envelope where it begins at a position
unfoldable pub placed : ℕ → Content → Envelope
placed at c =
    record { kind = c.kind; job = c.job; bits = c.bits; body = at + length (header c); next = at + length (bytes_of c) }

-- what an envelope that was read says
abbrev pub content_of : List ℕ → Envelope → Content
content_of s e = content e.kind e.job e.bits (drop e.body s)

-- an answer with its positions counted from further back
abbrev pub moved : ℕ → Result Envelope EnvelopeRefusal → Result Envelope EnvelopeRefusal
moved by (Ok e) = Ok (record { kind = e.kind; job = e.job; bits = e.bits; body = by + e.body; next = by + e.next })
moved by (Err r) = Err r

-- the bytes of the largest envelope: a kind, a job of ten groups, the limit and its body
unfoldable pub largest : ℕ → ℕ
largest limit = 1 + 10 + length (number limit) + bytes_for limit
