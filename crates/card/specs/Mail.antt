-- The broker's envelopes as the host sees them.
--
-- The number that reading answers. A refusal is its number, and every other bit is zero. Else, from the lowest bit on:
--    8 bits  0
--    8 bits  the kind
--   16 bits  the bit count
--   16 bits  the bytes before the body
--   16 bits  the bytes before the next envelope
-- A job has 64 bits, so it does not go into that number: it goes into a lent range of eight bytes, the most significant first.
-- The number that writing answers. A refusal is its number. Else 8 bits 0, and 16 bits the bytes that the envelope takes.
use Rattle.std.specs.Prelude.{ℕ, ◌+◌, ◌*◌, ◌%◌, cond, List, eqb, length, Err, Ok, Result}
use Rattle.words.specs.Limits.{shape, unwritten_number}
use Rattle.book.specs.Books.{octets}
use Rattle.layout.specs.Calls.{Sent, sent}
use Rattle.envelope.specs.Envelopes.{refusal_number, least_room, most_bits, envelope_at, write_envelope, Left}
use Rattle.envelope.specs.declared.Envelope.{Envelope}
use Rattle.envelope.specs.declared.EnvelopeRefusal.{EnvelopeRefusal}
use Rattle.words.specs.declared.Unwritten.{Unwritten}

abbrev pub said : Envelope → ℕ
said e = 256 * (e.kind % 256 + 256 * (e.bits % 65536 + 65536 * (e.body % 65536 + 65536 * (e.next % 65536))))

unfoldable pub written_answer : Result ℕ Unwritten → ℕ
written_answer (Ok n) = 256 * (n % 65536)
written_answer (Err x) = unwritten_number x

-- the bytes that take a job
abbrev pub job_bytes : ℕ
job_bytes = 8

-- what was read: its number and its job; a refusal leaves the range for the job as it was
unfoldable pub read_by : List ℕ → Result Envelope EnvelopeRefusal → Sent
read_by job (Ok e) = sent (said e) (octets job_bytes e.job)
read_by job (Err r) = sent (refusal_number r) job

-- SHAPE where the range for the job has another size; else the envelope at the front of the lent bytes
unfoldable pub read_envelope : List ℕ → List ℕ → Sent
read_envelope lent job = cond (eqb (length job) job_bytes) (read_by job (envelope_at most_bits lent 0)) (sent shape job)

abbrev pub answered : Left → Sent
answered x = sent (written_answer x.answer) x.bytes

unfoldable pub put_envelope : List ℕ → ℕ → ℕ → ℕ → List ℕ → Sent
put_envelope out kind job bits body = answered (write_envelope least_room most_bits out kind job bits body)
