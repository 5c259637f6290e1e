-- The broker's envelopes as they arrive, as the host sees them (document 02, E4).
--
-- The number that a call answers. A refusal is its number, and every other bit is zero. Else, from the lowest bit on:
--    8 bits  0
--    8 bits  the kind of the envelope that is finished, or 0 where none is
--   16 bits  its bit count
--   16 bits  the bytes of the record before its body
--   16 bits  the bytes of the fragment that were taken
-- It is the number of an envelope that was read (specs/Mail.antt), with the bytes taken for the bytes before the next one.
-- The job of an envelope that is finished goes into a lent range of eight bytes, as that of an envelope that was read.
use Rattle.std.specs.Prelude.{ℕ, cond, List, eqb, length, Err, Ok}
use Rattle.words.specs.Limits.{shape}
use Rattle.book.specs.Books.{octets}
use Rattle.envelope.specs.Envelopes.{most_bits}
use Rattle.fragments.specs.declared.Taken.TheVariants.{Whole, Part}
use Rattle.fragments.specs.Mail.{Taking, untaken_number}
use Rattle.fragments.specs.Record.{After, fresh_at, take_at, end_at}
use Rattle.card.specs.Mail.{said, job_bytes}
use Rattle.layout.specs.Calls.{Sent, sent}

unfoldable pub taken_number : Taking → ℕ
taken_number (Ok (Whole e n)) = said (record { kind = e.kind; job = e.job; bits = e.bits; body = e.body; next = n })
taken_number (Ok (Part n)) = said (record { kind = 0; job = 0; bits = 0; body = 0; next = n })
taken_number (Err x) = untaken_number x

-- what a call leaves: the number and the range
abbrev pub arrived : After → Sent
arrived x = sent (taken_number x.answer) x.bytes

unfoldable pub fresh_mail : List ℕ → Sent
fresh_mail b = arrived (fresh_at most_bits b)

unfoldable pub end_mail : List ℕ → Sent
end_mail b = arrived (end_at most_bits b)

-- what a fragment leaves: the number, the record, and the range for the job
pub record Took : Type 0 where
  pub number : ℕ
  pub mail : List ℕ
  pub job : List ℕ

abbrev pub took : ℕ → List ℕ → List ℕ → Took
took n b j = record { number = n; mail = b; job = j }

-- the job of the envelope that is finished; where none is, the range stays
unfoldable pub job_by : List ℕ → Taking → List ℕ
job_by j (Ok (Whole e n)) = octets job_bytes e.job
job_by j (Ok (Part n)) = j
job_by j (Err x) = j

abbrev pub took_by : List ℕ → After → Took
took_by j x = took (taken_number x.answer) x.bytes (job_by j x.answer)

-- SHAPE where the range for the job has another size; else what the fragment brings
unfoldable pub take_mail : List ℕ → List ℕ → List ℕ → Took
take_mail b f j = cond (eqb (length j) job_bytes) (took_by j (take_at most_bits b f)) (took shape b j)
