-- Two recordings compared, as the host sees it (document 02, E13).
--
-- The number that the call answers, from the lowest bit on:
--    8 bits  the refusal, or 0
--    8 bits  the recording of a refused envelope, or the one whose rest is left: 1 the first, 2 the second; else 0
--   16 bits  the byte where the refused envelope, the first one that differs, or the rest begins
--   16 bits  how many envelopes are before the first one that differs
--    8 bits  its field: 1 kind, 2 job, 3 bit count, 4 body; 0 where none differs
-- The three counts do not go into that number: they go into a lent range of six bytes, two each, the more significant first.
use Rattle.std.specs.Prelude.{ℕ, ◌+◌, ◌*◌, ◌/◌, ◌%◌, cond, List, [], ◌∷◌, ◌++◌, eqb, length}
use Rattle.words.specs.Limits.{shape}
use Rattle.envelope.specs.Envelopes.{most_bits}
use Rattle.recordings.specs.Showing.{Shown, compared}
use Rattle.recordings.specs.declared.Compared.{Compared}
use Rattle.layout.specs.Calls.{Sent, sent}

abbrev pub compared_number : Compared → ℕ
compared_number c = c.refusal % 256 + 256 * (c.recording % 256 + 256 * (c.byte % 65536 + 65536 * (c.index % 65536 + 65536 * (c.field % 256))))

-- the bytes that take the three counts
abbrev pub count_bytes : ℕ
count_bytes = 6

-- a count, its more significant byte first
abbrev pub two : ℕ → List ℕ
two n = n / 256 % 256 ∷ n % 256 ∷ []

abbrev pub counts_of : Compared → List ℕ
counts_of c = two c.first ++ two c.second ++ two c.repeated

-- the number of a report and the range of its counts, which a refusal leaves as it was
unfoldable pub tells_by : List ℕ → Compared → Sent
tells_by counts c = sent (compared_number c) (cond (eqb c.refusal 0) (counts_of c) counts)

-- what the call leaves: the number, the three lists and the counts
pub record Comparison : Type 0 where
  pub number : ℕ
  pub first : List ℕ
  pub second : List ℕ
  pub third : List ℕ
  pub counts : List ℕ

abbrev pub comparison : ℕ → List ℕ → List ℕ → List ℕ → List ℕ → Comparison
comparison n x y z counts = record { number = n; first = x; second = y; third = z; counts = counts }

abbrev pub left_by : Shown → Sent → Comparison
left_by s t = comparison t.number s.first s.second s.third t.bytes

-- SHAPE where the range of the counts has another size; else the recordings compared
unfoldable pub compare_at : List ℕ → List ℕ → List ℕ → List ℕ → List ℕ → List ℕ → Comparison
compare_at a b x y z counts =
    cond (eqb (length counts) count_bytes) (left_by (compared most_bits a b x y z) (tells_by counts (compared most_bits a b x y z).answer)) (comparison shape x y z counts)
