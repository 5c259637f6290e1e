-- How many bytes an unfinished envelope lacks before the reader can answer anything else: of its header one at least, of its body all.
-- Only the code's loop uses it, which so does not read the header again for each byte of a body.
use Rattle.std.specs.Prelude.{ℕ, ◌+◌, ◌-◌, List, length}
use Rattle.words.specs.Readings.{onto}
use Rattle.envelope.specs.Numbers.{number_at}
use Rattle.envelope.specs.Envelopes.{bytes_for}
use Rattle.envelope.specs.declared.EnvelopeRefusal.{EnvelopeRefusal}

unfoldable pub missing_body : List ℕ → ℕ → ℕ → ℕ
missing_body s bits at = at + bytes_for bits - length s

unfoldable pub missing_size : List ℕ → ℕ → ℕ → ℕ
missing_size s job at = onto (λ (r : EnvelopeRefusal). 1) (number_at s at) (missing_body s)

unfoldable pub missing_job : List ℕ → ℕ → ℕ → ℕ
missing_job s kind at = onto (λ (r : EnvelopeRefusal). 1) (number_at s at) (missing_size s)

unfoldable pub missing : List ℕ → ℕ
missing s = onto (λ (r : EnvelopeRefusal). 1) (number_at s 0) (missing_job s)
