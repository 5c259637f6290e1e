-- A worked example: bytes, and what reading them answers. (Crate examples has document 01's; more stand in proofs/Examples.)
use Rattle.std.specs.Prelude.{ℕ, Bool, ◌&&◌, List, length, eqb, Err, Ok, Result}
use Rattle.envelope.specs.Envelopes.{refusal_number}
use Rattle.envelope.specs.declared.EnvelopeRefusal.{EnvelopeRefusal}
use Rattle.envelope.specs.declared.Envelope.{Envelope}

-- bytes, the refusal's number or 0, and the envelope's kind, job and bit count or zeros
pub record Row : Type 0 where
  pub bytes : List ℕ
  pub refusal : ℕ
  pub kind : ℕ
  pub job : ℕ
  pub bits : ℕ

abbrev pub reads : List ℕ → ℕ → ℕ → ℕ → Row
reads l kind job bits = record { bytes = l; refusal = 0; kind = kind; job = job; bits = bits }

-- the answer is the row's, and the envelope takes all its bytes
abbrev pub answers : Result Envelope EnvelopeRefusal → Row → Bool
answers (Ok e) r =
    eqb r.refusal 0 && eqb e.kind r.kind && eqb e.job r.job && eqb e.bits r.bits && eqb e.next (length r.bytes)
answers (Err f) r = eqb (refusal_number f) r.refusal
