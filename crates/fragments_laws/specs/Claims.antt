-- Document 02, E4: "For every way of cutting a byte string, with fragments of no bytes among them, the envelopes, the refusal and the record
-- after it equal those of reading the string whole." Crate fragments has the envelopes and the record; here is all that a host sees, with
-- the answer to the last call.
use Rattle.std.specs.Prelude.{ℕ, zero, suc, cond, List, [], ◌∷◌, length, drop, Err, Ok}
use Rattle.envelope.specs.Envelopes.{Content}
use Rattle.envelope.specs.Strings.{Ending, ended, stopped, walk}
use Rattle.envelope.specs.declared.EnvelopeRefusal.{EnvelopeRefusal}
use Rattle.fragments.specs.declared.Taken.TheVariants.{Whole, Part}
use Rattle.fragments.specs.declared.Untaken.TheVariants.{Refused, Shape}
use Rattle.fragments.specs.Mail.{Taking, fresh, is_cut}
use Rattle.fragments.specs.Record.{record_of, take_at}
use Rattle.fragments.specs.Cuts.{Fed, hand_over, hand_all, whole_read}

-- what the last call said: that the bytes are taken so far, a refusal, or that the range is no record
pub data Said : Type 0 where
  goes_on : Said
  refuses : EnvelopeRefusal → Said
  no_record : Said

-- a finished envelope is followed by a call with the rest of the fragment
abbrev pub said_by : Taking → (ℕ → Said) → Said
said_by (Ok (Whole e n)) k = k n
said_by (Ok (Part n)) k = goes_on
said_by (Err (Refused r)) k = refuses r
said_by (Err Shape) k = no_record

-- of one fragment, as `hand_over` hands it over
unfoldable pub said_of : ℕ → ℕ → List ℕ → List ℕ → Said
said_of limit zero b f = no_record
said_of limit (suc k) b f = said_by (take_at limit b f).answer (λ (n : ℕ). said_of limit k (take_at limit b f).bytes (drop n f))

-- of one fragment after the other, where x was said before them
unfoldable pub said_last : ℕ → Said → List ℕ → List (List ℕ) → Said
said_last limit x b [] = x
said_last limit x b (f ∷ fs) = said_last limit (said_of limit (suc (length f)) b f) (hand_over limit (suc (length f)) b f).bytes fs

-- of the string whole: its refusal, if it has one; "CUT is given only when the host says the input has ended"
abbrev pub whole_says_of : Ending → Said
whole_says_of (ended n) = goes_on
whole_says_of (stopped r n) = cond (is_cut r) goes_on (refuses r)

-- the envelopes, the refusal, and the record after it
pub record Seen : Type 0 where
  pub envelopes : List Content
  pub refusal : Said
  pub bytes : List ℕ

abbrev pub seen : Fed → Said → Seen
seen x s = record { envelopes = x.envelopes; refusal = s; bytes = x.bytes }

abbrev pub by_calls : ℕ → List (List ℕ) → Seen
by_calls limit fs = seen (hand_all limit (record_of limit fresh) fs) (said_last limit goes_on (record_of limit fresh) fs)

abbrev pub by_whole : ℕ → List ℕ → Seen
by_whole limit s = seen (whole_read limit s) (whole_says_of (walk limit s).ending)
