-- A string of envelopes: one after the other, to its end or to the first that is refused.
use Rattle.std.specs.Prelude.{ℕ, zero, suc, ◌+◌, ◌<◌, ◌≡◌, cond, List, [], ◌∷◌, ◌++◌, map, length, drop, leb, Err, Ok, Result}
use Rattle.envelope.specs.Envelopes.{Content, content_of, bytes_of, Fit, placed, envelope_at}
use Rattle.envelope.specs.declared.EnvelopeRefusal.{EnvelopeRefusal}
use Rattle.envelope.specs.declared.Envelope.{Envelope}

-- ---- written

-- the bytes of a list of envelopes
unfoldable pub string_of : List Content → List ℕ
string_of [] = []
string_of (c ∷ cs) = bytes_of c ++ string_of cs

-- where they lie, the first at a position
unfoldable pub all_placed : ℕ → List Content → List Envelope
all_placed at [] = []
all_placed at (c ∷ cs) = placed at c ∷ all_placed (at + length (bytes_of c)) cs

-- reading refuses none of them
pub data AllFit (limit : ℕ) : List Content → Type 0 where
  none : AllFit limit []
  more : {c : Content} {cs : List Content} → Fit limit c → AllFit limit cs → AllFit limit (c ∷ cs)

-- ---- read

-- where reading stops: at the end of the bytes, or at a refusal and the byte where its envelope begins
pub data Ending : Type 0 where
  ended : ℕ → Ending
  stopped : EnvelopeRefusal → ℕ → Ending

pub record Walk : Type 0 where
  pub envelopes : List Envelope
  pub ending : Ending

abbrev pub ends : Ending → Walk
ends x = record { envelopes = []; ending = x }

abbrev pub past : Envelope → Walk → Walk
past e w = record { envelopes = e ∷ w.envelopes; ending = w.ending }

-- a refusal stops; an envelope is followed by what stands at its next position
abbrev pub on_read : Result Envelope EnvelopeRefusal → ℕ → (Envelope → Walk) → Walk
on_read (Ok e) at k = past e (k e)
on_read (Err r) at k = ends (stopped r at)

-- the envelopes from a position on, f of them at most
unfoldable pub walk_from_of : ℕ → List ℕ → ℕ → ℕ → Walk
walk_from_of limit s zero at = ends (ended at)
walk_from_of limit s (suc f) at =
    cond (leb (length s) at) (ends (ended at)) (on_read (envelope_at limit s at) at (λ (e : Envelope). walk_from_of limit s f e.next))

-- the envelopes of a string, which are not more than its bytes
unfoldable pub walk : ℕ → List ℕ → Walk
walk limit s = walk_from_of limit s (length s) 0

-- what envelopes that were read say
abbrev pub contents_of : List ℕ → List Envelope → List Content
contents_of s es = map (λ (e : Envelope). content_of s e) es

-- ---- what a walk from a position says: either the bytes are such a list, or such a list and a refused envelope

pub data Told (limit : ℕ) (s : List ℕ) (at : ℕ) : Walk → Type 0 where
  whole : (cs : List Content) → AllFit limit cs → drop at s ≡ string_of cs → Told limit s at (record { envelopes = all_placed at cs; ending = ended (at + length (string_of cs)) })
  broken : (cs : List Content) (t : List ℕ) (r : EnvelopeRefusal) → AllFit limit cs → drop at s ≡ string_of cs ++ t → at + length (string_of cs) < length s → envelope_at limit s (at + length (string_of cs)) ≡ Err r → Told limit s at (record { envelopes = all_placed at cs; ending = stopped r (at + length (string_of cs)) })
