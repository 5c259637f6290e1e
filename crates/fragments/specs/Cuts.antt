-- What the theorem speaks of ("For every way of cutting a byte string, with fragments of no bytes among them, the envelopes, the
-- refusal and the record after it equal those of reading the string whole"): the host hands over fragment after fragment, each
-- until its bytes are taken; and what reading the string whole, by the walk of crate envelope, leaves.
use Rattle.std.specs.Prelude.{ℕ, zero, suc, ◌-◌, min, cond, List, [], ◌∷◌, ◌++◌, length, take, drop, Err, Ok}
use Rattle.envelope.specs.Envelopes.{Content, content_of}
use Rattle.envelope.specs.Strings.{Ending, ended, stopped, walk, contents_of}
use Rattle.envelope.specs.declared.EnvelopeRefusal.{EnvelopeRefusal}
use Rattle.envelope.specs.declared.Envelope.{Envelope}
use Rattle.fragments.specs.declared.Taken.TheVariants.{Whole, Part}
use Rattle.fragments.specs.declared.Untaken.TheVariants.{Refused}
use Rattle.fragments.specs.Mail.{Taking, Mail, part, whole, refused, fresh, is_cut, top}
use Rattle.fragments.specs.Record.{After, after, record_of, take_at}

-- ---- by calls

-- the envelopes that were handed out, and the record after them
pub record Fed : Type 0 where
  pub envelopes : List Content
  pub bytes : List ℕ

abbrev pub fed : List Content → List ℕ → Fed
fed cs b = record { envelopes = cs; bytes = b }

abbrev pub and_then : List Content → Fed → Fed
and_then cs x = fed (cs ++ x.envelopes) x.bytes

-- a finished envelope is taken from the record, and the rest of the fragment is handed over again
abbrev pub go_on : Taking → List ℕ → (ℕ → Fed) → Fed
go_on (Ok (Whole e n)) b k = and_then (content_of b e ∷ []) (k n)
go_on (Ok (Part n)) b k = fed [] b
go_on (Err x) b k = fed [] b

-- one fragment, of which each call but the last takes a byte at least
unfoldable pub hand_over : ℕ → ℕ → List ℕ → List ℕ → Fed
hand_over limit zero b f = fed [] b
hand_over limit (suc k) b f = go_on (take_at limit b f).answer (take_at limit b f).bytes (λ (n : ℕ). hand_over limit k (take_at limit b f).bytes (drop n f))

-- one fragment after the other
unfoldable pub hand_all : ℕ → List ℕ → List (List ℕ) → Fed
hand_all limit b [] = fed [] b
hand_all limit b (f ∷ fs) =
    and_then (hand_over limit (suc (length f)) b f).envelopes (hand_all limit (hand_over limit (suc (length f)) b f).bytes fs)

-- the string that they are
unfoldable pub joined_up : List (List ℕ) → List ℕ
joined_up [] = []
joined_up (f ∷ fs) = f ++ joined_up fs

-- ---- whole

-- what a refusal leaves: of an envelope that ends inside, its bytes
abbrev pub stopped_at : List ℕ → EnvelopeRefusal → ℕ → Mail
stopped_at s r at = cond (is_cut r) (part (min at top) (drop at s)) (refused r (min at top))

-- what a walk from a position leaves, where m was held
unfoldable pub leaves : List ℕ → Mail → ℕ → List Envelope → Ending → Mail
leaves s m at [] (ended n) = m
leaves s m at [] (stopped r n) = stopped_at s r n
leaves s m at (e ∷ es) x = leaves s (whole (min at top) (take (e.next - at) (drop at s))) e.next es x

-- the envelopes of a string, and what is held after them
unfoldable pub whole_mail : ℕ → List ℕ → Mail
whole_mail limit s = leaves s fresh 0 (walk limit s).envelopes (walk limit s).ending

abbrev pub whole_read : ℕ → List ℕ → Fed
whole_read limit s = fed (contents_of s (walk limit s).envelopes) (record_of limit (whole_mail limit s))

-- what the end answers then: nothing, or the refusal of the whole string; in the record, the byte where the refused envelope begins
abbrev pub whole_end : ℕ → List ℕ → Ending → After
whole_end limit s (ended n) = after (Ok (Part 0)) (record_of limit (whole_mail limit s))
whole_end limit s (stopped r n) = after (Err (Refused r)) (record_of limit (refused r (min n top)))
