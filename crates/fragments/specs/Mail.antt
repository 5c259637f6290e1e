-- Document 02, E4, "Envelopes as they arrive": a reader keeps an unfinished envelope between calls and hands out each finished one.
-- There is no second reader of envelopes here: the answer to a fragment is what the reader of whole strings says of the bytes that
-- are held and the fragment behind them. The largest bit count is a parameter, `limit`.
use Rattle.std.specs.Prelude.{ℕ, ◌+◌, ◌-◌, min, Bool, true, false, cond, List, [], ◌++◌, length, take, Err, Ok, Result}
use Rattle.words.specs.Limits.{shape}
use Rattle.envelope.specs.Envelopes.{envelope_at, refusal_number}
use Rattle.envelope.specs.declared.EnvelopeRefusal.{EnvelopeRefusal}
use Rattle.envelope.specs.declared.EnvelopeRefusal.TheVariants.{Cut, Groups, Kind, Size}
use Rattle.envelope.specs.declared.Envelope.{Envelope}
use Rattle.fragments.specs.declared.Taken.{Taken}
use Rattle.fragments.specs.declared.Untaken.{Untaken}
use Rattle.fragments.specs.declared.Taken.TheVariants.{Whole, Part}
use Rattle.fragments.specs.declared.Untaken.TheVariants.{Refused, Shape}

-- what a reader holds, and the byte where it begins, counted from the first byte since the reader was made fresh:
-- the bytes so far of an envelope (of a fresh reader, none), the bytes of a finished one, or a refusal
pub data Mail : Type 0 where
  part : ℕ → List ℕ → Mail
  whole : ℕ → List ℕ → Mail
  refused : EnvelopeRefusal → ℕ → Mail

abbrev pub fresh : Mail
fresh = part 0 []

-- "CUT is given only when the host says the input has ended": until then the envelope may go on
abbrev pub is_cut : EnvelopeRefusal → Bool
is_cut Cut = true
is_cut Groups = false
is_cut Kind = false
is_cut Size = false

abbrev pub may_go_on : Result Envelope EnvelopeRefusal → Bool
may_go_on (Ok e) = false
may_go_on (Err r) = is_cut r

-- bytes that are the beginning of an envelope, and not yet refused; no byte is such a beginning too
unfoldable pub unfinished : ℕ → List ℕ → Bool
unfinished limit h = may_go_on (envelope_at limit h 0)

-- the bytes of a record before those that it holds
abbrev pub head : ℕ
head = 11

-- an envelope where it stands in the record
abbrev pub in_record : Envelope → Envelope
in_record e = record { kind = e.kind; job = e.job; bits = e.bits; body = head + e.body; next = head + e.next }

-- "The numbers a refusal carries"
abbrev pub untaken_number : Untaken → ℕ
untaken_number (Refused r) = refusal_number r
untaken_number Shape = shape

-- what a call answers
abbrev pub Taking : Type 0
Taking = Result Taken Untaken

-- the answer to a fragment, and what is held after it
pub record Step : Type 0 where
  pub answer : Taking
  pub mail : Mail

abbrev pub step : Taking → Mail → Step
step a m = record { answer = a; mail = m }

-- of h that is held from the byte p on and f behind it: an envelope, with the bytes of f that it took; or all of f is taken; or a refusal
abbrev pub onward : ℕ → List ℕ → List ℕ → Result Envelope EnvelopeRefusal → Step
onward p h f (Ok e) = step (Ok (Whole (in_record e) (e.next - length h))) (whole p (take e.next (h ++ f)))
onward p h f (Err r) = cond (is_cut r) (step (Ok (Part (length f))) (part p (h ++ f))) (step (Err (Refused r)) (refused r p))

unfoldable pub joined : ℕ → ℕ → List ℕ → List ℕ → Step
joined limit p h f = onward p h f (envelope_at limit (h ++ f) 0)

-- where the envelope behind n bytes begins. A place is kept in eight bytes; one that is larger is shown as the largest.
abbrev pub top : ℕ
top = 18446744073709551615

abbrev pub later : ℕ → ℕ → ℕ
later p n = min (p + n) top
