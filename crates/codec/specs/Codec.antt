-- The APDUs of a record's edition: type 22 (crate apdu) or type 2 (crate plain). What differs are the contents and the last reason of a user abort; the
-- alternatives, the mode, the other reasons and the padding are the same.
use Rattle.std.specs.Prelude.{ℕ, ◌-◌, List, ◌++◌, Bool, true, false, ◌&&◌, Result}
use Rattle.fields.specs.Encodings.{index_bits, whole_fits}
use Rattle.fields.specs.Fields.{Reading, extensible_index, then}
use Rattle.editions.specs.Editions.{user_reasons}
use Rattle.editions.specs.declared.Edition.{Edition}
use Rattle.editions.specs.declared.Edition.TheVariants.{Plain, Protected}
use Rattle.apdu.specs.Sizes.{provider_last}
use Rattle.apdu.specs.Headings.{response_last}
use Rattle.apdu.specs.Pdus.{Content, Pdu, abort_user, abort_provider, start, send, forward, forward_response, forwards}
use Rattle.apdu.specs.Encoding as protected
use Rattle.apdu.specs.Encoding.{mode_bits, mode_fits, alternative}
use Rattle.apdu.specs.Reading as reading
use Rattle.apdu.specs.Reading.{leading_at, ended_at}
use Rattle.apdu.specs.InPlace.{bits_in, perhaps_bits, forward_by}
use Rattle.apdu.specs.Writing.{data_fits, forward_fits}
use Rattle.pdus.specs.declared.PduType.{PduType}
use Rattle.apdu.specs.declared.Kind.{Kind}
use Rattle.apdu.specs.declared.Kind.TheVariants as kind
use Rattle.apdu.specs.declared.Data.{Data}
use Rattle.apdu.specs.declared.Heading.{Heading}
use Rattle.apdu.specs.declared.Forward.{Forward}
use Rattle.apdu.specs.declared.Apdu.{Apdu}
use Rattle.apdu.specs.declared.Apdu.TheVariants as is
use Rattle.plain.specs.Plain as plain
use Rattle.plain.specs.Plain.{sent_by}
use Rattle.fields.specs.declared.Refusal.{Refusal}

abbrev pub user_last : Edition → ℕ
user_last ed = user_reasons ed - 1

-- ---- the bits of an APDU

-- message data as a user is delivered them, and as a send holds them
abbrev pub content_bits : Edition → Content → List ℕ
content_bits Protected c = protected.content_bits c
content_bits Plain c = bits_in c.message

-- as a start holds them
abbrev pub start_bits : Edition → Content → List ℕ
start_bits Protected c = protected.content_bits c
start_bits Plain c = perhaps_bits c.message

-- a forward's message stands behind its count in type 22
abbrev pub counted : Edition → Bool
counted Protected = true
counted Plain = false

abbrev pub forward_bits : Edition → Heading → List ℕ → List ℕ
forward_bits ed h m = forward_by (counted ed) h m

unfoldable pub pdu_bits : Edition → PduType → Pdu → List ℕ
pdu_bits ed t (abort_user r) = alternative t kind.AbortUser ++ index_bits (user_last ed) r
pdu_bits ed t (abort_provider r) = alternative t kind.AbortProvider ++ index_bits provider_last r
pdu_bits ed t (start m c) = alternative t kind.Start ++ (mode_bits t m ++ start_bits ed c)
pdu_bits ed t (send c) = alternative t kind.Send ++ content_bits ed c
pdu_bits ed t (forward h m) = alternative t kind.Forward ++ forward_bits ed h m
pdu_bits ed t (forward_response x) = alternative t kind.ForwardResponse ++ index_bits response_last x

-- ---- SHAPE of what the host gives

abbrev pub given_fits : Edition → PduType → List ℕ → List ℕ → List ℕ → Data → Bool
given_fits Protected t li lm lc d = data_fits li lm lc d
given_fits Plain t li lm lc d = plain.given_fits (sent_by t) li lm lc d

abbrev pub forward_given_fits : Edition → List ℕ → Forward → Bool
forward_given_fits Protected lm f = forward_fits lm f
forward_given_fits Plain lm f = plain.forward_given_fits lm f

-- ---- an APDU that is written: its numbers are of their types, and the lent bits hold its parts

unfoldable pub apdu_fits : Edition → PduType → List ℕ → List ℕ → List ℕ → Apdu → Bool
apdu_fits ed t li lm lc (is.AbortUser r) = whole_fits 0 (user_last ed) r
apdu_fits ed t li lm lc (is.AbortProvider r) = whole_fits 0 provider_last r
apdu_fits ed t li lm lc (is.Start m d) = mode_fits t m && data_fits li lm lc d
apdu_fits ed t li lm lc (is.Send d) = data_fits li lm lc d
apdu_fits ed t li lm lc (is.Forward f) = forwards t && forward_fits lm f
apdu_fits ed t li lm lc (is.ForwardResponse x) = forwards t && whole_fits 0 response_last x

-- ---- reading

abbrev pub start_at : Edition → PduType → List ℕ → ℕ → Reading Data
start_at Protected t l at = reading.data_at l at
start_at Plain t l at = plain.start_at (sent_by t) l at

abbrev pub send_at : Edition → PduType → List ℕ → ℕ → Reading Data
send_at Protected t l at = reading.data_at l at
send_at Plain t l at = plain.send_at (sent_by t) l at

abbrev pub forward_at : Edition → List ℕ → ℕ → Reading Forward
forward_at Protected l at = reading.forward_at l at
forward_at Plain l at = plain.forward_at l at

unfoldable pub rest_at : Edition → PduType → List ℕ → Kind → ℕ → ℕ → Result Apdu Refusal
rest_at ed t l kind.AbortUser m at = then (extensible_index l at (user_last ed)) (λ (r next : ℕ). ended_at l next (is.AbortUser r))
rest_at ed t l kind.AbortProvider m at = then (extensible_index l at provider_last) (λ (r next : ℕ). ended_at l next (is.AbortProvider r))
rest_at ed t l kind.Start m at = then (start_at ed t l at) (λ (d : Data) (next : ℕ). ended_at l next (is.Start m d))
rest_at ed t l kind.Send m at = then (send_at ed t l at) (λ (d : Data) (next : ℕ). ended_at l next (is.Send d))
rest_at ed t l kind.Forward m at = then (forward_at ed l at) (λ (f : Forward) (next : ℕ). ended_at l next (is.Forward f))
rest_at ed t l kind.ForwardResponse m at = then (extensible_index l at response_last) (λ (r next : ℕ). ended_at l next (is.ForwardResponse r))

unfoldable pub apdu_at : Edition → PduType → List ℕ → Result Apdu Refusal
apdu_at ed t l = then (leading_at t l 0) (λ (x : Kind × ℕ) (next : ℕ). rest_at ed t l x.0 x.1 next)

-- a forward message by itself, as it is delivered
abbrev pub whole_forward : Edition → List ℕ → Reading Forward
whole_forward Protected l = reading.whole_forward l
whole_forward Plain l = plain.whole_forward l
