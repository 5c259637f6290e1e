-- An APDU read from bits: its kind, its numbers and where the parts of its message data stand, or the refusal of the field where the fault
-- is met first (document 01, order for decoding). The most bits of a CPDLC message are a parameter, `limit`: the card reads at its own.
use Rattle.std.specs.Prelude.{ℕ, ◌+◌, ◌-◌, ◌*◌, ◌%◌, List, Bool, cond, length, leb, eqb, None, Ok, Option, Result, Some}
use Rattle.fields.specs.Additions.{additions_at}
use Rattle.fields.specs.Fields.{Reading, refused_at, then, bit_field, width_of, whole_number, extensible_index, string_at}
use Rattle.fields.specs.declared.Refusal.{Refusal}
use Rattle.fields.specs.declared.Fault.TheVariants.{Tail, Default}
use Rattle.apdu.specs.Sizes.{identifier_least, identifier_most, message_most, check_most, user_last, provider_last, mode_last, octet, bit}
use Rattle.apdu.specs.Headings.{triple, date_from, date_to, time_from, time_to, characters_least, characters_most, character, address_bits, direction_last, response_last}
use Rattle.apdu.specs.Pdus.{last_of, kind_of}
use Rattle.apdu.specs.Encoding.{padding}
use Rattle.pdus.specs.declared.PduType.{PduType}
use Rattle.pdus.specs.declared.PduType.TheVariants.{AircraftPdus, GroundPdus}
use Rattle.apdu.specs.declared.Kind.{Kind}
use Rattle.apdu.specs.declared.Kind.TheVariants as kind
use Rattle.pdus.specs.declared.Span.{Span}
use Rattle.apdu.specs.declared.Data.{Data}
use Rattle.apdu.specs.declared.Triple.{Triple}
use Rattle.apdu.specs.declared.Heading.{Heading}
use Rattle.apdu.specs.declared.Forward.{Forward}
use Rattle.apdu.specs.declared.Apdu.{Apdu}
use Rattle.apdu.specs.declared.Apdu.TheVariants as apdu

-- ---- message data

-- a field that is there, or not
unfoldable pub optional_at : List ℕ → Bool → ℕ → ℕ → ℕ → ℕ → Reading ℕ
optional_at l there at unit least most = cond there (string_at l at unit least most) (Ok (0, at))

-- n items that end at a place
abbrev pub span_to : ℕ → ℕ → ℕ → Span
span_to unit n next = record { at = next - unit * n; count = n }

-- the part that they are, if they are there
unfoldable pub part_at : Bool → ℕ → ℕ → ℕ → Option Span
part_at there unit n next = cond there (Some (span_to unit n next)) None

-- the fields, of which the first two are there or not
unfoldable pub parts_within : ℕ → List ℕ → ℕ → Bool → Bool → Reading Data
parts_within limit l at i m =
    then (optional_at l i at octet identifier_least identifier_most) (λ (octets p : ℕ).
    then (optional_at l m p bit 0 limit) (λ (bits q : ℕ).
    then (string_at l q bit 0 check_most) (λ (n next : ℕ).
    Ok (record { identifier = part_at i octet octets p; message = part_at m bit bits q; check = span_to bit n next }, next))))

-- behind the fields: where the extension bit is 1, additions from a later edition, which say nothing here (document 02, E6)
unfoldable pub with_additions : List ℕ → Reading Data → Reading Data
with_additions l t = then t (λ (d : Data) (next : ℕ). then (additions_at l next) (λ (v after : ℕ). Ok (d, after)))

-- the extension bit e, the presence bits as one field of two bits, the fields, the additions
unfoldable pub data_within : ℕ → List ℕ → ℕ → Reading Data
data_within limit l at =
    then (bit_field l at 1) (λ (e p : ℕ).
    then (bit_field l p 2) (λ (v q : ℕ).
    cond (eqb e 0) (parts_within limit l q (leb 2 v) (eqb (v % 2) 1)) (with_additions l (parts_within limit l q (leb 2 v) (eqb (v % 2) 1)))))

-- ---- ATCForwardMessage

-- three whole numbers in a row
unfoldable pub triple_at : List ℕ → ℕ → Triple → Triple → Reading Triple
triple_at l at lo hi =
    then (whole_number l at lo.first hi.first) (λ (x p : ℕ).
    then (whole_number l p lo.second hi.second) (λ (y q : ℕ).
    then (whole_number l q lo.third hi.third) (λ (z next : ℕ). Ok (triple x y z, next))))

-- what stands before the message; the characters after their count are one field
unfoldable pub heading_at : List ℕ → ℕ → Reading Heading
heading_at l at =
    then (triple_at l at date_from date_to) (λ (date : Triple) (p : ℕ).
    then (triple_at l p time_from time_to) (λ (time : Triple) (q : ℕ).
    then (whole_number l q characters_least characters_most) (λ (n a : ℕ).
    then (bit_field l a (character * n)) (λ (x b : ℕ).
    then (bit_field l b address_bits) (λ (y c : ℕ).
    then (whole_number l c 0 direction_last) (λ (z next : ℕ).
    Ok (record { date = date; time = time; characters = n; flight = x; address = y; direction = z }, next)))))))

unfoldable pub forward_within : ℕ → List ℕ → ℕ → Reading Forward
forward_within limit l at =
    then (heading_at l at) (λ (h : Heading) (p : ℕ).
    then (string_at l p bit 0 limit) (λ (n next : ℕ). Ok (record { heading = h; message = span_to bit n next }, next)))

-- ---- the leading fields: the alternative, and the mode of a start

-- mode present: its default value is refused
unfoldable pub mode_value : List ℕ → ℕ → Reading ℕ
mode_value l at =
    then (whole_number l at 0 mode_last) (λ (m next : ℕ). cond (eqb m 0) (refused_at at Default) (Ok (m, next)))

-- the mode of a start: that of startup is cpdlc, in no bits
unfoldable pub mode_at : PduType → List ℕ → ℕ → Reading ℕ
mode_at GroundPdus l at = Ok (0, at)
mode_at AircraftPdus l at = then (bit_field l at 1) (λ (p next : ℕ). cond (eqb p 0) (Ok (0, next)) (mode_value l next))

-- the mode, where the alternative has one
unfoldable pub kind_mode : PduType → List ℕ → Kind → ℕ → Reading ℕ
kind_mode pdus l kind.AbortUser at = Ok (0, at)
kind_mode pdus l kind.AbortProvider at = Ok (0, at)
kind_mode pdus l kind.Start at = mode_at pdus l at
kind_mode pdus l kind.Send at = Ok (0, at)
kind_mode pdus l kind.Forward at = Ok (0, at)
kind_mode pdus l kind.ForwardResponse at = Ok (0, at)

unfoldable pub leading_at : PduType → List ℕ → ℕ → Reading (Kind × ℕ)
leading_at pdus l at =
    then (extensible_index l at (last_of pdus)) (λ (i p : ℕ). then (kind_mode pdus l (kind_of i) p) (λ (m q : ℕ). Ok ((kind_of i, m), q)))

-- ---- the rest

-- TAIL, last of all: the first padding bit that is 1, which stands as far before the padding's end as its number has digits; where there is
-- none, the first bit that follows the padding
unfoldable pub tail_at : List ℕ → ℕ → Reading ℕ
tail_at l at =
    then (bit_field l at (padding at)) (λ (v next : ℕ).
    cond (eqb v 0) (cond (leb (next + 1) (length l)) (refused_at next Tail) (Ok (0, next))) (refused_at (next - width_of v) Tail))

unfoldable pub ended_at : List ℕ → ℕ → Apdu → Result Apdu Refusal
ended_at l at a = then (tail_at l at) (λ (v next : ℕ). Ok a)

unfoldable pub rest_within : ℕ → List ℕ → Kind → ℕ → ℕ → Result Apdu Refusal
rest_within limit l kind.AbortUser m at = then (extensible_index l at user_last) (λ (r next : ℕ). ended_at l next (apdu.AbortUser r))
rest_within limit l kind.AbortProvider m at = then (extensible_index l at provider_last) (λ (r next : ℕ). ended_at l next (apdu.AbortProvider r))
rest_within limit l kind.Start m at = then (data_within limit l at) (λ (d : Data) (next : ℕ). ended_at l next (apdu.Start m d))
rest_within limit l kind.Send m at = then (data_within limit l at) (λ (d : Data) (next : ℕ). ended_at l next (apdu.Send d))
rest_within limit l kind.Forward m at = then (forward_within limit l at) (λ (f : Forward) (next : ℕ). ended_at l next (apdu.Forward f))
rest_within limit l kind.ForwardResponse m at = then (extensible_index l at response_last) (λ (r next : ℕ). ended_at l next (apdu.ForwardResponse r))

-- the leading fields, then the rest
unfoldable pub apdu_within : ℕ → PduType → List ℕ → ℕ → Result Apdu Refusal
apdu_within limit pdus l at = then (leading_at pdus l at) (λ (lead : Kind × ℕ) (next : ℕ). rest_within limit l lead.0 lead.1 next)

-- message data by itself, as it is delivered: its parts, and nothing after it but the padding
unfoldable pub whole_within : ℕ → List ℕ → Reading Data
whole_within limit l = then (data_within limit l 0) (λ (d : Data) (next : ℕ). then (tail_at l next) (λ (v m : ℕ). Ok (d, next)))

-- ATCForwardMessage by itself, as it is delivered
unfoldable pub whole_forward_within : ℕ → List ℕ → Reading Forward
whole_forward_within limit l = then (forward_within limit l 0) (λ (f : Forward) (next : ℕ). then (tail_at l next) (λ (v m : ℕ). Ok (f, next)))

-- ---- at the card's limit

abbrev pub parts_at : List ℕ → ℕ → Bool → Bool → Reading Data
parts_at = parts_within message_most

abbrev pub data_at : List ℕ → ℕ → Reading Data
data_at = data_within message_most

abbrev pub forward_at : List ℕ → ℕ → Reading Forward
forward_at = forward_within message_most

abbrev pub rest_at : List ℕ → Kind → ℕ → ℕ → Result Apdu Refusal
rest_at = rest_within message_most

abbrev pub apdu_at : PduType → List ℕ → ℕ → Result Apdu Refusal
apdu_at = apdu_within message_most

abbrev pub whole_data : List ℕ → Reading Data
whole_data = whole_within message_most

abbrev pub whole_forward : List ℕ → Reading Forward
whole_forward = whole_forward_within message_most
