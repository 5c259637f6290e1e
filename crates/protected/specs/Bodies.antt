-- Application type 22 as an edition: its message data and its forward message as bodies, over the definitions of crate apdu.
use Rattle.std.specs.Prelude.{ℕ, zero, suc, ◌+◌, ◌-◌, List, ◌++◌, Bool, cond, take, drop, get_or, eqb, None, Ok, Option, Some}
use Rattle.bits.specs.Bits.{bits_n}
use Rattle.apdu.specs.Sizes.{user_last, provider_last, message_most, bit}
use Rattle.apdu.specs.Pdus.{Content as Protected, items_in, content_in}
use Rattle.apdu.specs.Encoding.{content_bits, content_fits, forward_bits}
use Rattle.apdu.specs.Reading.{data_within, forward_within}
use Rattle.apdu.specs.Stripped.{root_end}
use Rattle.apdu.specs.Writing.{data_fits}
use Rattle.apdu.specs.declared.Data.{Data}
use Rattle.apdu.specs.declared.Forward.{Forward}
use Rattle.pdus.specs.declared.Span.{Span}
use Rattle.pdus.specs.declared.Content.{Content}
use Rattle.pdus.specs.declared.PduType.{PduType}
use Rattle.pdus.specs.declared.PduType.TheVariants as pdus
use Rattle.front.specs.Body.{Lent, Body, Choice}
use Rattle.front.specs.Runs.{none, run_body}
use Rattle.front.specs.Editions.{Edition, aircraft_pdus, ground_pdus}
use Rattle.fields.specs.Fields.{Reading, then}

-- ---- places, as crate apdu says them: a part that is absent is a count that no part has

abbrev pub identifier_span : Option Span → Span
identifier_span None = record { at = 0; count = 0 }
identifier_span (Some x) = x

abbrev pub message_span : Option Span → Span
message_span None = record { at = 0; count = none }
message_span (Some x) = x

-- items of so many are none
abbrev pub part_of : ℕ → Span → Option Span
part_of empty x = cond (eqb x.count empty) None (Some x)

abbrev pub content_of : Data → Content
content_of d = record { identifier = identifier_span d.identifier; message = message_span d.message; check = d.check }

abbrev pub data_of : Content → Data
data_of c = record { identifier = part_of 0 c.identifier; message = part_of none c.message; check = c.check }

abbrev pub taken_of : Reading Data → Reading Content
taken_of f = then f (λ (d : Data) (next : ℕ). Ok (content_of d, next))

-- ---- the bodies

-- message data, read at a limit of the message's bits
abbrev pub protected_within : ℕ → Body
protected_within limit =
    record {
      Value = Protected;
      fits = content_fits;
      bits = content_bits;
      shown = content_bits;
      read = λ (l : List ℕ) (at : ℕ). taken_of (data_within limit l at);
      stands = λ (s : Lent) (c : Content). data_fits s.identifiers s.messages s.checks (data_of c);
      value = λ (s : Lent) (c : Content). content_in s.identifiers s.messages s.checks (data_of c);
      extended = λ (l : List ℕ) (at : ℕ) (c : Content). eqb (get_or l at 0) 1;
      plain = λ (l : List ℕ) (at : ℕ) (c : Content). bits_n 1 0 ++ take (root_end (data_of c) - (at + 1)) (drop (at + 1) l);
    }

abbrev pub protected_body : Body
protected_body = protected_within message_most

-- a forward message: its bits as they are
abbrev pub field_of : Reading Forward → Reading ℕ
field_of t = then t (λ (f : Forward) (next : ℕ). Ok (0, next))

abbrev pub forward_field_within : ℕ → List ℕ → ℕ → Reading ℕ
forward_field_within limit l at = field_of (forward_within limit l at)

abbrev pub forward_field : List ℕ → ℕ → Reading ℕ
forward_field = forward_field_within message_most

-- a forward message that the host gives, with the bits that it is
abbrev pub forward_run : List ℕ → Forward → List ℕ
forward_run lm f = forward_bits f.heading (items_in lm bit f.message)

-- the edition, read at a limit; and at the card's
abbrev pub type22_within : ℕ → Edition
type22_within limit = record { user_last = user_last; provider_last = provider_last; start = protected_within limit; send = protected_within limit; forward = run_body (forward_field_within limit) }

abbrev pub type22 : Edition
type22 = type22_within message_most

abbrev pub choice_of : PduType → Choice
choice_of pdus.AircraftPdus = aircraft_pdus type22
choice_of pdus.GroundPdus = ground_pdus type22
