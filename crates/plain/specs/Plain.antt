-- Message data of application type 2 (source document 004): a message stands in the APDU as it is, without a length, an identifier or a check. Of a
-- start it is a CHOICE of noMessage and message (M-1.1.3, M-2.1.3); a forward message has the heading of type 22 and then the elements alone (M-9.1.2,
-- M-10.1.2).
use Rattle.std.specs.Prelude.{ℕ, List, [], ◌∷◌, Bool, true, false, cond, ◌&&◌, eqb, length, Err, None, Ok, Option, Some}
use Rattle.fields.specs.Fields.{Reading, bit_field, then}
use Rattle.kinds.specs.declared.Direction.{Direction}
use Rattle.kinds.specs.declared.Direction.TheVariants.{Downlink, Uplink}
-- bits that a reader takes from the first to the last, as the front has them
pub use Rattle.front.specs.Runs.{ends_at, takes_all}
use Rattle.inplace.specs.InPlace.{message_span, elements_span}
use Rattle.apdu.specs.Sizes.{bit}
use Rattle.apdu.specs.Pdus.{Optional, absent, given, Content, items_in, content_in}
use Rattle.apdu.specs.Reading.{heading_at, tail_at}
use Rattle.apdu.specs.Writing.{data_fits, forward_fits}
use Rattle.pdus.specs.declared.PduType.{PduType}
use Rattle.pdus.specs.declared.PduType.TheVariants as pdus
use Rattle.apdu.specs.declared.Data.{Data}
use Rattle.apdu.specs.declared.Heading.{Heading}
use Rattle.apdu.specs.declared.Forward.{Forward}
use Rattle.pdus.specs.declared.Span.{Span}

-- ---- directions

-- AircraftPDUs hold downlink messages, GroundPDUs uplink messages
abbrev pub sent_by : PduType → Direction
sent_by pdus.AircraftPdus = Downlink
sent_by pdus.GroundPdus = Uplink

-- ForwardMessage: upElementIDs (0), downElementIDs (1)
abbrev pub direction_of : ℕ → Direction
direction_of z = cond (eqb z 0) Uplink Downlink

-- ---- values

abbrev pub is_absent : Optional → Bool
is_absent absent = true
is_absent (given l) = false

abbrev pub is_empty : List ℕ → Bool
is_empty [] = true
is_empty (x ∷ l) = false

abbrev pub message_fits : Direction → Optional → Bool
message_fits d absent = true
message_fits d (given l) = takes_all (message_span d) l

-- there is no place for an identifier or a check
unfoldable pub content_fits : Direction → Content → Bool
content_fits d c = is_absent c.identifier && is_empty c.check && message_fits d c.message

unfoldable pub elements_fit : Heading → List ℕ → Bool
elements_fit h m = takes_all (elements_span (direction_of h.direction)) m

-- ---- SHAPE: what the host gives is a message that can be read, or none

unfoldable pub given_fits : Direction → List ℕ → List ℕ → List ℕ → Data → Bool
given_fits d li lm lc x = data_fits li lm lc x && content_fits d (content_in li lm lc x)

unfoldable pub forward_given_fits : List ℕ → Forward → Bool
forward_given_fits lm f = forward_fits lm f && elements_fit f.heading (items_in lm bit f.message)

-- ---- reading

abbrev pub no_message : Data
no_message = record { identifier = None; message = None; check = record { at = 0; count = 0 } }

-- a message of n bits at a place
abbrev pub message_there : ℕ → ℕ → Data
message_there at n = record { identifier = None; message = Some (record { at = at; count = n }); check = record { at = 0; count = 0 } }

unfoldable pub send_at : Direction → List ℕ → ℕ → Reading Data
send_at d l at = then (message_span d l at) (λ (n next : ℕ). Ok (message_there at n, next))

unfoldable pub start_at : Direction → List ℕ → ℕ → Reading Data
start_at d l at = then (bit_field l at 1) (λ (i p : ℕ). cond (eqb i 0) (Ok (no_message, p)) (send_at d l p))

unfoldable pub forward_at : List ℕ → ℕ → Reading Forward
forward_at l at =
    then (heading_at l at) (λ (h : Heading) (p : ℕ).
    then (elements_span (direction_of h.direction) l p) (λ (n next : ℕ). Ok (record { heading = h; message = record { at = p; count = n } }, next)))

-- a forward message by itself, as it is delivered
unfoldable pub whole_forward : List ℕ → Reading Forward
whole_forward l = then (forward_at l 0) (λ (f : Forward) (next : ℕ). then (tail_at l next) (λ (v m : ℕ). Ok (f, next)))
