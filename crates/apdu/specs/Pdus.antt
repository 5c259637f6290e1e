-- AircraftPDUs and GroundPDUs (Doc 9705, 2.3.4.2) as values, and the values that places in lent bytes stand for.
use Rattle.std.specs.Prelude.{ℕ, zero, suc, ◌*◌, List, Bool, true, false, take, drop, None, Option, Some}
use Rattle.bits.specs.Bits.{bits_to}
use Rattle.apdu.specs.Sizes.{all_bits, octet, bit}
use Rattle.pdus.specs.declared.PduType.{PduType}
use Rattle.pdus.specs.declared.PduType.TheVariants.{AircraftPdus, GroundPdus}
use Rattle.apdu.specs.declared.Kind.{Kind}
use Rattle.apdu.specs.declared.Kind.TheVariants as kind
use Rattle.pdus.specs.declared.Span.{Span}
use Rattle.apdu.specs.declared.Data.{Data}
use Rattle.apdu.specs.declared.Heading.{Heading}
use Rattle.apdu.specs.declared.Forward.{Forward}
use Rattle.apdu.specs.declared.Apdu.{Apdu}
use Rattle.apdu.specs.declared.Apdu.TheVariants as apdu

-- ---- values

-- a field marked OPTIONAL: the bits of its contents
pub data Optional : Type 0 where
  absent : Optional
  given : List ℕ → Optional

-- ProtectedUplinkMessage and ProtectedDownlinkMessage, which differ in name only: the contents of algorithmIdentifier (whole octets),
-- protectedMessage and integrityCheck
pub record Content : Type 0 where
  pub identifier : Optional
  pub message : Optional
  pub check : List ℕ

-- One type for both directions. A start is startup (GroundPDUs), whose mode is cpdlc, or startdown (AircraftPDUs) with its mode. A forward
-- is ATCForwardMessage: what stands before the message, and the message's bits, which are not looked into (2.3.4.1.3, Note 2); its response
-- is ATCForwardResponse.
pub data Pdu : Type 0 where
  abort_user : ℕ → Pdu
  abort_provider : ℕ → Pdu
  start : ℕ → Content → Pdu
  send : Content → Pdu
  forward : Heading → List ℕ → Pdu
  forward_response : ℕ → Pdu

-- ---- alternatives

-- the last alternative of AircraftPDUs, and of GroundPDUs
abbrev pub last_of : PduType → ℕ
last_of AircraftPdus = 3
last_of GroundPdus = 5

-- the alternatives by their tags, which are the same in both types as far as both have them
abbrev pub kind_of : ℕ → Kind
kind_of zero = kind.AbortUser
kind_of (suc zero) = kind.AbortProvider
kind_of (suc (suc zero)) = kind.Start
kind_of (suc (suc (suc zero))) = kind.Send
kind_of (suc (suc (suc (suc zero)))) = kind.Forward
kind_of (suc (suc (suc (suc (suc n))))) = kind.ForwardResponse

abbrev pub index_of : Kind → ℕ
index_of kind.AbortUser = 0
index_of kind.AbortProvider = 1
index_of kind.Start = 2
index_of kind.Send = 3
index_of kind.Forward = 4
index_of kind.ForwardResponse = 5

-- GroundPDUs alone has the two forward alternatives
abbrev pub forwards : PduType → Bool
forwards AircraftPdus = false
forwards GroundPdus = true

-- ---- what places stand for

-- the bits of lent bytes
abbrev pub lent : List ℕ → List ℕ
lent s = bits_to s all_bits

-- items of `unit` bits each
abbrev pub items_in : List ℕ → ℕ → Span → List ℕ
items_in l unit x = take (unit * x.count) (drop x.at l)

unfoldable pub part_in : List ℕ → ℕ → Option Span → Optional
part_in l unit None = absent
part_in l unit (Some x) = given (items_in l unit x)

-- the parts of message data, each in the bits that it stands in
unfoldable pub content_in : List ℕ → List ℕ → List ℕ → Data → Content
content_in li lm lc d =
    record {
      identifier = part_in li octet d.identifier;
      message = part_in lm bit d.message;
      check = items_in lc bit d.check;
    }

unfoldable pub pdu_in : List ℕ → List ℕ → List ℕ → Apdu → Pdu
pdu_in li lm lc (apdu.AbortUser r) = abort_user r
pdu_in li lm lc (apdu.AbortProvider r) = abort_provider r
pdu_in li lm lc (apdu.Start m d) = start m (content_in li lm lc d)
pdu_in li lm lc (apdu.Send d) = send (content_in li lm lc d)
pdu_in li lm lc (apdu.Forward f) = forward f.heading (items_in lm bit f.message)
pdu_in li lm lc (apdu.ForwardResponse x) = forward_response x
