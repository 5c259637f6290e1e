-- The bits of an APDU, unaligned PER, and which values the card carries.
use Rattle.std.specs.Prelude.{ℕ, ◌+◌, ◌*◌, ◌/◌, List, [], ◌++◌, Bool, true, false, cond, ◌&&◌, length, eqb}
use Rattle.bits.specs.Bits.{bits_n}
use Rattle.bits.specs.Put.{to_byte}
use Rattle.fields.specs.Encodings.{index_bits, length_bits, whole_bits, whole_fits, within_fits}
use Rattle.apdu.specs.Sizes.{identifier_least, identifier_most, message_most, check_most, user_last, provider_last, mode_last, octet, bit}
use Rattle.apdu.specs.Headings.{response_last, heading_bits, heading_fits}
use Rattle.apdu.specs.Pdus.{Optional, absent, given, Content, Pdu, abort_user, abort_provider, start, send, forward, forward_response, last_of, index_of, forwards}
use Rattle.pdus.specs.declared.PduType.{PduType}
use Rattle.pdus.specs.declared.PduType.TheVariants.{AircraftPdus, GroundPdus}
use Rattle.apdu.specs.declared.Kind.{Kind}
use Rattle.apdu.specs.declared.Heading.{Heading}
use Rattle.apdu.specs.declared.Kind.TheVariants as kind

-- ---- message data (X.691, clause 19): the extension bit, the presence bits of the two optional fields, the fields

-- contents of a string of items of `unit` bits, after their count (X.691, 16.11 and 17.8; 24.1 for the identifier)
unfoldable pub string_bits : ℕ → List ℕ → List ℕ
string_bits unit l = length_bits (length l / unit) ++ l

abbrev pub string_fits : ℕ → ℕ → ℕ → List ℕ → Bool
string_fits unit least most l = eqb (unit * (length l / unit)) (length l) && within_fits least most (length l / unit)

unfoldable pub optional_bits : ℕ → Optional → List ℕ
optional_bits unit absent = []
optional_bits unit (given l) = string_bits unit l

unfoldable pub optional_fits : ℕ → ℕ → ℕ → Optional → Bool
optional_fits unit least most absent = true
optional_fits unit least most (given l) = string_fits unit least most l

abbrev pub presence : Optional → ℕ
presence absent = 0
presence (given l) = 1

-- the root: what stands behind the extension bit
abbrev pub root_bits : Content → List ℕ
root_bits c =
    bits_n 2 (2 * presence c.identifier + presence c.message) ++
    (optional_bits octet c.identifier ++ (optional_bits bit c.message ++ string_bits bit c.check))

unfoldable pub content_bits : Content → List ℕ
content_bits c = bits_n 1 0 ++ root_bits c

unfoldable pub content_fits : Content → Bool
content_fits c =
    optional_fits octet identifier_least identifier_most c.identifier && optional_fits bit 0 message_most c.message &&
    string_fits bit 0 check_most c.check

-- ---- ATCForwardMessage: what stands before the message, then the message's bits, after their count

unfoldable pub forward_bits : Heading → List ℕ → List ℕ
forward_bits h m = heading_bits h ++ string_bits bit m

unfoldable pub forward_pdu_fits : Heading → List ℕ → Bool
forward_pdu_fits h m = heading_fits h && string_fits bit 0 message_most m

-- ---- APDUs (X.691, clause 23): the extension bit and the index of the alternative, then what the alternative holds

-- StartDownMessage begins with the presence bit of mode; the default, cpdlc, is left out (X.691, 19.5). startup has no mode: it is cpdlc.
unfoldable pub mode_bits : PduType → ℕ → List ℕ
mode_bits GroundPdus m = []
mode_bits AircraftPdus m = cond (eqb m 0) (bits_n 1 0) (bits_n 1 1 ++ whole_bits 0 mode_last m)

unfoldable pub mode_fits : PduType → ℕ → Bool
mode_fits GroundPdus m = eqb m 0
mode_fits AircraftPdus m = whole_fits 0 mode_last m

abbrev pub alternative : PduType → Kind → List ℕ
alternative pdus k = index_bits (last_of pdus) (index_of k)

unfoldable pub pdu_bits : PduType → Pdu → List ℕ
pdu_bits pdus (abort_user r) = alternative pdus kind.AbortUser ++ index_bits user_last r
pdu_bits pdus (abort_provider r) = alternative pdus kind.AbortProvider ++ index_bits provider_last r
pdu_bits pdus (start m c) = alternative pdus kind.Start ++ (mode_bits pdus m ++ content_bits c)
pdu_bits pdus (send c) = alternative pdus kind.Send ++ content_bits c
pdu_bits pdus (forward h m) = alternative pdus kind.Forward ++ forward_bits h m
pdu_bits pdus (forward_response x) = alternative pdus kind.ForwardResponse ++ index_bits response_last x

unfoldable pub pdu_fits : PduType → Pdu → Bool
pdu_fits pdus (abort_user r) = whole_fits 0 user_last r
pdu_fits pdus (abort_provider r) = whole_fits 0 provider_last r
pdu_fits pdus (start m c) = mode_fits pdus m && content_fits c
pdu_fits pdus (send c) = content_fits c
pdu_fits pdus (forward h m) = forwards pdus && forward_pdu_fits h m
pdu_fits pdus (forward_response x) = forwards pdus && whole_fits 0 response_last x

-- ---- whole bytes (X.691, 11.1): zero bits after the encoding, up to a whole byte

abbrev pub padding : ℕ → ℕ
padding n = to_byte n

unfoldable pub padded : List ℕ → List ℕ
padded l = l ++ bits_n (padding (length l)) 0

-- the bytes that n bits take
abbrev pub bytes_for : ℕ → ℕ
bytes_for n = (n + 7) / 8
