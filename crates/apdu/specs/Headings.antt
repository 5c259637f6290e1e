-- What stands before the message's bits in an ATCForwardMessage (Doc 9705, 2.3.4.2 and 2.3.4.3): ForwardHeader, and which alternative of
-- ForwardMessage follows. None of these types has an extension marker.
use Rattle.std.specs.Prelude.{ℕ, ◌*◌, List, ◌++◌, Bool, ◌&&◌}
use Rattle.bits.specs.Bits.{bits_n}
use Rattle.fields.specs.Encodings.{bits_fit, whole_bits, whole_fits}
use Rattle.apdu.specs.declared.Triple.{Triple}
use Rattle.apdu.specs.declared.Heading.{Heading}

-- ---- the values

abbrev pub triple : ℕ → ℕ → ℕ → Triple
triple x y z = record { first = x; second = y; third = z }

-- Date: year, month, day
abbrev pub date_from : Triple
date_from = triple 1996 1 1

abbrev pub date_to : Triple
date_to = triple 2095 12 31

-- Timehhmmss: hours, minutes, seconds
abbrev pub time_from : Triple
time_from = triple 0 0 0

abbrev pub time_to : Triple
time_to = triple 23 59 59

-- AircraftFlightIdentification, an IA5String of 2 to 8 characters, seven bits each (X.691, 30.5), here as one number, the first character
-- on top
abbrev pub characters_least : ℕ
characters_least = 2

abbrev pub characters_most : ℕ
characters_most = 8

abbrev pub character : ℕ
character = 7

-- AircraftAddress, a BIT STRING of 24 bits (X.691, 16.9), here as one number
abbrev pub address_bits : ℕ
address_bits = 24

-- ForwardMessage: upElementIDs (0), downElementIDs (1)
abbrev pub direction_last : ℕ
direction_last = 1

-- ATCForwardResponse: success (0), service-not-supported (1), version-not-equal (2)
abbrev pub response_last : ℕ
response_last = 2

-- ---- three whole numbers in a row, each within its range

unfoldable pub triple_bits : Triple → Triple → Triple → List ℕ
triple_bits lo hi v = whole_bits lo.first hi.first v.first ++ (whole_bits lo.second hi.second v.second ++ whole_bits lo.third hi.third v.third)

unfoldable pub triple_fits : Triple → Triple → Triple → Bool
triple_fits lo hi v = whole_fits lo.first hi.first v.first && (whole_fits lo.second hi.second v.second && whole_fits lo.third hi.third v.third)

-- ---- the heading: date, time, flight identification, address, and the index of ForwardMessage

-- the aircraft, and the index
unfoldable pub aircraft_bits : Heading → List ℕ
aircraft_bits h =
    whole_bits characters_least characters_most h.characters ++
    (bits_n (character * h.characters) h.flight ++ (bits_n address_bits h.address ++ whole_bits 0 direction_last h.direction))

unfoldable pub heading_bits : Heading → List ℕ
heading_bits h = triple_bits date_from date_to h.date ++ (triple_bits time_from time_to h.time ++ aircraft_bits h)

unfoldable pub aircraft_fits : Heading → Bool
aircraft_fits h =
    whole_fits characters_least characters_most h.characters &&
    (bits_fit (character * h.characters) h.flight && (bits_fit address_bits h.address && whole_fits 0 direction_last h.direction))

unfoldable pub heading_fits : Heading → Bool
heading_fits h = triple_fits date_from date_to h.date && (triple_fits time_from time_to h.time && aircraft_fits h)
