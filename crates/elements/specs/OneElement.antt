-- An element: its number, and the argument of the kind that the table gives it.
use Rattle.std.specs.Prelude.{ℕ, ◌+◌, ◌-◌, ◌*◌, List, [], ◌∷◌, ◌++◌, Bool, true, false, not, ◌&&◌, length, eqb, Ok}
use Rattle.fields.specs.Fields.{Reading, refused_at, extensible_index, then}
use Rattle.fields.specs.Encodings.{index_bits, whole_fits}
use Rattle.fields.specs.declared.Fault.TheVariants as fault
use Rattle.kinds.specs.declared.Direction.{Direction}
use Rattle.kinds.specs.declared.Direction.TheVariants.{Downlink, Uplink}
use Rattle.kinds.specs.declared.ArgumentKind.{ArgumentKind}
use Rattle.kinds.specs.declared.ArgumentKind.TheVariants as kind
use Rattle.elements.specs.declared.values.Level.{Level}
use Rattle.elements.specs.declared.values.Time.{Time}
use Rattle.elements.specs.declared.values.Element.{Element}
use Rattle.kinds.specs.Elements.{kind_of}
use Rattle.elements.specs.Arguments.{no_type, same?, level_fits, level_bits, level_at, time_fits, time_bits, time_at, code_fits_of, digits_bits, code_at, characters_bits, characters_in, sized_fits, sized_bits, free_text_at, designation_at, facility_fits, facility_bits, facility_at, atis_fits, atis_at}

-- ---- what an element holds besides its number; what its kind does not use is zero

abbrev pub no_level : Level
no_level = record { block = false; first = no_type; second = no_type }

abbrev pub no_time : Time
no_time = record { hours = 0; minutes = 0 }

abbrev pub no_digits : List ℕ
no_digits = 0 ∷ 0 ∷ 0 ∷ 0 ∷ []

abbrev pub bare : ℕ → Element
bare i = record { number = i; level = no_level; other = no_level; time = no_time; code = no_digits; characters = 0 }

abbrev pub with_levels : ℕ → Level → Level → Element
with_levels i x y = record { number = i; level = x; other = y; time = no_time; code = no_digits; characters = 0 }

abbrev pub with_time : ℕ → Time → Element
with_time i x = record { number = i; level = no_level; other = no_level; time = x; code = no_digits; characters = 0 }

abbrev pub with_code : ℕ → List ℕ → Element
with_code i x = record { number = i; level = no_level; other = no_level; time = no_time; code = x; characters = 0 }

abbrev pub with_characters : ℕ → ℕ → Element
with_characters i n = record { number = i; level = no_level; other = no_level; time = no_time; code = no_digits; characters = n }

-- ---- reading

-- characters that were read: how many there are
abbrev pub characters_of : ℕ → Reading ℕ → Reading Element
characters_of i f = then f (λ (n next : ℕ). Ok (with_characters i n, next))

unfoldable pub level_argument : ℕ → List ℕ → ℕ → Reading Element
level_argument i l at = then (level_at l at) (λ (x : Level) (next : ℕ). Ok (with_levels i x no_level, next))

-- LevelLevel: SEQUENCE SIZE (2) OF Level
unfoldable pub two_levels_argument : ℕ → List ℕ → ℕ → Reading Element
two_levels_argument i l at =
    then (level_at l at)
    (λ (x : Level) (m : ℕ). then (level_at l m) (λ (y : Level) (next : ℕ). Ok (with_levels i x y, next)))

unfoldable pub time_argument : ℕ → List ℕ → ℕ → Reading Element
time_argument i l at = then (time_at l at) (λ (x : Time) (next : ℕ). Ok (with_time i x, next))

unfoldable pub code_argument : ℕ → List ℕ → ℕ → Reading Element
code_argument i l at = then (code_at l at) (λ (x : List ℕ) (next : ℕ). Ok (with_code i x, next))

-- the argument of element i, by its kind; an element that is not carried is refused at its index
unfoldable pub argument_at : ArgumentKind → ℕ → ℕ → List ℕ → ℕ → Reading Element
argument_at kind.NotCarried i index l at = refused_at index fault.NotCarried
argument_at kind.None i index l at = Ok (bare i, at)
argument_at kind.Level i index l at = level_argument i l at
argument_at kind.TwoLevels i index l at = two_levels_argument i l at
argument_at kind.Time i index l at = time_argument i l at
argument_at kind.Code i index l at = code_argument i l at
argument_at kind.FreeText i index l at = characters_of i (free_text_at l at)
argument_at kind.Facility i index l at = characters_of i (facility_at l at)
argument_at kind.FacilityDesignation i index l at = characters_of i (designation_at l at)
argument_at kind.AtisCode i index l at = characters_of i (atis_at l at)

-- the last index of the root: ATCDownlinkMsgElementId has 114 alternatives, ATCUplinkMsgElementId 237 and one behind the extension marker
unfoldable pub last_of : Direction → ℕ
last_of Downlink = 113
last_of Uplink = 236

-- an element: the index of an extensible CHOICE, which stands behind the extension bit, and the argument; a kind that is not carried is a
-- fault of the index
unfoldable pub element_at : Direction → List ℕ → ℕ → Reading Element
element_at d l at = then (extensible_index l at (last_of d)) (λ (i next : ℕ). argument_at (kind_of d i) i (at + 1) l next)

-- ---- which elements there are, with the characters t beside them, and their bits

unfoldable pub level_unused : Level → Bool
level_unused x = not x.block && same? x.first no_type && same? x.second no_type

unfoldable pub time_unused : Time → Bool
time_unused x = eqb x.hours 0 && eqb x.minutes 0

unfoldable pub zeros : List ℕ → Bool
zeros [] = true
zeros (x ∷ xs) = eqb x 0 && zeros xs

unfoldable pub code_unused : List ℕ → Bool
code_unused x = eqb (length x) 4 && zeros x

-- an element whose kind uses no levels, and one whose kind uses characters at most
unfoldable pub levels_unused : Element → Bool
levels_unused e = level_unused e.level && level_unused e.other

unfoldable pub plain : Element → Bool
plain e = levels_unused e && time_unused e.time && code_unused e.code

abbrev pub no_text_of : List ℕ → Bool
no_text_of t = eqb (length t) 0

-- what the kind uses is of its type, and what it does not use is zero
unfoldable pub argument_fits : ArgumentKind → Element → List ℕ → Bool
argument_fits kind.NotCarried e t = false
argument_fits kind.None e t = plain e && no_text_of t
argument_fits kind.Level e t =
    level_fits e.level && level_unused e.other && time_unused e.time && code_unused e.code && no_text_of t
argument_fits kind.TwoLevels e t =
    level_fits e.level && level_fits e.other && time_unused e.time && code_unused e.code && no_text_of t
argument_fits kind.Time e t = levels_unused e && time_fits e.time && code_unused e.code && no_text_of t
argument_fits kind.Code e t = levels_unused e && time_unused e.time && code_fits_of e.code && no_text_of t
argument_fits kind.FreeText e t = plain e && sized_fits 1 256 t
argument_fits kind.Facility e t = plain e && facility_fits t
argument_fits kind.FacilityDesignation e t = plain e && sized_fits 4 8 t
argument_fits kind.AtisCode e t = plain e && atis_fits t

unfoldable pub argument_bits : ArgumentKind → Element → List ℕ → List ℕ
argument_bits kind.NotCarried e t = []
argument_bits kind.None e t = []
argument_bits kind.Level e t = level_bits e.level
argument_bits kind.TwoLevels e t = level_bits e.level ++ level_bits e.other
argument_bits kind.Time e t = time_bits e.time
argument_bits kind.Code e t = digits_bits e.code
argument_bits kind.FreeText e t = sized_bits 1 256 t
argument_bits kind.Facility e t = facility_bits t
argument_bits kind.FacilityDesignation e t = sized_bits 4 8 t
argument_bits kind.AtisCode e t = characters_bits t

-- with an argument of the kind k
abbrev pub element_fits_as : Direction → ArgumentKind → Element → List ℕ → Bool
element_fits_as d k e t = whole_fits 0 (last_of d) e.number && eqb e.characters (length t) && argument_fits k e t

abbrev pub element_bits_as : Direction → ArgumentKind → Element → List ℕ → List ℕ
element_bits_as d k e t = index_bits (last_of d) e.number ++ argument_bits k e t

-- with one of its own
unfoldable pub element_fits : Direction → Element → List ℕ → Bool
element_fits d e t = element_fits_as d (kind_of d e.number) e t

unfoldable pub element_bits : Direction → Element → List ℕ → List ℕ
element_bits d e t = element_bits_as d (kind_of d e.number) e t

-- the characters at the end of an element that was read
abbrev pub text_of : List ℕ → Element → ℕ → List ℕ
text_of l e next = characters_in l (next - 7 * e.characters) e.characters
