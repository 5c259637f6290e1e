-- Measuring: the test of an element part by part, and the most bits that an argument takes.
use Rattle.std.specs.Prelude.{ℕ, List, [], ◌∷◌, Bool, true, false, cond, ◌&&◌, leb}
use Rattle.kinds.specs.declared.Direction.{Direction}
use Rattle.kinds.specs.declared.Direction.TheVariants.{Downlink, Uplink}
use Rattle.kinds.specs.declared.ArgumentKind.{ArgumentKind}
use Rattle.kinds.specs.declared.ArgumentKind.TheVariants as kind
use Rattle.elements.specs.declared.values.LevelType.{LevelType}
use Rattle.elements.specs.declared.values.Level.{Level}
use Rattle.elements.specs.declared.values.Time.{Time}
use Rattle.elements.specs.declared.measuring.Uses.{Uses}
use Rattle.elements.specs.Arguments.{no_type, same?, level_type_fits, level_fits, time_fits, code_fits_of, sized_fits, facility_fits, atis_fits}
use Rattle.elements.specs.OneElement.{level_unused, time_unused, code_unused, no_text_of}

-- none of the numbers is above hi
unfoldable pub all_most : ℕ → List ℕ → Bool
all_most hi [] = true
all_most hi (x ∷ xs) = leb x hi && all_most hi xs

-- ---- a part that is used is of its type, and one that is not is zero

unfoldable pub type_fits_use : Bool → LevelType → Bool
type_fits_use used x = cond used (level_type_fits x) (same? x no_type)

unfoldable pub level_fits_use : Bool → Level → Bool
level_fits_use used x = cond used (level_fits x) (level_unused x)

unfoldable pub time_fits_use : Bool → Time → Bool
time_fits_use used x = cond used (time_fits x) (time_unused x)

unfoldable pub code_fits_use : Bool → List ℕ → Bool
code_fits_use used x = cond used (code_fits_of x) (code_unused x)

unfoldable pub text_fits_kind : ArgumentKind → List ℕ → Bool
text_fits_kind kind.NotCarried t = false
text_fits_kind kind.None t = no_text_of t
text_fits_kind kind.Level t = no_text_of t
text_fits_kind kind.TwoLevels t = no_text_of t
text_fits_kind kind.Time t = no_text_of t
text_fits_kind kind.Code t = no_text_of t
text_fits_kind kind.FreeText t = sized_fits 1 256 t
text_fits_kind kind.Facility t = facility_fits t
text_fits_kind kind.FacilityDesignation t = sized_fits 4 8 t
text_fits_kind kind.AtisCode t = atis_fits t

abbrev pub uses : ℕ → Bool → Bool → Uses
uses levels time code = record { levels = levels; time = time; code = code }

-- what a kind uses besides characters
unfoldable pub uses_of : ArgumentKind → Uses
uses_of kind.NotCarried = uses 0 false false
uses_of kind.None = uses 0 false false
uses_of kind.Level = uses 1 false false
uses_of kind.TwoLevels = uses 2 false false
uses_of kind.Time = uses 0 true false
uses_of kind.Code = uses 0 false true
uses_of kind.FreeText = uses 0 false false
uses_of kind.Facility = uses 0 false false
uses_of kind.FacilityDesignation = uses 0 false false
uses_of kind.AtisCode = uses 0 false false

-- ---- the most bits

-- an element's index: the extension bit, and one of 114 or of 237
unfoldable pub index_width : Direction → ℕ
index_width Downlink = 8
index_width Uplink = 9

-- an argument, by its kind: a block of two levels in metres, 256 characters of free text, a designation of eight
unfoldable pub largest_of : ArgumentKind → ℕ
largest_of kind.NotCarried = 0
largest_of kind.None = 0
largest_of kind.Level = 35
largest_of kind.TwoLevels = 70
largest_of kind.Time = 11
largest_of kind.Code = 12
largest_of kind.FreeText = 1800
largest_of kind.Facility = 60
largest_of kind.FacilityDesignation = 59
largest_of kind.AtisCode = 7
