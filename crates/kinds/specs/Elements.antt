-- The argument kind of each message element, by direction and element number.
--
-- The rows are the alternatives of ATCDownlinkMsgElementId and ATCUplinkMsgElementId (Doc 9705 2.3.4.3; tables M-6 and M-4), in the order
-- of their tags from 0, ten to a line. A row is the place of its kind in `kinds`: the kinds of document 01 in its order, behind one that
-- stands for every other argument type.
use Rattle.std.specs.Prelude.{ℕ, List, [], ◌∷◌, ◌++◌, Bool, true, ◌&&◌, length, get_or, ltb}
use Rattle.kinds.specs.declared.Direction.{Direction}
use Rattle.kinds.specs.declared.Direction.TheVariants.{Downlink, Uplink}
use Rattle.kinds.specs.declared.ArgumentKind.{ArgumentKind}
use Rattle.kinds.specs.declared.ArgumentKind.TheVariants.{NotCarried, None, Level, TwoLevels, Time, Code, FreeText, Facility, FacilityDesignation, AtisCode}

unfoldable pub kinds : List ArgumentKind
kinds =
    NotCarried ∷ None ∷ Level ∷ TwoLevels ∷ Time ∷ Code ∷ FreeText ∷ Facility ∷ FacilityDesignation ∷ AtisCode ∷ []

abbrev pub other : ℕ
other = 0

abbrev pub none : ℕ
none = 1

abbrev pub level : ℕ
level = 2

abbrev pub levels : ℕ
levels = 3

abbrev pub time : ℕ
time = 4

abbrev pub code : ℕ
code = 5

abbrev pub text : ℕ
text = 6

abbrev pub facility : ℕ
facility = 7

abbrev pub designation : ℕ
designation = 8

abbrev pub atis : ℕ
atis = 9

-- ATCDownlinkMsgElementId, dM0 to dM113
unfoldable pub downlink : List ℕ
downlink =
    none ∷ none ∷ none ∷ none ∷ none ∷ none ∷ level ∷ levels ∷ level ∷ level ∷
    level ∷ other ∷ other ∷ other ∷ other ∷ other ∷ other ∷ other ∷ other ∷ other ∷
    none ∷ other ∷ other ∷ other ∷ other ∷ other ∷ other ∷ other ∷ level ∷ level ∷
    level ∷ other ∷ level ∷ other ∷ other ∷ other ∷ other ∷ level ∷ level ∷ other ∷
    other ∷ none ∷ other ∷ time ∷ other ∷ other ∷ time ∷ code ∷ other ∷ other ∷
    other ∷ none ∷ none ∷ none ∷ level ∷ none ∷ none ∷ other ∷ none ∷ other ∷
    other ∷ level ∷ other ∷ none ∷ designation ∷ none ∷ none ∷ text ∷ text ∷ none ∷
    other ∷ other ∷ level ∷ other ∷ none ∷ none ∷ levels ∷ levels ∷ other ∷ atis ∷
    other ∷ other ∷ level ∷ other ∷ other ∷ other ∷ other ∷ level ∷ level ∷ other ∷
    text ∷ text ∷ text ∷ text ∷ text ∷ text ∷ text ∷ text ∷ text ∷ none ∷
    none ∷ none ∷ none ∷ none ∷ other ∷ other ∷ level ∷ none ∷ none ∷ time ∷
    other ∷ other ∷ none ∷ other ∷ []

-- ATCUplinkMsgElementId, uM0 to uM237; uM237 stands behind the extension marker and is not carried
unfoldable pub uplink : List ℕ
uplink =
    none ∷ none ∷ none ∷ none ∷ none ∷ none ∷ level ∷ time ∷ other ∷ time ∷
    other ∷ time ∷ other ∷ other ∷ other ∷ other ∷ other ∷ other ∷ other ∷ level ∷
    level ∷ other ∷ other ∷ level ∷ other ∷ other ∷ other ∷ other ∷ other ∷ other ∷
    levels ∷ levels ∷ levels ∷ none ∷ level ∷ level ∷ level ∷ level ∷ level ∷ level ∷
    none ∷ none ∷ other ∷ other ∷ other ∷ other ∷ other ∷ other ∷ other ∷ other ∷
    other ∷ other ∷ other ∷ other ∷ other ∷ other ∷ other ∷ other ∷ other ∷ other ∷
    other ∷ other ∷ other ∷ other ∷ other ∷ other ∷ other ∷ none ∷ other ∷ time ∷
    other ∷ time ∷ none ∷ other ∷ other ∷ other ∷ other ∷ other ∷ other ∷ other ∷
    other ∷ other ∷ other ∷ other ∷ other ∷ other ∷ other ∷ other ∷ other ∷ other ∷
    other ∷ other ∷ other ∷ time ∷ other ∷ other ∷ none ∷ other ∷ other ∷ other ∷
    other ∷ other ∷ other ∷ other ∷ other ∷ other ∷ other ∷ none ∷ other ∷ other ∷
    other ∷ other ∷ other ∷ other ∷ other ∷ other ∷ none ∷ other ∷ other ∷ other ∷
    other ∷ other ∷ other ∷ code ∷ none ∷ none ∷ none ∷ none ∷ level ∷ level ∷
    other ∷ none ∷ none ∷ none ∷ other ∷ none ∷ none ∷ none ∷ none ∷ none ∷
    none ∷ none ∷ none ∷ none ∷ none ∷ none ∷ none ∷ none ∷ level ∷ other ∷
    other ∷ other ∷ other ∷ other ∷ none ∷ other ∷ none ∷ other ∷ atis ∷ other ∷
    facility ∷ none ∷ none ∷ designation ∷ none ∷ none ∷ other ∷ none ∷ none ∷ text ∷
    text ∷ other ∷ other ∷ other ∷ other ∷ level ∷ none ∷ none ∷ none ∷ none ∷
    levels ∷ other ∷ none ∷ text ∷ other ∷ other ∷ other ∷ text ∷ other ∷ other ∷
    other ∷ none ∷ other ∷ none ∷ text ∷ text ∷ text ∷ text ∷ text ∷ text ∷
    none ∷ none ∷ none ∷ text ∷ text ∷ text ∷ text ∷ text ∷ text ∷ other ∷
    other ∷ none ∷ other ∷ other ∷ other ∷ other ∷ none ∷ none ∷ none ∷ level ∷
    level ∷ other ∷ none ∷ none ∷ none ∷ none ∷ time ∷ none ∷ other ∷ none ∷
    none ∷ none ∷ none ∷ none ∷ none ∷ none ∷ none ∷ other ∷ []

-- the one table: the downlink rows, then the uplink rows
unfoldable pub rows : List ℕ
rows = downlink ++ uplink

-- every row is a known kind
unfoldable pub all_known : List ℕ → Bool
all_known [] = true
all_known (x ∷ xs) = ltb x (length kinds) && all_known xs

-- the kind in a row of the table
unfoldable pub kind_at : ℕ → ArgumentKind
kind_at row = get_or kinds (get_or rows row other) NotCarried

-- the rows of a direction
unfoldable pub rows_of : Direction → List ℕ
rows_of Downlink = downlink
rows_of Uplink = uplink

-- the kind of an element's argument; a number that has no row is not carried
unfoldable pub kind_of : Direction → ℕ → ArgumentKind
kind_of d n = get_or kinds (get_or (rows_of d) n other) NotCarried
