-- The arguments that are carried, kind by kind: which values they have, their bits, and what reading their bits finds.
-- The types are those of Doc 9705 2.3.4.3 (tables M-8, P-14 and P-24 have them too). None of them has an extension marker.
use Rattle.std.specs.Prelude.{ℕ, zero, suc, ◌+◌, List, [], ◌∷◌, ◌++◌, Bool, true, false, cond, ◌&&◌, length, get_or, take, drop, eqb, ltb, Ok}
use Rattle.bits.specs.Bits.{bits_n, num_of}
use Rattle.fields.specs.Fields.{Reading, then, whole_number, contents_at, sized_at}
use Rattle.fields.specs.Encodings.{whole_bits, whole_fits}
use Rattle.elements.specs.declared.values.LevelType.{LevelType}
use Rattle.elements.specs.declared.values.Level.{Level}
use Rattle.elements.specs.declared.values.Time.{Time}

-- ---- LevelType: a CHOICE of four units

-- LevelFeet (-60..7000), LevelMeters (-30..25000), LevelFlightLevel (30..700), LevelFlightLevelMetric (100..2500); the first two from their
-- lowest
unfoldable pub lowest : ℕ → ℕ
lowest unit = get_or (0 ∷ 0 ∷ 30 ∷ 100 ∷ []) unit 0

unfoldable pub highest : ℕ → ℕ
highest unit = get_or (7060 ∷ 25030 ∷ 700 ∷ 2500 ∷ []) unit 0

unfoldable pub level_type_fits : LevelType → Bool
level_type_fits x = whole_fits 0 3 x.unit && whole_fits (lowest x.unit) (highest x.unit) x.number

unfoldable pub level_type_bits : LevelType → List ℕ
level_type_bits x = whole_bits 0 3 x.unit ++ whole_bits (lowest x.unit) (highest x.unit) x.number

abbrev pub number_in_unit : List ℕ → ℕ → ℕ → Reading LevelType
number_in_unit l unit next =
    then (whole_number l next (lowest unit) (highest unit))
    (λ (n last : ℕ). Ok (record { unit = unit; number = n }, last))

unfoldable pub level_type_at : List ℕ → ℕ → Reading LevelType
level_type_at l at = then (whole_number l at 0 3) (number_in_unit l)

-- ---- Level: a CHOICE of one type, and two for a block

abbrev pub flag : Bool → ℕ
flag true = 1
flag false = 0

abbrev pub no_type : LevelType
no_type = record { unit = 0; number = 0 }

abbrev pub same? : LevelType → LevelType → Bool
same? x y = eqb x.unit y.unit && eqb x.number y.number

-- a single level has no second
unfoldable pub level_fits : Level → Bool
level_fits x = level_type_fits x.first && cond x.block (level_type_fits x.second) (same? x.second no_type)

unfoldable pub level_bits : Level → List ℕ
level_bits x = whole_bits 0 1 (flag x.block) ++ level_type_bits x.first ++ cond x.block (level_type_bits x.second) []

abbrev pub second_of : List ℕ → ℕ → LevelType → ℕ → Reading Level
second_of l block first next =
    cond (eqb block 0) (Ok (record { block = false; first = first; second = no_type }, next))
    (then (level_type_at l next) (λ (second : LevelType) (last : ℕ). Ok (record { block = true; first = first; second = second }, last)))

unfoldable pub level_at : List ℕ → ℕ → Reading Level
level_at l at =
    then (whole_number l at 0 1) (λ (block next : ℕ). then (level_type_at l next) (second_of l block))

-- ---- Time

unfoldable pub time_fits : Time → Bool
time_fits x = whole_fits 0 23 x.hours && whole_fits 0 59 x.minutes

unfoldable pub time_bits : Time → List ℕ
time_bits x = whole_bits 0 23 x.hours ++ whole_bits 0 59 x.minutes

abbrev pub minutes_of : List ℕ → ℕ → ℕ → Reading Time
minutes_of l hours next =
    then (whole_number l next 0 59) (λ (m last : ℕ). Ok (record { hours = hours; minutes = m }, last))

unfoldable pub time_at : List ℕ → ℕ → Reading Time
time_at l at = then (whole_number l at 0 23) (minutes_of l)

-- ---- Code: SEQUENCE SIZE (4) OF an octal digit

unfoldable pub digits_fit : List ℕ → Bool
digits_fit [] = true
digits_fit (d ∷ ds) = whole_fits 0 7 d && digits_fit ds

unfoldable pub code_fits_of : List ℕ → Bool
code_fits_of ds = eqb (length ds) 4 && digits_fit ds

unfoldable pub digits_bits : List ℕ → List ℕ
digits_bits [] = []
digits_bits (d ∷ ds) = whole_bits 0 7 d ++ digits_bits ds

abbrev pub digit : List ℕ → ℕ → (ℕ → ℕ → Reading (List ℕ)) → Reading (List ℕ)
digit l at k = then (whole_number l at 0 7) k

unfoldable pub code_at : List ℕ → ℕ → Reading (List ℕ)
code_at l at =
    digit l at
    (λ (a p : ℕ). digit l p (λ (b q : ℕ). digit l q (λ (c r : ℕ). digit l r (λ (d next : ℕ). Ok (a ∷ b ∷ c ∷ d ∷ [], next)))))

-- ---- Characters: IA5String, seven bits each (X.691, 30.5). They are kept as a list of numbers below 128.

unfoldable pub characters_fit : List ℕ → Bool
characters_fit [] = true
characters_fit (c ∷ cs) = ltb c 128 && characters_fit cs

unfoldable pub characters_bits : List ℕ → List ℕ
characters_bits [] = []
characters_bits (c ∷ cs) = bits_n 7 c ++ characters_bits cs

-- the n characters that stand at a place
unfoldable pub characters_in : List ℕ → ℕ → ℕ → List ℕ
characters_in l at zero = []
characters_in l at (suc n) = num_of (take 7 (drop at l)) ∷ characters_in l (at + 7) n

-- A string of a size from least to most: FreeText (1..256), FacilityDesignation (4..8). How many characters there are is read, and the
-- place after them.
unfoldable pub sized_fits : ℕ → ℕ → List ℕ → Bool
sized_fits least most t = whole_fits least most (length t) && characters_fit t

unfoldable pub sized_bits : ℕ → ℕ → List ℕ → List ℕ
sized_bits least most t = whole_bits least most (length t) ++ characters_bits t

abbrev pub free_text_at : List ℕ → ℕ → Reading ℕ
free_text_at l at = sized_at l at 7 1 256

abbrev pub designation_at : List ℕ → ℕ → Reading ℕ
designation_at l at = sized_at l at 7 4 8

-- Facility: a CHOICE of none and a designation; none has no characters
unfoldable pub facility_fits : List ℕ → Bool
facility_fits [] = true
facility_fits (c ∷ cs) = sized_fits 4 8 (c ∷ cs)

unfoldable pub facility_bits : List ℕ → List ℕ
facility_bits [] = whole_bits 0 1 0
facility_bits (c ∷ cs) = whole_bits 0 1 1 ++ sized_bits 4 8 (c ∷ cs)

unfoldable pub facility_at : List ℕ → ℕ → Reading ℕ
facility_at l at =
    then (whole_number l at 0 1) (λ (choice next : ℕ). cond (eqb choice 0) (Ok (0, next)) (designation_at l next))

-- ATISCode: one character, without a length
unfoldable pub atis_fits : List ℕ → Bool
atis_fits t = eqb (length t) 1 && characters_fit t

abbrev pub atis_at : List ℕ → ℕ → Reading ℕ
atis_at l at = contents_at l at 7 1
