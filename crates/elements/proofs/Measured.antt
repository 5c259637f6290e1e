-- Measuring: the tests of a value, and the lengths of its bits.
-- Assumes nothing.
use mathlib.Core.Path.{◌≡◌, refl, sym, ◌∙◌}
use mathlib.Core.Bool.{Bool, true, false, ◌&&◌}
use mathlib.Core.List.{List, [], ◌∷◌, ◌++◌}
use Prim.Native.Nat.{ℕ, zero, suc, ◌+◌, ◌-◌, ◌*◌, ◌<◌, ◌≤◌, max}
use native.Mathlib.Numerals.{add-one}
use native.Mathlib.Omega.{arith}
use native.Mathlib.Decide.{dec_lt}
use lib.ListN.{length, get_or, drop, length-append}
use lib.Seq.{drop-cons}
use lib.Dec.{eqb, leb, ltb}
use borrow.Author.Tests.{le-leb, lt-leb, leb-true, leb-false, lt-ltb, le-ltb, eq-eqb, eqb-true, ne_eqb}
use Rattle.fields.specs.Fields.{digits_in, width_of}
use Rattle.fields.specs.Encodings.{index_bits, whole_bits, whole_fits}
use Rattle.fields.proofs.Widths.{width_most}
use Rattle.kinds.specs.declared.Direction.{Direction}
use Rattle.kinds.specs.declared.ArgumentKind.{ArgumentKind}
use Rattle.kinds.specs.declared.ArgumentKind.TheVariants as kind
use Rattle.elements.specs.declared.values.LevelType.{LevelType}
use Rattle.elements.specs.declared.values.Level.{Level}
use Rattle.elements.specs.declared.values.Time.{Time}
use Rattle.elements.specs.declared.values.Element.{Element}
use Rattle.kinds.specs.Elements.{kind_of}
use Rattle.elements.specs.Arguments.{flag, lowest, highest, level_type_bits, level_fits, level_bits, time_fits, time_bits, digits_fit, code_fits_of, digits_bits, characters_fit, sized_fits, sized_bits, facility_fits, facility_bits, atis_fits}
use Rattle.elements.specs.OneElement.{zeros, code_unused, level_unused, time_unused, levels_unused, plain, no_text_of, argument_fits, argument_bits, last_of, element_fits, element_bits, element_fits_as, element_bits_as}
use Rattle.elements.specs.Measuring.{all_most, level_fits_use, time_fits_use, code_fits_use, text_fits_kind, uses_of, largest_of}
use Rattle.words.proofs.Laws.{both_left, both_right}
use Rattle.elements.proofs.Steps.{never}
use Rattle.elements.proofs.Whole.{length_whole, whole_below}
use Rattle.elements.proofs.Indices.{length_index}
use Rattle.elements.proofs.Texts.{length_characters_bits}
use Rattle.elements.proofs.ReadBack.{parts}
use Rattle.elements.proofs.Pieces.{drop_all}

-- ---- several numbers: the loop has seen the first i of them

most_cons : (hi x : ℕ) (xs : List ℕ) → all_most hi (x ∷ xs) ≡ (leb x hi && all_most hi xs)
unfolding all_most
most_cons hi x xs = refl

most_nil : (hi : ℕ) → all_most hi [] ≡ true
unfolding all_most
most_nil hi = refl

max_most : (a b hi : ℕ) → leb (max a b) hi ≡ (leb a hi && leb b hi)
max_most a b hi = go (leb a hi) refl (leb b hi) refl
  where
    go : (p : Bool) → leb a hi ≡ p → (q : Bool) → leb b hi ≡ q → leb (max a b) hi ≡ (p && q)
    go true h true k = let x = leb-true a hi h in let y = leb-true b hi k in le-leb (max a b) hi (omega arith)
    go true h false k = let y = leb-false b hi k in lt-leb (max a b) hi (omega arith)
    go false h q k = let x = leb-false a hi h in lt-leb (max a b) hi (omega arith)

both_assoc : (a b c : Bool) → ((a && b) && c) ≡ (a && (b && c))
both_assoc true b c = refl
both_assoc false b c = refl

both_true : (a : Bool) → (a && true) ≡ a
both_true true = refl
both_true false = refl

pub most_none : (hi : ℕ) (xs : List ℕ) → (leb 0 hi && all_most hi xs) ≡ all_most hi xs
most_none hi xs = rw (le-leb 0 hi (omega arith))

-- m is the greatest of them
module _ (hi m : ℕ) (xs : List ℕ) (i : ℕ) (z : Bool) (inv : (leb m hi && all_most hi (drop i xs)) ≡ z) where
  pub most_turn : i < length xs → (w : ℕ) → w ≡ max m (get_or xs i 0) → (leb w hi && all_most hi (drop (i + 1) xs)) ≡ z
  most_turn h w e = rw (e, max_most, both_assoc, add-one) (rw (drop-cons xs i 0 h, most_cons) at inv)

  pub most_done : length xs ≤ i → leb m hi ≡ z
  most_done h = rw (drop_all xs i h, most_nil, both_true) at inv

-- digits, characters and zeros are such numbers
pub digits_most : (ds : List ℕ) → all_most 7 ds ≡ digits_fit ds
unfolding all_most digits_fit
digits_most [] = refl
digits_most (d ∷ ds) = let z : leb 0 d ≡ true = le-leb 0 d (omega arith) in rw (z, digits_most ds)

pub characters_most_is : (cs : List ℕ) → all_most 127 cs ≡ characters_fit cs
unfolding all_most characters_fit
characters_most_is [] = refl
characters_most_is (c ∷ cs) = rw (below c, characters_most_is cs)
  where
    below : (c : ℕ) → leb c 127 ≡ ltb c 128
    below c =
        elim (dec_lt c 128) [
          | yes h ↦ rw (le-leb c 127 (omega arith), lt-ltb c 128 h)
          | no h ↦ rw (lt-leb c 127 (omega arith), le-ltb c 128 (omega arith))
        ]

pub zeros_most : (xs : List ℕ) → all_most 0 xs ≡ zeros xs
unfolding all_most zeros
zeros_most [] = refl
zeros_most (x ∷ xs) = rw (none x, zeros_most xs)
  where
    none : (x : ℕ) → leb x 0 ≡ eqb x 0
    none zero = refl
    none (suc x) = rw (lt-leb (suc x) 0 (omega arith), ne_eqb (suc x) 0 (λ (z : suc x ≡ 0). omega arith))

-- ---- a code, a string, a facility

module _ (r : Bool) (xs : List ℕ) (n : length xs ≡ 4) where
  pub code_used : r ≡ all_most 7 xs → r ≡ code_fits_use true xs
  unfolding code_fits_use code_fits_of
  code_used e = rw (eq-eqb (length xs) 4 n) (e ∙ digits_most xs)

  pub code_unused_is : r ≡ all_most 0 xs → r ≡ code_fits_use false xs
  unfolding code_fits_use code_unused
  code_unused_is e = rw (eq-eqb (length xs) 4 n) (e ∙ zeros_most xs)

pub no_facility_fits : (xs : List ℕ) → length xs ≡ 0 → true ≡ facility_fits xs
unfolding facility_fits
no_facility_fits [] h = refl
no_facility_fits (x ∷ xs) h = absurd (omega arith)

pub facility_fits_by : (r : Bool) (xs : List ℕ) → (length xs ≡ 0 → ⊥) → r ≡ sized_fits 4 8 xs → r ≡ facility_fits xs
unfolding facility_fits
facility_fits_by r [] h e = absurd (h refl)
facility_fits_by r (x ∷ xs) h e = e

pub atis_fits_by : (r b : Bool) (xs : List ℕ) → r ≡ eqb (length xs) 1 && b → b ≡ all_most 127 xs → r ≡ atis_fits xs
unfolding atis_fits
atis_fits_by r b xs p s = rw (p, s, characters_most_is xs)

pub no_atis_fits : (xs : List ℕ) → (length xs ≡ 1 → ⊥) → eqb (length xs) 1 ≡ atis_fits xs
unfolding atis_fits
no_atis_fits xs h = rw (ne_eqb (length xs) 1 h)

-- ---- an argument, part by part

never_both : (a : Bool) → a && false ≡ false
never_both true = refl
never_both false = refl

pub argument_parts : (k : ArgumentKind) (e : Element) (t : List ℕ)
    → level_fits_use (leb 1 (uses_of k).levels) e.level && level_fits_use (leb 2 (uses_of k).levels) e.other &&
    time_fits_use (uses_of k).time e.time && code_fits_use (uses_of k).code e.code && text_fits_kind k t ≡
    argument_fits k e t
unfolding uses_of level_fits_use time_fits_use code_fits_use text_fits_kind argument_fits plain levels_unused
argument_parts kind.NotCarried e t = never_both
    (level_unused e.level && level_unused e.other && time_unused e.time && code_unused e.code)
argument_parts kind.None e t = refl
argument_parts kind.Level e t = refl
argument_parts kind.TwoLevels e t = refl
argument_parts kind.Time e t = refl
argument_parts kind.Code e t = refl
argument_parts kind.FreeText e t = refl
argument_parts kind.Facility e t = refl
argument_parts kind.FacilityDesignation e t = refl
argument_parts kind.AtisCode e t = refl

-- ---- lengths

pub width_small : (n : ℕ) → width_of n ≤ 64
width_small n = width_most 64 n

units : width_of (3 - 0) ≡ 2
unfolding digits_in
units = refl

pub widest : (u : ℕ) → width_of (highest u - lowest u) ≤ 15
unfolding highest lowest digits_in
widest zero = omega arith
widest (suc zero) = omega arith
widest (suc (suc zero)) = omega arith
widest (suc (suc (suc zero))) = omega arith
widest (suc (suc (suc (suc u)))) = omega arith

pub length_level_type : (x : LevelType) → length (level_type_bits x) ≡ width_of (3 - 0) + width_of (highest x.unit - lowest x.unit)
unfolding level_type_bits
length_level_type x = length-append (whole_bits 0 3 x.unit)
    (whole_bits (lowest x.unit) (highest x.unit) x.number) ∙ rw
    (length_whole 0 3 x.unit, length_whole (lowest x.unit) (highest x.unit) x.number)

pub level_type_most : (x : LevelType) → length (level_type_bits x) ≤ 17
level_type_most x = omega (arith, length_level_type x, units, widest x.unit)

pub length_choice : (b : Bool) → length (whole_bits 0 1 (flag b)) ≡ 1
unfolding digits_in
length_choice b = length_whole 0 1 (flag b)

pub length_block : (x : Level) → x.block ≡ true
    → length (level_bits x) ≡ 1 + length (level_type_bits x.first) + length (level_type_bits x.second)
unfolding level_bits
length_block x e = rw (e, length-append, length-append, length_choice true)

pub length_single : (x : Level) → x.block ≡ false → length (level_bits x) ≡ 1 + length (level_type_bits x.first)
unfolding level_bits
length_single x e = rw (e, length-append, length-append, length_choice false) (omega arith)

pub level_most : (x : Level) → length (level_bits x) ≤ 35
level_most x = go x.block refl
  where
    go : (b : Bool) → x.block ≡ b → length (level_bits x) ≤ 35
    go true e = omega (arith, length_block x e, level_type_most x.first, level_type_most x.second)
    go false e = omega (arith, length_single x e, level_type_most x.first)

pub length_time : (x : Time) → length (time_bits x) ≡ 11
unfolding time_bits digits_in
length_time x = length-append (whole_bits 0 23 x.hours) (whole_bits 0 59 x.minutes) ∙ rw
    (length_whole 0 23 x.hours, length_whole 0 59 x.minutes)

pub length_digits : (ds : List ℕ) → length (digits_bits ds) ≡ 3 * length ds
unfolding digits_bits digits_in
length_digits [] = refl
length_digits (d ∷ ds) = omega (arith, length-append (whole_bits 0 7 d) (digits_bits ds), length_whole 0 7 d, length_digits ds)

pub length_sized : (least most : ℕ) (t : List ℕ) → length (sized_bits least most t) ≡ width_of (most - least) + 7 * length t
unfolding sized_bits
length_sized least most t = rw (length-append, length_whole, length_characters_bits)

pub length_no_facility : (t : List ℕ) → length t ≡ 0 → length (facility_bits t) ≡ 1
unfolding facility_bits
length_no_facility [] h = length_choice false
length_no_facility (c ∷ cs) h = absurd (omega arith)

pub length_facility : (t : List ℕ) → (length t ≡ 0 → ⊥) → length (facility_bits t) ≡ 1 + length (sized_bits 4 8 t)
unfolding facility_bits
length_facility [] h = absurd (h refl)
length_facility (c ∷ cs) h = rw (length-append, length_choice true)

-- ---- as the code measures

pub choice_width : width_of (1 - 0) ≡ 1
unfolding digits_in
choice_width = refl

pub level_type_by : (x : LevelType) (a b lo hi : ℕ) → a ≡ width_of (3 - 0) → b ≡ width_of (hi - lo)
    → lo ≡ lowest x.unit → hi ≡ highest x.unit → a + b ≡ length (level_type_bits x)
level_type_by x a b lo hi p q s t = sym (length_level_type x ∙ rw (← s, ← t, ← p, ← q))

pub two_levels_by : (x y : Level) (a b : ℕ) → a ≡ length (level_bits x) → b ≡ length (level_bits y)
    → a + b ≡ length (level_bits x ++ level_bits y)
two_levels_by x y a b p q = rw (p, q) (sym (length-append (level_bits x) (level_bits y)))

pub time_by : (x : Time) (a b : ℕ) → a ≡ width_of (23 - 0) → b ≡ width_of (59 - 0) → a + b ≡ length (time_bits x)
unfolding digits_in
time_by x a b p q = omega (arith, length_time x)

pub code_by : (ds : List ℕ) (a : ℕ) → length ds ≡ 4 → a ≡ width_of (7 - 0) → 4 * a ≡ length (digits_bits ds)
unfolding digits_in
code_by ds a n p = omega (arith, length_digits ds)

-- ---- the most bits of an argument that is one of its kind, and the most characters

sized_largest : (least most : ℕ) (t : List ℕ) → sized_fits least most t ≡ true → length t ≤ most
unfolding sized_fits
sized_largest least most t p = whole_below least most (length t) (both_left (whole_fits least most (length t)) (characters_fit t) p)

text_width : width_of (256 - 1) ≡ 8
unfolding digits_in
text_width = refl

designation_width : width_of (8 - 4) ≡ 3
unfolding digits_in
designation_width = refl

designation_largest : (t : List ℕ) → sized_fits 4 8 t ≡ true → length (sized_bits 4 8 t) ≤ 59
designation_largest t p = omega (arith, length_sized 4 8 t, designation_width, sized_largest 4 8 t p)

facility_largest : (t : List ℕ) → facility_fits t ≡ true → length (facility_bits t) ≤ 60
unfolding facility_fits
facility_largest [] p = omega (arith, length_no_facility [] refl)
facility_largest (c ∷ cs) p = omega
    (arith, length_facility (c ∷ cs) (λ (z : suc (length cs) ≡ 0). omega arith), designation_largest (c ∷ cs) p)

facility_few : (t : List ℕ) → facility_fits t ≡ true → length t ≤ 8
unfolding facility_fits
facility_few [] p = omega arith
facility_few (c ∷ cs) p = sized_largest 4 8 (c ∷ cs) p

atis_one : (t : List ℕ) → atis_fits t ≡ true → length t ≡ 1
unfolding atis_fits
atis_one t p = eqb-true (length t) 1 (both_left (eqb (length t) 1) (characters_fit t) p)

code_four : (ds : List ℕ) → code_fits_of ds ≡ true → length ds ≡ 4
unfolding code_fits_of
code_four ds p = eqb-true (length ds) 4 (both_left (eqb (length ds) 4) (digits_fit ds) p)

none : (t : List ℕ) → no_text_of t ≡ true → length t ≤ 256
none t p = omega (arith, eqb-true (length t) 0 p)

pub argument_largest : (k : ArgumentKind) (e : Element) (t : List ℕ) → argument_fits k e t ≡ true → length (argument_bits k e t) ≤ largest_of k
unfolding argument_fits argument_bits largest_of levels_unused
argument_largest kind.NotCarried e t p = never (cc)
argument_largest kind.None e t p = omega arith
argument_largest kind.Level e t p = level_most e.level
argument_largest kind.TwoLevels e t p = omega
    (arith, length-append (level_bits e.level) (level_bits e.other), level_most e.level, level_most e.other)
argument_largest kind.Time e t p = omega (arith, length_time e.time)
argument_largest kind.Code e t p = omega (
  arith,
  length_digits e.code,
  code_four e.code (parts
      (level_unused e.level) (level_unused e.other) (time_unused e.time) (code_fits_of e.code) (no_text_of t)
      p).fourth,
)
argument_largest kind.FreeText e t p = omega
    (arith, length_sized 1 256 t, text_width, sized_largest 1 256 t (both_right (plain e) (sized_fits 1 256 t) p))
argument_largest kind.Facility e t p = facility_largest t (both_right (plain e) (facility_fits t) p)
argument_largest kind.FacilityDesignation e t p = designation_largest t (both_right (plain e) (sized_fits 4 8 t) p)
argument_largest kind.AtisCode e t p = omega (arith, length_characters_bits t, atis_one t (both_right (plain e) (atis_fits t) p))

few : (k : ArgumentKind) (e : Element) (t : List ℕ) → argument_fits k e t ≡ true → length t ≤ 256
unfolding argument_fits
few kind.NotCarried e t p = never (cc)
few kind.None e t p = none t (both_right (plain e) (no_text_of t) p)
few kind.Level e t p = none t (both_right
    (level_fits e.level && level_unused e.other && time_unused e.time && code_unused e.code) (no_text_of t) p)
few kind.TwoLevels e t p = none t (both_right
    (level_fits e.level && level_fits e.other && time_unused e.time && code_unused e.code) (no_text_of t) p)
few kind.Time e t p = none t (both_right (levels_unused e && time_fits e.time && code_unused e.code) (no_text_of t) p)
few kind.Code e t p = none t (both_right (levels_unused e && time_unused e.time && code_fits_of e.code) (no_text_of t) p)
few kind.FreeText e t p = sized_largest 1 256 t (both_right (plain e) (sized_fits 1 256 t) p)
few kind.Facility e t p = omega (arith, facility_few t (both_right (plain e) (facility_fits t) p))
few kind.FacilityDesignation e t p = omega (arith, sized_largest 4 8 t (both_right (plain e) (sized_fits 4 8 t) p))
few kind.AtisCode e t p = omega (arith, atis_one t (both_right (plain e) (atis_fits t) p))

largest_small : (k : ArgumentKind) → largest_of k ≤ 1800
unfolding largest_of
largest_small kind.NotCarried = omega arith
largest_small kind.None = omega arith
largest_small kind.Level = omega arith
largest_small kind.TwoLevels = omega arith
largest_small kind.Time = omega arith
largest_small kind.Code = omega arith
largest_small kind.FreeText = omega arith
largest_small kind.Facility = omega arith
largest_small kind.FacilityDesignation = omega arith
largest_small kind.AtisCode = omega arith

-- ---- an element

pub length_element : (d : Direction) (e : Element) (t : List ℕ)
    → length (element_bits d e t) ≡ 1 + width_of (last_of d - 0) + length (argument_bits (kind_of d e.number) e t)
unfolding element_bits
length_element d e t = omega (
  arith,
  length-append (index_bits (last_of d) e.number)
      (argument_bits (kind_of d e.number) e t),
  length_index (last_of d) e.number,
)

module _ (d : Direction) (e : Element) (t : List ℕ) (p : element_fits d e t ≡ true) where
  pub its_argument : argument_fits (kind_of d e.number) e t ≡ true
  unfolding element_fits
  its_argument = both_right (whole_fits 0 (last_of d) e.number && eqb e.characters (length t))
      (argument_fits (kind_of d e.number) e t) p

  pub few_characters : length t ≤ 256
  few_characters = few (kind_of d e.number) e t its_argument

  pub argument_small : (k : ArgumentKind) → k ≡ kind_of d e.number → length (argument_bits k e t) ≤ 1800
  argument_small k q = rw q (omega (arith, argument_largest (kind_of d e.number) e t its_argument, largest_small (kind_of d e.number)))

-- the same of an argument of any kind
module _ (d : Direction) (k : ArgumentKind) (e : Element) (t : List ℕ) (p : element_fits_as d k e t ≡ true) where
  argument_as : argument_fits k e t ≡ true
  argument_as = both_right (whole_fits 0 (last_of d) e.number && eqb e.characters (length t)) (argument_fits k e t) p

  pub few_as : length t ≤ 256
  few_as = few k e t argument_as

  pub small_as : length (argument_bits k e t) ≤ 1800
  small_as = omega (arith, argument_largest k e t argument_as, largest_small k)

pub length_element_as : (d : Direction) (k : ArgumentKind) (e : Element) (t : List ℕ)
    → length (element_bits_as d k e t) ≡ 1 + width_of (last_of d - 0) + length (argument_bits k e t)
length_element_as d k e t = omega (
  arith,
  length-append (index_bits (last_of d) e.number) (argument_bits k e t),
  length_index (last_of d) e.number,
)
