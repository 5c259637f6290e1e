-- The largest element of each kind: no element has more bits, and each that is carried can have as many.
-- Assumes nothing.
use mathlib.Core.Path.{◌≡◌, refl, ap, ◌∙◌}
use mathlib.Core.Bool.{true, ◌&&◌}
use mathlib.Core.List.{List, []}
use Prim.Native.Nat.{ℕ, ◌+◌, ◌-◌, ◌≤◌}
use native.Mathlib.Omega.{arith}
use lib.ListN.{length, replicate, length-append}
use lib.Dec.{eqb, leb}
use borrow.Author.Tests.{le-leb, eq-eqb}
use Rattle.fields.specs.Fields.{digits_in, width_of}
use Rattle.fields.specs.Encodings.{whole_fits}
use Rattle.kinds.specs.declared.Direction.{Direction}
use Rattle.kinds.specs.declared.Direction.TheVariants.{Downlink, Uplink}
use Rattle.kinds.specs.declared.ArgumentKind.{ArgumentKind}
use Rattle.kinds.specs.declared.ArgumentKind.TheVariants as kind
use Rattle.elements.specs.declared.values.LevelType.{LevelType}
use Rattle.elements.specs.declared.values.Level.{Level}
use Rattle.elements.specs.declared.values.Element.{Element}
use Rattle.kinds.specs.Elements.{kind_of}
use Rattle.elements.specs.Arguments.{lowest, highest, level_type_fits, level_type_bits, level_fits, level_bits, time_fits, digits_fit, code_fits_of, characters_fit, sized_fits, facility_fits, atis_fits}
use Rattle.elements.specs.OneElement.{no_level, bare, with_levels, with_characters, level_unused, time_unused, zeros, code_unused, levels_unused, plain, argument_fits, argument_bits, last_of, element_fits, element_bits}
use Rattle.elements.specs.Measuring.{index_width, largest_of}
use Rattle.elements.proofs.Standing.{both_hold}
use Rattle.elements.proofs.Texts.{length_characters_bits}
use Rattle.elements.proofs.Measured.{length_level_type, length_block, length_time, length_digits, length_sized, length_facility, argument_largest, length_element, its_argument}

index_width_is : (d : Direction) → 1 + width_of (last_of d - 0) ≡ index_width d
unfolding last_of index_width digits_in
index_width_is Downlink = refl
index_width_is Uplink = refl

pub element_largest : (d : Direction) (e : Element) (t : List ℕ) → element_fits d e t ≡ true
    → length (element_bits d e t) ≤ index_width d + largest_of (kind_of d e.number)
element_largest d e t p = omega
    (arith, length_element d e t, index_width_is d, argument_largest (kind_of d e.number) e t (its_argument d e t p))

-- ---- as many

metres : LevelType
metres = record { unit = 1; number = 0 }

block : Level
block = record { block = true; first = metres; second = metres }

-- the characters of an argument that has as many as its kind may have, and the element
pub most : ArgumentKind → List ℕ
most kind.FreeText = replicate 256 65
most kind.Facility = replicate 8 65
most kind.FacilityDesignation = replicate 8 65
most kind.AtisCode = replicate 1 65
most kind.NotCarried = []
most kind.None = []
most kind.Level = []
most kind.TwoLevels = []
most kind.Time = []
most kind.Code = []

pub largest : ArgumentKind → ℕ → Element
largest kind.NotCarried i = bare i
largest kind.None i = bare i
largest kind.Level i = with_levels i block no_level
largest kind.TwoLevels i = with_levels i block block
largest kind.Time i = bare i
largest kind.Code i = bare i
largest kind.FreeText i = with_characters i 256
largest kind.Facility i = with_characters i 8
largest kind.FacilityDesignation i = with_characters i 8
largest kind.AtisCode i = with_characters i 1

numbered : (k : ArgumentKind) (i : ℕ) → (largest k i).number ≡ i
unfolding largest
numbered kind.NotCarried i = refl
numbered kind.None i = refl
numbered kind.Level i = refl
numbered kind.TwoLevels i = refl
numbered kind.Time i = refl
numbered kind.Code i = refl
numbered kind.FreeText i = refl
numbered kind.Facility i = refl
numbered kind.FacilityDesignation i = refl
numbered kind.AtisCode i = refl

counted : (k : ArgumentKind) (i : ℕ) → (largest k i).characters ≡ length (most k)
unfolding largest most
counted kind.NotCarried i = refl
counted kind.None i = refl
counted kind.Level i = refl
counted kind.TwoLevels i = refl
counted kind.Time i = refl
counted kind.Code i = refl
counted kind.FreeText i = refl
counted kind.Facility i = refl
counted kind.FacilityDesignation i = refl
counted kind.AtisCode i = refl

fit : (k : ArgumentKind) (i : ℕ) → (k ≡ kind.NotCarried → ⊥) → argument_fits k (largest k i) (most k) ≡ true
unfolding largest most block metres lowest highest level_type_fits level_fits time_fits digits_fit code_fits_of characters_fit
    sized_fits facility_fits atis_fits level_unused time_unused zeros code_unused levels_unused plain argument_fits
fit kind.NotCarried i c = absurd (c refl)
fit kind.None i c = refl
fit kind.Level i c = refl
fit kind.TwoLevels i c = refl
fit kind.Time i c = refl
fit kind.Code i c = refl
fit kind.FreeText i c = refl
fit kind.Facility i c = refl
fit kind.FacilityDesignation i c = refl
fit kind.AtisCode i c = refl

length_metres : length (level_type_bits metres) ≡ 17
unfolding metres lowest highest digits_in
length_metres = length_level_type metres

length_metre_block : length (level_bits block) ≡ 35
unfolding block
length_metre_block = omega (arith, length_block block refl, length_metres)

long : (k : ArgumentKind) (i : ℕ) → length (argument_bits k (largest k i) (most k)) ≡ largest_of k
unfolding largest most argument_bits largest_of digits_in
long kind.NotCarried i = refl
long kind.None i = refl
long kind.Level i = length_metre_block
long kind.TwoLevels i = omega (arith, length-append (level_bits block) (level_bits block), length_metre_block)
long kind.Time i = length_time (bare i).time
long kind.Code i = length_digits (bare i).code
long kind.FreeText i = length_sized 1 256 (replicate 256 65)
long kind.Facility i = length_facility (replicate 8 65) (λ (z : 8 ≡ 0). omega arith) ∙ ap (λ (n : ℕ). 1 + n)
    (length_sized 4 8 (replicate 8 65))
long kind.FacilityDesignation i = length_sized 4 8 (replicate 8 65)
long kind.AtisCode i = length_characters_bits (replicate 1 65)

module _ (d : Direction) (i : ℕ) where
  pub largest_fits : i ≤ last_of d → (kind_of d i ≡ kind.NotCarried → ⊥) → element_fits d (largest (kind_of d i) i) (most (kind_of d i)) ≡ true
  unfolding element_fits largest
  largest_fits h c =
      rw (numbered (kind_of d i) i)
      (both_hold (whole_fits 0 (last_of d) i && eqb (largest (kind_of d i) i).characters (length (most (kind_of d i)))) (argument_fits (kind_of d i) (largest (kind_of d i) i) (most (kind_of d i)))
      (both_hold (whole_fits 0 (last_of d) i) (eqb (largest (kind_of d i) i).characters (length (most (kind_of d i))))
      (both_hold (leb 0 i) (leb i (last_of d)) (le-leb 0 i (omega arith)) (le-leb i (last_of d) h))
      (eq-eqb (largest (kind_of d i) i).characters (length (most (kind_of d i))) (counted (kind_of d i) i)))
      (fit (kind_of d i) i c))

  by_number : (j : ℕ) → j ≡ i → length (argument_bits (kind_of d j) (largest (kind_of d i) i) (most (kind_of d i))) ≡ largest_of (kind_of d i)
  by_number j e = rw e (long (kind_of d i) i)

  pub largest_reached : length (element_bits d (largest (kind_of d i) i) (most (kind_of d i))) ≡ index_width d + largest_of (kind_of d i)
  largest_reached = omega (
    arith,
    length_element d (largest (kind_of d i) i) (most (kind_of d i)),
    index_width_is d,
    by_number (largest (kind_of d i) i).number (numbered (kind_of d i) i),
  )
