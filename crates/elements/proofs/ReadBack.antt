-- The argument of each carried kind, in its element: what is written is read back, and what is read stands there.
-- Assumes nothing.
use mathlib.Core.Path.{◌≡◌, refl, sym, ap, ◌∙◌}
use mathlib.Core.Bool.{Bool, true, false, ◌&&◌}
use mathlib.Core.List.{List, [], ◌∷◌, ◌++◌}
use Prim.Native.Nat.{ℕ, ◌-◌, ◌*◌}
use native.Mathlib.Omega.{arith}
use native.Mathlib.Nat.{add-zero}
use lib.ListN.{length}
use lib.Dec.{eqb}
use borrow.Author.Tests.{eqb-true}
use Rattle.words.proofs.Laws.{both_left, both_right}
use Rattle.kinds.specs.declared.ArgumentKind.{ArgumentKind}
use Rattle.kinds.specs.declared.ArgumentKind.TheVariants as kind
use Rattle.elements.specs.declared.values.Element.{Element}
use Rattle.elements.specs.Arguments.{level_fits, level_bits, time_fits, time_bits, digits_fit, code_fits_of, digits_bits, code_at, characters_in, sized_fits, sized_bits, free_text_at, designation_at, facility_fits, facility_bits, facility_at, atis_fits, characters_bits, atis_at}
use Rattle.elements.specs.OneElement.{no_level, no_time, no_digits, bare, characters_of, level_argument, two_levels_argument, time_argument, code_argument, argument_at, level_unused, time_unused, code_unused, levels_unused, plain, no_text_of, argument_fits, argument_bits}
use Rattle.elements.proofs.Standing.{Stands, stands_split, stands_as}
use Rattle.elements.proofs.Steps.{never}
use Rattle.elements.proofs.Whole.{ranged}
use Rattle.elements.proofs.Levels.{level_reads}
use Rattle.elements.proofs.Times.{time_reads}
use Rattle.elements.proofs.Codes.{code_reads}
use Rattle.elements.proofs.Texts.{sized_reads, sized_text, facility_reads, facility_text, atis_reads, atis_text}
use Rattle.elements.proofs.Unused.{level_unused_is, time_unused_is, code_unused_is, four, element_is, plain_is, no_text}
use Rattle.std.specs.Prelude.{Ok}
use Rattle.fields.specs.Fields.{Reading}

-- ---- read back

-- the tests of five parts, each by itself
pub record Parts (a b c d e : Bool) : Type 0 where
  pub first : a ≡ true
  pub second : b ≡ true
  pub third : c ≡ true
  pub fourth : d ≡ true
  pub fifth : e ≡ true

pub parts : (a b c d e : Bool) → a && b && c && d && e ≡ true → Parts a b c d e
parts true true true true true h = record { first = refl; second = refl; third = refl; fourth = refl; fifth = refl }
parts true true true true false h = never (cc)
parts true true true false e h = never (cc)
parts true true false d e h = never (cc)
parts true false c d e h = never (cc)
parts false b c d e h = never (cc)

module _ (l : List ℕ) (at next : ℕ) (e : Element) (t : List ℕ) (n : e.characters ≡ length t) where
  -- an element of a kind whose argument is characters
  characters_read : (ok : Bool) (f : Reading ℕ) → plain e && ok ≡ true → f ≡ Ok (length t, next)
      → characters_of e.number f ≡ Ok (e, next)
  characters_read ok f h p =
      let q = plain_is e (both_left (plain e) ok h) in
      rw (p, ← element_is e no_level no_level no_time no_digits (length t) q.level q.other q.time q.code n)

  none_reads : Stands l at (argument_fits kind.None e t) [] next → ◌≡◌ {A = Reading Element} (Ok (bare e.number, at)) (Ok (e, next))
  unfolding argument_fits
  none_reads s =
      let q = plain_is e (both_left (plain e) (no_text_of t) s.fits) in
      let z : length t ≡ 0 = ap length (no_text t (both_right (plain e) (no_text_of t) s.fits)) in
      let p : at ≡ next = sym (s.place ∙ add-zero at) in
      rw (p, ← element_is e no_level no_level no_time no_digits 0 q.level q.other q.time q.code (n ∙ z))

  level_reads_in : Stands l at (argument_fits kind.Level e t) (level_bits e.level) next → level_argument e.number l at ≡ Ok (e, next)
  unfolding argument_fits level_argument
  level_reads_in s =
      let q = parts (level_fits e.level) (level_unused e.other) (time_unused e.time) (code_unused e.code) (no_text_of t) s.fits in
      let z : length t ≡ 0 = ap length (no_text t q.fifth) in
      let m = element_is e e.level no_level no_time no_digits 0 refl (level_unused_is e.other q.second)
      (time_unused_is e.time q.third) (code_unused_is e.code q.fourth) (n ∙ z) in
      rw (level_reads l at next e.level (stands_as l at next _ _ _ q.first s), ← m)

  two_levels_read : Stands l at (argument_fits kind.TwoLevels e t) (level_bits e.level ++ level_bits e.other) next
      → two_levels_argument e.number l at ≡ Ok (e, next)
  unfolding argument_fits two_levels_argument
  two_levels_read s =
      let q = parts (level_fits e.level) (level_fits e.other) (time_unused e.time) (code_unused e.code) (no_text_of t) s.fits in
      let z : length t ≡ 0 = ap length (no_text t q.fifth) in
      let m = element_is e e.level e.other no_time no_digits 0 refl refl (time_unused_is e.time q.third)
      (code_unused_is e.code q.fourth) (n ∙ z) in
      let p = stands_split l at next true true (level_bits e.level) (level_bits e.other) (stands_as l at next _ _ _ refl s) in
      rw (
        level_reads l at _ e.level (stands_as l at _ _ _ _ q.first p.0),
        level_reads l _ next e.other
            (stands_as l _ next _ _ _ q.second p.1),
        ← m,
      )

  time_reads_in : Stands l at (argument_fits kind.Time e t) (time_bits e.time) next → time_argument e.number l at ≡ Ok (e, next)
  unfolding argument_fits levels_unused time_argument
  time_reads_in s =
      let q = parts (level_unused e.level) (level_unused e.other) (time_fits e.time) (code_unused e.code) (no_text_of t) s.fits in
      let z : length t ≡ 0 = ap length (no_text t q.fifth) in
      let m = element_is e no_level no_level e.time no_digits 0 (level_unused_is e.level q.first)
      (level_unused_is e.other q.second) refl (code_unused_is e.code q.fourth) (n ∙ z) in
      rw (time_reads l at next e.time (stands_as l at next _ _ _ q.third s), ← m)

  code_found : (c : List ℕ) → code_fits_of c ≡ true → (ok : Bool) → Stands l at ok (digits_bits c) next → code_at l at ≡ Ok (c, next)
  unfolding code_fits_of
  code_found c f ok s =
      four c (eqb-true (length c) 4 (both_left (eqb (length c) 4) (digits_fit c) f))
      (λ (w x y z : ℕ) (p : c ≡ w ∷ x ∷ y ∷ z ∷ []).
      rw p (code_reads l at next w x y z (rw p at (stands_as l at next _ _ _ (both_right (eqb (length c) 4) (digits_fit c) f) s))))

  code_reads_in : Stands l at (argument_fits kind.Code e t) (digits_bits e.code) next → code_argument e.number l at ≡ Ok (e, next)
  unfolding argument_fits levels_unused code_argument
  code_reads_in s =
      let q = parts (level_unused e.level) (level_unused e.other) (time_unused e.time) (code_fits_of e.code) (no_text_of t) s.fits in
      let z : length t ≡ 0 = ap length (no_text t q.fifth) in
      let m = element_is e no_level no_level no_time e.code 0 (level_unused_is e.level q.first)
      (level_unused_is e.other q.second) (time_unused_is e.time q.third) refl (n ∙ z) in
      rw (code_found e.code q.fourth _ s, ← m)

  not_carried : {R : Type 0} → argument_fits kind.NotCarried e t ≡ true → R
  unfolding argument_fits
  not_carried h = never (cc)

  free_text_reads : Stands l at (argument_fits kind.FreeText e t) (sized_bits 1 256 t) next
      → characters_of e.number (free_text_at l at) ≡ Ok (e, next)
  unfolding argument_fits
  free_text_reads s = characters_read (sized_fits 1 256 t) (free_text_at l at) s.fits (sized_reads l at 1 256 next
      (ranged 1 256 tt tt) (omega arith) t
      (stands_as l at next _ _ _ (both_right (plain e) (sized_fits 1 256 t) s.fits) s))

  designation_reads : Stands l at (argument_fits kind.FacilityDesignation e t) (sized_bits 4 8 t) next
      → characters_of e.number (designation_at l at) ≡ Ok (e, next)
  unfolding argument_fits
  designation_reads s = characters_read (sized_fits 4 8 t) (designation_at l at) s.fits (sized_reads l at 4 8 next
      (ranged 4 8 tt tt) (omega arith) t
      (stands_as l at next _ _ _ (both_right (plain e) (sized_fits 4 8 t) s.fits) s))

  facility_reads_in : Stands l at (argument_fits kind.Facility e t) (facility_bits t) next
      → characters_of e.number (facility_at l at) ≡ Ok (e, next)
  unfolding argument_fits
  facility_reads_in s = characters_read (facility_fits t) (facility_at l at) s.fits
      (facility_reads l at next t (stands_as l at next _ _ _ (both_right (plain e) (facility_fits t) s.fits) s))

  atis_reads_in : Stands l at (argument_fits kind.AtisCode e t) (characters_bits t) next
      → characters_of e.number (atis_at l at) ≡ Ok (e, next)
  unfolding argument_fits
  atis_reads_in s = characters_read (atis_fits t) (atis_at l at) s.fits
      (atis_reads l at next t (stands_as l at next _ _ _ (both_right (plain e) (atis_fits t) s.fits) s))

  pub argument_reads : (index : ℕ) (k : ArgumentKind) → Stands l at (argument_fits k e t) (argument_bits k e t) next
      → argument_at k e.number index l at ≡ Ok (e, next)
  unfolding argument_bits argument_at
  argument_reads index kind.NotCarried s = not_carried s.fits
  argument_reads index kind.None s = none_reads s
  argument_reads index kind.Level s = level_reads_in s
  argument_reads index kind.TwoLevels s = two_levels_read s
  argument_reads index kind.Time s = time_reads_in s
  argument_reads index kind.Code s = code_reads_in s
  argument_reads index kind.FreeText s = free_text_reads s
  argument_reads index kind.Facility s = facility_reads_in s
  argument_reads index kind.FacilityDesignation s = designation_reads s
  argument_reads index kind.AtisCode s = atis_reads_in s

  -- ---- the characters

  without : no_text_of t ≡ true → characters_in l (next - 7 * length t) (length t) ≡ t
  unfolding characters_in
  without h = rw (no_text t h)

  pub argument_text : (k : ArgumentKind) → Stands l at (argument_fits k e t) (argument_bits k e t) next
      → characters_in l (next - 7 * length t) (length t) ≡ t
  unfolding argument_bits argument_fits levels_unused
  argument_text kind.NotCarried s = not_carried s.fits
  argument_text kind.None s = without (both_right (plain e) (no_text_of t) s.fits)
  argument_text kind.Level s = without (parts (level_fits e.level) (level_unused e.other) (time_unused e.time)
      (code_unused e.code) (no_text_of t) s.fits).fifth
  argument_text kind.TwoLevels s = without (parts (level_fits e.level) (level_fits e.other) (time_unused e.time)
      (code_unused e.code) (no_text_of t) s.fits).fifth
  argument_text kind.Time s = without (parts (level_unused e.level) (level_unused e.other) (time_fits e.time)
      (code_unused e.code) (no_text_of t) s.fits).fifth
  argument_text kind.Code s = without (parts (level_unused e.level) (level_unused e.other) (time_unused e.time)
      (code_fits_of e.code) (no_text_of t) s.fits).fifth
  argument_text kind.FreeText s = sized_text l at 1 256 next t
      (stands_as l at next _ _ _ (both_right (plain e) (sized_fits 1 256 t) s.fits) s)
  argument_text kind.Facility s = facility_text l at next t (stands_as l at next _ _ _ (both_right (plain e) (facility_fits t) s.fits) s)
  argument_text kind.FacilityDesignation s = sized_text l at 4 8 next t
      (stands_as l at next _ _ _ (both_right (plain e) (sized_fits 4 8 t) s.fits) s)
  argument_text kind.AtisCode s = atis_text l at next t (stands_as l at next _ _ _ (both_right (plain e) (atis_fits t) s.fits) s)
