-- The argument of each carried kind, in its element: what was read stands there, with the characters that stand at its end.
-- Assumes nothing.
use mathlib.Core.Path.{◌≡◌, refl, ap, ◌∙◌}
use mathlib.Core.Bool.{Bool, true, ◌&&◌}
use mathlib.Core.List.{List}
use Prim.Native.Nat.{ℕ, ◌-◌, ◌*◌}
use Rattle.bits.proofs.Numbers.{Bits}
use Rattle.kinds.specs.declared.ArgumentKind.{ArgumentKind}
use Rattle.kinds.specs.declared.ArgumentKind.TheVariants as kind
use Rattle.elements.specs.declared.values.Level.{Level}
use Rattle.elements.specs.declared.values.Time.{Time}
use Rattle.elements.specs.declared.values.Element.{Element}
use Rattle.elements.specs.Arguments.{level_fits, level_bits, level_at, time_fits, time_bits, time_at, code_fits_of, digits_bits, code_at, characters_in, free_text_at, designation_at, facility_at, atis_at}
use Rattle.elements.specs.OneElement.{no_level, bare, with_levels, with_time, with_code, with_characters, characters_of, level_argument, two_levels_argument, time_argument, code_argument, argument_at, level_unused, time_unused, zeros, code_unused, levels_unused, plain, argument_fits, argument_bits, text_of}
use Rattle.elements.proofs.Standing.{Stands, stands_join, stands_as, stands_nothing}
use Rattle.elements.proofs.Steps.{never, then_is}
use Rattle.elements.proofs.Whole.{ranged}
use Rattle.elements.proofs.Levels.{level_stands}
use Rattle.elements.proofs.Times.{time_stands}
use Rattle.elements.proofs.Codes.{code_stands}
use Rattle.elements.proofs.Texts.{sized_stands, facility_stands, atis_stands}
use Rattle.std.specs.Prelude.{Ok}
use Rattle.words.proofs.Laws.{ok_place, ok_value}
use Rattle.fields.specs.Fields.{Reading, then}

pub record Argued (l : List ℕ) (at i : ℕ) (k : ArgumentKind) (e : Element) (next : ℕ) : Type 0 where
  pub number : e.number ≡ i
  pub stands : Stands l at (argument_fits k e (text_of l e next)) (argument_bits k e (text_of l e next)) next

module _ (l : List ℕ) (at i next : ℕ) (b : Bits l) where
  none_argued : Argued l at i kind.None (bare i) at
  unfolding argument_fits argument_bits plain levels_unused level_unused time_unused code_unused zeros characters_in
  none_argued = record { number = refl; stands = stands_nothing l at _ refl }

  level_argued : (x : Level) → Stands l at (level_fits x) (level_bits x) next → Argued l at i kind.Level (with_levels i x no_level) next
  unfolding argument_fits argument_bits level_unused time_unused code_unused zeros characters_in
  level_argued x s = record { number = refl; stands = stands_as l at next _ _ _ (rw s.fits) s }

  levels_argued : (x y : Level) (m : ℕ) → Stands l at (level_fits x) (level_bits x) m
      → Stands l m (level_fits y) (level_bits y) next → Argued l at i kind.TwoLevels (with_levels i x y) next
  unfolding argument_fits argument_bits time_unused code_unused zeros characters_in
  levels_argued x y m s t = record { number = refl; stands = stands_as l at next _ _ _ (rw (s.fits, t.fits)) (stands_join l at m next _ _ _ _ s t) }

  time_argued : (x : Time) → Stands l at (time_fits x) (time_bits x) next → Argued l at i kind.Time (with_time i x) next
  unfolding argument_fits argument_bits levels_unused level_unused code_unused zeros characters_in
  time_argued x s = record { number = refl; stands = stands_as l at next _ _ _ (rw s.fits) s }

  code_argued : (x : List ℕ) → Stands l at (code_fits_of x) (digits_bits x) next → Argued l at i kind.Code (with_code i x) next
  unfolding argument_fits argument_bits levels_unused level_unused time_unused characters_in
  code_argued x s = record { number = refl; stands = stands_as l at next _ _ _ (rw s.fits) s }

  -- the kinds whose argument is characters
  text_argued : (k : ArgumentKind) (n : ℕ) (ok : Bool) (bs : List ℕ)
      → argument_fits k (with_characters i n) (characters_in l (next - 7 * n) n) ≡ true && ok
      → argument_bits k (with_characters i n) (characters_in l (next - 7 * n) n) ≡ bs → Stands l at ok bs next
      → Argued l at i k (with_characters i n) next
  text_argued k n ok bs p q s = record { number = refl; stands = stands_as l at next _ _ _ (p ∙ s.fits) (rw (← q) at s) }

  module _ (e : Element) where
    Goal : ArgumentKind → Type 0
    Goal k = Argued l at i k e next

    moved : (k : ArgumentKind) (x : Element) → x ≡ e → Argued l at i k x next → Goal k
    unfolding Goal
    moved k x h a = rw (← h) a

    characters_are : (k : ArgumentKind) (f : Reading ℕ)
        → ((n m : ℕ) → f ≡ Ok (n, m) → m ≡ next → Argued l at i k (with_characters i n) next)
        → characters_of i f ≡ Ok (e, next) → Goal k
    characters_are k f go h =
        then_is f (λ (n m : ℕ). Ok (with_characters i n, m)) (e, next)
        (λ (n m : ℕ) (p : f ≡ Ok (n, m)) (q : Ok (with_characters i n, m) ≡ Ok (e, next)).
        moved k (with_characters i n) (ok_value q) (go n m p (ok_place q)))
        h

    level_found : level_argument i l at ≡ Ok (e, next) → Goal kind.Level
    unfolding level_argument
    level_found h =
        then_is (level_at l at) (λ (x : Level) (n : ℕ). Ok (with_levels i x no_level, n)) (e, next)
        (λ (x : Level) (n : ℕ) (p : level_at l at ≡ Ok (x, n)) (q : Ok (with_levels i x no_level, n) ≡ Ok (e, next)).
        moved kind.Level (with_levels i x no_level) (ok_value q) (level_argued x (level_stands l at next x b (let j : n ≡ next = ok_place q in rw j at p))))
        h

    two_levels_found : two_levels_argument i l at ≡ Ok (e, next) → Goal kind.TwoLevels
    unfolding two_levels_argument
    two_levels_found h =
        then_is (level_at l at) (λ (x : Level) (m : ℕ). then (level_at l m) (λ (y : Level) (n : ℕ). Ok (with_levels i x y, n))) (e, next)
        (λ (x : Level) (m : ℕ) (p : level_at l at ≡ Ok (x, m)) (g : then (level_at l m) (λ (y : Level) (n : ℕ). Ok (with_levels i x y, n)) ≡ Ok (e, next)).
        then_is (level_at l m) (λ (y : Level) (n : ℕ). Ok (with_levels i x y, n)) (e, next)
        (λ (y : Level) (n : ℕ) (r : level_at l m ≡ Ok (y, n)) (q : Ok (with_levels i x y, n) ≡ Ok (e, next)).
        moved kind.TwoLevels (with_levels i x y) (ok_value q)
        (levels_argued x y m (level_stands l at m x b p) (level_stands l m next y b (let j : n ≡ next = ok_place q in rw j at r))))
        g)
        h

    time_found : time_argument i l at ≡ Ok (e, next) → Goal kind.Time
    unfolding time_argument
    time_found h =
        then_is (time_at l at) (λ (x : Time) (n : ℕ). Ok (with_time i x, n)) (e, next)
        (λ (x : Time) (n : ℕ) (p : time_at l at ≡ Ok (x, n)) (q : Ok (with_time i x, n) ≡ Ok (e, next)).
        moved kind.Time (with_time i x) (ok_value q) (time_argued x (time_stands l at next x b (let j : n ≡ next = ok_place q in rw j at p))))
        h

    code_found : code_argument i l at ≡ Ok (e, next) → Goal kind.Code
    unfolding code_argument
    code_found h =
        then_is (code_at l at) (λ (x : List ℕ) (n : ℕ). Ok (with_code i x, n)) (e, next)
        (λ (x : List ℕ) (n : ℕ) (p : code_at l at ≡ Ok (x, n)) (q : Ok (with_code i x, n) ≡ Ok (e, next)).
        moved kind.Code (with_code i x) (ok_value q) (code_argued x (code_stands l at next x b (let j : n ≡ next = ok_place q in rw j at p))))
        h

    free_text_found : characters_of i (free_text_at l at) ≡ Ok (e, next) → Goal kind.FreeText
    unfolding argument_fits argument_bits plain levels_unused level_unused time_unused code_unused zeros
    free_text_found h =
        characters_are kind.FreeText (free_text_at l at)
        (λ (n m : ℕ) (p : free_text_at l at ≡ Ok (n, m)) (j : m ≡ next).
        text_argued kind.FreeText n _ _ refl refl (sized_stands l at 1 256 next (ranged 1 256 tt tt) n b (rw j at p)))
        h

    facility_found : characters_of i (facility_at l at) ≡ Ok (e, next) → Goal kind.Facility
    unfolding argument_fits argument_bits plain levels_unused level_unused time_unused code_unused zeros
    facility_found h =
        characters_are kind.Facility (facility_at l at)
        (λ (n m : ℕ) (p : facility_at l at ≡ Ok (n, m)) (j : m ≡ next).
        text_argued kind.Facility n _ _ refl refl (facility_stands l at next n b (rw j at p)))
        h

    designation_found : characters_of i (designation_at l at) ≡ Ok (e, next) → Goal kind.FacilityDesignation
    unfolding argument_fits argument_bits plain levels_unused level_unused time_unused code_unused zeros
    designation_found h =
        characters_are kind.FacilityDesignation (designation_at l at)
        (λ (n m : ℕ) (p : designation_at l at ≡ Ok (n, m)) (j : m ≡ next).
        text_argued kind.FacilityDesignation n _ _ refl refl (sized_stands l at 4 8 next (ranged 4 8 tt tt) n b (rw j at p)))
        h

    atis_found : characters_of i (atis_at l at) ≡ Ok (e, next) → Goal kind.AtisCode
    unfolding argument_fits argument_bits plain levels_unused level_unused time_unused code_unused zeros
    atis_found h =
        characters_are kind.AtisCode (atis_at l at)
        (λ (n m : ℕ) (p : atis_at l at ≡ Ok (n, m)) (j : m ≡ next).
        text_argued kind.AtisCode n _ _ refl refl (atis_stands l at n next b (rw j at p)))
        h

    none_found : ◌≡◌ {A = Reading Element} (Ok (bare i, at)) (Ok (e, next)) → Goal kind.None
    unfolding Goal
    none_found h =
        let w : bare i ≡ e = ok_value h in
        let j : at ≡ next = ok_place h in
        rw (← w, ← j) none_argued

    pub argument_stands : (index : ℕ) (k : ArgumentKind) → argument_at k i index l at ≡ Ok (e, next) → Argued l at i k e next
    unfolding argument_at Goal
    argument_stands index kind.NotCarried h = never (cc)
    argument_stands index kind.None h = none_found h
    argument_stands index kind.Level h = level_found h
    argument_stands index kind.TwoLevels h = two_levels_found h
    argument_stands index kind.Time h = time_found h
    argument_stands index kind.Code h = code_found h
    argument_stands index kind.FreeText h = free_text_found h
    argument_stands index kind.Facility h = facility_found h
    argument_stands index kind.FacilityDesignation h = designation_found h
    argument_stands index kind.AtisCode h = atis_found h
