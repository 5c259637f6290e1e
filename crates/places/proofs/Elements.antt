-- Where an element is refused: the claims, reader by reader.
-- Assumes nothing.
use mathlib.Core.Path.{◌≡◌, refl, ap, sym, subst, fun_ext, ◌∙◌}
use mathlib.Core.Bool.{Bool, true, false, cond}
use mathlib.Core.List.{List, [], ◌∷◌}
use Prim.Native.Nat.{ℕ, zero, suc, ◌+◌, ◌-◌, ◌*◌, ◌≤◌, ◌<◌}
use native.Mathlib.Omega.{arith}
use lib.Dec.{eqb}
use lib.ListN.{length, get_or, take}
use Rattle.words.proofs.Laws.{ok_value}
use Rattle.fields.specs.Fields.{refusal, refused_at, onto, then, bit_field, extension_bit, digits_in, width_of, whole_number, extensible_index, contents_at, sized_at}
use Rattle.fields.specs.declared.Fault.TheVariants.{Short, Tail, NotCarried}
use Rattle.fields.specs.declared.Refusal.{Refusal}
use Rattle.kinds.specs.declared.Direction.{Direction}
use Rattle.kinds.specs.declared.Direction.TheVariants.{Downlink, Uplink}
use Rattle.kinds.specs.declared.ArgumentKind.{ArgumentKind}
use Rattle.kinds.specs.declared.ArgumentKind.TheVariants as kind
use Rattle.elements.specs.declared.values.LevelType.{LevelType}
use Rattle.elements.specs.declared.values.Level.{Level}
use Rattle.elements.specs.declared.values.Time.{Time}
use Rattle.elements.specs.declared.values.Element.{Element}
use Rattle.kinds.specs.Elements.{kind_of}
use Rattle.elements.specs.Arguments.{lowest, highest, number_in_unit, level_type_at, no_type, second_of, level_at, minutes_of, time_at, digit, code_at, free_text_at, designation_at, facility_at, atis_at}
use Rattle.elements.specs.OneElement.{bare, no_level, with_levels, with_time, with_code, with_characters, characters_of, level_argument, two_levels_argument, time_argument, code_argument, argument_at, last_of, element_at}
use Rattle.places.specs.Claims.{Seen, went, refused, Sound, seen_field}
use Rattle.places.proofs.Readers.{never, after_field, clash, one_place, one_refusal, sound_value, sound_cond, then_sound, judged, extension_sound, extension_place, whole_sound, whole_place, whole_cut, run_sound, sized_sound}
use Rattle.std.specs.Prelude.{Err, Ok, Result}
use Rattle.fields.specs.Fields.{Reading}

-- after a reading, whatever the answer
pub onto_sound : {X A : Type 0} (seen : A → Seen) (up : Refusal → A) → ((r : Refusal) → seen (up r) ≡ refused r) → (f : List ℕ → Reading X) (k : X → ℕ → List ℕ → A) (l : List ℕ) (at : ℕ) → Sound seen_field f l at
    → ((v : X) (n : ℕ) → f l ≡ Ok (v, n) → at ≤ n → n ≤ length l → Sound seen (k v n) l n) → Sound seen
    (λ (m : List ℕ). onto up (f m) (λ (v : X) (n : ℕ). k v n m)) l at
onto_sound {X} {A} seen up said f k l at s on = after_field seen up (onto up) said (λ (v : X) (n : ℕ) (c : X → ℕ → A). refl) (λ (r : Refusal) (c : X → ℕ → A). refl) f k l at s on

-- ---- a level

unit_ranged : (unit : ℕ) → lowest unit ≤ highest unit
unfolding lowest highest
unit_ranged zero = omega arith
unit_ranged (suc zero) = omega arith
unit_ranged (suc (suc zero)) = omega arith
unit_ranged (suc (suc (suc zero))) = omega arith
unit_ranged (suc (suc (suc (suc n)))) = omega arith

pub type_sound : (l : List ℕ) (at : ℕ) → at ≤ length l → Sound seen_field (λ (m : List ℕ). level_type_at m at) l at
unfolding level_type_at
type_sound l at h =
    then_sound {B = LevelType} (λ (m : List ℕ). whole_number m at 0 3)
    (λ (unit n : ℕ) (m : List ℕ). number_in_unit m unit n) l at (whole_sound l at 0 3 (omega arith) h)
    (λ (unit n : ℕ) (e : whole_number l at 0 3 ≡ Ok (unit, n)) (a : at ≤ n) (b : n ≤ length l).
    then_sound {B = LevelType} (λ (m : List ℕ). whole_number m n (lowest unit) (highest unit)) (λ (v last : ℕ) (m : List ℕ). Ok (record { unit = unit; number = v }, last)) l n (whole_sound l n (lowest unit) (highest unit) (unit_ranged unit) b)
    (λ (v last : ℕ) (f : whole_number l n (lowest unit) (highest unit) ≡ Ok (v, last)) (c : n ≤ last) (d : last ≤ length l). sound_value (seen_field {A = LevelType}) (Ok (record { unit = unit; number = v }, last)) l last d refl))

pub level_sound : (l : List ℕ) (at : ℕ) → at ≤ length l → Sound seen_field (λ (m : List ℕ). level_at m at) l at
unfolding level_at
level_sound l at h =
    then_sound {B = Level} (λ (m : List ℕ). whole_number m at 0 1)
    (λ (block n : ℕ) (m : List ℕ). then (level_type_at m n) (second_of m block)) l at
    (whole_sound l at 0 1 (omega arith) h)
    (λ (block n : ℕ) (e : whole_number l at 0 1 ≡ Ok (block, n)) (a : at ≤ n) (b : n ≤ length l).
    then_sound {B = Level} (λ (m : List ℕ). level_type_at m n) (λ (x : LevelType) (p : ℕ) (m : List ℕ). second_of m block x p) l n (type_sound l n b)
    (λ (x : LevelType) (p : ℕ) (f : level_type_at l n ≡ Ok (x, p)) (c : n ≤ p) (d : p ≤ length l).
    sound_cond (seen_field {A = Level}) (eqb block 0) (λ (m : List ℕ). Ok (record { block = false; first = x; second = no_type }, p))
    (λ (m : List ℕ). then (level_type_at m p) (λ (y : LevelType) (last : ℕ). Ok (record { block = true; first = x; second = y }, last))) l p
    (λ (q : eqb block 0 ≡ true). sound_value (seen_field {A = Level}) (Ok (record { block = false; first = x; second = no_type }, p)) l p d refl)
    (λ (q : eqb block 0 ≡ false).
    then_sound {B = Level} (λ (m : List ℕ). level_type_at m p) (λ (y : LevelType) (last : ℕ) (m : List ℕ). Ok (record { block = true; first = x; second = y }, last)) l p (type_sound l p d)
    (λ (y : LevelType) (last : ℕ) (g : level_type_at l p ≡ Ok (y, last)) (u : p ≤ last) (w : last ≤ length l). sound_value (seen_field {A = Level}) (Ok (record { block = true; first = x; second = y }, last)) l last w refl))))

-- ---- time, code, characters

pub time_sound : (l : List ℕ) (at : ℕ) → at ≤ length l → Sound seen_field (λ (m : List ℕ). time_at m at) l at
unfolding time_at
time_sound l at h =
    then_sound {B = Time} (λ (m : List ℕ). whole_number m at 0 23)
    (λ (x n : ℕ) (m : List ℕ). minutes_of m x n) l at (whole_sound l at 0 23 (omega arith) h)
    (λ (x n : ℕ) (e : whole_number l at 0 23 ≡ Ok (x, n)) (a : at ≤ n) (b : n ≤ length l).
    then_sound {B = Time} (λ (m : List ℕ). whole_number m n 0 59) (λ (y last : ℕ) (m : List ℕ). Ok (record { hours = x; minutes = y }, last)) l n (whole_sound l n 0 59 (omega arith) b)
    (λ (y last : ℕ) (f : whole_number l n 0 59 ≡ Ok (y, last)) (c : n ≤ last) (d : last ≤ length l). sound_value (seen_field {A = Time}) (Ok (record { hours = x; minutes = y }, last)) l last d refl))

digit_sound : (k : ℕ → ℕ → List ℕ → Reading (List ℕ)) (l : List ℕ) (at : ℕ) → at ≤ length l
    → ((v n : ℕ) → n ≤ length l → Sound seen_field (k v n) l n)
    → Sound seen_field (λ (m : List ℕ). digit m at (λ (v n : ℕ). k v n m)) l at
digit_sound k l at h on =
    then_sound {B = List ℕ} (λ (m : List ℕ). whole_number m at 0 7) k l at (whole_sound l at 0 7 (omega arith) h)
    (λ (v n : ℕ) (e : whole_number l at 0 7 ≡ Ok (v, n)) (a : at ≤ n) (b : n ≤ length l). on v n b)

pub code_sound : (l : List ℕ) (at : ℕ) → at ≤ length l → Sound seen_field (λ (m : List ℕ). code_at m at) l at
unfolding code_at
code_sound l at h =
    digit_sound (λ (a p : ℕ) (m : List ℕ). digit m p (λ (b q : ℕ). digit m q (λ (c r : ℕ). digit m r (λ (d next : ℕ). Ok (a ∷ b ∷ c ∷ d ∷ [], next))))) l at h (λ (a p : ℕ) (u : p ≤ length l).
    digit_sound (λ (b q : ℕ) (m : List ℕ). digit m q (λ (c r : ℕ). digit m r (λ (d next : ℕ). Ok (a ∷ b ∷ c ∷ d ∷ [], next)))) l p u (λ (b q : ℕ) (v : q ≤ length l).
    digit_sound (λ (c r : ℕ) (m : List ℕ). digit m r (λ (d next : ℕ). Ok (a ∷ b ∷ c ∷ d ∷ [], next))) l q v (λ (c r : ℕ) (w : r ≤ length l).
    digit_sound (λ (d next : ℕ) (m : List ℕ). Ok (a ∷ b ∷ c ∷ d ∷ [], next)) l r w
    (λ (d next : ℕ) (x : next ≤ length l). sound_value (seen_field {A = List ℕ}) (Ok (a ∷ b ∷ c ∷ d ∷ [], next)) l next x refl))
    ))

pub facility_sound : (l : List ℕ) (at : ℕ) → at ≤ length l → Sound seen_field (λ (m : List ℕ). facility_at m at) l at
unfolding facility_at
facility_sound l at h =
    then_sound {B = ℕ} (λ (m : List ℕ). whole_number m at 0 1)
    (λ (c n : ℕ) (m : List ℕ). cond (eqb c 0) (Ok (0, n)) (designation_at m n)) l at
    (whole_sound l at 0 1 (omega arith) h)
    (λ (c n : ℕ) (e : whole_number l at 0 1 ≡ Ok (c, n)) (a : at ≤ n) (b : n ≤ length l).
    sound_cond (seen_field {A = ℕ}) (eqb c 0) (λ (m : List ℕ). Ok (0, n)) (λ (m : List ℕ). designation_at m n) l n
    (λ (q : eqb c 0 ≡ true). sound_value (seen_field {A = ℕ}) (Ok (0, n)) l n b refl) (λ (q : eqb c 0 ≡ false). sized_sound l n 7 4 8 (omega arith) b))

characters_sound : (i : ℕ) (f : List ℕ → Reading ℕ) (l : List ℕ) (at : ℕ) → Sound seen_field f l at
    → Sound seen_field (λ (m : List ℕ). characters_of i (f m)) l at
characters_sound i f l at s =
    then_sound {B = Element} f (λ (n next : ℕ) (m : List ℕ). Ok (with_characters i n, next)) l at s
    (λ (n next : ℕ) (e : f l ≡ Ok (n, next)) (a : at ≤ next) (b : next ≤ length l). sound_value
    (seen_field {A = Element}) (Ok (with_characters i n, next)) l next b refl)

-- ---- an argument

level_argument_sound : (i : ℕ) (l : List ℕ) (at : ℕ) → at ≤ length l → Sound seen_field (λ (m : List ℕ). level_argument i m at) l at
unfolding level_argument
level_argument_sound i l at h =
    then_sound {B = Element} (λ (m : List ℕ). level_at m at)
    (λ (x : Level) (n : ℕ) (m : List ℕ). Ok (with_levels i x no_level, n)) l at (level_sound l at h)
    (λ (x : Level) (n : ℕ) (e : level_at l at ≡ Ok (x, n)) (a : at ≤ n) (b : n ≤ length l). sound_value (seen_field {A = Element})
    (Ok (with_levels i x no_level, n)) l n b refl)

two_levels_sound : (i : ℕ) (l : List ℕ) (at : ℕ) → at ≤ length l → Sound seen_field (λ (m : List ℕ). two_levels_argument i m at) l at
unfolding two_levels_argument
two_levels_sound i l at h =
    then_sound {B = Element} (λ (m : List ℕ). level_at m at) (λ (x : Level) (p : ℕ) (m : List ℕ). then (level_at m p)
    (λ (y : Level) (n : ℕ). Ok (with_levels i x y, n))) l at (level_sound l at h)
    (λ (x : Level) (p : ℕ) (e : level_at l at ≡ Ok (x, p)) (a : at ≤ p) (b : p ≤ length l).
    then_sound {B = Element} (λ (m : List ℕ). level_at m p) (λ (y : Level) (n : ℕ) (m : List ℕ). Ok (with_levels i x y, n)) l p (level_sound l p b)
    (λ (y : Level) (n : ℕ) (f : level_at l p ≡ Ok (y, n)) (c : p ≤ n) (d : n ≤ length l). sound_value (seen_field {A = Element})
    (Ok (with_levels i x y, n)) l n d refl))

time_argument_sound : (i : ℕ) (l : List ℕ) (at : ℕ) → at ≤ length l → Sound seen_field (λ (m : List ℕ). time_argument i m at) l at
unfolding time_argument
time_argument_sound i l at h =
    then_sound {B = Element} (λ (m : List ℕ). time_at m at) (λ (x : Time) (n : ℕ) (m : List ℕ). Ok (with_time i x, n)) l at (time_sound l at h)
    (λ (x : Time) (n : ℕ) (e : time_at l at ≡ Ok (x, n)) (a : at ≤ n) (b : n ≤ length l). sound_value
    (seen_field {A = Element}) (Ok (with_time i x, n)) l n b refl)

code_argument_sound : (i : ℕ) (l : List ℕ) (at : ℕ) → at ≤ length l → Sound seen_field (λ (m : List ℕ). code_argument i m at) l at
unfolding code_argument
code_argument_sound i l at h =
    then_sound {B = Element} (λ (m : List ℕ). code_at m at) (λ (x : List ℕ) (n : ℕ) (m : List ℕ). Ok (with_code i x, n)) l at (code_sound l at h)
    (λ (x : List ℕ) (n : ℕ) (e : code_at l at ≡ Ok (x, n)) (a : at ≤ n) (b : n ≤ length l). sound_value
    (seen_field {A = Element}) (Ok (with_code i x, n)) l n b refl)

-- of a kind that is carried
carried : ArgumentKind → Bool
carried kind.NotCarried = false
carried kind.None = true
carried kind.Level = true
carried kind.TwoLevels = true
carried kind.Time = true
carried kind.Code = true
carried kind.FreeText = true
carried kind.Facility = true
carried kind.FacilityDesignation = true
carried kind.AtisCode = true

argument_sound : (k : ArgumentKind) (i index : ℕ) (l : List ℕ) (at : ℕ) → carried k ≡ true → at ≤ length l
    → Sound seen_field (λ (m : List ℕ). argument_at k i index m at) l at
unfolding argument_at carried
argument_sound kind.NotCarried i index l at c h = never (cc)
argument_sound kind.None i index l at c h = sound_value (seen_field {A = Element}) (Ok (bare i, at)) l at h refl
argument_sound kind.Level i index l at c h = level_argument_sound i l at h
argument_sound kind.TwoLevels i index l at c h = two_levels_sound i l at h
argument_sound kind.Time i index l at c h = time_argument_sound i l at h
argument_sound kind.Code i index l at c h = code_argument_sound i l at h
argument_sound kind.FreeText i index l at c h = characters_sound i (λ (m : List ℕ). free_text_at m at) l at
    (sized_sound l at 7 1 256 (omega arith) h)
argument_sound kind.Facility i index l at c h = characters_sound i (λ (m : List ℕ). facility_at m at) l at (facility_sound l at h)
argument_sound kind.FacilityDesignation i index l at c h = characters_sound i (λ (m : List ℕ). designation_at m at) l at
    (sized_sound l at 7 4 8 (omega arith) h)
argument_sound kind.AtisCode i index l at c h = characters_sound i (λ (m : List ℕ). atis_at m at) l at (run_sound l at (7 * 1) 1 h)

-- ---- an element: its index is judged by whether its argument is carried

module _ (d : Direction) where
  judges : ℕ → ℕ → ℕ → Reading ℕ
  judges p i n = cond (carried (kind_of d i)) (Ok (i, n)) (refused_at p NotCarried)

  indexed : List ℕ → ℕ → Reading ℕ
  indexed l at = then (extension_bit l at) (λ (b p : ℕ). then (whole_number l p 0 (last_of d)) (judges p))

  index_wide : 0 < width_of (last_of d - 0)
  unfolding last_of digits_in
  index_wide = wide d
    where
      wide : (d : Direction) → 0 < width_of (last_of d - 0)
      wide Downlink = omega arith
      wide Uplink = omega arith

  indexed_sound : (l : List ℕ) (at : ℕ) → at ≤ length l → Sound seen_field (λ (m : List ℕ). indexed m at) l at
  unfolding indexed judges
  indexed_sound l at h =
      then_sound {B = ℕ} (λ (m : List ℕ). extension_bit m at)
      (λ (b p : ℕ) (m : List ℕ). then (whole_number m p 0 (last_of d)) (judges p)) l at (extension_sound l at h)
      (λ (b p : ℕ) (e : extension_bit l at ≡ Ok (b, p)) (a : at ≤ p) (w : p ≤ length l).
      judged (λ (m : List ℕ). whole_number m p 0 (last_of d)) (judges p) (λ (i : ℕ). carried (kind_of d i))
      (λ (i : ℕ). i) NotCarried l p w (whole_sound l p 0 (last_of d) (omega arith) w)
      (λ (v n : ℕ) (q : carried (kind_of d v) ≡ true). ap (λ (t : Bool). cond {A = Reading ℕ} t (Ok (v, n)) (refused_at p NotCarried)) q)
      (λ (v n : ℕ) (q : carried (kind_of d v) ≡ false). ap (λ (t : Bool). cond {A = Reading ℕ} t (Ok (v, n)) (refused_at p NotCarried)) q)
      (λ (t : NotCarried ≡ Short). never (cc))
      (λ (v n : ℕ) (f : whole_number l p 0 (last_of d) ≡ Ok (v, n)) (q : carried (kind_of d v) ≡ false). let i =
      whole_place l p 0 (last_of d) v n f in let j = index_wide in omega arith)
      (whole_cut l p 0 (last_of d)))

  not_carried_kind : (k : ArgumentKind) (i index : ℕ) (l : List ℕ) (at : ℕ) → carried k ≡ false
      → argument_at k i index l at ≡ refused_at index NotCarried
  unfolding argument_at carried
  not_carried_kind kind.NotCarried i index l at c = refl
  not_carried_kind kind.None i index l at c = never (cc)
  not_carried_kind kind.Level i index l at c = never (cc)
  not_carried_kind kind.TwoLevels i index l at c = never (cc)
  not_carried_kind kind.Time i index l at c = never (cc)
  not_carried_kind kind.Code i index l at c = never (cc)
  not_carried_kind kind.FreeText i index l at c = never (cc)
  not_carried_kind kind.Facility i index l at c = never (cc)
  not_carried_kind kind.FacilityDesignation i index l at c = never (cc)
  not_carried_kind kind.AtisCode i index l at c = never (cc)

  -- the element is read so
  element_as : (m : List ℕ) (at : ℕ)
      → element_at d m at ≡ then (indexed m at) (λ (i n : ℕ). argument_at (kind_of d i) i (at + 1) m n)
  unfolding element_at extensible_index indexed judges
  element_as m at = by (extension_bit m at) refl
    where
      second : (p : ℕ) → p ≡ at + 1 → (y : Reading ℕ)
          → then y (λ (i n : ℕ). argument_at (kind_of d i) i (at + 1) m n) ≡ then (then y (judges p)) (λ (i n : ℕ). argument_at (kind_of d i) i (at + 1) m n)
      second p q (Err r) = refl
      second p q (Ok (i, n)) = go (carried (kind_of d i)) refl
        where
          go : (t : Bool) → carried (kind_of d i) ≡ t
              → argument_at (kind_of d i) i (at + 1) m n ≡ then (cond (carried (kind_of d i)) (Ok (i, n)) (refused_at p NotCarried)) (λ (j k : ℕ). argument_at (kind_of d j) j (at + 1) m k)
          go true c = rw c
          go false c = rw (c, q) (not_carried_kind (kind_of d i) i (at + 1) m n c)

      by : (x : Reading ℕ) → extension_bit m at ≡ x
          → then (then x (λ (b p : ℕ). whole_number m p 0 (last_of d))) (λ (i n : ℕ). argument_at (kind_of d i) i (at + 1) m n)
          ≡ then (then x (λ (b p : ℕ). then (whole_number m p 0 (last_of d)) (judges p)))
          (λ (i n : ℕ). argument_at (kind_of d i) i (at + 1) m n)
      by (Err r) e = refl
      by (Ok (b, p)) e = second p (extension_place m at b p e) (whole_number m p 0 (last_of d))

  was_carried : (l : List ℕ) (at i n : ℕ) → indexed l at ≡ Ok (i, n) → carried (kind_of d i) ≡ true
  unfolding indexed judges
  was_carried l at i n e = go (extension_bit l at) e
    where
      go : (x : Reading ℕ) → then x (λ (b p : ℕ). then (whole_number l p 0 (last_of d)) (judges p)) ≡ Ok (i, n) → carried (kind_of d i) ≡ true
      go (Err r) q = never (cc)
      go (Ok (b, p)) q = by (whole_number l p 0 (last_of d)) q
        where
          by : (y : Reading ℕ) → then y (judges p) ≡ Ok (i, n) → carried (kind_of d i) ≡ true
          by (Err r) u = never (cc)
          by (Ok (j, k)) u = test (carried (kind_of d j)) refl u
            where
              test : (t : Bool) → carried (kind_of d j) ≡ t → cond {A = Reading ℕ} t (Ok (j, k)) (refused_at p NotCarried) ≡ Ok (i, n)
                  → carried (kind_of d i) ≡ true
              test true c v = let z : j ≡ i = ok_value v in ap (λ (x : ℕ). carried (kind_of d x)) (sym z) ∙ c
              test false c v = never (cc)

  pub element_sound : (l : List ℕ) (at : ℕ) → at ≤ length l → Sound seen_field (λ (m : List ℕ). element_at d m at) l at
  element_sound l at h =
      subst (λ (rd : List ℕ → Reading Element). Sound seen_field rd l at) (fun_ext (λ (m : List ℕ). sym (element_as m at)))
      (then_sound {B = Element} (λ (m : List ℕ). indexed m at) (λ (i n : ℕ) (m : List ℕ). argument_at (kind_of d i) i (at + 1) m n) l at (indexed_sound l at h)
      (λ (i n : ℕ) (e : indexed l at ≡ Ok (i, n)) (a : at ≤ n) (b : n ≤ length l). argument_sound (kind_of d i) i
      (at + 1) l n (was_carried l at i n e) b))
