-- What a kind does not use is zero: an element is what its kind uses, and nothing else.
-- Assumes nothing.
use mathlib.Core.Path.{◌≡◌, refl, ◌∙◌}
use mathlib.Core.Bool.{Bool, true, false, not, ◌&&◌}
use mathlib.Core.List.{List, [], ◌∷◌}
use Prim.Native.Nat.{ℕ, suc}
use native.Mathlib.Omega.{arith}
use lib.ListN.{length}
use lib.Dec.{eqb}
use borrow.Author.Tests.{eqb-true}
use Rattle.words.proofs.Laws.{both_left, both_right}
use Rattle.elements.specs.declared.values.LevelType.{LevelType}
use Rattle.elements.specs.declared.values.Level.{Level}
use Rattle.elements.specs.declared.values.Time.{Time}
use Rattle.elements.specs.declared.values.Element.{Element}
use Rattle.elements.specs.Arguments.{no_type, same?}
use Rattle.elements.specs.OneElement.{no_level, no_time, no_digits, level_unused, time_unused, zeros, code_unused, levels_unused, plain, no_text_of}
use Rattle.elements.proofs.Levels.{same_is}

pub level_unused_is : (x : Level) → level_unused x ≡ true → x ≡ no_level
unfolding level_unused
level_unused_is x e =
    let p = both_left (not x.block && same? x.first no_type) (same? x.second no_type) e in
    made x.block x.first x.second (both_left (not x.block) (same? x.first no_type) p)
    (same_is x.first no_type (both_right (not x.block) (same? x.first no_type) p))
    (same_is x.second no_type (both_right (not x.block && same? x.first no_type) (same? x.second no_type) e))
  where
    made : (b : Bool) (y z : LevelType) → not b ≡ true → y ≡ no_type → z ≡ no_type → ◌≡◌ {A = Level} (record { block = b; first = y; second = z }) no_level
    made false y z h p q = rw (p, q)
    made true y z h p q = let n : ◌≡◌ {A = ℕ} 0 1 = cc in absurd (omega arith)

pub time_unused_is : (x : Time) → time_unused x ≡ true → x ≡ no_time
unfolding time_unused
time_unused_is x e =
    made x.hours x.minutes (eqb-true x.hours 0 (both_left (eqb x.hours 0) (eqb x.minutes 0) e))
    (eqb-true x.minutes 0 (both_right (eqb x.hours 0) (eqb x.minutes 0) e))
  where
    made : (h m : ℕ) → h ≡ 0 → m ≡ 0 → ◌≡◌ {A = Time} (record { hours = h; minutes = m }) no_time
    made h m p q = rw (p, q)

-- four of a list
pub four : {R : Type 0} (x : List ℕ) → length x ≡ 4 → ((a b c d : ℕ) → x ≡ a ∷ b ∷ c ∷ d ∷ [] → R) → R
four [] h k = absurd (omega arith)
four (a ∷ []) h k = absurd (omega arith)
four (a ∷ b ∷ []) h k = absurd (omega arith)
four (a ∷ b ∷ c ∷ []) h k = absurd (omega arith)
four (a ∷ b ∷ c ∷ d ∷ []) h k = k a b c d refl
four (a ∷ b ∷ c ∷ d ∷ e ∷ x) h k = absurd (omega arith)

first_zero : (a : ℕ) (x : List ℕ) → zeros (a ∷ x) ≡ true → a ≡ 0
unfolding zeros
first_zero a x h = eqb-true a 0 (both_left (eqb a 0) (zeros x) h)

rest_zero : (a : ℕ) (x : List ℕ) → zeros (a ∷ x) ≡ true → zeros x ≡ true
unfolding zeros
rest_zero a x h = both_right (eqb a 0) (zeros x) h

pub code_unused_is : (x : List ℕ) → code_unused x ≡ true → x ≡ no_digits
unfolding code_unused
code_unused_is x e =
    four x (eqb-true (length x) 4 (both_left (eqb (length x) 4) (zeros x) e))
    (λ (a b c d : ℕ) (p : x ≡ a ∷ b ∷ c ∷ d ∷ []). p ∙ all_zero a b c d (rw p at (both_right (eqb (length x) 4) (zeros x) e)))
  where
    all_zero : (a b c d : ℕ) → zeros (a ∷ b ∷ c ∷ d ∷ []) ≡ true → a ∷ b ∷ c ∷ d ∷ [] ≡ no_digits
    all_zero a b c d h =
        let i = rest_zero a _ h in
        let j = rest_zero b _ i in
        let k = rest_zero c _ j in
        rw (first_zero a _ h, first_zero b _ i, first_zero c _ j, first_zero d _ k)

-- an element is made of its parts
pub element_is : (e : Element) (x y : Level) (z : Time) (c : List ℕ) (n : ℕ) → e.level ≡ x → e.other ≡ y → e.time ≡ z → e.code ≡ c → e.characters ≡ n → e ≡ record { number = e.number; level = x; other = y; time = z; code = c; characters = n }
element_is e x y z c n p q r s t = rw (← p, ← q, ← r, ← s, ← t)

pub record Plain (e : Element) : Type 0 where
  pub level : e.level ≡ no_level
  pub other : e.other ≡ no_level
  pub time : e.time ≡ no_time
  pub code : e.code ≡ no_digits

pub plain_is : (e : Element) → plain e ≡ true → Plain e
unfolding plain levels_unused
plain_is e h =
    let p = both_left (level_unused e.level && level_unused e.other && time_unused e.time) (code_unused e.code) h in
    let q = both_left (level_unused e.level && level_unused e.other) (time_unused e.time) p in
    record {
      level = level_unused_is e.level (both_left (level_unused e.level) (level_unused e.other) q);
      other = level_unused_is e.other (both_right (level_unused e.level) (level_unused e.other) q);
      time = time_unused_is e.time (both_right (level_unused e.level && level_unused e.other) (time_unused e.time) p);
      code = code_unused_is e.code (both_right
          (level_unused e.level && level_unused e.other && time_unused e.time) (code_unused e.code) h);
    }

pub no_text : (t : List ℕ) → no_text_of t ≡ true → t ≡ []
no_text [] h = refl
no_text (c ∷ cs) h = absurd (let z = eqb-true (suc (length cs)) 0 h in omega arith)
