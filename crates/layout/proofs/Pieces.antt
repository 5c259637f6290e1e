-- The front and a place, byte by byte: as the code has them, from the value to its bytes and from bytes to the value.
-- Assumes nothing.
use mathlib.Core.Path.{◌≡◌, refl, ap, sym, ◌∙◌}
use mathlib.Core.Bool.{Bool, true, false, ◌&&◌}
use mathlib.Core.List.{List, [], ◌∷◌, ◌++◌}
use Prim.Native.Nat.{ℕ, zero, suc, ◌+◌, ◌*◌, ◌/◌, ◌%◌, ◌≤◌, ◌<◌}
use native.Mathlib.Omega.{arith}
use native.Mathlib.Numerals.{add-one}
use borrow.Author.Tests.{lt-ltb, ltb-true, eqb-true}
use lib.Dec.{eqb}
use lib.ListN.{length, take, drop, get_or}
use lib.Seq.{drop-cons, take_all}
use Rattle.words.proofs.Laws.{both_left, both_right}
use Rattle.bits.proofs.Bytes.{Bytes}
use Rattle.elements.specs.Arguments.{flag}
use Rattle.elements.specs.declared.values.Level.{Level}
use Rattle.elements.specs.declared.values.Element.{Element}
use Rattle.elements.proofs.Unused.{four}
use Rattle.inner.specs.declared.values.Header.{Header}
use Rattle.layout.specs.Layout.{is_flag, front_bytes, place_bytes, header_of, level_of, element_of, front_stands, place_stands}
use Rattle.layout.proofs.StructTypes.{LevelTyped, ElementTyped}

-- ---- the bytes, as the code has them

pub front_is : (h : Header) (n r y₁ y₀ a : ℕ) → r ≡ flag h.referenced → y₁ ≡ h.dated.year / 256 % 256
    → y₀ ≡ h.dated.year % 256 → a ≡ flag h.acknowledged
    → h.identification ∷ r ∷ h.reference ∷ y₁ ∷ y₀ ∷ h.dated.month ∷ h.dated.day ∷ h.dated.time.hours ∷
    h.dated.time.minutes ∷ h.dated.seconds ∷ a ∷ n ∷ [] ≡ front_bytes h n
unfolding front_bytes
front_is h n r y₁ y₀ a p q s t = rw (p, q, s, t)

pub place_is : (e : Element) (c₁ c₀ f a₁ a₀ b₁ b₀ g p₁ p₀ q₁ q₀ z : ℕ) → c₁ ≡ e.characters / 256 % 256 → c₀ ≡ e.characters % 256
    → f ≡ flag e.level.block → a₁ ≡ e.level.first.number / 256 % 256 → a₀ ≡ e.level.first.number % 256 → b₁ ≡
    e.level.second.number / 256 % 256 → b₀ ≡ e.level.second.number % 256
    → g ≡ flag e.other.block → p₁ ≡ e.other.first.number / 256 % 256 → p₀ ≡ e.other.first.number % 256 → q₁ ≡
    e.other.second.number / 256 % 256 → q₀ ≡ e.other.second.number % 256 → z ≡ 0
    → e.number ∷ c₁ ∷ c₀ ∷ f ∷ e.level.first.unit ∷ a₁ ∷ a₀ ∷ e.level.second.unit ∷ b₁ ∷ b₀ ∷ g ∷
    e.other.first.unit ∷ p₁ ∷ p₀ ∷ e.other.second.unit ∷ q₁ ∷ q₀ ∷ e.time.hours ∷ e.time.minutes ∷ get_or
    e.code 0 0 ∷ get_or e.code 1 0 ∷ get_or e.code 2 0 ∷ get_or e.code 3 0 ∷ z ∷ [] ≡ place_bytes e
unfolding place_bytes
place_is e c₁ c₀ f a₁ a₀ b₁ b₀ g p₁ p₀ q₁ q₀ z h₁ h₂ h₃ h₄ h₅ h₆ h₇ h₈ h₉ k₁ k₂ k₃ k₄ = rw
    (h₁, h₂, h₃, h₄, h₅, h₆, h₇, h₈, h₉, k₁, k₂, k₃, k₄)

pub length_front : (h : Header) (n : ℕ) → length (front_bytes h n) ≡ 12
unfolding front_bytes
length_front h n = refl

-- ---- flags and numbers of two bytes, there and back

flag_low : (b : Bool) → flag b < 2
flag_low true = omega arith
flag_low false = omega arith

flag_back : (b : Bool) → eqb (flag b) 1 ≡ b
flag_back true = refl
flag_back false = refl

flag_of : (x : ℕ) → x < 2 → x ≡ flag (eqb x 1)
flag_of zero h = refl
flag_of (suc zero) h = refl
flag_of (suc (suc x)) h = absurd (omega arith)

two_back : (x : ℕ) → x < 65536 → x / 256 % 256 * 256 + x % 256 ≡ x
two_back x h = omega arith

high_of : (x y : ℕ) → x < 256 → y < 256 → x ≡ (x * 256 + y) / 256 % 256
high_of x y h g = omega arith

low_of : (x y : ℕ) → y < 256 → y ≡ (x * 256 + y) % 256
low_of x y g = omega arith

-- ---- from the value to its bytes and back

pub header_back : (h : Header) (n : ℕ) (rest : List ℕ) → h.dated.year < 65536 → header_of (front_bytes h n ++ rest) ≡ h
unfolding header_of front_bytes
header_back h n rest y = rw (flag_back h.referenced, flag_back h.acknowledged, two_back h.dated.year y)

pub count_back : (h : Header) (n : ℕ) (rest : List ℕ) → get_or (front_bytes h n ++ rest) 11 0 ≡ n
unfolding front_bytes
count_back h n rest = refl

pub front_stands_is : (h : Header) (n : ℕ) (rest : List ℕ) → front_stands (front_bytes h n ++ rest) ≡ true
unfolding front_stands front_bytes
front_stands_is h n rest = rw (
  lt-ltb (flag h.referenced) 2 (flag_low h.referenced),
  lt-ltb (flag h.acknowledged)
      2 (flag_low h.acknowledged),
)

pub place_stands_is : (e : Element) → place_stands (place_bytes e) ≡ true
unfolding place_stands place_bytes
place_stands_is e = rw (
  lt-ltb (flag e.level.block) 2 (flag_low e.level.block),
  lt-ltb (flag e.other.block) 2
      (flag_low e.other.block),
)

level_back : (x : Level) → LevelTyped x → ◌≡◌ {A = Level} (record { block = eqb (flag x.block) 1; first = record { unit = x.first.unit; number = x.first.number / 256 % 256 * 256 + x.first.number % 256 }; second = record { unit = x.second.unit; number = x.second.number / 256 % 256 * 256 + x.second.number % 256 } }) x
level_back x t = rw (flag_back x.block, two_back x.first.number t.number, two_back x.second.number t.second_number)

code_back : (c : List ℕ) → length c ≡ 4 → get_or c 0 0 ∷ get_or c 1 0 ∷ get_or c 2 0 ∷ get_or c 3 0 ∷ [] ≡ c
code_back c h = four c h (λ (p q r s : ℕ) (e : c ≡ p ∷ q ∷ r ∷ s ∷ []). rw e)

level_of_place : (e : Element) → LevelTyped e.level → level_of (place_bytes e) 3 ≡ e.level
unfolding level_of place_bytes
level_of_place e t = level_back e.level t

other_of_place : (e : Element) → LevelTyped e.other → level_of (place_bytes e) 10 ≡ e.other
unfolding level_of place_bytes
other_of_place e t = level_back e.other t

pub element_back : (e : Element) → ElementTyped e → e.characters < 65536 → element_of (place_bytes e) ≡ e
unfolding element_of place_bytes
element_back e t h =
    made _ _ _ _ (level_of_place e t.level) (other_of_place e t.other) (code_back e.code t.digits) (two_back e.characters h)
  where
    made : (x y : Level) (c : List ℕ) (n : ℕ) → x ≡ e.level → y ≡ e.other → c ≡ e.code → n ≡ e.characters → ◌≡◌ {A = Element} (record { number = e.number; level = x; other = y; time = e.time; code = c; characters = n }) e
    made x y c n p q r s = rw (p, q, r, s)

-- ---- from bytes to the value and back

-- n bytes from one on
abbrev gets : ℕ → ℕ → List ℕ → List ℕ
gets zero k p = []
gets (suc n) k p = get_or p k 0 ∷ gets n (k + 1) p

gets_take : (n k : ℕ) (p : List ℕ) → k + n ≤ length p → gets n k p ≡ take n (drop k p)
gets_take zero k p h = refl
gets_take (suc n) k p h =
    let d : drop k p ≡ get_or p k 0 ∷ drop (k + 1) p = rw (add-one k) (drop-cons p k 0 (omega arith)) in
    rw d (ap (λ (t : List ℕ). get_or p k 0 ∷ t) (gets_take n (k + 1) p (omega arith)))

pub front_of : (b : List ℕ) → 12 ≤ length b → Bytes b → front_stands b ≡ true → front_bytes (header_of b) (get_or b 11 0) ≡ take 12 b
unfolding header_of front_stands
front_of b h s t =
    sym (front_is (header_of b) (get_or b 11 0) (get_or b 1 0) (get_or b 3 0) (get_or b 4 0) (get_or b 10 0)
    (flag_of (get_or b 1 0) (ltb-true _ 2 (both_left (is_flag (get_or b 1 0)) (is_flag (get_or b 10 0)) t)))
    (high_of (get_or b 3 0) (get_or b 4 0) (s 3) (s 4))
    (low_of (get_or b 3 0) (get_or b 4 0) (s 4))
    (flag_of (get_or b 10 0) (ltb-true _ 2 (both_right (is_flag (get_or b 1 0)) (is_flag (get_or b 10 0)) t))))
    ∙ gets_take 12 0 b h

pub place_of : (p : List ℕ) → length p ≡ 24 → Bytes p → place_stands p ≡ true → place_bytes (element_of p) ≡ p
unfolding element_of level_of place_stands
place_of p h s t =
    let u = both_left (is_flag (get_or p 3 0) && is_flag (get_or p 10 0)) (eqb (get_or p 23 0) 0) t in
    sym (place_is (element_of p) (get_or p 1 0) (get_or p 2 0) (get_or p 3 0) (get_or p 5 0) (get_or p 6 0) (get_or p 8 0) (get_or p 9 0) (get_or p 10 0) (get_or p 12 0) (get_or p 13 0) (get_or p 15 0) (get_or p 16 0) (get_or p 23 0)
    (high_of (get_or p 1 0) (get_or p 2 0) (s 1) (s 2))
    (low_of (get_or p 1 0) (get_or p 2 0) (s 2))
    (flag_of (get_or p 3 0) (ltb-true _ 2 (both_left (is_flag (get_or p 3 0)) (is_flag (get_or p 10 0)) u)))
    (high_of (get_or p 5 0) (get_or p 6 0) (s 5) (s 6))
    (low_of (get_or p 5 0) (get_or p 6 0) (s 6))
    (high_of (get_or p 8 0) (get_or p 9 0) (s 8) (s 9))
    (low_of (get_or p 8 0) (get_or p 9 0) (s 9))
    (flag_of (get_or p 10 0) (ltb-true _ 2 (both_right (is_flag (get_or p 3 0)) (is_flag (get_or p 10 0)) u)))
    (high_of (get_or p 12 0) (get_or p 13 0) (s 12) (s 13))
    (low_of (get_or p 12 0) (get_or p 13 0) (s 13))
    (high_of (get_or p 15 0) (get_or p 16 0) (s 15) (s 16))
    (low_of (get_or p 15 0) (get_or p 16 0) (s 16))
    (eqb-true (get_or p 23 0) 0 (both_right (is_flag (get_or p 3 0) && is_flag (get_or p 10 0)) (eqb (get_or p 23 0) 0) t)))
    ∙ gets_take 24 0 p (omega arith) ∙ take_all 24 p (omega arith)

-- what bytes say is of its types

level_typed : (p : List ℕ) (at : ℕ) → Bytes p → LevelTyped (level_of p at)
unfolding level_of
level_typed p at s =
    record {
      unit = s (at + 1);
      number = omega (arith, s (at + 2), s (at + 3));
      second_unit = s (at + 4);
      second_number = omega (arith, s (at + 5), s (at + 6));
    }

pub element_typed : (p : List ℕ) → Bytes p → ElementTyped (element_of p)
unfolding element_of
element_typed p s =
    record {
      number = s 0;
      level = level_typed p 3 s;
      other = level_typed p 10 s;
      hours = s 17;
      minutes = s 18;
      digits = refl;
      digit = each;
    }
  where
    each : (k : ℕ) → get_or (get_or p 19 0 ∷ get_or p 20 0 ∷ get_or p 21 0 ∷ get_or p 22 0 ∷ []) k 0 < 256
    each zero = s 19
    each (suc zero) = s 20
    each (suc (suc zero)) = s 21
    each (suc (suc (suc zero))) = s 22
    each (suc (suc (suc (suc k)))) = omega arith
