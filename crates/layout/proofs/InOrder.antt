-- What the loops over the five places keep: i of them are done, and those that are left give what is meant.
-- Assumes nothing.
use mathlib.Core.Path.{◌≡◌, refl, sym, ap, ◌∙◌}
use mathlib.Core.Bool.{Bool, true, false, ◌&&◌}
use mathlib.Core.List.{List, [], ◌∷◌, ◌++◌}
use Prim.Native.Nat.{ℕ, zero, suc, ◌+◌, ◌-◌, ◌*◌, ◌≤◌, ◌<◌}
use native.Mathlib.Omega.{arith}
use native.Mathlib.Numerals.{add-one}
use lib.Dec.{ltb}
use lib.ListN.{length, take, drop, get_or}
use lib.Seq.{sets, drop-cons, drop-drop, drop-length}
use Rattle.elements.specs.declared.values.Element.{Element}
use Rattle.inner.proofs.RowPieces.{next_element}
use Rattle.layout.specs.Layout.{place_bytes, places_bytes, element_of, elements_of, place_stands, places_stand}
use Rattle.layout.proofs.Copied.{sets_append}
use Rattle.layout.proofs.StructTypes.{places_fit}

-- ---- one place and those behind it

pub elements_suc : (n : ℕ) (b : List ℕ) → elements_of (suc n) b ≡ element_of (take 24 b) ∷ elements_of n (drop 24 b)
unfolding elements_of
elements_suc n b = refl

pub elements_zero : (b : List ℕ) → elements_of 0 b ≡ []
unfolding elements_of
elements_zero b = refl

pub stand_zero : (b : List ℕ) → places_stand 0 b ≡ true
unfolding places_stand
stand_zero b = refl

pub stand_suc : (n : ℕ) (b : List ℕ) → places_stand (suc n) b ≡ (place_stands (take 24 b) && places_stand n (drop 24 b))
unfolding places_stand
stand_suc n b = refl

pub fit_cons : (e : Element) (es : List Element) → places_fit (e ∷ es) ≡ (ltb e.characters 65536 && places_fit es)
unfolding places_fit
fit_cons e es = refl

pub bytes_cons : (e : Element) (es : List Element) → places_bytes (e ∷ es) ≡ place_bytes e ++ places_bytes es
unfolding places_bytes
bytes_cons e es = refl

pub length_place : (e : Element) → length (place_bytes e) ≡ 24
unfolding place_bytes
length_place e = refl

-- the part that the code lends is the place
part : (b : List ℕ) (i : ℕ) → take (12 + 24 * i + 24 - (12 + 24 * i)) (drop (12 + 24 * i) b) ≡ take 24 (drop (12 + 24 * i) b)
part b i = let e : 12 + 24 * i + 24 - (12 + 24 * i) ≡ 24 = omega arith in rw e

next : (b : List ℕ) (i : ℕ) → drop 24 (drop (12 + 24 * i) b) ≡ drop (12 + 24 * (i + 1)) b
next b i = let e : 12 + 24 * i + 24 ≡ 12 + 24 * (i + 1) = omega arith in drop-drop 24 (12 + 24 * i) b ∙ rw e

-- ---- whether the places stand

abbrev pub Standing : List ℕ → ℕ → Type 0
Standing b i = (i ≤ 5) × (places_stand (5 - i) (drop (12 + 24 * i) b) ≡ places_stand 5 (drop 12 b))

module _ (b : List ℕ) (i : ℕ) (h : i < 5) where
  standing_suc : places_stand (5 - i) (drop (12 + 24 * i) b) ≡
      (place_stands (take 24 (drop (12 + 24 * i) b)) && places_stand (5 - (i + 1)) (drop (12 + 24 * (i + 1)) b))
  standing_suc =
      let k : 5 - i ≡ suc (5 - (i + 1)) = omega arith in
      rw (k, stand_suc, next b i)

  pub standing_more : (t : Bool) → t ≡ place_stands (take (12 + 24 * i + 24 - (12 + 24 * i)) (drop (12 + 24 * i) b))
      → t ≡ true → Standing b i → Standing b (i + 1)
  standing_more t p q inv =
      let e : place_stands (take 24 (drop (12 + 24 * i) b)) ≡ true = rw (← part b i, ← p, q) in
      (omega arith, rw (standing_suc, e) at inv.1)

  pub standing_not : (t : Bool) → t ≡ place_stands (take (12 + 24 * i + 24 - (12 + 24 * i)) (drop (12 + 24 * i) b))
      → t ≡ false → Standing b i → false ≡ places_stand 5 (drop 12 b)
  standing_not t p q inv =
      let e : place_stands (take 24 (drop (12 + 24 * i) b)) ≡ false = rw (← part b i, ← p, q) in
      rw (standing_suc, e) at inv.1

pub standing_done : (b : List ℕ) (i : ℕ) → 5 ≤ i → Standing b i → true ≡ places_stand 5 (drop 12 b)
unfolding places_stand
standing_done b i h inv = let k : 5 - i ≡ 0 = omega arith in rw k at inv.1

-- ---- the elements of the places

pub length_elements : (n : ℕ) (b : List ℕ) → length (elements_of n b) ≡ n
unfolding elements_of
length_elements zero b = refl
length_elements (suc n) b = ap suc (length_elements n (drop 24 b))

element_at : (n i : ℕ) (b : List ℕ) (o : Element) → i < n → get_or (elements_of n b) i o ≡ element_of (take 24 (drop (24 * i) b))
unfolding elements_of
element_at zero i b o h = absurd (omega arith)
element_at (suc n) zero b o h = refl
element_at (suc n) (suc i) b o h =
    let e : 24 + 24 * i ≡ 24 * suc i = omega arith in
    element_at n i (drop 24 b) o (omega arith) ∙ rw (drop-drop, e)

-- the element that the code loads from the place i
module _ (b : List ℕ) (i : ℕ) (h : i < 5) (x : Element) (p : x ≡ element_of (take (12 + 24 * i + 24 - (12 + 24 * i)) (drop (12 + 24 * i) b))) where
  loaded : get_or (elements_of 5 (drop 12 b)) i x ≡ x
  loaded = element_at 5 i (drop 12 b) x h ∙ rw drop-drop (rw (← part b i) (sym p))

  pub row_next : (n : ℕ) → i < n → n ≤ 5 → drop i (take n (elements_of 5 (drop 12 b))) ≡ x ∷ drop (suc i) (take n (elements_of 5 (drop 12 b)))
  row_next n g f =
      let l = length_elements 5 (drop 12 b) in
      next_element (elements_of 5 (drop 12 b)) n i x g (omega arith) ∙ rw loaded

-- ---- the bytes of the places

pub record Putting (s₀ s : List ℕ) (m : List Element) (i : ℕ) : Type 0 where
  pub count : i ≤ 5
  pub same : length s ≡ length s₀
  pub rest : sets s (12 + 24 * i) (places_bytes (drop i m)) ≡ sets s₀ 12 (places_bytes m)

pub putting_start : (s : List ℕ) (m : List Element) → Putting s s m 0
putting_start s m = record { count = omega arith; same = refl; rest = refl }

pub putting_more : (s₀ s z a : List ℕ) (m : List Element) (d : Element) (i : ℕ) → length m ≡ 5 → i < 5
    → a ≡ place_bytes (get_or m i d) → z ≡ sets s (12 + 24 * i) a → length z ≡ length s → Putting s₀ s m i
    → Putting s₀ z m (i + 1)
putting_more s₀ s z a m d i five h p q l inv =
    let k : drop i m ≡ get_or m i d ∷ drop (i + 1) m = rw (add-one i) (drop-cons m i d (omega arith)) in
    let n : 12 + 24 * i + 24 ≡ 12 + 24 * (i + 1) = omega arith in
    let y : sets (sets s (12 + 24 * i) a) (12 + 24 * (i + 1)) (places_bytes (drop (i + 1) m)) ≡ sets s₀ 12
    (places_bytes m) = rw (k, bytes_cons, sets_append, length_place, n, ← p) at inv.rest in
    record { count = omega arith; same = l ∙ inv.same; rest = rw q y }

pub putting_done : (s₀ s : List ℕ) (m : List Element) (i : ℕ) → length m ≡ 5 → 5 ≤ i → Putting s₀ s m i → s ≡ sets s₀ 12 (places_bytes m)
unfolding places_bytes
putting_done s₀ s m i five h inv =
    let e : i ≡ length m = omega (arith, inv.count) in
    rw (e, drop-length m) at inv.rest
