-- Of bytes that say a message, the places behind the used ones are empty just where their bytes are zero.
-- Assumes nothing.
use mathlib.Core.Path.{◌≡◌, refl, sym, ap, ◌∙◌}
use mathlib.Core.Bool.{Bool, true, false, ◌&&◌}
use mathlib.Core.List.{List, [], ◌∷◌, ◌++◌}
use Prim.Native.Nat.{ℕ, zero, suc, ◌+◌, ◌-◌, ◌*◌, ◌≤◌}
use native.Mathlib.Omega.{arith}
use borrow.Author.Tests.{leb-true}
use lib.Dec.{leb}
use lib.ListN.{length, take, drop, replicate, length-take, length-drop}
use lib.Seq.{drop-drop, take_all}
use Rattle.words.proofs.Laws.{both_left, both_right}
use Rattle.bits.proofs.Bytes.{Bytes, take_drop}
use Rattle.elements.specs.Measuring.{all_most}
use Rattle.elements.specs.OneElement.{bare}
use Rattle.inner.specs.Messages.{empty, all_empty}
use Rattle.inner.proofs.MessageLaws.{empty_is, places_empty}
use Rattle.layout.specs.Layout.{place_bytes, element_of, level_of, elements_of, place_stands, places_stand}
use Rattle.layout.proofs.InOrder.{elements_suc, stand_suc}
use Rattle.layout.proofs.Pieces.{place_of}

same : (a b : Bool) → (a ≡ true → b ≡ true) → (b ≡ true → a ≡ true) → a ≡ b
same true b f g = sym (f refl)
same false true f g = g refl
same false false f g = refl

zeros_are : (xs : List ℕ) → all_most 0 xs ≡ true → xs ≡ replicate (length xs) 0
unfolding all_most
zeros_are [] h = refl
zeros_are (x ∷ xs) h =
    let a = leb-true x 0 (both_left (leb x 0) (all_most 0 xs) h) in
    let z : x ≡ 0 = omega arith in
    rw z (ap (λ (ys : List ℕ). 0 ∷ ys) (zeros_are xs (both_right (leb x 0) (all_most 0 xs) h)))

joined : (a b c : Bool) → (a && (b && c)) ≡ ((a && b) && c)
joined true b c = refl
joined false b c = refl

most_append : (xs ys : List ℕ) → all_most 0 (xs ++ ys) ≡ (all_most 0 xs && all_most 0 ys)
unfolding all_most
most_append [] ys = refl
most_append (x ∷ xs) ys = rw (most_append xs ys) (joined (leb x 0) (all_most 0 xs) (all_most 0 ys))

nothing : element_of (replicate 24 0) ≡ bare 0
unfolding element_of level_of
nothing = refl

no_bytes : all_most 0 (place_bytes (bare 0)) ≡ true
unfolding place_bytes all_most
no_bytes = refl

bare_empty : empty (bare 0) ≡ true
unfolding all_empty
bare_empty = both_left (empty (bare 0)) true (places_empty 1)

place_zero : (p : List ℕ) → length p ≡ 24 → Bytes p → place_stands p ≡ true → all_most 0 p ≡ empty (element_of p)
place_zero p l s h = same (all_most 0 p) (empty (element_of p)) there back
  where
    there : all_most 0 p ≡ true → empty (element_of p) ≡ true
    there z = let q : p ≡ replicate 24 0 = rw l at (zeros_are p z) in ap (λ (x : List ℕ). empty (element_of x)) q ∙ ap
        empty nothing ∙ bare_empty

    back : empty (element_of p) ≡ true → all_most 0 p ≡ true
    back e = ap (all_most 0) (sym (place_of p l s h) ∙ ap place_bytes (empty_is (element_of p) e)) ∙ no_bytes

some_bytes : (k : ℕ) (b : List ℕ) → Bytes b → Bytes (drop k b)
some_bytes zero b s = s
some_bytes (suc k) [] s = s
some_bytes (suc k) (x ∷ b) s = some_bytes k b (λ (j : ℕ). s (suc j))

first_bytes : (k : ℕ) (b : List ℕ) → Bytes b → Bytes (take k b)
first_bytes zero b s j = omega arith
first_bytes (suc k) [] s j = s j
first_bytes (suc k) (x ∷ b) s zero = s zero
first_bytes (suc k) (x ∷ b) s (suc j) = first_bytes k b (λ (i : ℕ). s (suc i)) j

all_suc : (k : ℕ) (b : List ℕ) → all_empty (elements_of (suc k) b) ≡ (empty (element_of (take 24 b)) && all_empty (elements_of k (drop 24 b)))
unfolding all_empty elements_of
all_suc k b = refl

-- k places
zeros_empty : (k : ℕ) (b : List ℕ) → length b ≡ 24 * k → Bytes b → places_stand k b ≡ true → all_most 0 b ≡ all_empty (elements_of k b)
unfolding all_most all_empty elements_of
zeros_empty zero [] l s h = refl
zeros_empty zero (x ∷ b) l s h = absurd (omega arith)
zeros_empty (suc k) b l s h =
    let i = rw (stand_suc k b) at h in
    let n = length-take 24 b in
    let d = length-drop 24 b in
    let one = place_zero (take 24 b) (omega arith) (first_bytes 24 b s)
    (both_left (place_stands (take 24 b)) (places_stand k (drop 24 b)) i) in
    let more = zeros_empty k (drop 24 b) (omega arith) (some_bytes 24 b s)
    (both_right (place_stands (take 24 b)) (places_stand k (drop 24 b)) i) in
    ap (all_most 0) (sym (take_drop 24 b)) ∙ most_append (take 24 b) (drop 24 b) ∙ rw (one, more) (sym (all_suc k b))

-- k places behind n
behind : (n k : ℕ) (b : List ℕ) → length b ≡ 24 * (n + k) → Bytes b → places_stand (n + k) b ≡ true
    → all_most 0 (drop (24 * n) b) ≡ all_empty (drop n (elements_of (n + k) b))
behind zero k b l s h =
    let z : 0 + k ≡ k = omega arith in
    rw z (zeros_empty k b (rw z at l) s (rw z at h))
behind (suc n) k b l s h =
    let z : suc n + k ≡ suc (n + k) = omega arith in
    let w : 24 * suc n ≡ 24 + 24 * n = omega arith in
    let i = rw (z, stand_suc (n + k) b) at h in
    let d = length-drop 24 b in
    rw (z, elements_suc (n + k) b, w, ← drop-drop (24 * n) 24 b)
    (behind n k (drop 24 b) (omega arith) (some_bytes 24 b s) (both_right (place_stands (take 24 b)) (places_stand (n + k) (drop 24 b)) i))

-- as the code looks at them: from a place of the bytes on, to their end
pub rest_zero : (b : List ℕ) (n : ℕ) → n ≤ 5 → length b ≡ 132 → Bytes b → places_stand 5 (drop 12 b) ≡ true
    → all_most 0 (take (length b - (12 + 24 * n)) (drop (12 + 24 * n) b)) ≡ all_empty (drop n (elements_of 5 (drop 12 b)))
rest_zero b n f l s h =
    let k : n + (5 - n) ≡ 5 = omega arith in
    let d = length-drop 12 b in
    let e = length-drop (12 + 24 * n) b in
    let w : take (length b - (12 + 24 * n)) (drop (12 + 24 * n) b) ≡ drop (12 + 24 * n) b = take_all
    (length b - (12 + 24 * n)) (drop (12 + 24 * n) b) (omega arith) in
    let r = behind n (5 - n) (drop 12 b) (rw k (omega arith)) (some_bytes 12 b s) (rw k h) in
    ap (all_most 0) (w ∙ sym (drop-drop (24 * n) 12 b)) ∙ (rw k at r)
