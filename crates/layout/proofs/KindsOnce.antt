-- The kinds of the arguments in the places, looked up once for each.
-- Assumes nothing.
use mathlib.Core.Path.{◌≡◌, refl, sym, ap, ◌∙◌}
use mathlib.Core.Bool.{Bool, true, false, cond}
use mathlib.Core.List.{List, [], ◌∷◌}
use Prim.Native.Nat.{ℕ, zero, suc, ◌+◌, ◌-◌, ◌*◌, ◌≤◌, ◌<◌, min}
use native.Mathlib.Omega.{arith}
use lib.Dec.{eqb}
use lib.ListN.{length, get_or, set, take, drop, length-set}
use lib.Seq.{get_or-set_same, get_or-set_other}
use borrow.Author.Tests.{eqb-true, eqb-false}
use Rattle.kinds.specs.Elements.{kind_of}
use Rattle.kinds.specs.declared.ArgumentKind.{ArgumentKind}
use Rattle.kinds.specs.declared.ArgumentKind.TheVariants.{NotCarried}
use Rattle.kinds.specs.declared.Direction.{Direction}
use Rattle.elements.specs.declared.values.Element.{Element}
use Rattle.elements.specs.OneElement.{element_fits, element_bits, element_fits_as, element_bits_as}
use Rattle.elements.specs.Writing.{element_pieces, element_pieces_as}
use Rattle.layout.specs.Layout.{KindsOf, element_of}
use Rattle.std.specs.Prelude.{None, Option, Some}

-- ---- the loop that looks them up

pub known_turn : (d : Direction) (b : List ℕ) (i : ℕ) (ks : List ArgumentKind) (k : ArgumentKind) → i < 5 → KindsOf d b i ks
    → k ≡ kind_of d (get_or b (12 + 24 * i) 0) → KindsOf d b (i + 1) (set ks i k)
known_turn d b i ks k h inv e = record { five = length-set ks i k ∙ inv.five; each = all }
  where
    go : (j : ℕ) → j < i + 1 → j < 5 → (t : Bool) → eqb j i ≡ t → get_or (set ks i k) j NotCarried ≡ kind_of d (get_or b (12 + 24 * j) 0)
    go j g f true q =
        let p : j ≡ i = eqb-true j i q in
        rw p (get_or-set_same ks i k NotCarried (omega (arith, h, inv.five)) ∙ e)
    go j g f false q =
        let p = eqb-false j i q in
        get_or-set_other ks i j k NotCarried p ∙ inv.each j (omega (arith, g, p)) f

    all : (j : ℕ) → j < i + 1 → j < 5 → get_or (set ks i k) j NotCarried ≡ kind_of d (get_or b (12 + 24 * j) 0)
    all j g f = go j g f (eqb j i) refl

pub known_none : (d : Direction) (b : List ℕ) (ks : List ArgumentKind) → length ks ≡ 5 → KindsOf d b 0 ks
known_none d b ks l = record { five = l; each = λ (j : ℕ) (g : j < 0) (f : j < 5). absurd (omega (arith, g)) }

pub known_all : (d : Direction) (b : List ℕ) (n i m : ℕ) (ks : List ArgumentKind) → m ≡ min n 5 → m ≤ i
    → KindsOf d b i ks → KindsOf d b n ks
known_all d b n i m ks e h inv = record { five = inv.five; each = λ (j : ℕ) (g : j < n) (f : j < 5). inv.each j (omega (arith, e, f, g, h)) f }

-- ---- an element that was loaded has the kind of its place

first_of : (n : ℕ) (l : List ℕ) → get_or (take (suc n) l) 0 0 ≡ get_or l 0 0
first_of n [] = refl
first_of n (x ∷ l) = refl

first_behind : (n : ℕ) (l : List ℕ) → get_or (drop n l) 0 0 ≡ get_or l n 0
first_behind zero l = refl
first_behind (suc n) [] = refl
first_behind (suc n) (x ∷ l) = first_behind n l

module _ (d : Direction) (b : List ℕ) (n i : ℕ) (ks : List ArgumentKind) (x : Element) (inv : KindsOf d b n ks) (g : i < n) (h : n ≤ 5) (p : x ≡ element_of (take (12 + 24 * i + 24 - (12 + 24 * i)) (drop (12 + 24 * i) b))) where
  kind_there : get_or ks i NotCarried ≡ kind_of d x.number
  unfolding element_of
  kind_there =
      let w : 12 + 24 * i + 24 - (12 + 24 * i) ≡ suc 23 = omega arith in
      let q : x.number ≡ get_or b (12 + 24 * i) 0 = ap (λ (e : Element). e.number) p ∙ rw w
      (first_of 23 (drop (12 + 24 * i) b) ∙ first_behind (12 + 24 * i) b) in
      inv.each i g (omega (arith, g, h)) ∙ ap (kind_of d) (sym q)

  pub size_once : (t : List ℕ) (r : Option ℕ)
      → r ≡ cond (element_fits_as d (get_or ks i NotCarried) x t) (Some (length (element_bits_as d (get_or ks i NotCarried) x t))) None
      → r ≡ cond (element_fits d x t) (Some (length (element_bits d x t))) None
  unfolding element_fits element_bits
  size_once t r e = rw kind_there at e

  pub pieces_once : (t : List ℕ) → element_pieces_as d (get_or ks i NotCarried) x t ≡ element_pieces d x t
  unfolding element_pieces
  pieces_once t = rw kind_there
