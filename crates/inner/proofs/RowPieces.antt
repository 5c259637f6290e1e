-- The elements of a message one after another, as the loops go through them with the characters beside them: what is written, and how many bits it takes.
-- Assumes nothing.
use mathlib.Core.Path.{◌≡◌, refl, sym, ap, ◌∙◌}
use mathlib.Core.Bool.{Bool, true, false, cond, ◌&&◌}
use mathlib.Core.List.{List, [], ◌∷◌, ◌++◌}
use Prim.Native.Nat.{ℕ, suc, ◌+◌, ◌*◌, ◌-◌, ◌≤◌, ◌<◌, min}
use native.Mathlib.Omega.{arith}
use native.Mathlib.Numerals.{add-one}
use lib.ListN.{length, get_or, take, drop, length-append, length-take, length-drop, drop_of_length-le}
use lib.Seq.{drop-cons, drop-drop, take_all, length-take-le, get_or-take}
use lib.Dec.{eqb}
use native.Mathlib.Decide.{dec_lt}
use borrow.Author.Tests.{eq-eqb, ne_eqb}
use Rattle.words.proofs.Laws.{both_left, both_right}
use Rattle.bits.specs.Put.{Left, left}
use Rattle.kinds.specs.declared.Direction.{Direction}
use Rattle.elements.specs.declared.values.Element.{Element}
use Rattle.elements.specs.Writing.{put_pieces, pieces_fit, pieces_bits, element_pieces}
use Rattle.elements.specs.OneElement.{element_fits, element_bits, last_of}
use Rattle.kinds.specs.Elements.{kind_of}
use Rattle.kinds.specs.declared.Direction.TheVariants.{Downlink, Uplink}
use Rattle.fields.specs.Fields.{digits_in, width_of}
use Rattle.elements.proofs.Steps.{never}
use Rattle.elements.proofs.Measured.{length_element, argument_small}
use Rattle.elements.proofs.Pieces.{pieces_nil}
use Rattle.elements.proofs.Written.{bits_append, element_bits_is}
use Rattle.elements.proofs.Fitting.{element_fit}
use Rattle.inner.specs.Places.{row_fits, row_bits}
use Rattle.inner.specs.Writing.{row_pieces}
use Rattle.inner.proofs.Runs.{run_turn, run_full}
use Rattle.inner.proofs.HeaderWritten.{bits_none, fit_none, fit_join}
use Rattle.std.specs.Prelude.{None, Option, Some}

-- ---- a part of the text

-- the part of a text from a place to another, as the code lends it
abbrev pub part : ℕ → ℕ → List ℕ → List ℕ
part from to t = take (to - from) (drop from t)

-- the characters of an element that begin at `from`, as the code has them: up to `to`
module _ (t : List ℕ) (from to n : ℕ) (h : from ≤ length t) (e : to ≡ min (from + n) (length t)) where
  pub part_is : part from to t ≡ take n (drop from t)
  part_is =
      elim (dec_lt (length t) (from + n)) [
        | yes l ↦
            let k : length (drop from t) ≤ n = rw (length-drop from t) (omega arith) in
            let j : length (drop from t) ≤ to - from = rw (length-drop from t) (omega arith) in
            rw (take_all (to - from) (drop from t) j, take_all n (drop from t) k)
        | no l ↦
            let w : to - from ≡ n = omega arith in
            rw w
      ]

  pub part_rest : drop to t ≡ drop n (drop from t)
  part_rest =
      elim (dec_lt (length t) (from + n)) [
        | yes l ↦
            let u : length t ≤ to = omega arith in
            let v : length t ≤ from + n = omega arith in
            let a : drop to t ≡ [] = drop_of_length-le t u in
            let b : drop (from + n) t ≡ [] = drop_of_length-le t v in
            rw (drop-drop, a, b)
        | no l ↦
            let w : to ≡ from + n = omega arith in
            rw (drop-drop, w)
      ]

  pub part_within : to ≤ length t
  part_within = omega arith

-- the element at i of the first n
pub next_element : (ps : List Element) (n i : ℕ) (o : Element) → i < n → n ≤ length ps
    → drop i (take n ps) ≡ get_or ps i o ∷ drop (suc i) (take n ps)
next_element ps n i o h g =
    let l = length-take-le n ps g in
    drop-cons (take n ps) i o (omega arith) ∙ rw (get_or-take n ps i o h)

none_left : (ps : List Element) (n i : ℕ) → n ≤ i → drop i (take n ps) ≡ []
none_left ps n i h =
    let l = length-take n ps in
    let u : length (take n ps) ≤ i = omega arith in
    drop_of_length-le (take n ps) u

-- ---- written

row_cons : (d : Direction) (x : Element) (xs : List Element) (t : List ℕ)
    → row_pieces d (x ∷ xs) t ≡ element_pieces d x (take x.characters t) ++ row_pieces d xs (drop x.characters t)
unfolding row_pieces
row_cons d x xs t = refl

row_nil : (d : Direction) (t : List ℕ) → row_pieces d [] t ≡ []
unfolding row_pieces
row_nil d t = refl

module _ (d : Direction) (ps : List Element) (n : ℕ) (t s : List ℕ) (e i from p : ℕ) (z : Left) (inv : put_pieces s e p (row_pieces d (drop i (take n ps)) (drop from t)) ≡ z) where
  -- with the next of them, x
  module _ (x : Element) (g : drop i (take n ps) ≡ x ∷ drop (suc i) (take n ps)) (to : ℕ) (f : from ≤ length t) (m : to ≡ min (from + x.characters) (length t)) (u : List ℕ) (a : Option ℕ) (k : left a u ≡ put_pieces s e p (element_pieces d x (part from to t))) where
    split : put_pieces s e p (element_pieces d x (part from to t) ++ row_pieces d (drop (suc i) (take n ps)) (drop to t)) ≡ z
    split =
        let c : ℕ = x.characters in
        let q : row_pieces d (drop i (take n ps)) (drop from t) ≡ element_pieces d x (part from to t) ++ row_pieces d
        (drop (suc i) (take n ps)) (drop to t) = rw
        (g, row_cons, part_is t from to c f m, part_rest t from to c f m) in
        ap (put_pieces s e p) (sym q) ∙ inv

    pub row_turn : (q : ℕ) → a ≡ Some q → put_pieces u e q (row_pieces d (drop (i + 1) (take n ps)) (drop to t)) ≡ z
    row_turn q r = rw add-one (run_turn s e p (element_pieces d x (part from to t)) _ z split u a k q r)

    pub row_full : a ≡ None → left None u ≡ z
    row_full r = run_full s e p (element_pieces d x (part from to t)) _ z split u a k r

  pub row_done : n ≤ i → left (Some p) s ≡ z
  row_done h = rw (none_left ps n i h, row_nil, pieces_nil) at inv

-- ---- measured

fits_cons : (d : Direction) (x : Element) (xs : List Element) (t : List ℕ)
    → row_fits d (x ∷ xs) t ≡ element_fits d x (take x.characters t) && row_fits d xs (drop x.characters t)
unfolding row_fits
fits_cons d x xs t = refl

fits_nil : (d : Direction) (t : List ℕ) → row_fits d [] t ≡ eqb (length t) 0
unfolding row_fits
fits_nil d t = refl

bits_cons : (d : Direction) (x : Element) (xs : List Element) (t : List ℕ)
    → row_bits d (x ∷ xs) t ≡ element_bits d x (take x.characters t) ++ row_bits d xs (drop x.characters t)
unfolding row_bits
bits_cons d x xs t = refl

bits_nil : (d : Direction) (t : List ℕ) → row_bits d [] t ≡ []
unfolding row_bits
bits_nil d t = refl

-- no element takes more
abbrev pub element_most : ℕ
element_most = 1809

index_most : (d : Direction) → width_of (last_of d - 0) ≤ 8
unfolding last_of digits_in
index_most Downlink = omega arith
index_most Uplink = omega arith

pub element_most_is : (d : Direction) (x : Element) (t : List ℕ) → element_fits d x t ≡ true → length (element_bits d x t) ≤ element_most
element_most_is d x t h = omega (arith, length_element d x t, index_most d, argument_small d x t h (kind_of d x.number) refl)

-- the first i of n elements are measured: they take `total` bits, and their characters end at `from`
pub record Measured (d : Direction) (ps : List Element) (n : ℕ) (t : List ℕ) (i from total : ℕ) : Type 0 where
  pub fits : row_fits d (drop i (take n ps)) (drop from t) ≡ row_fits d (take n ps) t
  pub bits : total + length (row_bits d (drop i (take n ps)) (drop from t)) ≡ length (row_bits d (take n ps) t)
  pub most : total ≤ element_most * i

pub measured_start : (d : Direction) (ps : List Element) (n : ℕ) (t : List ℕ) → Measured d ps n t 0 0 0
measured_start d ps n t = record { fits = refl; bits = omega arith; most = omega arith }

abbrev pub sized : Bool → List ℕ → Option ℕ
sized ok bs = cond ok (Some (length bs)) None

pub sized_yes : (ok : Bool) (bs : List ℕ) (k : ℕ) → Some k ≡ sized ok bs → (ok ≡ true) × (k ≡ length bs)
sized_yes true bs k h = (refl, cc)
sized_yes false bs k h = never (cc)

pub sized_no : (ok : Bool) (bs : List ℕ) → None ≡ sized ok bs → ok ≡ false
sized_no true bs h = never (cc)
sized_no false bs h = refl

module _ (d : Direction) (ps : List Element) (n : ℕ) (t : List ℕ) (i from total : ℕ) (inv : Measured d ps n t i from total) where
  -- with the next of them, x
  module _ (x : Element) (g : drop i (take n ps) ≡ x ∷ drop (suc i) (take n ps)) (to : ℕ) (f : from ≤ length t) (m : to ≡ min (from + x.characters) (length t)) (r : Option ℕ) (k : r ≡ sized (element_fits d x (part from to t)) (element_bits d x (part from to t))) where
    next_fits : element_fits d x (part from to t) && row_fits d (drop (suc i) (take n ps)) (drop to t) ≡ row_fits d (take n ps) t
    next_fits = sym (rw (g, fits_cons, ← part_is t from to x.characters f m, ← part_rest t from to x.characters f m) refl) ∙ inv.fits

    next_bits : row_bits d (drop i (take n ps)) (drop from t) ≡ element_bits d x (part from to t) ++ row_bits d
        (drop (suc i) (take n ps)) (drop to t)
    next_bits = rw (g, bits_cons, part_is t from to x.characters f m, part_rest t from to x.characters f m)

    pub measured_turn : (c : ℕ) → r ≡ Some c → Measured d ps n t (i + 1) to (total + c)
    measured_turn c q =
        let y = sized_yes (element_fits d x (part from to t)) (element_bits d x (part from to t)) c (sym q ∙ k) in
        let w : total + c + length (row_bits d (drop (suc i) (take n ps)) (drop to t)) ≡ length (row_bits d (take n ps) t) =
        let a = inv.bits in
        let b = ap length next_bits ∙ length-append (element_bits d x (part from to t)) (row_bits d (drop (suc i) (take n ps)) (drop to t)) in
        let j = y.1 in
        omega arith in
        record {
          fits = rw add-one (rw y.0 at next_fits);
          bits = rw add-one w;
          most = let a = inv.most in let b = element_most_is d x (part from to t) y.0 in let j = y.1 in omega arith;
        }

    pub measured_bad : r ≡ None → None ≡ sized (row_fits d (take n ps) t) (row_bits d (take n ps) t)
    measured_bad q =
        let y = sized_no (element_fits d x (part from to t)) (element_bits d x (part from to t)) (sym q ∙ k) in
        let w : false ≡ row_fits d (take n ps) t = rw y at next_fits in
        rw (← w)

    pub measured_small : (c : ℕ) → r ≡ Some c → c ≤ element_most
    measured_small c q =
        let y = sized_yes (element_fits d x (part from to t)) (element_bits d x (part from to t)) c (sym q ∙ k) in
        let b = element_most_is d x (part from to t) y.0 in
        let j = y.1 in
        omega arith

  module _ (h : n ≤ i) where
    whole_fits : eqb (length (drop from t)) 0 ≡ row_fits d (take n ps) t
    whole_fits = rw (none_left ps n i h, fits_nil) at inv.fits

    pub measured_done : from ≡ length t → Some total ≡ sized (row_fits d (take n ps) t) (row_bits d (take n ps) t)
    measured_done f =
        let l = length-drop from t in
        let y : total + length (row_bits d [] (drop from t)) ≡ length (row_bits d (take n ps) t) = rw (none_left ps n i h) at inv.bits in
        let w : total ≡ length (row_bits d (take n ps) t) = let b = ap length (bits_nil d (drop from t)) in omega arith in
        rw (← whole_fits, eq-eqb (length (drop from t)) 0 (omega arith), ← w)

    pub measured_over : from ≤ length t → (from ≡ length t → ⊥) → None ≡ sized (row_fits d (take n ps) t) (row_bits d (take n ps) t)
    measured_over g f =
        let l = length-drop from t in
        rw (← whole_fits, ne_eqb (length (drop from t)) 0 (λ (q : length (drop from t) ≡ 0). f (omega arith)))

-- ---- the pieces of elements are their bits, and fit where they do

pub row_bits_is : (d : Direction) (xs : List Element) (t : List ℕ) → pieces_bits (row_pieces d xs t) ≡ row_bits d xs t
unfolding row_pieces row_bits
row_bits_is d [] t = bits_none
row_bits_is d (x ∷ xs) t = rw (bits_append, element_bits_is, row_bits_is d xs (drop x.characters t))

pub row_fit : (d : Direction) (xs : List Element) (t : List ℕ) → row_fits d xs t ≡ true → pieces_fit (row_pieces d xs t) ≡ true
unfolding row_pieces row_fits
row_fit d [] t h = fit_none
row_fit d (x ∷ xs) t h =
    let c : ℕ = x.characters in
    fit_join (element_pieces d x (take c t)) (row_pieces d xs (drop c t))
    (element_fit d x (take c t) (both_left (element_fits d x (take c t)) (row_fits d xs (drop c t)) h))
    (row_fit d xs (drop c t) (both_right (element_fits d x (take c t)) (row_fits d xs (drop c t)) h))
