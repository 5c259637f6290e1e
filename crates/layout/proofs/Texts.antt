-- The characters of elements, as the code copies them into a text.
-- Assumes nothing.
use mathlib.Core.Path.{◌≡◌, refl, sym, ap, ◌∙◌}
use mathlib.Core.Bool.{Bool, true, false, ◌&&◌}
use mathlib.Core.List.{List, [], ◌∷◌, ◌++◌}
use Prim.Native.Nat.{ℕ, zero, suc, ◌+◌, ◌*◌, ◌-◌, ◌/◌, ◌%◌, ◌^◌, ◌≤◌, ◌<◌}
use native.Mathlib.Omega.{arith}
use native.Mathlib.Nat.{add-zero, zero-add, suc-add}
use native.Mathlib.Numerals.{add-one}
use lib.ListN.{length, take, drop, set, get_or, length-append}
use lib.Seq.{sets, sets-eq, length-sets, take-length, get_or-set_same, get_or-set_other}
use lib.Dec.{eqb}
use borrow.Author.Tests.{eqb-true, eqb-false, le-leb}
use Rattle.words.proofs.Laws.{both_right}
use Rattle.bits.specs.Bits.{bits_n, num_of}
use Rattle.bits.specs.Read.{read_bits}
use Rattle.bits.proofs.Numbers.{Bits, bits_n_part, num_bits_n}
use Rattle.bits.proofs.Bytes.{holds_within, part_bits}
use Rattle.bits.proofs.Reading.{number_is}
use Rattle.fields.specs.Fields.{Reading, onto}
use Rattle.fields.specs.Encodings.{whole_fits}
use Rattle.kinds.specs.declared.Direction.{Direction}
use Rattle.kinds.specs.declared.ArgumentKind.{ArgumentKind}
use Rattle.kinds.specs.declared.ArgumentKind.TheVariants as kind
use Rattle.elements.specs.declared.values.Element.{Element}
use Rattle.kinds.specs.Elements.{kind_of}
use Rattle.elements.specs.Arguments.{characters_bits, characters_in, level_fits, time_fits, code_fits_of, facility_bits}
use Rattle.elements.specs.OneElement.{element_at, element_fits, element_bits, last_of, text_of, argument_fits, argument_bits, level_unused, levels_unused, time_unused, code_unused, plain, no_text_of}
use Rattle.elements.proofs.Steps.{never}
use Rattle.elements.proofs.ReadBack.{parts}
use Rattle.elements.proofs.Texts.{length_characters, length_characters_bits, characters_found, characters_fit_is, characters_stand}
use Rattle.elements.proofs.Measured.{length_element, length_sized, length_facility}
use Rattle.elements.proofs.Placed.{element_stands}
use Rattle.inner.specs.Places.{no_text, text_at}
use Rattle.layout.specs.Rows.{texts_of}
use Rattle.layout.proofs.Copied.{sets_append}
use Rattle.std.specs.Prelude.{None, Ok, Option, Some}

-- ---- bits that are there, as a number

module _ (l : List ℕ) (at n : ℕ) (r : Option (ℕ × ℕ)) (e : r ≡ read_bits l at n) where
  pub number_there : (v next : ℕ) → r ≡ Some (v, next) → v ≡ num_of (take n (drop at l))
  number_there v next q = (number_is l at n v next (sym e ∙ q)).value

  pub not_short : at + n ≤ length l → n ≤ 64 → r ≡ None → {A : Type 0} → A
  unfolding read_bits
  not_short h w q = let z : ◌≡◌ {A = Option (ℕ × ℕ)} (Some (num_of (take n (drop at l)), at + n)) None = rw
      (le-leb n 64 w, le-leb (at + n) (length l) h) at (sym e ∙ q) in never (cc)

-- ---- characters one after another

characters_suc : (l : List ℕ) (at n : ℕ) → characters_in l at (suc n) ≡ num_of (take 7 (drop at l)) ∷ characters_in l (at + 7) n
unfolding characters_in
characters_suc l at n = refl

characters_none : (l : List ℕ) (at : ℕ) → characters_in l at 0 ≡ []
unfolding characters_in
characters_none l at = refl

pub characters_start : (z l : List ℕ) (from at n : ℕ)
    → sets z (from + 0) (characters_in l (at + 7 * 0) (n - 0)) ≡ sets z from (characters_in l at n)
characters_start z l from at n =
    let a : from + 0 ≡ from = omega arith in
    let b : at + 7 * 0 ≡ at = omega arith in
    let c : n - 0 ≡ n = omega arith in
    rw (a, b, c)

module _ (z l o : List ℕ) (from at n i : ℕ) (inv : sets z (from + i) (characters_in l (at + 7 * i) (n - i)) ≡ o) where
  pub characters_turn : i < n → (v : ℕ) → v ≡ num_of (take 7 (drop (at + 7 * i) l))
      → sets (set z (from + i) v) (from + (i + 1)) (characters_in l (at + 7 * (i + 1)) (n - (i + 1))) ≡ o
  characters_turn h v e =
      let a : n - i ≡ suc (n - (i + 1)) = omega arith in
      let b : from + (i + 1) ≡ suc (from + i) = omega arith in
      let c : at + 7 * (i + 1) ≡ at + 7 * i + 7 = omega arith in
      rw (b, c, e) (rw (a, characters_suc) at inv)

  pub characters_done : n ≤ i → z ≡ o
  characters_done h = let a : n - i ≡ 0 = omega arith in rw (a, characters_none) at inv

-- ---- characters eight at a time

characters_add : (l : List ℕ) (at m n : ℕ) → characters_in l at (m + n) ≡ characters_in l at m ++ characters_in l (at + 7 * m) n
characters_add l at zero n =
    let a : at + 7 * 0 ≡ at = omega arith in
    rw (zero-add n, characters_none, a)
characters_add l at (suc m) n =
    let a : at + 7 + 7 * m ≡ at + 7 * suc m = omega arith in
    rw (suc-add m n, characters_suc, characters_suc, characters_add l (at + 7) m n, a)

pub eight_turn : (z z' l o : List ℕ) (from at n i : ℕ) → 8 ≤ n - i
    → sets z (from + i) (characters_in l (at + 7 * i) (n - i)) ≡ o
    → z' ≡ sets z (from + i) (characters_in l (at + 7 * i) 8)
    → sets z' (from + (i + 8)) (characters_in l (at + 7 * (i + 8)) (n - (i + 8))) ≡ o
eight_turn z z' l o from at n i h inv e =
    let a : n - i ≡ 8 + (n - (i + 8)) = omega arith in
    let b : from + i + 8 ≡ from + (i + 8) = omega arith in
    let c : at + 7 * i + 7 * 8 ≡ at + 7 * (i + 8) = omega arith in
    rw e (rw (a, characters_add, sets_append, length_characters (l) (at + 7 * i) 8, b, c) at inv)

pub eights_turn : (z z' l o : List ℕ) (from at n k : ℕ) → k < n / 8
    → sets z (from + 8 * k) (characters_in l (at + 7 * (8 * k)) (n - 8 * k)) ≡ o
    → z' ≡ sets z (from + 8 * k) (characters_in l (at + 56 * k) 8)
    → sets z' (from + 8 * (k + 1)) (characters_in l (at + 7 * (8 * (k + 1))) (n - 8 * (k + 1))) ≡ o
eights_turn z z' l o from at n k h inv e =
    let a : 8 * (k + 1) ≡ 8 * k + 8 = omega arith in
    let b : 56 * k ≡ 7 * (8 * k) = omega arith in
    rw a (eight_turn z z' l o from at n (8 * k) (omega arith) inv (rw b at e))

pub eights_done : (z z' l o : List ℕ) (from at n k : ℕ) → n / 8 ≤ k → k ≤ n / 8
    → sets z (from + 8 * k) (characters_in l (at + 7 * (8 * k)) (n - 8 * k)) ≡ o
    → z' ≡ sets z (from + (n - n % 8)) (characters_in l (at + 7 * (n - n % 8)) (n % 8)) → z' ≡ o
eights_done z z' l o from at n k h g inv e =
    let a : 8 * k ≡ n - n % 8 = omega arith in
    let b : n - (n - n % 8) ≡ n % 8 = omega arith in
    e ∙ (rw (a, b) at inv)

-- the characters that a number says
pub spread_at : (n v i : ℕ) → i < n → v / 2 ^ (7 * (n - 1 - i)) % 128 ≡ num_of (take 7 (drop (0 + 7 * i) (bits_n (7 * n) v)))
spread_at n v i h =
    let e : 7 * n ≡ 7 * i + (7 + 7 * (n - 1 - i)) = omega arith in
    let f : 0 + 7 * i ≡ 7 * i = omega arith in
    sym (ap (λ (j : ℕ). num_of (take 7 (drop (0 + 7 * i) (bits_n j v)))) e ∙ rw
    (f, bits_n_part (7 * i) 7 (7 * (n - 1 - i)) v) (num_bits_n 7 (v / 2 ^ (7 * (n - 1 - i)))))

-- and those of the bits that say the number
pub few_are : (z l t : List ℕ) (from at n k v : ℕ) → Bits l → k ≡ 7 * n → at + 7 * n ≤ length l
    → v ≡ num_of (take k (drop at l)) → z ≡ sets t from (characters_in (bits_n (7 * n) v) 0 n)
    → z ≡ sets t from (characters_in l at n)
few_are z l t from at n k v b m h e q =
    let c : length (characters_in l at n) ≡ n = length_characters l at n in
    let w : length (characters_bits (characters_in l at n)) ≡ 7 * n = length_characters_bits (characters_in l at n) ∙ ap (λ (j : ℕ). 7 * j) c in
    let p : take (7 * n) (drop at l) ≡ bits_n (7 * n) v = part_bits l at (7 * n) b h ∙ ap (bits_n (7 * n)) (sym (rw m at e)) in
    let y : bits_n (7 * n) v ≡ characters_bits (characters_in l at n) = sym p ∙ (rw w at (characters_stand l at n b h)) in
    let g : characters_in (characters_bits (characters_in l at n)) 0 (length (characters_in l at n)) ≡ characters_in l at n =
    characters_found (characters_bits (characters_in l at n)) 0 (characters_in l at n) (characters_fit_is l at n b h)
    (take-length (characters_bits (characters_in l at n))) in
    let o : characters_in (bits_n (7 * n) v) 0 n ≡ characters_in l at n = rw y (rw c at g) in
    q ∙ ap (sets t from) o

-- ---- an element's characters are the last of its bits

argument_holds : (k : ArgumentKind) (e : Element) (t : List ℕ) → argument_fits k e t ≡ true → 7 * length t ≤ length (argument_bits k e t)
unfolding argument_fits argument_bits levels_unused
argument_holds kind.NotCarried e t p = never (cc)
argument_holds kind.None e t p = omega (arith, eqb-true (length t) 0 (both_right (plain e) (no_text_of t) p))
argument_holds kind.Level e t p = omega (
  arith,
  eqb-true (length t) 0 (parts (level_fits e.level)
      (level_unused e.other) (time_unused e.time) (code_unused e.code) (no_text_of t) p).fifth,
)
argument_holds kind.TwoLevels e t p = omega (
  arith,
  eqb-true (length t) 0 (parts (level_fits e.level)
      (level_fits e.other) (time_unused e.time) (code_unused e.code) (no_text_of t) p).fifth,
)
argument_holds kind.Time e t p = omega (
  arith,
  eqb-true (length t) 0 (parts (level_unused e.level)
      (level_unused e.other) (time_fits e.time) (code_unused e.code) (no_text_of t) p).fifth,
)
argument_holds kind.Code e t p = omega (
  arith,
  eqb-true (length t) 0 (parts (level_unused e.level)
      (level_unused e.other) (time_unused e.time) (code_fits_of e.code) (no_text_of t) p).fifth,
)
argument_holds kind.FreeText e t p = omega (arith, length_sized 1 256 t)
argument_holds kind.Facility e t p = facility t
  where
    facility : (t : List ℕ) → 7 * length t ≤ length (facility_bits t)
    facility [] = omega arith
    facility (c ∷ cs) = omega (arith, length_facility (c ∷ cs) (λ (z : suc (length cs) ≡ 0). omega arith), length_sized 4 8 (c ∷ cs))
argument_holds kind.FacilityDesignation e t p = omega (arith, length_sized 4 8 t)
argument_holds kind.AtisCode e t p = omega (arith, length_characters_bits t)

its_argument : (d : Direction) (e : Element) (t : List ℕ) → element_fits d e t ≡ true → argument_fits (kind_of d e.number) e t ≡ true
unfolding element_fits
its_argument d e t p = both_right (whole_fits 0 (last_of d) e.number && eqb e.characters (length t))
    (argument_fits (kind_of d e.number) e t) p

pub record Inside (l : List ℕ) (at next n : ℕ) : Type 0 where
  pub after : at + 7 * n ≤ next
  pub within : next ≤ length l

pub element_inside : (d : Direction) (l : List ℕ) (at next : ℕ) (e : Element) (f : Reading Element) → Bits l → f ≡ element_at d l at
    → f ≡ Ok (e, next) → Inside l at next e.characters
element_inside d l at next e f b h q =
    let t : List ℕ = text_of l e next in
    let s = element_stands d l at next e b (sym h ∙ q) in
    let n : length t ≡ e.characters = length_characters l (next - 7 * e.characters) e.characters in
    let a = length_element d e t in
    let c = argument_holds (kind_of d e.number) e t (its_argument d e t s.fits) in
    let p = s.place in
    let w = holds_within l at (element_bits d e t) (omega arith) s.holds in
    record { after = omega arith; within = omega arith }

-- ---- the characters of elements

pub text_suc : (d : Direction) (l : List ℕ) (at n : ℕ)
    → text_at d l at (suc n) ≡ onto no_text (element_at d l at) (λ (e : Element) (next : ℕ). text_of l e next ++ text_at d l next n)
unfolding text_at
text_suc d l at n = refl

pub text_none : (d : Direction) (l : List ℕ) (at : ℕ) → text_at d l at 0 ≡ []
unfolding text_at
text_none d l at = refl

pub texts_suc : (l cs fs : List ℕ) (k : ℕ) → texts_of l cs fs (suc k) ≡ texts_of l cs fs k ++ characters_in l (get_or fs k 0) (get_or cs k 0)
unfolding texts_of
texts_suc l cs fs k = refl

texts_grow : (l cs fs : List ℕ) (k j : ℕ) → length (texts_of l cs fs k) ≤ length (texts_of l cs fs (k + j))
texts_grow l cs fs k zero = rw (add-zero k) (omega arith)
texts_grow l cs fs k (suc j) =
    let e : k + suc j ≡ suc (k + j) = omega arith in
    let a = texts_grow l cs fs k j in
    let b = length-append (texts_of l cs fs (k + j)) (characters_in l (get_or fs (k + j) 0) (get_or cs (k + j) 0)) in
    rw (e, texts_suc) (omega arith)

-- those of the first k elements are copied, up to place t of the text
pub record Taken (l cs fs z₀ : List ℕ) (k t : ℕ) (z : List ℕ) : Type 0 where
  pub count : t ≡ length (texts_of l cs fs k)
  pub text : z ≡ sets z₀ 0 (texts_of l cs fs k)

pub taken_start : (l cs fs z : List ℕ) → Taken l cs fs z 0 0 z
unfolding texts_of
taken_start l cs fs z = record { count = refl; text = refl }

module _ (l cs fs z₀ : List ℕ) (k t : ℕ) (z : List ℕ) (inv : Taken l cs fs z₀ k t z) where
  pub taken_size : length z ≡ length z₀
  taken_size = ap length inv.text ∙ length-sets z₀ 0 (texts_of l cs fs k)

  one_longer : length (texts_of l cs fs (suc k)) ≡ t + get_or cs k 0
  one_longer = rw (texts_suc, length-append, length_characters, ← inv.count)

  pub taken_room : (n : ℕ) → k < n → length (texts_of l cs fs n) ≤ length z₀ → t + get_or cs k 0 ≤ length z
  taken_room n h r =
      let e : suc k + (n - suc k) ≡ n = omega arith in
      let g : length (texts_of l cs fs (suc k)) ≤ length (texts_of l cs fs n) = rw e at (texts_grow l cs fs (suc k) (n - suc k)) in
      let a = one_longer in
      let b = taken_size in
      omega arith

  pub taken_turn : (y : List ℕ) → y ≡ sets z t (characters_in l (get_or fs k 0) (get_or cs k 0)) → Taken l cs fs z₀ (k + 1) (t + get_or cs k 0) y
  taken_turn y e =
      let a : sets z₀ 0 (texts_of l cs fs (suc k)) ≡ sets z t (characters_in l (get_or fs k 0) (get_or cs k 0)) = rw
      (texts_suc, sets_append, zero-add, ← inv.count, ← inv.text) in
      record { count = rw (add-one k) (sym one_longer); text = rw (add-one k) (e ∙ sym a) }

  pub taken_done : (n : ℕ) → k ≤ n → n ≤ k → (t ≡ length (texts_of l cs fs n)) × (z ≡ sets z₀ 0 (texts_of l cs fs n))
  taken_done n h g = let e : k ≡ n = omega arith in (rw (← e) inv.count, rw (← e) inv.text)

-- the two lists changed behind the first k elements
pub texts_frame : (l cs fs : List ℕ) (k i x y : ℕ) → k ≤ i → texts_of l (set cs i x) (set fs i y) k ≡ texts_of l cs fs k
unfolding texts_of
texts_frame l cs fs zero i x y h = refl
texts_frame l cs fs (suc k) i x y h =
    let n : k ≡ i → ⊥ = λ (e : k ≡ i). omega arith in
    rw (
      texts_suc,
      texts_suc,
      texts_frame l cs fs k i x y (omega arith),
      get_or-set_other cs i k x 0 n,
      get_or-set_other fs i k y 0 n,
    )

module _ (l cs fs : List ℕ) (i x y : ℕ) (h : i < length cs) (g : i < length fs) where
  pub texts_more : texts_of l (set cs i x) (set fs i y) (suc i) ≡ texts_of l cs fs i ++ characters_in l y x
  texts_more = rw (texts_suc, texts_frame l cs fs i i x y (omega arith), get_or-set_same cs i x 0 h, get_or-set_same fs i y 0 g)

  -- where they end
  pub inside_more : y + 7 * x ≤ length l → ((k : ℕ) → k < i → get_or fs k 0 + 7 * get_or cs k 0 ≤ length l)
      → (k : ℕ) → k < suc i → get_or (set fs i y) k 0 + 7 * get_or (set cs i x) k 0 ≤ length l
  inside_more e rest k m = go (eqb k i) refl
    where
      go : (t : Bool) → eqb k i ≡ t → get_or (set fs i y) k 0 + 7 * get_or (set cs i x) k 0 ≤ length l
      go true z = let u : k ≡ i = eqb-true k i z in rw (u, get_or-set_same cs i x 0 h, get_or-set_same fs i y 0 g) e
      go false z =
          let u : k ≡ i → ⊥ = eqb-false k i z in
          rw (get_or-set_other cs i k x 0 u, get_or-set_other fs i k y 0 u) (rest k (below u))
        where
          below : (k ≡ i → ⊥) → k < i
          below u = omega (arith, u)

-- what was copied lies before the bytes that stay
pub copied_front : (z t : List ℕ) → length t ≤ length z → sets z 0 t ≡ t ++ drop (length t) z
copied_front z t h = sets-eq t z 0 (omega arith) ∙ (let e : 0 + length t ≡ length t = omega arith in rw e)
