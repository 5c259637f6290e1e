-- Laws of numbers in groups of seven bits: what is written is read back, what is read is what is written, and bytes
-- that follow change no answer but CUT. Then what the loops of the reader and the writer keep.
-- Assumes nothing.
use mathlib.Core.Path.{◌≡◌, refl, ap, sym, ◌∙◌}
use mathlib.Core.Bool.{Bool, true, false, cond, ◌&&◌}
use mathlib.Core.List.{List, [], ◌∷◌, ◌++◌}
use Prim.Native.Nat.{ℕ, zero, suc, ◌+◌, ◌-◌, ◌*◌, ◌/◌, ◌%◌, ◌^◌, ◌≤◌, ◌<◌}
use native.Mathlib.Omega.{arith}
use native.Mathlib.Numerals.{add-one}
use native.Mathlib.Decide.{dec_lt}
use native.Mathlib.Nat.{add-mul, mul_comm, mul_assoc, zero-mul, one-mul}
use lib.Dec.{ltb, eqb}
use lib.ListN.{length, get_or, drop, drop_of_length-le}
use lib.Seq.{drop-cons}
use lib.Pow.{pow_mono, pow-add}
use lib.Arith.{digits_lt}
use borrow.Author.Tests.{ltb-true, ltb-false, eqb-false, le-ltb, lt-ltb, eq-eqb, ne_eqb}
use Rattle.words.proofs.Laws.{ok_value, ok_place}
use Rattle.envelope.specs.Numbers.{NumberRead, groups, below, number_in, onward, number_at}
use Rattle.envelope.specs.declared.EnvelopeRefusal.TheVariants.{Cut, Groups}
use Rattle.std.specs.Prelude.{Err, Ok}

-- every element is a byte
abbrev pub AllBytes : List ℕ → Type 0
AllBytes l = (k : ℕ) → get_or l k 0 < 256

never : {A : Type 0} → ◌≡◌ {A = ℕ} 0 1 → A
never z = absurd (omega arith)

-- ---- the clauses of the definitions

pub number_nil : (f : ℕ) → number_in f [] ≡ Err Cut
unfolding number_in
number_nil zero = refl
number_nil (suc f) = refl

number_last : (b : ℕ) (bs : List ℕ) → number_in zero (b ∷ bs) ≡ cond (ltb 1 b) (Err Groups) (Ok (b, 1))
unfolding number_in
number_last b bs = refl

number_more : (f b : ℕ) (bs : List ℕ) → number_in (suc f) (b ∷ bs) ≡ cond (ltb b 128) (Ok (b, 1)) (below (b - 128) (number_in f bs))
unfolding number_in
number_more f b bs = refl

pub groups_one : (f n : ℕ) → n < 128 → groups f n ≡ n ∷ []
unfolding groups
groups_one zero n h = refl
groups_one (suc f) n h = rw (lt-ltb n 128 h)

pub groups_more : (f n : ℕ) → 128 ≤ n → groups (suc f) n ≡ (128 + n % 128) ∷ groups f (n / 128)
unfolding groups
groups_more f n h = rw (le-ltb n 128 h)

-- seven bits more
pub wider : (f : ℕ) → 2 ^ (7 * suc f + 1) ≡ 2 ^ (7 * f + 1) * 128
wider f = let e : 7 * suc f + 1 ≡ 7 * f + 1 + 7 = omega arith in rw (e, pow-add 2 (7 * f + 1) 7)

-- ---- what is written is read back

-- a group in front of a number that is read back
read_more : (f v : ℕ) (t : List ℕ) → 128 ≤ v
    → number_in f (groups f (v / 128) ++ t) ≡ Ok (v / 128, length (groups f (v / 128)))
    → number_in (suc f) (groups (suc f) v ++ t) ≡ Ok (v, length (groups (suc f) v))
read_more f v t h ih =
    let c : 128 + v % 128 - 128 ≡ v % 128 = omega arith in
    let z : v / 128 ≡ 0 → ⊥ = λ (z : v / 128 ≡ 0). omega arith in
    let q : v % 128 + 128 * (v / 128) ≡ v = omega arith in
    rw (
      groups_more f v h,
      number_more f (128 + v % 128) (groups f (v / 128) ++ t),
      le-ltb (128 + v % 128) 128
          (omega arith),
      ih,
      c,
      ne_eqb (v / 128) 0 z,
      q,
      add-one (length (groups f (v / 128))),
    )

read_one : (f v : ℕ) (t : List ℕ) → v < 128 → number_in (suc f) (groups (suc f) v ++ t) ≡ Ok (v, length (groups (suc f) v))
read_one f v t h = rw (groups_one (suc f) v h, number_more f v t, lt-ltb v 128 h)

either_read : (f v : ℕ) (t : List ℕ) (b : Bool) → ltb v 128 ≡ b
    → (number_in f (groups f (v / 128) ++ t) ≡ Ok (v / 128, length (groups f (v / 128))))
    → number_in (suc f) (groups (suc f) v ++ t) ≡ Ok (v, length (groups (suc f) v))
either_read f v t true e ih = read_one f v t (ltb-true v 128 e)
either_read f v t false e ih = read_more f v t (ltb-false v 128 e) ih

pub groups_read : (f v : ℕ) (t : List ℕ) → v < 2 ^ (7 * f + 1) → number_in f (groups f v ++ t) ≡ Ok (v, length (groups f v))
groups_read zero v t h = rw (groups_one 0 v (omega arith), number_last v t, le-ltb 1 v (omega arith))
groups_read (suc f) v t h =
    let w = wider f in
    either_read f v t (ltb v 128) refl (groups_read f (v / 128) t (omega arith))

-- ---- what is read is what is written

pub record NumberIs (f : ℕ) (l : List ℕ) (v n : ℕ) : Type 0 where
  pub small : v < 2 ^ (7 * f + 1)
  pub place : n ≡ length (groups f v)
  pub holds : l ≡ groups f v ++ drop n l

-- one byte below 128 that ends a number
ends : (f b v n : ℕ) (bs : List ℕ) → b < 128 → b < 2 ^ (7 * f + 1) → ◌≡◌ {A = NumberRead} (Ok (b, 1)) (Ok (v, n)) → NumberIs f (b ∷ bs) v n
ends f b v n bs h k e =
    let p : v ≡ b = sym (ok_value e) in
    let q : n ≡ 1 = sym (ok_place e) in
    rw (p, q) (record { small = k; place = rw (groups_one f b h); holds = rw (groups_one f b h) })

-- a group above which there is a number
joins : (f b x m : ℕ) (bs : List ℕ) → 128 ≤ b → b < 256 → (x ≡ 0 → ⊥) → NumberIs f bs x m
    → NumberIs (suc f) (b ∷ bs) (b - 128 + 128 * x) (m + 1)
joins f b x m bs h k z r =
    let w = wider f in
    let g : 128 ≤ b - 128 + 128 * x = omega arith in
    let d : (b - 128 + 128 * x) / 128 ≡ x = omega arith in
    let e : 128 + (b - 128 + 128 * x) % 128 ≡ b = omega arith in
    let t = groups_more f (b - 128 + 128 * x) g in
    record {
      small = omega (arith, r.small);
      place = rw (t, d, r.place, add-one (length (groups f x)));
      holds = rw (t, d, e, add-one m) (ap (λ (l : List ℕ). b ∷ l) r.holds);
    }

module _ (f b v n : ℕ) (bs : List ℕ) (byte : b < 256) (rest : (x m : ℕ) → number_in f bs ≡ Ok (x, m) → NumberIs f bs x m) where
  above : (x m : ℕ) (t : Bool) → eqb x 0 ≡ t → 128 ≤ b → NumberIs f bs x m
      → cond {A = NumberRead} t (Err Groups) (Ok (b - 128 + 128 * x, m + 1)) ≡ Ok (v, n) → NumberIs (suc f) (b ∷ bs) v n
  above x m true p k r q = never (cc)
  above x m false p k r q =
      let o : v ≡ b - 128 + 128 * x = sym (ok_value q) in
      let u : n ≡ m + 1 = sym (ok_place q) in
      rw (o, u) (joins f b x m bs k byte (eqb-false x 0 p) r)

  followed : (z : NumberRead) → number_in f bs ≡ z → 128 ≤ b → below (b - 128) z ≡ Ok (v, n) → NumberIs (suc f) (b ∷ bs) v n
  followed (Err r) p k q = never (cc)
  followed (Ok (x, m)) p k q = above x m (eqb x 0) refl k (rest x m p) q

  more_is : (t : Bool) → ltb b 128 ≡ t → cond {A = NumberRead} t (Ok (b, 1)) (below (b - 128) (number_in f bs)) ≡ Ok (v, n) → NumberIs (suc f) (b ∷ bs) v n
  more_is true p q =
      let k = ltb-true b 128 p in
      ends (suc f) b v n bs k (omega (arith, wider f, pow_mono {i = 1} {j = 7 * f + 1} (omega arith))) q
  more_is false p q = followed (number_in f bs) refl (ltb-false b 128 p) q

last_is : (b v n : ℕ) (bs : List ℕ) (t : Bool) → ltb 1 b ≡ t → cond {A = NumberRead} t (Err Groups) (Ok (b, 1)) ≡ Ok (v, n) → NumberIs zero (b ∷ bs) v n
last_is b v n bs true p q = never (cc)
last_is b v n bs false p q = let k = ltb-false 1 b p in ends 0 b v n bs (omega arith) (omega arith) q

pub groups_written : (f : ℕ) (l : List ℕ) (v n : ℕ) → AllBytes l → number_in f l ≡ Ok (v, n) → NumberIs f l v n
groups_written f [] v n h e = never (let z = number_nil f in cc)
groups_written zero (b ∷ bs) v n h e = last_is b v n bs (ltb 1 b) refl (rw (number_last b bs) at e)
groups_written (suc f) (b ∷ bs) v n h e =
    more_is f b v n bs (h 0)
    (λ (x m : ℕ) (p : number_in f bs ≡ Ok (x, m)). groups_written f bs x m (λ (k : ℕ). h (suc k)) p) (ltb b 128)
    refl (rw (number_more f b bs) at e)

-- ---- an answer other than CUT stays when bytes follow

-- CUT of what follows a group is CUT of the whole
cut_above : (c : ℕ) (y z : NumberRead) → below c y ≡ z → (z ≡ Err Cut → ⊥) → y ≡ Err Cut → ⊥
cut_above c y z e live p = live (sym e ∙ rw p)

more_stays : (f b : ℕ) (bs t : List ℕ) (z : NumberRead) (u : Bool) → ltb b 128 ≡ u
    → ((number_in f bs ≡ Err Cut → ⊥) → number_in f (bs ++ t) ≡ number_in f bs)
    → cond u (Ok (b, 1)) (below (b - 128) (number_in f bs)) ≡ z → (z ≡ Err Cut → ⊥)
    → number_in (suc f) (b ∷ (bs ++ t)) ≡ z
more_stays f b bs t z true p ih e live = rw (number_more f b (bs ++ t), p) e
more_stays f b bs t z false p ih e live = rw (number_more f b (bs ++ t), p, ih (cut_above (b - 128) (number_in f bs) z e live)) e

pub stays : (f : ℕ) (l t : List ℕ) (z : NumberRead) → number_in f l ≡ z → (z ≡ Err Cut → ⊥) → number_in f (l ++ t) ≡ z
stays f [] t z e live = absurd (live (sym e ∙ number_nil f))
stays zero (b ∷ bs) t z e live = number_last b (bs ++ t) ∙ (sym (number_last b bs) ∙ e)
stays (suc f) (b ∷ bs) t z e live =
    more_stays f b bs t z (ltb b 128) refl
    (λ (q : number_in f bs ≡ Err Cut → ⊥). stays f bs t (number_in f bs) refl q) (sym (number_more f b bs) ∙ e)
    live

-- ---- the reader's loop

-- what was read, v below the weight w in i groups before p, under what is left to read
abbrev pub gathered : ℕ → ℕ → ℕ → ℕ → NumberRead → NumberRead
gathered i v w p (Ok (x, n)) = cond (ltb 0 i && eqb x 0) (Err Groups) (Ok (v + x * w, p + n))
gathered i v w p (Err r) = Err r

pub record Gathers (s : List ℕ) (at i p v w : ℕ) : Type 0 where
  pub count : i ≤ 9
  pub weight : w ≡ 2 ^ (7 * i)
  pub small : v < w
  pub rest : gathered i v w p (number_in (9 - i) (drop p s)) ≡ number_at s at

-- the loop's sums fit
pub record Fits (v w c : ℕ) : Type 0 where
  pub part : c * w < 2 ^ 63
  pub sum : v + c * w < w * 128
  pub next : w * 128 ≤ 2 ^ 63

pub sums_fit : (i v w c : ℕ) → i < 9 → w ≡ 2 ^ (7 * i) → v < w → c < 128 → Fits v w c
sums_fit i v w c h e s g =
    let m : 2 ^ (7 * i) ≤ 2 ^ 56 = pow_mono {i = 7 * i} {j = 56} (omega arith) in
    let d : c * w + v < 128 * w = digits_lt g s in
    record { part = omega arith; sum = omega arith; next = omega arith }

pub last_weight : (i w : ℕ) → 9 ≤ i → i ≤ 9 → w ≡ 2 ^ (7 * i) → w ≡ 9223372036854775808
last_weight i w h g e = let z : i ≡ 9 = omega arith in e ∙ rw z

front : (s : List ℕ) (p : ℕ) → p < length s → drop p s ≡ get_or s p 0 ∷ drop (p + 1) s
front s p h = rw (add-one p) (drop-cons s p 0 h)

not_both : (t : Bool) → (t && false) ≡ false
not_both true = refl
not_both false = refl

-- a group moves from what is left to what was read
moves : (i v w p c : ℕ) (z : NumberRead) → gathered i v w p (below c z) ≡ gathered (i + 1) (v + c * w) (w * 128) (p + 1) z
moves i v w p c (Err r) = refl
moves i v w p c (Ok (zero, n)) = rw (lt-ltb 0 (i + 1) (omega arith))
moves i v w p c (Ok (suc x, n)) =
    let z : suc x ≡ 0 → ⊥ = λ (q : suc x ≡ 0). omega arith in
    let y : c + 128 * suc x ≡ 0 → ⊥ = λ (q : c + 128 * suc x ≡ 0). omega arith in
    let a : 128 * suc x * w ≡ suc x * (w * 128) = rw (mul_comm 128 (suc x), mul_assoc (suc x) 128 w, mul_comm 128 w) in
    let b : v + (c + 128 * suc x) * w ≡ v + c * w + suc x * (w * 128) = rw (add-mul c (128 * suc x) w, a) (omega arith) in
    let d : p + (n + 1) ≡ p + 1 + n = omega arith in
    rw (ne_eqb (suc x) 0 z, ne_eqb (c + 128 * suc x) 0 y, not_both (ltb 0 i), not_both (ltb 0 (i + 1)), b, d)

pub gathers_none : (s : List ℕ) (at : ℕ) → Gathers s at 0 at 0 1
unfolding number_at
gathers_none s at = record { count = omega arith; weight = refl; small = omega arith; rest = start (number_in 9 (drop at s)) }
  where
    start : (z : NumberRead) → gathered 0 0 1 at z ≡ onward at z
    start (Ok (x, n)) = let e : 0 + x * 1 ≡ x = omega arith in rw e
    start (Err r) = refl

module _ (s : List ℕ) (at i p v w b : ℕ) (r : Gathers s at i p v w) where
  pub gathers_more : i < 9 → p < length s → b ≡ get_or s p 0 → 128 ≤ b → b < 256 → Gathers s at (i + 1) (p + 1) (v + (b - 128) * w) (w * 128)
  gathers_more h g e k l =
      let m = sums_fit i v w (b - 128) h r.weight r.small (omega arith) in
      let f : 9 - i ≡ suc (9 - (i + 1)) = omega arith in
      let q : 7 * (i + 1) ≡ 7 * i + 7 = omega arith in
      let j : 128 ≤ get_or s p 0 = rw e at k in
      record {
        count = omega arith;
        weight = rw (q, pow-add 2 (7 * i) 7, r.weight);
        small = m.sum;
        rest =
            sym (moves i v w p (b - 128) (number_in (9 - (i + 1)) (drop (p + 1) s))) ∙ rw e (rw
            (f, front s p g, number_more (9 - (i + 1)) (get_or s p 0) (drop (p + 1) s), le-ltb (get_or s p 0) 128 j)
            at r.rest);
      }

  pub cut_here : length s ≤ p → Err Cut ≡ number_at s at
  cut_here g = rw (drop_of_length-le s g, number_nil (9 - i)) at r.rest

  -- a byte below 128 ends the number
  ended : i < 9 → p < length s → b ≡ get_or s p 0 → b < 128
      → cond (ltb 0 i && eqb b 0) (Err Groups) (Ok (v + b * w, p + 1)) ≡ number_at s at
  ended h g e k =
      let f : 9 - i ≡ suc (8 - i) = omega arith in
      rw (f, front s p g, number_more (8 - i) (get_or s p 0) (drop (p + 1) s), ← e, lt-ltb b 128 k) at r.rest

  pub ends_value : i < 9 → p < length s → b ≡ get_or s p 0 → b < 128 → 0 < b → Ok (v + b * w, p + 1) ≡ number_at s at
  ends_value h g e k l =
      let z : b ≡ 0 → ⊥ = λ (q : b ≡ 0). omega arith in
      rw (ne_eqb b 0 z, not_both (ltb 0 i)) at (ended h g e k)

  pub ends_longer : i < 9 → p < length s → b ≡ get_or s p 0 → b < 128 → b ≤ 0 → 0 < i → Err Groups ≡ number_at s at
  ends_longer h g e k l o =
      let z : b ≡ 0 = omega arith in
      rw (lt-ltb 0 i o, eq-eqb b 0 z) at (ended h g e k)

  pub ends_zero : i < 9 → p < length s → b ≡ get_or s p 0 → b < 128 → b ≤ 0 → i ≤ 0 → Ok (0, p + 1) ≡ number_at s at
  ends_zero h g e k l o =
      let z : i ≡ 0 = omega arith in
      let y : b ≡ 0 = omega arith in
      let u : w ≡ 1 = r.weight ∙ rw z in
      let n : v + b * w ≡ 0 = rw (y, zero-mul w) (omega (arith, r.small)) in
      rw (le-ltb 0 i o, n) at (ended h g e k)

  -- after nine groups
  tenth : 9 ≤ i → p < length s → b ≡ get_or s p 0 → gathered i v w p (cond (ltb 1 b) (Err Groups) (Ok (b, 1))) ≡ number_at s at
  tenth h g e =
      let f : 9 - i ≡ 0 = omega arith in
      rw (f, front s p g, number_last (get_or s p 0) (drop (p + 1) s), ← e) at r.rest

  pub tenth_large : 9 ≤ i → p < length s → b ≡ get_or s p 0 → 1 < b → Err Groups ≡ number_at s at
  tenth_large h g e k = rw (lt-ltb 1 b k) at (tenth h g e)

  pub tenth_zero : 9 ≤ i → p < length s → b ≡ get_or s p 0 → b ≤ 1 → b ≡ 0 → Err Groups ≡ number_at s at
  tenth_zero h g e k z = rw (le-ltb 1 b k, lt-ltb 0 i (omega arith), eq-eqb b 0 z) at (tenth h g e)

  pub tenth_other : 9 ≤ i → p < length s → b ≡ get_or s p 0 → (b ≡ 1 → ⊥) → Err Groups ≡ number_at s at
  tenth_other h g e k =
      elim (dec_lt 1 b) [
        | yes l ↦ tenth_large h g e l
        | no l ↦ tenth_zero h g e (omega arith) (omega arith)
      ]

  pub tenth_one : 9 ≤ i → p < length s → b ≡ get_or s p 0 → b ≡ 1 → Ok (v + w, p + 1) ≡ number_at s at
  tenth_one h g e o =
      let k : b ≤ 1 = omega arith in
      let z : b ≡ 0 → ⊥ = λ (q : b ≡ 0). omega arith in
      let x : v + b * w ≡ v + w = rw (o, one-mul w) in
      rw (le-ltb 1 b k, ne_eqb b 0 z, not_both (ltb 0 i), x) at (tenth h g e)

-- a number of one byte
pub one_byte : (s : List ℕ) (at b : ℕ) → at < length s → b ≡ get_or s at 0 → b < 128 → Ok (b, at + 1) ≡ number_at s at
one_byte s at b g e k =
    let v : 0 + b * 1 ≡ b = omega arith in
    rw v at (ended s at 0 at 0 1 b (gathers_none s at) (omega arith) g e k)

-- a number of two bytes, or what is no number after one that is followed
module _ (s : List ℕ) (at b : ℕ) (g : at < length s) (e : b ≡ get_or s at 0) (k : 128 ≤ b) (l : b < 256) where
  after_one : Gathers s at 1 (at + 1) (0 + (b - 128) * 1) (1 * 128)
  after_one = gathers_more s at 0 at 0 1 b (gathers_none s at) (omega arith) g e k l

  pub one_cut : length s ≤ at + 1 → Err Cut ≡ number_at s at
  one_cut h = cut_here s at 1 (at + 1) (0 + (b - 128) * 1) (1 * 128) 0 after_one h

  module _ (c : ℕ) (h : at + 1 < length s) (f : c ≡ get_or s (at + 1) 0) where
    pub one_longer : c ≤ 0 → Err Groups ≡ number_at s at
    one_longer z = ends_longer s at 1 (at + 1) (0 + (b - 128) * 1) (1 * 128) c after_one (omega arith) h f (omega arith) z (omega arith)

    pub two_bytes : 0 < c → c < 128 → Ok (b - 128 + c * 128, at + 2) ≡ number_at s at
    two_bytes z m =
        let v : 0 + (b - 128) * 1 + c * (1 * 128) ≡ b - 128 + c * 128 = omega arith in
        let p : at + 1 + 1 ≡ at + 2 = omega arith in
        rw (v, p) at (ends_value s at 1 (at + 1) (0 + (b - 128) * 1) (1 * 128) c after_one (omega arith) h f m z)

-- a number of more bytes
pub long_number : (s : List ℕ) (at b : ℕ) → at < length s → b ≡ get_or s at 0 → 128 ≤ b
    → number_at s at ≡ onward at (below (b - 128) (number_in 8 (drop (at + 1) s)))
unfolding number_at
long_number s at b g e k =
    let r : List ℕ = drop (at + 1) s in
    let q : number_in 9 (get_or s at 0 ∷ r) ≡ below (b - 128) (number_in 8 r) = number_more 8 (get_or s at 0) r ∙ rw (← e, le-ltb b 128 k) in
    ap (λ (l : List ℕ). onward at (number_in 9 l)) (front s at g) ∙ ap (onward at) q
