-- Where TAIL is.
-- Assumes nothing.
use mathlib.Core.Path.{◌≡◌, refl, ap, sym, subst, ◌∙◌}
use mathlib.Core.Bool.{Bool, true, false, cond}
use mathlib.Core.List.{List, [], ◌∷◌, ◌++◌}
use mathlib.Core.Logic.{◌⊎◌, inl, inr}
use Prim.Native.Nat.{ℕ, zero, suc, ◌+◌, ◌-◌, ◌*◌, ◌/◌, ◌%◌, ◌^◌, ◌≤◌, ◌<◌}
use native.Mathlib.Omega.{arith}
use lib.Dec.{leb, ltb, eqb}
use lib.ListN.{length, take, drop, get_or}
use lib.Pow.{pow_mono, pow_pos}
use lib.Arith.{digits_div}
use native.Mathlib.Nat.{pow-suc}
use lib.Seq.{get_or-take, get_or-drop}
use borrow.Author.Tests.{leb-true, ltb-true, eqb-true, eqb-false}
use Rattle.words.proofs.Laws.{both_left, both_right}
use Rattle.bits.specs.Bits.{bits_n}
use Rattle.bits.proofs.Numbers.{Bits, bits_n_suc, length_bits_n}
use Rattle.fields.specs.Fields.{refusal, refused_at, then, bit_field, digits_in, width_of}
use Rattle.fields.specs.declared.Fault.{Fault}
use Rattle.fields.specs.declared.Fault.TheVariants.{Short, Range, LengthForm, Limit, Default, Tail}
use Rattle.fields.specs.declared.Refusal.{Refusal}
use Rattle.fields.proofs.RoundTrip.{Stands, bit_field_is}
use Rattle.fields.proofs.Widths.{width_within, width_holds, width_fewest}
use Rattle.apdu.specs.Encoding.{padding}
use Rattle.apdu.specs.Reading.{tail_at}
use Rattle.apdu.specs.Reading.{apdu_at}
use Rattle.pdus.specs.declared.PduType.{PduType}
use Rattle.apdu.specs.declared.Apdu.{Apdu}
use Rattle.apdu.proofs.Bounds.{never}
use Rattle.apdu.proofs.Spared.{Not, bits_spared}
use Rattle.apdu.proofs.Apdus.{Standing}
use Rattle.apdu.proofs.Order.{tail_last}
use Rattle.places.specs.Readings.{TailAt}
use Rattle.std.specs.Prelude.{Err, Ok}
use Rattle.fields.specs.Fields.{Reading}

-- ---- the bits of a number: before its first digit 0, and that one 1

quot_none : (v p : ℕ) → v < p → v / p % 2 ≡ 0
quot_none v p h =
    let e : 0 * p + v ≡ v = omega arith in
    let d : v / p ≡ 0 = rw e at (digits_div 0 {m = p} {r = v} h) in
    rw d

quot_one : (v p : ℕ) → p ≤ v → v < p + p → v / p % 2 ≡ 1
quot_one v p h g =
    let e : 1 * p + (v - p) ≡ v = omega arith in
    let d : v / p ≡ 1 = rw e at (digits_div 1 {m = p} {r = v - p} (omega arith)) in
    rw d

bit_at : (n v k : ℕ) → k < n → get_or (bits_n n v) k 0 ≡ v / 2 ^ (n - 1 - k) % 2
bit_at zero v k h = absurd (omega arith)
bit_at (suc n) v zero h =
    let e : suc n - 1 - 0 ≡ n = omega arith in
    ap (λ (x : List ℕ). get_or x 0 0) (bits_n_suc n v) ∙ ap (λ (m : ℕ). v / 2 ^ m % 2) (sym e)
bit_at (suc n) v (suc k) h =
    let e : n - 1 - k ≡ suc n - 1 - suc k = omega arith in
    ap (λ (x : List ℕ). get_or x (suc k) 0) (bits_n_suc n v) ∙ (bit_at n v k (omega arith) ∙ ap (λ (m : ℕ). v / 2 ^ m % 2) e)

-- a bit of what stands at a place
bit_of : (l : List ℕ) (at next k : ℕ) (bs : List ℕ) → Stands l at bs next → k < length bs → get_or l (at + k) 0 ≡ get_or bs k 0
bit_of l at next k bs s h = sym (get_or-drop at l k 0) ∙
    (sym (get_or-take (length bs) (drop at l) k 0 h) ∙ ap (λ (x : List ℕ). get_or x k 0) s.holds)

-- ---- the padding

module _ (l : List ℕ) (at v next : ℕ) (b : Bits l) (e : bit_field l at (padding at) ≡ Ok (v, next)) where
  n : ℕ
  n = padding at

  stands : Stands l at (bits_n (padding at) v) next
  stands = (bit_field_is (padding at)).read_written l at v next b e

  fits : v < 2 ^ padding at
  fits = ltb-true v (2 ^ padding at)
      (both_right (leb (padding at) 64) (ltb v (2 ^ padding at)) ((bit_field_is (padding at)).read_fits l at v next b e))

  few : padding at ≤ 64
  few = leb-true (padding at) 64
      (both_left (leb (padding at) 64) (ltb v (2 ^ padding at)) ((bit_field_is (padding at)).read_fits l at v next b e))

  small : v < 2 ^ 64
  small = let k : 2 ^ padding at ≤ 2 ^ 64 = pow_mono {i = padding at} {j = 64} few in omega (arith, fits)

  ends : next ≡ at + padding at
  ends = omega (arith, stands.place, length_bits_n (padding at) v)

  here : (k : ℕ) → at ≤ k → k < at + padding at → get_or l k 0 ≡ v / 2 ^ (padding at - 1 - (k - at)) % 2
  here k h g =
      let q : at + (k - at) ≡ k = omega arith in
      let z = length_bits_n (padding at) v in
      ap (λ (j : ℕ). get_or l j 0) (sym q) ∙ (bit_of l at next (k - at) (bits_n (padding at) v) stands (omega arith) ∙
      bit_at (padding at) v (k - at) (omega arith))

  all_clear : v ≡ 0 → (k : ℕ) → at ≤ k → k < next → get_or l k 0 ≡ 0
  all_clear z k h g = here k h (omega (arith, ends)) ∙ rw z (none (2 ^ (padding at - 1 - (k - at))) (pow_pos (padding at - 1 - (k - at))))
    where
      none : (p : ℕ) → 0 < p → 0 / p % 2 ≡ 0
      none p h = quot_none 0 p h

  module _ (pos : 0 < v) where
    digits : width_of v ≤ padding at
    digits = width_within 64 v (padding at) small fits

    some : 0 < width_of v
    some = by (width_of v) refl
      where
        by : (w : ℕ) → width_of v ≡ w → 0 < w
        by zero q = let x : v < 2 ^ width_of v = width_holds 64 v small in let y : v < 2 ^ 0 = rw q at x in absurd (omega arith)
        by (suc w) q = omega arith

    before_clear : (k : ℕ) → at ≤ k → k < next - width_of v → get_or l k 0 ≡ 0
    before_clear k h g =
        let d = digits in
        let m : width_of v ≤ padding at - 1 - (k - at) = omega (arith, ends) in
        let x : v < 2 ^ width_of v = width_holds 64 v small in
        let y : 2 ^ width_of v ≤ 2 ^ (padding at - 1 - (k - at)) = pow_mono {i = width_of v} {j = padding at - 1 - (k - at)} m in
        here k h (omega (arith, ends)) ∙ quot_none v (2 ^ (padding at - 1 - (k - at))) (omega arith)

    first_set : get_or l (next - width_of v) 0 ≡ 1
    first_set =
        let d = digits in
        let s = some in
        let m : padding at - 1 - (next - width_of v - at) ≡ width_of v - 1 = omega (arith, ends) in
        let x : v < 2 ^ width_of v = width_holds 64 v small in
        let y : 2 ^ (width_of v - 1) ≤ v = width_fewest 64 v pos small in
        let w : 2 ^ width_of v ≡ 2 ^ (width_of v - 1) + 2 ^ (width_of v - 1) = twice (width_of v) s in
        here (next - width_of v) (omega (arith, ends)) (omega (arith, ends)) ∙
        (ap (λ (j : ℕ). v / 2 ^ j % 2) m ∙ quot_one v (2 ^ (width_of v - 1)) y (omega arith))
      where
        twice : (w : ℕ) → 0 < w → 2 ^ w ≡ 2 ^ (w - 1) + 2 ^ (w - 1)
        twice zero h = absurd (omega arith)
        twice (suc w) h = let e : suc w - 1 ≡ w = omega arith in let p : 2 ^ suc w ≡ 2 ^ w * 2 = pow-suc 2 w in rw (e, p) (omega arith)

-- ---- TAIL

one_refusal : (r q : Refusal) → ◌≡◌ {A = Reading ℕ} (Err r) (Err q) → r ≡ q
one_refusal r q e = cc

-- TAIL is none of the faults of a field
tail_not : (r : Refusal) → r.fault ≡ Tail → Not r
tail_not r x =
    record {
      short = λ (e : Short ≡ r.fault). never (cc);
      range = λ (e : Range ≡ r.fault). never (cc);
      form = λ (e : LengthForm ≡ r.fault). never (cc);
      limit = λ (e : Limit ≡ r.fault). never (cc);
      default = λ (e : Default ≡ r.fault). never (cc);
    }

pub tail_place : (l : List ℕ) (at : ℕ) (r : Refusal) → Bits l → r.fault ≡ Tail → tail_at l at ≡ Err r → TailAt l at r.at
unfolding tail_at
tail_place l at r b x e = by (bit_field l at (padding at)) refl e
  where
    to : (p : ℕ) → ◌≡◌ {A = Reading ℕ} (Err (refusal p Tail)) (Err r) → TailAt l at p → TailAt l at r.at
    to p q t = subst (λ (y : Refusal). TailAt l at y.at) (one_refusal (refusal p Tail) r q) t

    last : (v next : ℕ) → bit_field l at (padding at) ≡ Ok (v, next) → v ≡ 0 → (t : Bool) → leb (next + 1) (length l) ≡ t
        → cond {A = Reading ℕ} t (refused_at next Tail) (Ok (0, next)) ≡ Err r → TailAt l at r.at
    last v next f z true q u = let n = ends l at v next b f in let w : next + 1 ≤ length l = leb-true _ _ q in to next u (record { behind = omega arith; clear = all_clear l at v next b f z; there = inr (n, omega arith) })
    last v next f z false q u = never (cc)

    go : (v next : ℕ) → bit_field l at (padding at) ≡ Ok (v, next) → (t : Bool) → eqb v 0 ≡ t
        → cond {A = Reading ℕ} t (cond (leb (next + 1) (length l)) (refused_at next Tail) (Ok (0, next))) (refused_at (next - width_of v) Tail) ≡ Err r
        → TailAt l at r.at
    go v next f true p u = last v next f (eqb-true v 0 p) (leb (next + 1) (length l)) refl u
    go v next f false p u =
        let n = ends l at v next b f in
        let k = eqb-false v 0 p in
        let pos : 0 < v = omega arith in
        let d = digits l at v next b f pos in
        let s = some l at v next b f pos in
        to (next - width_of v) u (record { behind = omega arith; clear = before_clear l at v next b f pos; there = inl (omega arith, first_set l at v next b f pos) })

    by : (f : Reading ℕ) → bit_field l at (padding at) ≡ f
        → then {A = ℕ} {B = ℕ × ℕ} f (λ (v next : ℕ). cond (eqb v 0) (cond (leb (next + 1) (length l)) (refused_at next Tail) (Ok (0, next))) (refused_at (next - width_of v) Tail)) ≡ Err r
        → TailAt l at r.at
    by (Err q) f k = absurd (bits_spared r (tail_not r x) l at (padding at) (f ∙ k))
    by (Ok (v, next)) f k = go v next f (eqb v 0) refl k

-- ---- of an APDU: all its fields stand, to an end, and the place is that of the tail behind it

pub record TailPlaced (pdus : PduType) (l : List ℕ) (p : ℕ) : Type 0 where
  pub value : Apdu
  pub end : ℕ
  pub stands : Standing pdus l 0 end value
  pub place : TailAt l end p

pub apdu_tail_place : (pdus : PduType) (l : List ℕ) (p : ℕ) → Bits l
    → apdu_at pdus l 0 ≡ Err (refusal p Tail) → TailPlaced pdus l p
apdu_tail_place pdus l p b e =
    let t = tail_last p pdus l 0 b e in
    record { value = t.value; end = t.place; stands = t.stands; place = tail_place l t.place (refusal p Tail) b refl t.tail }
