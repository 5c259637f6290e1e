-- Both round trips, said once over the field: what is written reads back as it was, and what is read writes back to the same bits.
-- Assumes nothing.
use mathlib.Core.Path.{◌≡◌, refl, ap, sym, subst, ◌∙◌}
use mathlib.Core.Bool.{Bool, true, false, cond, ◌&&◌}
use mathlib.Core.List.{List, ◌++◌}
use Prim.Native.Nat.{ℕ, ◌+◌, ◌-◌, ◌*◌, ◌/◌, ◌^◌, ◌≤◌, ◌<◌}
use native.Mathlib.Omega.{arith}
use native.Mathlib.Decide.{dec_lt}
use borrow.Author.Tests.{le-leb, lt-leb, le-ltb, lt-ltb, leb-true, leb-false, ltb-true, ltb-false, eq-eqb, eqb-true}
use lib.Dec.{leb, ltb, eqb}
use lib.ListN.{length, take, drop, length-append}
use Rattle.words.proofs.Laws.{both_left, both_right, ok_value, ok_place}
use Rattle.bits.specs.Bits.{bits_n, bits_to}
use Rattle.bits.specs.Put.{Left, left, put_if, put_bits}
use Rattle.bits.specs.Read.{read_bits}
use Rattle.bits.proofs.Numbers.{Bits, length_bits_n, bits_bits_n, bits_n_split}
use Rattle.bits.proofs.Bytes.{Holds, holds_split, holds_join, bits_append, bits_to_is, Bytes, length_part, length_to}
use Rattle.bits.proofs.Putting.{put_is, put_fits, put_if_yes, put_if_no, put_stands, put_same, length_put}
use Rattle.bits.proofs.Reading.{number_is, number_lt, number_stands, number_read}
use Rattle.fields.specs.Fields.{refusal, refused_at, then, field_of, bit_field, extension_bit, width_of, whole_number, extensible_index, length_at, length_from, long_length, length_within, run_at, contents_at, string_at, sized_at}
use Rattle.fields.specs.Encodings.{bits_fit, extension_fits, whole_fits, whole_bits, index_bits, length_fits, length_bits, within_fits}
use Rattle.fields.specs.declared.Refusal.{Refusal}
use Rattle.fields.specs.declared.Fault.TheVariants.{Range, Extension, LengthForm, Limit}
use Rattle.fields.proofs.Answers.{run_is}
use Rattle.fields.proofs.Widths.{width_most, width_holds}
use Rattle.fields.proofs.Writers.{length_short, length_long, in_range}
use Rattle.std.specs.Prelude.{Err, None, Ok, Option, Some}
use Rattle.fields.specs.Fields.{Reading}

-- ---- the statement

-- bits stand at a place, and end within the list
pub record Stands (l : List ℕ) (at : ℕ) (bs : List ℕ) (next : ℕ) : Type 0 where
  pub place : next ≡ at + length bs
  pub within : at + length bs ≤ length l
  pub holds : Holds l at bs

-- a field, by its reader, the values that it has and their bits
pub record RoundTrip (read : List ℕ → ℕ → Reading ℕ) (fits : ℕ → Bool) (bits : ℕ → List ℕ) : Type 0 where
  pub are_bits : (v : ℕ) → Bits (bits v)
  pub written_read : (l : List ℕ) (at v next : ℕ) → fits v ≡ true → Stands l at (bits v) next → read l at ≡ Ok (v, next)
  pub read_fits : (l : List ℕ) (at v next : ℕ) → Bits l → read l at ≡ Ok (v, next) → fits v ≡ true
  pub read_written : (l : List ℕ) (at v next : ℕ) → Bits l → read l at ≡ Ok (v, next) → Stands l at (bits v) next

-- ---- the same on lent bytes, for every field

module _ {rd : List ℕ → ℕ → Reading ℕ} {fits : ℕ → Bool} {bits : ℕ → List ℕ} (f : RoundTrip rd fits bits) where
  -- what a writer wrote, the reader reads, to the same place
  pub bytes_written_read : (s z : List ℕ) (e at v next : ℕ) → put_if (fits v) s e at (bits v) ≡ left (Some next) z
      → rd (bits_to z e) at ≡ Ok (v, next)
  bytes_written_read s z e at v next h = go (fits v) refl
    where
      go : (t : Bool) → fits v ≡ t → rd (bits_to z e) at ≡ Ok (v, next)
      go true p =
          let i = put_is s e at (bits v) next z (sym (put_if_yes (fits v) s e at (bits v) p) ∙ h) in
          let k : length (bits_to (put_bits s at (bits v)) e) ≡ length (bits_to s e) = rw (length_to, length_to, length_put) in
          rw i.bytes (f.written_read (bits_to (put_bits s at (bits v)) e) at v next p (record { place = i.place; within = rw k i.within; holds = put_stands s e at (bits v) (f.are_bits v) i.within }))
      go false p =
          let q : None ≡ Some next = ap (λ (o : Left). o.answer) (sym (put_if_no (fits v) s e at (bits v) p) ∙ h) in
          let x : ◌≡◌ {A = ℕ} 0 1 = cc in
          absurd (omega arith)

  -- what a reader read, the writer writes, and changes no byte
  pub bytes_read_written : (s : List ℕ) (e at v next : ℕ) → Bytes s → rd (bits_to s e) at ≡ Ok (v, next)
      → put_if (fits v) s e at (bits v) ≡ left (Some next) s
  bytes_read_written s e at v next b h =
      let w = f.read_written (bits_to s e) at v next (bits_to_is s e) h in
      put_if_yes (fits v) s e at (bits v) (f.read_fits (bits_to s e) at v next (bits_to_is s e) h)
      ∙ put_fits s e at (bits v) w.within
      ∙ rw (← w.place, put_same s e at (bits v) b (f.are_bits v) w.within w.holds)

-- ---- opening an answer

never : {A : Type 0} → ◌≡◌ {A = ℕ} 0 1 → A
never z = absurd (omega arith)

-- a value behind a field: the field had a value
pub via : {A B : Type 0} (R : Type 0) (f : Reading A) (k : A → ℕ → Reading B) (v : B) (next : ℕ)
    → ((w : A) (m : ℕ) → f ≡ Ok (w, m) → k w m ≡ Ok (v, next) → R) → then f k ≡ Ok (v, next) → R
via R (Ok (w, m)) k v next c e = c w m refl e
via R (Err r) k v next c e = never (cc)

-- a value of a choice whose other side is a refusal
pub if_value : {A : Type 0} (R : Type 0) (t : Bool) (x : Reading A) (r : Refusal) (v : A) (next : ℕ) → (t ≡ true → x ≡ Ok (v, next) → R)
    → cond t x (Err r) ≡ Ok (v, next) → R
if_value R true x r v next c e = c refl e
if_value R false x r v next c e = never (cc)

pub stands_join : (l : List ℕ) (at m next : ℕ) (xs ys : List ℕ) → Stands l at xs m → Stands l m ys next → Stands l at (xs ++ ys) next
stands_join l at m next xs ys a b =
    let n = length-append xs ys in
    let k : Holds l (at + length xs) ys = rw (← a.place) b.holds in
    record { place = omega (arith, a.place, b.place); within = omega (arith, a.place, b.within); holds = holds_join l at xs ys a.holds k }

pub record Split (l : List ℕ) (at : ℕ) (xs ys : List ℕ) (next : ℕ) : Type 0 where
  pub first : Stands l at xs (at + length xs)
  pub second : Stands l (at + length xs) ys next

pub stands_split : (l : List ℕ) (at next : ℕ) (xs ys : List ℕ) → Stands l at (xs ++ ys) next → Split l at xs ys next
stands_split l at next xs ys s =
    let n = length-append xs ys in
    let h = holds_split l at xs ys s.holds in
    record {
      first = record { place = refl; within = omega (arith, s.within); holds = h.0 };
      second = record { place = omega (arith, s.place); within = omega (arith, s.within); holds = h.1 };
    }

-- ---- a field of n bits

field_number : (l : List ℕ) (at n v next : ℕ) → bit_field l at n ≡ Ok (v, next) → read_bits l at n ≡ Some (v, next)
unfolding bit_field
field_number l at n v next e = go (read_bits l at n) refl e
  where
    go : (r : Option (ℕ × ℕ)) → read_bits l at n ≡ r → field_of at r ≡ Ok (v, next) → read_bits l at n ≡ Some (v, next)
    go (Some (w, m)) p q = p ∙ cc
    go None p q = never (cc)

number_field : (l : List ℕ) (at n v next : ℕ) → read_bits l at n ≡ Some (v, next) → bit_field l at n ≡ Ok (v, next)
unfolding bit_field
number_field l at n v next e = rw e

pub bit_field_is : (n : ℕ) → RoundTrip (λ (l : List ℕ) (at : ℕ). bit_field l at n) (bits_fit n) (bits_n n)
bit_field_is n = record { are_bits = bits_bits_n n; written_read = there; read_fits = fit; read_written = back }
  where
    there : (l : List ℕ) (at v next : ℕ) → bits_fit n v ≡ true → Stands l at (bits_n n v) next → bit_field l at n ≡ Ok (v, next)
    there l at v next f s =
        let e : length (bits_n n v) ≡ n = length_bits_n n v in
        let p : next ≡ at + n = s.place ∙ ap (λ (k : ℕ). at + k) e in
        rw p (number_field l at n v (at + n) (number_read l at n v (leb-true _ _ (both_left _ _ f))
        (ltb-true _ _ (both_right (leb n 64) _ f)) (omega (arith, s.within)) s.holds))

    fit : (l : List ℕ) (at v next : ℕ) → Bits l → bit_field l at n ≡ Ok (v, next) → bits_fit n v ≡ true
    fit l at v next b e =
        let k = field_number l at n v next e in
        rw (le-leb n 64 (number_is l at n v next k).width, lt-ltb v (2 ^ n) (number_lt l at n v next b k))

    back : (l : List ℕ) (at v next : ℕ) → Bits l → bit_field l at n ≡ Ok (v, next) → Stands l at (bits_n n v) next
    back l at v next b e =
        let k = field_number l at n v next e in
        let i = number_is l at n v next k in
        let m : length (bits_n n v) ≡ n = length_bits_n n v in
        record { place = omega (arith, i.place); within = omega (arith, i.within); holds = number_stands l at n v next b k }

-- ---- an extension bit

clear : (l : List ℕ) (at v next : ℕ) → v ≡ 0 → bit_field l at 1 ≡ Ok (0, next) → extension_bit l at ≡ Ok (v, next)
unfolding extension_bit
clear l at v next z e = rw (e, z)

cleared : (l : List ℕ) (at v next : ℕ) → extension_bit l at ≡ Ok (v, next) → (v ≡ 0) × (bit_field l at 1 ≡ Ok (0, next))
unfolding extension_bit
cleared l at v next e =
    via ((v ≡ 0) × (bit_field l at 1 ≡ Ok (0, next))) (bit_field l at 1) _ v next (λ (b m : ℕ) (p : bit_field l at 1 ≡ Ok (b, m)).
    if_value ((v ≡ 0) × (bit_field l at 1 ≡ Ok (0, next))) (eqb b 0) (Ok (0, m)) (refusal at Extension) v next (λ (t : eqb b 0 ≡ true) (q : Ok (0, m) ≡ Ok (v, next)).
    let z : b ≡ 0 = eqb-true b 0 t in
    (sym (ok_value q), p ∙ rw (z, ok_place q)))) e

pub extension_bit_is : RoundTrip extension_bit extension_fits (λ (v : ℕ). bits_n 1 0)
extension_bit_is = record { are_bits = λ (v : ℕ). bits_bits_n 1 0; written_read = there; read_fits = fit; read_written = back }
  where
    there : (l : List ℕ) (at v next : ℕ) → extension_fits v ≡ true → Stands l at (bits_n 1 0) next → extension_bit l at ≡ Ok (v, next)
    there l at v next f s = clear l at v next (eqb-true v 0 f) ((bit_field_is 1).written_read l at 0 next refl s)

    fit : (l : List ℕ) (at v next : ℕ) → Bits l → extension_bit l at ≡ Ok (v, next) → extension_fits v ≡ true
    fit l at v next b e = eq-eqb v 0 (cleared l at v next e).0

    back : (l : List ℕ) (at v next : ℕ) → Bits l → extension_bit l at ≡ Ok (v, next) → Stands l at (bits_n 1 0) next
    back l at v next b e = (bit_field_is 1).read_written l at 0 next b (cleared l at v next e).1

-- ---- a whole number from lo to hi

module _ (lo hi : ℕ) (small : hi < 2 ^ 64) where
  holds_distance : hi - lo < 2 ^ width_of (hi - lo)
  holds_distance = width_holds 64 (hi - lo) (omega arith)

  whole_there : (l : List ℕ) (at d next : ℕ) → lo + d ≤ hi → bit_field l at (width_of (hi - lo)) ≡ Ok (d, next)
      → whole_number l at lo hi ≡ Ok (lo + d, next)
  unfolding whole_number
  whole_there l at d next h e = rw (e, le-leb (lo + d) hi h)

  whole_back : (R : Type 0) (l : List ℕ) (at v next : ℕ)
      → ((d : ℕ) → v ≡ lo + d → v ≤ hi → bit_field l at (width_of (hi - lo)) ≡ Ok (d, next) → R)
      → whole_number l at lo hi ≡ Ok (v, next) → R
  unfolding whole_number
  whole_back R l at v next c e =
      via R (bit_field l at (width_of (hi - lo))) _ v next (λ (d m : ℕ) (p : bit_field l at (width_of (hi - lo)) ≡ Ok (d, m)).
      if_value R (leb (lo + d) hi) (Ok (lo + d, m)) (refusal at Range) v next (λ (t : leb (lo + d) hi ≡ true) (q : Ok (lo + d, m) ≡ Ok (v, next)).
      let a : v ≡ lo + d = sym (ok_value q) in
      let b : m ≡ next = ok_place q in
      c d a (rw a (leb-true _ _ t)) (p ∙ ap (λ (place : ℕ). Ok (d, place)) b))) e

  whole_is : (d : ℕ) → whole_bits lo hi (lo + d) ≡ bits_n (width_of (hi - lo)) d
  unfolding whole_bits
  whole_is d = let e : lo + d - lo ≡ d = omega arith in rw e

  bits_whole : (v : ℕ) → Bits (whole_bits lo hi v)
  unfolding whole_bits
  bits_whole v = bits_bits_n (width_of (hi - lo)) (v - lo)

  pub whole_number_is : RoundTrip (λ (l : List ℕ) (at : ℕ). whole_number l at lo hi) (whole_fits lo hi) (whole_bits lo hi)
  whole_number_is = record { are_bits = bits_whole; written_read = there; read_fits = fit; read_written = back }
    where
      there : (l : List ℕ) (at v next : ℕ) → whole_fits lo hi v ≡ true → Stands l at (whole_bits lo hi v) next
          → whole_number l at lo hi ≡ Ok (v, next)
      there l at v next f s =
          let a : lo ≤ v = leb-true _ _ (both_left _ _ f) in
          let b : v ≤ hi = leb-true _ _ (both_right (leb lo v) _ f) in
          let e : v ≡ lo + (v - lo) = omega arith in
          let k : bits_fit (width_of (hi - lo)) (v - lo) ≡ true = rw (
            le-leb _ 64 (width_most 64 (hi - lo)),
            lt-ltb
                (v - lo) (2 ^ width_of (hi - lo)) (omega (arith, holds_distance)),
          ) in
          let w : Stands l at (bits_n (width_of (hi - lo)) (v - lo)) next = subst (λ (x : List ℕ). Stands l at x next)
          (ap (whole_bits lo hi) e ∙ whole_is (v - lo)) s in
          subst (λ (x : ℕ). whole_number l at lo hi ≡ Ok (x, next)) (sym e) (whole_there l at (v - lo) next
          (omega arith) ((bit_field_is (width_of (hi - lo))).written_read l at (v - lo) next k w))

      fit : (l : List ℕ) (at v next : ℕ) → Bits l → whole_number l at lo hi ≡ Ok (v, next) → whole_fits lo hi v ≡ true
      fit l at v next b e = whole_back _ l at v next (λ (d : ℕ) (p : v ≡ lo + d) (h : v ≤ hi)
          (q : bit_field l at (width_of (hi - lo)) ≡ Ok (d, next)). in_range lo hi v (omega arith) h) e

      back : (l : List ℕ) (at v next : ℕ) → Bits l → whole_number l at lo hi ≡ Ok (v, next) → Stands l at (whole_bits lo hi v) next
      back l at v next b e =
          whole_back _ l at v next (λ (d : ℕ) (p : v ≡ lo + d) (h : v ≤ hi) (q : bit_field l at (width_of (hi - lo)) ≡ Ok (d, next)).
          subst (λ (x : List ℕ). Stands l at x next) (sym (ap (whole_bits lo hi) p ∙ whole_is d))
          ((bit_field_is (width_of (hi - lo))).read_written l at d next b q)) e

-- ---- an index behind an extension bit

module _ (last : ℕ) (small : last < 2 ^ 64) where
  index_there : (l : List ℕ) (at v m next : ℕ) → extension_bit l at ≡ Ok (0, m) → whole_number l m 0 last ≡ Ok (v, next)
      → extensible_index l at last ≡ Ok (v, next)
  unfolding extensible_index
  index_there l at v m next p q = rw (p, q)

  index_back : (R : Type 0) (l : List ℕ) (at v next : ℕ)
      → ((b m : ℕ) → extension_bit l at ≡ Ok (b, m) → whole_number l m 0 last ≡ Ok (v, next) → R)
      → extensible_index l at last ≡ Ok (v, next) → R
  unfolding extensible_index
  index_back R l at v next c e = via R (extension_bit l at) _ v next c e

  index_is : (v : ℕ) → index_bits last v ≡ bits_n 1 0 ++ whole_bits 0 last v
  unfolding index_bits
  index_is v = refl

  pub extensible_index_is : RoundTrip (λ (l : List ℕ) (at : ℕ). extensible_index l at last) (whole_fits 0 last) (index_bits last)
  extensible_index_is = record { are_bits = are; written_read = there; read_fits = fit; read_written = back }
    where
      are : (v : ℕ) → Bits (index_bits last v)
      are v = rw (index_is v) (bits_append (bits_n 1 0) (whole_bits 0 last v) (bits_bits_n 1 0) (bits_whole 0 last small v))

      there : (l : List ℕ) (at v next : ℕ) → whole_fits 0 last v ≡ true → Stands l at (index_bits last v) next
          → extensible_index l at last ≡ Ok (v, next)
      there l at v next f s =
          let w = stands_split l at next (bits_n 1 0) (whole_bits 0 last v) (rw (index_is v) at s) in
          index_there l at v _ next (extension_bit_is.written_read l at 0 _ refl w.first)
          ((whole_number_is 0 last small).written_read l _ v next f w.second)

      fit : (l : List ℕ) (at v next : ℕ) → Bits l → extensible_index l at last ≡ Ok (v, next) → whole_fits 0 last v ≡ true
      fit l at v next b e = index_back _ l at v next (λ (x m : ℕ) (p : extension_bit l at ≡ Ok (x, m))
          (q : whole_number l m 0 last ≡ Ok (v, next)). (whole_number_is 0 last small).read_fits l m v next b q) e

      back : (l : List ℕ) (at v next : ℕ) → Bits l → extensible_index l at last ≡ Ok (v, next) → Stands l at (index_bits last v) next
      back l at v next b e =
          rw (index_is v)
          (index_back _ l at v next (λ (x m : ℕ) (p : extension_bit l at ≡ Ok (x, m)) (q : whole_number l m 0 last ≡ Ok (v, next)).
          stands_join l at m next (bits_n 1 0) (whole_bits 0 last v) (extension_bit_is.read_written l at x m b p)
          ((whole_number_is 0 last small).read_written l m v next b q)) e)

-- ---- a length

short_there : (l : List ℕ) (at n next : ℕ) → n < 128 → bit_field l at 8 ≡ Ok (n, next) → length_at l at ≡ Ok (n, next)
unfolding length_at
short_there l at n next h e = rw (e, lt-ltb n 128 h)

long_there : (l : List ℕ) (at b m v next : ℕ) → 128 ≤ b → b < 192 → 32768 + 128 ≤ v → bit_field l at 8 ≡ Ok (b, m)
    → bit_field l at 16 ≡ Ok (v, next) → length_at l at ≡ Ok (v - 32768, next)
unfolding length_at
long_there l at b m v next lo hi big p q = rw (p, le-ltb b 128 lo, lt-leb 192 b hi, q, le-ltb v (32768 + 128) big)

-- the two ways to a length
length_back : (R : Type 0) (l : List ℕ) (at n next : ℕ) → (n < 128 → bit_field l at 8 ≡ Ok (n, next) → R)
    → ((b m v : ℕ) → b < 192 → 32768 + 128 ≤ v → n ≡ v - 32768 → bit_field l at 8 ≡ Ok (b, m) → bit_field l at 16 ≡ Ok (v, next) → R) → length_at l at ≡ Ok (n, next) → R
unfolding length_at
length_back R l at n next short long e = via R (bit_field l at 8) _ n next first e
  where
    third : (b m v k : ℕ) → b < 192 → bit_field l at 8 ≡ Ok (b, m) → bit_field l at 16 ≡ Ok (v, k) → (t : Bool)
        → ltb v (32768 + 128) ≡ t → cond {A = Reading ℕ} t (refused_at at LengthForm) (Ok (v - 32768, k)) ≡ Ok (n, next) → R
    third b m v k hb p q true t e = never (cc)
    third b m v k hb p q false t e =
        let x : n ≡ v - 32768 = sym (ok_value e) in
        let y : k ≡ next = ok_place e in
        long b m v hb (ltb-false _ _ t) x p (q ∙ ap (λ (place : ℕ). Ok (v, place)) y)

    second : (b m : ℕ) → bit_field l at 8 ≡ Ok (b, m) → (t : Bool) → leb 192 b ≡ t
        → cond {A = Reading ℕ} t (refused_at at LengthForm) (then (bit_field l at 16) (long_length at)) ≡ Ok (n, next) → R
    second b m p true t e = never (cc)
    second b m p false t e =
        via R (bit_field l at 16) (long_length at) n next (λ (v k : ℕ) (q : bit_field l at 16 ≡ Ok (v, k)). third b m v k
        (leb-false _ _ t) p q (ltb v (32768 + 128)) refl) e

    sort : (b m : ℕ) → bit_field l at 8 ≡ Ok (b, m) → (t : Bool) → ltb b 128 ≡ t
        → cond {A = Reading ℕ} t (Ok (b, m)) (cond (leb 192 b) (refused_at at LengthForm) (then (bit_field l at 16) (long_length at))) ≡ Ok (n, next)
        → R
    sort b m p true t e =
        let x : b ≡ n = ok_value e in
        let y : m ≡ next = ok_place e in
        let h : b < 128 = ltb-true b 128 t in
        short (omega arith) (p ∙ rw (x, y))
    sort b m p false t e = second b m p (leb 192 b) refl e

    first : (b m : ℕ) → bit_field l at 8 ≡ Ok (b, m) → length_from l at b m ≡ Ok (n, next) → R
    first b m p e = sort b m p (ltb b 128) refl e

-- the first eight of sixteen bits
first_eight : (l : List ℕ) (at v next : ℕ) → v < 2 ^ 16 → Stands l at (bits_n 16 v) next → bit_field l at 8 ≡ Ok (v / 2 ^ 8, at + 8)
first_eight l at v next h s =
    let w = stands_split l at next (bits_n 8 (v / 2 ^ 8)) (bits_n 8 v) (rw (bits_n_split 8 8 v) at s) in
    let n : length (bits_n 8 (v / 2 ^ 8)) ≡ 8 = length_bits_n 8 _ in
    let f : bits_fit 8 (v / 2 ^ 8) ≡ true = lt-ltb (v / 2 ^ 8) (2 ^ 8) (omega arith) in
    rw n at ((bit_field_is 8).written_read l at (v / 2 ^ 8) _ f w.first)

bits_length : (n : ℕ) → Bits (length_bits n)
bits_length n =
    elim (dec_lt n 128) [
      | yes h ↦ rw (length_short n h) (bits_bits_n 8 n)
      | no h ↦ rw (length_long n (omega arith)) (bits_bits_n 16 (32768 + n))
    ]

pub length_determinant : RoundTrip length_at length_fits length_bits
length_determinant = record { are_bits = bits_length; written_read = there; read_fits = fit; read_written = back }
  where
    there : (l : List ℕ) (at n next : ℕ) → length_fits n ≡ true → Stands l at (length_bits n) next → length_at l at ≡ Ok (n, next)
    there l at n next f s =
        let small : n < 16384 = ltb-true _ _ f in
        elim (dec_lt n 128) [
          | yes h ↦ short_there l at n next h
              ((bit_field_is 8).written_read l at n next (lt-ltb n (2 ^ 8) (omega arith)) (rw (length_short n h) at s))
          | no h ↦
              let w : Stands l at (bits_n 16 (32768 + n)) next = rw (length_long n (omega arith)) at s in
              let e : 32768 + n - 32768 ≡ n = omega arith in
              let q = (bit_field_is 16).written_read l at (32768 + n) next (lt-ltb (32768 + n) (2 ^ 16) (omega arith)) w in
              rw e at (long_there l at ((32768 + n) / 2 ^ 8) (at + 8) (32768 + n) next (omega arith) (omega arith)
              (omega arith) (first_eight l at (32768 + n) next (omega arith) w) q)
        ]

    -- sixteen bits of which the first eight say b
    below : (l : List ℕ) (at b m v next : ℕ) → Bits l → b < 192 → bit_field l at 8 ≡ Ok (b, m) → bit_field l at 16 ≡ Ok (v, next) → v < 49152
    below l at b m v next bl h p q =
        let s = (bit_field_is 16).read_written l at v next bl q in
        let k : v < 2 ^ 16 = ltb-true _ _ (both_right (leb 16 64) _ ((bit_field_is 16).read_fits l at v next bl q)) in
        let f = first_eight l at v next k s in
        let e : b ≡ v / 2 ^ 8 = ok_value (sym p ∙ f) in
        omega arith

    fit : (l : List ℕ) (at n next : ℕ) → Bits l → length_at l at ≡ Ok (n, next) → length_fits n ≡ true
    fit l at n next bl e =
        length_back _ l at n next (λ (h : n < 128) (p : bit_field l at 8 ≡ Ok (n, next)). lt-ltb n 16384 (omega arith))
        (λ (b m v : ℕ) (h : b < 192) (big : 32768 + 128 ≤ v) (x : n ≡ v - 32768) (p : bit_field l at 8 ≡ Ok (b, m)) (q : bit_field l at 16 ≡ Ok (v, next)).
        let k = below l at b m v next bl h p q in
        lt-ltb n 16384 (omega arith)) e

    back : (l : List ℕ) (at n next : ℕ) → Bits l → length_at l at ≡ Ok (n, next) → Stands l at (length_bits n) next
    back l at n next bl e =
        length_back _ l at n next (λ (h : n < 128) (p : bit_field l at 8 ≡ Ok (n, next)). rw (length_short n h)
        ((bit_field_is 8).read_written l at n next bl p))
        (λ (b m v : ℕ) (h : b < 192) (big : 32768 + 128 ≤ v) (x : n ≡ v - 32768) (p : bit_field l at 8 ≡ Ok (b, m)) (q : bit_field l at 16 ≡ Ok (v, next)).
        let y : 32768 + n ≡ v = omega arith in
        rw (length_long n (omega arith), y) ((bit_field_is 16).read_written l at v next bl q)) e

-- ---- a length from least to most

module _ (least most : ℕ) where
  limited_there : (l : List ℕ) (at n next : ℕ) → least ≤ n → n ≤ most → length_at l at ≡ Ok (n, next)
      → length_within l at least most ≡ Ok (n, next)
  unfolding length_within
  limited_there l at n next a b e = rw (e, le-leb least n a, le-leb n most b)

  limited_back : (R : Type 0) (l : List ℕ) (at n next : ℕ)
      → (leb least n && leb n most ≡ true → length_at l at ≡ Ok (n, next) → R)
      → length_within l at least most ≡ Ok (n, next) → R
  unfolding length_within
  limited_back R l at n next c e =
      via R (length_at l at) _ n next (λ (v m : ℕ) (p : length_at l at ≡ Ok (v, m)).
      if_value R (leb least v && leb v most) (Ok (v, m)) (refusal at Limit) n next (λ (t : leb least v && leb v most ≡ true) (q : Ok (v, m) ≡ Ok (n, next)).
      let x : v ≡ n = ok_value q in
      c (subst (λ (k : ℕ). leb least k && leb k most ≡ true) x t) (p ∙ q))) e

  pub limited_length : RoundTrip (λ (l : List ℕ) (at : ℕ). length_within l at least most) (within_fits least most) length_bits
  limited_length = record { are_bits = bits_length; written_read = there; read_fits = fit; read_written = back }
    where
      there : (l : List ℕ) (at n next : ℕ) → within_fits least most n ≡ true → Stands l at (length_bits n) next
          → length_within l at least most ≡ Ok (n, next)
      there l at n next f s =
          let k = both_left _ (length_fits n) f in
          limited_there l at n next (leb-true _ _ (both_left (leb least n) _ k)) (leb-true _ _ (both_right (leb least n) _ k))
          (length_determinant.written_read l at n next (both_right (leb least n && leb n most) _ f) s)

      fit : (l : List ℕ) (at n next : ℕ) → Bits l → length_within l at least most ≡ Ok (n, next) → within_fits least most n ≡ true
      fit l at n next b e = limited_back _ l at n next (λ (t : leb least n && leb n most ≡ true)
          (p : length_at l at ≡ Ok (n, next)). rw (t, length_determinant.read_fits l at n next b p)) e

      back : (l : List ℕ) (at n next : ℕ) → Bits l → length_within l at least most ≡ Ok (n, next) → Stands l at (length_bits n) next
      back l at n next b e = limited_back _ l at n next (λ (t : leb least n && leb n most ≡ true)
          (p : length_at l at ≡ Ok (n, next)). length_determinant.read_written l at n next b p) e

-- ---- a string: a field that counts its items, and the items

-- what a string that was read says: its count is one that the field has, and the field's bits and the items stand there
pub record StringIs (fits : ℕ → Bool) (bits : ℕ → List ℕ) (l : List ℕ) (at unit n next : ℕ) : Type 0 where
  pub count : fits n ≡ true
  pub from : next ≡ at + length (bits n) + unit * n
  pub stands : Stands l at (bits n ++ take (unit * n) (drop (at + length (bits n)) l)) next

module _ {rd : List ℕ → ℕ → Reading ℕ} {fits : ℕ → Bool} {bits : ℕ → List ℕ} (f : RoundTrip rd fits bits) (unit : ℕ) where
  pub items_written_read : (l : List ℕ) (at n next : ℕ) (items : List ℕ) → fits n ≡ true → length items ≡ unit * n
      → Stands l at (bits n ++ items) next
      → then (rd l at) (λ (k from : ℕ). contents_at l from unit k) ≡ Ok (n, next)
  unfolding run_at
  items_written_read l at n next items h m s =
      let w = stands_split l at next (bits n) items s in
      let a = w.second.within in
      let p : next ≡ at + length (bits n) + unit * n = w.second.place ∙ ap (λ (k : ℕ). at + length (bits n) + k) m in
      rw (f.written_read l at n _ h w.first, le-leb (at + length (bits n) + unit * n) (length l) (omega arith), p)

  pub items_read_written : (l : List ℕ) (at n next : ℕ) → Bits l
      → then (rd l at) (λ (k from : ℕ). contents_at l from unit k) ≡ Ok (n, next) → StringIs fits bits l at unit n next
  items_read_written l at n next b e = via (StringIs fits bits l at unit n next) (rd l at) _ n next found e
    where
      counted : (m : ℕ) → rd l at ≡ Ok (n, m) → next ≡ m + unit * n → m + unit * n ≤ length l → StringIs fits bits l at unit n next
      counted m p q h =
          let s = f.read_written l at n m b p in
          let e : m ≡ at + length (bits n) = s.place in
          let k : length (take (unit * n) (drop (at + length (bits n)) l)) ≡ unit * n = length_part l
          (at + length (bits n)) (unit * n) (omega arith) in
          let t : Stands l m (take (unit * n) (drop (at + length (bits n)) l)) next = record { place = omega arith; within = omega arith; holds = rw (k, e) } in
          record { count = f.read_fits l at n m b p; from = omega arith; stands = stands_join l at m next (bits n) _ s t }

      found : (k m : ℕ) → rd l at ≡ Ok (k, m) → contents_at l m unit k ≡ Ok (n, next) → StringIs fits bits l at unit n next
      found k m p c =
          let i = run_is l m (unit * k) k n next c in
          let x : k ≡ n = sym i.value in
          let a : m + unit * k ≤ length l = i.within in
          let z : next ≡ m + unit * k = i.place in
          counted m (p ∙ ap (λ (j : ℕ). Ok (j, m)) x) (rw x at z) (rw x at a)

-- a string with a length, and one with a size
pub string_read : (l : List ℕ) (at unit least most n next : ℕ) → Bits l → string_at l at unit least most ≡ Ok (n, next)
    → StringIs (within_fits least most) length_bits l at unit n next
unfolding string_at
string_read l at unit least most n next b e = items_read_written (limited_length least most) unit l at n next b e

pub string_written : (l : List ℕ) (at unit least most n next : ℕ) (items : List ℕ) → within_fits least most n ≡ true
    → length items ≡ unit * n → Stands l at (length_bits n ++ items) next → string_at l at unit least most ≡ Ok (n, next)
unfolding string_at
string_written l at unit least most n next items h m s = items_written_read (limited_length least most) unit l at n next items h m s

pub sized_read : (l : List ℕ) (at unit least most n next : ℕ) → most < 2 ^ 64 → Bits l
    → sized_at l at unit least most ≡ Ok (n, next)
    → StringIs (whole_fits least most) (whole_bits least most) l at unit n next
unfolding sized_at
sized_read l at unit least most n next small b e = items_read_written (whole_number_is least most small) unit l at n next b e

pub sized_written : (l : List ℕ) (at unit least most n next : ℕ) (items : List ℕ) → most < 2 ^ 64
    → whole_fits least most n ≡ true → length items ≡ unit * n → Stands l at (whole_bits least most n ++ items) next
    → sized_at l at unit least most ≡ Ok (n, next)
unfolding sized_at
sized_written l at unit least most n next items small h m s = items_written_read (whole_number_is least most small) unit l
    at n next items h m s
