-- Laws of the readers' answers: a refusal is handed up unchanged, a value goes on; and what each fault is found at.
-- Assumes nothing.
use mathlib.Core.Path.{◌≡◌, refl, ap, sym, ◌∙◌}
use mathlib.Core.Bool.{Bool, true, false, cond}
use mathlib.Core.List.{List}
use Prim.Native.Nat.{ℕ, ◌+◌, ◌-◌, ◌*◌, ◌/◌, ◌%◌, ◌≤◌, ◌<◌}
use native.Mathlib.Omega.{arith}
use native.Mathlib.Nat.{mul_comm, div-lt_iff_lt-mul, mul-le-mul_right, div-add-mod'}
use borrow.Author.Tests.{le-leb, lt-leb, le-ltb, lt-ltb, eq-eqb, ne_eqb, leb-true}
use lib.Dec.{leb}
use lib.ListN.{length}
use Rattle.bits.specs.Bits.{bits_to}
use Rattle.bits.proofs.Bytes.{length_to}
use Rattle.bits.proofs.Inside.{Within}
use Rattle.fields.specs.Fields.{Reading, refused_at, then, bit_field, extension_bit, width_of, whole_number, length_at, length_from, long_length, length_within, run_at}
use Rattle.fields.specs.declared.Refusal.{Refusal}
use Rattle.fields.specs.declared.Fault.TheVariants.{Short, Range, Extension, LengthForm, Limit}
use Rattle.std.specs.Prelude.{Err, Ok, Result}
use Rattle.words.proofs.Laws.{ok_value, ok_place}

pub handed : {A B : Type 0} (f g : Reading A) (r : Refusal) (k : A → ℕ → Result B Refusal) → f ≡ g → f ≡ Err r → Err r ≡ then g k
handed {A} f g r k p q = ap (λ (x : Reading A). then x k) (sym q ∙ p)

pub went : {A B : Type 0} (f g : Reading A) (o : Result B Refusal) (v : A) (n : ℕ) (k : A → ℕ → Result B Refusal) → f ≡ g → f ≡ Ok (v, n) → o ≡ k v n
    → o ≡ then g k
went {A} f g o v n k p q h = h ∙ ap (λ (x : Reading A). then x k) (sym q ∙ p)

-- ---- an extension bit

module _ (l : List ℕ) (at : ℕ) (f : Reading ℕ) (p : f ≡ bit_field l at 1) where
  pub ext_clear : (b next : ℕ) → f ≡ Ok (b, next) → b ≡ 0 → Ok (0, next) ≡ extension_bit l at
  unfolding extension_bit
  ext_clear b next q e = went f _ _ b next _ p q (rw (eq-eqb b 0 e))

  pub ext_set : (b next : ℕ) (o : Reading ℕ) → f ≡ Ok (b, next) → (b ≡ 0 → ⊥) → o ≡ refused_at at Extension → o ≡ extension_bit l at
  unfolding extension_bit
  ext_set b next o q e h = went f _ _ b next _ p q (rw (ne_eqb b 0 e) h)

-- ---- a whole number: w bits, where w is the width of d, and d how far hi lies above lo

module _ (l : List ℕ) (at lo hi w d : ℕ) (f : Reading ℕ) (p : f ≡ bit_field l at w) (pw : w ≡ width_of d) (pd : d ≡ hi - lo) where
  distance : f ≡ bit_field l at (width_of (hi - lo))
  distance = p ∙ ap (bit_field l at) (pw ∙ ap width_of pd)

  pub whole_in : (v next : ℕ) → f ≡ Ok (v, next) → lo + v ≤ hi → Ok (lo + v, next) ≡ whole_number l at lo hi
  unfolding whole_number
  whole_in v next q h = went f _ _ v next _ distance q (rw (le-leb (lo + v) hi h))

  pub whole_out : (v next : ℕ) (o : Reading ℕ) → f ≡ Ok (v, next) → hi < lo + v → o ≡ refused_at at Range → o ≡ whole_number l at lo hi
  unfolding whole_number
  whole_out v next o q h e = went f _ _ v next _ distance q (rw (lt-leb (lo + v) hi h) e)

-- ---- a length

module _ (l : List ℕ) (at : ℕ) (f : Reading ℕ) (p : f ≡ bit_field l at 8) where
  from_first : (b next : ℕ) (o : Reading ℕ) → f ≡ Ok (b, next) → o ≡ length_from l at b next → o ≡ length_at l at
  unfolding length_at
  from_first b next o q e = went f _ o b next (length_from l at) p q e

  pub len_fragment : (b next : ℕ) (o : Reading ℕ) → f ≡ Ok (b, next) → 128 ≤ b → 192 ≤ b → o ≡ refused_at at LengthForm → o ≡ length_at l at
  len_fragment b next o q h g e = from_first b next o q (rw (le-ltb b 128 h, le-leb 192 b g) e)

  module _ (b next : ℕ) (q : f ≡ Ok (b, next)) (h : 128 ≤ b) (g : b < 192) (f2 : Reading ℕ) (p2 : f2 ≡ bit_field l at 16) where
    pub len_low : (v last : ℕ) (o : Reading ℕ) → f2 ≡ Ok (v, last) → v < 32768 + 128 → o ≡ refused_at at LengthForm → o ≡ length_at l at
    len_low v last o q2 k e = from_first b next o q (rw (le-ltb b 128 h, lt-leb 192 b g)
        (went f2 _ o v last (long_length at) p2 q2 (rw (lt-ltb v (32768 + 128) k) e)))

module _ (l : List ℕ) (at least most : ℕ) (f : Reading ℕ) (p : f ≡ length_at l at) where
  pub within_low : (n next : ℕ) (o : Reading ℕ) → f ≡ Ok (n, next) → n < least → o ≡ refused_at at Limit → o ≡ length_within l at least most
  unfolding length_within
  within_low n next o q h e = went f _ o n next _ p q (rw (lt-leb least n h) e)

  pub within_high : (n next : ℕ) (o : Reading ℕ) → f ≡ Ok (n, next) → least ≤ n → most < n → o ≡ refused_at at Limit
      → o ≡ length_within l at least most
  unfolding length_within
  within_high n next o q h g e = went f _ o n next _ p q (rw (le-leb least n h, lt-leb n most g) e)

-- ---- contents

pub run_there : (s : List ℕ) (e at count n : ℕ) → Within s e at count → Ok (n, at + count) ≡ run_at (bits_to s e) at count n
unfolding run_at
run_there s e at count n w = rw w.test

pub run_short : (l : List ℕ) (at count n : ℕ) (o : Reading ℕ) → leb (at + count) (length l) ≡ false → o ≡ refused_at at Short
    → o ≡ run_at l at count n
unfolding run_at
run_short l at count n o h e = rw h e

-- what the count and the place after contents say
pub record RunIs (l : List ℕ) (at count n v next : ℕ) : Type 0 where
  pub value : v ≡ n
  pub place : next ≡ at + count
  pub within : at + count ≤ length l

pub run_is : (l : List ℕ) (at count n v next : ℕ) → run_at l at count n ≡ Ok (v, next) → RunIs l at count n v next
unfolding run_at
run_is l at count n v next e = go (leb (at + count) (length l)) refl e
  where
    go : (t : Bool) → leb (at + count) (length l) ≡ t
        → cond {A = Reading ℕ} t (Ok (n, at + count)) (refused_at at Short) ≡ Ok (v, next) → RunIs l at count n v next
    go true p q = record { value = sym (ok_value q); place = sym (ok_place q); within = leb-true _ _ p }
    go false p q = let z : ◌≡◌ {A = ℕ} 0 1 = cc in absurd (omega arith)

pub run_not : (l : List ℕ) (at count n : ℕ) (r : Refusal) → run_at l at count n ≡ Err r → leb (at + count) (length l) ≡ false
unfolding run_at
run_not l at count n r e = go (leb (at + count) (length l)) refl e
  where
    go : (t : Bool) → leb (at + count) (length l) ≡ t
        → cond {A = Reading ℕ} t (Ok (n, at + count)) (refused_at at Short) ≡ Err r → leb (at + count) (length l) ≡ false
    go true p q = let z : ◌≡◌ {A = ℕ} 0 1 = cc in absurd (omega arith)
    go false p q = p

-- more bits than there are pass the end by themselves
pub past_all : (s : List ℕ) (e at count : ℕ) → e < count → leb (at + count) (length (bits_to s e)) ≡ false
past_all s e at count h =
    let k : length (bits_to s e) ≤ e = rw length_to (omega arith) in
    lt-leb (at + count) (length (bits_to s e)) (omega arith)

-- so does a count of items
pub past_end : (s : List ℕ) (e at unit n : ℕ) → 0 < unit → e / unit < n → leb (at + unit * n) (length (bits_to s e)) ≡ false
past_end s e at unit n pos h =
    let m : e < n * unit = (div-lt_iff_lt-mul pos).0 h in
    let c : n * unit ≡ unit * n = mul_comm n unit in
    past_all s e at (unit * n) (omega arith)

pub product_fits : (e unit n : ℕ) → 0 < unit → n ≤ e / unit → unit * n ≤ e
product_fits e unit n pos h =
    let m : n * unit ≤ e / unit * unit = mul-le-mul_right unit h in
    let d : e / unit * unit + e % unit ≡ e = div-add-mod' e unit in
    let c : n * unit ≡ unit * n = mul_comm n unit in
    omega arith
