-- Laws of bits put into bytes: what was put reads back, every other bit stays, and what stands there already changes nothing.
-- Assumes nothing.
use mathlib.Core.Path.{◌≡◌, refl, ap, sym, ◌∙◌}
use mathlib.Core.Bool.{Bool, true, false, cond, ◌&&◌}
use mathlib.Core.List.{List, [], ◌∷◌, ◌++◌, append_assoc}
use Prim.Native.Nat.{ℕ, zero, suc, ◌+◌, ◌-◌, ◌*◌, ◌/◌, ◌%◌, ◌^◌, ◌≤◌, ◌<◌}
use native.Mathlib.Omega.{arith}
use native.Mathlib.Decide.{dec_lt}
use native.Mathlib.Nat.{mod-eq_of_lt, zero-add, add-zero, suc-add, add-mul, mul_assoc, div-lt_iff_lt-mul}
use borrow.Author.Tests.{le-leb, leb-true, lt-ltb}
use lib.Dec.{leb, ltb}
use lib.ListN.{length, get_or, set, take, drop, length-append, length-set}
use lib.Seq.{set-append_left, take-set-le, drop-set-lt, drop_at, take_at, length-take-le, sets, sets-eq, length-sets, take-add}
use lib.Pow.{pow-add, pow_pos}
use Rattle.bits.specs.Bits.{bits_n, bits_of, num_of, bits_to, run}
use Rattle.bits.specs.Put.{with_bit, set_bit, put_bits, Left, left, put_run, put_if, put_number}
use Rattle.bits.proofs.Numbers.{Bits, bits_n_suc, bits_n_zero, num_append, num_lt, num_bits_n, bits_n_num, length_bits_n, bits_bits_n, bits_n_split, bits_n_take, bits_n_drop, bits_n_mod}
use Rattle.bits.proofs.Bytes.{bits_cons, length_bits_is, length_to, run_to, Holds, Bytes, bytes_bits, take_drop}
use Rattle.bits.proofs.Inside.{Within}
use Rattle.std.specs.Prelude.{None, Option, Some}

-- ---- the clauses of the definitions, as equations

pub put_cons : (s : List ℕ) (at b : ℕ) (bs : List ℕ) → put_bits s at (b ∷ bs) ≡ put_bits (set_bit s at b) (suc at) bs
unfolding put_bits
put_cons s at b bs = refl

pub put_nil : (s : List ℕ) (at : ℕ) → put_bits s at [] ≡ s
unfolding put_bits
put_nil s at = refl

pub length_set_bit : (s : List ℕ) (k b : ℕ) → length (set_bit s k b) ≡ length s
unfolding set_bit
length_set_bit s k b = simp length-set

pub length_put : (bs s : List ℕ) (at : ℕ) → length (put_bits s at bs) ≡ length s
length_put [] s at = rw put_nil
length_put (b ∷ bs) s at = rw put_cons (length_put bs (set_bit s at b) (suc at) ∙ length_set_bit s at b)

-- one run after the other is the two runs joined
pub put_append : (xs ys s : List ℕ) (at : ℕ) → put_bits s at (xs ++ ys) ≡ put_bits (put_bits s at xs) (at + length xs) ys
put_append [] ys s at = rw (put_nil s at, add-zero at)
put_append (x ∷ xs) ys s at =
    let e : at + suc (length xs) ≡ suc at + length xs = omega arith in
    rw (put_cons, put_cons, e) (put_append xs ys (set_bit s at x) (suc at))

-- ---- the bits of bytes into which bits were put

set_bits : (l : List ℕ) (j b : ℕ) → b < 2 → Bits l → Bits (set l j b)
set_bits [] j b hb h k = h k
set_bits (x ∷ l) zero b hb h zero = hb
set_bits (x ∷ l) zero b hb h (suc k) = h (suc k)
set_bits (x ∷ l) (suc j) b hb h zero = h zero
set_bits (x ∷ l) (suc j) b hb h (suc k) = set_bits l j b hb (λ (i : ℕ). h (suc i)) k

pub sets_bits : (bs l : List ℕ) (j : ℕ) → Bits bs → Bits l → Bits (sets l j bs)
sets_bits [] l j hb h = h
sets_bits (b ∷ bs) l j hb h = sets_bits bs (set l j b) (suc j) (λ (i : ℕ). hb (suc i)) (set_bits l j b (hb 0) h)

byte_set : (x j b : ℕ) → b < 2 → bits_n 8 (with_bit x j b) ≡ set (bits_n 8 x) j b
unfolding with_bit
byte_set x j b h =
    let e : length (set (bits_n 8 x) j b) ≡ 8 = simp (length-set, length_bits_n) in
    rw e at (bits_n_num (set (bits_n 8 x) j b) (set_bits (bits_n 8 x) j b h (bits_bits_n 8 x)))

set_here : (x : ℕ) (s : List ℕ) (k b : ℕ) → k < 8 → set_bit (x ∷ s) k b ≡ with_bit x k b ∷ s
unfolding set_bit
set_here x s k b h =
    let q : k / 8 ≡ 0 = omega arith in
    let r : k % 8 ≡ k = omega arith in
    rw (q, r)

set_later : (x : ℕ) (s : List ℕ) (k b : ℕ) → set_bit (x ∷ s) (8 + k) b ≡ x ∷ set_bit s k b
unfolding set_bit
set_later x s k b =
    let q : (8 + k) / 8 ≡ suc (k / 8) = omega arith in
    let r : (8 + k) % 8 ≡ k % 8 = omega arith in
    rw (q, r)

set_append_add : (a l : List ℕ) (k b : ℕ) → set (a ++ l) (length a + k) b ≡ a ++ set l k b
set_append_add [] l k b = rw (zero-add k)
set_append_add (x ∷ a) l k b = rw (suc-add (length a) k, set_append_add a l k b)

-- to set a bit of bytes is to set it in the list of their bits
bits_set : (s : List ℕ) (k b : ℕ) → b < 2 → k < 8 * length s → bits_of (set_bit s k b) ≡ set (bits_of s) k b
bits_set [] k b hb hk = absurd (omega arith)
bits_set (x ∷ s) k b hb hk =
    elim (dec_lt k 8) [
      | yes h ↦
          rw (set_here x s k b h, bits_cons, bits_cons, byte_set x k b hb)
          (sym (set-append_left (bits_n 8 x) (bits_of s) k b (rw (length_bits_n 8 x) h)))
      | no h ↦
          let e : k ≡ 8 + (k - 8) = omega arith in
          let f : k ≡ length (bits_n 8 x) + (k - 8) = rw (length_bits_n 8 x) e in
          ap (λ (j : ℕ). bits_of (set_bit (x ∷ s) j b)) e
          ∙ rw (set_later, bits_cons, bits_cons, bits_set s (k - 8) b hb (omega arith))
          (sym (set_append_add (bits_n 8 x) (bits_of s) (k - 8) b) ∙ ap (λ (j : ℕ). set (bits_n 8 x ++ bits_of s) j b) (sym f))
    ]

-- to put bits into bytes is to put them into the list of their bits
pub bits_put : (bs s : List ℕ) (at : ℕ) → Bits bs → at + length bs ≤ 8 * length s → bits_of (put_bits s at bs) ≡ sets (bits_of s) at bs
bits_put [] s at hb h = rw put_nil
bits_put (b ∷ bs) s at hb h =
    rw (
      put_cons,
      bits_put bs (set_bit s at b) (suc at) (λ (k : ℕ). hb (suc k)) (rw length_set_bit (omega arith)),
      bits_set s at b (hb 0) (omega arith),
    )

-- ---- what a reader finds

-- what was put is read back
pub read_back : (s : List ℕ) (at : ℕ) (bs : List ℕ) → Bits bs → at + length bs ≤ 8 * length s → run (put_bits s at bs) at (length bs) ≡ bs
unfolding run
read_back s at bs hb h =
    let f : at + length bs ≤ length (bits_of s) = rw length_bits_is h in
    rw (
      bits_put bs s at hb h,
      sets-eq bs (bits_of s) at f,
      append_assoc,
      drop_at (take at (bits_of s))
          (bs ++ drop (at + length bs) (bits_of s)) at (length-take-le at (bits_of s) (omega arith)),
    )
    (take_at bs (drop (at + length bs) (bits_of s)) (length bs) refl)

part_set_before : (l : List ℕ) (a n i v : ℕ) → a + n ≤ i → take n (drop a (set l i v)) ≡ take n (drop a l)
part_set_before l zero n i v h = take-set-le n l i v (omega arith)
part_set_before [] (suc a) n i v h = refl
part_set_before (x ∷ l) (suc a) n zero v h = absurd (omega arith)
part_set_before (x ∷ l) (suc a) n (suc i) v h = part_set_before l a n i v (omega arith)

part_sets_before : (vs l : List ℕ) (a n i : ℕ) → a + n ≤ i → take n (drop a (sets l i vs)) ≡ take n (drop a l)
part_sets_before [] l a n i h = refl
part_sets_before (v ∷ vs) l a n i h = part_sets_before vs (set l i v) a n (suc i) (omega arith) ∙ part_set_before l a n i v h

part_sets_after : (vs l : List ℕ) (a i : ℕ) → i + length vs ≤ a → drop a (sets l i vs) ≡ drop a l
part_sets_after [] l a i h = refl
part_sets_after (v ∷ vs) l a i h = part_sets_after vs (set l i v) a (suc i) (omega arith) ∙ drop-set-lt a l i v (omega arith)

-- bits before and after are as they were
pub kept_before : (s : List ℕ) (at : ℕ) (bs : List ℕ) → Bits bs → at + length bs ≤ 8 * length s → (a n : ℕ) → a + n ≤ at
    → run (put_bits s at bs) a n ≡ run s a n
unfolding run
kept_before s at bs hb h a n g = rw (bits_put bs s at hb h) (part_sets_before bs (bits_of s) a n at g)

pub kept_after : (s : List ℕ) (at : ℕ) (bs : List ℕ) → Bits bs → at + length bs ≤ 8 * length s → (a n : ℕ)
    → at + length bs ≤ a → run (put_bits s at bs) a n ≡ run s a n
unfolding run
kept_after s at bs hb h a n g = rw (bits_put bs s at hb h, part_sets_after bs (bits_of s) a at g)

-- ---- bits put within one byte

put_later : (bs : List ℕ) (x : ℕ) (s : List ℕ) (p : ℕ) → put_bits (x ∷ s) (8 + p) bs ≡ x ∷ put_bits s p bs
put_later [] x s p = rw (put_nil, put_nil)
put_later (b ∷ bs) x s p =
    let e : suc (8 + p) ≡ 8 + suc p = omega arith in
    rw (put_cons, put_cons, set_later, e) (put_later bs x (set_bit s p b) (suc p))

-- bits set one after the other in one byte
with_bits : ℕ → ℕ → List ℕ → ℕ
with_bits y k [] = y
with_bits y k (b ∷ bs) = with_bits (with_bit y k b) (suc k) bs

put_front : (bs : List ℕ) (y : ℕ) (s : List ℕ) (k : ℕ) → k + length bs ≤ 8 → put_bits (y ∷ s) k bs ≡ with_bits y k bs ∷ s
unfolding with_bits
put_front [] y s k h = put_nil (y ∷ s) k
put_front (b ∷ bs) y s k h = rw (put_cons, set_here y s k b (omega arith)) (put_front bs (with_bit y k b) s (suc k) (omega arith))

with_sets : (bs : List ℕ) (y k b : ℕ) → Bits (b ∷ bs) → with_bits y k (b ∷ bs) ≡ num_of (sets (bits_n 8 y) k (b ∷ bs))
unfolding with_bits with_bit
with_sets [] y k b h = refl
with_sets (c ∷ bs) y k b h =
    with_sets bs (with_bit y k b) (suc k) c (λ (i : ℕ). h (suc i)) ∙ ap
    (λ (l : List ℕ). num_of (sets l (suc k) (c ∷ bs))) (byte_set y k b (h 0))

-- bits that lie within one byte change that byte alone
pub put_in_byte : (s : List ℕ) (p b : ℕ) (bs : List ℕ) → Bits (b ∷ bs) → p / 8 < length s → p % 8 + suc (length bs) ≤ 8
    → put_bits s p (b ∷ bs) ≡ set s (p / 8) (num_of (sets (bits_n 8 (get_or s (p / 8) 0)) (p % 8) (b ∷ bs)))
put_in_byte [] p b bs hb h g = absurd (omega arith)
put_in_byte (y ∷ s) p b bs hb h g =
    elim (dec_lt p 8) [
      | yes l ↦
          let q : p / 8 ≡ 0 = omega arith in
          let r : p % 8 ≡ p = omega arith in
          rw (q, r) (put_front (b ∷ bs) y s p (omega arith) ∙ ap (λ (z : ℕ). z ∷ s) (with_sets bs y p b hb))
      | no l ↦
          let q : p / 8 ≡ suc ((p - 8) / 8) = omega arith in
          let r : p % 8 ≡ (p - 8) % 8 = omega arith in
          let e : p ≡ 8 + (p - 8) = omega arith in
          ap (λ (k : ℕ). put_bits (y ∷ s) k (b ∷ bs)) e
          ∙ rw (q, r) (put_later (b ∷ bs) y s (p - 8) ∙ ap (λ (z : List ℕ). y ∷ z)
          (put_in_byte s (p - 8) b bs hb (omega arith) (omega arith)))
    ]

-- a number of k bits put within one byte
pub number_in_byte : (s : List ℕ) (p k v : ℕ) → 0 < k → p / 8 < length s → p % 8 + k ≤ 8
    → put_bits s p (bits_n k v) ≡ set s (p / 8) (num_of (sets (bits_n 8 (get_or s (p / 8) 0)) (p % 8) (bits_n k v)))
number_in_byte s p zero v pos h g = absurd (omega arith)
number_in_byte s p (suc k) v pos h g =
    rw (bits_n_suc k v) (put_in_byte s p (v / 2 ^ k % 2) (bits_n k v) (rw (← bits_n_suc k v) (bits_bits_n (suc k) v)) h (rw length_bits_n g))

-- ---- the byte that `with_piece` makes

apart : (a K p M c : ℕ) → (a * K + p) * M + c ≡ a * (K * M) + p * M + c
apart a K p M c = rw (add-mul, mul_assoc)

div_lt : (x r m : ℕ) → x < 2 ^ (r + m) → x / 2 ^ m < 2 ^ r
div_lt x r m h = (div-lt_iff_lt-mul (pow_pos m)).1 (rw pow-add at h)

pub piece_put : (x r k p : ℕ) → x < 256 → r + k ≤ 8 → p < 2 ^ k
    → x / 2 ^ (8 - r) * 2 ^ (8 - r) + p * 2 ^ (8 - r - k) + x % 2 ^ (8 - r - k) ≡ num_of (sets (bits_n 8 x) r (bits_n k p))
piece_put x r k p hx h hp =
    let m : ℕ = 8 - r - k in
    let e : 8 ≡ r + (8 - r) = omega arith in
    let f : 8 - r ≡ k + (8 - r - k) = omega arith in
    let g : 8 - (r + k) ≡ 8 - r - k = omega arith in
    let w : 2 ^ (8 - r) ≡ 2 ^ k * 2 ^ (8 - r - k) = ap (λ (n : ℕ). 2 ^ n) f ∙ pow-add 2 k (8 - r - k) in
    let n = length_bits_n 8 x in
    let hh : x < 2 ^ (r + (8 - r)) = rw (← e) hx in
    let a : num_of (take r (bits_n 8 x)) ≡ x / 2 ^ (8 - r) = ap (λ (j : ℕ). num_of (take r (bits_n j x))) e ∙ rw
    (bits_n_take r (8 - r) x, num_bits_n r (x / 2 ^ (8 - r))) (mod-eq_of_lt (div_lt x r (8 - r) hh)) in
    let b : num_of (bits_n k p) ≡ p = num_bits_n k p ∙ mod-eq_of_lt hp in
    let d : drop (r + k) (bits_n 8 x) ≡ bits_n (8 - r - k) x = rw (bits_n_drop (r + k) 8 x h, g) in
    let z : sets (bits_n 8 x) r (bits_n k p) ≡ take r (bits_n 8 x) ++ bits_n k p ++ bits_n (8 - r - k) x = sets-eq
    (bits_n k p) (bits_n 8 x) r (rw (length_bits_n k p, n) h) ∙ rw (length_bits_n k p, d) in
    rw (z, num_append, num_append, length_bits_n, length_bits_n, a, b, num_bits_n (8 - r - k) x, w)
    (sym (apart (x / (2 ^ k * 2 ^ (8 - r - k))) (2 ^ k) p (2 ^ (8 - r - k)) (x % 2 ^ (8 - r - k))))

pub byte_lt : (x r k p : ℕ) → num_of (sets (bits_n 8 x) r (bits_n k p)) < 256
byte_lt x r k p =
    let n : length (sets (bits_n 8 x) r (bits_n k p)) ≡ 8 = length-sets (bits_n 8 x) r (bits_n k p) ∙ length_bits_n 8 x in
    rw n at (num_lt (sets (bits_n 8 x) r (bits_n k p)) (sets_bits (bits_n k p) (bits_n 8 x) r (bits_bits_n k p) (bits_bits_n 8 x)))

-- ---- a turn of the loop of `put_number_at`

pub start : (s : List ℕ) (at n v : ℕ) → put_bits s (at + 0) (bits_n (n - 0) v) ≡ put_bits s at (bits_n n v)
start s at n v =
    let e : n - 0 ≡ n = omega arith in
    let f : at + 0 ≡ at = omega arith in
    rw (e, f)

pub done : (s : List ℕ) (at n i v : ℕ) → n ≤ i → put_bits s (at + i) (bits_n (n - i) v) ≡ s
done s at n i v h =
    let e : n - i ≡ 0 = omega arith in
    rw (e, bits_n_zero, put_nil)

pub turn : (d d' z : List ℕ) (at n i k v w part x : ℕ) → 0 < k → i + k ≤ n → (at + i) % 8 + k ≤ 8
    → at + n ≤ 8 * length d → w ≡ 2 ^ k → part ≡ v / 2 ^ (n - i - k) % w
    → x ≡ num_of (sets (bits_n 8 (get_or d ((at + i) / 8) 0)) ((at + i) % 8) (bits_n k part)) → d' ≡ set d ((at + i) / 8) x
    → put_bits d (at + i) (bits_n (n - i) v) ≡ z → put_bits d' (at + (i + k)) (bits_n (n - (i + k)) v) ≡ z
turn d d' z at n i k v w part x pos hk g h q p u e inv =
    let a : n - i ≡ k + (n - i - k) = omega arith in
    let b : n - i - k ≡ n - (i + k) = omega arith in
    let t : at + i + k ≡ at + (i + k) = omega arith in
    let c : bits_n k (v / 2 ^ (n - i - k)) ≡ bits_n k part = rw (p, q) (sym (bits_n_mod k (v / 2 ^ (n - i - k)))) in
    let s : bits_n (n - i) v ≡ bits_n k part ++ bits_n (n - (i + k)) v = ap (λ (j : ℕ). bits_n j v) a ∙ rw
    (bits_n_split k (n - i - k) v, c, b) in
    let y : put_bits (put_bits d (at + i) (bits_n k part)) (at + (i + k)) (bits_n (n - (i + k)) v) ≡ z = rw
    (s, put_append, length_bits_n k part, t) at inv in
    let o : put_bits d (at + i) (bits_n k part) ≡ d' = number_in_byte d (at + i) k part pos (omega arith) g ∙ sym
    (e ∙ ap (set d ((at + i) / 8)) u) in
    rw o at y

-- ---- the answers of the writers

pub put_fits : (s : List ℕ) (e at : ℕ) (bs : List ℕ) → at + length bs ≤ length (bits_to s e)
    → put_run s e at bs ≡ left (Some (at + length bs)) (put_bits s at bs)
unfolding put_run
put_fits s e at bs h = rw (le-leb (at + length bs) (length (bits_to s e)) h)

pub put_full : (s : List ℕ) (e at : ℕ) (bs : List ℕ) → leb (at + length bs) (length (bits_to s e)) ≡ false → put_run s e at bs ≡ left None s
unfolding put_run
put_full s e at bs h = rw h

-- what a place as the answer says
pub record PutIs (s : List ℕ) (e at : ℕ) (bs : List ℕ) (next : ℕ) (z : List ℕ) : Type 0 where
  pub place : next ≡ at + length bs
  pub within : at + length bs ≤ length (bits_to s e)
  pub bytes : z ≡ put_bits s at bs

pub put_is : (s : List ℕ) (e at : ℕ) (bs : List ℕ) (next : ℕ) (z : List ℕ) → put_run s e at bs ≡ left (Some next) z → PutIs s e at bs next z
unfolding put_run
put_is s e at bs next z h = go (leb (at + length bs) (length (bits_to s e))) refl h
  where
    go : (t : Bool) → leb (at + length bs) (length (bits_to s e)) ≡ t
        → cond t (left (Some (at + length bs)) (put_bits s at bs)) (left None s) ≡ left (Some next) z
        → PutIs s e at bs next z
    go true p q =
        let a : Some (at + length bs) ≡ Some next = ap (λ (l : Left). l.answer) q in
        record { place = cc; within = leb-true _ _ p; bytes = sym (ap (λ (l : Left). l.bytes) q) }
    go false p q =
        let a : None ≡ Some next = ap (λ (l : Left). l.answer) q in
        let x : ◌≡◌ {A = ℕ} 0 1 = cc in
        absurd (omega arith)

-- a number, as the code has it
pub is_put : (s z : List ℕ) (e at n v : ℕ) (t : Bool) → t ≡ (leb n 64 && ltb v (2 ^ n)) → t ≡ true → Within s e at n
    → z ≡ put_bits s at (bits_n n v) → left (Some (at + n)) z ≡ put_number s e at n v
unfolding put_number put_if put_run
is_put s z e at n v t p q w f = rw (← p, q, length_bits_n n v, w.test, f)

-- any width holds zero
pub zero_held : (n : ℕ) → n ≤ 64 → true ≡ (leb n 64 && ltb 0 (2 ^ n))
zero_held n h = rw (le-leb n 64 h, lt-ltb 0 (2 ^ n) (pow_pos n))

pub is_full : (s : List ℕ) (e at n v : ℕ) (t : Bool) → t ≡ (leb n 64 && ltb v (2 ^ n)) → t ≡ true
    → leb (at + n) (length (bits_to s e)) ≡ false → left None s ≡ put_number s e at n v
unfolding put_number put_if put_run
is_full s e at n v t p q w = rw (← p, q, length_bits_n n v, w)

pub is_too_wide : (s : List ℕ) (e at n v : ℕ) (t : Bool) → t ≡ (leb n 64 && ltb v (2 ^ n)) → t ≡ false → left None s ≡ put_number s e at n v
unfolding put_number put_if
is_too_wide s e at n v t p q = rw (← p, q)

-- 64 bits hold every number of the code
pub in_64 : (v : ℕ) → v < 2 ^ 64 → (leb 64 64 && ltb v (2 ^ 64)) ≡ true
in_64 v h = lt-ltb v (2 ^ 64) h

-- ---- writers, one after the other

pub put_if_yes : (ok : Bool) (s : List ℕ) (e at : ℕ) (bs : List ℕ) → ok ≡ true → put_if ok s e at bs ≡ put_run s e at bs
unfolding put_if
put_if_yes ok s e at bs h = rw h

pub put_if_no : (ok : Bool) (s : List ℕ) (e at : ℕ) (bs : List ℕ) → ok ≡ false → put_if ok s e at bs ≡ left None s
unfolding put_if
put_if_no ok s e at bs h = rw h

-- where both runs fit, the second after the first is the two joined
pub put_then : (s z : List ℕ) (e at : ℕ) (xs ys : List ℕ) (r : Option ℕ) → at + length (xs ++ ys) ≤ length (bits_to s e)
    → left r z ≡ put_run s e at xs → put_run z e (at + length xs) ys ≡ put_run s e at (xs ++ ys)
put_then s z e at xs ys r h p =
    let n : length (xs ++ ys) ≡ length xs + length ys = length-append xs ys in
    let f : left r z ≡ left (Some (at + length xs)) (put_bits s at xs) = p ∙ put_fits s e at xs (omega arith) in
    let b : z ≡ put_bits s at xs = ap (λ (l : Left). l.bytes) f in
    let k : length (bits_to z e) ≡ length (bits_to s e) = rw (b, length_to, length_to, length_put) in
    let q : at + length xs + length ys ≡ at + length (xs ++ ys) = omega arith in
    put_fits z e (at + length xs) ys (omega arith) ∙ (rw (q, b, ← put_append xs ys s at)) ∙ sym (put_fits s e at (xs ++ ys) h)

-- ---- what was put stands there, and what stands there already changes nothing

pub put_stands : (s : List ℕ) (e at : ℕ) (bs : List ℕ) → Bits bs → at + length bs ≤ length (bits_to s e)
    → Holds (bits_to (put_bits s at bs) e) at bs
put_stands s e at bs hb h =
    let m = length_to s e in
    run_to (put_bits s at bs) e at (length bs) (omega arith) ∙ read_back s at bs hb (omega arith)

byte_with : (x j b : ℕ) → b < 2 → with_bit x j b < 256
unfolding with_bit
byte_with x j b h =
    let e : length (set (bits_n 8 x) j b) ≡ 8 = simp (length-set, length_bits_n) in
    rw e at (num_lt (set (bits_n 8 x) j b) (set_bits (bits_n 8 x) j b h (bits_bits_n 8 x)))

bytes_set : (s : List ℕ) (i x : ℕ) → x < 256 → Bytes s → Bytes (set s i x)
bytes_set [] i x h b k = b k
bytes_set (y ∷ s) zero x h b zero = h
bytes_set (y ∷ s) zero x h b (suc k) = b (suc k)
bytes_set (y ∷ s) (suc i) x h b zero = b 0
bytes_set (y ∷ s) (suc i) x h b (suc k) = bytes_set s i x h (λ (j : ℕ). b (suc j)) k

bytes_set_bit : (s : List ℕ) (k b : ℕ) → b < 2 → Bytes s → Bytes (set_bit s k b)
unfolding set_bit
bytes_set_bit s k b h f = bytes_set s (k / 8) (with_bit (get_or s (k / 8) 0) (k % 8) b) (byte_with (get_or s (k / 8) 0) (k % 8) b h) f

pub bytes_put : (bs s : List ℕ) (at : ℕ) → Bits bs → Bytes s → Bytes (put_bits s at bs)
bytes_put [] s at hb b = rw put_nil b
bytes_put (x ∷ bs) s at hb b = rw put_cons (bytes_put bs (set_bit s at x) (suc at) (λ (k : ℕ). hb (suc k)) (bytes_set_bit s at x (hb 0) b))

-- bytes are equal where their bits are
pub same_bytes : (a b : List ℕ) → Bytes a → Bytes b → length a ≡ length b → bits_of a ≡ bits_of b → a ≡ b
same_bytes a b ha hb n e = sym (bytes_bits a ha) ∙ rw (n, e) (bytes_bits b hb)

restored : (s : List ℕ) (at : ℕ) (bs : List ℕ) → run s at (length bs) ≡ bs
    → take at (bits_of s) ++ bs ++ drop (at + length bs) (bits_of s) ≡ bits_of s
unfolding run
restored s at bs g =
    ap (λ (l : List ℕ). take at (bits_of s) ++ l ++ drop (at + length bs) (bits_of s)) (sym g)
    ∙ rw (← take-add at (length bs) (bits_of s)) (take_drop (at + length bs) (bits_of s))

pub put_same : (s : List ℕ) (e at : ℕ) (bs : List ℕ) → Bytes s → Bits bs → at + length bs ≤ length (bits_to s e)
    → Holds (bits_to s e) at bs → put_bits s at bs ≡ s
put_same s e at bs b hb h k =
    let m = length_to s e in
    let f : at + length bs ≤ length (bits_of s) = rw length_bits_is (omega arith) in
    let g : run s at (length bs) ≡ bs = sym (run_to s e at (length bs) (omega arith)) ∙ k in
    same_bytes (put_bits s at bs) s (bytes_put bs s at hb b) b (length_put bs s at)
    (bits_put bs s at hb (omega arith) ∙ sets-eq bs (bits_of s) at f ∙ restored s at bs g)
