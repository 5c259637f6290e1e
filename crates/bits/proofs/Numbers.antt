-- Laws of the bits of a number and of the number that bits say, over any width.
-- Assumes nothing.
use mathlib.Core.Path.{◌≡◌, refl, ap, sym, ◌∙◌}
use mathlib.Core.List.{List, [], ◌∷◌, ◌++◌}
use Prim.Native.Nat.{ℕ, zero, suc, ◌+◌, ◌-◌, ◌*◌, ◌/◌, ◌%◌, ◌^◌, ◌≤◌, ◌<◌}
use native.Mathlib.Omega.{arith}
use native.Mathlib.Nat.{pow-suc, add-mul, mul_assoc, mul_comm, zero-add, suc-add, add_comm, add_assoc, sub-zero, mul-add-div_right}
use lib.ListN.{length, get_or, take, drop}
use lib.Seq.{take_at}
use lib.Pow.{pow_pos, mod-pow-add, high, shr-shr}
use lib.Arith.{digits_lt}
use Rattle.bits.specs.Bits.{bits_n, acc_of, num_of}

-- ---- the clauses of the definitions, as equations

pub bits_n_suc : (n v : ℕ) → bits_n (suc n) v ≡ v / 2 ^ n % 2 ∷ bits_n n v
unfolding bits_n
bits_n_suc n v = refl

pub bits_n_zero : (v : ℕ) → bits_n 0 v ≡ []
unfolding bits_n
bits_n_zero v = refl

pub acc_cons : (a b : ℕ) (l : List ℕ) → acc_of a (b ∷ l) ≡ acc_of (a * 2 + b) l
unfolding acc_of
acc_cons a b l = refl

pub num_nil : num_of [] ≡ 0
unfolding acc_of
num_nil = refl

-- ---- lengths, and what is a bit

pub length_bits_n : (n v : ℕ) → length (bits_n n v) ≡ n
unfolding bits_n
length_bits_n zero v = refl
length_bits_n (suc n) v = ap suc (length_bits_n n v)

-- every element is a bit
abbrev pub Bits : List ℕ → Type 0
Bits l = (k : ℕ) → get_or l k 0 < 2

pub bits_bits_n : (n v : ℕ) → Bits (bits_n n v)
unfolding bits_n
bits_bits_n zero v k = omega arith
bits_bits_n (suc n) v zero = omega arith
bits_bits_n (suc n) v (suc k) = bits_bits_n n v k

-- ---- the number that bits say

dbl : (a b p : ℕ) → (a * 2 + b) * p ≡ a * (p * 2) + b * p
dbl a b p = rw (add-mul (a * 2) b p, mul_assoc a 2 p, mul_comm 2 p)

-- bits after a number, as a sum
pub acc_sum : (a : ℕ) (l : List ℕ) → acc_of a l ≡ a * 2 ^ length l + num_of l
unfolding acc_of
acc_sum a [] = omega arith
acc_sum a (b ∷ l) = rw (acc_sum (a * 2 + b) l, acc_sum (0 + b) l, dbl, zero-add, pow-suc, add_assoc)

acc_append : (a : ℕ) (xs ys : List ℕ) → acc_of a (xs ++ ys) ≡ acc_of (acc_of a xs) ys
unfolding acc_of
acc_append a [] ys = refl
acc_append a (x ∷ xs) ys = acc_append (a * 2 + x) xs ys

pub num_cons : (b : ℕ) (l : List ℕ) → num_of (b ∷ l) ≡ b * 2 ^ length l + num_of l
num_cons b l = rw (acc_cons, acc_sum, zero-add)

pub num_append : (xs ys : List ℕ) → num_of (xs ++ ys) ≡ num_of xs * 2 ^ length ys + num_of ys
num_append xs ys = acc_append 0 xs ys ∙ acc_sum (num_of xs) ys

-- n bits say a number below 2 ^ n
pub num_lt : (l : List ℕ) → Bits l → num_of l < 2 ^ length l
unfolding acc_of
num_lt [] h = omega arith
num_lt (b ∷ l) h =
    let r = num_lt l (λ (k : ℕ). h (suc k)) in
    let d : b * 2 ^ length l + num_of l < 2 * 2 ^ length l = digits_lt (h 0) r in
    rw (num_cons, pow-suc) (omega arith)

-- the bits of a number say that number
pub num_bits_n : (n v : ℕ) → num_of (bits_n n v) ≡ v % 2 ^ n
unfolding acc_of
num_bits_n zero v = rw bits_n_zero (omega arith)
num_bits_n (suc n) v =
    let e : v % 2 ^ (1 + n) ≡ (v / 2 ^ n % 2 ^ 1) * 2 ^ n + v % 2 ^ n = mod-pow-add v 1 n in
    let f : suc n ≡ 1 + n = omega arith in
    rw (bits_n_suc, num_cons, length_bits_n, num_bits_n n v, f, e)

-- what is a multiple of 2 ^ n does not show in the n low bits
pub bits_n_high : (n q v : ℕ) → bits_n n (q * 2 ^ n + v) ≡ bits_n n v
bits_n_high zero q v = rw (bits_n_zero, bits_n_zero)
bits_n_high (suc n) q v =
    let s : q * 2 ^ suc n ≡ q * 2 * 2 ^ n = rw (pow-suc, mul_comm (2 ^ n) 2, ← mul_assoc q 2 (2 ^ n)) in
    let d : (q * 2 * 2 ^ n + v) / 2 ^ n ≡ q * 2 + v / 2 ^ n = mul-add-div_right (pow_pos n) (q * 2) v in
    let m : (q * 2 + v / 2 ^ n) % 2 ≡ v / 2 ^ n % 2 = omega arith in
    rw (s, bits_n_suc n (q * 2 * 2 ^ n + v), d, m, bits_n_high n (q * 2) v, bits_n_suc)

-- bits are the bits of the number that they say
pub bits_n_num : (l : List ℕ) → Bits l → bits_n (length l) (num_of l) ≡ l
bits_n_num [] h = bits_n_zero _
bits_n_num (b ∷ l) h =
    let e = high b (length l) (num_lt l (λ (k : ℕ). h (suc k))) in
    let f : b % 2 ≡ b = omega (arith, h 0) in
    rw (bits_n_suc, num_cons, e, f, bits_n_high, bits_n_num l (λ (k : ℕ). h (suc k)))

-- ---- parts of the bits of a number

pub bits_n_split : (m n v : ℕ) → bits_n (m + n) v ≡ bits_n m (v / 2 ^ n) ++ bits_n n v
bits_n_split zero n v = rw (zero-add, bits_n_zero)
bits_n_split (suc m) n v = rw (suc-add, bits_n_suc, bits_n_suc, shr-shr v n m, add_comm n m, bits_n_split m n v)

pub bits_n_drop : (r n v : ℕ) → r ≤ n → drop r (bits_n n v) ≡ bits_n (n - r) v
bits_n_drop zero n v h = rw (sub-zero n)
bits_n_drop (suc r) zero v h = absurd (omega arith)
bits_n_drop (suc r) (suc n) v h =
    let e : suc n - suc r ≡ n - r = omega arith in
    rw (bits_n_suc, e) (bits_n_drop r n v (omega arith))

-- the first m of m + k bits
pub bits_n_take : (m k v : ℕ) → take m (bits_n (m + k) v) ≡ bits_n m (v / 2 ^ k)
bits_n_take m k v = rw (bits_n_split m k v) (take_at (bits_n m (v / 2 ^ k)) (bits_n k v) m (length_bits_n m (v / 2 ^ k)))

-- m bits, after the first r of r + m + k
pub bits_n_part : (r m k v : ℕ) → take m (drop r (bits_n (r + (m + k)) v)) ≡ bits_n m (v / 2 ^ k)
bits_n_part r m k v =
    let e : r + (m + k) - r ≡ m + k = omega arith in
    rw (bits_n_drop r (r + (m + k)) v (omega arith), e) (bits_n_take m k v)

-- only the n low bits of a number show
pub bits_n_mod : (n v : ℕ) → bits_n n (v % 2 ^ n) ≡ bits_n n v
bits_n_mod n v = ap (bits_n n) (sym (num_bits_n n v)) ∙ (rw (length_bits_n n v) at (bits_n_num (bits_n n v) (bits_bits_n n v)))
