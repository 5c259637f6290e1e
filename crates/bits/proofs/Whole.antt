-- Laws of bits that are whole bytes, put at the front: they are those bytes, and the bytes after them stay.
-- Assumes nothing.
use mathlib.Core.Path.{◌≡◌, refl, ap, sym, ◌∙◌}
use mathlib.Core.List.{List, [], ◌∷◌, ◌++◌, append_assoc}
use Prim.Native.Nat.{ℕ, zero, suc, ◌+◌, ◌-◌, ◌*◌, ◌^◌, ◌≤◌, ◌<◌}
use native.Mathlib.Omega.{arith}
use native.Mathlib.Nat.{zero-add, mod-eq_of_lt}
use lib.ListN.{length, get_or, take, drop, length-append, length-drop}
use lib.Seq.{sets, sets-eq, length-take-le, take_at, drop_at, get_or-drop, take-append-le, drop-append-le, drop-nil, take-length}
use lib.Pow.{pow_mono}
use Rattle.bits.specs.Bits.{bits_n, bits_of, num_of, bytes_of, run}
use Rattle.bits.specs.Put.{put_bits}
use Rattle.bits.proofs.Numbers.{Bits, num_lt, num_bits_n, length_bits_n}
use Rattle.bits.proofs.Bytes.{bits_cons, length_bits_is, bits_bits, bits_take, bits_drop, bytes_drop, Bytes, bits_bytes, bytes_bits, take_drop, length_run}
use Rattle.bits.proofs.Putting.{length_put, bits_put, bytes_put, same_bytes}

pub length_bytes : (n : ℕ) (l : List ℕ) → length (bytes_of n l) ≡ n
unfolding bytes_of
length_bytes zero l = refl
length_bytes (suc n) l = ap suc (length_bytes n (drop 8 l))

-- eight bits, or fewer, say a byte
byte_of : (l : List ℕ) → Bits l → num_of (take 8 l) < 256
byte_of l b =
    let k : length (take 8 l) ≤ 8 = at_most 8 l in
    let m : 2 ^ length (take 8 l) ≤ 2 ^ 8 = pow_mono {i = length (take 8 l)} {j = 8} k in
    omega (arith, num_lt (take 8 l) (bits_take 8 l b))
  where
    at_most : (k : ℕ) (l : List ℕ) → length (take k l) ≤ k
    at_most zero l = omega arith
    at_most (suc k) [] = omega arith
    at_most (suc k) (x ∷ l) = omega (arith, at_most k l)

pub bytes_bytes_of : (n : ℕ) (l : List ℕ) → Bits l → Bytes (bytes_of n l)
unfolding bytes_of
bytes_bytes_of zero l b k = omega arith
bytes_bytes_of (suc n) l b zero = byte_of l b
bytes_bytes_of (suc n) l b (suc k) = bytes_bytes_of n (drop 8 l) (bits_drop 8 l b) k

pub bytes_append : (a b : List ℕ) → Bytes a → Bytes b → Bytes (a ++ b)
bytes_append [] b p q k = q k
bytes_append (x ∷ a) b p q zero = p 0
bytes_append (x ∷ a) b p q (suc k) = bytes_append a b (λ (i : ℕ). p (suc i)) q k

pub bytes_after : (n : ℕ) (s : List ℕ) → Bytes s → Bytes (drop n s)
bytes_after n s h k = rw get_or-drop (h (n + k))

pub bits_of_append : (a b : List ℕ) → bits_of (a ++ b) ≡ bits_of a ++ bits_of b
unfolding bits_of
bits_of_append [] b = refl
bits_of_append (x ∷ a) b = rw (bits_of_append a b, append_assoc)

-- whole bytes put at the front
pub put_front_bytes : (s l : List ℕ) (n : ℕ) → Bytes s → Bits l → n ≤ length s → length l ≡ 8 * n → put_bits s 0 l ≡ bytes_of n l ++ drop n s
put_front_bytes s l n bs bl h e =
    let k : 0 + length l ≤ length (bits_of s) = rw length_bits_is (omega arith) in
    let m : 0 + length l ≡ 8 * n = omega arith in
    let z : sets (bits_of s) 0 l ≡ l ++ bits_of (drop n s) = sets-eq l (bits_of s) 0 k ∙ rw (m, bytes_drop s n) in
    let w : bits_of (bytes_of n l ++ drop n s) ≡ l ++ bits_of (drop n s) = bits_of_append (bytes_of n l) (drop n s) ∙ rw
    (bits_bytes n l bl e) in
    same_bytes (put_bits s 0 l) (bytes_of n l ++ drop n s) (bytes_put l s 0 bl bs)
    (bytes_append (bytes_of n l) (drop n s) (bytes_bytes_of n l bl) (bytes_after n s bs))
    (rw (length_put l s 0, length-append, length_bytes n l, length-drop) (omega arith)) (bits_put l s 0 bl (omega arith) ∙ z ∙ sym w)

-- a range of just so many bytes
pub put_whole : (s l : List ℕ) (n : ℕ) → Bytes s → Bits l → length s ≡ n → length l ≡ 8 * n → put_bits s 0 l ≡ bytes_of n l
put_whole s l n bs bl h e =
    put_front_bytes s l n bs bl (omega arith) e ∙ ap (λ (r : List ℕ). bytes_of n l ++ r) (none s n (omega arith)) ∙ append_none (bytes_of n l)
  where
    none : (s : List ℕ) (n : ℕ) → length s ≤ n → drop n s ≡ []
    none [] n h = drop-nil n
    none (x ∷ s) zero h = absurd (omega arith)
    none (x ∷ s) (suc n) h = none s n (omega arith)

    append_none : (l : List ℕ) → l ++ [] ≡ l
    append_none [] = refl
    append_none (x ∷ l) = ap (λ (z : List ℕ). x ∷ z) (append_none l)

-- the bytes of bytes' bits, and of bits behind them
pub bytes_of_bits : (a l : List ℕ) (n : ℕ) → Bytes a → bytes_of (length a + n) (bits_of a ++ l) ≡ a ++ bytes_of n l
unfolding bytes_of bits_of
bytes_of_bits [] l n h = rw (zero-add n)
bytes_of_bits (x ∷ a) l n h =
    let k = length_bits_n 8 x in
    let v : num_of (bits_n 8 x) ≡ x = num_bits_n 8 x ∙ mod-eq_of_lt (h 0) in
    let e : suc (length a) + n ≡ suc (length a + n) = omega arith in
    rw (
      e,
      append_assoc,
      take_at (bits_n 8 x) (bits_of a ++ l) 8 k,
      drop_at (bits_n 8 x) (bits_of a ++ l) 8 k,
      v,
      bytes_of_bits a l n (λ (i : ℕ). h (suc i)),
    )

-- all the bits of bytes, as a run
pub run_all : (s : List ℕ) → run s 0 (8 * length s) ≡ bits_of s
unfolding run
run_all s = rw (← length_bits_is s) (take-length (bits_of s))
