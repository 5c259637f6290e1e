-- Laws of the bits of bytes, of parts of them, and of bits that stand at a place.
-- Assumes nothing.
use mathlib.Core.Path.{◌≡◌, refl, ap, sym, ◌∙◌}
use mathlib.Core.List.{List, [], ◌∷◌, ◌++◌}
use Prim.Native.Nat.{ℕ, zero, suc, ◌+◌, ◌-◌, ◌*◌, ◌/◌, ◌%◌, ◌^◌, ◌≤◌, ◌<◌, min}
use native.Mathlib.Omega.{arith}
use native.Mathlib.Decide.{dec_lt}
use native.Mathlib.Nat.{mod-eq_of_lt}
use lib.ListN.{length, get_or, take, drop, length-append, length-drop, length-take}
use lib.Seq.{take_at, drop_at, take-add, drop-drop, take-take, take-nil, drop-nil, get_or-drop, length-take-le, drop-append-le, take-append-le, drop-append-add}
use Rattle.bits.specs.Bits.{bits_n, bits_of, num_of, bits_to, run, bytes_of}
use Rattle.bits.proofs.Numbers.{Bits, length_bits_n, bits_bits_n, num_lt, num_bits_n, bits_n_num}

-- ---- the bits of bytes

pub bits_cons : (x : ℕ) (s : List ℕ) → bits_of (x ∷ s) ≡ bits_n 8 x ++ bits_of s
unfolding bits_of
bits_cons x s = refl

pub length_bits_is : (s : List ℕ) → length (bits_of s) ≡ 8 * length s
unfolding bits_of bits_n
length_bits_is [] = refl
length_bits_is (b ∷ bs) = omega (arith, length_bits_is bs)

pub bits_append : (a b : List ℕ) → Bits a → Bits b → Bits (a ++ b)
bits_append [] b p q k = q k
bits_append (x ∷ a) b p q zero = p 0
bits_append (x ∷ a) b p q (suc k) = bits_append a b (λ (i : ℕ). p (suc i)) q k

pub bits_bits : (s : List ℕ) → Bits (bits_of s)
unfolding bits_of
bits_bits [] k = omega arith
bits_bits (x ∷ s) k = bits_append (bits_n 8 x) (bits_of s) (bits_bits_n 8 x) (bits_bits s) k

pub bits_take : (n : ℕ) (l : List ℕ) → Bits l → Bits (take n l)
bits_take zero l h k = omega arith
bits_take (suc n) [] h k = omega arith
bits_take (suc n) (b ∷ l) h zero = h 0
bits_take (suc n) (b ∷ l) h (suc k) = bits_take n l (λ (i : ℕ). h (suc i)) k

pub bits_drop : (n : ℕ) (l : List ℕ) → Bits l → Bits (drop n l)
bits_drop n l h k = rw get_or-drop (h (n + k))

pub bits_to_is : (s : List ℕ) (e : ℕ) → Bits (bits_to s e)
unfolding bits_to
bits_to_is s e = bits_take e (bits_of s) (bits_bits s)

pub bits_run : (s : List ℕ) (at n : ℕ) → Bits (run s at n)
unfolding run
bits_run s at n = bits_take n (drop at (bits_of s)) (bits_drop at (bits_of s) (bits_bits s))

-- how many of the first e bits there are
pub length_to : (s : List ℕ) (e : ℕ) → length (bits_to s e) ≡ min e (8 * length s)
unfolding bits_to
length_to s e = rw (length-take, length_bits_is)

-- ---- a part of a list of bits

pub length_part : (l : List ℕ) (at n : ℕ) → at + n ≤ length l → length (take n (drop at l)) ≡ n
length_part l at n h = length-take-le n (drop at l) (simp length-drop (omega arith))

pub length_run : (s : List ℕ) (at n : ℕ) → at + n ≤ 8 * length s → length (run s at n) ≡ n
unfolding run
length_run s at n h = length_part (bits_of s) at n (rw length_bits_is h)

-- a part of n bits says a number below 2 ^ n, and is the bits of that number
pub part_lt : (l : List ℕ) (at n : ℕ) → Bits l → at + n ≤ length l → num_of (take n (drop at l)) < 2 ^ n
part_lt l at n b h = rw (length_part l at n h) at (num_lt (take n (drop at l)) (bits_take n (drop at l) (bits_drop at l b)))

pub part_bits : (l : List ℕ) (at n : ℕ) → Bits l → at + n ≤ length l → take n (drop at l) ≡ bits_n n (num_of (take n (drop at l)))
part_bits l at n b h = sym (rw (length_part l at n h) at (bits_n_num (take n (drop at l)) (bits_take n (drop at l) (bits_drop at l b))))

pub run_bits : (s : List ℕ) (at n : ℕ) → at + n ≤ 8 * length s → run s at n ≡ bits_n n (num_of (run s at n))
unfolding run
run_bits s at n h = part_bits (bits_of s) at n (bits_bits s) (rw length_bits_is h)

-- a part that ends before e is the same among the first e
part_to : (l : List ℕ) (e at n : ℕ) → at + n ≤ e → take n (drop at (take e l)) ≡ take n (drop at l)
part_to l e zero n h = take-take n e l (omega arith)
part_to [] e (suc at) n h = rw (take-nil e)
part_to (x ∷ l) zero (suc at) n h = absurd (omega arith)
part_to (x ∷ l) (suc e) (suc at) n h = part_to l e at n (omega arith)

pub run_to : (s : List ℕ) (e at n : ℕ) → at + n ≤ e → take n (drop at (bits_to s e)) ≡ run s at n
unfolding bits_to run
run_to s e at n h = part_to (bits_of s) e at n h

pub run_zero : (s : List ℕ) (at : ℕ) → run s at 0 ≡ []
unfolding run
run_zero s at = refl

pub run_add : (s : List ℕ) (at m n : ℕ) → run s at (m + n) ≡ run s at m ++ run s (at + m) n
unfolding run
run_add s at m n = rw (take-add, drop-drop)

-- a run within a byte is a run of that byte's bits
pub run_in_byte : (s : List ℕ) (p k : ℕ) → p / 8 < length s → p % 8 + k ≤ 8 → run s p k ≡ take k (drop (p % 8) (bits_n 8 (get_or s (p / 8) 0)))
unfolding run
run_in_byte s p k h g = in_byte s p k h g
  where
    in_byte : (s : List ℕ) (p k : ℕ) → p / 8 < length s → p % 8 + k ≤ 8
        → take k (drop p (bits_of s)) ≡ take k (drop (p % 8) (bits_n 8 (get_or s (p / 8) 0)))
    in_byte [] p k h g = absurd (omega arith)
    in_byte (x ∷ s) p k h g =
        elim (dec_lt p 8) [
          | yes l ↦
              let q : p / 8 ≡ 0 = omega arith in
              let r : p % 8 ≡ p = omega arith in
              let n : length (drop p (bits_n 8 x)) ≡ 8 - p = rw (length-drop p (bits_n 8 x), length_bits_n 8 x) in
              rw (
                q,
                r,
                bits_cons,
                drop-append-le p (bits_n 8 x) (bits_of s) (rw (length_bits_n 8 x) (omega arith)),
                take-append-le k (drop p (bits_n 8 x)) (bits_of s) (rw n (omega arith)),
              )
          | no l ↦
              let q : p / 8 ≡ suc ((p - 8) / 8) = omega arith in
              let r : p % 8 ≡ (p - 8) % 8 = omega arith in
              let e : p ≡ length (bits_n 8 x) + (p - 8) = rw (length_bits_n 8 x) (omega arith) in
              ap (λ (n : ℕ). take k (drop n (bits_of (x ∷ s)))) e ∙ rw
              (bits_cons, drop-append-add (bits_n 8 x) (bits_of s) (p - 8), q, r)
              (in_byte s (p - 8) k (omega arith) (omega arith))
        ]

pub bytes_drop : (s : List ℕ) (q : ℕ) → drop (8 * q) (bits_of s) ≡ bits_of (drop q s)
unfolding bits_of
bytes_drop s zero = refl
bytes_drop [] (suc q) = drop-nil (8 * suc q)
bytes_drop (x ∷ s) (suc q) =
    let e : 8 * suc q ≡ length (bits_n 8 x) + 8 * q = rw (length_bits_n 8 x) (omega arith) in
    rw (e, drop-append-add (bits_n 8 x) (bits_of s) (8 * q)) (bytes_drop s q)

-- ---- bits that stand at a place: all that readers and writers need to know of each other

-- the bits bs stand at a place of l
abbrev pub Holds : List ℕ → ℕ → List ℕ → Type 0
Holds l at bs = take (length bs) (drop at l) ≡ bs

-- two runs, one after the other
pub holds_split : (l : List ℕ) (at : ℕ) (xs ys : List ℕ) → Holds l at (xs ++ ys) → (Holds l at xs × Holds l (at + length xs) ys)
holds_split l at xs ys h =
    let d : List ℕ = drop at l in
    let e : take (length xs) d ++ take (length ys) (drop (length xs) d) ≡ xs ++ ys = rw (length-append, take-add) at h in
    let n : length (take (length (xs ++ ys)) d) ≡ length (xs ++ ys) = ap length h in
    let m = simp (length-take, length-append) at n in
    let k : length (take (length xs) d) ≡ length xs = rw length-take (omega arith) in
    let p = sym (take_at (take (length xs) d) (take (length ys) (drop (length xs) d)) (length xs) k) ∙ ap
    (take (length xs)) e ∙ take_at xs ys (length xs) refl in
    let q = sym (drop_at (take (length xs) d) (take (length ys) (drop (length xs) d)) (length xs) k) ∙ ap
    (drop (length xs)) e ∙ drop_at xs ys (length xs) refl in
    (p, rw drop-drop at q)

pub holds_join : (l : List ℕ) (at : ℕ) (xs ys : List ℕ) → Holds l at xs → Holds l (at + length xs) ys → Holds l at (xs ++ ys)
holds_join l at xs ys p q = rw (length-append, take-add, p, drop-drop, q)

-- bits that stand at a place, at least one, end within the list
pub holds_within : (l : List ℕ) (at : ℕ) (bs : List ℕ) → 0 < length bs → Holds l at bs → at + length bs ≤ length l
holds_within l at bs pos h =
    let k : length (take (length bs) (drop at l)) ≡ length bs = ap length h in
    let m = simp (length-take, length-drop) at k in
    omega arith

-- ---- whole bytes

-- every element is a byte
abbrev pub Bytes : List ℕ → Type 0
Bytes s = (k : ℕ) → get_or s k 0 < 256

-- the bits of bytes give the bytes back
pub bytes_bits : (s : List ℕ) → Bytes s → bytes_of (length s) (bits_of s) ≡ s
unfolding bytes_of bits_of
bytes_bits [] h = refl
bytes_bits (x ∷ s) h =
    let n = length_bits_n 8 x in
    let v : num_of (bits_n 8 x) ≡ x = num_bits_n 8 x ∙ mod-eq_of_lt (h 0) in
    rw (take_at (bits_n 8 x) (bits_of s) 8 n, drop_at (bits_n 8 x) (bits_of s) 8 n, v, bytes_bits s (λ (k : ℕ). h (suc k)))

pub take_drop : (k : ℕ) (l : List ℕ) → take k l ++ drop k l ≡ l
take_drop zero l = refl
take_drop (suc k) [] = refl
take_drop (suc k) (x ∷ l) = ap (λ (z : List ℕ). x ∷ z) (take_drop k l)

-- bits of whole bytes are the bits of those bytes
pub bits_bytes : (n : ℕ) (l : List ℕ) → Bits l → length l ≡ 8 * n → bits_of (bytes_of n l) ≡ l
unfolding bytes_of bits_of
bits_bytes zero [] b h = refl
bits_bytes zero (x ∷ l) b h = absurd (omega arith)
bits_bytes (suc n) l b h =
    let k : length (take 8 l) ≡ 8 = length-take-le 8 l (omega arith) in
    let m : length (drop 8 l) ≡ 8 * n = rw length-drop (omega arith) in
    let f : bits_n 8 (num_of (take 8 l)) ≡ take 8 l = rw k at (bits_n_num (take 8 l) (bits_take 8 l b)) in
    rw (bits_cons, f, bits_bytes n (drop 8 l) (bits_drop 8 l b) m) (take_drop 8 l)
