-- Laws of reading a number: what an answer says of the bits, and what the bits say of the answer.
-- Assumes nothing.
use mathlib.Core.Path.{◌≡◌, refl, ap, sym, ◌∙◌}
use mathlib.Core.Bool.{Bool, true, false, cond, ◌&&◌}
use mathlib.Core.List.{List}
use Prim.Native.Nat.{ℕ, ◌+◌, ◌-◌, ◌*◌, ◌/◌, ◌%◌, ◌^◌, ◌≤◌, ◌<◌}
use native.Mathlib.Omega.{arith}
use native.Mathlib.Nat.{mod-lt, mod-eq_of_lt}
use borrow.Author.Tests.{le-leb, lt-leb, leb-true}
use lib.Dec.{leb}
use lib.ListN.{length, get_or, take, drop}
use lib.Pow.{pow-add, pow_mono, pow_pos, shl_exact}
use lib.Arith.{digits_lt}
use Rattle.words.proofs.Laws.{some_place, some_value}
use Rattle.bits.specs.Bits.{bits_n, num_of, bits_to, run}
use Rattle.bits.specs.Read.{read_bits}
use Rattle.bits.proofs.Numbers.{Bits, length_bits_n, num_append, num_bits_n, bits_n_part}
use Rattle.bits.proofs.Bytes.{Holds, length_run, run_add, run_in_byte, run_to, part_lt, part_bits}
use Rattle.bits.proofs.Inside.{Within}
use Rattle.std.specs.Prelude.{None, Option, Some}

-- ---- a turn of the loop

pub shl_one : (k : ℕ) → k < 64 → 1 * 2 ^ k % 2 ^ 64 ≡ 2 ^ k
shl_one k h = shl_exact {a = 1} 1 k 64 (omega arith) (omega arith) ∙ omega arith

-- k bits of a byte, after its first r, as a number
piece_num : (b r k : ℕ) → r + k ≤ 8 → num_of (take k (drop r (bits_n 8 b))) ≡ b / 2 ^ (8 - r - k) % 2 ^ k
piece_num b r k h =
    let e : 8 ≡ r + (k + (8 - r - k)) = omega arith in
    ap (λ (n : ℕ). num_of (take k (drop r (bits_n n b)))) e ∙ rw (bits_n_part r k (8 - r - k) b) (num_bits_n k (b / 2 ^ (8 - r - k)))

-- a field that lies within one byte
pub in_byte : (s : List ℕ) (at n z : ℕ) → at + n ≤ 8 * length s → 0 < n → at % 8 + n ≤ 8
    → z ≡ get_or s (at / 8) 0 / 2 ^ (8 - at % 8 - n) % 2 ^ n → z ≡ num_of (run s at n)
in_byte s at n z h pos g e = e ∙ sym (rw (run_in_byte s at n (omega arith) g) (piece_num (get_or s (at / 8) 0) (at % 8) n g))

pub turn : (s : List ℕ) (at i k v w z : ℕ) → at + i + k ≤ 8 * length s → (at + i) % 8 + k ≤ 8 → 0 < k → w ≡ 2 ^ k
    → z ≡ get_or s ((at + i) / 8) 0 / 2 ^ (8 - (at + i) % 8 - k) % 2 ^ k
    → v ≡ num_of (run s at i) → v * w + z ≡ num_of (run s at (i + k))
turn s at i k v w z h g pos p q e =
    rw (
      p,
      q,
      e,
      run_add,
      num_append,
      length_run s (at + i) k h,
      run_in_byte s (at + i) k (omega arith) g,
      piece_num
          (get_or s ((at + i) / 8) 0) ((at + i) % 8) k g,
    )

pub piece_lt : (b m k z : ℕ) → z ≡ b / 2 ^ m % 2 ^ k → z < 2 ^ k
piece_lt b m k z e = rw e (mod-lt (b / 2 ^ m) (pow_pos k))

pub turn_lt : (v w z i k : ℕ) → v < 2 ^ i → w ≡ 2 ^ k → z < 2 ^ k → v * w + z < 2 ^ (i + k)
turn_lt v w z i k h p g = rw (p, pow-add 2 i k) (digits_lt h g)

pub turn_fits : (v w z i k : ℕ) → v < 2 ^ i → w ≡ 2 ^ k → z < 2 ^ k → i + k ≤ 64 → v * w + z < 2 ^ 64
turn_fits v w z i k h p g l =
    let b : 2 ^ (i + k) ≤ 2 ^ 64 = pow_mono {i = i + k} {j = 64} l in
    omega (arith, turn_lt v w z i k h p g)

-- ---- the answers, as the code has them

pub is_wide : (l : List ℕ) (at n : ℕ) → 64 < n → None ≡ read_bits l at n
unfolding read_bits
is_wide l at n h = rw (lt-leb n 64 h)

pub is_short : (l : List ℕ) (at n : ℕ) → n ≤ 64 → leb (at + n) (length l) ≡ false → None ≡ read_bits l at n
unfolding read_bits
is_short l at n h e = rw (le-leb n 64 h, e)

pub is_number : (s : List ℕ) (e at n v : ℕ) → n ≤ 64 → Within s e at n → v ≡ num_of (run s at n)
    → Some (v, at + n) ≡ read_bits (bits_to s e) at n
unfolding read_bits
is_number s e at n v h w p = rw (le-leb n 64 h, w.test, run_to s e at n w.end, p)

-- ---- what an answer says of the bits, and back

pub record NumberIs (l : List ℕ) (at n v next : ℕ) : Type 0 where
  pub width : n ≤ 64
  pub place : next ≡ at + n
  pub within : at + n ≤ length l
  pub value : v ≡ num_of (take n (drop at l))

pub number_is : (l : List ℕ) (at n v next : ℕ) → read_bits l at n ≡ Some (v, next) → NumberIs l at n v next
unfolding read_bits
number_is l at n v next e = go (leb n 64) refl (leb (at + n) (length l)) refl e
  where
    go : (a : Bool) → leb n 64 ≡ a → (b : Bool) → leb (at + n) (length l) ≡ b
        → cond {A = Option (ℕ × ℕ)} (a && b) (Some (num_of (take n (drop at l)), at + n)) None ≡ Some (v, next) → NumberIs l at n v next
    go true p true q e = record { width = leb-true _ _ p; place = sym (some_place e); within = leb-true _ _ q; value = sym (some_value e) }
    go true p false q e = let z : ◌≡◌ {A = ℕ} 0 1 = cc in absurd (omega arith)
    go false p b q e = let z : ◌≡◌ {A = ℕ} 0 1 = cc in absurd (omega arith)

pub number_lt : (l : List ℕ) (at n v next : ℕ) → Bits l → read_bits l at n ≡ Some (v, next) → v < 2 ^ n
number_lt l at n v next b e =
    let i = number_is l at n v next e in
    rw i.value (part_lt l at n b i.within)

-- a number that was read stands there
pub number_stands : (l : List ℕ) (at n v next : ℕ) → Bits l → read_bits l at n ≡ Some (v, next) → Holds l at (bits_n n v)
number_stands l at n v next b e =
    let i = number_is l at n v next e in
    rw length_bits_n (part_bits l at n b i.within ∙ ap (bits_n n) (sym i.value))

-- a number that stands there is read
pub number_read : (l : List ℕ) (at n v : ℕ) → n ≤ 64 → v < 2 ^ n → at + n ≤ length l → Holds l at (bits_n n v)
    → read_bits l at n ≡ Some (v, at + n)
unfolding read_bits
number_read l at n v w f h k =
    let g : take n (drop at l) ≡ bits_n n v = rw (length_bits_n n v) at k in
    rw (le-leb n 64 w, le-leb (at + n) (length l) h, g, num_bits_n, mod-eq_of_lt f)
