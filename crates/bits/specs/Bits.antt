-- The bits of bytes, the number that bits say, and the bits of a number at a width.
-- A bit is 0 or 1. The first bit of a byte is its most significant one (X.691: leading bit first).
use Rattle.std.specs.Prelude.{ℕ, zero, suc, ◌+◌, ◌*◌, ◌/◌, ◌%◌, ◌^◌, ◌<◌, ◌≤◌, List, [], ◌∷◌, ◌++◌, take, drop, length}

-- the n low bits of a number, the most significant first
unfoldable pub bits_n : ℕ → ℕ → List ℕ
bits_n zero v = []
bits_n (suc n) v = v / 2 ^ n % 2 ∷ bits_n n v

-- the bits of bytes
unfoldable pub bits_of : List ℕ → List ℕ
bits_of [] = []
bits_of (b ∷ bs) = bits_n 8 b ++ bits_of bs

-- the number that bits say after the number a
unfoldable pub acc_of : ℕ → List ℕ → ℕ
acc_of a [] = a
acc_of a (b ∷ bs) = acc_of (a * 2 + b) bs

-- the number that bits say
abbrev pub num_of : List ℕ → ℕ
num_of l = acc_of 0 l

-- the first e bits of bytes; all of them where there are fewer
unfoldable pub bits_to : List ℕ → ℕ → List ℕ
bits_to s e = take e (bits_of s)

-- the n bits that stand at a place of bytes
unfoldable pub run : List ℕ → ℕ → ℕ → List ℕ
run s at n = take n (drop at (bits_of s))

-- the n bytes that 8 n bits are
unfoldable pub bytes_of : ℕ → List ℕ → List ℕ
bytes_of zero l = []
bytes_of (suc n) l = num_of (take 8 l) ∷ bytes_of n (drop 8 l)

-- n bits at a place lie within bytes, and no place among them wraps
abbrev pub Lies : List ℕ → ℕ → ℕ → Type 0
Lies s at n = (at + n ≤ 8 * length s) × (at + n < 2 ^ 64)
