-- A number read from bits.
use Rattle.std.specs.Prelude.{ℕ, ◌+◌, List, cond, ◌&&◌, length, take, drop, leb, None, Option, Some}
use Rattle.bits.specs.Bits.{num_of}

-- The number that the n bits at a place say, and the place after them. None where the bits end before that,
-- and for more than 64 bits, which no number here holds.
unfoldable pub read_bits : List ℕ → ℕ → ℕ → Option (ℕ × ℕ)
read_bits l at n = cond (leb n 64 && leb (at + n) (length l)) (Some (num_of (take n (drop at l)), at + n)) None
