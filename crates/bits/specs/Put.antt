-- Bits put into bytes.
use Rattle.std.specs.Prelude.{ℕ, suc, ◌+◌, ◌-◌, ◌/◌, ◌%◌, ◌^◌, List, [], ◌∷◌, ◌++◌, Bool, cond, ◌&&◌, length, get_or, set, leb, ltb, None, Option, Some}
use Rattle.bits.specs.Bits.{bits_n, num_of, bits_to, run}

-- the byte x with b for its bit j, counted from the first
unfoldable pub with_bit : ℕ → ℕ → ℕ → ℕ
with_bit x j b = num_of (set (bits_n 8 x) j b)

-- bytes with b for the bit at k
unfoldable pub set_bit : List ℕ → ℕ → ℕ → List ℕ
set_bit s k b = set s (k / 8) (with_bit (get_or s (k / 8) 0) (k % 8) b)

-- bytes with bits put from a place on; every other bit stays
unfoldable pub put_bits : List ℕ → ℕ → List ℕ → List ℕ
put_bits s at [] = s
put_bits s at (b ∷ bs) = put_bits (set_bit s at b) (suc at) bs

-- what a writer leaves: its answer and the bytes
pub record Left : Type 0 where
  pub answer : Option ℕ
  pub bytes : List ℕ

abbrev pub left : Option ℕ → List ℕ → Left
left a s = record { answer = a; bytes = s }

-- Bits put at a place within the first e bits of bytes, with the place after them. None where they do not fit, and then nothing changes.
unfoldable pub put_run : List ℕ → ℕ → ℕ → List ℕ → Left
put_run s e at bs =
    cond (leb (at + length bs) (length (bits_to s e))) (left (Some (at + length bs)) (put_bits s at bs)) (left None s)

-- The same, if a test holds; else None, and nothing changes.
unfoldable pub put_if : Bool → List ℕ → ℕ → ℕ → List ℕ → Left
put_if ok s e at bs = cond ok (put_run s e at bs) (left None s)

-- The number v in n bits. None too where n bits do not hold v, and for more than 64 bits.
unfoldable pub put_number : List ℕ → ℕ → ℕ → ℕ → ℕ → Left
put_number s e at n v = put_if (leb n 64 && ltb v (2 ^ n)) s e at (bits_n n v)

-- how many bits follow a place up to a whole byte
abbrev pub to_byte : ℕ → ℕ
to_byte at = (8 - at % 8) % 8

-- The n bits that stand at a place within the first f bits of s. None too where they are not there.
unfoldable pub copy_run : List ℕ → ℕ → ℕ → List ℕ → ℕ → ℕ → ℕ → Left
copy_run d e to s f at n = put_if (leb (at + n) (length (bits_to s f))) d e to (run s at n)

-- The number v in n bits, and behind it the k bits that stand at a place within the first f bits of s. None too where n bits do not hold v or
-- are more than 56, and where the k bits are not there.
unfoldable pub put_led : List ℕ → ℕ → ℕ → ℕ → ℕ → List ℕ → ℕ → ℕ → ℕ → Left
put_led d e to n v s f at k = put_if (leb n 56 && ltb v (2 ^ n) && leb (at + k) (length (bits_to s f))) d e to (bits_n n v ++ run s at k)
