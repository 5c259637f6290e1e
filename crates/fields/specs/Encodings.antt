-- The bits of a field's value, and which values a field has.
use Rattle.std.specs.Prelude.{ℕ, ◌+◌, ◌-◌, ◌^◌, List, ◌++◌, Bool, cond, ◌&&◌, leb, ltb, eqb}
use Rattle.bits.specs.Bits.{bits_n}
use Rattle.fields.specs.Fields.{width_of}

-- n bits (0 to 64) hold the numbers below 2 ^ n
abbrev pub bits_fit : ℕ → ℕ → Bool
bits_fit n v = leb n 64 && ltb v (2 ^ n)

-- an extension bit that is not set
abbrev pub extension_fits : ℕ → Bool
extension_fits v = eqb v 0

-- a whole number from lo to hi (X.691, 11.5)
abbrev pub whole_fits : ℕ → ℕ → ℕ → Bool
whole_fits lo hi v = leb lo v && leb v hi

unfoldable pub whole_bits : ℕ → ℕ → ℕ → List ℕ
whole_bits lo hi v = bits_n (width_of (hi - lo)) (v - lo)

-- an index behind an extension bit that is not set
unfoldable pub index_bits : ℕ → ℕ → List ℕ
index_bits last i = bits_n 1 0 ++ whole_bits 0 last i

-- a length in its shortest form (X.691, 11.9.3.6, 11.9.3.7)
abbrev pub length_fits : ℕ → Bool
length_fits n = ltb n 16384

unfoldable pub length_bits : ℕ → List ℕ
length_bits n = cond (ltb n 128) (bits_n 8 n) (bits_n 16 (32768 + n))

-- a length from least to most
abbrev pub within_fits : ℕ → ℕ → ℕ → Bool
within_fits least most n = leb least n && leb n most && length_fits n

-- a number that goes out with the string behind it, in at most eight bits, and items of at most 64
abbrev pub led_fits : ℕ → ℕ → ℕ → Bool
led_fits n v unit = leb n 8 && ltb v (2 ^ n) && leb unit 64
