-- What the measured calls answer: one number, and the bytes.
use Rattle.std.specs.Prelude.{ℕ, List, None, Option, Some}
use Rattle.bits.specs.Bits.{bits_to}
use Rattle.bits.specs.Read.{read_bits}
use Rattle.bits.specs.Put.{Left, copy_run}

-- The greatest number of 64 bits: the end that leaves out no bit of the lent bytes, and the answer of a refused call.
abbrev pub greatest : ℕ
greatest = 18446744073709551615

-- the number that was read, or the greatest
abbrev pub number_in : Option (ℕ × ℕ) → ℕ
number_in (Some (v, next)) = v
number_in None = greatest

unfoldable pub bench_read : List ℕ → ℕ → ℕ → ℕ
bench_read s at n = number_in (read_bits (bits_to s greatest) at n)

-- the place after what was written, or the greatest
abbrev pub place_in : Option ℕ → ℕ
place_in (Some next) = next
place_in None = greatest

-- what a copy leaves: its number and the bytes
pub record Copied : Type 0 where
  pub answer : ℕ
  pub bytes : List ℕ

abbrev pub copied : ℕ → List ℕ → Copied
copied a s = record { answer = a; bytes = s }

abbrev pub told : Left → Copied
told w = copied (place_in w.answer) w.bytes

unfoldable pub bench_copy : List ℕ → ℕ → List ℕ → ℕ → ℕ → Copied
bench_copy d to s at n = told (copy_run d greatest to s greatest at n)
