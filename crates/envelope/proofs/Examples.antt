-- Worked examples, and that they hold: each list is one computed claim.
-- Assumes nothing.
use Prim.Native.Nat.{ℕ}
use mathlib.Core.Path.{◌≡◌, refl}
use mathlib.Core.Bool.{Bool, true, false, ◌&&◌}
use mathlib.Core.List.{List, [], ◌∷◌}
use lib.ListN.{length}
use lib.Dec.{eqb}
use Rattle.envelope.specs.Numbers.{NumberRead, groups, number, number_in, number_at}
use Rattle.envelope.specs.Envelopes.{most_bits, is_kind, size_fits, bytes_for, is_padded, body_at, size_at, job_at, kind_at, envelope_at}
use Rattle.envelope.specs.Examples.{Row, reads, answers}
use Rattle.std.specs.Prelude.{Err, Ok}

abbrev refuses : List ℕ → ℕ → Row
refuses l n = record { bytes = l; refusal = n; kind = 0; job = 0; bits = 0 }

abbrev holds : ℕ → List Row → Bool
holds limit [] = true
holds limit (r ∷ rs) = answers (envelope_at limit r.bytes 0) r && holds limit rs

-- each refusal at each field: kind number (20, 21, 22), job (20, 21), bit count (20, 21, 23), body (20, 23)
abbrev refusals : List Row
refusals =
    refuses (0x80 ∷ []) 20 ∷
    refuses (0x81 ∷ 0x00 ∷ []) 21 ∷
    refuses (0x84 ∷ 0x00 ∷ []) 21 ∷
    refuses (0x80 ∷ 0x80 ∷ 0x80 ∷ 0x80 ∷ 0x80 ∷ 0x80 ∷ 0x80 ∷ 0x80 ∷ 0x80 ∷ 0x02 ∷ []) 21 ∷
    refuses (0xFF ∷ 0xFF ∷ 0xFF ∷ 0xFF ∷ 0xFF ∷ 0xFF ∷ 0xFF ∷ 0xFF ∷ 0xFF ∷ 0xFF ∷ []) 21 ∷
    refuses (0x80 ∷ 0x80 ∷ 0x80 ∷ 0x80 ∷ 0x80 ∷ 0x80 ∷ 0x80 ∷ 0x80 ∷ 0x80 ∷ []) 20 ∷
    refuses (0x80 ∷ 0x80 ∷ 0x80 ∷ 0x80 ∷ 0x80 ∷ 0x80 ∷ 0x80 ∷ 0x80 ∷ 0x80 ∷ 0x00 ∷ []) 21 ∷
    refuses (0x00 ∷ []) 22 ∷
    refuses (0x04 ∷ []) 22 ∷
    refuses (0x80 ∷ 0x01 ∷ []) 22 ∷
    refuses (0x04 ∷ 0x80 ∷ 0x00 ∷ []) 22 ∷
    refuses (0x04 ∷ 0x00 ∷ []) 22 ∷
    refuses (0x01 ∷ []) 20 ∷
    refuses (0x01 ∷ 0x80 ∷ []) 20 ∷
    refuses (0x01 ∷ 0x80 ∷ 0x00 ∷ []) 21 ∷
    refuses (0x01 ∷ 0x00 ∷ []) 21 ∷
    refuses (0x01 ∷ 0xFF ∷ 0xFF ∷ 0xFF ∷ 0xFF ∷ 0xFF ∷ 0xFF ∷ 0xFF ∷ 0xFF ∷ 0xFF ∷ 0x02 ∷ []) 21 ∷
    refuses (0x01 ∷ 0x01 ∷ []) 20 ∷
    refuses (0x01 ∷ 0x01 ∷ 0x80 ∷ []) 20 ∷
    refuses (0x01 ∷ 0x01 ∷ 0x80 ∷ 0x00 ∷ []) 21 ∷
    refuses (0x03 ∷ 0x01 ∷ 0x07 ∷ []) 23 ∷
    refuses (0x03 ∷ 0x01 ∷ 0x09 ∷ []) 23 ∷
    refuses (0x01 ∷ 0x01 ∷ 0xFF ∷ 0xFF ∷ 0xFF ∷ 0xFF ∷ 0xFF ∷ 0xFF ∷ 0xFF ∷ 0xFF ∷ 0xFF ∷ 0x01 ∷ []) 23 ∷
    refuses (0x01 ∷ 0x01 ∷ 0x0A ∷ 0xA5 ∷ []) 20 ∷
    refuses (0x01 ∷ 0x01 ∷ 0x0A ∷ 0xA5 ∷ 0x41 ∷ []) 23 ∷ []

-- 16,383 bits whose body is missed; one bit more is refused at the bit count, before that
abbrev over_limit : List Row
over_limit = refuses (0x01 ∷ 0x01 ∷ 0xFF ∷ 0x7F ∷ []) 20 ∷ refuses (0x01 ∷ 0x01 ∷ 0x80 ∷ 0x80 ∷ 0x01 ∷ []) 23 ∷ []

-- a body of no bits, and a refusal of 8
abbrev bodies : List Row
bodies = reads (0x02 ∷ 0x05 ∷ 0x00 ∷ []) 2 5 0 ∷ reads (0x03 ∷ 0x07 ∷ 0x08 ∷ 0x15 ∷ []) 3 7 8 ∷ []

-- numbers at each group's boundary, and their bytes
record Pair : Type 0 where
  value : ℕ
  bytes : List ℕ

abbrev same : List ℕ → List ℕ → Bool
same [] [] = true
same [] (y ∷ ys) = false
same (x ∷ xs) [] = false
same (x ∷ xs) (y ∷ ys) = eqb x y && same xs ys

abbrev is_value : NumberRead → ℕ → ℕ → Bool
is_value (Ok (v, n)) w m = eqb v w && eqb n m
is_value (Err r) w m = false

-- written as these bytes, and read back from them
abbrev agree : List Pair → Bool
agree [] = true
agree (p ∷ ps) = same (number p.value) p.bytes && is_value (number_at p.bytes 0) p.value (length p.bytes) && agree ps

abbrev boundaries : List Pair
boundaries =
    record { value = 0; bytes = 0x00 ∷ [] } ∷
    record { value = 1; bytes = 0x01 ∷ [] } ∷
    record { value = 127; bytes = 0x7F ∷ [] } ∷
    record { value = 128; bytes = 0x80 ∷ 0x01 ∷ [] } ∷
    record { value = 16383; bytes = 0xFF ∷ 0x7F ∷ [] } ∷
    record { value = 16384; bytes = 0x80 ∷ 0x80 ∷ 0x01 ∷ [] } ∷
    record { value = 2097151; bytes = 0xFF ∷ 0xFF ∷ 0x7F ∷ [] } ∷
    record { value = 2097152; bytes = 0x80 ∷ 0x80 ∷ 0x80 ∷ 0x01 ∷ [] } ∷
    record { value = 268435455; bytes = 0xFF ∷ 0xFF ∷ 0xFF ∷ 0x7F ∷ [] } ∷
    record { value = 268435456; bytes = 0x80 ∷ 0x80 ∷ 0x80 ∷ 0x80 ∷ 0x01 ∷ [] } ∷
    record { value = 34359738367; bytes = 0xFF ∷ 0xFF ∷ 0xFF ∷ 0xFF ∷ 0x7F ∷ [] } ∷
    record { value = 34359738368; bytes = 0x80 ∷ 0x80 ∷ 0x80 ∷ 0x80 ∷ 0x80 ∷ 0x01 ∷ [] } ∷
    record { value = 4398046511103; bytes = 0xFF ∷ 0xFF ∷ 0xFF ∷ 0xFF ∷ 0xFF ∷ 0x7F ∷ [] } ∷
    record { value = 4398046511104; bytes = 0x80 ∷ 0x80 ∷ 0x80 ∷ 0x80 ∷ 0x80 ∷ 0x80 ∷ 0x01 ∷ [] } ∷
    record { value = 562949953421311; bytes = 0xFF ∷ 0xFF ∷ 0xFF ∷ 0xFF ∷ 0xFF ∷ 0xFF ∷ 0x7F ∷ [] } ∷
    record { value = 562949953421312; bytes = 0x80 ∷ 0x80 ∷ 0x80 ∷ 0x80 ∷ 0x80 ∷ 0x80 ∷ 0x80 ∷ 0x01 ∷ [] } ∷
    record { value = 72057594037927935; bytes = 0xFF ∷ 0xFF ∷ 0xFF ∷ 0xFF ∷ 0xFF ∷ 0xFF ∷ 0xFF ∷ 0x7F ∷ [] } ∷
    record { value = 72057594037927936; bytes = 0x80 ∷ 0x80 ∷ 0x80 ∷ 0x80 ∷ 0x80 ∷ 0x80 ∷ 0x80 ∷ 0x80 ∷ 0x01 ∷ [] } ∷
    record { value = 9223372036854775807; bytes = 0xFF ∷ 0xFF ∷ 0xFF ∷ 0xFF ∷ 0xFF ∷ 0xFF ∷ 0xFF ∷ 0xFF ∷ 0x7F ∷ [] } ∷
    record { value = 9223372036854775808; bytes = 0x80 ∷ 0x80 ∷ 0x80 ∷ 0x80 ∷ 0x80 ∷ 0x80 ∷ 0x80 ∷ 0x80 ∷ 0x80 ∷ 0x01 ∷ [] } ∷
    record { value = 18446744073709551615; bytes = 0xFF ∷ 0xFF ∷ 0xFF ∷ 0xFF ∷ 0xFF ∷ 0xFF ∷ 0xFF ∷ 0xFF ∷ 0xFF ∷ 0x01 ∷ [] } ∷ []

-- ---- they hold

pub refusals_hold : holds most_bits refusals ≡ true
unfolding number_in number_at is_kind size_fits bytes_for is_padded body_at size_at job_at kind_at envelope_at
refusals_hold = refl

pub over_limit_holds : holds most_bits over_limit ≡ true
unfolding number_in number_at is_kind size_fits bytes_for is_padded body_at size_at job_at kind_at envelope_at
over_limit_holds = refl

pub bodies_hold : holds most_bits bodies ≡ true
unfolding number_in number_at is_kind size_fits bytes_for is_padded body_at size_at job_at kind_at envelope_at
bodies_hold = refl

pub boundaries_hold : agree boundaries ≡ true
unfolding groups number number_in number_at
boundaries_hold = refl
