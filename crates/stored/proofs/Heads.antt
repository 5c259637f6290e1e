-- The bytes in front of the job, put one by one.
-- Assumes nothing.
use mathlib.Core.Path.{◌≡◌, refl, sym, ◌∙◌}
use mathlib.Core.List.{List, [], ◌∷◌, ◌++◌}
use Prim.Native.Nat.{ℕ, ◌+◌, ◌*◌, ◌<◌}
use native.Mathlib.Omega.{arith}
use native.Mathlib.Numerals.{add-one}
use lib.ListN.{length, get_or, set, drop}
use lib.Seq.{drop-cons, drop-length}
use Rattle.bits.specs.Bits.{bits_n, bits_of}
use Rattle.bits.specs.Put.{put_bits}
use Rattle.bits.proofs.Numbers.{length_bits_n}
use Rattle.bits.proofs.Bytes.{Bytes, bits_cons}
use Rattle.bits.proofs.Putting.{put_nil, put_append}
use Rattle.bits.proofs.Copying.{put_byte}

-- d: the bytes as they are, after i turns; z: what they will be

pub head_start : (d a : List ℕ) → put_bits d (8 * 0) (bits_of (drop 0 a)) ≡ put_bits d 0 (bits_of a)
head_start d a = refl

pub head_turn : (d z a : List ℕ) (i : ℕ) → Bytes a → i < length a → i < length d
    → put_bits d (8 * i) (bits_of (drop i a)) ≡ z
    → put_bits (set d i (get_or a i 0)) (8 * (i + 1)) (bits_of (drop (i + 1) a)) ≡ z
head_turn d z a i low h g inv =
    let x : ℕ = get_or a i 0 in
    let u : 8 * i + 8 ≡ 8 * (i + 1) = omega arith in
    let e : drop i a ≡ x ∷ drop (i + 1) a = drop-cons a i 0 h ∙ rw add-one in
    let j : put_bits d (8 * i) (bits_n 8 x ++ bits_of (drop (i + 1) a)) ≡ z = rw (e, bits_cons) at inv in
    rw (put_append, length_bits_n 8 x, u, put_byte d i x (low i) g) at j

pub head_done : (d z a : List ℕ) (i : ℕ) → i ≡ length a → put_bits d (8 * i) (bits_of (drop i a)) ≡ z → d ≡ z
unfolding bits_of
head_done d z a i e inv =
    let f : drop i a ≡ [] = rw (e, drop-length a) in
    sym (put_nil d (8 * i)) ∙ rw f at inv
