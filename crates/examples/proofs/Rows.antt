-- What the test of a row says: the equations that a reader expects.
-- Assumes nothing.
use Prim.Native.Nat.{ℕ, ◌+◌, ◌-◌, ◌*◌, ◌/◌}
use mathlib.Core.Path.{◌≡◌, refl}
use mathlib.Core.Bool.{true, ◌&&◌}
use mathlib.Core.List.{List, [], ◌∷◌, ◌++◌}
use lib.ListN.{length, replicate}
use lib.Dec.{eqb}
use borrow.Author.Tests.{eqb-true}
use native.Mathlib.Omega.{arith}
use Rattle.words.proofs.Laws.{both_left, both_right}
use Rattle.bits.specs.Bits.{bits_of}
use Rattle.fields.specs.Fields.{length_at}
use Rattle.fields.specs.Encodings.{length_bits}
use Rattle.examples.specs.Examples.{a_length, same, are, field_says, holds}
use Rattle.std.specs.Prelude.{Err, Ok}
use Rattle.fields.specs.Fields.{Reading}

never : {A : Type 0} → ◌≡◌ {A = ℕ} 0 1 → A
never z = absurd (omega arith)

pub same_is : (xs ys : List ℕ) → same xs ys ≡ true → xs ≡ ys
unfolding same
same_is [] [] e = refl
same_is [] (y ∷ ys) e = never (cc)
same_is (x ∷ xs) [] e = never (cc)
same_is (x ∷ xs) (y ∷ ys) e =
    rw (eqb-true x y (both_left (eqb x y) (same xs ys) e), same_is xs ys (both_right (eqb x y) (same xs ys) e))

pub are_is : (bits : List ℕ) (n : ℕ) (bytes : List ℕ) → are bits n bytes ≡ true → bits ++ replicate (8 * length bytes - n) 0 ≡ bits_of bytes
unfolding are
are_is bits n bytes e =
    same_is _ _
    (both_right (eqb (length bits) n && eqb (length bytes) ((n + 7) / 8))
    (same (bits ++ replicate (8 * length bytes - n) 0) (bits_of bytes)) e)

pub says_is : (f : Reading ℕ) (v n : ℕ) → field_says f (Ok (v, n)) ≡ true → f ≡ Ok (v, n)
says_is (Ok (w, next)) v n e =
    rw (eqb-true w v (both_left (eqb w v) (eqb next n) e), eqb-true next n (both_right (eqb w v) (eqb next n) e))
says_is (Err r) v n e = never (cc)

-- a row of a length: its bytes are read as the value and the count of bits, and the value is written as the bytes
pub length_row : (bytes : List ℕ) (v n : ℕ) → holds (a_length bytes (Ok (v, n))) ≡ true
    → (length_at (bits_of bytes) 0 ≡ Ok (v, n)) × (length_bits v ++ replicate (8 * length bytes - n) 0 ≡ bits_of bytes)
length_row bytes v n e =
    let reads = field_says (length_at (bits_of bytes) 0) (Ok (v, n)) in
    let writes = are (length_bits v) n bytes in
    (says_is (length_at (bits_of bytes) 0) v n (both_left reads writes e), are_is (length_bits v) n bytes (both_right reads writes e))
