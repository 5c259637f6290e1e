-- Laws of a run of bits that lies within lent bytes.
-- Assumes nothing.
use mathlib.Core.Path.{◌≡◌, sym, ◌∙◌}
use mathlib.Core.Bool.{Bool, true, false}
use mathlib.Core.List.{List}
use Prim.Native.Nat.{ℕ, ◌+◌, ◌-◌, ◌*◌, ◌/◌, ◌%◌, ◌≤◌, ◌<◌, min}
use native.Mathlib.Omega.{arith}
use native.Mathlib.Decide.{dec_lt}
use borrow.Author.Tests.{le-leb, lt-leb, leb-true}
use lib.Dec.{leb}
use lib.ListN.{length}
use Rattle.bits.specs.Bits.{bits_to}
use Rattle.bits.proofs.Bytes.{length_to}

-- two tests of one fact
pub same_leb : (a b p q : ℕ) → (a ≤ b → p ≤ q) → (p ≤ q → a ≤ b) → leb a b ≡ leb p q
same_leb a b p q f g =
    elim (dec_lt q p) [
      | yes h ↦ elim (dec_lt b a) [
        | yes k ↦ rw (lt-leb a b k, lt-leb p q h)
        | no k ↦ absurd (omega (arith, f (omega arith)))
      ]
      | no h ↦ rw (le-leb a b (g (omega arith)), le-leb p q (omega arith))
    ]

-- the last test of `within`
pub by_bytes : (len e at n : ℕ) → at ≤ e → n ≤ e - at → leb ((at + n) / 8 + ((at + n) % 8 + 7) / 8) len ≡ leb (at + n) (min e (8 * len))
by_bytes len e at n h g = same_leb _ _ _ _ (λ (k : (at + n) / 8 + ((at + n) % 8 + 7) / 8 ≤ len). omega arith)
    (λ (k : at + n ≤ min e (8 * len)). omega arith)

-- what the test says, once it held
pub record Within (s : List ℕ) (e at n : ℕ) : Type 0 where
  pub test : leb (at + n) (length (bits_to s e)) ≡ true
  pub end : at + n ≤ e
  pub bytes : at + n ≤ 8 * length s

pub is_within : (s : List ℕ) (e at n : ℕ) (t : Bool) → t ≡ leb (at + n) (min e (8 * length s)) → t ≡ true → Within s e at n
is_within s e at n t p q =
    let z : leb (at + n) (min e (8 * length s)) ≡ true = sym p ∙ q in
    let k : at + n ≤ min e (8 * length s) = leb-true _ _ z in
    record { test = rw length_to z; end = omega arith; bytes = omega arith }

pub not_within : (s : List ℕ) (e at n : ℕ) (t : Bool) → t ≡ leb (at + n) (min e (8 * length s)) → t ≡ false
    → leb (at + n) (length (bits_to s e)) ≡ false
not_within s e at n t p q = rw length_to (sym p ∙ q)

-- eight bytes from a byte behind the end on
pub eight_beyond : (len e q : ℕ) → e / 8 < q → leb (8 * q + 64) (min e (8 * len)) ≡ false
eight_beyond len e q h = lt-leb (8 * q + 64) (min e (8 * len)) (omega arith)

-- a test that does not hold says nothing
pub never : {A : Type 0} → false ≡ true → A
never e = let z : ◌≡◌ {A = ℕ} 0 1 = cc in absurd (omega arith)
