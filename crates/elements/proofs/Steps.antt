-- Going on from a reading: what came of it, as a law takes it apart.
-- Assumes nothing.
use mathlib.Core.Path.{◌≡◌, refl}
use Prim.Native.Nat.{ℕ}
use native.Mathlib.Omega.{arith}
use Rattle.fields.specs.Fields.{Reading, onto, then}
use Rattle.fields.specs.declared.Refusal.{Refusal}
use Rattle.std.specs.Prelude.{Err, Ok, Result}

pub never : {A : Type 0} → ◌≡◌ {A = ℕ} 0 1 → A
never z = absurd (omega arith)

-- a value that came of it came of a value
pub then_is : {A B R : Type 0} (f : Reading A) (k : A → ℕ → Result B Refusal) (o : B) → ((v : A) (n : ℕ) → f ≡ Ok (v, n) → k v n ≡ Ok o → R) → then f k ≡ Ok o → R
then_is (Ok (v, n)) k o go e = go v n refl e
then_is (Err r) k o go e = never (cc)

-- ---- over any way up

-- what came of it came of a value, or is what stands for the refusal
pub onto_is : {A B R : Type 0} (refused : Refusal → B) (f : Reading A) (k : A → ℕ → B) (o : B) → ((v : A) (n : ℕ) → f ≡ Ok (v, n) → k v n ≡ o → R) → ((r : Refusal) → refused r ≡ o → R) → onto refused f k ≡ o → R
onto_is refused (Ok (v, n)) k o go bad e = go v n refl e
onto_is refused (Err r) k o go bad e = bad r e

-- the reading was refused
pub handed : {A B : Type 0} (refused : Refusal → B) (f g : Reading A) (r : Refusal) (k : A → ℕ → B) (o : B) → f ≡ g → f ≡ Err r → o ≡ refused r → o ≡ onto refused g k
handed refused f g r k o p q e = rw (← p, q, e)

-- it was read
pub went : {A B : Type 0} (refused : Refusal → B) (f g : Reading A) (v : A) (n : ℕ) (k : A → ℕ → B) (o : B) → f ≡ g → f ≡ Ok (v, n) → o ≡ k v n → o ≡ onto refused g k
went refused f g v n k o p q e = rw (← p, q, e)

-- it was refused: the code hands up the refusal in its answer
pub handed_up : {A B : Type 0} (refused : Refusal → B) (f g : Reading A) (r x : Refusal) (k : A → ℕ → B) → f ≡ g → f ≡ Err r → x ≡ r → refused x ≡ onto refused g k
handed_up refused f g r x k p q e = rw (← p, e, q)
