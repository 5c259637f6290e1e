-- Laws of a choice by a test, and of a contract that is one equation.
-- Assumes nothing.
use mathlib.Core.Path.{◌≡◌, refl, ap, sym, ◌∙◌}
use mathlib.Core.Bool.{Bool, true, false, cond, ◌&&◌}
use Prim.Native.Nat.{ℕ}
use native.Mathlib.Omega.{arith}
use Rattle.std.specs.Prelude.{Option, Result, Some, Ok}

-- a contract that is one equation determines what it speaks of: two results that satisfy it are equal
pub determined : {A : Type 0} (x y z : A) → x ≡ z → y ≡ z → x ≡ y
determined x y z p q = p ∙ sym q

-- and every part of it: the answer, and each lent byte at exit
pub determined_part : {A B : Type 0} (f : A → B) (x y z : A) → x ≡ z → y ≡ z → f x ≡ f y
determined_part f x y z p q = ap f (determined x y z p q)

-- a choice whose test held, or did not
pub cond_yes : {A : Type 0} (b : Bool) (x y o : A) → b ≡ true → o ≡ x → o ≡ cond b x y
cond_yes b x y o e p = p ∙ ap (λ (t : Bool). cond t x y) (sym e)

pub cond_no : {A : Type 0} (b : Bool) (x y o : A) → b ≡ false → o ≡ y → o ≡ cond b x y
cond_no b x y o e p = p ∙ ap (λ (t : Bool). cond t x y) (sym e)

-- both tests held
pub both_left : (a b : Bool) → a && b ≡ true → a ≡ true
both_left true b e = refl
both_left false b e = e

pub both_right : (a b : Bool) → a && b ≡ true → b ≡ true
both_right true b e = e
both_right false b e = let z : ◌≡◌ {A = ℕ} 0 1 = cc in absurd (omega arith)

-- ---- a value and a place beside it, in the answers that hold both

module _ {A B : Type 0} {v w : A} {p q : B} where
  pub some_value : ◌≡◌ {A = Option (A × B)} (Some (v, p)) (Some (w, q)) → v ≡ w
  some_value e = let z : (v, p) ≡ (w, q) = cc in ap (λ (x : A × B). x.0) z

  pub some_place : ◌≡◌ {A = Option (A × B)} (Some (v, p)) (Some (w, q)) → p ≡ q
  some_place e = let z : (v, p) ≡ (w, q) = cc in ap (λ (x : A × B). x.1) z

module _ {A B E : Type 0} {v w : A} {p q : B} where
  pub ok_value : ◌≡◌ {A = Result (A × B) E} (Ok (v, p)) (Ok (w, q)) → v ≡ w
  ok_value e = let z : (v, p) ≡ (w, q) = cc in ap (λ (x : A × B). x.0) z

  pub ok_place : ◌≡◌ {A = Result (A × B) E} (Ok (v, p)) (Ok (w, q)) → p ≡ q
  ok_place e = let z : (v, p) ≡ (w, q) = cc in ap (λ (x : A × B). x.1) z
