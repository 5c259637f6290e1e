-- A job among those of which something was said.
-- Assumes nothing.
use mathlib.Core.Path.{◌≡◌, refl, sym, subst, ◌∙◌}
use mathlib.Core.Bool.{Bool, true, false, cond}
use mathlib.Core.List.{List}
use Prim.Native.Nat.{ℕ, zero, suc, ◌+◌, ◌≤◌, ◌<◌}
use native.Mathlib.Omega.{arith}
use borrow.Author.Tests.{eqb-true, eqb-false, ne_eqb, lt-ltb, le-ltb}
use lib.Dec.{eqb, ltb}
use Rattle.replay.specs.Watched.{job_at, found_in}

-- the first that is the job is found
pub found_here : (w : List ℕ) (air : Bool) (job n i : ℕ) → i < n → found_in w air job i ≡ i
    → eqb (job_at w air i) job ≡ true → found_in w air job n ≡ i
found_here w air job zero i h f e = absurd (omega (arith, h))
found_here w air job (suc n) i h f e = go (found_here w air job n i) (eqb i n) refl
  where
    go : (i < n → found_in w air job i ≡ i → eqb (job_at w air i) job ≡ true → found_in w air job n ≡ i) → (b : Bool) → eqb i n ≡ b
        → cond (ltb (found_in w air job n) n) (found_in w air job n) (cond (eqb (job_at w air n) job) n (suc n)) ≡ i
    go g true q = subst (λ (j : ℕ). cond (ltb (found_in w air job j) j) (found_in w air job j)
        (cond (eqb (job_at w air j) job) j (suc j)) ≡ i) (eqb-true i n q)
        (rw (f, le-ltb i i (omega arith), e))
    go g false q = rw (g (omega (arith, h, eqb-false i n q)) f e, lt-ltb i n (omega (arith, h, eqb-false i n q)))

-- one that is another leaves it to the others
pub found_turn : (w : List ℕ) (air : Bool) (job i v : ℕ) → v ≡ job_at w air i → (v ≡ job → ⊥) → found_in w air job i ≡ i
    → found_in w air job (i + 1) ≡ i + 1
found_turn w air job i v e n f =
    let q : suc i ≡ i + 1 = omega arith in
    subst (λ (k : ℕ). found_in w air job k ≡ k) q
    (rw (f, le-ltb i i (omega arith), ne_eqb (job_at w air i) job (λ (r : job_at w air i ≡ job). n (e ∙ r))))

pub found_end : (w : List ℕ) (air : Bool) (job n i : ℕ) → i ≤ n → n ≤ i → found_in w air job i ≡ i → n ≡ found_in w air job n
found_end w air job n i h g f =
    let q : i ≡ n = omega (arith, h, g) in
    subst (λ (k : ℕ). k ≡ found_in w air job k) q (sym f)
