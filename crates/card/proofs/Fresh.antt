-- The ways out of `peat_fresh`, as the code has them.
-- Assumes nothing.
use mathlib.Core.Path.{◌≡◌, refl, ap, sym, ◌∙◌}
use mathlib.Core.Bool.{Bool, true, false, not, cond}
use mathlib.Core.List.{List}
use Prim.Native.Nat.{ℕ, ◌≤◌, ◌<◌}
use borrow.Author.Tests.{eq-eqb, ne_eqb, le-ltb, lt-ltb, not-true, not-false}
use lib.Dec.{eqb}
use Rattle.editions.specs.Editions.{is_type, edition_of}
use Rattle.editions.specs.declared.Edition.{Edition}
use Rattle.machine.specs.Record.{fresh_record}
use Rattle.control.specs.declared.Side.{Side}
use Rattle.control.specs.declared.Side.TheVariants.{Air, Ground}
use Rattle.machine.specs.declared.record.Record.{Record}
use Rattle.stored.specs.Stored.{store_at, kept}
use Rattle.card.specs.Face.{made, first_number, fresh_for, configured, fresh_call}

fresh_stored : (r z : List ℕ) (sd : Side) (x : Record) (t : Bool) (n : ℕ) → kept t z ≡ store_at r sd x first_number
    → n ≡ cond t 0 2 → made n z ≡ fresh_for (store_at r sd x first_number)
unfolding fresh_for
fresh_stored r z sd x t n p q = rw (← p, q)

-- y: whether the number is an application type, as `is_type` answers; e: its edition, as `of_type` does
module _ (r : List ℕ) (side policy forwards version application : ℕ) (y : Bool) (i : y ≡ is_type application) where
  typed : not y ≡ false → is_type application ≡ true
  typed j = sym i ∙ not-false y j

  untyped : not y ≡ true → is_type application ≡ false
  untyped j = sym i ∙ not-true y j

  as_asked : (x : Record) (e : Edition) → e ≡ edition_of application → x ≡ fresh_record (record { policy = policy; forwards = eqb forwards 1; version = version; edition = e }) → x ≡ fresh_record (configured policy forwards version application)
  as_asked x e f d = d ∙ ap (λ (k : Edition). fresh_record (record { policy = policy; forwards = eqb forwards 1; version = version; edition = k })) f

  pub fresh_air : (z : List ℕ) (x : Record) (e : Edition) (t : Bool) (n : ℕ) → forwards ≤ 1 → not y ≡ false → e ≡ edition_of application → x ≡ fresh_record (record { policy = policy; forwards = eqb forwards 1; version = version; edition = e }) → side ≡ 1 → kept t z ≡ store_at r Air x first_number → n ≡ cond t 0 2 → made n z ≡ fresh_call r side policy forwards version application
  unfolding fresh_call
  fresh_air z x e t n w j f d h p q = rw (le-ltb 1 forwards w, typed j, eq-eqb side 1 h, ← as_asked x e f d)
      (fresh_stored r z Air x t n p q)

  pub fresh_ground : (z : List ℕ) (x : Record) (e : Edition) (t : Bool) (n : ℕ) → forwards ≤ 1 → not y ≡ false → e ≡ edition_of application → x ≡ fresh_record (record { policy = policy; forwards = eqb forwards 1; version = version; edition = e }) → (side ≡ 1 → ⊥) → side ≡ 2 → kept t z ≡ store_at r Ground x first_number → n ≡ cond t 0 2 → made n z ≡ fresh_call r side policy forwards version application
  unfolding fresh_call
  fresh_ground z x e t n w j f d g h p q = rw
      (le-ltb 1 forwards w, typed j, ne_eqb side 1 g, eq-eqb side 2 h, ← as_asked x e f d)
      (fresh_stored r z Ground x t n p q)

  pub fresh_odd : forwards ≤ 1 → not y ≡ false → (side ≡ 1 → ⊥) → (side ≡ 2 → ⊥)
      → made 2 r ≡ fresh_call r side policy forwards version application
  unfolding fresh_call
  fresh_odd w j g h = rw (le-ltb 1 forwards w, typed j, ne_eqb side 1 g, ne_eqb side 2 h)

  -- "Refusals: 2 for a type other than 2 or 22" (document 02, E14)
  pub fresh_untyped : forwards ≤ 1 → not y ≡ true → made 2 r ≡ fresh_call r side policy forwards version application
  unfolding fresh_call
  fresh_untyped w j = rw (le-ltb 1 forwards w, untyped j)

pub fresh_unsaid : (r : List ℕ) (side policy forwards version application : ℕ) → 1 < forwards
    → made 2 r ≡ fresh_call r side policy forwards version application
unfolding fresh_call
fresh_unsaid r side policy forwards version application w = rw (lt-ltb 1 forwards w)
