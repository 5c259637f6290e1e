-- What a test says, as a fact; and tests over the drained ends, beside those over the control's finite types, which crate
-- machine has.
-- Assumes nothing.
use mathlib.Core.Path.{◌≡◌, refl, subst, sym}
use mathlib.Core.Bool.{Bool, true, false, not, ◌&&◌, ◌||◌}
use lib.Dec.{T}
use Rattle.control.proofs.Finite.{imp, all_control, at_control}
use Rattle.pair.specs.Names.{Control}

-- ---- tests as facts

pub imp_e : (a b : Bool) → T (imp a b) → T a → T b
unfolding imp
imp_e true b t u = t
imp_e false b t u = absurd u

pub and_l : (a b : Bool) → T (a && b) → T a
and_l true b t = tt
and_l false b t = t

pub and_r : (a b : Bool) → T (a && b) → T b
and_r true b t = t
and_r false b t = absurd t

pub both : (a b : Bool) → T a → T b → T (a && b)
both true b t u = u
both false b t u = t

pub or_l : (a b : Bool) → T a → T (a || b)
or_l true b t = tt
or_l false b t = absurd t

pub no_T : (b : Bool) → T (not b) → b ≡ false
no_T true t = absurd t
no_T false t = refl

pub is_t : (b : Bool) → T b → b ≡ true
is_t true t = refl
is_t false t = absurd t

pub T_is : (b : Bool) → b ≡ true → T b
T_is b e = subst T (sym e) tt

-- ---- the drained ends

-- where an end is once its line is drained: at a control; or closed by an abort or a discarded entry; or an entry was not
-- expected
pub data Dr : Type 0 where
  ok : Control → Dr
  dead : Dr
  bad : Dr

unfoldable pub all_dr : (Dr → Bool) → Bool
all_dr f = f bad && (f dead && all_control (λ (x : Control). f (ok x)))

pub at_dr : (f : Dr → Bool) → T (all_dr f) → (x : Dr) → T (f x)
unfolding all_dr
at_dr f t bad = and_l (f bad) _ t
at_dr f t dead = and_l (f dead) _ (and_r (f bad) _ t)
at_dr f t (ok x) = at_control (λ (y : Control). f (ok y)) (and_r (f dead) _ (and_r (f bad) _ t)) x
