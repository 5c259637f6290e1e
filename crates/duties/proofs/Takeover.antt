-- Several hosts with one journal: a takeover is a run of the model with one host at each end, the power fails and the host comes up; what a deposed host tries is no step of it. So the
-- promise holds of them too. And without the fence it does not.
-- Assumes nothing.
use mathlib.Core.Path.{◌≡◌, refl, ap, sym, ◌∙◌}
use mathlib.Core.Bool.{Bool, true}
use mathlib.Core.List.{List, [], ◌∷◌, ◌++◌}
use Prim.Native.Nat.{ℕ}
use Rattle.pair.specs.Names.{Side, Air, Ground}
use Rattle.pair.specs.Numbered.{NMachine, starter}
use Rattle.duties.specs.Host.{Habits, Power, up, apart, down, Hosts, Act, power_fails, cut_off, Move, d_swap, powered, d_stepped, d_turned, d_run}
use Rattle.duties.specs.Leases.{Shared, Shift, holder, takes_over, wakes, LMove, take_over, l_turned, l_run}

-- ---- the moves of a shift

abbrev pub acts : {A : Type 0} → Shift A → List (Act A)
acts (holder a) = a ∷ []
acts takes_over = power_fails ∷ cut_off ∷ []
acts (wakes n a) = []

abbrev pub at : {A : Type 0} → Side → List (Act A) → List (Move A)
at sd [] = []
at sd (a ∷ l) = record { side = sd; act = a } ∷ at sd l

abbrev pub moves_of : {A : Type 0} → List (LMove A) → List (Move A)
moves_of [] = []
moves_of (v ∷ vs) = at v.side (acts v.shift) ++ moves_of vs

module _ (m : NMachine) (h : Habits) (letter : Side → ℕ → m.at.A) (fresh : Side → m.at.R) (accepts : m.at.E → Bool) where
  -- the power fails, and the host comes up with what was kept
  took : (may : Bool) (sd : Side) (s : Hosts m)
      → d_stepped m h letter fresh accepts may sd (d_stepped m h letter fresh accepts may sd s power_fails) cut_off ≡ take_over m h letter fresh accepts true s.here.power sd s
  took may sd s = go s.here.power refl
    where
      go : (p : Power) → s.here.power ≡ p
          → powered m h letter fresh accepts (powered m h letter fresh accepts p may sd s power_fails).here.power may sd (powered m h letter fresh accepts p may sd s power_fails) cut_off ≡ take_over m h letter fresh accepts true p sd s
      go up e = refl
      go apart e = refl
      go down e = ap (λ (p : Power). powered m h letter fresh accepts p may sd s cut_off) e

  -- what was committed and has not left may leave late: none of the line is held back, and nothing is taken from it
  pub leaves_late : (p : Power) (sd : Side) (s : Hosts m)
      → ((take_over m h letter fresh accepts true p sd s).here.unsent ≡ 0) × ((take_over m h letter fresh accepts true p sd s).ends.here.line ≡ s.ends.here.line)
  leaves_late up sd s = (refl, refl)
  leaves_late apart sd s = (refl, refl)
  leaves_late down sd s = (refl, refl)

  shift_is : (from sd : Side) (x : Shared m) (a : Shift m.at.A)
      → d_run m h letter fresh accepts from x.hosts (at sd (acts a)) ≡ (l_turned m h letter fresh accepts true from sd x a).hosts
  unfolding d_run
  shift_is from Air x (holder a) = refl
  shift_is from Ground x (holder a) = refl
  shift_is from Air x takes_over = took (starter from Air) Air x.hosts
  shift_is from Ground x takes_over = ap (d_swap m h letter fresh accepts)
      (took (starter from Ground) Ground (d_swap m h letter fresh accepts x.hosts))
  shift_is from Air x (wakes n a) = refl
  shift_is from Ground x (wakes n a) = refl

  runs_on : (from : Side) (s : Hosts m) (l k : List (Move m.at.A))
      → d_run m h letter fresh accepts from s (l ++ k) ≡ d_run m h letter fresh accepts from (d_run m h letter fresh accepts from s l) k
  unfolding d_run
  runs_on from s [] k = refl
  runs_on from s (v ∷ l) k = runs_on from (d_turned m h letter fresh accepts from v.side s v.act) l k

  -- a run of several hosts, with the fence, is a run of the model
  pub takeover_is_run : (from : Side) (x : Shared m) (vs : List (LMove m.at.A))
      → (l_run m h letter fresh accepts true from x vs).hosts ≡ d_run m h letter fresh accepts from x.hosts (moves_of vs)
  unfolding l_run d_run
  takeover_is_run from x [] = refl
  takeover_is_run from x (v ∷ vs) =
      takeover_is_run from (l_turned m h letter fresh accepts true from v.side x v.shift) vs
      ∙ (ap (λ (s : Hosts m). d_run m h letter fresh accepts from s (moves_of vs))
      (sym (shift_is from v.side x v.shift)) ∙ sym
      (runs_on from x.hosts (at v.side (acts v.shift)) (moves_of vs)))
