-- Demand 3 for any machine that agrees with the control: the claims hold after every run from two records that are IDLE there.
-- Assumes nothing.
use mathlib.Core.Path.{◌≡◌, refl, sym, ◌∙◌, subst}
use mathlib.Core.Bool.{false}
use mathlib.Core.List.{List, [], ◌∷◌, ◌++◌}
use Prim.Native.Nat.{ℕ}
use lib.Dec.{T}
use Rattle.pair.specs.Names.{Air, Ground, closed}
use Rattle.pair.specs.Carrier.{Machine, Turn}
use Rattle.pair.proofs.OneDialogue.{Sys, fresh, run, Claims}
use Rattle.pair.specs.Claims.{rising}
use Rattle.pair.proofs.ControlMachine.{held, control}
use Rattle.pair.proofs.Agree.{Agree}
use Rattle.pair.proofs.Lines.{LL}
use Rattle.pair.proofs.Simulate.{SysRel, Run, run_rel}
use Rattle.pair.proofs.Jobs.{no_repeat}
use Rattle.pair.proofs.Pair.{control_holds}

nil_rel : {X Y : Type 0} (EE : X → Y → Type 0) (l : List X) (k : List Y) → LL EE l k → l ≡ [] → k ≡ []
nil_rel EE l [] h e = refl
nil_rel EE l (f ∷ k) h e = absurd (subst (λ (m : List _). LL EE m (f ∷ k)) e h)

module _ (m n : Machine) (g : Agree m n) (s : Sys m) (t : Sys n) (h : SysRel m n g Air s t) where
  empty_here : s.here.line ≡ [] → t.here.line ≡ []
  empty_here e = nil_rel _ _ _ h.here.line e

  empty_there : s.there.line ≡ [] → t.there.line ≡ []
  empty_there e = nil_rel _ _ _ h.there.line e

  -- what is claimed of the second holds of the first
  pub carried : {i j : ℕ} → Claims n i j t → Claims m i j s
  carried c =
      record {
        ends_match = λ (p : s.here.line ≡ []) (q : s.there.line ≡ []).
            rw (
              g.ctl_is Air s.here.rec t.here.rec h.here.rec,
              g.ctl_is Ground s.there.rec
                  t.there.rec h.there.rec,
            ) (c.ends_match (empty_here p) (empty_there q));
        handed_in_order = rw (h.there.handed, h.here.taken, h.here.handed, h.there.taken) c.handed_in_order;
        handed_all = λ (p : s.here.line ≡ []) (q : s.there.line ≡ []) (b : s.broken ≡ false).
            rw (h.there.handed, h.here.taken, h.here.handed, h.there.taken)
            (c.handed_all (empty_here p) (empty_there q) (sym h.broken ∙ b));
        jobs_rise = rw (h.here.jobs, h.there.jobs) c.jobs_rise;
      }

module _ (m n : Machine) (g : Agree m n) (r q : m.R) (x y : n.R) (near : g.RR Air r x) (far : g.RR Ground q y) where
  -- the second follows every run of the first from corresponding records
  pub followed : (ts : List (Turn m.A)) → Run m n g (run m (fresh m r q) ts) (fresh n x y)
  followed ts =
      run_rel m n g ts (fresh m r q) (fresh n x y)
      (record {
        here = record { rec = near; line = tt; taken = refl; handed = refl; jobs = refl };
        there = record { rec = far; line = tt; taken = refl; handed = refl; jobs = refl };
        broken = refl;
      })

  -- so what is claimed of every run of the second holds of every run of the first
  pub holds_through : {i j : ℕ} → ((us : List (Turn n.A)) → Claims n i j (run n (fresh n x y) us)) → (ts : List (Turn m.A)) → Claims m i j (run m (fresh m r q) ts)
  holds_through c ts =
      let v = followed ts in
      carried m n g (run m (fresh m r q) ts) (run n (fresh n x y) v.turns) v.rel (c v.turns)

-- demand 3 for a machine that agrees with the control, from any two records that correspond to IDLE ones
pub machine_holds : (m : Machine) (g : Agree m control) (i j : ℕ) (r q : m.R) → g.RR Air r (held closed i)
    → g.RR Ground q (held closed j) → (ts : List (Turn m.A)) → Claims m i j (run m (fresh m r q) ts)
machine_holds m g i j r q near far ts = holds_through m control g r q (held closed i) (held closed j) near far (control_holds i j) ts

-- so no job is taken twice at an end
pub taken_once : {f g : ℕ} (m : Machine) (s : Sys m) → Claims m f g s → (xs ys zs : List ℕ) (j : ℕ) → (s.here.jobs ≡ xs ++ (j ∷ (ys ++ (j ∷ zs))) → ⊥) × (s.there.jobs ≡ xs ++ (j ∷ (ys ++ (j ∷ zs))) → ⊥)
taken_once {f} {g} m s c xs ys zs j = (
  λ (e : s.here.jobs ≡ xs ++ (j ∷ (ys ++ (j ∷ zs)))). no_repeat f xs ys zs j (subst (λ (l : List ℕ). T (rising f l)) e c.jobs_rise.0),
  λ (e : s.there.jobs ≡ xs ++ (j ∷ (ys ++ (j ∷ zs)))). no_repeat g xs ys zs j
      (subst (λ (l : List ℕ). T (rising g l)) e c.jobs_rise.1),
)
