-- Demand 3 for the finite control of both machines: the claims hold after every run of two IDLE ends.
-- Assumes nothing.
use mathlib.Core.Path.{◌≡◌, refl, sym, ◌∙◌, subst}
use mathlib.Core.Bool.{Bool, true, false, ◌||◌}
use mathlib.Core.List.{List, [], ◌∷◌, ◌++◌, append-nil}
use Prim.Native.Nat.{ℕ}
use lib.Dec.{T}
use Rattle.pair.specs.Names.{Side, Air, Ground, Control, expects, other}
use Rattle.pair.specs.Carrier.{Body, Turn}
use Rattle.pair.proofs.OneDialogue.{Sys, run, Claims}
use Rattle.pair.specs.Claims.{matching}
use Rattle.pair.proofs.ControlMachine.{Ent, Ask, control, both_idle}
use Rattle.pair.proofs.Finite.{ok, and_l}
use Rattle.pair.proofs.Drain.{deaf, recv, fine, front, drain_fine, sound_left, sound_right, sound, strong}
use Rattle.pair.proofs.Tests.{view_at}
use Rattle.pair.proofs.Flow.{flow, pre_trans, pre_front}
use Rattle.pair.proofs.Invariant.{Data, Inv}
use Rattle.pair.proofs.Steps.{run_keeps, idle_inv}
use Rattle.pair.proofs.Jobs.{Both, run_jobs, idle_jobs}

pub rest : (s : Sys control) → s.here.line ≡ [] → s.there.line ≡ [] → Inv Air s → T (matching s.here.rec.ctl s.there.rec.ctl)
rest s p q h =
    let a = s.here.rec.ctl in
    let g = s.there.rec.ctl in
    let c = subst (λ (l : List Ent). T (sound Air s.broken (ok a) (front Ground g l))) p (subst
    (λ (l : List Ent). T (sound Air s.broken (front Air a l) (front Ground g s.here.line))) q h.con)
    in
    and_l (matching a g) _ (and_l (strong Air a g) _ c)

pub full : (sd : Side) (c : Control) (b : Bool) (l : List Ent) (gv tk : List Body) → l ≡ [] → b ≡ false
    → Data b gv (flow sd c l) tk → gv ≡ tk
full sd c b l gv tk e f d = sym (append-nil gv) ∙ subst (λ (k : List Ent). gv ++ flow sd c k ≡ tk) e (d.all f)

held_to : {f g : ℕ} (s : Sys control) → Inv Air s → Both f g s → Claims control f g s
held_to s h j =
    record {
      ends_match = λ (p : s.here.line ≡ []) (q : s.there.line ≡ []). rest s p q h;
      handed_in_order = (pre_trans _ _ _ (pre_front _ _) h.data_o.pre, pre_trans _ _ _ (pre_front _ _) h.data_i.pre);
      handed_all = λ (p : s.here.line ≡ []) (q : s.there.line ≡ []) (b : s.broken ≡ false).
          (full (other Air) s.there.rec.ctl _ _ _ _ p b h.data_o, full Air s.here.rec.ctl _ _ _ _ q b h.data_i);
      jobs_rise = (j.near.up, j.far.up);
    }

pub control_holds : (i j : ℕ) (ts : List (Turn Ask)) → Claims control i j (run control (both_idle i j) ts)
control_holds i j ts = held_to (run control (both_idle i j) ts) (run_keeps ts (both_idle i j) (idle_inv i j))
    (run_jobs ts (both_idle i j) (idle_jobs i j))

-- ---- nothing unexpected is handed over

-- the oldest entry of a line is discarded by an IDLE end, or there is an instruction for it
abbrev pub head_fits : Side → Control → List Ent → Bool
head_fits sd c [] = true
head_fits sd c (e ∷ l) = deaf c e.kind || expects sd c e.kind

pub head_fits_is : (sd : Side) (c : Control) (l : List Ent) → T (fine (front sd c l)) → T (head_fits sd c l)
head_fits_is sd c [] f = tt
head_fits_is sd c (e ∷ l) f = go (deaf c e.kind) refl
  where
    go : (b : Bool) → deaf c e.kind ≡ b → T (b || expects sd c e.kind)
    go true q = tt
    go false q = and_l (expects sd c e.kind) _ (view_at sd c e.kind q (drain_fine sd (recv sd c e.kind) l f))

abbrev pub HeadsFit : Sys control → Type 0
HeadsFit s = T (head_fits Air s.here.rec.ctl s.there.line) × T (head_fits Ground s.there.rec.ctl s.here.line)

heads_fit : (s : Sys control) → Inv Air s → HeadsFit s
heads_fit s h =
    let x = front Air s.here.rec.ctl s.there.line in
    let y = front Ground s.there.rec.ctl s.here.line in (
      head_fits_is Air s.here.rec.ctl s.there.line (sound_left Air s.broken x y h.con),
      head_fits_is Ground
          s.there.rec.ctl s.here.line (sound_right Air s.broken x y h.con),
    )

pub none_unexpected : (i j : ℕ) (ts : List (Turn Ask)) → HeadsFit (run control (both_idle i j) ts)
none_unexpected i j ts = heads_fit (run control (both_idle i j) ts) (run_keeps ts (both_idle i j) (idle_inv i j))
