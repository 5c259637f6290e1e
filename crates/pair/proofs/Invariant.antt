-- What holds of the two ends after every step, seen from the end `here` at side sd.
-- Assumes nothing.
use mathlib.Core.Path.{◌≡◌, refl, sym, subst}
use mathlib.Core.Bool.{Bool, true, false, not, cond, ◌&&◌, ◌||◌}
use mathlib.Core.List.{List, [], ◌∷◌, ◌++◌}
use lib.Dec.{T}
use Rattle.pair.specs.Names.{Side, Control, is_idle, other}
use Rattle.pair.specs.Carrier.{Body}
use Rattle.pair.proofs.OneDialogue.{Sys, is_nil}
use Rattle.pair.specs.Claims.{Prefix}
use Rattle.pair.proofs.ControlMachine.{Ent, control}
use Rattle.pair.proofs.Finite.{is_t}
use Rattle.pair.proofs.Drain.{is_start, front, is_closed, wf, sound}
use Rattle.pair.proofs.Flow.{flow, pre_nil, pre_cons, pre_trans}

-- gv was handed out, fl will be, tk was taken; b: the dialogue is broken
pub record Data (b : Bool) (gv fl tk : List Body) : Type 0 where
  pub pre : Prefix (gv ++ fl) tk
  pub all : b ≡ false → gv ++ fl ≡ tk

abbrev pub start_first : List Ent → Bool
start_first [] = false
start_first (e ∷ l) = is_start e.kind

-- the drained ends are as they should be; IDLE has DSC false; where a start is the oldest entry of a line, the other line is
-- empty; and each way what was handed out and what the line will still hand out is what was taken
pub record Inv (sd : Side) (s : Sys control) : Type 0 where
  pub con : T (sound sd s.broken (front sd s.here.rec.ctl s.there.line) (front (other sd) s.there.rec.ctl s.here.line))
  pub wf_h : T (wf s.here.rec.ctl)
  pub wf_t : T (wf s.there.rec.ctl)
  pub head_o : T (start_first s.here.line) → s.there.line ≡ []
  pub head_i : T (start_first s.there.line) → s.here.line ≡ []
  pub data_o : Data s.broken s.there.handed (flow (other sd) s.there.rec.ctl s.here.line) s.here.taken
  pub data_i : Data s.broken s.here.handed (flow sd s.here.rec.ctl s.there.line) s.there.taken

-- ---- small laws

pub lost_data : (b : Bool) (gv xs ys tk : List Body) → Data b gv xs tk → Prefix ys xs → Data true gv ys tk
lost_data b gv xs ys tk d p = record { pre = pre_trans (gv ++ ys) (gv ++ xs) tk (pre_cons gv ys xs p) d.pre; all = λ (e : true ≡ false). absurd (subst T e tt) }

pub no_data : (b : Bool) → Data b [] [] []
no_data b = record { pre = pre_nil []; all = λ (e : b ≡ false). refl }

pub nil_is : (l : List Ent) → T (is_nil l) → l ≡ []
nil_is [] t = refl
nil_is (e ∷ l) t = absurd t

pub closed_is : (x : Control) → T (is_idle x) → T (wf x) → T (is_closed x)
closed_is x i w = subst (λ (b : Bool). T (not b || not x.dsc) → T (b && not x.dsc)) (sym (is_t (is_idle x) i))
    (λ (v : T (not x.dsc)). v) w

pub closed_wf : (c : Control) → T (is_closed c) → T (wf c)
closed_wf c i = go (is_idle c) c.dsc i
  where
    go : (a b : Bool) → T (a && not b) → T (not a || not b)
    go true b t = t
    go false b t = tt

pub either : (sd : Side) (b : Bool) (x y : Sys control) → (T b → Inv sd x) → Inv sd y → Inv sd (cond b x y)
either sd true x y p q = p tt
either sd false x y p q = q
