-- What the numbered carrier needs of a machine on the base carrier; the control has it.
-- Assumes nothing.
use mathlib.Core.Path.{◌≡◌, refl, sym, subst}
use mathlib.Core.Bool.{Bool, true, false, not, cond, ◌&&◌, ◌||◌}
use mathlib.Core.List.{List, []}
use lib.Dec.{T}
use Rattle.pair.specs.Names.{Side, Air, Ground, State, Idle, StartReq, StartInd, Dialogue, End, Control, Call, Primitive, TimerExpiry, SystemError, DTurnedAway, DPAbort, Did, quiet, aborts, closed, entered, is, is_idle, other, takes, meets, hands}
use Rattle.pair.specs.Carrier.{Body, puts, Outcome, refused, acts, Machine, Step, starts, idle, is_start}
use Rattle.pair.proofs.OneDialogue.{Sys, swap, fresh, stepped}
use Rattle.pair.specs.Claims.{matching, Prefix}
use Rattle.pair.proofs.ControlMachine.{Held, held, Ent, ent, ask, call_of, met, handed, receives, control}
use Rattle.pair.proofs.Drain.{wf, front, sound, sound_left}
use Rattle.pair.proofs.Flow.{flow, pre_trans, pre_front}
use Rattle.pair.proofs.Invariant.{Data, Inv}
use Rattle.pair.proofs.Steps.{step_keeps, flip, idle_inv}
use Rattle.pair.proofs.Pair.{rest, full, head_fits_is}
use Rattle.pair.proofs.NoAbortAnswers.{HeadQuiet, control_quiet}

-- an event that starts nothing
abbrev pub Calm : (m : Machine) → Outcome m.R m.E → Type 0
Calm m refused = Unit {0}
Calm m (acts r l p) = T (not (starts m p))

-- the same two ends with another record at `here`
abbrev pub re_rec : (m : Machine) → Sys m → m.R → Sys m
re_rec m s r = record { here = record { rec = r; line = s.here.line; taken = s.here.taken; handed = s.here.handed; jobs = s.here.jobs }; there = s.there; broken = s.broken }

-- the claims about one dialogue
pub record Core (m : Machine) (s : Sys m) : Type 0 where
  pub ends_match : s.here.line ≡ [] → s.there.line ≡ [] → T (matching (m.ctl s.here.rec) (m.ctl s.there.rec))
  pub handed_in_order : Prefix s.there.handed s.here.taken × Prefix s.here.handed s.there.taken
  pub handed_all : s.here.line ≡ [] → s.there.line ≡ [] → s.broken ≡ false
      → (s.there.handed ≡ s.here.taken) × (s.here.handed ≡ s.there.taken)

pub record Base (m : Machine) : Type 1 where
  -- an invariant of the base carrier, seen from side sd
  pub P : Side → Sys m → Type 0
  -- a record that stands for an end that holds another number
  pub none : m.R
  pub none_closed : m.ctl none ≡ closed
  pub begin : (sd : Side) (r q : m.R) → m.ctl r ≡ closed → m.ctl q ≡ closed → P sd (fresh m r q)
  pub step : (sd : Side) (s : Sys m) (c : Step m.A) → P sd s → P sd (stepped m sd s c)
  pub flip : (sd : Side) (s : Sys m) → P sd s → P (other sd) (swap m s)
  pub core : (s : Sys m) → P Air s → Core m s
  -- of a record it sees the control alone, and an IDLE one is closed
  pub re_rec_is : (sd : Side) (s : Sys m) (r : m.R) → m.ctl s.here.rec ≡ m.ctl r → P sd s → P sd (re_rec m s r)
  pub idle_closed : (sd : Side) (s : Sys m) → P sd s → T (idle m s.here.rec) → m.ctl s.here.rec ≡ closed
  -- what is handed over is not answered
  pub quiet : (sd : Side) (s : Sys m) → P sd s → HeadQuiet m sd s.here.rec s.there.line
  -- only a call starts, and a start that is handed over is not refused
  pub calm_receive : (sd : Side) (r : m.R) (e : m.E) → Calm m (m.receive sd r e)
  pub calm_expiry : (sd : Side) (r : m.R) → Calm m (m.expiry sd r)
  pub calm_error : (sd : Side) (r : m.R) → Calm m (m.error sd r)
  pub calm_away : (sd : Side) (r : m.R) → Calm m (m.away sd r)
  pub calm_p_abort : (sd : Side) (r : m.R) → Calm m (m.p_abort sd r)
  pub no_refusal : (sd : Side) (r : m.R) (e : m.E) → T (is_start m e) → m.receive sd r e ≡ refused → ⊥

-- ---- the control has it

control_re_rec : (sd : Side) (s : Sys control) (r : Held) → s.here.rec.ctl ≡ r.ctl → Inv sd s → Inv sd (re_rec control s r)
control_re_rec sd s r e h =
    record {
      con = subst (λ (c : Control). T (sound sd s.broken (front sd c s.there.line)
          (front (other sd) s.there.rec.ctl s.here.line))) e h.con;
      wf_h = subst (λ (c : Control). T (wf c)) e h.wf_h;
      wf_t = h.wf_t;
      head_o = h.head_o;
      head_i = h.head_i;
      data_o = h.data_o;
      data_i = subst (λ (c : Control). Data s.broken s.here.handed (flow sd c s.there.line) s.there.taken) e h.data_i;
    }

closed_only : (s : State) (d : Bool) → T (is s Idle) → T (not (is s Idle) || not d) → entered s d ≡ closed
closed_only Idle false i w = refl
closed_only Idle true i w = absurd w
closed_only StartReq d i w = absurd i
closed_only StartInd d i w = absurd i
closed_only Dialogue d i w = absurd i
closed_only End d i w = absurd i
closed_only Rattle.pair.specs.Names.Forward d i w = absurd i

control_closed : (c : Control) → T (is_idle c) → T (wf c) → c ≡ closed
control_closed c i w = closed_only c.state c.dsc i w

control_begin : (sd : Side) (r q : Held) → r.ctl ≡ closed → q.ctl ≡ closed → Inv sd (fresh control r q)
control_begin sd r q e f =
    subst (λ (c : Control). Inv sd (fresh control (held c r.job) q)) (sym e)
    (subst (λ (c : Control). Inv sd (fresh control (held closed r.job) (held c q.job))) (sym f) (go sd))
  where
    go : (sd : Side) → Inv sd (fresh control (held closed r.job) (held closed q.job))
    go Air = idle_inv r.job q.job
    go Ground = flip Air (fresh control (held closed q.job) (held closed r.job)) (idle_inv q.job r.job)

control_core : (s : Sys control) → Inv Air s → Core control s
control_core s h =
    record {
      ends_match = λ (p : s.here.line ≡ []) (q : s.there.line ≡ []). rest s p q h;
      handed_in_order = (pre_trans _ _ _ (pre_front _ _) h.data_o.pre, pre_trans _ _ _ (pre_front _ _) h.data_i.pre);
      handed_all = λ (p : s.here.line ≡ []) (q : s.there.line ≡ []) (b : s.broken ≡ false).
          (full (other Air) s.there.rec.ctl _ _ _ _ p b h.data_o, full Air s.here.rec.ctl _ _ _ _ q b h.data_i);
    }

met_calm : (q : Held) (d : Did) (l : List Body) → Calm control (met q d l)
met_calm q (quiet c) l = tt
met_calm q (aborts c) l = tt

receive_calm : (sd : Side) (q : Held) (e : Ent) → Calm control (receives sd q e)
receive_calm sd q e = met_calm q (meets sd q.ctl e.kind) (handed (hands sd q.ctl e.kind) e.body)

expiry_calm : (sd : Side) (q : Held) → Calm control (call_of sd q (ask TimerExpiry [] 0))
expiry_calm sd q = go (takes sd q.ctl TimerExpiry && true)
  where
    go : (b : Bool) → Calm control (cond b (acts (held closed q.job) [] (puts (ent Rattle.pair.specs.Names.DAbort []))) refused)
    go true = tt
    go false = tt

error_calm : (sd : Side) (q : Held) → Calm control (call_of sd q (ask SystemError [] 0))
error_calm sd q = go (takes sd q.ctl SystemError && true)
  where
    go : (b : Bool) → Calm control (cond b (acts (held closed q.job) [] (puts (ent Rattle.pair.specs.Names.DAbort []))) refused)
    go true = tt
    go false = tt

-- refused is no act
abbrev Refused : Outcome Held Ent → Type 0
Refused refused = Unit {0}
Refused (acts r l p) = ⊥

met_acts : (q : Held) (d : Did) (l : List Body) → met q d l ≡ refused → ⊥
met_acts q (quiet c) l e = subst Refused (sym e) tt
met_acts q (aborts c) l e = subst Refused (sym e) tt

pub control_base : Base control
control_base = record {
  P = Inv;
  none = held closed 0;
  none_closed = refl;
  begin = control_begin;
  step = step_keeps;
  flip = flip;
  core = control_core;
  re_rec_is = control_re_rec;
  idle_closed = λ (sd : Side) (s : Sys control) (h : Inv sd s) (i : T (is_idle s.here.rec.ctl)). control_closed
      s.here.rec.ctl i h.wf_h;
  quiet = λ (sd : Side) (s : Sys control) (h : Inv sd s). control_quiet sd s.here.rec s.there.line (head_fits_is
      sd s.here.rec.ctl s.there.line (sound_left sd s.broken
      (front sd s.here.rec.ctl s.there.line) (front (other sd) s.there.rec.ctl s.here.line)
      h.con));
  calm_receive = receive_calm;
  calm_expiry = expiry_calm;
  calm_error = error_calm;
  calm_away = λ (sd : Side) (q : Held). receive_calm sd q (ent DTurnedAway []);
  calm_p_abort = λ (sd : Side) (q : Held). receive_calm sd q (ent DPAbort []);
  no_refusal = λ (sd : Side) (q : Held) (e : Ent) (t : T (is_start control e)) (r : receives sd q e ≡ refused). met_acts
      q (meets sd q.ctl e.kind) (handed (hands sd q.ctl e.kind) e.body) r;
}
