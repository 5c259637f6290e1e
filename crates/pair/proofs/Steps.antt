-- Every step keeps the invariant, and so does every run.
-- Assumes nothing.
use mathlib.Core.Path.{refl}
use mathlib.Core.Bool.{false}
use mathlib.Core.List.{List, [], ◌∷◌}
use Prim.Native.Nat.{ℕ}
use lib.Dec.{T}
use Rattle.pair.specs.Names.{Side, Air, Ground, TimerExpiry, SystemError, other}
use Rattle.pair.specs.Carrier.{Step, user_call, hand_over, timer_expires_of, error_reported, turn_away, fail, Turn}
use Rattle.pair.proofs.OneDialogue.{Sys, swap, stepped, turned, run}
use Rattle.pair.proofs.ControlMachine.{Ask, ask, control, both_idle}
use Rattle.pair.proofs.Drain.{front}
use Rattle.pair.proofs.Tests.{flip_at}
use Rattle.pair.proofs.Invariant.{Inv, no_data}
use Rattle.pair.proofs.Calls.{call_keeps, report_keeps}
use Rattle.pair.proofs.HandOver.{hand_over_keeps}
use Rattle.pair.proofs.TurnAway.{turn_away_keeps}
use Rattle.pair.proofs.Fail.{fail_keeps}

pub step_keeps : (sd : Side) (s : Sys control) (c : Step Ask) → Inv sd s → Inv sd (stepped control sd s c)
step_keeps sd s (user_call a keep) h = call_keeps sd s a keep h
step_keeps sd s (hand_over keep) h = hand_over_keeps sd s keep s.there.line refl h
step_keeps sd s (timer_expires_of keep) h = report_keeps sd s (ask TimerExpiry [] 0) keep h tt
step_keeps sd s (error_reported keep) h = report_keeps sd s (ask SystemError [] 0) keep h tt
step_keeps sd s (turn_away keep) h = turn_away_keeps sd s keep h
step_keeps sd s fail h = fail_keeps sd s h

pub flip : (sd : Side) (s : Sys control) → Inv sd s → Inv (other sd) (swap control s)
flip Air s h = record { con = flip_at Air s.broken (front Air s.here.rec.ctl s.there.line) (front Ground s.there.rec.ctl s.here.line) h.con; wf_h = h.wf_t; wf_t = h.wf_h; head_o = h.head_i; head_i = h.head_o; data_o = h.data_i; data_i = h.data_o }
flip Ground s h = record { con = flip_at Ground s.broken (front Ground s.here.rec.ctl s.there.line) (front Air s.there.rec.ctl s.here.line) h.con; wf_h = h.wf_t; wf_t = h.wf_h; head_o = h.head_i; head_i = h.head_o; data_o = h.data_i; data_i = h.data_o }

turn_keeps : (sd : Side) (s : Sys control) (c : Step Ask) → Inv Air s → Inv Air (turned control sd s c)
turn_keeps Air s c h = step_keeps Air s c h
turn_keeps Ground s c h = flip Ground (stepped control Ground (swap control s) c) (step_keeps Ground (swap control s) c (flip Air s h))

pub run_keeps : (ts : List (Turn Ask)) (s : Sys control) → Inv Air s → Inv Air (run control s ts)
unfolding run
run_keeps [] s h = h
run_keeps (t ∷ ts) s h = run_keeps ts (turned control t.side s t.step) (turn_keeps t.side s t.step h)

pub idle_inv : (i j : ℕ) → Inv Air (both_idle i j)
idle_inv i j = record { con = tt; wf_h = tt; wf_t = tt; head_o = λ (y : T false). absurd y; head_i = λ (y : T false). absurd y; data_o = no_data false; data_i = no_data false }
