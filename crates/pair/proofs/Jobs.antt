-- Each end takes its jobs in strictly rising order, over all dialogues: none is taken twice.
-- Assumes nothing.
use mathlib.Core.Path.{◌≡◌, refl, sym, subst}
use mathlib.Core.Bool.{Bool, true, false, not, cond, ◌&&◌, ◌||◌}
use mathlib.Core.List.{List, [], ◌∷◌, ◌++◌}
use Prim.Native.Nat.{ℕ, ◌<◌}
use native.Mathlib.Omega.{arith}
use lib.Dec.{T, ltb, ltb→lt}
use Rattle.pair.specs.Names.{Side, Air, Ground, DTurnedAway, DPAbort, TimerExpiry, SystemError, other, takes, goes, sends, is_data, Did, quiet, aborts, meets, hands}
use Rattle.pair.specs.Carrier.{Body, nothing, puts, message, Outcome, refused, acts, Sort, begins, breaks, plain, Step, user_call, hand_over, timer_expires_of, error_reported, turn_away, fail, Turn, idle, starts, discards}
use Rattle.pair.proofs.OneDialogue.{Sys, swap, put, took, left, did, ready, called, off, handed_over, may_turn_away, recalled, turned_away, emptied, told_lost, failed, stepped, turned, run}
use Rattle.pair.specs.Claims.{rising}
use Rattle.pair.proofs.ControlMachine.{Held, held, Ent, ent, Ask, ask, sort_of, call_of, met, handed, receives, control, both_idle}
use Rattle.pair.proofs.Finite.{and_l, and_r, both, T_is}

abbrev last_or : ℕ → List ℕ → ℕ
last_or n [] = n
last_or n (j ∷ js) = last_or j js

-- the highest job is the last one taken
pub record Jobs (from job : ℕ) (jobs : List ℕ) : Type 0 where
  pub up : T (rising from jobs)
  pub top : last_or from jobs ≡ job

-- f, g: the highest jobs of both ends at the beginning
pub record Both (f g : ℕ) (s : Sys control) : Type 0 where
  pub near : Jobs f s.here.rec.job s.here.jobs
  pub far : Jobs g s.there.rec.job s.there.jobs

last_snoc : (n : ℕ) (l : List ℕ) (j : ℕ) → last_or n (l ++ (j ∷ [])) ≡ j
last_snoc n [] j = refl
last_snoc n (i ∷ l) j = last_snoc i l j

rising_snoc : (n : ℕ) (l : List ℕ) (j : ℕ) → T (rising n l) → T (ltb (last_or n l) j) → T (rising n (l ++ (j ∷ [])))
rising_snoc n [] j t v = both (ltb n j) true v tt
rising_snoc n (i ∷ l) j t v = both (ltb n i) _ (and_l (ltb n i) _ t) (rising_snoc i l j (and_r (ltb n i) _ t) v)

pub jobs_more : {f : ℕ} (job : ℕ) (jobs : List ℕ) (j : ℕ) → Jobs f job jobs → T (ltb job j) → Jobs f j (jobs ++ (j ∷ []))
jobs_more {f} job jobs j h v = record { up = rising_snoc f jobs j h.up (subst (λ (n : ℕ). T (ltb n j)) (sym h.top) v); top = last_snoc f jobs j }

-- ---- an event

-- only a message request that is taken moves the highest job, and then upward to its own
abbrev pub Rises : {R E : Type 0} → (R → ℕ) → ℕ → Outcome R E → Type 0
Rises f job refused = Unit {0}
Rises f job (acts r l nothing) = job ≡ f r
Rises f job (acts r l (puts e)) = job ≡ f r
Rises f job (acts r l (message e b j)) = (j ≡ f r) × T (ltb job j)

abbrev pub Moves : ℕ → Outcome Held Ent → Type 0
Moves job o = Rises (λ (q : Held). q.job) job o

put_jobs : {f g : ℕ} (so : Sort) (s : Sys control) (e : Ent) (keep : ℕ) → Both f g s → Both f g (put control so s e keep)
put_jobs begins s e keep h = record { near = h.near; far = h.far }
put_jobs breaks s e keep h = record { near = h.near; far = h.far }
put_jobs plain s e keep h = record { near = h.near; far = h.far }

left_jobs : {f g : ℕ} (s : Sys control) (r : Held) (l : List Body) → Both f g s → s.here.rec.job ≡ r.job → Both f g (left control s r l)
left_jobs {f} s r l h e = record { near = subst (λ (n : ℕ). Jobs f n s.here.jobs) e h.near; far = h.far }

took_jobs : {f g : ℕ} (so : Sort) (s : Sys control) (e : Ent) (keep : ℕ) (b : Body) (j : ℕ) (r : Held) (l : List Body) → Both f g s → j ≡ r.job → T (ltb s.here.rec.job j) → Both f g (left control (took control (put control so s e keep) b j) r l)
took_jobs {f} begins s e keep b j r l h q t = record { near = subst (λ (n : ℕ). Jobs f n (s.here.jobs ++ (j ∷ []))) q (jobs_more s.here.rec.job s.here.jobs j h.near t); far = h.far }
took_jobs {f} breaks s e keep b j r l h q t = record { near = subst (λ (n : ℕ). Jobs f n (s.here.jobs ++ (j ∷ []))) q (jobs_more s.here.rec.job s.here.jobs j h.near t); far = h.far }
took_jobs {f} plain s e keep b j r l h q t = record { near = subst (λ (n : ℕ). Jobs f n (s.here.jobs ++ (j ∷ []))) q (jobs_more s.here.rec.job s.here.jobs j h.near t); far = h.far }

did_jobs : {f g : ℕ} (s : Sys control) (o : Outcome Held Ent) (keep : ℕ) → Both f g s → Moves s.here.rec.job o → Both f g (did control s o keep)
did_jobs {f} {g} s refused keep h v = h
did_jobs {f} {g} s (acts r l nothing) keep h v = left_jobs s r l h v
did_jobs {f} {g} s (acts r l (puts e)) keep h v = go (sort_of e.kind)
  where
    go : (so : Sort) → Both f g (left control (put control so s e keep) r l)
    go begins = left_jobs (put control begins s e keep) r l (put_jobs begins s e keep h) v
    go breaks = left_jobs (put control breaks s e keep) r l (put_jobs breaks s e keep h) v
    go plain = left_jobs (put control plain s e keep) r l (put_jobs plain s e keep h) v
did_jobs {f} {g} s (acts r l (message e b j)) keep h v = took_jobs (sort_of e.kind) s e keep b j r l h v.0 v.1

pub call_moves : (sd : Side) (q : Held) (a : Ask) → Moves q.job (call_of sd q a)
call_moves sd q a = go (takes sd q.ctl a.what) (is_data (sends a.what)) (ltb q.job a.job) refl
  where
    go : (t d v : Bool) → ltb q.job a.job ≡ v
        → Moves q.job (cond (t && cond d v true) (acts (held (goes q.ctl a.what) (cond d a.job q.job)) [] (
        cond d (message (ent (sends a.what) a.body) a.body a.job)
        (puts (ent (sends a.what) a.body)))) refused)
    go true true true e = (refl, T_is _ e)
    go true true false e = tt
    go true false v e = refl
    go false d v e = tt

met_moves : (q : Held) (d : Did) (l : List Body) → Moves q.job (met q d l)
met_moves q (quiet c) l = refl
met_moves q (aborts c) l = refl

pub receive_moves : (sd : Side) (q : Held) (e : Ent) → Moves q.job (receives sd q e)
receive_moves sd q e = met_moves q (meets sd q.ctl e.kind) (handed (hands sd q.ctl e.kind) e.body)

-- ---- a step

either : {f g : ℕ} (b : Bool) (x y : Sys control) → Both f g x → Both f g y → Both f g (cond b x y)
either true x y p q = p
either false x y p q = q

called_jobs : {f g : ℕ} (s : Sys control) (o : Outcome Held Ent) (keep : ℕ) → Both f g s → Moves s.here.rec.job o → Both f g (called control s o keep)
called_jobs s refused keep h v = h
called_jobs s (acts r l p) keep h v = either (not (starts control p) || ready control s)
    (did control s (acts r l p) keep) s (did_jobs s (acts r l p) keep h v) h

over_jobs : {f g : ℕ} (sd : Side) (s : Sys control) (l : List Ent) (keep : ℕ) → Both f g s → Both f g (handed_over control sd s l keep)
over_jobs sd s [] keep h = h
over_jobs sd s (z ∷ l) keep h =
    let o : Both _ _ (off control s l) = record { near = h.near; far = h.far } in
    either (discards control s.here.rec z) (off control s l)
    (did control (off control s l) (receives sd s.here.rec z) keep) o
    (did_jobs (off control s l) (receives sd s.here.rec z) keep o (receive_moves sd s.here.rec z))

told_jobs : {f g : ℕ} (sd : Side) (s : Sys control) → Both f g s → Both f g (told_lost control sd s)
told_jobs sd s h = either (idle control s.here.rec) s
    (did control s (receives sd s.here.rec (ent DPAbort [])) 0) h
    (did_jobs s (receives sd s.here.rec (ent DPAbort [])) 0 h (receive_moves sd s.here.rec (ent DPAbort [])))

away_jobs : {f g : ℕ} (sd : Side) (s : Sys control) (keep : ℕ) → Both f g s → Both f g (turned_away control sd s keep)
away_jobs sd s keep h =
    either (may_turn_away control s) (did control (recalled control s) (receives sd s.here.rec (ent DTurnedAway [])) keep) s
    (did_jobs (recalled control s) (receives sd s.here.rec (ent DTurnedAway [])) keep (record { near = h.near; far = h.far }) (receive_moves sd s.here.rec (ent DTurnedAway []))) h

swapped : {f g : ℕ} (s : Sys control) → Both f g s → Both g f (swap control s)
swapped s h = record { near = h.far; far = h.near }

fail_jobs : {f g : ℕ} (sd : Side) (s : Sys control) → Both f g s → Both f g (failed control sd s)
fail_jobs sd s h =
    let a : Sys control = told_lost control sd (emptied control s) in
    swapped (told_lost control (other sd) (swap control a)) (told_jobs (other sd) (swap control a) (swapped a (told_jobs sd (emptied control s) (record { near = h.near; far = h.far }))))

step_jobs : {f g : ℕ} (sd : Side) (s : Sys control) (c : Step Ask) → Both f g s → Both f g (stepped control sd s c)
step_jobs sd s (user_call a keep) h = called_jobs s (call_of sd s.here.rec a) keep h (call_moves sd s.here.rec a)
step_jobs sd s (hand_over keep) h = over_jobs sd s s.there.line keep h
step_jobs sd s (timer_expires_of keep) h = did_jobs s (call_of sd s.here.rec (ask TimerExpiry [] 0)) keep h
    (call_moves sd s.here.rec (ask TimerExpiry [] 0))
step_jobs sd s (error_reported keep) h = did_jobs s (call_of sd s.here.rec (ask SystemError [] 0)) keep h
    (call_moves sd s.here.rec (ask SystemError [] 0))
step_jobs sd s (turn_away keep) h = away_jobs sd s keep h
step_jobs sd s fail h = fail_jobs sd s h

turn_jobs : {f g : ℕ} (sd : Side) (s : Sys control) (c : Step Ask) → Both f g s → Both f g (turned control sd s c)
turn_jobs Air s c h = step_jobs Air s c h
turn_jobs Ground s c h = swapped (stepped control Ground (swap control s) c) (step_jobs Ground (swap control s) c (swapped s h))

pub run_jobs : {f g : ℕ} (ts : List (Turn Ask)) (s : Sys control) → Both f g s → Both f g (run control s ts)
unfolding run
run_jobs [] s h = h
run_jobs (t ∷ ts) s h = run_jobs ts (turned control t.side s t.step) (turn_jobs t.side s t.step h)

pub idle_jobs : (f g : ℕ) → Both f g (both_idle f g)
idle_jobs f g = record { near = record { up = tt; top = refl }; far = record { up = tt; top = refl } }

-- ---- what rises repeats nothing

above : (n : ℕ) (ys zs : List ℕ) (j : ℕ) → T (rising n (ys ++ (j ∷ zs))) → n < j
above n [] zs j t = ltb→lt n j (and_l (ltb n j) _ t)
above n (y ∷ ys) zs j t =
    let p = ltb→lt n y (and_l (ltb n y) _ t) in
    let q = above y ys zs j (and_r (ltb n y) _ t) in
    omega (arith, p, q)

pub no_repeat : (n : ℕ) (xs ys zs : List ℕ) (j : ℕ) → T (rising n (xs ++ (j ∷ (ys ++ (j ∷ zs))))) → ⊥
no_repeat n [] ys zs j t =
    let q = above j ys zs j (and_r (ltb n j) _ t) in
    omega (arith, q)
no_repeat n (x ∷ xs) ys zs j t = no_repeat x xs ys zs j (and_r (ltb n x) _ t)
