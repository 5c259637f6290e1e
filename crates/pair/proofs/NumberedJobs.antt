-- On the numbered carrier too each end takes its jobs in rising order, over all its dialogues.
-- Assumes nothing.
use mathlib.Core.Path.{◌≡◌, refl, subst}
use mathlib.Core.Bool.{Bool, true, false, not, cond, ◌&&◌, ◌||◌}
use mathlib.Core.List.{List, [], ◌∷◌, ◌++◌}
use Prim.Native.Nat.{ℕ}
use lib.Dec.{T, eqb, ltb}
use Rattle.pair.specs.Names.{Side, Air, Ground, TimerExpiry, SystemError, DTurnedAway, DPAbort, other}
use Rattle.pair.specs.Carrier.{Body, nothing, puts, message, Outcome, refused, acts, Sort, begins, breaks, plain, Machine, Step, user_call, hand_over, timer_expires_of, error_reported, turn_away, fail, Turn, idle, is_start, starts, discards}
use Rattle.pair.proofs.ControlMachine.{Held, ent, ask, control}
use Rattle.pair.specs.Numbered.{NSys, Numbered, mark, starter, n_swap, n_fresh, n_put, n_took, n_left, n_did, n_ready, n_called, n_off, n_handed_over, n_may_turn_away, n_recalled, n_turned_away, n_emptied, n_told_lost, n_failed, n_stepped, n_turned, n_run}
use Rattle.pair.proofs.NumberedMachine.{tag, numbered, leaves, numbers, meets_no}
use Rattle.pair.proofs.Jobs.{Jobs, jobs_more, Rises, call_moves, receive_moves}

-- a machine whose records know the highest job that they took
pub record Tallies (m : Machine) : Type 0 where
  pub job : m.R → ℕ
  pub call : (sd : Side) (r : m.R) (a : m.A) → Rises job (job r) (m.call sd r a)
  pub receive : (sd : Side) (r : m.R) (e : m.E) → Rises job (job r) (m.receive sd r e)
  pub expiry : (sd : Side) (r : m.R) → Rises job (job r) (m.expiry sd r)
  pub error : (sd : Side) (r : m.R) → Rises job (job r) (m.error sd r)
  pub away : (sd : Side) (r : m.R) → Rises job (job r) (m.away sd r)
  pub p_abort_is : (sd : Side) (r : m.R) → Rises job (job r) (m.p_abort sd r)

abbrev pub control_tallies : Tallies control
control_tallies = record {
  job = λ (q : Held). q.job;
  call = call_moves;
  receive = receive_moves;
  expiry = λ (sd : Side) (q : Held). call_moves sd q (ask TimerExpiry [] 0);
  error = λ (sd : Side) (q : Held). call_moves sd q (ask SystemError [] 0);
  away = λ (sd : Side) (q : Held). receive_moves sd q (ent DTurnedAway []);
  p_abort_is = λ (sd : Side) (q : Held). receive_moves sd q (ent DPAbort []);
}

-- f, g: the highest jobs of both ends at the beginning
pub record NBoth (m : Machine) (K : Tallies m) (f g : ℕ) (s : NSys (numbered m)) : Type 0 where
  pub near : Jobs f (K.job s.here.rec.it) s.here.jobs
  pub far : Jobs g (K.job s.there.rec.it) s.there.jobs

module _ (m : Machine) (K : Tallies m) where
  put_jobs : {f g : ℕ} (so : Sort) (s : NSys (numbered m)) (e : Numbered m.E) (keep : ℕ) → NBoth m K f g s → NBoth m K f g (n_put (numbered m) so s e keep)
  put_jobs begins s e keep h = record { near = h.near; far = h.far }
  put_jobs breaks s e keep h = record { near = h.near; far = h.far }
  put_jobs plain s e keep h = record { near = h.near; far = h.far }

  left_jobs : {f g : ℕ} (s : NSys (numbered m)) (r : Numbered m.R) (l : List Body) → NBoth m K f g s → K.job s.here.rec.it ≡ K.job r.it → NBoth m K f g (n_left (numbered m) s r l)
  left_jobs {f} s r l h e = record { near = subst (λ (n : ℕ). Jobs f n s.here.jobs) e h.near; far = h.far }

  took_jobs : {f g : ℕ} (s : NSys (numbered m)) (v : ℕ) (b : Body) (i : ℕ) (r : Numbered m.R) (l : List Body) → NBoth m K f g s → i ≡ K.job r.it → T (ltb (K.job s.here.rec.it) i) → NBoth m K f g (n_left (numbered m) (n_took (numbered m) s v b i) r l)
  took_jobs {f} s v b i r l h q t = record { near = subst (λ (n : ℕ). Jobs f n (s.here.jobs ++ (i ∷ []))) q (jobs_more (K.job s.here.rec.it) s.here.jobs i h.near t); far = h.far }

  did_jobs : {f g : ℕ} (s : NSys (numbered m)) (v : ℕ) (o : Outcome m.R m.E) (keep : ℕ) → NBoth m K f g s → Rises K.job (K.job s.here.rec.it) o → NBoth m K f g (n_did (numbered m) s (leaves v o) keep)
  did_jobs {f} {g} s v refused keep h x = h
  did_jobs {f} {g} s v (acts r l nothing) keep h x = left_jobs s (mark v r) l h x
  did_jobs {f} {g} s v (acts r l (puts e)) keep h x = go (m.sort e)
    where
      go : (so : Sort) → NBoth m K f g (n_left (numbered m) (n_put (numbered m) so s (mark v e) keep) (mark v r) l)
      go begins = left_jobs (n_put (numbered m) begins s (mark v e) keep) (mark v r) l (put_jobs begins s (mark v e) keep h) x
      go breaks = left_jobs (n_put (numbered m) breaks s (mark v e) keep) (mark v r) l (put_jobs breaks s (mark v e) keep h) x
      go plain = left_jobs (n_put (numbered m) plain s (mark v e) keep) (mark v r) l (put_jobs plain s (mark v e) keep h) x
  did_jobs {f} {g} s v (acts r l (message e b i)) keep h x = go (m.sort e)
    where
      go : (so : Sort) → NBoth m K f g (n_left (numbered m) (n_took (numbered m) (n_put (numbered m) so s (mark v e) keep) v b i) (mark v r) l)
      go begins = took_jobs (n_put (numbered m) begins s (mark v e) keep) v b i (mark v r) l
          (put_jobs begins s (mark v e) keep h) x.0 x.1
      go breaks = took_jobs (n_put (numbered m) breaks s (mark v e) keep) v b i (mark v r) l
          (put_jobs breaks s (mark v e) keep h) x.0 x.1
      go plain = took_jobs (n_put (numbered m) plain s (mark v e) keep) v b i (mark v r) l (put_jobs plain s (mark v e) keep h) x.0 x.1

  either : {f g : ℕ} (b : Bool) (x y : NSys (numbered m)) → NBoth m K f g x → NBoth m K f g y → NBoth m K f g (cond b x y)
  either true x y p q = p
  either false x y p q = q

  called_jobs : {f g : ℕ} (may : Bool) (s : NSys (numbered m)) (v : ℕ) (o : Outcome m.R m.E) (keep : ℕ) → NBoth m K f g s → Rises K.job (K.job s.here.rec.it) o → NBoth m K f g (n_called (numbered m) may s (numbers m s.here.rec.no v o) keep)
  called_jobs may s v refused keep h x = h
  called_jobs {f} {g} may s v (acts r l p) keep h x = go (starts m p) (ltb s.here.rec.no v)
    where
      go : (b c : Bool)
          → NBoth m K f g (n_called (numbered m) may s (cond b (cond c (leaves v (acts r l p)) refused) (leaves s.here.rec.no (acts r l p))) keep)
      go true true = either (not (starts (numbered m).at (tag v p)) || (may && n_ready (numbered m) s))
          (n_did (numbered m) s (leaves v (acts r l p)) keep) s (did_jobs s v (acts r l p) keep h x) h
      go true false = h
      go false c = either (not (starts (numbered m).at (tag s.here.rec.no p)) || (may && n_ready (numbered m) s))
          (n_did (numbered m) s (leaves s.here.rec.no (acts r l p)) keep) s
          (did_jobs s s.here.rec.no (acts r l p) keep h x) h

  over_jobs : {f g : ℕ} (sd : Side) (s : NSys (numbered m)) (l : List (Numbered m.E)) (keep : ℕ) → NBoth m K f g s → NBoth m K f g (n_handed_over (numbered m) sd s l keep)
  over_jobs sd s [] keep h = h
  over_jobs {f} {g} sd s (e ∷ l) keep h =
      either (discards (numbered m).at s.here.rec e) (n_off (numbered m) s l)
      (n_did (numbered m) (n_off (numbered m) s l) (meets_no m sd s.here.rec e) keep) o
      (go (is_start m e.it) (ltb s.here.rec.no e.no) (eqb e.no s.here.rec.no))
    where
      o : NBoth m K f g (n_off (numbered m) s l)
      o = record { near = h.near; far = h.far }

      go : (a b c : Bool)
          → NBoth m K f g (n_did (numbered m) (n_off (numbered m) s l) (cond a (cond b (leaves e.no (m.receive sd s.here.rec.it e.it)) refused) (cond c (leaves s.here.rec.no (m.receive sd s.here.rec.it e.it)) refused)) keep)
      go true true c = did_jobs (n_off (numbered m) s l) e.no (m.receive sd s.here.rec.it e.it) keep o
          (K.receive sd s.here.rec.it e.it)
      go true false c = o
      go false b true = did_jobs (n_off (numbered m) s l) s.here.rec.no (m.receive sd s.here.rec.it e.it)
          keep o (K.receive sd s.here.rec.it e.it)
      go false b false = o

  told_jobs : {f g : ℕ} (sd : Side) (s : NSys (numbered m)) → NBoth m K f g s → NBoth m K f g (n_told_lost (numbered m) sd s)
  told_jobs sd s h = either (idle m s.here.rec.it) s
      (n_did (numbered m) s (leaves s.here.rec.no (m.p_abort sd s.here.rec.it)) 0) h
      (did_jobs s s.here.rec.no (m.p_abort sd s.here.rec.it) 0 h (K.p_abort_is sd s.here.rec.it))

  away_jobs : {f g : ℕ} (sd : Side) (s : NSys (numbered m)) (keep : ℕ) → NBoth m K f g s → NBoth m K f g (n_turned_away (numbered m) sd s keep)
  away_jobs sd s keep h =
      either (n_may_turn_away (numbered m) s) (n_did (numbered m) (n_recalled (numbered m) s)
      (leaves s.here.rec.no (m.away sd s.here.rec.it)) keep) s
      (did_jobs (n_recalled (numbered m) s) s.here.rec.no (m.away sd s.here.rec.it) keep (record { near = h.near; far = h.far }) (K.away sd s.here.rec.it)) h

  swapped : {f g : ℕ} (s : NSys (numbered m)) → NBoth m K f g s → NBoth m K g f (n_swap (numbered m) s)
  swapped s h = record { near = h.far; far = h.near }

  fail_jobs : {f g : ℕ} (sd : Side) (s : NSys (numbered m)) → NBoth m K f g s → NBoth m K f g (n_failed (numbered m) sd s)
  fail_jobs sd s h =
      let a : NSys (numbered m) = n_told_lost (numbered m) sd (n_emptied (numbered m) s) in
      swapped (n_told_lost (numbered m) (other sd) (n_swap (numbered m) a)) (told_jobs (other sd) (n_swap (numbered m) a) (swapped a (told_jobs sd (n_emptied (numbered m) s) (record { near = h.near; far = h.far }))))

  step_jobs : {f g : ℕ} (may : Bool) (sd : Side) (s : NSys (numbered m)) (c : Step (Numbered m.A)) → NBoth m K f g s → NBoth m K f g (n_stepped (numbered m) may sd s c)
  step_jobs may sd s (user_call a keep) h = called_jobs may s a.no (m.call sd s.here.rec.it a.it) keep h
      (K.call sd s.here.rec.it a.it)
  step_jobs may sd s (hand_over keep) h = over_jobs sd s s.there.line keep h
  step_jobs may sd s (timer_expires_of keep) h = did_jobs s s.here.rec.no (m.expiry sd s.here.rec.it) keep h
      (K.expiry sd s.here.rec.it)
  step_jobs may sd s (error_reported keep) h = did_jobs s s.here.rec.no (m.error sd s.here.rec.it) keep h
      (K.error sd s.here.rec.it)
  step_jobs may sd s (turn_away keep) h = away_jobs sd s keep h
  step_jobs may sd s fail h = fail_jobs sd s h

  turn_jobs : {f g : ℕ} (from sd : Side) (s : NSys (numbered m)) (c : Step (Numbered m.A)) → NBoth m K f g s → NBoth m K f g (n_turned (numbered m) from sd s c)
  turn_jobs from Air s c h = step_jobs (starter from Air) Air s c h
  turn_jobs from Ground s c h = swapped (n_stepped (numbered m) (starter from Ground) Ground (n_swap (numbered m) s) c)
      (step_jobs (starter from Ground) Ground (n_swap (numbered m) s) c (swapped s h))

  pub n_run_jobs : {f g : ℕ} (from : Side) (ts : List (Turn (Numbered m.A))) (s : NSys (numbered m)) → NBoth m K f g s → NBoth m K f g (n_run (numbered m) from s ts)
  unfolding n_run
  n_run_jobs from [] s h = h
  n_run_jobs from (t ∷ ts) s h = n_run_jobs from ts (n_turned (numbered m) from t.side s t.step)
      (turn_jobs from t.side s t.step h)

  pub n_fresh_jobs : (r q : Numbered m.R) → NBoth m K (K.job r.it) (K.job q.it) (n_fresh (numbered m) r q)
  n_fresh_jobs r q = record { near = record { up = tt; top = refl }; far = record { up = tt; top = refl } }
