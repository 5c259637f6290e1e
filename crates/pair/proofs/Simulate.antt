-- Of two machines that agree, the second can follow every run of the first on the carrier.
-- Assumes nothing.
use mathlib.Core.Path.{◌≡◌, refl, ap, sym, ◌∙◌, subst}
use mathlib.Core.Bool.{Bool, true, false, not, cond, ◌&&◌, ◌||◌}
use mathlib.Core.List.{List, [], ◌∷◌, ◌++◌, append-nil}
use Prim.Native.Nat.{ℕ}
use lib.Dec.{T}
use Rattle.pair.specs.Names.{Side, Air, Ground, StartReq, Control, is, is_idle, other}
use Rattle.pair.specs.Carrier.{Body, Sent, nothing, puts, message, Outcome, refused, acts, Sort, begins, breaks, plain, Machine, Step, user_call, hand_over, timer_expires_of, error_reported, turn_away, fail, Turn, idle, is_start, starts, discards}
use Rattle.pair.proofs.OneDialogue.{Party, Sys, is_nil, swap, put, took, sent, left, did, ready, called, off, handed_over, has_start, without_start, may_turn_away, recalled, turned_away, emptied, told_lost, failed, stepped, turned, run}
use Rattle.pair.proofs.Lines.{LL, ll_snoc, ll_cut, ll_nil}
use Rattle.pair.proofs.Agree.{SentRel, OutRel, Still, Follows, stays, does, Agree, start_rel, starts_rel}

-- ---- systems

pub record PartyRel (m n : Machine) (g : Agree m n) (sd : Side) (x : Party m) (y : Party n) : Type 0 where
  pub rec : g.RR sd x.rec y.rec
  pub line : LL (g.EE sd) x.line y.line
  pub taken : x.taken ≡ y.taken
  pub handed : x.handed ≡ y.handed
  pub jobs : x.jobs ≡ y.jobs

pub record SysRel (m n : Machine) (g : Agree m n) (sd : Side) (s : Sys m) (t : Sys n) : Type 0 where
  pub here : PartyRel m n g sd s.here t.here
  pub there : PartyRel m n g (other sd) s.there t.there
  pub broken : s.broken ≡ t.broken

-- the second waits, or takes a step, and is again where the first is
pub data Follow (m n : Machine) (g : Agree m n) (sd : Side) (s : Sys m) (t : Sys n) : Type 0 where
  waits : SysRel m n g sd s t → Follow m n g sd s t
  steps : (c : Step n.A) → SysRel m n g sd s (stepped n sd t c) → Follow m n g sd s t

pub record Run (m n : Machine) (g : Agree m n) (s : Sys m) (t : Sys n) : Type 0 where
  pub turns : List (Turn n.A)
  pub rel : SysRel m n g Air s (run n t turns)

module _ (m n : Machine) (g : Agree m n) where
  abbrev Rel : Side → Sys m → Sys n → Type 0
  Rel sd s t = SysRel m n g sd s t

  either : (sd : Side) (b c : Bool) (x y : Sys m) (z w : Sys n) → b ≡ c → Rel sd x z → Rel sd y w → Rel sd (cond b x y) (cond c z w)
  either sd true true x y z w e p q = p
  either sd false false x y z w e p q = q
  either sd true false x y z w e p q = absurd (subst T e tt)
  either sd false true x y z w e p q = absurd (subst T (sym e) tt)

  -- ---- an event

  put_rel : (sd : Side) (so : Sort) (s : Sys m) (t : Sys n) (e : m.E) (f : n.E) (keep : ℕ) → Rel sd s t → g.EE sd e f
      → Rel sd (put m so s e keep) (put n so t f keep)
  put_rel sd begins s t e f keep h y =
      record {
        here = record { rec = h.here.rec; line = ll_snoc (g.EE sd) s.here.line t.here.line e f h.here.line y; taken = refl; handed = refl; jobs = h.here.jobs };
        there = record { rec = h.there.rec; line = h.there.line; taken = refl; handed = refl; jobs = h.there.jobs };
        broken = refl;
      }
  put_rel sd breaks s t e f keep h y =
      record {
        here = record { rec = h.here.rec; line = ll_cut m n (g.EE sd) keep s.here.line t.here.line e f h.here.line y; taken = h.here.taken; handed = h.here.handed; jobs = h.here.jobs };
        there = h.there;
        broken = refl;
      }
  put_rel sd plain s t e f keep h y =
      record {
        here = record { rec = h.here.rec; line = ll_snoc (g.EE sd) s.here.line t.here.line e f h.here.line y; taken = h.here.taken; handed = h.here.handed; jobs = h.here.jobs };
        there = h.there;
        broken = h.broken;
      }

  puts_rel : (sd : Side) (s : Sys m) (t : Sys n) (e : m.E) (f : n.E) (keep : ℕ) → Rel sd s t → g.EE sd e f
      → Rel sd (put m (m.sort e) s e keep) (put n (n.sort f) t f keep)
  puts_rel sd s t e f keep h y = subst (λ (so : Sort). Rel sd (put m (m.sort e) s e keep) (put n so t f keep))
      (g.sort_is sd e f y) (put_rel sd (m.sort e) s t e f keep h y)

  took_rel : (sd : Side) (s : Sys m) (t : Sys n) (b c : Body) (i j : ℕ) → Rel sd s t → b ≡ c → i ≡ j → Rel sd (took m s b i) (took n t c j)
  took_rel sd s t b c i j h p q =
      record {
        here = record {
          rec = h.here.rec;
          line = h.here.line;
          taken = ap (λ (l : List Body). l ++ (b ∷ [])) h.here.taken ∙ ap (λ (d : Body). t.here.taken ++ (d ∷ [])) p;
          handed = h.here.handed;
          jobs = ap (λ (l : List ℕ). l ++ (i ∷ [])) h.here.jobs ∙ ap (λ (d : ℕ). t.here.jobs ++ (d ∷ [])) q;
        };
        there = h.there;
        broken = h.broken;
      }

  sent_rel : (sd : Side) (s : Sys m) (t : Sys n) (p : Sent m.E) (o : Sent n.E) (keep : ℕ) → Rel sd s t
      → SentRel (g.EE sd) p o → Rel sd (sent m s p keep) (sent n t o keep)
  sent_rel sd s t nothing nothing keep h x = h
  sent_rel sd s t nothing (puts f) keep h x = absurd x
  sent_rel sd s t nothing (message f c j) keep h x = absurd x
  sent_rel sd s t (puts e) nothing keep h x = absurd x
  sent_rel sd s t (puts e) (puts f) keep h x = puts_rel sd s t e f keep h x
  sent_rel sd s t (puts e) (message f c j) keep h x = absurd x
  sent_rel sd s t (message e b i) nothing keep h x = absurd x
  sent_rel sd s t (message e b i) (puts f) keep h x = absurd x
  sent_rel sd s t (message e b i) (message f c j) keep h x = took_rel sd (put m (m.sort e) s e keep)
      (put n (n.sort f) t f keep) b c i j (puts_rel sd s t e f keep h x.0) x.1 x.2

  left_rel : (sd : Side) (s : Sys m) (t : Sys n) (r : m.R) (q : n.R) (l k : List Body) → Rel sd s t → g.RR sd r q
      → l ≡ k → Rel sd (left m s r l) (left n t q k)
  left_rel sd s t r q l k h x e =
      record {
        here = record { rec = x; line = h.here.line; taken = h.here.taken; handed = ap (λ (v : List Body). v ++ l) h.here.handed ∙ ap (λ (v : List Body). t.here.handed ++ v) e; jobs = h.here.jobs };
        there = h.there;
        broken = h.broken;
      }

  did_rel : (sd : Side) (s : Sys m) (t : Sys n) (o : Outcome m.R m.E) (p : Outcome n.R n.E) (keep : ℕ)
      → Rel sd s t → OutRel (g.RR sd) (g.EE sd) o p → Rel sd (did m s o keep) (did n t p keep)
  did_rel sd s t refused refused keep h x = h
  did_rel sd s t refused (acts q k o) keep h x = absurd x
  did_rel sd s t (acts r l p) refused keep h x = absurd x
  did_rel sd s t (acts r l p) (acts q k o) keep h x = left_rel sd (sent m s p keep) (sent n t o keep) r q l k
      (sent_rel sd s t p o keep h x.2) x.0 x.1

  -- ---- a user call

  idle_rel : (sd : Side) (r : m.R) (q : n.R) → g.RR sd r q → idle m r ≡ idle n q
  idle_rel sd r q x = ap is_idle (g.ctl_is sd r q x)

  ready_rel : (sd : Side) (s : Sys m) (t : Sys n) → Rel sd s t → ready m s ≡ ready n t
  ready_rel sd s t h =
      ap (λ (b : Bool). b && (idle m s.there.rec && (is_nil s.here.line && is_nil s.there.line)))
      (idle_rel sd s.here.rec t.here.rec h.here.rec)
      ∙ ap (λ (b : Bool). idle n t.here.rec && (b && (is_nil s.here.line && is_nil s.there.line)))
      (idle_rel (other sd) s.there.rec t.there.rec h.there.rec)
      ∙ ap (λ (b : Bool). idle n t.here.rec && (idle n t.there.rec && (b && is_nil s.there.line)))
      (ll_nil (g.EE sd) s.here.line t.here.line h.here.line)
      ∙ ap (λ (b : Bool). idle n t.here.rec && (idle n t.there.rec && (is_nil t.here.line && b)))
      (ll_nil (g.EE (other sd)) s.there.line t.there.line h.there.line)

  acts_rel : (sd : Side) (s : Sys m) (t : Sys n) (r : m.R) (l : List Body) (p : Sent m.E) (o : Outcome n.R n.E) (keep : ℕ)
      → Rel sd s t → OutRel (g.RR sd) (g.EE sd) (acts r l p) o
      → Rel sd (called m s (acts r l p) keep) (called n t o keep)
  acts_rel sd s t r l p refused keep h x = absurd x
  acts_rel sd s t r l p (acts q k o) keep h x =
      either sd (not (starts m p) || ready m s) (not (starts n o) || ready n t) (did m s (acts r l p) keep) s (did n t (acts q k o) keep) t
      (ap (λ (b : Bool). not b || ready m s) (starts_rel m n g sd p o x.2) ∙ ap
      (λ (b : Bool). not (starts n o) || b) (ready_rel sd s t h))
      (did_rel sd s t (acts r l p) (acts q k o) keep h x) h

  -- an event that needs no partner
  still_rel : (sd : Side) (s : Sys m) (t : Sys n) (o : Outcome m.R m.E) (keep : ℕ) → Rel sd s t
      → Still (g.RR sd) o t.here.rec → Rel sd (did m s o keep) t
  still_rel sd s t refused keep h x = h
  still_rel sd s t (acts r l nothing) keep h x =
      record {
        here = record { rec = x.0; line = h.here.line; taken = h.here.taken; handed = ap (λ (k : List Body). s.here.handed ++ k) x.1 ∙ append-nil s.here.handed ∙ h.here.handed; jobs = h.here.jobs };
        there = h.there;
        broken = h.broken;
      }
  still_rel sd s t (acts r l (puts e)) keep h x = absurd x
  still_rel sd s t (acts r l (message e b i)) keep h x = absurd x

  still_call : (sd : Side) (s : Sys m) (t : Sys n) (o : Outcome m.R m.E) (keep : ℕ) → Rel sd s t
      → Still (g.RR sd) o t.here.rec → Rel sd (called m s o keep) t
  still_call sd s t refused keep h x = h
  still_call sd s t (acts r l nothing) keep h x = still_rel sd s t (acts r l nothing) keep h x
  still_call sd s t (acts r l (puts e)) keep h x = absurd x
  still_call sd s t (acts r l (message e b i)) keep h x = absurd x

  does_call : (sd : Side) (s : Sys m) (t : Sys n) (o : Outcome m.R m.E) (p : Outcome n.R n.E) (keep : ℕ)
      → Rel sd s t → OutRel (g.RR sd) (g.EE sd) o p → Rel sd (called m s o keep) (called n t p keep)
  does_call sd s t refused refused keep h x = h
  does_call sd s t refused (acts q k o) keep h x = absurd x
  does_call sd s t (acts r l p) o keep h x = acts_rel sd s t r l p o keep h x

  called_rel : (sd : Side) (s : Sys m) (t : Sys n) (o : Outcome m.R m.E) (keep : ℕ) → Rel sd s t
      → Follows (g.RR sd) (g.EE sd) o t.here.rec (n.call sd t.here.rec)
      → Follow m n g sd (called m s o keep) t
  called_rel sd s t o keep h (stays x) = waits (still_call sd s t o keep h x)
  called_rel sd s t o keep h (does a x) = steps (user_call a keep) (does_call sd s t o (n.call sd t.here.rec a) keep h x)

  -- c: the step that reports the event
  report_rel : (sd : Side) (s : Sys m) (t : Sys n) (o : Outcome m.R m.E) (p : Outcome n.R n.E) (keep : ℕ) (c : Step n.A) → stepped n sd t c ≡ did n t p keep → Rel sd s t → Follows {X = Unit {0}} (g.RR sd) (g.EE sd) o t.here.rec (λ (x : Unit {0}). p) → Follow m n g sd (did m s o keep) t
  report_rel sd s t o p keep c e h (stays x) = waits (still_rel sd s t o keep h x)
  report_rel sd s t o p keep c e h (does i x) = steps c
      (subst (λ (z : Sys n). Rel sd (did m s o keep) z) (sym e) (did_rel sd s t o p keep h x))

  -- ---- an entry is handed over

  off_rel : (sd : Side) (s : Sys m) (t : Sys n) (l : List m.E) (k : List n.E) → Rel sd s t
      → LL (g.EE (other sd)) l k → Rel sd (off m s l) (off n t k)
  off_rel sd s t l k h x = record { here = h.here; there = record { rec = h.there.rec; line = x; taken = h.there.taken; handed = h.there.handed; jobs = h.there.jobs }; broken = h.broken }

  over_rel : (sd : Side) (s : Sys m) (t : Sys n) (l : List m.E) (k : List n.E) (keep : ℕ) → Rel sd s t
      → LL (g.EE (other sd)) l k → Rel sd (handed_over m sd s l keep) (handed_over n sd t k keep)
  over_rel sd s t [] [] keep h x = h
  over_rel sd s t [] (f ∷ k) keep h x = absurd x
  over_rel sd s t (e ∷ l) [] keep h x = absurd x
  over_rel sd s t (e ∷ l) (f ∷ k) keep h x =
      either sd (discards m s.here.rec e) (discards n t.here.rec f) (off m s l)
      (did m (off m s l) (m.receive sd s.here.rec e) keep) (off n t k)
      (did n (off n t k) (n.receive sd t.here.rec f) keep)
      (ap (λ (b : Bool). b && not (is_start m e)) (idle_rel sd s.here.rec t.here.rec h.here.rec) ∙ ap
      (λ (b : Bool). idle n t.here.rec && not b) (start_rel m n g (other sd) e f x.0))
      (off_rel sd s t l k h x.1)
      (did_rel sd (off m s l) (off n t k) (m.receive sd s.here.rec e) (n.receive sd t.here.rec f) keep
      (off_rel sd s t l k h x.1) (g.receive_is sd s.here.rec t.here.rec e f h.here.rec x.0))

  -- ---- the carrier by itself

  has_rel : (sd : Side) (l : List m.E) (k : List n.E) → LL (g.EE sd) l k → has_start m l ≡ has_start n k
  has_rel sd [] [] x = refl
  has_rel sd [] (f ∷ k) x = absurd x
  has_rel sd (e ∷ l) [] x = absurd x
  has_rel sd (e ∷ l) (f ∷ k) x = ap (λ (b : Bool). b || has_start m l) (start_rel m n g sd e f x.0) ∙ ap
      (λ (b : Bool). is_start n f || b) (has_rel sd l k x.1)

  without_rel : (sd : Side) (l : List m.E) (k : List n.E) → LL (g.EE sd) l k → LL (g.EE sd) (without_start m l) (without_start n k)
  without_rel sd [] [] x = tt
  without_rel sd [] (f ∷ k) x = absurd x
  without_rel sd (e ∷ l) [] x = absurd x
  without_rel sd (e ∷ l) (f ∷ k) x =
      subst
      (λ (b : Bool). LL (g.EE sd) (cond (is_start m e) l (e ∷ without_start m l)) (cond b k (f ∷ without_start n k)))
      (start_rel m n g sd e f x.0)
      (go (is_start m e) (without_rel sd l k x.1))
    where
      go : (b : Bool) → LL (g.EE sd) (without_start m l) (without_start n k)
          → LL (g.EE sd) (cond b l (e ∷ without_start m l)) (cond b k (f ∷ without_start n k))
      go true y = x.1
      go false y = (x.0, y)

  recalled_rel : (sd : Side) (s : Sys m) (t : Sys n) → Rel sd s t → Rel sd (recalled m s) (recalled n t)
  recalled_rel sd s t h = record { here = record { rec = h.here.rec; line = without_rel sd s.here.line t.here.line h.here.line; taken = h.here.taken; handed = h.here.handed; jobs = h.here.jobs }; there = h.there; broken = h.broken }

  away_rel : (sd : Side) (s : Sys m) (t : Sys n) (keep : ℕ) → Rel sd s t → Rel sd (turned_away m sd s keep) (turned_away n sd t keep)
  away_rel sd s t keep h =
      either sd (may_turn_away m s) (may_turn_away n t) (did m (recalled m s) (m.away sd s.here.rec) keep) s
      (did n (recalled n t) (n.away sd t.here.rec) keep) t
      (ap (λ (c : Control). is c.state StartReq && has_start m s.here.line)
      (g.ctl_is sd s.here.rec t.here.rec h.here.rec) ∙ ap
      (λ (b : Bool). is (n.ctl t.here.rec).state StartReq && b)
      (has_rel sd s.here.line t.here.line h.here.line))
      (did_rel sd (recalled m s) (recalled n t) (m.away sd s.here.rec) (n.away sd t.here.rec) keep
      (recalled_rel sd s t h) (g.away_is sd s.here.rec t.here.rec h.here.rec))
      h

  told_rel : (sd : Side) (s : Sys m) (t : Sys n) → Rel sd s t → Rel sd (told_lost m sd s) (told_lost n sd t)
  told_rel sd s t h =
      either sd (idle m s.here.rec) (idle n t.here.rec) s (did m s (m.p_abort sd s.here.rec) 0) t
      (did n t (n.p_abort sd t.here.rec) 0)
      (idle_rel sd s.here.rec t.here.rec h.here.rec) h (did_rel sd s t (m.p_abort sd s.here.rec)
      (n.p_abort sd t.here.rec) 0 h (g.p_abort_is_law sd s.here.rec t.here.rec h.here.rec))

  swap_rel : (sd : Side) (s : Sys m) (t : Sys n) → Rel sd s t → Rel (other sd) (swap m s) (swap n t)
  swap_rel Air s t h = record { here = h.there; there = h.here; broken = h.broken }
  swap_rel Ground s t h = record { here = h.there; there = h.here; broken = h.broken }

  back_rel : (sd : Side) (s : Sys m) (t : Sys n) → Rel (other sd) s t → Rel sd (swap m s) (swap n t)
  back_rel Air s t h = swap_rel Ground s t h
  back_rel Ground s t h = swap_rel Air s t h

  emptied_rel : (sd : Side) (s : Sys m) (t : Sys n) → Rel sd s t → Rel sd (emptied m s) (emptied n t)
  emptied_rel sd s t h =
      record {
        here = record { rec = h.here.rec; line = tt; taken = h.here.taken; handed = h.here.handed; jobs = h.here.jobs };
        there = record { rec = h.there.rec; line = tt; taken = h.there.taken; handed = h.there.handed; jobs = h.there.jobs };
        broken = refl;
      }

  fail_rel : (sd : Side) (s : Sys m) (t : Sys n) → Rel sd s t → Rel sd (failed m sd s) (failed n sd t)
  fail_rel sd s t h =
      let x : Sys m = told_lost m sd (emptied m s) in
      let y : Sys n = told_lost n sd (emptied n t) in
      back_rel sd (told_lost m (other sd) (swap m x)) (told_lost n (other sd) (swap n y)) (told_rel (other sd) (swap m x)
      (swap n y) (swap_rel sd x y (told_rel sd (emptied m s) (emptied n t) (emptied_rel sd s t h))))

  -- ---- runs

  step_rel : (sd : Side) (s : Sys m) (t : Sys n) (c : Step m.A) → Rel sd s t → Follow m n g sd (stepped m sd s c) t
  step_rel sd s t (user_call a keep) h = called_rel sd s t (m.call sd s.here.rec a) keep h
      (g.call_is sd s.here.rec t.here.rec a h.here.rec)
  step_rel sd s t (hand_over keep) h = steps (hand_over keep) (over_rel sd s t s.there.line t.there.line keep h h.there.line)
  step_rel sd s t (timer_expires_of keep) h = report_rel sd s t (m.expiry sd s.here.rec) (n.expiry sd t.here.rec)
      keep (timer_expires_of keep) refl h (g.expiry_is sd s.here.rec t.here.rec h.here.rec)
  step_rel sd s t (error_reported keep) h = report_rel sd s t (m.error sd s.here.rec) (n.error sd t.here.rec)
      keep (error_reported keep) refl h (g.error_is sd s.here.rec t.here.rec h.here.rec)
  step_rel sd s t (turn_away keep) h = steps (turn_away keep) (away_rel sd s t keep h)
  step_rel sd s t fail h = steps fail (fail_rel sd s t h)

  -- what follows a turn at one side follows it seen from the air end
  more : (sd : Side) (s : Sys m) (t : Sys n) (z : Sys m) (c : Step m.A) → Rel Air s t
      → ((u : Sys n) → Rel Air (turned m sd s c) u → Run m n g z u) → Run m n g z t
  unfolding run
  more Air s t z c h k = go (step_rel Air s t c h)
    where
      go : Follow m n g Air (stepped m Air s c) t → Run m n g z t
      go (waits x) = k t x
      go (steps d x) =
          let r = k (stepped n Air t d) x in
          record { turns = record { side = Air; step = d } ∷ r.turns; rel = r.rel }
  more Ground s t z c h k = go (step_rel Ground (swap m s) (swap n t) c (swap_rel Air s t h))
    where
      go : Follow m n g Ground (stepped m Ground (swap m s) c) (swap n t) → Run m n g z t
      go (waits x) = k t (swap_rel Ground (stepped m Ground (swap m s) c) (swap n t) x)
      go (steps d x) =
          let r = k (swap n (stepped n Ground (swap n t) d))
          (swap_rel Ground (stepped m Ground (swap m s) c) (stepped n Ground (swap n t) d) x) in
          record { turns = record { side = Ground; step = d } ∷ r.turns; rel = r.rel }

  pub run_rel : (ts : List (Turn m.A)) (s : Sys m) (t : Sys n) → Rel Air s t → Run m n g (run m s ts) t
  unfolding run
  run_rel [] s t h = record { turns = []; rel = h }
  run_rel (x ∷ ts) s t h = more x.side s t (run m (turned m x.side s x.step) ts) x.step h
      (λ (u : Sys n) (r : Rel Air (turned m x.side s x.step) u). run_rel ts (turned m x.side s x.step) u r)
