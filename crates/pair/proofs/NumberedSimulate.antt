-- Of two machines with dialogue numbers that agree, the second can follow every run of the first on the numbered carrier.
-- Assumes nothing.
use mathlib.Core.Path.{◌≡◌, refl, ap, sym, ◌∙◌, subst}
use mathlib.Core.Bool.{Bool, true, false, not, cond, ◌&&◌, ◌||◌}
use mathlib.Core.List.{List, [], ◌∷◌, ◌++◌, append-nil}
use Prim.Native.Nat.{ℕ, zero, suc}
use lib.Dec.{T, eqb}
use Rattle.pair.specs.Names.{Side, Air, Ground, StartReq, Control, is, is_idle, other}
use Rattle.pair.specs.Carrier.{Body, Sent, nothing, puts, message, Outcome, refused, acts, Sort, begins, breaks, plain, Step, user_call, hand_over, timer_expires_of, error_reported, turn_away, fail, Turn, idle, is_start, starts, discards}
use Rattle.pair.specs.Numbered.{NMachine, NParty, NSys, NClaims, more, starter, n_swap, n_fresh, trim, n_put, n_took, n_sent, n_left, n_did, n_ready, n_called, n_off, n_handed_over, start_of, n_has_start, n_without_start, n_may_turn_away, n_recalled, n_turned_away, on_line, within, alive, n_emptied, n_told_lost, n_failed, n_stepped, n_turned, n_run}
use Rattle.pair.proofs.Lines.{LL, ll_snoc}
use Rattle.pair.proofs.NoAbortAnswers.{head_quiet}
use Rattle.pair.proofs.NumberedClaims.{NQuiet}
use Rattle.pair.proofs.Agree.{SentRel, OutRel, Still, Follows, stays, does, Agree, start_rel, starts_rel}

-- ---- machines and systems

pub record NAgree (m n : NMachine) : Type 1 where
  pub agree : Agree m.at n.at
  pub holds_is : (sd : Side) (r : m.at.R) (q : n.at.R) → agree.RR sd r q → m.holds r ≡ n.holds q
  pub carries_is : (sd : Side) (e : m.at.E) (f : n.at.E) → agree.EE sd e f → m.carries e ≡ n.carries f

pub record NPartyRel (m n : NMachine) (g : NAgree m n) (sd : Side) (x : NParty m) (y : NParty n) : Type 0 where
  pub rec : g.agree.RR sd x.rec y.rec
  pub line : LL (g.agree.EE sd) x.line y.line
  pub taken : (j : ℕ) → x.taken j ≡ y.taken j
  pub handed : (j : ℕ) → x.handed j ≡ y.handed j
  pub jobs : x.jobs ≡ y.jobs

pub record NSysRel (m n : NMachine) (g : NAgree m n) (sd : Side) (s : NSys m) (t : NSys n) : Type 0 where
  pub here : NPartyRel m n g sd s.here t.here
  pub there : NPartyRel m n g (other sd) s.there t.there
  pub broken : (j : ℕ) → s.broken j ≡ t.broken j

-- the second waits, or takes a step, and is again where the first is
pub data NFollow (m n : NMachine) (g : NAgree m n) (may : Bool) (sd : Side) (s : NSys m) (t : NSys n) : Type 0 where
  waits : NSysRel m n g sd s t → NFollow m n g may sd s t
  steps : (c : Step n.at.A) → NSysRel m n g sd s (n_stepped n may sd t c) → NFollow m n g may sd s t

pub record NRunRel (m n : NMachine) (g : NAgree m n) (from : Side) (s : NSys m) (t : NSys n) : Type 0 where
  pub turns : List (Turn n.at.A)
  pub rel : NSysRel m n g Air s (n_run n from t turns)

module _ (m n : NMachine) (g : NAgree m n) where
  abbrev Rel : Side → NSys m → NSys n → Type 0
  Rel sd s t = NSysRel m n g sd s t

  either : (sd : Side) (b c : Bool) (x y : NSys m) (z w : NSys n) → b ≡ c → Rel sd x z → Rel sd y w → Rel sd (cond b x y) (cond c z w)
  either sd true true x y z w e p q = p
  either sd false false x y z w e p q = q
  either sd true false x y z w e p q = absurd (subst T e tt)
  either sd false true x y z w e p q = absurd (subst T (sym e) tt)

  -- ---- an event

  trim_rel : (sd : Side) (v keep : ℕ) (l : List m.at.E) (k : List n.at.E) → LL (g.agree.EE sd) l k
      → LL (g.agree.EE sd) (trim m v keep l) (trim n v keep k)
  trim_rel sd v zero [] [] x = tt
  trim_rel sd v (suc i) [] [] x = tt
  trim_rel sd v zero [] (f ∷ k) x = absurd x
  trim_rel sd v (suc i) [] (f ∷ k) x = absurd x
  trim_rel sd v zero (e ∷ l) [] x = absurd x
  trim_rel sd v (suc i) (e ∷ l) [] x = absurd x
  trim_rel sd v zero (e ∷ l) (f ∷ k) x =
      subst (λ (c : ℕ). LL (g.agree.EE sd) (cond (eqb (m.carries e) v) (trim m v zero l) (e ∷ trim m v zero l))
      (cond (eqb c v) (trim n v zero k) (f ∷ trim n v zero k))) (g.carries_is sd e f x.0)
      (go (eqb (m.carries e) v) (trim_rel sd v zero l k x.1))
    where
      go : (b : Bool) → LL (g.agree.EE sd) (trim m v zero l) (trim n v zero k)
          → LL (g.agree.EE sd) (cond b (trim m v zero l) (e ∷ trim m v zero l)) (cond b (trim n v zero k) (f ∷ trim n v zero k))
      go true h = h
      go false h = (x.0, h)
  trim_rel sd v (suc i) (e ∷ l) (f ∷ k) x =
      subst (λ (c : ℕ). LL (g.agree.EE sd) (cond (eqb (m.carries e) v) (e ∷ trim m v i l) (e ∷ trim m v (suc i) l))
      (cond (eqb c v) (f ∷ trim n v i k) (f ∷ trim n v (suc i) k))) (g.carries_is sd e f x.0)
      (go (eqb (m.carries e) v) (trim_rel sd v i l k x.1) (trim_rel sd v (suc i) l k x.1))
    where
      go : (b : Bool) → LL (g.agree.EE sd) (trim m v i l) (trim n v i k)
          → LL (g.agree.EE sd) (trim m v (suc i) l) (trim n v (suc i) k)
          → LL (g.agree.EE sd) (cond b (e ∷ trim m v i l) (e ∷ trim m v (suc i) l)) (cond b (f ∷ trim n v i k) (f ∷ trim n v (suc i) k))
      go true h w = (x.0, h)
      go false h w = (x.0, w)

  cut_rel : (sd : Side) (keep : ℕ) (l : List m.at.E) (k : List n.at.E) (e : m.at.E) (f : n.at.E)
      → LL (g.agree.EE sd) l k → g.agree.EE sd e f
      → LL (g.agree.EE sd) (trim m (m.carries e) keep l ++ (e ∷ [])) (trim n (n.carries f) keep k ++ (f ∷ []))
  cut_rel sd keep l k e f h y = ll_snoc (g.agree.EE sd) (trim m (m.carries e) keep l) (trim n (n.carries f) keep k)
      e f (subst (λ (v : ℕ). LL (g.agree.EE sd) (trim m (m.carries e) keep l) (trim n v keep k))
      (g.carries_is sd e f y) (trim_rel sd (m.carries e) keep l k h)) y

  put_rel : (sd : Side) (so : Sort) (s : NSys m) (t : NSys n) (e : m.at.E) (f : n.at.E) (keep : ℕ) → Rel sd s t
      → g.agree.EE sd e f → Rel sd (n_put m so s e keep) (n_put n so t f keep)
  put_rel sd begins s t e f keep h y =
      record {
        here = record { rec = h.here.rec; line = ll_snoc (g.agree.EE sd) s.here.line t.here.line e f h.here.line y; taken = h.here.taken; handed = h.here.handed; jobs = h.here.jobs };
        there = h.there;
        broken = h.broken;
      }
  put_rel sd breaks s t e f keep h y =
      record {
        here = record { rec = h.here.rec; line = cut_rel sd keep s.here.line t.here.line e f h.here.line y; taken = h.here.taken; handed = h.here.handed; jobs = h.here.jobs };
        there = h.there;
        broken = λ (j : ℕ). ap (λ (v : ℕ). eqb v j || s.broken j) (g.carries_is sd e f y) ∙ ap
            (λ (b : Bool). eqb (n.carries f) j || b) (h.broken j);
      }
  put_rel sd plain s t e f keep h y =
      record {
        here = record { rec = h.here.rec; line = ll_snoc (g.agree.EE sd) s.here.line t.here.line e f h.here.line y; taken = h.here.taken; handed = h.here.handed; jobs = h.here.jobs };
        there = h.there;
        broken = h.broken;
      }

  puts_rel : (sd : Side) (s : NSys m) (t : NSys n) (e : m.at.E) (f : n.at.E) (keep : ℕ) → Rel sd s t
      → g.agree.EE sd e f → Rel sd (n_put m (m.at.sort e) s e keep) (n_put n (n.at.sort f) t f keep)
  puts_rel sd s t e f keep h y = subst (λ (so : Sort). Rel sd (n_put m (m.at.sort e) s e keep) (n_put n so t f keep))
      (g.agree.sort_is sd e f y) (put_rel sd (m.at.sort e) s t e f keep h y)

  -- histories, dialogue by dialogue
  more_rel : (x y : ℕ → List Body) (v w : ℕ) (l k : List Body) → ((j : ℕ) → x j ≡ y j) → v ≡ w → l ≡ k → (j : ℕ)
      → more x v l j ≡ more y w k j
  more_rel x y v w l k h p q j = ap (λ (z : List Body). cond (eqb v j) (z ++ l) z) (h j) ∙ ap
      (λ (u : ℕ). cond (eqb u j) (y j ++ l) (y j)) p ∙ ap (λ (u : List Body). cond (eqb w j) (y j ++ u) (y j)) q

  took_rel : (sd : Side) (s : NSys m) (t : NSys n) (v w : ℕ) (b c : Body) (i j : ℕ) → Rel sd s t → v ≡ w → b ≡ c → i ≡ j
      → Rel sd (n_took m s v b i) (n_took n t w c j)
  took_rel sd s t v w b c i j h o p q =
      record {
        here = record {
          rec = h.here.rec;
          line = h.here.line;
          taken = more_rel s.here.taken t.here.taken v w (b ∷ []) (c ∷ []) h.here.taken o (ap (λ (d : Body). d ∷ []) p);
          handed = h.here.handed;
          jobs = ap (λ (l : List ℕ). l ++ (i ∷ [])) h.here.jobs ∙ ap (λ (d : ℕ). t.here.jobs ++ (d ∷ [])) q;
        };
        there = h.there;
        broken = h.broken;
      }

  sent_rel : (sd : Side) (s : NSys m) (t : NSys n) (p : Sent m.at.E) (o : Sent n.at.E) (keep : ℕ) → Rel sd s t
      → SentRel (g.agree.EE sd) p o → Rel sd (n_sent m s p keep) (n_sent n t o keep)
  sent_rel sd s t nothing nothing keep h x = h
  sent_rel sd s t nothing (puts f) keep h x = absurd x
  sent_rel sd s t nothing (message f c j) keep h x = absurd x
  sent_rel sd s t (puts e) nothing keep h x = absurd x
  sent_rel sd s t (puts e) (puts f) keep h x = puts_rel sd s t e f keep h x
  sent_rel sd s t (puts e) (message f c j) keep h x = absurd x
  sent_rel sd s t (message e b i) nothing keep h x = absurd x
  sent_rel sd s t (message e b i) (puts f) keep h x = absurd x
  sent_rel sd s t (message e b i) (message f c j) keep h x = took_rel sd (n_put m (m.at.sort e) s e keep)
      (n_put n (n.at.sort f) t f keep) (m.carries e) (n.carries f) b c i j (puts_rel sd s t e f keep h x.0)
      (g.carries_is sd e f x.0) x.1 x.2

  left_rel : (sd : Side) (s : NSys m) (t : NSys n) (r : m.at.R) (q : n.at.R) (l k : List Body) → Rel sd s t
      → g.agree.RR sd r q → l ≡ k → Rel sd (n_left m s r l) (n_left n t q k)
  left_rel sd s t r q l k h x e =
      record {
        here = record { rec = x; line = h.here.line; taken = h.here.taken; handed = more_rel s.here.handed t.here.handed (m.holds r) (n.holds q) l k h.here.handed (g.holds_is sd r q x) e; jobs = h.here.jobs };
        there = h.there;
        broken = h.broken;
      }

  did_rel : (sd : Side) (s : NSys m) (t : NSys n) (o : Outcome m.at.R m.at.E) (p : Outcome n.at.R n.at.E) (keep : ℕ)
      → Rel sd s t → OutRel (g.agree.RR sd) (g.agree.EE sd) o p → Rel sd (n_did m s o keep) (n_did n t p keep)
  did_rel sd s t refused refused keep h x = h
  did_rel sd s t refused (acts q k o) keep h x = absurd x
  did_rel sd s t (acts r l p) refused keep h x = absurd x
  did_rel sd s t (acts r l p) (acts q k o) keep h x = left_rel sd (n_sent m s p keep) (n_sent n t o keep) r q l k
      (sent_rel sd s t p o keep h x.2) x.0 x.1

  -- ---- a user call

  idle_rel : (sd : Side) (r : m.at.R) (q : n.at.R) → g.agree.RR sd r q → idle m.at r ≡ idle n.at q
  idle_rel sd r q x = ap is_idle (g.agree.ctl_is sd r q x)

  ready_rel : (sd : Side) (s : NSys m) (t : NSys n) → Rel sd s t → n_ready m s ≡ n_ready n t
  ready_rel sd s t h = ap (λ (b : Bool). b && idle m.at s.there.rec)
      (idle_rel sd s.here.rec t.here.rec h.here.rec) ∙ ap (λ (b : Bool). idle n.at t.here.rec && b)
      (idle_rel (other sd) s.there.rec t.there.rec h.there.rec)

  acts_rel : (may : Bool) (sd : Side) (s : NSys m) (t : NSys n) (r : m.at.R) (l : List Body) (p : Sent m.at.E) (o : Outcome n.at.R n.at.E) (keep : ℕ)
      → Rel sd s t → OutRel (g.agree.RR sd) (g.agree.EE sd) (acts r l p) o
      → Rel sd (n_called m may s (acts r l p) keep) (n_called n may t o keep)
  acts_rel may sd s t r l p refused keep h x = absurd x
  acts_rel may sd s t r l p (acts q k o) keep h x =
      either sd (not (starts m.at p) || (may && n_ready m s)) (not (starts n.at o) || (may && n_ready n t))
      (n_did m s (acts r l p) keep) s (n_did n t (acts q k o) keep) t
      (ap (λ (b : Bool). not b || (may && n_ready m s)) (starts_rel m.at n.at g.agree sd p o x.2) ∙ ap
      (λ (b : Bool). not (starts n.at o) || (may && b)) (ready_rel sd s t h))
      (did_rel sd s t (acts r l p) (acts q k o) keep h x) h

  nil_same : (b : Bool) (x : List Body) → cond b (x ++ []) x ≡ x
  nil_same true x = append-nil x
  nil_same false x = refl

  -- an event that needs no partner
  still_rel : (sd : Side) (s : NSys m) (t : NSys n) (o : Outcome m.at.R m.at.E) (keep : ℕ) → Rel sd s t
      → Still (g.agree.RR sd) o t.here.rec → Rel sd (n_did m s o keep) t
  still_rel sd s t refused keep h x = h
  still_rel sd s t (acts r l nothing) keep h x =
      record {
        here = record { rec = x.0; line = h.here.line; taken = h.here.taken; handed = λ (j : ℕ). ap (λ (k : List Body). cond (eqb (m.holds r) j) (s.here.handed j ++ k) (s.here.handed j)) x.1 ∙ nil_same (eqb (m.holds r) j) (s.here.handed j) ∙ h.here.handed j; jobs = h.here.jobs };
        there = h.there;
        broken = h.broken;
      }
  still_rel sd s t (acts r l (puts e)) keep h x = absurd x
  still_rel sd s t (acts r l (message e b i)) keep h x = absurd x

  still_call : (may : Bool) (sd : Side) (s : NSys m) (t : NSys n) (o : Outcome m.at.R m.at.E) (keep : ℕ)
      → Rel sd s t → Still (g.agree.RR sd) o t.here.rec → Rel sd (n_called m may s o keep) t
  still_call may sd s t refused keep h x = h
  still_call may sd s t (acts r l nothing) keep h x = still_rel sd s t (acts r l nothing) keep h x
  still_call may sd s t (acts r l (puts e)) keep h x = absurd x
  still_call may sd s t (acts r l (message e b i)) keep h x = absurd x

  does_call : (may : Bool) (sd : Side) (s : NSys m) (t : NSys n) (o : Outcome m.at.R m.at.E) (p : Outcome n.at.R n.at.E) (keep : ℕ)
      → Rel sd s t → OutRel (g.agree.RR sd) (g.agree.EE sd) o p
      → Rel sd (n_called m may s o keep) (n_called n may t p keep)
  does_call may sd s t refused refused keep h x = h
  does_call may sd s t refused (acts q k o) keep h x = absurd x
  does_call may sd s t (acts r l p) o keep h x = acts_rel may sd s t r l p o keep h x

  called_rel : (may : Bool) (sd : Side) (s : NSys m) (t : NSys n) (o : Outcome m.at.R m.at.E) (keep : ℕ)
      → Rel sd s t → Follows (g.agree.RR sd) (g.agree.EE sd) o t.here.rec (n.at.call sd t.here.rec)
      → NFollow m n g may sd (n_called m may s o keep) t
  called_rel may sd s t o keep h (stays x) = waits (still_call may sd s t o keep h x)
  called_rel may sd s t o keep h (does a x) = steps (user_call a keep) (does_call may sd s t o (n.at.call sd t.here.rec a) keep h x)

  -- c: the step that reports the event
  report_rel : (may : Bool) (sd : Side) (s : NSys m) (t : NSys n) (o : Outcome m.at.R m.at.E) (p : Outcome n.at.R n.at.E) (keep : ℕ) (c : Step n.at.A) → n_stepped n may sd t c ≡ n_did n t p keep → Rel sd s t → Follows {X = Unit {0}} (g.agree.RR sd) (g.agree.EE sd) o t.here.rec (λ (x : Unit {0}). p) → NFollow m n g may sd (n_did m s o keep) t
  report_rel may sd s t o p keep c e h (stays x) = waits (still_rel sd s t o keep h x)
  report_rel may sd s t o p keep c e h (does i x) = steps c
      (subst (λ (z : NSys n). Rel sd (n_did m s o keep) z) (sym e) (did_rel sd s t o p keep h x))

  -- ---- an entry is handed over

  off_rel : (sd : Side) (s : NSys m) (t : NSys n) (l : List m.at.E) (k : List n.at.E) → Rel sd s t
      → LL (g.agree.EE (other sd)) l k → Rel sd (n_off m s l) (n_off n t k)
  off_rel sd s t l k h x = record { here = h.here; there = record { rec = h.there.rec; line = x; taken = h.there.taken; handed = h.there.handed; jobs = h.there.jobs }; broken = h.broken }

  over_rel : (sd : Side) (s : NSys m) (t : NSys n) (l : List m.at.E) (k : List n.at.E) (keep : ℕ) → Rel sd s t
      → LL (g.agree.EE (other sd)) l k → Rel sd (n_handed_over m sd s l keep) (n_handed_over n sd t k keep)
  over_rel sd s t [] [] keep h x = h
  over_rel sd s t [] (f ∷ k) keep h x = absurd x
  over_rel sd s t (e ∷ l) [] keep h x = absurd x
  over_rel sd s t (e ∷ l) (f ∷ k) keep h x =
      either sd (discards m.at s.here.rec e) (discards n.at t.here.rec f) (n_off m s l)
      (n_did m (n_off m s l) (m.at.receive sd s.here.rec e) keep) (n_off n t k)
      (n_did n (n_off n t k) (n.at.receive sd t.here.rec f) keep)
      (ap (λ (b : Bool). b && not (is_start m.at e)) (idle_rel sd s.here.rec t.here.rec h.here.rec) ∙ ap
      (λ (b : Bool). idle n.at t.here.rec && not b)
      (start_rel m.at n.at g.agree (other sd) e f x.0))
      (off_rel sd s t l k h x.1)
      (did_rel sd (n_off m s l) (n_off n t k) (m.at.receive sd s.here.rec e) (n.at.receive sd t.here.rec f)
      keep (off_rel sd s t l k h x.1)
      (g.agree.receive_is sd s.here.rec t.here.rec e f h.here.rec x.0))

  -- ---- the carrier by itself

  start_of_rel : (sd : Side) (v : ℕ) (e : m.at.E) (f : n.at.E) → g.agree.EE sd e f → start_of m v e ≡ start_of n v f
  start_of_rel sd v e f x = ap (λ (b : Bool). b && eqb (m.carries e) v)
      (start_rel m.at n.at g.agree sd e f x) ∙ ap (λ (u : ℕ). is_start n.at f && eqb u v)
      (g.carries_is sd e f x)

  has_rel : (sd : Side) (v : ℕ) (l : List m.at.E) (k : List n.at.E) → LL (g.agree.EE sd) l k → n_has_start m v l ≡ n_has_start n v k
  has_rel sd v [] [] x = refl
  has_rel sd v [] (f ∷ k) x = absurd x
  has_rel sd v (e ∷ l) [] x = absurd x
  has_rel sd v (e ∷ l) (f ∷ k) x = ap (λ (b : Bool). b || n_has_start m v l) (start_of_rel sd v e f x.0) ∙ ap
      (λ (b : Bool). start_of n v f || b) (has_rel sd v l k x.1)

  without_rel : (sd : Side) (v : ℕ) (l : List m.at.E) (k : List n.at.E) → LL (g.agree.EE sd) l k
      → LL (g.agree.EE sd) (n_without_start m v l) (n_without_start n v k)
  without_rel sd v [] [] x = tt
  without_rel sd v [] (f ∷ k) x = absurd x
  without_rel sd v (e ∷ l) [] x = absurd x
  without_rel sd v (e ∷ l) (f ∷ k) x =
      subst (λ (b : Bool). LL (g.agree.EE sd) (cond (start_of m v e) l (e ∷ n_without_start m v l))
      (cond b k (f ∷ n_without_start n v k))) (start_of_rel sd v e f x.0)
      (go (start_of m v e) (without_rel sd v l k x.1))
    where
      go : (b : Bool) → LL (g.agree.EE sd) (n_without_start m v l) (n_without_start n v k)
          → LL (g.agree.EE sd) (cond b l (e ∷ n_without_start m v l)) (cond b k (f ∷ n_without_start n v k))
      go true y = x.1
      go false y = (x.0, y)

  recalled_rel : (sd : Side) (s : NSys m) (t : NSys n) → Rel sd s t → Rel sd (n_recalled m s) (n_recalled n t)
  recalled_rel sd s t h =
      record {
        here = record {
          rec = h.here.rec;
          line = subst (λ (v : ℕ). LL (g.agree.EE sd) (n_without_start m (m.holds s.here.rec) s.here.line)
              (n_without_start n v t.here.line)) (g.holds_is sd s.here.rec t.here.rec h.here.rec)
              (without_rel sd (m.holds s.here.rec) s.here.line t.here.line h.here.line);
          taken = h.here.taken;
          handed = h.here.handed;
          jobs = h.here.jobs;
        };
        there = h.there;
        broken = h.broken;
      }

  away_rel : (sd : Side) (s : NSys m) (t : NSys n) (keep : ℕ) → Rel sd s t → Rel sd (n_turned_away m sd s keep) (n_turned_away n sd t keep)
  away_rel sd s t keep h =
      either sd (n_may_turn_away m s) (n_may_turn_away n t) (n_did m (n_recalled m s) (m.at.away sd s.here.rec) keep) s
      (n_did n (n_recalled n t) (n.at.away sd t.here.rec) keep) t
      (ap (λ (c : Control). is c.state StartReq && n_has_start m (m.holds s.here.rec) s.here.line) (g.agree.ctl_is sd s.here.rec t.here.rec h.here.rec)
      ∙ ap (λ (b : Bool). is (n.at.ctl t.here.rec).state StartReq && b)
      (has_rel sd (m.holds s.here.rec) s.here.line t.here.line h.here.line)
      ∙ ap (λ (v : ℕ). is (n.at.ctl t.here.rec).state StartReq && n_has_start n v t.here.line)
      (g.holds_is sd s.here.rec t.here.rec h.here.rec))
      (did_rel sd (n_recalled m s) (n_recalled n t) (m.at.away sd s.here.rec) (n.at.away sd t.here.rec) keep
      (recalled_rel sd s t h) (g.agree.away_is sd s.here.rec t.here.rec h.here.rec))
      h

  told_rel : (sd : Side) (s : NSys m) (t : NSys n) → Rel sd s t → Rel sd (n_told_lost m sd s) (n_told_lost n sd t)
  told_rel sd s t h =
      either sd (idle m.at s.here.rec) (idle n.at t.here.rec) s
      (n_did m s (m.at.p_abort sd s.here.rec) 0) t (n_did n t (n.at.p_abort sd t.here.rec) 0)
      (idle_rel sd s.here.rec t.here.rec h.here.rec) h (did_rel sd s t (m.at.p_abort sd s.here.rec)
      (n.at.p_abort sd t.here.rec) 0 h
      (g.agree.p_abort_is_law sd s.here.rec t.here.rec h.here.rec))

  swap_rel : (sd : Side) (s : NSys m) (t : NSys n) → Rel sd s t → Rel (other sd) (n_swap m s) (n_swap n t)
  swap_rel Air s t h = record { here = h.there; there = h.here; broken = h.broken }
  swap_rel Ground s t h = record { here = h.there; there = h.here; broken = h.broken }

  back_rel : (sd : Side) (s : NSys m) (t : NSys n) → Rel (other sd) s t → Rel sd (n_swap m s) (n_swap n t)
  back_rel Air s t h = swap_rel Ground s t h
  back_rel Ground s t h = swap_rel Air s t h

  on_rel : (sd : Side) (j : ℕ) (l : List m.at.E) (k : List n.at.E) → LL (g.agree.EE sd) l k → on_line m l j ≡ on_line n k j
  on_rel sd j [] [] x = refl
  on_rel sd j [] (f ∷ k) x = absurd x
  on_rel sd j (e ∷ l) [] x = absurd x
  on_rel sd j (e ∷ l) (f ∷ k) x = ap (λ (v : ℕ). eqb v j || on_line m l j) (g.carries_is sd e f x.0) ∙ ap
      (λ (b : Bool). eqb (n.carries f) j || b) (on_rel sd j l k x.1)

  within_rel : (sd : Side) (r : m.at.R) (q : n.at.R) (j : ℕ) → g.agree.RR sd r q
      → not (idle m.at r) && eqb (m.holds r) j ≡ not (idle n.at q) && eqb (n.holds q) j
  within_rel sd r q j x =
      ap (λ (b : Bool). not b && eqb (m.holds r) j) (idle_rel sd r q x) ∙ ap
      (λ (v : ℕ). not (idle n.at q) && eqb v j) (g.holds_is sd r q x)

  alive_rel : (sd : Side) (s : NSys m) (t : NSys n) (j : ℕ) → Rel sd s t → alive m s j ≡ alive n t j
  alive_rel sd s t j h =
      ap (λ (b : Bool). b || (within m s.there j || (on_line m s.here.line j || on_line m s.there.line j)))
      (within_rel sd s.here.rec t.here.rec j h.here.rec)
      ∙ ap (λ (b : Bool). within n t.here j || (b || (on_line m s.here.line j || on_line m s.there.line j)))
      (within_rel (other sd) s.there.rec t.there.rec j h.there.rec)
      ∙ ap (λ (b : Bool). within n t.here j || (within n t.there j || (b || on_line m s.there.line j)))
      (on_rel sd j s.here.line t.here.line h.here.line)
      ∙ ap (λ (b : Bool). within n t.here j || (within n t.there j || (on_line n t.here.line j || b)))
      (on_rel (other sd) j s.there.line t.there.line h.there.line)

  emptied_rel : (sd : Side) (s : NSys m) (t : NSys n) → Rel sd s t → Rel sd (n_emptied m s) (n_emptied n t)
  emptied_rel sd s t h =
      record {
        here = record { rec = h.here.rec; line = tt; taken = h.here.taken; handed = h.here.handed; jobs = h.here.jobs };
        there = record { rec = h.there.rec; line = tt; taken = h.there.taken; handed = h.there.handed; jobs = h.there.jobs };
        broken = λ (j : ℕ). ap (λ (b : Bool). b || s.broken j) (alive_rel sd s t j h) ∙ ap (λ (b : Bool). alive n t j || b) (h.broken j);
      }

  fail_rel : (sd : Side) (s : NSys m) (t : NSys n) → Rel sd s t → Rel sd (n_failed m sd s) (n_failed n sd t)
  fail_rel sd s t h =
      let x : NSys m = n_told_lost m sd (n_emptied m s) in
      let y : NSys n = n_told_lost n sd (n_emptied n t) in
      back_rel sd (n_told_lost m (other sd) (n_swap m x)) (n_told_lost n (other sd) (n_swap n y)) (told_rel (other sd)
      (n_swap m x) (n_swap n y)
      (swap_rel sd x y (told_rel sd (n_emptied m s) (n_emptied n t) (emptied_rel sd s t h))))

  -- ---- runs

  step_rel : (may : Bool) (sd : Side) (s : NSys m) (t : NSys n) (c : Step m.at.A) → Rel sd s t
      → NFollow m n g may sd (n_stepped m may sd s c) t
  step_rel may sd s t (user_call a keep) h = called_rel may sd s t (m.at.call sd s.here.rec a) keep h
      (g.agree.call_is sd s.here.rec t.here.rec a h.here.rec)
  step_rel may sd s t (hand_over keep) h = steps (hand_over keep)
      (over_rel sd s t s.there.line t.there.line keep h h.there.line)
  step_rel may sd s t (timer_expires_of keep) h = report_rel may sd s t (m.at.expiry sd s.here.rec)
      (n.at.expiry sd t.here.rec) keep (timer_expires_of keep) refl h
      (g.agree.expiry_is sd s.here.rec t.here.rec h.here.rec)
  step_rel may sd s t (error_reported keep) h = report_rel may sd s t (m.at.error sd s.here.rec)
      (n.at.error sd t.here.rec) keep (error_reported keep) refl h
      (g.agree.error_is sd s.here.rec t.here.rec h.here.rec)
  step_rel may sd s t (turn_away keep) h = steps (turn_away keep) (away_rel sd s t keep h)
  step_rel may sd s t fail h = steps fail (fail_rel sd s t h)

  -- what follows a turn at one side follows it seen from the air end
  more_turns : (from sd : Side) (s : NSys m) (t : NSys n) (z : NSys m) (c : Step m.at.A) → Rel Air s t
      → ((u : NSys n) → Rel Air (n_turned m from sd s c) u → NRunRel m n g from z u) → NRunRel m n g from z t
  unfolding n_run
  more_turns from Air s t z c h k = go (step_rel (starter from Air) Air s t c h)
    where
      go : NFollow m n g (starter from Air) Air (n_stepped m (starter from Air) Air s c) t → NRunRel m n g from z t
      go (waits x) = k t x
      go (steps d x) =
          let r = k (n_stepped n (starter from Air) Air t d) x in
          record { turns = record { side = Air; step = d } ∷ r.turns; rel = r.rel }
  more_turns from Ground s t z c h k = go (step_rel (starter from Ground) Ground (n_swap m s) (n_swap n t) c (swap_rel Air s t h))
    where
      go : NFollow m n g (starter from Ground) Ground (n_stepped m (starter from Ground) Ground (n_swap m s) c) (n_swap n t)
          → NRunRel m n g from z t
      go (waits x) = k t (swap_rel Ground (n_stepped m (starter from Ground) Ground (n_swap m s) c) (n_swap n t) x)
      go (steps d x) =
          let r = k (n_swap n (n_stepped n (starter from Ground) Ground (n_swap n t) d)) (swap_rel Ground
          (n_stepped m (starter from Ground) Ground (n_swap m s) c)
          (n_stepped n (starter from Ground) Ground (n_swap n t) d) x) in
          record { turns = record { side = Ground; step = d } ∷ r.turns; rel = r.rel }

  pub n_run_rel : (from : Side) (ts : List (Turn m.at.A)) (s : NSys m) (t : NSys n) → Rel Air s t
      → NRunRel m n g from (n_run m from s ts) t
  unfolding n_run
  n_run_rel from [] s t h = record { turns = []; rel = h }
  n_run_rel from (x ∷ ts) s t h = more_turns from x.side s t (n_run m from (n_turned m from x.side s x.step) ts)
      x.step h (λ (u : NSys n) (r : Rel Air (n_turned m from x.side s x.step) u). n_run_rel from ts
      (n_turned m from x.side s x.step) u r)

  -- the second follows every run of the first from corresponding records
  pub n_followed : (from : Side) (r q : m.at.R) (x y : n.at.R) → g.agree.RR Air r x → g.agree.RR Ground q y
      → (ts : List (Turn m.at.A)) → NRunRel m n g from (n_run m from (n_fresh m r q) ts) (n_fresh n x y)
  n_followed from r q x y near far ts = n_run_rel from ts (n_fresh m r q) (n_fresh n x y) (record {
    here = record { rec = near; line = tt; taken = λ (j : ℕ). refl; handed = λ (j : ℕ). refl; jobs = refl };
    there = record { rec = far; line = tt; taken = λ (j : ℕ). refl; handed = λ (j : ℕ). refl; jobs = refl };
    broken = λ (j : ℕ). refl;
  })

  -- ---- claims

  nil_rel : (sd : Side) (l : List m.at.E) (k : List n.at.E) → LL (g.agree.EE sd) l k → l ≡ [] → k ≡ []
  nil_rel sd l [] h e = refl
  nil_rel sd l (f ∷ k) h e = absurd (subst (λ (z : List m.at.E). LL (g.agree.EE sd) z (f ∷ k)) e h)

  pub n_carried : {i k : ℕ} (s : NSys m) (t : NSys n) → Rel Air s t → NClaims n i k t → NClaims m i k s
  n_carried s t h c =
      record {
        ends_match = λ (p : s.here.line ≡ []) (q : s.there.line ≡ []).
            rw (
              g.agree.ctl_is Air s.here.rec t.here.rec h.here.rec,
              g.agree.ctl_is Ground
                  s.there.rec t.there.rec h.there.rec,
            ) (c.ends_match
            (nil_rel Air s.here.line t.here.line h.here.line p)
            (nil_rel Ground s.there.line t.there.line h.there.line q));
        handed_in_order = λ (j : ℕ). rw (h.there.handed j, h.here.taken j, h.here.handed j, h.there.taken j) (c.handed_in_order j);
        handed_all = λ (j : ℕ) (p : s.here.line ≡ []) (q : s.there.line ≡ []) (b : s.broken j ≡ false).
            rw (h.there.handed j, h.here.taken j, h.here.handed j, h.there.taken j) (c.handed_all j
            (nil_rel Air s.here.line t.here.line h.here.line p)
            (nil_rel Ground s.there.line t.there.line h.there.line q) (sym (h.broken j) ∙ b));
        jobs_rise = rw (h.here.jobs, h.there.jobs) c.jobs_rise;
      }

  -- what is claimed of every run of the second holds of every run of the first
  pub n_holds_through : {i k : ℕ} (from : Side) (r q : m.at.R) (x y : n.at.R) → g.agree.RR Air r x → g.agree.RR Ground q y → ((us : List (Turn n.at.A)) → NClaims n i k (n_run n from (n_fresh n x y) us)) → (ts : List (Turn m.at.A)) → NClaims m i k (n_run m from (n_fresh m r q) ts)
  n_holds_through from r q x y near far c ts =
      let v = n_followed from r q x y near far ts in
      n_carried (n_run m from (n_fresh m r q) ts) (n_run n from (n_fresh n x y) v.turns) v.rel (c v.turns)

  -- where the second answers nothing that is handed over, the first does not
  pub n_quiet_through : (s : NSys m) (t : NSys n) → Rel Air s t → NQuiet n t → NQuiet m s
  n_quiet_through s t h f = (
    head_quiet m.at n.at g.agree Air s.here.rec t.here.rec s.there.line t.there.line
        h.here.rec h.there.line f.0,
    head_quiet m.at n.at g.agree Ground s.there.rec t.there.rec s.here.line t.here.line
        h.there.rec h.here.line f.1,
  )
