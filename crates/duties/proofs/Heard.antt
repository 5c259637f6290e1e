-- What the users have been shown of what was handed out: all of it, unless the dialogue broke, or the end is in it still.
-- Assumes nothing.
use mathlib.Core.Path.{◌≡◌, refl, ap, sym, ◌∙◌, subst}
use mathlib.Core.Bool.{Bool, true, false, not, cond, ◌&&◌, ◌||◌}
use mathlib.Core.List.{List, [], ◌∷◌, ◌++◌, append-nil}
use Prim.Native.Nat.{ℕ, ◌≤◌}
use native.Mathlib.Omega.{arith}
use lib.Dec.{T, eqb}
use lib.ListN.{length}
use Rattle.pair.specs.Names.{Side, other}
use Rattle.pair.specs.Carrier.{Body, Sent, nothing, puts, message, Outcome, refused, acts, Sort, begins, breaks, plain, Step, user_call, hand_over, timer_expires_of, error_reported, turn_away, fail, idle, starts, discards}
use Rattle.pair.specs.Numbered.{NMachine, NParty, NSys, n_swap, n_put, n_sent, n_did, n_ready, n_called, n_off, n_handed_over, n_may_turn_away, n_recalled, n_turned_away, within, alive, n_emptied, n_told_lost, n_failed, n_stepped}
use Rattle.pair.proofs.NumberedLines.{eq_no}
use Rattle.duties.specs.Host.{Power, up, apart, down}

-- ---- what it needs of a machine

-- an event that hands out nothing
abbrev pub None : (m : NMachine) → Outcome m.at.R m.at.E → Type 0
None m refused = Unit {0}
None m (acts r l p) = l ≡ []

-- one that hands out a message leaves the record in its dialogue
abbrev pub Hush : (m : NMachine) → Outcome m.at.R m.at.E → Type 0
Hush m refused = Unit {0}
Hush m (acts r [] p) = Unit {0}
Hush m (acts r (b ∷ l) p) = idle m.at r ≡ false

abbrev pub First : (m : NMachine) → Side → m.at.R → List m.at.E → Type 0
First m sd r [] = Unit {0}
First m sd r (e ∷ l) = Hush m (m.at.receive sd r e)

-- of the end here: only an entry hands out
pub record Hands (m : NMachine) (sd : Side) (s : NSys m) : Type 0 where
  pub call : (a : m.at.A) → None m (m.at.call sd s.here.rec a)
  pub receive : First m sd s.here.rec s.there.line
  pub expiry : None m (m.at.expiry sd s.here.rec)
  pub error : None m (m.at.error sd s.here.rec)
  pub away : None m (m.at.away sd s.here.rec)
  pub p_abort_is : None m (m.at.p_abort sd s.here.rec)

abbrev is_cons : List Body → Bool
is_cons [] = false
is_cons (b ∷ l) = true

-- ---- what an event does to it

-- nothing more was handed out in dialogue n, or the end is in it
pub data Heed (m : NMachine) (x y : NParty m) (n : ℕ) : Type 0 where
  kept : length (y.handed n) ≡ length (x.handed n) → Heed m x y n
  inside : within m y n ≡ true → Heed m x y n

pub record Event (m : NMachine) (s t : NSys m) : Type 0 where
  pub far : (n : ℕ) → t.there.handed n ≡ s.there.handed n
  pub rec : t.there.rec ≡ s.there.rec
  pub broken : (n : ℕ) → s.broken n ≡ true → t.broken n ≡ true
  pub here : (n : ℕ) → Heed m s.here t.here n

pub or_right : (a b : Bool) → b ≡ true → (a || b) ≡ true
or_right true b e = refl
or_right false b e = e

pub or_left : (a b : Bool) → a ≡ true → (a || b) ≡ true
or_left true b e = refl
or_left false b e = absurd (subst T (sym e) tt)

-- a failure of the carrier
pub record Fell (m : NMachine) (s t : NSys m) : Type 0 where
  pub here : (n : ℕ) → length (t.here.handed n) ≡ length (s.here.handed n)
  pub there : (n : ℕ) → length (t.there.handed n) ≡ length (s.there.handed n)
  pub broken : (n : ℕ) → (alive m s n || s.broken n) ≡ true → t.broken n ≡ true

module _ (m : NMachine) where
  none_hush : (o : Outcome m.at.R m.at.E) → None m o → Hush m o
  none_hush refused h = tt
  none_hush (acts r [] p) h = tt
  none_hush (acts r (b ∷ l) p) h = absurd (subst (λ (x : List Body). T (is_cons x)) h tt)

  event_refl : (s : NSys m) → Event m s s
  event_refl s = record { far = λ (n : ℕ). refl; rec = refl; broken = λ (n : ℕ) (q : s.broken n ≡ true). q; here = λ (n : ℕ). kept refl }

  record Sending (s t : NSys m) : Type 0 where
    there : t.there ≡ s.there
    broken : (n : ℕ) → s.broken n ≡ true → t.broken n ≡ true
    handed : (n : ℕ) → t.here.handed n ≡ s.here.handed n

  put_sends : (so : Sort) (s : NSys m) (e : m.at.E) (keep : ℕ) → Sending s (n_put m so s e keep)
  put_sends begins s e keep = record { there = refl; broken = λ (n : ℕ) (q : s.broken n ≡ true). q; handed = λ (n : ℕ). refl }
  put_sends breaks s e keep = record { there = refl; broken = λ (n : ℕ) (q : s.broken n ≡ true). or_right (eqb (m.carries e) n) (s.broken n) q; handed = λ (n : ℕ). refl }
  put_sends plain s e keep = record { there = refl; broken = λ (n : ℕ) (q : s.broken n ≡ true). q; handed = λ (n : ℕ). refl }

  sent_sends : (s : NSys m) (p : Sent m.at.E) (keep : ℕ) → Sending s (n_sent m s p keep)
  sent_sends s nothing keep = record { there = refl; broken = λ (n : ℕ) (q : s.broken n ≡ true). q; handed = λ (n : ℕ). refl }
  sent_sends s (puts e) keep = put_sends (m.at.sort e) s e keep
  sent_sends s (message e b i) keep =
      let w = put_sends (m.at.sort e) s e keep in
      record { there = w.there; broken = w.broken; handed = w.handed }

  added_none : (b : Bool) (x : List Body) → length (cond b (x ++ []) x) ≡ length x
  added_none true x = ap length (append-nil x)
  added_none false x = refl

  none_did : (s : NSys m) (o : Outcome m.at.R m.at.E) (keep : ℕ) → None m o → (n : ℕ)
      → length ((n_did m s o keep).here.handed n) ≡ length (s.here.handed n)
  none_did s refused keep h n = refl
  none_did s (acts r l p) keep h n =
      let x = (n_sent m s p keep).here.handed n in
      ap (λ (k : List Body). length (cond (eqb (m.holds r) n) (x ++ k) x)) h ∙ added_none (eqb (m.holds r) n) x ∙ ap
      length ((sent_sends s p keep).handed n)

  pub did_event : (s : NSys m) (o : Outcome m.at.R m.at.E) (keep : ℕ) → Hush m o → Event m s (n_did m s o keep)
  did_event s refused keep h = event_refl s
  did_event s (acts r l p) keep h =
      let w = sent_sends s p keep in
      record { far = λ (n : ℕ). ap (λ (q : NParty m). q.handed n) w.there; rec = ap (λ (q : NParty m). q.rec) w.there; broken = w.broken; here = λ (n : ℕ). go l h n (eqb (m.holds r) n) refl }
    where
      go : (l : List Body) → Hush m (acts r l p) → (n : ℕ) (b : Bool) → eqb (m.holds r) n ≡ b
          → Heed m s.here (n_did m s (acts r l p) keep).here n
      go [] h n b e = kept (none_did s (acts r [] p) keep refl n)
      go (c ∷ l) h n true e = inside (ap (λ (x : Bool). not x && eqb (m.holds r) n) h ∙ e)
      go (c ∷ l) h n false e =
          let x = (n_sent m s p keep).here.handed n in
          kept (ap (λ (b : Bool). length (cond b (x ++ (c ∷ l)) x)) e ∙ ap length ((sent_sends s p keep).handed n))

  either : (b : Bool) (s x y : NSys m) → Event m s x → Event m s y → Event m s (cond b x y)
  either true s x y p q = p
  either false s x y p q = q

  called_event : (may : Bool) (s : NSys m) (o : Outcome m.at.R m.at.E) (keep : ℕ) → None m o → Event m s (n_called m may s o keep)
  called_event may s refused keep h = event_refl s
  called_event may s (acts r l p) keep h = either (not (starts m.at p) || (may && n_ready m s)) s
      (n_did m s (acts r l p) keep) s (did_event s (acts r l p) keep (none_hush (acts r l p) h)) (event_refl s)

  off_event : (s u : NSys m) (l : List m.at.E) → Event m (n_off m s l) u → Event m s u
  off_event s u l w = record { far = w.far; rec = w.rec; broken = w.broken; here = w.here }

  over_event : (sd : Side) (s : NSys m) (l : List m.at.E) (keep : ℕ) → First m sd s.here.rec l
      → Event m s (n_handed_over m sd s l keep)
  over_event sd s [] keep h = event_refl s
  over_event sd s (e ∷ l) keep h =
      either (discards m.at s.here.rec e) s (n_off m s l) (n_did m (n_off m s l) (m.at.receive sd s.here.rec e) keep)
      (off_event s (n_off m s l) l (event_refl (n_off m s l)))
      (off_event s (n_did m (n_off m s l) (m.at.receive sd s.here.rec e) keep) l
      (did_event (n_off m s l) (m.at.receive sd s.here.rec e) keep h))

  recalled_heed : (s : NSys m) (y : NParty m) (n : ℕ) → Heed m (n_recalled m s).here y n → Heed m s.here y n
  recalled_heed s y n (kept e) = kept e
  recalled_heed s y n (inside e) = inside e

  recalled_event : (s u : NSys m) → Event m (n_recalled m s) u → Event m s u
  recalled_event s u w = record { far = w.far; rec = w.rec; broken = w.broken; here = λ (n : ℕ). recalled_heed s u.here n (w.here n) }

  away_event : (sd : Side) (s : NSys m) (keep : ℕ) → None m (m.at.away sd s.here.rec) → Event m s (n_turned_away m sd s keep)
  away_event sd s keep h =
      either (n_may_turn_away m s) s (n_did m (n_recalled m s) (m.at.away sd s.here.rec) keep) s
      (recalled_event s (n_did m (n_recalled m s) (m.at.away sd s.here.rec) keep) (did_event (n_recalled m s)
      (m.at.away sd s.here.rec) keep (none_hush (m.at.away sd s.here.rec) h))) (event_refl s)

  abbrev pub Lasting : Step m.at.A → Type 0
  Lasting (user_call a k) = Unit {0}
  Lasting (hand_over k) = Unit {0}
  Lasting (timer_expires_of k) = Unit {0}
  Lasting (error_reported k) = Unit {0}
  Lasting (turn_away k) = Unit {0}
  Lasting fail = ⊥

  pub step_event : (may : Bool) (sd : Side) (s : NSys m) (c : Step m.at.A) → Hands m sd s → Lasting c
      → Event m s (n_stepped m may sd s c)
  step_event may sd s (user_call a k) h t = called_event may s (m.at.call sd s.here.rec a) k (h.call a)
  step_event may sd s (hand_over k) h t = over_event sd s s.there.line k h.receive
  step_event may sd s (timer_expires_of k) h t = did_event s (m.at.expiry sd s.here.rec) k
      (none_hush (m.at.expiry sd s.here.rec) h.expiry)
  step_event may sd s (error_reported k) h t = did_event s (m.at.error sd s.here.rec) k
      (none_hush (m.at.error sd s.here.rec) h.error)
  step_event may sd s (turn_away k) h t = away_event sd s k h.away
  step_event may sd s fail h t = absurd t

  told_event : (sd : Side) (s : NSys m) → None m (m.at.p_abort sd s.here.rec) → Event m s (n_told_lost m sd s)
  told_event sd s h = either (idle m.at s.here.rec) s s (n_did m s (m.at.p_abort sd s.here.rec) 0)
      (event_refl s) (did_event s (m.at.p_abort sd s.here.rec) 0 (none_hush (m.at.p_abort sd s.here.rec) h))

  told_none : (sd : Side) (s : NSys m) → None m (m.at.p_abort sd s.here.rec) → (n : ℕ)
      → length ((n_told_lost m sd s).here.handed n) ≡ length (s.here.handed n)
  told_none sd s h n = go (idle m.at s.here.rec)
    where
      go : (b : Bool) → length ((cond b s (n_did m s (m.at.p_abort sd s.here.rec) 0)).here.handed n) ≡ length (s.here.handed n)
      go true = refl
      go false = none_did s (m.at.p_abort sd s.here.rec) 0 h n

  pub fell : (sd : Side) (s : NSys m) → Hands m sd s → Hands m (other sd) (n_swap m s) → Fell m s (n_failed m sd s)
  fell sd s h g =
      let a : NSys m = n_told_lost m sd (n_emptied m s) in
      let v : Event m (n_emptied m s) a = told_event sd (n_emptied m s) h.p_abort_is in
      let q : None m (m.at.p_abort (other sd) a.there.rec) = subst
      (λ (r : m.at.R). None m (m.at.p_abort (other sd) r)) (sym v.rec) g.p_abort_is in
      let w : Event m (n_swap m a) (n_told_lost m (other sd) (n_swap m a)) = told_event (other sd) (n_swap m a) q in
      record {
        here = λ (n : ℕ). ap length (w.far n) ∙ told_none sd (n_emptied m s) h.p_abort_is n;
        there = λ (n : ℕ). told_none (other sd) (n_swap m a) q n ∙ ap length (v.far n);
        broken = λ (n : ℕ) (e : (alive m s n || s.broken n) ≡ true). w.broken n (v.broken n e);
      }

  -- ---- what holds of an end and what its user was shown

  pub data Fine (broken : ℕ → Bool) (x : NParty m) (seen : ℕ → ℕ) (n : ℕ) : Type 0 where
    all : seen n ≡ length (x.handed n) → Fine broken x seen n
    broke : broken n ≡ true → Fine broken x seen n
    in-it : within m x n ≡ true → Fine broken x seen n

  pub data Sure (broken : ℕ → Bool) (x : NParty m) (seen : ℕ → ℕ) (n : ℕ) : Type 0 where
    whole : seen n ≡ length (x.handed n) → Sure broken x seen n
    gone : broken n ≡ true → Sure broken x seen n

  -- where the host is up and its user waits for nothing, the end need not be in the dialogue
  pub record Heard (broken : ℕ → Bool) (x : NParty m) (seen : ℕ → ℕ) (waiting : Bool) (power : Power) : Type 0 where
    pub most : (n : ℕ) → seen n ≤ length (x.handed n)
    pub fine : (n : ℕ) → Fine broken x seen n
    pub calm : waiting ≡ false → power ≡ up → (n : ℕ) → Sure broken x seen n

  within_no : (x : NParty m) (n : ℕ) → within m x n ≡ true → eqb (m.holds x.rec) n ≡ true
  within_no x n e = go (not (idle m.at x.rec)) e
    where
      go : (b : Bool) → (b && eqb (m.holds x.rec) n) ≡ true → eqb (m.holds x.rec) n ≡ true
      go true q = q
      go false q = absurd (subst T (sym q) tt)

  within_rec : (x y : NParty m) (n : ℕ) → y.rec ≡ x.rec → within m x n ≡ true → within m y n ≡ true
  within_rec x y n e q = ap (λ (r : m.at.R). not (idle m.at r) && eqb (m.holds r) n) e ∙ q

  -- an event at the other end
  pub heard_far : (s t : NSys m) (seen : ℕ → ℕ) (w : Bool) (p : Power) → Event m s t
      → Heard s.broken s.there seen w p → Heard t.broken t.there seen w p
  heard_far s t seen w p e g =
      record {
        most = λ (n : ℕ). omega (arith, g.most n, ap length (e.far n));
        fine = λ (n : ℕ). fine n (g.fine n);
        calm = λ (a : w ≡ false) (b : p ≡ up) (n : ℕ). sure n (g.calm a b n);
      }
    where
      fine : (n : ℕ) → Fine s.broken s.there seen n → Fine t.broken t.there seen n
      fine n (all q) = all (q ∙ sym (ap length (e.far n)))
      fine n (broke q) = broke (e.broken n q)
      fine n (in-it q) = in-it (within_rec s.there t.there n e.rec q)

      sure : (n : ℕ) → Sure s.broken s.there seen n → Sure t.broken t.there seen n
      sure n (whole q) = whole (q ∙ sym (ap length (e.far n)))
      sure n (gone q) = gone (e.broken n q)

  -- an event here: its user waited for nothing. out: whether it handed out something
  pub heard_here : (s t : NSys m) (seen : ℕ → ℕ) (w : Bool) (p : Power) → Event m s t
      → ((n : ℕ) → length (s.here.handed n) ≤ length (t.here.handed n)) → w ≡ false → p ≡ up
      → Heard s.broken s.here seen w p
      → Heard t.broken t.here seen (not (eqb (length (s.here.handed (m.holds t.here.rec)))
      (length (t.here.handed (m.holds t.here.rec)))) || w) p
  heard_here s t seen w p e k a b g =
      record {
        most = λ (n : ℕ). omega (arith, g.most n, k n);
        fine = λ (n : ℕ). fine n (e.here n) (g.calm a b n);
        calm = λ (c : (not (eqb (length (s.here.handed d)) (length (t.here.handed d))) || w) ≡ false) (b : p ≡ up)
            (n : ℕ). sure n (quiet (eqb (length (s.here.handed d)) (length (t.here.handed d))) w c) (e.here n)
            (g.calm a b n);
      }
    where
      d : ℕ
      d = m.holds t.here.rec

      quiet : (x w : Bool) → (not x || w) ≡ false → x ≡ true
      quiet true w c = refl
      quiet false w c = absurd (subst T c tt)

      fine : (n : ℕ) → Heed m s.here t.here n → Sure s.broken s.here seen n → Fine t.broken t.here seen n
      fine n (kept q) (whole z) = all (z ∙ sym q)
      fine n (kept q) (gone z) = broke (e.broken n z)
      fine n (inside q) z = in-it q

      again : (n : ℕ) → length (t.here.handed n) ≡ length (s.here.handed n) → Sure s.broken s.here seen n
          → Sure t.broken t.here seen n
      again n q (whole z) = whole (z ∙ sym q)
      again n q (gone z) = gone (e.broken n z)

      sure : (n : ℕ)
          → eqb (length (s.here.handed (m.holds t.here.rec))) (length (t.here.handed (m.holds t.here.rec))) ≡ true
          → Heed m s.here t.here n → Sure s.broken s.here seen n → Sure t.broken t.here seen n
      sure n c (kept q) z = again n q z
      sure n c (inside q) z =
          let i : m.holds t.here.rec ≡ n = eq_no (m.holds t.here.rec) n (within_no t.here n q) in
          again n (sym (eq_no (length (s.here.handed n)) (length (t.here.handed n))
          (subst (λ (v : ℕ). eqb (length (s.here.handed v)) (length (t.here.handed v)) ≡ true) i c))) z

  -- the user is shown what was handed out in the dialogue that the record holds
  pub heard_shown : (broken : ℕ → Bool) (x : NParty m) (seen : ℕ → ℕ) (w : Bool) (p : Power) → Heard broken x seen w p
      → Heard broken x (λ (n : ℕ). cond (eqb (m.holds x.rec) n) (length (x.handed n)) (seen n)) false p
  heard_shown broken x seen w p g =
      record {
        most = λ (n : ℕ). most n (eqb (m.holds x.rec) n);
        fine = λ (n : ℕ). fine n (sure n (eqb (m.holds x.rec) n) refl (g.fine n));
        calm = λ (a : false ≡ false) (b : p ≡ up) (n : ℕ). sure n (eqb (m.holds x.rec) n) refl (g.fine n);
      }
    where
      now : ℕ → ℕ
      now n = cond (eqb (m.holds x.rec) n) (length (x.handed n)) (seen n)

      most : (n : ℕ) (b : Bool) → cond b (length (x.handed n)) (seen n) ≤ length (x.handed n)
      most n true = omega arith
      most n false = g.most n

      sure : (n : ℕ) (b : Bool) → eqb (m.holds x.rec) n ≡ b → Fine broken x seen n
          → Sure broken x (λ (n : ℕ). cond (eqb (m.holds x.rec) n) (length (x.handed n)) (seen n)) n
      sure n true e f = whole (ap (λ (b : Bool). cond b (length (x.handed n)) (seen n)) e)
      sure n false e (all q) = whole (ap (λ (b : Bool). cond b (length (x.handed n)) (seen n)) e ∙ q)
      sure n false e (broke q) = gone q
      sure n false e (in-it q) = absurd (subst T (sym (within_no x n q) ∙ e) tt)

      fine : (n : ℕ) → Sure broken x (λ (n : ℕ). cond (eqb (m.holds x.rec) n) (length (x.handed n)) (seen n)) n
          → Fine broken x (λ (n : ℕ). cond (eqb (m.holds x.rec) n) (length (x.handed n)) (seen n)) n
      fine n (whole q) = all q
      fine n (gone q) = broke q

  -- the carrier fails
  pub heard_fell : (broken more : ℕ → Bool) (x y : NParty m) (seen : ℕ → ℕ) (w : Bool) (p q : Power)
      → ((n : ℕ) → length (y.handed n) ≡ length (x.handed n))
      → ((n : ℕ) → (within m x n || broken n) ≡ true → more n ≡ true) → Heard broken x seen w p → Heard more y seen w q
  heard_fell broken more x y seen w p q e f g =
      record {
        most = λ (n : ℕ). omega (arith, g.most n, e n);
        fine = λ (n : ℕ). fine n (g.fine n);
        calm = λ (a : w ≡ false) (b : q ≡ up) (n : ℕ). sure n (g.fine n);
      }
    where
      fine : (n : ℕ) → Fine broken x seen n → Fine more y seen n
      fine n (all z) = all (z ∙ sym (e n))
      fine n (broke z) = broke (f n (or_right (within m x n) (broken n) z))
      fine n (in-it z) = broke (f n (or_left (within m x n) (broken n) z))

      sure : (n : ℕ) → Fine broken x seen n → Sure more y seen n
      sure n (all z) = whole (z ∙ sym (e n))
      sure n (broke z) = gone (f n (or_right (within m x n) (broken n) z))
      sure n (in-it z) = gone (f n (or_left (within m x n) (broken n) z))

  abbrev is_up_of : Power → Bool
  is_up_of up = true
  is_up_of apart = false
  is_up_of down = false

  -- the host goes down, or has no carrier
  pub heard_off : (broken : ℕ → Bool) (x y : NParty m) (seen : ℕ → ℕ) (w v : Bool) (p q : Power)
      → ((n : ℕ) → y.handed n ≡ x.handed n) → y.rec ≡ x.rec → T (not (is_up_of q)) → Heard broken x seen w p
      → Heard broken y seen v q
  heard_off broken x y seen w v p q e r t g =
      record {
        most = λ (n : ℕ). omega (arith, g.most n, ap length (e n));
        fine = λ (n : ℕ). fine n (g.fine n);
        calm = λ (a : v ≡ false) (b : q ≡ up) (n : ℕ). absurd (subst (λ (z : Power). T (not (is_up_of z))) b t);
      }
    where
      fine : (n : ℕ) → Fine broken x seen n → Fine broken y seen n
      fine n (all z) = all (z ∙ sym (ap length (e n)))
      fine n (broke z) = broke z
      fine n (in-it z) = in-it (within_rec x y n r z)

  -- the end has left a dialogue that nothing broke: its user was shown all of it
  pub seen_all : (broken : ℕ → Bool) (x : NParty m) (seen : ℕ → ℕ) (w : Bool) (p : Power) (n : ℕ) → broken n ≡ false
      → within m x n ≡ false → Heard broken x seen w p → seen n ≡ length (x.handed n)
  seen_all broken x seen w p n b i g = go (g.fine n)
    where
      go : Fine broken x seen n → seen n ≡ length (x.handed n)
      go (all q) = q
      go (broke q) = absurd (subst T (sym q ∙ b) tt)
      go (in-it q) = absurd (subst T (sym q ∙ i) tt)
