-- Why a host that is apart may leave its record to hear later (specs/Host, cut_off_of). A real host gives its record D-P-ABORT at once. Nobody can tell the two from each
-- other: the other end's steps do not look at this record while no start is passed on; what this host tells its broker does not depend on it; and the failure, when
-- the other end hears of it too, leaves the same record in both.
-- Assumes nothing.
use mathlib.Core.Path.{◌≡◌, refl, ap, sym, ◌∙◌}
use mathlib.Core.Bool.{Bool, true, false, not, cond, ◌||◌}
use mathlib.Core.List.{List, [], ◌∷◌}
use Prim.Native.Nat.{ℕ}
use lib.Dec.{eqb}
use Rattle.pair.specs.Names.{Side, is_idle, closed}
use Rattle.pair.specs.Carrier.{Sent, nothing, puts, message, Outcome, refused, acts, Sort, begins, breaks, plain, Step, user_call, hand_over, timer_expires_of, error_reported, turn_away, fail, starts, discards}
use Rattle.pair.specs.Numbered.{NMachine, NSys, Numbered, mark, n_put, n_took, n_sent, n_left, n_did, n_called, n_off, n_handed_over, n_may_turn_away, n_recalled, n_turned_away, n_stepped}
use Rattle.pair.proofs.ControlMachine.{Held, held, control}
use Rattle.pair.proofs.NumberedMachine.{numbered}
use Rattle.duties.specs.Memory.{is_decided}
use Rattle.duties.specs.Host.{right, Host, Hosts, Act, deliver, lay_aside, happens, end_confirmed_of, shows, release, acknowledge, connection_released, give_up, keep, power_fails, cut_off, carrier_fails, refusing, laid_aside, acknowledges, with_rec, alone}
use Rattle.duties.proofs.Heard.{Lasting}
use Rattle.duties.proofs.ControlHosts.{lost_closes}

-- ---- the other end

module _ (m : NMachine) where
  -- the same two ends, with another record at the far one
  abbrev pub far_rec : NSys m → m.at.R → NSys m
  far_rec s r = record { here = s.here; there = record { rec = r; line = s.there.line; taken = s.there.taken; handed = s.there.handed; jobs = s.there.jobs }; broken = s.broken }

  put_blind : (so : Sort) (s : NSys m) (e : m.at.E) (left : ℕ) (r : m.at.R)
      → n_put m so (far_rec s r) e left ≡ far_rec (n_put m so s e left) r
  put_blind begins s e left r = refl
  put_blind breaks s e left r = refl
  put_blind plain s e left r = refl

  sent_blind : (s : NSys m) (p : Sent m.at.E) (left : ℕ) (r : m.at.R) → n_sent m (far_rec s r) p left ≡ far_rec (n_sent m s p left) r
  sent_blind s nothing left r = refl
  sent_blind s (puts e) left r = put_blind (m.at.sort e) s e left r
  sent_blind s (message e b i) left r = ap (λ (u : NSys m). n_took m u (m.carries e) b i) (put_blind (m.at.sort e) s e left r)

  did_blind : (s : NSys m) (o : Outcome m.at.R m.at.E) (left : ℕ) (r : m.at.R)
      → n_did m (far_rec s r) o left ≡ far_rec (n_did m s o left) r
  did_blind s refused left r = refl
  did_blind s (acts q l p) left r = ap (λ (u : NSys m). n_left m u q l) (sent_blind s p left r)

  either : (b : Bool) (x y z w : NSys m) (r : m.at.R) → x ≡ far_rec z r → y ≡ far_rec w r → cond b x y ≡ far_rec (cond b z w) r
  either true x y z w r p q = p
  either false x y z w r p q = q

  called_blind : (s : NSys m) (o : Outcome m.at.R m.at.E) (left : ℕ) (r : m.at.R)
      → n_called m false (far_rec s r) o left ≡ far_rec (n_called m false s o left) r
  called_blind s refused left r = refl
  called_blind s (acts q l p) left r = either (not (starts m.at p) || false) (n_did m (far_rec s r) (acts q l p) left)
      (far_rec s r) (n_did m s (acts q l p) left) s r (did_blind s (acts q l p) left r) refl

  over_blind : (sd : Side) (s : NSys m) (l : List m.at.E) (left : ℕ) (r : m.at.R)
      → n_handed_over m sd (far_rec s r) l left ≡ far_rec (n_handed_over m sd s l left) r
  over_blind sd s [] left r = refl
  over_blind sd s (e ∷ l) left r =
      let o = m.at.receive sd s.here.rec e in
      either (discards m.at s.here.rec e) (n_off m (far_rec s r) l) (n_did m (n_off m (far_rec s r) l) o left)
      (n_off m s l) (n_did m (n_off m s l) o left) r refl (did_blind (n_off m s l) o left r)

  away_blind : (sd : Side) (s : NSys m) (left : ℕ) (r : m.at.R) → n_turned_away m sd (far_rec s r) left ≡ far_rec (n_turned_away m sd s left) r
  away_blind sd s left r =
      let o = m.at.away sd s.here.rec in
      either (n_may_turn_away m s) (n_did m (n_recalled m (far_rec s r)) o left) (far_rec s r) (n_did m (n_recalled m s) o left)
      s r (did_blind (n_recalled m s) o left r) refl

  -- no step of an end looks at the other's record, where no start is passed on
  pub step_blind : (sd : Side) (s : NSys m) (c : Step m.at.A) (r : m.at.R) → Lasting m c
      → n_stepped m false sd (far_rec s r) c ≡ far_rec (n_stepped m false sd s c) r
  step_blind sd s (user_call a k) r t = called_blind s (m.at.call sd s.here.rec a) k r
  step_blind sd s (hand_over k) r t = over_blind sd s s.there.line k r
  step_blind sd s (timer_expires_of k) r t = did_blind s (m.at.expiry sd s.here.rec) k r
  step_blind sd s (error_reported k) r t = did_blind s (m.at.error sd s.here.rec) k r
  step_blind sd s (turn_away k) r t = away_blind sd s k r
  step_blind sd s fail r t = absurd t

-- ---- its broker

module _ (m : NMachine) (letter : Side → ℕ → m.at.A) (fresh : Side → m.at.R) (accepts : m.at.E → Bool) where
  -- the same hosts, with another record here, which is kept too
  abbrev pub other_rec : Hosts m → m.at.R → Hosts m
  other_rec s r =
      record {
        ends = with_rec m right letter fresh accepts s.ends r;
        here = record { notes = s.here.notes; kept = s.here.kept; kept_rec = r; unsent = s.here.unsent; power = s.here.power; done = s.here.done; log = s.here.log; waiting = s.here.waiting; seen = s.here.seen };
        there = s.there;
      }

  -- what the broker of this host sees, and what is kept for it
  pub record Alike (x y : Host m) : Type 0 where
    pub notes : x.notes ≡ y.notes
    pub kept : x.kept ≡ y.kept
    pub done : x.done ≡ y.done

  aside_alike : (s : Hosts m) (r : m.at.R) (j : ℕ)
      → Alike (laid_aside m right letter fresh accepts (other_rec s r) j).here (laid_aside m right letter fresh accepts s j).here
  aside_alike s r j = go (is_decided (s.here.notes.decision j))
    where
      go : (b : Bool)
          → Alike (cond b (other_rec s r) (refusing m right letter fresh accepts (other_rec s r) j)).here (cond b s (refusing m right letter fresh accepts s j)).here
      go true = record { notes = refl; kept = refl; done = refl }
      go false = record { notes = refl; kept = refl; done = refl }

  acked_alike : (s : Hosts m) (r : m.at.R) (j : ℕ)
      → Alike (acknowledges m right letter fresh accepts j (other_rec s r).here) (acknowledges m right letter fresh accepts j s.here)
  acked_alike s r j = go (is_decided (s.here.kept.decision j))
    where
      more : Host m → Host m
      more x = record { notes = x.notes; kept = x.kept; kept_rec = x.kept_rec; unsent = x.unsent; power = x.power; done = λ (i : ℕ). eqb i j || x.done i; log = x.log; waiting = x.waiting; seen = x.seen }

      go : (b : Bool) → Alike (cond b (more (other_rec s r).here) (other_rec s r).here) (cond b (more s.here) s.here)
      go true = record { notes = refl; kept = refl; done = refl }
      go false = record { notes = refl; kept = refl; done = refl }

  pub broker_blind : (sd : Side) (s : Hosts m) (a : Act m.at.A) (r : m.at.R)
      → Alike (alone m right letter fresh accepts sd (other_rec s r) a).here (alone m right letter fresh accepts sd s a).here
  broker_blind sd s (deliver j) r = aside_alike s r j
  broker_blind sd s (lay_aside j) r = aside_alike s r j
  broker_blind sd s (happens c) r = record { notes = refl; kept = refl; done = refl }
  broker_blind sd s end_confirmed_of r = record { notes = refl; kept = refl; done = refl }
  broker_blind sd s shows r = record { notes = refl; kept = refl; done = refl }
  broker_blind sd s release r = record { notes = refl; kept = refl; done = refl }
  broker_blind sd s (acknowledge j) r = acked_alike s r j
  broker_blind sd s connection_released r = record { notes = refl; kept = refl; done = refl }
  broker_blind sd s give_up r = record { notes = refl; kept = refl; done = refl }
  broker_blind sd s keep r = record { notes = refl; kept = refl; done = refl }
  broker_blind sd s power_fails r = record { notes = refl; kept = refl; done = refl }
  broker_blind sd s cut_off r = record { notes = refl; kept = refl; done = refl }
  broker_blind sd s carrier_fails r = record { notes = refl; kept = refl; done = refl }

-- ---- the failure, when the other end hears of it too: of the control

-- what D-P-ABORT leaves of a record; an IDLE one has nothing to hear
abbrev pub heard_rec : Numbered Held → Numbered Held
heard_rec r = cond (is_idle r.it.ctl) r (mark r.no (held closed r.it.job))

abbrev pub left_rec : Numbered Held → Outcome (Numbered Held) (numbered control).at.E → Numbered Held
left_rec r refused = r
left_rec r (acts q l p) = q

-- and so says the machine
pub heard_is : (sd : Side) (r : Numbered Held) → is_idle r.it.ctl ≡ false → left_rec r ((numbered control).at.p_abort sd r) ≡ heard_rec r
heard_is sd r e = ap (left_rec r) (lost_closes sd r.no r.it.job r.it.ctl e) ∙ ap
    (λ (b : Bool). cond b r (mark r.no (held closed r.it.job))) (sym e)

-- hearing twice is hearing once
pub heard_once : (r : Numbered Held) → heard_rec (heard_rec r) ≡ heard_rec r
heard_once r = go (is_idle r.it.ctl) refl
  where
    go : (b : Bool) → is_idle r.it.ctl ≡ b
        → heard_rec (cond b r (mark r.no (held closed r.it.job))) ≡ cond b r (mark r.no (held closed r.it.job))
    go true e = ap (λ (b : Bool). cond b r (mark r.no (held closed r.it.job))) e
    go false e = refl
