-- A notice is never taken back or changed: what stands at its place stands there after every further step, over every restart. So a host that publishes it until the
-- broker has confirmed it, with its place as the number, publishes the same under one number.
-- Assumes nothing.
use mathlib.Core.Path.{◌≡◌, refl, ap, sym, ◌∙◌, subst}
use mathlib.Core.Bool.{Bool, true, false, not, cond, ◌&&◌, ◌||◌}
use mathlib.Core.List.{List, [], ◌++◌, append-nil, append_assoc}
use Prim.Native.Nat.{ℕ}
use lib.Dec.{eqb}
use Rattle.pair.specs.Names.{Side}
use Rattle.pair.specs.Carrier.{nothing, puts, message, Outcome, refused, acts, Step, user_call, hand_over}
use Rattle.pair.specs.Numbered.{NMachine, NSys, n_stepped}
use Rattle.duties.specs.Memory.{Notice, Notes, is_decided, tells, told_ended, told_broken, Took}
use Rattle.duties.specs.Host.{right, Host, Hosts, Act, deliver, lay_aside, happens, end_confirmed_of, shows, release, acknowledge, connection_released, give_up, keep, power_fails, cut_off, carrier_fails, Power, up, apart, down, ready, afterwards, sends_job, taking, refusing, passes, offered, delivered, laid_aside, arrived, may_happen, sees_break, happened, end_arrives, ending, acknowledges, sees_release, settled, lost, acted, alone, waited, powered, d_stepped}
use Rattle.duties.proofs.Steps.{DGood}

pub record Grows (a b : List Notice) : Type 0 where
  pub rest : List Notice
  pub joined : a ++ rest ≡ b

pub grows_refl : (a : List Notice) → Grows a a
grows_refl a = record { rest = []; joined = append-nil a }

grows_by : (a b : List Notice) → Grows a (a ++ b)
grows_by a b = record { rest = b; joined = refl }

pub grows_trans : (a b c : List Notice) → Grows a b → Grows b c → Grows a c
grows_trans a b c x y = record { rest = x.rest ++ y.rest; joined = sym (append_assoc a x.rest y.rest) ∙ ap (λ (l : List Notice). l ++ y.rest) x.joined ∙ y.joined }

-- of both hosts
pub record Stays (m : NMachine) (s t : Hosts m) : Type 0 where
  pub near : Grows s.here.notes.notices t.here.notes.notices
  pub far : Grows s.there.notes.notices t.there.notes.notices

module _ (m : NMachine) (letter : Side → ℕ → m.at.A) (fresh : Side → m.at.R) (accepts : m.at.E → Bool) where
  pub stays_refl : (s : Hosts m) → Stays m s s
  stays_refl s = record { near = grows_refl s.here.notes.notices; far = grows_refl s.there.notes.notices }

  -- the other host has nothing to do with it
  alone_stays : (s : Hosts m) (e : NSys m) (x : Host m) → Grows s.here.notes.notices x.notes.notices → Stays m s (record { ends = e; here = x; there = s.there })
  alone_stays s e x g = record { near = g; far = grows_refl s.there.notes.notices }

  either : (b : Bool) (s t u : Hosts m) → Stays m s t → Stays m s u → Stays m s (cond b t u)
  either true s t u p q = p
  either false s t u p q = q

  after_grows : (broke : Bool) (r q : m.at.R) (n : Notes)
      → Grows n.notices (afterwards m right letter fresh accepts broke r q n).notices
  after_grows broke r q n = go (broke || not (eqb (m.holds r) (m.holds q)))
    where
      go : (b : Bool) → Grows n.notices (cond b (tells told_broken n) n).notices
      go true = grows_by n.notices _
      go false = grows_refl n.notices

  refusing_stays : (s : Hosts m) (j : ℕ) → Stays m s (refusing m right letter fresh accepts s j)
  refusing_stays s j = alone_stays s s.ends (refusing m right letter fresh accepts s j).here (grows_by s.here.notes.notices _)

  taking_stays : (may : Bool) (sd : Side) (s : Hosts m) (j : ℕ) (k : Took) → Stays m s (taking m right letter fresh accepts may sd s j k)
  taking_stays may sd s j k =
      let t = n_stepped m may sd s.ends (user_call (letter sd j) 0) in
      alone_stays s t (taking m right letter fresh accepts may sd s j k).here
      (after_grows false s.ends.here.rec t.here.rec s.here.notes)

  offered_stays : (may : Bool) (sd : Side) (s : Hosts m) (j : ℕ) (o : Outcome m.at.R m.at.E)
      → Stays m s (offered m right letter fresh accepts may sd s j o)
  offered_stays may sd s j refused = refusing_stays s j
  offered_stays may sd s j (acts r l nothing) = stays_refl s
  offered_stays may sd s j (acts r l (puts e)) = stays_refl s
  offered_stays may sd s j (acts r l (message e b i)) = either (sends_job m right letter fresh accepts j r e i) s (taking m right letter fresh accepts may sd s j (record { job = j; no = m.carries e; body = b })) s (taking_stays may sd s j (record { job = j; no = m.carries e; body = b })) (stays_refl s)

  delivered_stays : (may : Bool) (sd : Side) (s : Hosts m) (j : ℕ) → Stays m s (delivered m right letter fresh accepts may sd s j)
  delivered_stays may sd s j = either (passes m right letter fresh accepts s j) s s
      (offered m right letter fresh accepts may sd s j (m.at.call sd s.ends.here.rec (letter sd j)))
      (stays_refl s) (offered_stays may sd s j (m.at.call sd s.ends.here.rec (letter sd j)))

  aside_stays : (s : Hosts m) (j : ℕ) → Stays m s (laid_aside m right letter fresh accepts s j)
  aside_stays s j = either (is_decided (s.here.notes.decision j)) s s (refusing m right letter fresh accepts s j)
      (stays_refl s) (refusing_stays s j)

  happened_stays : (may : Bool) (sd : Side) (s : Hosts m) (c : Step m.at.A)
      → Stays m s (happened m right letter fresh accepts may sd s c)
  happened_stays may sd s c = alone_stays s (n_stepped m may sd s.ends c)
      (happened m right letter fresh accepts may sd s c).here (after_grows
      (sees_break m right letter fresh accepts sd s.ends c) s.ends.here.rec
      (n_stepped m may sd s.ends c).here.rec s.here.notes)

  ending_stays : (may : Bool) (sd : Side) (s : Hosts m) → Stays m s (ending m right letter fresh accepts may sd s)
  ending_stays may sd s = alone_stays s (n_stepped m may sd s.ends (hand_over 0))
      (ending m right letter fresh accepts may sd s).here (grows_by s.here.notes.notices _)

  acked_stays : (s : Hosts m) (j : ℕ) → Stays m s (record { ends = s.ends; here = acknowledges m right letter fresh accepts j s.here; there = s.there })
  acked_stays s j = alone_stays s s.ends (acknowledges m right letter fresh accepts j s.here)
      (go (is_decided (s.here.kept.decision j)))
    where
      go : (b : Bool) → Grows s.here.notes.notices (cond b (record { notes = s.here.notes; kept = s.here.kept; kept_rec = s.here.kept_rec; unsent = s.here.unsent; power = s.here.power; done = λ (i : ℕ). eqb i j || s.here.done i; log = s.here.log; waiting = s.here.waiting; seen = s.here.seen }) s.here).notes.notices
      go true = grows_refl s.here.notes.notices
      go false = grows_refl s.here.notes.notices

  -- what comes up is what was kept
  lost_stays : (sd : Side) (s : Hosts m) → DGood m s → Stays m s (lost m right letter fresh accepts sd s)
  lost_stays sd s g = alone_stays s (lost m right letter fresh accepts sd s).ends
      (lost m right letter fresh accepts sd s).here (subst
      (λ (n : Notes). Grows s.here.notes.notices n.notices) (sym g.near.notes_kept)
      (grows_refl s.here.notes.notices))

  acted_stays : (may : Bool) (sd : Side) (s : Hosts m) (a : Act m.at.A) → DGood m s
      → Stays m s (acted m right letter fresh accepts may sd s a)
  acted_stays may sd s (deliver j) g = either (ready m right letter fresh accepts s.here) s
      (delivered m right letter fresh accepts may sd s j) s (delivered_stays may sd s j) (stays_refl s)
  acted_stays may sd s (lay_aside j) g = aside_stays s j
  acted_stays may sd s (happens c) g = either
      (ready m right letter fresh accepts s.here && may_happen m right letter fresh accepts sd s c) s
      (happened m right letter fresh accepts may sd s c) s (happened_stays may sd s c) (stays_refl s)
  acted_stays may sd s end_confirmed_of g = either (ready m right letter fresh accepts s.here && (arrived m right letter
      fresh accepts s && end_arrives m accepts sd s.ends.here.rec s.ends.there.line)) s
      (ending m right letter fresh accepts may sd s) s (ending_stays may sd s) (stays_refl s)
  acted_stays may sd s shows g = record { near = grows_refl s.here.notes.notices; far = grows_refl s.there.notes.notices }
  acted_stays may sd s release g = record { near = grows_refl s.here.notes.notices; far = grows_refl s.there.notes.notices }
  acted_stays may sd s (acknowledge j) g = acked_stays s j
  acted_stays may sd s connection_released g = either (sees_release m right letter fresh accepts s.ends) s
      (settled m right letter fresh accepts told_ended s) s (alone_stays s s.ends
      (settled m right letter fresh accepts told_ended s).here (grows_by s.here.notes.notices _))
      (stays_refl s)
  acted_stays may sd s give_up g = alone_stays s s.ends (settled m right letter fresh accepts told_broken s).here
      (grows_by s.here.notes.notices _)
  acted_stays may sd s keep g = record { near = grows_refl s.here.notes.notices; far = grows_refl s.there.notes.notices }
  acted_stays may sd s power_fails g = lost_stays sd s g
  acted_stays may sd s cut_off g = record { near = grows_by s.here.notes.notices _; far = grows_refl s.there.notes.notices }
  acted_stays may sd s carrier_fails g = record { near = grows_by s.here.notes.notices _; far = grows_by s.there.notes.notices _ }

  lone_stays : (sd : Side) (s : Hosts m) (a : Act m.at.A) → DGood m s → Stays m s (alone m right letter fresh accepts sd s a)
  lone_stays sd s (deliver j) g = aside_stays s j
  lone_stays sd s (lay_aside j) g = aside_stays s j
  lone_stays sd s (happens c) g = stays_refl s
  lone_stays sd s end_confirmed_of g = stays_refl s
  lone_stays sd s shows g = record { near = grows_refl s.here.notes.notices; far = grows_refl s.there.notes.notices }
  lone_stays sd s release g = stays_refl s
  lone_stays sd s (acknowledge j) g = acked_stays s j
  lone_stays sd s connection_released g = stays_refl s
  lone_stays sd s give_up g = stays_refl s
  lone_stays sd s keep g = stays_refl s
  lone_stays sd s power_fails g = lost_stays sd s g
  lone_stays sd s cut_off g = stays_refl s
  lone_stays sd s carrier_fails g = record { near = grows_by s.here.notes.notices _; far = grows_by s.there.notes.notices _ }

  waited_stays : (sd : Side) (s : Hosts m) (a : Act m.at.A) → Stays m s (waited m right letter fresh accepts sd s a)
  waited_stays sd s (deliver j) = stays_refl s
  waited_stays sd s (lay_aside j) = stays_refl s
  waited_stays sd s (happens c) = stays_refl s
  waited_stays sd s end_confirmed_of = stays_refl s
  waited_stays sd s shows = stays_refl s
  waited_stays sd s release = stays_refl s
  waited_stays sd s (acknowledge j) = stays_refl s
  waited_stays sd s connection_released = stays_refl s
  waited_stays sd s give_up = stays_refl s
  waited_stays sd s keep = stays_refl s
  waited_stays sd s power_fails = stays_refl s
  waited_stays sd s cut_off = record { near = grows_by s.here.notes.notices _; far = grows_refl s.there.notes.notices }
  waited_stays sd s carrier_fails = record { near = grows_by s.here.notes.notices _; far = grows_by s.there.notes.notices _ }

  pub step_stays : (may : Bool) (sd : Side) (s : Hosts m) (a : Act m.at.A) → DGood m s
      → Stays m s (d_stepped m right letter fresh accepts may sd s a)
  step_stays may sd s a g = go s.here.power
    where
      go : (p : Power) → Stays m s (powered m right letter fresh accepts p may sd s a)
      go up = acted_stays may sd s a g
      go apart = lone_stays sd s a g
      go down = waited_stays sd s a
