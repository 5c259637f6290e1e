-- The promise of two centres whose hosts keep their duties: over any machine that is a centre as crate pair asks, and whose answers are true (Laws).
-- Assumes nothing.
use mathlib.Core.Path.{◌≡◌, refl, ap, sym, ◌∙◌, subst}
use mathlib.Core.Bool.{Bool, true, false, not, cond, ◌&&◌}
use mathlib.Core.List.{List, [], ◌∷◌, ◌++◌}
use Prim.Native.Nat.{ℕ, ◌+◌, ◌≤◌}
use native.Mathlib.Omega.{arith}
use lib.Dec.{eqb}
use Rattle.pair.specs.Names.{Side, Ground}
use Rattle.pair.specs.Carrier.{nothing, puts, message, Outcome, refused, acts, Step, user_call, hand_over, fail, idle, is_start}
use Rattle.pair.specs.Numbered.{NMachine, NSys, n_swap, n_ready, n_fresh}
use Rattle.pair.specs.Centres.{CentreTurn, centre_turned, centre_run}
use Rattle.pair.proofs.TwoCentres.{Centre, centres_idle}
use Rattle.duties.specs.Memory.{Decision, undecided, job_taken, job_refused, Notes, is_decided, one, count, fates, says_ended, says_refused, Took}
use Rattle.duties.specs.Host.{Power, up, apart, down, right, Hosts, ready, refusing, laid_aside, arrived, released, with_rec}
use Rattle.duties.proofs.Keeps.{is_taken, is_refused}
use Rattle.forward_duties.specs.Desks.{Result, none, success, another, Words, Desks, Job, deliver, lay_aside, acknowledge, give_up, Event, happens, shows, release, power_fails, cut_off, carrier_fails, Move, job, answered, at, letter, accepts, taking, offered, delivered, served, may_happen, happened, heard_result, told, is_up_of, gets_answer, showing, releasing, occurs, swapped, f_moved, f_run, f_fresh}
use Rattle.forward_duties.specs.Promise.{often, ForwardPromise}
use Rattle.forward_duties.proofs.Laws.{Truth}
use Rattle.forward_duties.proofs.Numbers.{clash, and_second, all_map, often_most, often_zero}
use Rattle.forward_duties.proofs.Tally.{Never}
use Rattle.forward_duties.proofs.State.{rests, HoldsOf, either}
use Rattle.forward_duties.proofs.Forwarding.{served_holds, happened_holds, answer_told, lost_holds, cut_holds, host_holds}
use Rattle.forward_duties.proofs.Getting.{got_holds, shown_holds, left_holds, gone_holds, parted_holds, fails_here, fails_there}

refused_is : (d : Decision) → 1 ≤ one (is_refused d) → one (is_taken d) ≡ 0
refused_is undecided h = refl
refused_is job_taken h = absurd (omega (arith, h))
refused_is job_refused h = refl

one_most : (b : Bool) → one b ≤ 1
one_most true = omega arith
one_most false = omega arith

module _ (m : NMachine) (c : Centre m) (w : Words m) (k : Truth m c w) (order : m.at.R → ℕ → m.at.A) (fresh : Side → m.at.R) where
  abbrev L : Side → ℕ → m.at.A
  L = letter m w right order fresh

  abbrev A : m.at.E → Bool
  A = accepts m w right order fresh

  abbrev Good : Hosts m → List ℕ → Type 0
  Good s dl = HoldsOf m c w k s dl

  -- ---- an event at the centre that forwards

  shows_here : (s : Hosts m) (dl : List ℕ) → Good s dl → Good (showing m w right order fresh s) dl
  shows_here s dl g = host_holds m c w k order fresh s.ends s.here (showing m w right order fresh s).here
      s.there dl g refl refl refl refl refl

  leaves_here : (s : Hosts m) (dl : List ℕ) → Good s dl → Good (releasing m w right order fresh s) dl
  leaves_here s dl g =
      either m c w k (ready m right L fresh A s.here) (record { ends = s.ends; here = released m right L fresh A s.here; there = s.there }) s dl
      (λ (b : ready m right L fresh A s.here ≡ true). host_holds m c w k order fresh s.ends s.here
      (released m right L fresh A s.here) s.there dl g refl refl refl refl refl)
      (λ (b : ready m right L fresh A s.here ≡ false). g)

  here_keeps : (p : Power) (s : Hosts m) (dl : List ℕ) (a : Event m.at.A) → Good s dl
      → Good (occurs m w right order fresh true p s a) dl
  here_keeps up s dl (happens v) g =
      either m c w k (ready m right L fresh A s.here && may_happen m w right order fresh s v)
      (happened m w right order fresh true s v) s dl
      (λ (b : (ready m right L fresh A s.here && may_happen m w right order fresh s v) ≡ true). happened_holds m c w
      k order fresh s dl v
      (and_second (ready m right L fresh A s.here) (may_happen m w right order fresh s v) b) g)
      (λ (b : (ready m right L fresh A s.here && may_happen m w right order fresh s v) ≡ false). g)
  here_keeps apart s dl (happens v) g = g
  here_keeps down s dl (happens v) g = g
  here_keeps up s dl shows g = shows_here s dl g
  here_keeps apart s dl shows g = shows_here s dl g
  here_keeps down s dl shows g = g
  here_keeps up s dl release g = leaves_here s dl g
  here_keeps apart s dl release g = g
  here_keeps down s dl release g = g
  here_keeps up s dl power_fails g = lost_holds m c w k order fresh s dl g
  here_keeps apart s dl power_fails g = lost_holds m c w k order fresh s dl g
  here_keeps down s dl power_fails g = g
  here_keeps up s dl cut_off g = cut_holds m c w k order fresh s dl g
  here_keeps apart s dl cut_off g = g
  here_keeps down s dl cut_off g = cut_holds m c w k order fresh s dl g
  here_keeps up s dl carrier_fails g = fails_here m c w k order fresh s dl g
  here_keeps apart s dl carrier_fails g = fails_here m c w k order fresh s dl g
  here_keeps down s dl carrier_fails g = fails_here m c w k order fresh s dl g

  -- ---- at the other one

  same : (s : Hosts m) (dl : List ℕ) → Good s dl → Good (swapped m w right order fresh (swapped m w right order fresh s)) dl
  same s dl g = record { ways = g.ways; near = g.near; far = g.far; rest = g.rest; who = g.who }

  happens_there : (s : Hosts m) (dl : List ℕ) (v : Step m.at.A) → Good s dl
      → Good (swapped m w right order fresh (occurs m w right order fresh false up (swapped m w right order fresh s) (happens v))) dl
  happens_there s dl v g = go s.there.waiting refl (may_happen m w right order fresh (swapped m w right order fresh s) v) refl
    where
      go : (b : Bool) → s.there.waiting ≡ b → (d : Bool)
          → may_happen m w right order fresh (swapped m w right order fresh s) v ≡ d
          → Good (swapped m w right order fresh (cond (not b && d) (happened m w right order fresh false (swapped m w right order fresh s) v) (swapped m w right order fresh s))) dl
      go true e d f = same s dl g
      go false e false f = same s dl g
      go false e true f = got_holds m c w k order fresh s dl v e f g

  there_keeps : (p : Power) (s : Hosts m) (dl : List ℕ) (a : Event m.at.A) → s.there.power ≡ p → Good s dl
      → Good (swapped m w right order fresh (occurs m w right order fresh false p (swapped m w right order fresh s) a)) dl
  there_keeps up s dl (happens v) q g = happens_there s dl v g
  there_keeps apart s dl (happens v) q g = same s dl g
  there_keeps down s dl (happens v) q g = same s dl g
  there_keeps up s dl shows q g = shown_holds m c w k order fresh s dl g
  there_keeps apart s dl shows q g = shown_holds m c w k order fresh s dl g
  there_keeps down s dl shows q g = same s dl g
  there_keeps up s dl release q g = left_holds m c w k order fresh s dl q g
  there_keeps apart s dl release q g = same s dl g
  there_keeps down s dl release q g = same s dl g
  there_keeps up s dl power_fails q g = gone_holds m c w k order fresh s dl g
  there_keeps apart s dl power_fails q g = gone_holds m c w k order fresh s dl g
  there_keeps down s dl power_fails q g = same s dl g
  there_keeps up s dl cut_off q g = parted_holds m c w k order fresh s dl g
  there_keeps apart s dl cut_off q g = same s dl g
  there_keeps down s dl cut_off q g = parted_holds m c w k order fresh s dl g
  there_keeps up s dl carrier_fails q g = fails_there m c w k order fresh s dl g
  there_keeps apart s dl carrier_fails q g = fails_there m c w k order fresh s dl g
  there_keeps down s dl carrier_fails q g = fails_there m c w k order fresh s dl g

  -- ---- each move is an event of the pair, or none

  data Follows (e t : NSys m) : Type 0 where
    stays : e ≡ t → Follows e t
    steps : (b : Bool) (v : Step m.at.A) → centre_turned m b e v ≡ t → Follows e t

  either_way : (b : Bool) (e : NSys m) (x y : Hosts m) → Follows e x.ends → Follows e y.ends → Follows e (cond b x y).ends
  either_way true e x y f g = f
  either_way false e x y f g = g

  offered_follows : (s : Hosts m) (j : ℕ) (o : Outcome m.at.R m.at.E)
      → Follows s.ends (offered m w right order fresh s j o).ends
  offered_follows s j refused = stays refl
  offered_follows s j (acts r l nothing) = stays refl
  offered_follows s j (acts r l (message e b i)) = stays refl
  offered_follows s j (acts r l (puts e)) = either_way (is_start m.at e && n_ready m s.ends) s.ends
      (taking m w right order fresh s j e) s (steps true (user_call (order s.ends.here.rec j) 0) refl) (stays refl)

  aside_follows : (s : Hosts m) (j : ℕ) → Follows s.ends (laid_aside m right L fresh A s j).ends
  aside_follows s j = either_way (is_decided (s.here.notes.decision j)) s.ends s (refusing m right L fresh A s j)
      (stays refl) (stays refl)

  served_follows : (p : Power) (s : Hosts m) (b : Job) → Follows s.ends (served m w right order fresh p s b).ends
  served_follows up s (deliver j) =
      either_way (ready m right L fresh A s.here) s.ends (delivered m w right order fresh s j) s
      (either_way (is_decided (s.here.notes.decision j)) s.ends s (offered m w right order fresh s j
      (m.at.call Ground s.ends.here.rec (order s.ends.here.rec j))) (stays refl)
      (offered_follows s j (m.at.call Ground s.ends.here.rec (order s.ends.here.rec j))))
      (stays refl)
  served_follows up s (lay_aside j) = aside_follows s j
  served_follows up s (acknowledge j) = stays refl
  served_follows up s give_up = stays refl
  served_follows apart s (deliver j) = aside_follows s j
  served_follows apart s (lay_aside j) = aside_follows s j
  served_follows apart s (acknowledge j) = stays refl
  served_follows apart s give_up = stays refl
  served_follows down s b = stays refl

  told_follows : (d : Desks m) (x : Result) → Follows d.both.ends (told m w right order fresh x d).both.ends
  told_follows d none = stays refl
  told_follows d success = steps true (hand_over 0) refl
  told_follows d another = steps true (hand_over 0) refl

  answer_follows : (d : Desks m) → Follows d.both.ends (gets_answer m w right order fresh d).both.ends
  answer_follows d = go (is_up_of m w right order fresh d.both.here.power &&
      (ready m right L fresh A d.both.here && arrived m right L fresh A d.both))
    where
      go : (b : Bool)
          → Follows d.both.ends (cond b (told m w right order fresh (heard_result m w right order fresh d.both.ends.here.rec d.both.ends.there.line) d) d).both.ends
      go true = told_follows d (heard_result m w right order fresh d.both.ends.here.rec d.both.ends.there.line)
      go false = stays refl

  here_follows : (p : Power) (s : Hosts m) (a : Event m.at.A) → s.here.kept_rec ≡ s.ends.here.rec
      → Follows s.ends (occurs m w right order fresh true p s a).ends
  here_follows up s (happens v) k = either_way
      (ready m right L fresh A s.here && may_happen m w right order fresh s v) s.ends
      (happened m w right order fresh true s v) s (steps true v refl) (stays refl)
  here_follows apart s (happens v) k = stays refl
  here_follows down s (happens v) k = stays refl
  here_follows up s shows k = stays refl
  here_follows apart s shows k = stays refl
  here_follows down s shows k = stays refl
  here_follows up s release k = either_way (ready m right L fresh A s.here) s.ends (record { ends = s.ends; here = released m right L fresh A s.here; there = s.there }) s (stays refl) (stays refl)
  here_follows apart s release k = stays refl
  here_follows down s release k = stays refl
  here_follows up s power_fails k = stays (ap (with_rec m right L fresh A s.ends) (sym k))
  here_follows apart s power_fails k = stays (ap (with_rec m right L fresh A s.ends) (sym k))
  here_follows down s power_fails k = stays refl
  here_follows up s cut_off k = stays refl
  here_follows apart s cut_off k = stays refl
  here_follows down s cut_off k = stays refl
  here_follows up s carrier_fails k = steps true fail refl
  here_follows apart s carrier_fails k = steps true fail refl
  here_follows down s carrier_fails k = steps true fail refl

  -- the other centre, whose ends are seen the other way round
  either_there : (b : Bool) (e : NSys m) (x y : Hosts m) → Follows e (n_swap m x.ends) → Follows e (n_swap m y.ends)
      → Follows e (n_swap m (cond b x y).ends)
  either_there true e x y f g = f
  either_there false e x y f g = g

  there_follows : (p : Power) (s : Hosts m) (a : Event m.at.A) → s.there.kept_rec ≡ s.ends.there.rec
      → Follows s.ends (n_swap m (occurs m w right order fresh false p (swapped m w right order fresh s) a).ends)
  there_follows up s (happens v) k =
      either_there
      (ready m right L fresh A s.there && may_happen m w right order fresh (swapped m w right order fresh s) v)
      s.ends (happened m w right order fresh false (swapped m w right order fresh s) v)
      (swapped m w right order fresh s) (steps false v refl) (stays refl)
  there_follows apart s (happens v) k = stays refl
  there_follows down s (happens v) k = stays refl
  there_follows up s shows k = stays refl
  there_follows apart s shows k = stays refl
  there_follows down s shows k = stays refl
  there_follows up s release k = either_there (ready m right L fresh A s.there) s.ends (record { ends = n_swap m s.ends; here = released m right L fresh A s.there; there = s.here }) (swapped m w right order fresh s) (stays refl) (stays refl)
  there_follows apart s release k = stays refl
  there_follows down s release k = stays refl
  there_follows up s power_fails k = stays (ap (λ (r : m.at.R). n_swap m (with_rec m right L fresh A (n_swap m s.ends) r)) (sym k))
  there_follows apart s power_fails k = stays (ap (λ (r : m.at.R). n_swap m (with_rec m right L fresh A (n_swap m s.ends) r)) (sym k))
  there_follows down s power_fails k = stays refl
  there_follows up s cut_off k = stays refl
  there_follows apart s cut_off k = stays refl
  there_follows down s cut_off k = stays refl
  there_follows up s carrier_fails k = steps false fail refl
  there_follows apart s carrier_fails k = steps false fail refl
  there_follows down s carrier_fails k = steps false fail refl

  -- ---- runs

  abbrev GoodDesks : Desks m → Type 0
  GoodDesks d = Good d.both d.declined

  move_keeps : (d : Desks m) (v : Move m.at.A) → GoodDesks d → GoodDesks (f_moved m w right order fresh d v)
  move_keeps d (job b) g = served_holds m c w k order fresh d.both.here.power d.both d.declined b g
  move_keeps d answered g = answer_told m c w k order fresh d g
  move_keeps d (at true a) g = here_keeps d.both.here.power d.both d.declined a g
  move_keeps d (at false a) g = there_keeps d.both.there.power d.both d.declined a refl g

  move_follows : (d : Desks m) (v : Move m.at.A) → GoodDesks d → Follows d.both.ends (f_moved m w right order fresh d v).both.ends
  move_follows d (job b) g = served_follows d.both.here.power d.both b
  move_follows d answered g = answer_follows d
  move_follows d (at true a) g = here_follows d.both.here.power d.both a g.near.rec_kept
  move_follows d (at false a) g = there_follows d.both.there.power d.both a g.far.kept

  promised : (d : Desks m) → GoodDesks d
      → (d.both.ends.here.line ≡ [] → d.both.ends.there.line ≡ [] → (idle m.at d.both.ends.here.rec ≡ true) × (idle m.at d.both.ends.there.rec ≡ true))
      → ForwardPromise m d
  promised d g i =
      let y = g.near.tally in
      let b = y.book in
      record {
        at_most_once = most;
        numbers_rise = g.ways.rise;
        shown_sent = g.far.ordered;
        refused_unsent = λ (j : ℕ) (p : 1 ≤ says_refused j d.both.here.notes.notices). b.logged j ∙ refused_is
            (d.both.here.notes.decision j) (subst (λ (n : ℕ). 1 ≤ n) (b.turned j) p);
        success_shown = λ (j : ℕ) (p : 1 ≤ says_ended j d.both.here.notes.notices)
            (q : count j d.declined ≡ 0). omega (arith, most j, y.ended j p q);
        declined_unshown = λ (j : ℕ) (p : 1 ≤ count j d.declined).
            often_zero d.both.there.seen j d.both.here.log (all_map (λ (x : Took). eqb x.job j ≡ true →
            Never m d.both.ends.there.rec d.both.there x.no)
            (λ (x : Took). eqb x.job j ≡ true → d.both.there.seen x.no ≡ 0) (λ (x : Took)
            (f : eqb x.job j ≡ true → Never m d.both.ends.there.rec d.both.there x.no)
            (e : eqb x.job j ≡ true). (f e).unseen) d.both.here.log (y.declined j p));
        declined_answered = y.told;
        acknowledged_decided = λ (j : ℕ) (p : d.both.here.done j ≡ true). subst
            (λ (n : Notes). is_decided (n.decision j) ≡ true) (sym g.near.notes_kept) (b.acked j p);
        one_fate = λ (j : ℕ). subst
            (λ (n : Notes). fates j n.notices + count j n.opened ≡ one (is_decided (n.decision j)))
            (sym g.near.notes_kept) (b.ledger j);
        both_idle = i;
      }
    where
      most : (j : ℕ) → often d.both.there.seen j d.both.here.log ≤ 1
      most j = often_most d.both.there.seen j d.both.here.log
          (omega (arith, g.near.tally.book.logged j, one_most (is_taken (d.both.here.notes.decision j))))
          g.far.most

  -- from any two records that rest, of which the one that forwards holds a number not below the other's
  module _ (r q : m.at.R) (hr : c.Rest r) (hq : c.Rest q) (b : m.holds q ≤ m.holds r) where
    begin : GoodDesks (f_fresh m w right order fresh r q)
    begin =
        record {
          ways = record { below = b; rise = tt; least = tt; out = tt };
          near = record {
            rec_kept = refl;
            notes_kept = refl;
            tally = record {
              book = record { logged = λ (n : ℕ). refl; ledger = λ (n : ℕ). refl; turned = λ (n : ℕ). refl; acked = λ (n : ℕ) (e : false ≡ true). clash (sym e) };
              present = λ (n : ℕ) (h : 1 ≤ 0). absurd (omega (arith, h));
              ended = λ (n : ℕ) (h : 1 ≤ 0) (e : count n [] ≡ 0). absurd (omega (arith, h));
              told = λ (n : ℕ). omega arith;
              declined = λ (n : ℕ) (h : 1 ≤ 0). absurd (omega (arith, h));
            };
            none_open = λ (h : c.Rest r). refl;
          };
          far = record { kept = refl; most = λ (n : ℕ). omega arith; past = λ (n : ℕ) (h : 1 ≤ 0). absurd (omega (arith, h)); ordered = λ (n : ℕ) (h : 1 ≤ 0). absurd (omega (arith, h)); unseen = λ (e : false ≡ true). clash (sym e); awaited = λ (e : false ≡ true). clash (sym e); back = tt; soon = λ (e : up ≡ up). tt; left = tt };
          rest = hq;
          who = rests hr;
        }

    record State (d : Desks m) : Type 0 where
      good : GoodDesks d
      turns : List (CentreTurn m.at.A)
      reached : centre_run m (n_fresh m r q) turns ≡ d.both.ends

    run_snoc : (ts : List (CentreTurn m.at.A)) (e : NSys m) (t : CentreTurn m.at.A)
        → centre_run m e (ts ++ (t ∷ [])) ≡ centre_turned m t.starting (centre_run m e ts) t.step
    unfolding centre_run
    run_snoc [] e t = refl
    run_snoc (x ∷ ts) e t = run_snoc ts (centre_turned m x.starting e x.step) t

    move_state : (d : Desks m) (v : Move m.at.A) → State d → State (f_moved m w right order fresh d v)
    move_state d v h = go (move_follows d v h.good)
      where
        go : Follows d.both.ends (f_moved m w right order fresh d v).both.ends → State (f_moved m w right order fresh d v)
        go (stays e) = record { good = move_keeps d v h.good; turns = h.turns; reached = h.reached ∙ e }
        go (steps s x e) = record { good = move_keeps d v h.good; turns = h.turns ++ (record { starting = s; step = x } ∷ []); reached = run_snoc h.turns (n_fresh m r q) (record { starting = s; step = x }) ∙ (ap (λ (y : NSys m). centre_turned m s y x) h.reached ∙ e) }

    run_state : (vs : List (Move m.at.A)) (d : Desks m) → State d → State (f_run m w right order fresh d vs)
    unfolding f_run
    run_state [] d h = h
    run_state (v ∷ vs) d h = run_state vs (f_moved m w right order fresh d v) (move_state d v h)

    begins : State (f_fresh m w right order fresh r q)
    unfolding centre_run
    begins = record { good = begin; turns = []; reached = refl }

    idle_both : (d : Desks m) → State d → d.both.ends.here.line ≡ [] → d.both.ends.there.line ≡ []
        → (idle m.at d.both.ends.here.rec ≡ true) × (idle m.at d.both.ends.there.rec ≡ true)
    idle_both d h = subst (λ (e : NSys m). e.here.line ≡ [] → e.there.line ≡ [] →
        (idle m.at e.here.rec ≡ true) × (idle m.at e.there.rec ≡ true)) h.reached
        (centres_idle m c r q hr hq b h.turns)

    -- THE theorem: after any moves of two centres, their hosts, a broker, the carrier and the power
    pub forwards_hold : (vs : List (Move m.at.A)) → ForwardPromise m (f_run m w right order fresh (f_fresh m w right order fresh r q) vs)
    forwards_hold vs =
        let h = run_state vs (f_fresh m w right order fresh r q) begins in
        promised (f_run m w right order fresh (f_fresh m w right order fresh r q) vs) h.good
        (idle_both (f_run m w right order fresh (f_fresh m w right order fresh r q) vs) h)
