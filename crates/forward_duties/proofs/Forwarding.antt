-- The moves of the centre that forwards: its jobs, its events, the answer.
-- Assumes nothing.
use mathlib.Core.Path.{◌≡◌, refl, ap, sym, ◌∙◌, subst}
use mathlib.Core.Bool.{Bool, true, false, not, cond, ◌&&◌, ◌||◌}
use mathlib.Core.List.{List, [], ◌∷◌, ◌++◌}
use Prim.Native.Nat.{ℕ, zero, suc, ◌≤◌, ◌<◌}
use native.Mathlib.Omega.{arith}
use borrow.Author.Tests.{eqb-true, eqb-false}
use lib.Dec.{T, eqb, ltb}
use lib.ListN.{length}
use Rattle.pair.specs.Names.{Side, Ground, waits}
use Rattle.pair.specs.Carrier.{Body, Sent, nothing, puts, message, Outcome, refused, acts, Sort, begins, breaks, plain, begins?, Step, user_call, hand_over, timer_expires_of, error_reported, turn_away, fail, idle, is_start, starts, discards}
use Rattle.pair.specs.Claims.{rising}
use Rattle.pair.specs.Numbered.{NMachine, NSys, trim, n_put, n_sent, n_left, n_did, n_ready, n_called, n_off, n_handed_over, start_of, n_has_start, n_without_start, n_recalled, n_told_lost}
use Rattle.pair.specs.Centres.{may_recall, recall}
use Rattle.pair.proofs.NumberedLines.{self}
use Rattle.pair.proofs.TwoCentres.{Begun, Back, Starts, Returns, Comes, Quiet, Refuses, Centre}
use Rattle.duties.specs.Memory.{Decision, undecided, job_taken, job_refused, Notes, is_decided, takes, declines, tells, told_ended, told_broken, one, count, Took}
use Rattle.duties.specs.Host.{Power, up, apart, down, right, Host, Hosts, commits, logs, ready, refusing, laid_aside, arrived, settled, with_rec, lost, told_of}
use Rattle.forward_duties.specs.Desks.{Result, none, success, another, Words, Desks, Job, deliver, lay_aside, acknowledge, give_up, letter, accepts, taking, offered, delivered, acknowledged, served, is_done, hands_out, forwards, may_happen, afterwards, happened, heard_result, told, is_up_of, gets_answer, cut_off_of}
use Rattle.forward_duties.specs.Promise.{numbers}
use Rattle.forward_duties.proofs.Laws.{Truth, result_of}
use Rattle.forward_duties.proofs.Numbers.{clash, and_first, and_second, All, all_map, all_snoc, all_cond, Left, rising_snoc, numbers_snoc, count_first}
use Rattle.forward_duties.proofs.Tally.{Never, Later, Tally, tally_later, tally_broken, tally_refused, tally_taken, tally_success, tally_another}
use Rattle.forward_duties.proofs.State.{In, ShownIf, Far, Out, Ways, Who, rests, gone, Holds, HoldsOf, either, far_log}

undecided_is : (d : Decision) → is_decided d ≡ false → d ≡ undecided
undecided_is undecided e = refl
undecided_is job_taken e = clash e
undecided_is job_refused e = clash e

module _ (m : NMachine) (c : Centre m) (w : Words m) (k : Truth m c w) (order : m.at.R → ℕ → m.at.A) (fresh : Side → m.at.R) where
  abbrev L : Side → ℕ → m.at.A
  L = letter m w right order fresh

  abbrev A : m.at.E → Bool
  A = accepts m w right order fresh

  abbrev pub keeps : m.at.R → Notes → ℕ → Bool → Host m → Host m
  keeps r n more out x = commits m right L fresh A r n more out x

  -- ---- jobs, and nothing else

  noted : (e : NSys m) (a z : Host m) (dl : List ℕ) (n : Notes) → Holds m c w k e a z dl
      → Tally m (m.holds e.here.rec) n a.log a.done e.there.rec z dl
      → (c.Rest e.here.rec → n.opened ≡ []) → Holds m c w k e (keeps e.here.rec n a.unsent false a) z dl
  noted e a z dl n g t o = record { ways = g.ways; near = record { rec_kept = refl; notes_kept = refl; tally = t; none_open = o }; far = g.far; rest = g.rest; who = g.who }

  refused_holds : (s : Hosts m) (dl : List ℕ) (j : ℕ) → HoldsOf m c w k s dl
      → is_decided (s.here.notes.decision j) ≡ false → HoldsOf m c w k (refusing m right L fresh A s j) dl
  refused_holds s dl j g d =
      noted s.ends s.here s.there dl (declines j s.here.notes) g
      (tally_refused m (m.holds s.ends.here.rec) s.here.notes s.here.log s.here.done
      s.ends.there.rec s.there dl g.near.tally j (undecided_is (s.here.notes.decision j) d))
      g.near.none_open

  aside_holds : (s : Hosts m) (dl : List ℕ) (j : ℕ) → HoldsOf m c w k s dl → HoldsOf m c w k (laid_aside m right L fresh A s j) dl
  aside_holds s dl j g = either m c w k (is_decided (s.here.notes.decision j)) s (refusing m right L fresh A s j) dl
      (λ (e : is_decided (s.here.notes.decision j) ≡ true). g) (refused_holds s dl j g)

  give_up_holds : (s : Hosts m) (dl : List ℕ) → HoldsOf m c w k s dl → HoldsOf m c w k (settled m right L fresh A told_broken s) dl
  give_up_holds s dl g =
      noted s.ends s.here s.there dl (tells told_broken s.here.notes) g
      (tally_broken m (m.holds s.ends.here.rec) s.here.notes s.here.log s.here.done
      s.ends.there.rec s.there dl g.near.tally (m.holds s.ends.here.rec))
      (λ (r : c.Rest s.ends.here.rec). refl)

  acknowledged_holds : (s : Hosts m) (dl : List ℕ) (j : ℕ) → HoldsOf m c w k s dl
      → HoldsOf m c w k (acknowledged m w right order fresh s j) dl
  acknowledged_holds s dl j g = go (is_decided (s.here.kept.decision j)) refl
    where
      more : Host m
      more = record { notes = s.here.notes; kept = s.here.kept; kept_rec = s.here.kept_rec; unsent = s.here.unsent; power = s.here.power; done = λ (i : ℕ). eqb i j || s.here.done i; log = s.here.log; waiting = s.here.waiting; seen = s.here.seen }

      acked : is_decided (s.here.kept.decision j) ≡ true → (i : ℕ) (b : Bool) → eqb i j ≡ b
          → (b || s.here.done i) ≡ true → is_decided (s.here.notes.decision i) ≡ true
      acked d i true e f = subst (λ (n : ℕ). is_decided (s.here.notes.decision n) ≡ true) (sym (eqb-true i j e))
          (subst (λ (n : Notes). is_decided (n.decision j) ≡ true) g.near.notes_kept d)
      acked d i false e f = g.near.tally.book.acked i f

      go : (b : Bool) → is_decided (s.here.kept.decision j) ≡ b → Holds m c w k s.ends (cond b more s.here) s.there dl
      go false e = g
      go true e =
          let y = g.near.tally in
          let b = y.book in
          record {
            ways = g.ways;
            near = record {
              rec_kept = g.near.rec_kept;
              notes_kept = g.near.notes_kept;
              tally = record { book = record { logged = b.logged; ledger = b.ledger; turned = b.turned; acked = λ (i : ℕ) (f : (eqb i j || s.here.done i) ≡ true). acked e i (eqb i j) refl f }; present = y.present; ended = y.ended; told = y.told; declined = y.declined };
              none_open = g.near.none_open;
            };
            far = g.far;
            rest = g.rest;
            who = g.who;
          }

  -- ---- a job is taken

  apart_from : (r : m.at.R) → c.Rest r → c.Away r → ⊥
  apart_from r p q = clash (sym (c.rest_idle r p) ∙ c.away_idle r q)

  -- the call's outcome is o
  abbrev taking_by : Hosts m → ℕ → m.at.E → Outcome m.at.R m.at.E → Hosts m
  taking_by s j e o =
      let t = n_called m true s.ends o 0 in
      record { ends = t; here = logs m right L fresh A (record { job = j; no = m.carries e; body = [] }) (keeps t.here.rec (takes j s.here.notes) (suc s.here.unsent) false s.here); there = s.there }

  taken_holds : (s : Hosts m) (dl : List ℕ) (j : ℕ) (q : m.at.R) (l : List Body) (e : m.at.E) → HoldsOf m c w k s dl
      → c.Rest s.ends.here.rec → s.here.notes.decision j ≡ undecided
      → Begun m c.Away c.Good s.ends.here.rec q e → (is_start m.at e && n_ready m s.ends) ≡ true
      → HoldsOf m c w k (taking_by s j e (acts q l (puts e))) dl
  taken_holds s dl j q l e g r u b f = go (m.at.sort e) (and_first (is_start m.at e) (n_ready m s.ends) f)
      (n_ready m s.ends) (and_second (is_start m.at e) (n_ready m s.ends) f)
    where
      x : Took
      x = record { job = j; no = m.carries e; body = [] }

      log : List Took
      log = s.here.log ++ (record { job = j; no = m.carries e; body = [] } ∷ [])

      sent : numbers (s.here.log ++ (record { job = j; no = m.carries e; body = [] } ∷ [])) ≡ numbers s.here.log ++ (m.carries e ∷ [])
      sent = numbers_snoc s.here.log (record { job = j; no = m.carries e; body = [] })

      before : m.holds s.ends.here.rec < m.carries e
      before = omega (arith, b.above, b.number)

      more : (n : ℕ) → 1 ≤ count n (numbers s.here.log) → 1 ≤ count n (numbers (s.here.log ++ (record { job = j; no = m.carries e; body = [] } ∷ [])))
      more n p = subst (λ (i : List ℕ). 1 ≤ count n i) (sym sent)
          (omega (arith, p, count_first n (numbers s.here.log) (m.carries e ∷ [])))

      last : (n : ℕ) (i : List ℕ) → 1 ≤ count n (i ++ (n ∷ []))
      last n [] = omega (arith, ap one (self n))
      last n (y ∷ i) = omega (arith, last n i)

      go : (so : Sort) → begins? so ≡ true → (ry : Bool) → ry ≡ true
          → Holds m c w k (cond (not (begins? so) || (true && ry)) (n_left m (n_put m so s.ends e 0) q l) s.ends) (logs m right L fresh A x (keeps (cond (not (begins? so) || (true && ry)) (n_left m (n_put m so s.ends e 0) q l) s.ends).here.rec (takes j s.here.notes) (suc s.here.unsent) false s.here)) s.there dl
      go breaks h ry p = clash (sym h)
      go plain h ry p = clash (sym h)
      go begins h false p = clash (sym p)
      go begins h true p =
          record {
            ways = record {
              below = omega (arith, g.ways.below, b.above);
              rise = subst (λ (i : List ℕ). T (rising 0 i)) (sym sent) (rising_snoc 0 (m.holds s.ends.here.rec)
                  (m.carries e) (numbers s.here.log) g.ways.rise g.ways.least (omega arith) before);
              least = subst (All (λ (n : ℕ). n ≤ m.holds q)) (sym sent) (all_snoc (λ (n : ℕ). n ≤ m.holds q)
                  (numbers s.here.log) (m.carries e) (all_map (λ (n : ℕ). n ≤ m.holds s.ends.here.rec)
                  (λ (n : ℕ). n ≤ m.holds q)
                  (λ (n : ℕ) (y : n ≤ m.holds s.ends.here.rec). omega (arith, y, b.above))
                  (numbers s.here.log) g.ways.least) (omega (arith, b.number)));
              out = all_snoc (Out m c w k q log) s.ends.here.line e
                  (all_map (Out m c w k s.ends.here.rec s.here.log) (Out m c w k q log) (λ (y : m.at.E)
                  (f : Out m c w k s.ends.here.rec s.here.log y) (v : is_start m.at y ≡ true).
                  ((f v).0, (omega (arith, (f v).1.0, b.above), more (m.carries y) (f v).1.1)))
                  s.ends.here.line g.ways.out)
                  (λ (v : is_start m.at e ≡ true). (
                    b.good,
                    (
                      omega (arith, b.number),
                      subst
                          (λ (i : List ℕ). 1 ≤ count (m.carries e) i) (sym sent)
                          (last (m.carries e) (numbers s.here.log)),
                    ),
                  ));
            };
            near = record {
              rec_kept = refl;
              notes_kept = refl;
              tally = subst (λ (v : ℕ). Tally m v (takes j s.here.notes) log s.here.done s.ends.there.rec
                  s.there dl) b.number
                  (tally_taken m (m.holds s.ends.here.rec) s.here.notes s.here.log s.here.done
                  s.ends.there.rec s.there dl g.near.tally j (m.carries e) u (g.near.none_open r));
              none_open = λ (y : c.Rest q). absurd (apart_from q y b.away);
            };
            far = far_log m c w k s.here.log x s.ends.there.rec s.ends.there.line s.there g.far;
            rest = g.rest;
            who = gone b.away;
          }

  offered_rest : (s : Hosts m) (dl : List ℕ) (j : ℕ) (o : Outcome m.at.R m.at.E)
      → m.at.call Ground s.ends.here.rec (order s.ends.here.rec j) ≡ o → HoldsOf m c w k s dl
      → is_decided (s.here.notes.decision j) ≡ false → c.Rest s.ends.here.rec
      → Starts m c.Away c.Good s.ends.here.rec o → HoldsOf m c w k (offered m w right order fresh s j o) dl
  offered_rest s dl j refused q g d r b = refused_holds s dl j g d
  offered_rest s dl j (acts p l nothing) q g d r b = absurd b
  offered_rest s dl j (acts p l (message e x i)) q g d r b = absurd b
  offered_rest s dl j (acts p l (puts e)) q g d r b =
      either m c w k (is_start m.at e && n_ready m s.ends) (taking m w right order fresh s j e) s dl
      (λ (f : (is_start m.at e && n_ready m s.ends) ≡ true). subst
      (λ (o : Outcome m.at.R m.at.E). HoldsOf m c w k (taking_by s j e o) dl) (sym q)
      (taken_holds s dl j p l e g r (undecided_is (s.here.notes.decision j) d) b f))
      (λ (f : (is_start m.at e && n_ready m s.ends) ≡ false). g)

  offered_away : (s : Hosts m) (dl : List ℕ) (j : ℕ) (o : Outcome m.at.R m.at.E) → HoldsOf m c w k s dl
      → is_decided (s.here.notes.decision j) ≡ false → Returns m c.Rest s.ends.here.rec o
      → HoldsOf m c w k (offered m w right order fresh s j o) dl
  offered_away s dl j refused g d b = refused_holds s dl j g d
  offered_away s dl j (acts p l nothing) g d b = g
  offered_away s dl j (acts p l (message e x i)) g d b = g
  offered_away s dl j (acts p l (puts e)) g d b =
      either m c w k (is_start m.at e && n_ready m s.ends) (taking m w right order fresh s j e) s dl
      (λ (f : (is_start m.at e && n_ready m s.ends) ≡ true). clash
      (sym (and_first (is_start m.at e) (n_ready m s.ends) f) ∙ b.calm))
      (λ (f : (is_start m.at e && n_ready m s.ends) ≡ false). g)

  delivered_holds : (s : Hosts m) (dl : List ℕ) (j : ℕ) → HoldsOf m c w k s dl → HoldsOf m c w k (delivered m w right order fresh s j) dl
  delivered_holds s dl j g =
      either m c w k (is_decided (s.here.notes.decision j)) s
      (offered m w right order fresh s j (m.at.call Ground s.ends.here.rec (order s.ends.here.rec j)))
      dl (λ (e : is_decided (s.here.notes.decision j) ≡ true). g)
      (λ (e : is_decided (s.here.notes.decision j) ≡ false). go e g.who)
    where
      go : is_decided (s.here.notes.decision j) ≡ false → Who m c w k s.ends.here.rec
          → HoldsOf m c w k (offered m w right order fresh s j (m.at.call Ground s.ends.here.rec (order s.ends.here.rec j))) dl
      go d (rests r) = offered_rest s dl j (m.at.call Ground s.ends.here.rec (order s.ends.here.rec j)) refl
          g d r (c.call_rest s.ends.here.rec (order s.ends.here.rec j) r)
      go d (gone a) = offered_away s dl j (m.at.call Ground s.ends.here.rec (order s.ends.here.rec j)) g d
          (c.call_away s.ends.here.rec (order s.ends.here.rec j) a)

  pub served_holds : (d : Power) (s : Hosts m) (dl : List ℕ) (b : Job) → HoldsOf m c w k s dl
      → HoldsOf m c w k (served m w right order fresh d s b) dl
  served_holds up s dl (deliver j) g = either m c w k (ready m right L fresh A s.here)
      (delivered m w right order fresh s j) s dl
      (λ (e : ready m right L fresh A s.here ≡ true). delivered_holds s dl j g)
      (λ (e : ready m right L fresh A s.here ≡ false). g)
  served_holds up s dl (lay_aside j) g = aside_holds s dl j g
  served_holds up s dl (acknowledge j) g = acknowledged_holds s dl j g
  served_holds up s dl give_up g = give_up_holds s dl g
  served_holds apart s dl (deliver j) g = aside_holds s dl j g
  served_holds apart s dl (lay_aside j) g = aside_holds s dl j g
  served_holds apart s dl (acknowledge j) g = acknowledged_holds s dl j g
  served_holds apart s dl give_up g = g
  served_holds down s dl b g = g

  -- ---- an event brings the record back to rest, or leaves it

  data How (h q : m.at.R) : Type 0 where
    stays : h ≡ q → How h q
    back : c.Rest q → How h q

  record Came (s t : NSys m) (log : List Took) : Type 0 where
    ways : Ways m c w k t.here.rec t.there.rec t.here.line log
    number : m.holds t.here.rec ≡ m.holds s.here.rec
    rec_there : t.there.rec ≡ s.there.rec
    line_there : t.there.line ≡ s.there.line
    how : How s.here.rec t.here.rec

  all_trim : (P : m.at.E → Type 0) (n i : ℕ) (l : List m.at.E) → All P l → All P (trim m n i l)
  all_trim P n zero [] h = tt
  all_trim P n (suc i) [] h = tt
  all_trim P n zero (e ∷ l) h = all_cond P (eqb (m.carries e) n) _ _ (all_trim P n zero l h.1) (h.0, all_trim P n zero l h.1)
  all_trim P n (suc i) (e ∷ l) h = all_cond P (eqb (m.carries e) n) _ _ (h.0, all_trim P n i l h.1)
      (h.0, all_trim P n (suc i) l h.1)

  all_without : (P : m.at.E → Type 0) (n : ℕ) (l : List m.at.E) → All P l → All P (n_without_start m n l)
  all_without P n [] h = tt
  all_without P n (e ∷ l) h = all_cond P (start_of m n e) _ _ h.1 (h.0, all_without P n l h.1)

  -- what is sent is no start
  record Calm (s t : NSys m) (h : m.at.R) (log : List Took) : Type 0 where
    out : All (Out m c w k h log) t.here.line
    rec : t.there.rec ≡ s.there.rec
    line : t.there.line ≡ s.there.line

  calm_put : (x : Sort) (s : NSys m) (e : m.at.E) (keep : ℕ) (h : m.at.R) (log : List Took) → begins? x ≡ false
      → m.at.sort e ≡ x → All (Out m c w k h log) s.here.line → Calm s (n_put m x s e keep) h log
  calm_put begins s e keep h log b q a = clash b
  calm_put breaks s e keep h log b q a = record { out = all_snoc (Out m c w k h log) (trim m (m.carries e) keep s.here.line) e (all_trim (Out m c w k h log) (m.carries e) keep s.here.line a) (λ (t : is_start m.at e ≡ true). clash (sym t ∙ ap begins? q ∙ b)); rec = refl; line = refl }
  calm_put plain s e keep h log b q a = record { out = all_snoc (Out m c w k h log) s.here.line e a (λ (t : is_start m.at e ≡ true). clash (sym t ∙ ap begins? q ∙ b)); rec = refl; line = refl }

  came : (s : NSys m) (q : m.at.R) (l : List Body) (p : Sent m.at.E) (keep : ℕ) (log : List Took)
      → Ways m c w k s.here.rec s.there.rec s.here.line log → Back m c.Rest s.here.rec q p
      → Came s (n_did m s (acts q l p) keep) log
  came s q l p keep log g b = go p b.calm
    where
      outs : All (Out m c w k q log) s.here.line
      outs = all_map (Out m c w k s.here.rec log) (Out m c w k q log) (λ (y : m.at.E)
          (f : Out m c w k s.here.rec log y) (v : is_start m.at y ≡ true).
          ((f v).0, (omega (arith, (f v).1.0, b.holds), (f v).1.1))) s.here.line g.out

      least : All (λ (n : ℕ). n ≤ m.holds q) (numbers log)
      least = subst (λ (v : ℕ). All (λ (n : ℕ). n ≤ v) (numbers log)) (sym b.holds) g.least

      there : (t : NSys m) → Calm s t q log → Came s (n_left m t q l) log
      there t a = record { ways = record { below = subst (λ (r : m.at.R). m.holds r ≤ m.holds q) (sym a.rec) (omega (arith, g.below, b.holds)); rise = g.rise; least = least; out = a.out }; number = b.holds; rec_there = a.rec; line_there = a.line; how = back b.rest }

      go : (p : Sent m.at.E) → starts m.at p ≡ false → Came s (n_did m s (acts q l p) keep) log
      go nothing e = there s (record { out = outs; rec = refl; line = refl })
      go (puts f) e = there (n_put m (m.at.sort f) s f keep) (calm_put (m.at.sort f) s f keep q log e refl outs)
      go (message f x i) e =
          let a = calm_put (m.at.sort f) s f keep q log e refl outs in
          there (n_sent m s (message f x i) keep) (record { out = a.out; rec = a.rec; line = a.line })

  did_came : (s : NSys m) (o : Outcome m.at.R m.at.E) (keep : ℕ) (log : List Took)
      → Ways m c w k s.here.rec s.there.rec s.here.line log → Returns m c.Rest s.here.rec o
      → Came s (n_did m s o keep) log
  did_came s refused keep log g b = record { ways = g; number = refl; rec_there = refl; line_there = refl; how = stays refl }
  did_came s (acts q l p) keep log g b = came s q l p keep log g b

  comes_returns : (r : m.at.R) (o : Outcome m.at.R m.at.E) → Comes m c.Rest r o → Returns m c.Rest r o
  comes_returns r refused b = absurd b
  comes_returns r (acts q l p) b = b

  quiet_returns : (r : m.at.R) (o : Outcome m.at.R m.at.E) → Quiet m c.Rest r o → Returns m c.Rest r o
  quiet_returns r refused x = tt
  quiet_returns r (acts q l nothing) x = x
  quiet_returns r (acts q l (puts e)) x = absurd x
  quiet_returns r (acts q l (message e b j)) x = absurd x

  -- ---- what the host notes of it

  record Noted (v : ℕ) (q : m.at.R) (n : Notes) (log : List Took) (done : ℕ → Bool) (t : m.at.R) (z : Host m) (dl : List ℕ) : Type 0 where
    tally : Tally m v n log done t z dl
    none_open : c.Rest q → n.opened ≡ []

  after_notes : (e : NSys m) (a z : Host m) (dl : List ℕ) (q : m.at.R) → Holds m c w k e a z dl → How e.here.rec q
      → Noted (m.holds e.here.rec) q (afterwards m w right order fresh e.here.rec q a.notes) a.log a.done e.there.rec z dl
  after_notes e a z dl q g (stays x) = go (idle m.at e.here.rec) (idle m.at q) (ap (idle m.at) x)
    where
      go : (b d : Bool) → b ≡ d
          → Noted (m.holds e.here.rec) q (cond (not b && d) (tells told_broken a.notes) a.notes) a.log a.done e.there.rec z dl
      go true true p = record { tally = g.near.tally; none_open = λ (r : c.Rest q). g.near.none_open (subst c.Rest (sym x) r) }
      go true false p = clash p
      go false true p = clash (sym p)
      go false false p = record { tally = g.near.tally; none_open = λ (r : c.Rest q). g.near.none_open (subst c.Rest (sym x) r) }
  after_notes e a z dl q g (back r) = go g.who (idle m.at e.here.rec) refl (idle m.at q) (c.rest_idle q r)
    where
      go : Who m c w k e.here.rec → (b : Bool) → idle m.at e.here.rec ≡ b → (d : Bool) → d ≡ true
          → Noted (m.holds e.here.rec) q (cond (not b && d) (tells told_broken a.notes) a.notes) a.log a.done e.there.rec z dl
      go x b p false f = clash (sym f)
      go (rests y) true p true f = record { tally = g.near.tally; none_open = λ (r : c.Rest q). g.near.none_open y }
      go (rests y) false p true f = clash (sym (c.rest_idle e.here.rec y) ∙ p)
      go (gone y) true p true f = clash (sym p ∙ c.away_idle e.here.rec y)
      go (gone y) false p true f = record { tally = tally_broken m (m.holds e.here.rec) a.notes a.log a.done e.there.rec z dl g.near.tally (m.holds e.here.rec); none_open = λ (r : c.Rest q). refl }

  who_after : (h q : m.at.R) → How h q → Who m c w k h → Who m c w k q
  who_after h q (stays x) g = subst (Who m c w k) x g
  who_after h q (back r) g = rests r

  -- the ends go from e to t, and the host keeps the notes n
  kept_holds : (e t : NSys m) (a z : Host m) (dl ld : List ℕ) (n : Notes) (more : ℕ) (out : Bool)
      → Holds m c w k e a z dl → Came e t a.log
      → Noted (m.holds e.here.rec) t.here.rec n a.log a.done e.there.rec z ld
      → Holds m c w k t (keeps t.here.rec n more out a) z ld
  kept_holds e t a z dl ld n more out g i x =
      record {
        ways = i.ways;
        near = record {
          rec_kept = refl;
          notes_kept = refl;
          tally = subst (λ (r : m.at.R). Tally m (m.holds t.here.rec) n a.log a.done r z ld)
              (sym i.rec_there)
              (subst (λ (v : ℕ). Tally m v n a.log a.done e.there.rec z ld) (sym i.number) x.tally);
          none_open = x.none_open;
        };
        far = subst (λ (r : m.at.R). Far m c w k a.log r t.there.line z) (sym i.rec_there)
            (subst (λ (l : List m.at.E). Far m c w k a.log e.there.rec l z) (sym i.line_there) g.far);
        rest = subst c.Rest (sym i.rec_there) g.rest;
        who = who_after e.here.rec t.here.rec i.how g.who;
      }

  event_holds : (e t : NSys m) (a z : Host m) (dl : List ℕ) (more : ℕ) (out : Bool) → Holds m c w k e a z dl
      → Came e t a.log
      → Holds m c w k t (keeps t.here.rec (afterwards m w right order fresh e.here.rec t.here.rec a.notes) more out a) z dl
  event_holds e t a z dl more out g i = kept_holds e t a z dl dl
      (afterwards m w right order fresh e.here.rec t.here.rec a.notes) more out g i
      (after_notes e a z dl t.here.rec g i.how)

  -- ---- its events

  -- the host of this centre, after an event that left the ends t
  abbrev host_after : (e t : NSys m) (a : Host m) (more : ℕ) (out : Bool) → Host m
  host_after e t a more out = keeps t.here.rec (afterwards m w right order fresh e.here.rec t.here.rec a.notes) more out a

  abbrev After : (e t : NSys m) (a z : Host m) (dl : List ℕ) (more : ℕ) (out : Bool) → Type 0
  After e t a z dl more out = Holds m c w k t (host_after e t a more out) z dl

  pub choose : (b : Bool) (P : NSys m → Type 0) (x y : NSys m) → (b ≡ true → P x) → (b ≡ false → P y) → P (cond b x y)
  choose true P x y f g = f refl
  choose false P x y f g = g refl

  module _ (e : NSys m) (a z : Host m) (dl : List ℕ) (more : ℕ) (out : Bool) (g : Holds m c w k e a z dl) where
    unmoved : After e e a z dl more out
    unmoved = event_holds e e a z dl more out g (did_came e refused 0 a.log g.ways tt)

    returned : (o : Outcome m.at.R m.at.E) (keep : ℕ) → Returns m c.Rest e.here.rec o
        → After e (n_did m e o keep) a z dl more out
    returned o keep b = event_holds e (n_did m e o keep) a z dl more out g (did_came e o keep a.log g.ways b)

    by_who : (P : Type 0) → (c.Rest e.here.rec → P) → (c.Away e.here.rec → P) → P
    by_who P f h = go g.who
      where
        go : Who m c w k e.here.rec → P
        go (rests r) = f r
        go (gone x) = h x

    called : (o : Outcome m.at.R m.at.E) (keep : ℕ) → not (forwards m w right order fresh o) ≡ true
        → (c.Rest e.here.rec → Starts m c.Away c.Good e.here.rec o)
        → (c.Away e.here.rec → Returns m c.Rest e.here.rec o)
        → After e (n_called m true e o keep) a z dl more out
    called refused keep n f h = unmoved
    called (acts q l p) keep n f h =
        choose (not (starts m.at p) || (true && n_ready m e)) (λ (t : NSys m). After e t a z dl more out) (n_did m e (acts q l p) keep) e
        (λ (x : (not (starts m.at p) || (true && n_ready m e)) ≡ true). by_who
        (After e (n_did m e (acts q l p) keep) a z dl more out)
        (λ (r : c.Rest e.here.rec). absurd (none_starts p n (f r)))
        (λ (r : c.Away e.here.rec). returned (acts q l p) keep (h r)))
        (λ (x : (not (starts m.at p) || (true && n_ready m e)) ≡ false). unmoved)
      where
        none_starts : (p : Sent m.at.E) → not (starts m.at p) ≡ true → Starts m c.Away c.Good e.here.rec (acts q l p) → ⊥
        none_starts nothing n b = b
        none_starts (message f x i) n b = b
        none_starts (puts f) n b = clash (sym n ∙ ap not b.start)

    -- the head of the other line is gone
    off : (f : m.at.E) (l : List m.at.E) → e.there.line ≡ f ∷ l → Holds m c w k (n_off m e l) a z dl
    off f l p =
        let x = subst (λ (y : List m.at.E). Far m c w k a.log e.there.rec y z) p g.far in
        record {
          ways = g.ways;
          near = g.near;
          far = record { kept = x.kept; most = x.most; past = x.past; ordered = x.ordered; unseen = x.unseen; awaited = x.awaited; back = x.back.1; soon = λ (u : z.power ≡ up). (x.soon u).1; left = x.left.1 };
          rest = g.rest;
          who = g.who;
        }

    recalled : Holds m c w k (n_recalled m e) a z dl
    recalled =
        record {
          ways = record { below = g.ways.below; rise = g.ways.rise; least = g.ways.least; out = all_without (Out m c w k e.here.rec a.log) (m.holds e.here.rec) e.here.line g.ways.out };
          near = g.near;
          far = g.far;
          rest = g.rest;
          who = g.who;
        }

  module _ (e : NSys m) (a z : Host m) (dl : List ℕ) (g : Holds m c w k e a z dl) where
    heads : (f : m.at.E) (l : List m.at.E) → e.there.line ≡ f ∷ l → In m c w k e.there.rec z f
    heads f l p = (subst (All (In m c w k e.there.rec z)) p g.far.back).0

    -- the record is IDLE: what comes is discarded
    thrown : (f : m.at.E) (l : List m.at.E) → e.there.line ≡ f ∷ l → c.Rest e.here.rec
        → discards m.at e.here.rec f ≡ true
    thrown f l p r = rw (c.rest_idle e.here.rec r, (heads f l p).1.0)

    busy : (f : m.at.E) → c.Away e.here.rec → discards m.at e.here.rec f ≡ false
    busy f r = ap (λ (b : Bool). b && not (is_start m.at f)) (c.away_idle e.here.rec r)

    refuses_is : (o : Outcome m.at.R m.at.E) → Refuses m o → o ≡ refused
    refuses_is refused b = refl
    refuses_is (acts q l p) b = absurd b

    -- a primitive is handed over; its job is told nothing of it
    handed : (y : List m.at.E) (keep more : ℕ) (out : Bool) → e.there.line ≡ y
        → After e (n_handed_over m Ground e y keep) a z dl more out
    handed [] keep more out p = unmoved e a z dl more out g
    handed (f ∷ l) keep more out p = go g.who
      where
        o : Holds m c w k (n_off m e l) a z dl
        o = off e a z dl more out g f l p

        again : (b : Bool) → eqb (m.carries f) (m.holds e.here.rec) ≡ b → c.Away e.here.rec
            → After e (n_did m (n_off m e l) (m.at.receive Ground e.here.rec f) keep) a z dl more out
        again true q r = returned (n_off m e l) a z dl more out o (m.at.receive Ground e.here.rec f) keep (
            comes_returns e.here.rec (m.at.receive Ground e.here.rec f)
            (c.answer_taken e.here.rec f r (heads f l p).0 (heads f l p).1.0 (eqb-true _ _ q)))
        again false q r =
            subst (λ (v : Outcome m.at.R m.at.E). After e (n_did m (n_off m e l) v keep) a z dl more out) (sym (
            refuses_is (m.at.receive Ground e.here.rec f)
            (c.answer_stale e.here.rec f r (heads f l p).0 (heads f l p).1.0 (eqb-false _ _ q))))
            (unmoved (n_off m e l) a z dl more out o)

        go : Who m c w k e.here.rec → After e (n_handed_over m Ground e (f ∷ l) keep) a z dl more out
        go (rests r) = subst (λ (b : Bool). After e
            (cond b (n_off m e l) (n_did m (n_off m e l) (m.at.receive Ground e.here.rec f) keep)) a z dl more
            out) (sym (thrown f l p r)) (unmoved (n_off m e l) a z dl more out o)
        go (gone r) = subst (λ (b : Bool). After e
            (cond b (n_off m e l) (n_did m (n_off m e l) (m.at.receive Ground e.here.rec f) keep)) a z dl more
            out) (sym (busy f r)) (again (eqb (m.carries f) (m.holds e.here.rec)) refl r)

    turned : (keep more : ℕ) (out : Bool) → After e (recall m e keep) a z dl more out
    turned keep more out =
        choose (may_recall m e) (λ (t : NSys m). After e t a z dl more out)
        (n_did m (n_recalled m e) (m.at.away Ground e.here.rec) keep) e
        (λ (b : may_recall m e ≡ true). by_who e a z dl more out g (After e (n_did m (n_recalled m e) (m.at.away Ground e.here.rec) keep) a z dl more out) (λ (r : c.Rest e.here.rec). clash (sym (and_first (waits (m.at.ctl e.here.rec).state) (n_has_start m (m.holds e.here.rec) e.here.line) b) ∙ c.rest_waits e.here.rec r))
        (λ (r : c.Away e.here.rec). returned (n_recalled m e) a z dl more out (recalled e a z dl more out g)
        (m.at.away Ground e.here.rec) keep
        (comes_returns e.here.rec (m.at.away Ground e.here.rec) (c.away_away e.here.rec r))))
        (λ (b : may_recall m e ≡ false). unmoved e a z dl more out g)

  pub happened_holds : (s : Hosts m) (dl : List ℕ) (v : Step m.at.A) → may_happen m w right order fresh s v ≡ true
      → HoldsOf m c w k s dl → HoldsOf m c w k (happened m w right order fresh true s v) dl
  happened_holds s dl (user_call x keep) b g =
      called s.ends s.here s.there dl (suc s.here.unsent) false g
      (m.at.call Ground s.ends.here.rec x) keep b
      (λ (r : c.Rest s.ends.here.rec). c.call_rest s.ends.here.rec x r)
      (λ (r : c.Away s.ends.here.rec). c.call_away s.ends.here.rec x r)
  happened_holds s dl (hand_over keep) b g = handed s.ends s.here s.there dl g s.ends.there.line keep
      (suc s.here.unsent) (hands_out m w right order fresh s.ends (hand_over keep)) refl
  happened_holds s dl (timer_expires_of keep) b g =
      by_who s.ends s.here s.there dl 0 false g _
      (λ (r : c.Rest s.ends.here.rec). returned s.ends s.here s.there dl (suc s.here.unsent) false g
      (m.at.expiry Ground s.ends.here.rec) keep (quiet_returns s.ends.here.rec
      (m.at.expiry Ground s.ends.here.rec) (c.expiry_rest s.ends.here.rec r)))
      (λ (r : c.Away s.ends.here.rec). returned s.ends s.here s.there dl (suc s.here.unsent) false g
      (m.at.expiry Ground s.ends.here.rec) keep (c.expiry_away s.ends.here.rec r))
  happened_holds s dl (error_reported keep) b g =
      by_who s.ends s.here s.there dl 0 false g _
      (λ (r : c.Rest s.ends.here.rec). returned s.ends s.here s.there dl (suc s.here.unsent) false g
      (m.at.error Ground s.ends.here.rec) keep (quiet_returns s.ends.here.rec
      (m.at.error Ground s.ends.here.rec) (c.error_rest s.ends.here.rec r)))
      (λ (r : c.Away s.ends.here.rec). returned s.ends s.here s.there dl (suc s.here.unsent) false g
      (m.at.error Ground s.ends.here.rec) keep (c.error_away s.ends.here.rec r))
  happened_holds s dl (turn_away keep) b g = turned s.ends s.here s.there dl g keep (suc s.here.unsent) false
  happened_holds s dl fail b g = clash (sym b)

  -- ---- the answer

  abbrev DeskHolds : Desks m → Type 0
  DeskHolds d = HoldsOf m c w k d.both d.declined

  -- with y for the line that it is taken from
  abbrev answering_on : List m.at.E → Hosts m → Hosts m
  answering_on y s =
      let t = n_handed_over m Ground s.ends y 0 in
      record { ends = t; here = keeps t.here.rec (tells told_ended s.here.notes) (suc s.here.unsent) false s.here; there = s.there }

  abbrev told_on : List m.at.E → Result → Desks m → Desks m
  told_on y none d = d
  told_on y success d = record { both = answering_on y d.both; declined = d.declined }
  told_on y another d = record { both = answering_on y d.both; declined = d.declined ++ d.both.here.notes.opened }

  told_same : (d : Desks m) (x : Result) → told_on d.both.ends.there.line x d ≡ told m w right order fresh x d
  told_same d none = refl
  told_same d success = refl
  told_same d another = refl

  module _ (d : Desks m) (g : DeskHolds d) (f : m.at.E) (l : List m.at.E) (p : d.both.ends.there.line ≡ f ∷ l) (r : c.Away d.both.ends.here.rec) (n : m.carries f ≡ m.holds d.both.ends.here.rec) (a : ltb d.both.there.unsent (length (f ∷ l)) ≡ true) where
    abbrev e : NSys m
    e = d.both.ends

    abbrev h : m.at.R
    h = d.both.ends.here.rec

    x : In m c w k d.both.ends.there.rec d.both.there f
    x = heads d.both.ends d.both.here d.both.there d.declined g f l p

    -- the answer has left, so what it says was shown
    left_shown : k.says f ≡ true → 1 ≤ d.both.there.seen (m.holds d.both.ends.here.rec)
    left_shown q = subst (λ (v : ℕ). 1 ≤ d.both.there.seen v) n
        ((subst (Left (ShownIf m c w k d.both.there) d.both.there.unsent) p g.far.left).0 a q)

    left_never : k.says f ≡ false → Never m d.both.ends.there.rec d.both.there (m.holds d.both.ends.here.rec)
    left_never q = subst (Never m d.both.ends.there.rec d.both.there) n (x.1.1 q)

    o : Holds m c w k (n_off m d.both.ends l) d.both.here d.both.there d.declined
    o = off d.both.ends d.both.here d.both.there d.declined 0 false g f l p

    taken : (v : Outcome m.at.R m.at.E) → Comes m c.Rest h v → (ld : List ℕ)
        → ((u : ℕ) → Tally m u (tells told_ended d.both.here.notes) d.both.here.log d.both.here.done d.both.ends.there.rec d.both.there ld)
        → Holds m c w k (n_did m (n_off m e l) v 0) (keeps (n_did m (n_off m e l) v 0).here.rec
        (tells told_ended d.both.here.notes) (suc d.both.here.unsent) false d.both.here)
        d.both.there ld
    taken v b ld t =
        kept_holds (n_off m e l) (n_did m (n_off m e l) v 0) d.both.here d.both.there d.declined ld
        (tells told_ended d.both.here.notes) (suc d.both.here.unsent) false o
        (did_came (n_off m e l) v 0 d.both.here.log o.ways (comes_returns h v b)) (record { tally = t (m.holds h); none_open = λ (z : c.Rest (n_did m (n_off m e l) v 0).here.rec). refl })

    answer_comes : Comes m c.Rest h (m.at.receive Ground h f)
    answer_comes = c.answer_taken h f r x.0 x.1.0 n

    done_is : (v : Outcome m.at.R m.at.E) → Comes m c.Rest h v → is_done m w right order fresh v ≡ true
    done_is refused b = absurd b
    done_is (acts q i s) b = refl

    over_is : n_handed_over m Ground e (f ∷ l) 0 ≡ n_did m (n_off m e l) (m.at.receive Ground h f) 0
    over_is = ap (λ (b : Bool). cond b (n_off m e l) (n_did m (n_off m e l) (m.at.receive Ground h f) 0))
        (busy e d.both.here d.both.there d.declined g f r)

    result : heard_result m w right order fresh h (f ∷ l) ≡ result_of (k.says f)
    result =
        ap (λ (b : Bool). cond b none
        (cond (is_done m w right order fresh (m.at.receive Ground h f)) (w.confirms h f) none))
        (busy e d.both.here d.both.there d.declined g f r)
        ∙ ap (λ (b : Bool). cond b (w.confirms h f) none) (done_is (m.at.receive Ground h f) answer_comes) ∙
        k.result_is h f r x.0 x.1.0 n

    ended : (ld : List ℕ)
        → ((u : ℕ) → Tally m u (tells told_ended d.both.here.notes) d.both.here.log d.both.here.done d.both.ends.there.rec d.both.there ld)
        → HoldsOf m c w k (answering_on (f ∷ l) d.both) ld
    ended ld t =
        subst (λ (y : NSys m). Holds m c w k y (keeps y.here.rec (tells told_ended d.both.here.notes)
        (suc d.both.here.unsent) false d.both.here) d.both.there ld) (sym over_is)
        (taken (m.at.receive Ground h f) answer_comes ld t)

    answer_holds : DeskHolds (told_on (f ∷ l) (heard_result m w right order fresh h (f ∷ l)) d)
    answer_holds = subst (λ (y : Result). DeskHolds (told_on (f ∷ l) y d)) (sym result) (go (k.says f) refl)
      where
        go : (b : Bool) → k.says f ≡ b → DeskHolds (told_on (f ∷ l) (result_of b) d)
        go true q = ended d.declined (λ (u : ℕ). tally_success m (m.holds h) d.both.here.notes
            d.both.here.log d.both.here.done d.both.ends.there.rec d.both.there d.declined
            g.near.tally u (left_shown q))
        go false q = ended (d.declined ++ d.both.here.notes.opened) (λ (u : ℕ). tally_another m (m.holds h)
            d.both.here.notes d.both.here.log d.both.here.done d.both.ends.there.rec
            d.both.there d.declined g.near.tally u (left_never q))

  told_holds : (d : Desks m) (y : List m.at.E) → d.both.ends.there.line ≡ y
      → ltb d.both.there.unsent (length y) ≡ true → DeskHolds d
      → DeskHolds (told_on y (heard_result m w right order fresh d.both.ends.here.rec y) d)
  told_holds d [] p a g = g
  told_holds d (f ∷ l) p a g = go g.who
    where
      nothing_told : heard_result m w right order fresh d.both.ends.here.rec (f ∷ l) ≡ none
          → DeskHolds (told_on (f ∷ l) (heard_result m w right order fresh d.both.ends.here.rec (f ∷ l)) d)
      nothing_told q = subst (λ (x : Result). DeskHolds (told_on (f ∷ l) x d)) (sym q) g

      x : In m c w k d.both.ends.there.rec d.both.there f
      x = heads d.both.ends d.both.here d.both.there d.declined g f l p

      stale : Refuses m (m.at.receive Ground d.both.ends.here.rec f) → c.Away d.both.ends.here.rec
          → heard_result m w right order fresh d.both.ends.here.rec (f ∷ l) ≡ none
      stale q r =
          ap (λ (b : Bool). cond b none (cond
          (is_done m w right order fresh (m.at.receive Ground d.both.ends.here.rec f))
          (w.confirms d.both.ends.here.rec f) none))
          (busy d.both.ends d.both.here d.both.there d.declined g f r)
          ∙ ap (λ (v : Outcome m.at.R m.at.E). cond (is_done m w right order fresh v)
          (w.confirms d.both.ends.here.rec f) none) (refuses_is d.both.ends d.both.here
          d.both.there d.declined g (m.at.receive Ground d.both.ends.here.rec f) q)

      by : (b : Bool) → eqb (m.carries f) (m.holds d.both.ends.here.rec) ≡ b
          → c.Away d.both.ends.here.rec
          → DeskHolds (told_on (f ∷ l) (heard_result m w right order fresh d.both.ends.here.rec (f ∷ l)) d)
      by true q r = answer_holds d g f l p r (eqb-true _ _ q) a
      by false q r = nothing_told (stale (c.answer_stale d.both.ends.here.rec f r x.0 x.1.0 (eqb-false _ _ q)) r)

      go : Who m c w k d.both.ends.here.rec
          → DeskHolds (told_on (f ∷ l) (heard_result m w right order fresh d.both.ends.here.rec (f ∷ l)) d)
      go (rests r) = nothing_told (ap (λ (b : Bool). cond b none (cond
          (is_done m w right order fresh (m.at.receive Ground d.both.ends.here.rec f))
          (w.confirms d.both.ends.here.rec f) none))
          (thrown d.both.ends d.both.here d.both.there d.declined g f l p r))
      go (gone r) = by (eqb (m.carries f) (m.holds d.both.ends.here.rec)) refl r

  pub answer_told : (d : Desks m) → DeskHolds d → DeskHolds (gets_answer m w right order fresh d)
  answer_told d g = go (is_up_of m w right order fresh d.both.here.power &&
      (ready m right L fresh A d.both.here && arrived m right L fresh A d.both)) refl
    where
      go : (b : Bool)
          → (is_up_of m w right order fresh d.both.here.power && (ready m right L fresh A d.both.here && arrived m right L fresh A d.both)) ≡ b
          → DeskHolds (cond b (told m w right order fresh (heard_result m w right order fresh d.both.ends.here.rec d.both.ends.there.line) d) d)
      go false q = g
      go true q =
          let y = and_second (is_up_of m w right order fresh d.both.here.power)
          (ready m right L fresh A d.both.here && arrived m right L fresh A d.both) q in
          subst DeskHolds (told_same d (heard_result m w right order fresh d.both.ends.here.rec d.both.ends.there.line))
          (told_holds d d.both.ends.there.line refl
          (and_second (ready m right L fresh A d.both.here) (arrived m right L fresh A d.both) y) g)

  -- ---- the power, and the connection

  pub lost_holds : (s : Hosts m) (dl : List ℕ) → HoldsOf m c w k s dl → HoldsOf m c w k (lost m right L fresh A Ground s) dl
  lost_holds s dl g = subst
      (λ (r : m.at.R). Holds m c w k (with_rec m right L fresh A s.ends r) (from_kept r) s.there dl)
      (sym g.near.rec_kept) base
    where
      from_kept : m.at.R → Host m
      from_kept r = record { notes = s.here.kept; kept = s.here.kept; kept_rec = r; unsent = s.here.unsent; power = down; done = s.here.done; log = s.here.log; waiting = false; seen = s.here.seen }

      base : Holds m c w k (with_rec m right L fresh A s.ends s.ends.here.rec) (from_kept s.ends.here.rec) s.there dl
      base =
          record {
            ways = g.ways;
            near = record {
              rec_kept = refl;
              notes_kept = refl;
              tally = subst (λ (n : Notes). Tally m (m.holds s.ends.here.rec) n s.here.log s.here.done
                  s.ends.there.rec s.there dl) (sym g.near.notes_kept) g.near.tally;
              none_open = λ (r : c.Rest s.ends.here.rec). subst (λ (n : Notes). n.opened ≡ [])
                  (sym g.near.notes_kept) (g.near.none_open r);
            };
            far = g.far;
            rest = g.rest;
            who = g.who;
          }

  pub cut_holds : (s : Hosts m) (dl : List ℕ) → HoldsOf m c w k s dl → HoldsOf m c w k (cut_off_of m w right order fresh s) dl
  cut_holds s dl g =
      record {
        ways = g.ways;
        near = record { rec_kept = refl; notes_kept = refl; tally = tally_broken m (m.holds s.ends.here.rec) s.here.notes s.here.log s.here.done s.ends.there.rec s.there dl g.near.tally (m.holds s.ends.here.rec); none_open = λ (r : c.Rest s.ends.here.rec). refl };
        far = g.far;
        rest = g.rest;
        who = g.who;
      }

  -- what its user is shown, and what leaves, are not its forwards
  pub host_holds : (e : NSys m) (a b z : Host m) (dl : List ℕ) → Holds m c w k e a z dl → b.kept_rec ≡ a.kept_rec
      → b.kept ≡ a.kept → b.notes ≡ a.notes → b.log ≡ a.log → b.done ≡ a.done → Holds m c w k e b z dl
  host_holds e a b z dl g p q r t u =
      record {
        ways = subst (Ways m c w k e.here.rec e.there.rec e.here.line) (sym t) g.ways;
        near = record {
          rec_kept = p ∙ g.near.rec_kept;
          notes_kept = q ∙ (g.near.notes_kept ∙ sym r);
          tally = subst (λ (d : ℕ → Bool). Tally m (m.holds e.here.rec) b.notes b.log d e.there.rec z dl) (sym u)
              (subst (λ (l : List Took). Tally m (m.holds e.here.rec) b.notes l a.done e.there.rec z dl)
              (sym t) (subst
              (λ (n : Notes). Tally m (m.holds e.here.rec) n a.log a.done e.there.rec z dl)
              (sym r) g.near.tally));
          none_open = λ (x : c.Rest e.here.rec). subst (λ (n : Notes). n.opened ≡ []) (sym r) (g.near.none_open x);
        };
        far = subst (λ (l : List Took). Far m c w k l e.there.rec e.there.line z) (sym t) g.far;
        rest = g.rest;
        who = g.who;
      }

  -- ---- the carrier fails

  -- the ends are t, the lines are empty, and both records rest
  failed_holds : (e t : NSys m) (a z : Host m) (dl : List ℕ) (pa pz : Power) → Holds m c w k e a z dl
      → Ways m c w k t.here.rec t.there.rec t.here.line a.log → t.there.rec ≡ e.there.rec
      → t.there.line ≡ [] → c.Rest t.here.rec
      → Holds m c w k t (told_of m right L fresh A t.here.rec pa a) (told_of m right L fresh A t.there.rec pz z) dl
  failed_holds e t a z dl pa pz g i j n r =
      record {
        ways = i;
        near = record {
          rec_kept = refl;
          notes_kept = refl;
          tally = tally_later m (m.holds t.here.rec) (tells told_broken a.notes) a.log a.done
              e.there.rec t.there.rec z v dl later (tally_broken m (m.holds e.here.rec) a.notes a.log
              a.done e.there.rec z dl g.near.tally (m.holds t.here.rec));
          none_open = λ (y : c.Rest t.here.rec). refl;
        };
        far = subst (λ (l : List m.at.E). Far m c w k a.log t.there.rec l v) (sym n)
            (record {
              kept = refl;
              most = g.far.most;
              past = λ (j : ℕ) (p : 1 ≤ z.seen j). omega (arith, g.far.past j p, same);
              ordered = g.far.ordered;
              unseen = λ (p : z.waiting ≡ true). ap z.seen same ∙ g.far.unseen p;
              awaited = λ (p : z.waiting ≡ true). subst (λ (j : ℕ). 1 ≤ count j (numbers a.log)) (sym same) (g.far.awaited p);
              back = tt;
              soon = λ (p : pz ≡ up). tt;
              left = tt;
            });
        rest = subst c.Rest (sym j) g.rest;
        who = rests r;
      }
    where
      v : Host m
      v = told_of m right L fresh A t.there.rec pz z

      same : m.holds t.there.rec ≡ m.holds e.there.rec
      same = ap m.holds j

      later : Later m e.there.rec t.there.rec z (told_of m right L fresh A t.there.rec pz z)
      later = record { grows = λ (j : ℕ). omega arith; never = λ (j : ℕ) (x : Never m e.there.rec z j). record { unseen = x.unseen; past = omega (arith, x.past, same); unwaited = λ (p : z.waiting ≡ true) (q : m.holds t.there.rec ≡ j). x.unwaited p (sym same ∙ q) } }

  -- an end that rests is told nothing
  pub untold : (x : NSys m) → c.Rest x.here.rec → n_told_lost m Ground x ≡ x
  untold x r = ap (λ (b : Bool). cond b x (n_did m x (m.at.p_abort Ground x.here.rec) 0)) (c.rest_idle x.here.rec r)

  record Fallen (e t : NSys m) (log : List Took) : Type 0 where
    came_to : Came e t log
    rest_here : c.Rest t.here.rec

  fallen : (e : NSys m) (log : List Took) → Ways m c w k e.here.rec e.there.rec e.here.line log
      → Who m c w k e.here.rec → Fallen e (n_told_lost m Ground e) log
  fallen e log g (rests r) = subst (λ (t : NSys m). Fallen e t log) (sym (untold e r)) (record { came_to = did_came e refused 0 log g tt; rest_here = r })
  fallen e log g (gone a) =
      subst (λ (b : Bool). Fallen e (cond b e (n_did m e (m.at.p_abort Ground e.here.rec) 0)) log) (sym (c.away_idle e.here.rec a))
      (go (m.at.p_abort Ground e.here.rec) (c.p_abort_away e.here.rec a))
    where
      go : (o : Outcome m.at.R m.at.E) → Comes m c.Rest e.here.rec o → Fallen e (n_did m e o 0) log
      go refused b = absurd b
      go (acts q l p) b = record { came_to = came e q l p 0 log g b; rest_here = b.rest }

  emptied : (e : NSys m) (log : List Took) → Ways m c w k e.here.rec e.there.rec e.here.line log
      → Ways m c w k e.here.rec e.there.rec [] log
  emptied e log g = record { below = g.below; rise = g.rise; least = g.least; out = tt }

  -- from e with both lines empty, which is written x
  pub failed : (e x : NSys m) (a z : Host m) (dl : List ℕ) (pa pz : Power) → Holds m c w k e a z dl
      → x.here.rec ≡ e.here.rec → x.there.rec ≡ e.there.rec → x.here.line ≡ [] → x.there.line ≡ []
      → Holds m c w k (n_told_lost m Ground x) (told_of m right L fresh A (n_told_lost m Ground x).here.rec pa a) (told_of m right L fresh A (n_told_lost m Ground x).there.rec pz z) dl
  failed e x a z dl pa pz g hr tr hl tl =
      let ways : Ways m c w k x.here.rec x.there.rec x.here.line a.log = subst
      (λ (l : List m.at.E). Ways m c w k x.here.rec x.there.rec l a.log) (sym hl) (subst
      (λ (r : m.at.R). Ways m c w k r x.there.rec [] a.log) (sym hr) (subst
      (λ (r : m.at.R). Ways m c w k e.here.rec r [] a.log) (sym tr) (emptied e a.log g.ways)))
      in
      let y = fallen x a.log ways (subst (Who m c w k) (sym hr) g.who) in
      let i = y.came_to in
      failed_holds e (n_told_lost m Ground x) a z dl pa pz g i.ways (i.rec_there ∙ tr) (i.line_there ∙ tl) y.rest_here
