-- What an accepted end finds, carried from the control to every machine that agrees with it: all that the end which asked took in the dialogue was handed out.
-- Assumes nothing.
use mathlib.Core.Path.{◌≡◌, refl, ap, sym, ◌∙◌, subst}
use mathlib.Core.Bool.{Bool, true, false, not, cond, ◌&&◌}
use mathlib.Core.List.{List, [], ◌∷◌}
use Prim.Native.Nat.{ℕ}
use lib.Dec.{T, eqb, ltb}
use Rattle.pair.specs.Names.{Side, Air, Ground, State, Idle, StartReq, StartInd, Dialogue, End, Forward, Control, TimerExpiry, SystemError, entered, is, is_idle, Did, quiet, aborts, meets, hands, Accepted, Rejected, Primitive, DStart, DStartCnf, DTurnedAway, DData, DEnd, DEndCnf, DAbort, DPAbort, closed, other, expects}
use Rattle.control.specs.Control.{deaf}
use Rattle.pair.specs.Carrier.{Body, Sent, nothing, puts, message, Outcome, refused, acts, Turn, idle, is_start, starts}
use Rattle.pair.specs.Numbered.{NMachine, NSys, Numbered, mark, not_below, n_swap, n_fresh, n_run}
use Rattle.pair.proofs.ControlMachine.{Held, Ent, ent, Ask, ask, may_call, moved, sent_by, call_of, met, handed, receives, control}
use Rattle.pair.proofs.NumberedMachine.{leaves, numbers, meets_no, numbered}
use Rattle.pair.proofs.Agree.{OutRel, Follows, stays, does}
use Rattle.pair.proofs.NumberedLines.{eq_no}
use Rattle.pair.proofs.NumberedSimulate.{NAgree, NSysRel}
use Rattle.pair.proofs.Lines.{LL}
use Rattle.pair.proofs.Finite.{and_l, and_r, both, is_t}
use Rattle.duties.specs.Host.{end_arrives}
use Rattle.duties.proofs.EndConfirmed.{says_yes, answers_yes, Finished, air_finished, ground_finished}
use Rattle.duties.proofs.Heard.{None, Hush, First, Hands}
use Rattle.duties.proofs.Steps.{Closed, Whole}

-- ---- of the control

yes_is : (k : Primitive) → T (says_yes k) → k ≡ DEndCnf Accepted
yes_is (DStart m) t = absurd t
yes_is (DStartCnf a) t = absurd t
yes_is DTurnedAway t = absurd t
yes_is DData t = absurd t
yes_is DEnd t = absurd t
yes_is (DEndCnf Accepted) t = refl
yes_is (DEndCnf Rejected) t = absurd t
yes_is DAbort t = absurd t
yes_is DPAbort t = absurd t

finished_whole : (sd : Side) (s : NSys (numbered control))
    → ((bd : Body) (l : List (Numbered Ent)) → s.there.line ≡ mark s.here.rec.no (ent (DEndCnf Accepted) bd) ∷ l → T (expects sd s.here.rec.it.ctl (DEndCnf Accepted)) → Finished s.here.rec.no s)
    → Whole (numbered control) answers_yes sd s
finished_whole sd s f t = go s.there.line refl t
  where
    go : (l : List (Numbered Ent)) → s.there.line ≡ l
        → T (end_arrives (numbered control) answers_yes sd s.here.rec l) → Closed (numbered control) s
    go [] e u = absurd u
    go (x ∷ l) e u =
        let k : x.it.kind ≡ DEndCnf Accepted = yes_is x.it.kind (and_l (answers_yes x) _ u) in
        let v = and_r (answers_yes x) _ u in
        let i : x.no ≡ s.here.rec.no = eq_no x.no s.here.rec.no
        (is_t (eqb x.no s.here.rec.no) (and_l (eqb x.no s.here.rec.no) _ v)) in
        let a : s.there.line ≡ mark s.here.rec.no (ent (DEndCnf Accepted) x.it.body) ∷ l =
        e ∙ ap (λ (z : ℕ). mark z (ent x.it.kind x.it.body) ∷ l) i ∙ ap
        (λ (z : Primitive). mark s.here.rec.no (ent z x.it.body) ∷ l) k in
        let z = f x.it.body l a (and_r (eqb x.no s.here.rec.no) _ v) in
        record { shown = z.shown; unbroken = z.whole; away = z.away }

-- r, q: the records of the air and the ground at the beginning
pub control_whole : (from : Side) (r q : Numbered Held) → r.it.ctl ≡ closed → q.it.ctl ≡ closed
    → not_below from r.no q.no → (ts : List (Turn (Numbered Ask)))
    → Whole (numbered control) answers_yes Air (n_run (numbered control) from (n_fresh (numbered control) r q) ts) × Whole (numbered control) answers_yes Ground (n_swap (numbered control) (n_run (numbered control) from (n_fresh (numbered control) r q) ts))
control_whole from r q a b h ts = (
  finished_whole Air (n_run (numbered control) from (n_fresh (numbered control) r q) ts) (air_finished from r q a b h ts),
  finished_whole Ground (n_swap (numbered control) (n_run (numbered control) from (n_fresh (numbered control) r q) ts))
      (ground_finished from r q a b h ts),
)

-- ---- messages are handed out in a dialogue: of the control

data_busy : (sd : Side) (st : State) (d : Bool) → expects sd (entered st d) DData ≡ true → is st Idle ≡ false
data_busy sd Idle d e = absurd (subst T (sym e) tt)
data_busy sd StartReq d e = refl
data_busy sd StartInd d e = refl
data_busy sd Dialogue d e = refl
data_busy sd End d e = refl
data_busy sd Forward d e = refl

met_none : (v : ℕ) (q : Held) (d : Did) → None (numbered control) (leaves v (met q d []))
met_none v q (quiet c) = refl
met_none v q (aborts c) = refl

met_hush : (v : ℕ) (q : Held) (d : Did) → Hush (numbered control) (leaves v (met q d []))
met_hush v q (quiet c) = tt
met_hush v q (aborts c) = tt

data_hush : (v : ℕ) (sd : Side) (q : Held) (b : Body) (x : Bool) → expects sd q.ctl DData ≡ x
    → Hush (numbered control) (leaves v (met q (cond x (quiet q.ctl) (cond (deaf q.ctl DData) (quiet closed) (aborts closed))) (handed x b)))
data_hush v sd q b true e = data_busy sd q.ctl.state q.ctl.dsc e
data_hush v sd q b false e = met_hush v q (cond (deaf q.ctl DData) (quiet closed) (aborts closed))

got_hush : (v : ℕ) (sd : Side) (q : Held) (k : Primitive) (b : Body)
    → Hush (numbered control) (leaves v (met q (meets sd q.ctl k) (handed (hands sd q.ctl k) b)))
got_hush v sd q (DStart m) b = met_hush v q (meets sd q.ctl (DStart m))
got_hush v sd q (DStartCnf a) b = met_hush v q (meets sd q.ctl (DStartCnf a))
got_hush v sd q DTurnedAway b = met_hush v q (meets sd q.ctl DTurnedAway)
got_hush v sd q DData b = data_hush v sd q b (expects sd q.ctl DData) refl
got_hush v sd q DEnd b = met_hush v q (meets sd q.ctl DEnd)
got_hush v sd q (DEndCnf a) b = met_hush v q (meets sd q.ctl (DEndCnf a))
got_hush v sd q DAbort b = met_hush v q (meets sd q.ctl DAbort)
got_hush v sd q DPAbort b = met_hush v q (meets sd q.ctl DPAbort)

meets_hush : (sd : Side) (r : Numbered Held) (e : Numbered Ent) → Hush (numbered control) (meets_no control sd r e)
meets_hush sd r e = go (is_start control e.it) (ltb r.no e.no) (eqb e.no r.no)
  where
    go : (a b c : Bool)
        → Hush (numbered control) (cond a (cond b (leaves e.no (receives sd r.it e.it)) refused) (cond c (leaves r.no (receives sd r.it e.it)) refused))
    go true true c = got_hush e.no sd r.it e.it.kind e.it.body
    go true false c = tt
    go false b true = got_hush r.no sd r.it e.it.kind e.it.body
    go false b false = tt

first_hush : (sd : Side) (r : Numbered Held) (l : List (Numbered Ent)) → First (numbered control) sd r l
first_hush sd r [] = tt
first_hush sd r (e ∷ l) = meets_hush sd r e

called_none : (sd : Side) (r : Numbered Held) (v : ℕ) (a : Ask) → None (numbered control) (numbers control r.no v (call_of sd r.it a))
called_none sd r v a = go (may_call sd r.it a)
  where
    put : (b c : Bool) (p : Sent Ent)
        → None (numbered control) (cond b (cond c (leaves v (acts (moved r.it a) [] p)) refused) (leaves r.no (acts (moved r.it a) [] p)))
    put true true p = refl
    put true false p = tt
    put false c p = refl

    go : (b : Bool) → None (numbered control) (numbers control r.no v (cond b (acts (moved r.it a) [] (sent_by a)) refused))
    go true = put (starts control (sent_by a)) (ltb r.no v) (sent_by a)
    go false = tt

reported_none : (sd : Side) (r : Numbered Held) (a : Ask) → None (numbered control) (leaves r.no (call_of sd r.it a))
reported_none sd r a = go (may_call sd r.it a)
  where
    go : (b : Bool) → None (numbered control) (leaves r.no (cond b (acts (moved r.it a) [] (sent_by a)) refused))
    go true = refl
    go false = tt

pub control_hands : (sd : Side) (s : NSys (numbered control)) → Hands (numbered control) sd s
control_hands sd s = record {
  call = λ (a : Numbered Ask). called_none sd s.here.rec a.no a.it;
  receive = first_hush sd s.here.rec s.there.line;
  expiry = reported_none sd s.here.rec (ask TimerExpiry [] 0);
  error = reported_none sd s.here.rec (ask SystemError [] 0);
  away = met_none s.here.rec.no s.here.rec.it (meets sd s.here.rec.it.ctl DTurnedAway);
  p_abort_is = met_none s.here.rec.no s.here.rec.it (meets sd s.here.rec.it.ctl DPAbort);
}

-- ---- and of a machine that agrees with another of which it holds

abbrev is_cons : List Body → Bool
is_cons [] = false
is_cons (b ∷ l) = true

module _ (m n : NMachine) (g : NAgree m n) where
  none_out : (sd : Side) (o : Outcome m.at.R m.at.E) (z : Outcome n.at.R n.at.E)
      → OutRel (g.agree.RR sd) (g.agree.EE sd) o z → None n z → None m o
  none_out sd refused z x h = tt
  none_out sd (acts r l p) refused x h = absurd x
  none_out sd (acts r l p) (acts q k o) x h = x.1 ∙ h

  none_follows : {X : Type 0} (sd : Side) (o : Outcome m.at.R m.at.E) (q : n.at.R) (event : X → Outcome n.at.R n.at.E) → Follows (g.agree.RR sd) (g.agree.EE sd) o q event → ((x : X) → None n (event x)) → None m o
  none_follows sd refused q event f h = tt
  none_follows sd (acts r l nothing) q event (stays x) h = x.1
  none_follows sd (acts r l (puts e)) q event (stays x) h = absurd x
  none_follows sd (acts r l (message e b i)) q event (stays x) h = absurd x
  none_follows sd (acts r l p) q event (does y x) h = none_out sd (acts r l p) (event y) x (h y)

  hush_out : (sd : Side) (o : Outcome m.at.R m.at.E) (z : Outcome n.at.R n.at.E)
      → OutRel (g.agree.RR sd) (g.agree.EE sd) o z → Hush n z → Hush m o
  hush_out sd refused z x h = tt
  hush_out sd (acts r [] p) z x h = tt
  hush_out sd (acts r (b ∷ l) p) refused x h = absurd x
  hush_out sd (acts r (b ∷ l) p) (acts q [] o) x h = absurd (subst (λ (k : List Body). T (is_cons k)) x.1 tt)
  hush_out sd (acts r (b ∷ l) p) (acts q (c ∷ k) o) x h = ap is_idle (g.agree.ctl_is sd r q x.0) ∙ h

  first_too : (sd : Side) (r : m.at.R) (q : n.at.R) (l : List m.at.E) (k : List n.at.E)
      → g.agree.RR sd r q → LL (g.agree.EE (other sd)) l k → First n sd q k → First m sd r l
  first_too sd r q [] k x y h = tt
  first_too sd r q (e ∷ l) [] x y h = absurd y
  first_too sd r q (e ∷ l) (f ∷ k) x y h = hush_out sd (m.at.receive sd r e) (n.at.receive sd q f)
      (g.agree.receive_is sd r q e f x y.0) h

  hands_too : (sd : Side) (s : NSys m) (t : NSys n) → NSysRel m n g sd s t → Hands n sd t → Hands m sd s
  hands_too sd s t h w =
      let r = s.here.rec in
      let q = t.here.rec in
      record {
        call = λ (a : m.at.A). none_follows sd (m.at.call sd r a) q (n.at.call sd q)
            (g.agree.call_is sd r q a h.here.rec) w.call;
        receive = first_too sd r q s.there.line t.there.line h.here.rec h.there.line w.receive;
        expiry = none_follows sd (m.at.expiry sd r) q (λ (x : Unit {0}). n.at.expiry sd q) (g.agree.expiry_is sd r q h.here.rec) (λ (x : Unit {0}). w.expiry);
        error = none_follows sd (m.at.error sd r) q (λ (x : Unit {0}). n.at.error sd q) (g.agree.error_is sd r q h.here.rec) (λ (x : Unit {0}). w.error);
        away = none_out sd (m.at.away sd r) (n.at.away sd q) (g.agree.away_is sd r q h.here.rec) w.away;
        p_abort_is = none_out sd (m.at.p_abort sd r) (n.at.p_abort sd q) (g.agree.p_abort_is_law sd r q h.here.rec) w.p_abort_is;
      }

  pub both_hands_too : (s : NSys m) (t : NSys n) → NSysRel m n g Air s t → Hands n Air t × Hands n Ground (n_swap n t)
      → Hands m Air s × Hands m Ground (n_swap m s)
  both_hands_too s t h w = (
    hands_too Air s t h w.0,
    hands_too Ground (n_swap m s) (n_swap n t) (record { here = h.there; there = h.here; broken = h.broken }) w.1,
  )

-- ---- and an accepted end

-- am, an: the answers "accepted" of the two
module _ (m n : NMachine) (g : NAgree m n) (am : m.at.E → Bool) (an : n.at.E → Bool) (c : (sd : Side) (e : m.at.E) (f : n.at.E) → g.agree.EE sd e f → T (am e) → T (an f)) where
  arrives_too : (sd : Side) (r : m.at.R) (q : n.at.R) (l : List m.at.E) (k : List n.at.E)
      → g.agree.RR sd r q → LL (g.agree.EE (other sd)) l k → T (end_arrives m am sd r l) → T (end_arrives n an sd q k)
  arrives_too sd r q [] k x y t = absurd t
  arrives_too sd r q (e ∷ l) [] x y t = absurd y
  arrives_too sd r q (e ∷ l) (f ∷ k) x y t =
      let v = and_r (am e) _ t in
      let a : T (eqb (n.carries f) (m.holds r)) = subst (λ (z : ℕ). T (eqb z (m.holds r)))
      (g.carries_is (other sd) e f y.0) (and_l (eqb (m.carries e) (m.holds r)) _ v) in
      both (an f) _ (c (other sd) e f y.0 (and_l (am e) _ t))
      (both (eqb (n.carries f) (n.holds q)) _ (subst (λ (z : ℕ). T (eqb (n.carries f) z)) (g.holds_is sd r q x) a)
      (subst (λ (z : Control). T (expects sd z (DEndCnf Accepted))) (g.agree.ctl_is sd r q x)
      (and_r (eqb (m.carries e) (m.holds r)) _ v)))

  whole_too : (sd : Side) (s : NSys m) (t : NSys n) → NSysRel m n g sd s t → Whole n an sd t → Whole m am sd s
  whole_too sd s t h w u =
      let i : m.holds s.here.rec ≡ n.holds t.here.rec = g.holds_is sd s.here.rec t.here.rec h.here.rec in
      let c : Closed n t = w (arrives_too sd s.here.rec t.here.rec s.there.line t.there.line
      h.here.rec h.there.line u) in
      record {
        shown = h.there.handed (m.holds s.here.rec) ∙ ap (λ (z : ℕ). t.there.handed z) i ∙ c.shown ∙ sym
            (ap (λ (z : ℕ). t.here.taken z) i) ∙ sym (h.here.taken (m.holds s.here.rec));
        unbroken = h.broken (m.holds s.here.rec) ∙ ap (λ (z : ℕ). t.broken z) i ∙ c.unbroken;
        away = ap (λ (x : Control). not (is_idle x) && eqb (m.holds s.there.rec) (m.holds s.here.rec))
            (g.agree.ctl_is (other sd) s.there.rec t.there.rec h.there.rec)
            ∙ ap (λ (x : ℕ). not (idle n.at t.there.rec) && eqb x (m.holds s.here.rec))
            (g.holds_is (other sd) s.there.rec t.there.rec h.there.rec)
            ∙ ap (λ (x : ℕ). not (idle n.at t.there.rec) && eqb (n.holds t.there.rec) x) i
            ∙ c.away;
      }

  pub both_whole_too : (s : NSys m) (t : NSys n) → NSysRel m n g Air s t
      → Whole n an Air t × Whole n an Ground (n_swap n t) → Whole m am Air s × Whole m am Ground (n_swap m s)
  both_whole_too s t h w = (
    whole_too Air s t h w.0,
    whole_too Ground (n_swap m s) (n_swap n t) (record { here = h.there; there = h.here; broken = h.broken }) w.1,
  )
