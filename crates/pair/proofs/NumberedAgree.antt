-- Where one machine agrees with another, so it does with a number beside it. So request E9's pair statement holds of crate
-- machine's step with a number beside the record.
-- Assumes nothing.
use mathlib.Core.Path.{◌≡◌, refl, subst}
use mathlib.Core.Bool.{Bool, true, false, cond}
use mathlib.Core.List.{List}
use Prim.Native.Nat.{ℕ}
use lib.Dec.{T, eqb, ltb}
use Rattle.editions.specs.Editions.{secures}
use Rattle.editions.specs.declared.Edition.{Edition}
use Rattle.machine.specs.Calls.{security_sent}
use Rattle.machine.specs.Codes.{security_values}
use Rattle.machine.specs.declared.record.Record.{Record}
use Rattle.pair.specs.Names.{Side, Air, Ground, is_idle, closed, other}
use Rattle.pair.specs.Carrier.{Sent, nothing, puts, message, Outcome, refused, acts, Machine, is_start, starts, Turn}
use Rattle.pair.specs.Numbered.{NClaims, Numbered, mark, not_below, n_fresh, n_run}
use Rattle.pair.proofs.NumberedMachine.{tag, numbered, leaves, numbers, meets_no}
use Rattle.pair.proofs.ControlMachine.{held, control}
use Rattle.pair.proofs.StepMachine.{Codec, Order, step_machine}
use Rattle.pair.proofs.Agree.{SentRel, OutRel, Still, Follows, stays, does, Agree, start_rel, starts_rel}
use Rattle.pair.proofs.StepLocal.{Local}
use Rattle.pair.proofs.StepAgrees.{agrees, idle_same}
use Rattle.pair.proofs.NumberedSimulate.{NAgree, n_holds_through}
use Rattle.pair.proofs.NumberedClaims.{control_numbered}

-- the same number, and the rest corresponds
abbrev pub With : {X Y : Type 0} → (X → Y → Type 0) → Numbered X → Numbered Y → Type 0
With RR r q = (r.no ≡ q.no) × RR r.it q.it

module _ {R Q E F : Type 0} (RR : R → Q → Type 0) (EE : E → F → Type 0) where
  pub tag_rel : (v w : ℕ) (p : Sent E) (o : Sent F) → v ≡ w → SentRel EE p o → SentRel (With EE) (tag v p) (tag w o)
  tag_rel v w nothing nothing e x = x
  tag_rel v w nothing (puts f) e x = absurd x
  tag_rel v w nothing (message f c j) e x = absurd x
  tag_rel v w (puts a) nothing e x = absurd x
  tag_rel v w (puts a) (puts f) e x = (e, x)
  tag_rel v w (puts a) (message f c j) e x = absurd x
  tag_rel v w (message a b i) nothing e x = absurd x
  tag_rel v w (message a b i) (puts f) e x = absurd x
  tag_rel v w (message a b i) (message f c j) e x = ((e, x.0), x.1, x.2)

  pub leaves_rel : (v w : ℕ) (o : Outcome R E) (z : Outcome Q F) → v ≡ w → OutRel RR EE o z
      → OutRel (With RR) (With EE) (leaves v o) (leaves w z)
  leaves_rel v w refused refused e x = tt
  leaves_rel v w refused (acts q k o) e x = absurd x
  leaves_rel v w (acts r l p) refused e x = absurd x
  leaves_rel v w (acts r l p) (acts q k o) e x = ((e, x.0), x.1, tag_rel v w p o e x.2)

  leaves_still : (v : ℕ) (o : Outcome R E) (q : Numbered Q) → v ≡ q.no → Still RR o q.it → Still (With RR) (leaves v o) q
  leaves_still v refused q e x = tt
  leaves_still v (acts r l nothing) q e x = ((e, x.0), x.1)
  leaves_still v (acts r l (puts a)) q e x = absurd x
  leaves_still v (acts r l (message a b i)) q e x = absurd x

  -- a report
  pub report_rel : (v : ℕ) (o : Outcome R E) (z : Outcome Q F) (q : Numbered Q) → v ≡ q.no → Follows {X = Unit {0}} RR EE o q.it (λ (x : Unit {0}). z) → Follows {X = Unit {0}} (With RR) (With EE) (leaves v o) q (λ (x : Unit {0}). leaves q.no z)
  report_rel v o z q e (stays x) = stays (leaves_still v o q e x)
  report_rel v o z q e (does i x) = does i (leaves_rel v q.no o z e x)

  -- by cases on two tests
  two_rel : (b c : Bool) (v w x y : ℕ) (o : Outcome R E) (z : Outcome Q F) → v ≡ x → w ≡ y → OutRel RR EE o z
      → OutRel (With RR) (With EE) (cond b (cond c (leaves v o) refused) (leaves w o)) (cond b (cond c (leaves x z) refused) (leaves y z))
  two_rel true true v w x y o z e f h = leaves_rel v x o z e h
  two_rel true false v w x y o z e f h = tt
  two_rel false c v w x y o z e f h = leaves_rel w y o z f h

  three_rel : (b c d : Bool) (v w x y : ℕ) (o : Outcome R E) (z : Outcome Q F) → v ≡ x → w ≡ y → OutRel RR EE o z
      → OutRel (With RR) (With EE) (cond b (cond c (leaves v o) refused) (cond d (leaves w o) refused)) (cond b (cond c (leaves x z) refused) (cond d (leaves y z) refused))
  three_rel true true d v w x y o z e f h = leaves_rel v x o z e h
  three_rel true false d v w x y o z e f h = tt
  three_rel false c true v w x y o z e f h = leaves_rel w y o z f h
  three_rel false c false v w x y o z e f h = tt

module _ (m n : Machine) (g : Agree m n) where
  abbrev NOut : Side → Outcome (Numbered m.R) (Numbered m.E) → Outcome (Numbered n.R) (Numbered n.E) → Type 0
  NOut sd o z = OutRel (With (g.RR sd)) (With (g.EE sd)) o z

  numbers_rel : (sd : Side) (k i v : ℕ) (o : Outcome m.R m.E) (z : Outcome n.R n.E) → k ≡ i
      → OutRel (g.RR sd) (g.EE sd) o z → NOut sd (numbers m k v o) (numbers n i v z)
  numbers_rel sd k i v refused refused e x = tt
  numbers_rel sd k i v refused (acts q h o) e x = absurd x
  numbers_rel sd k i v (acts r l p) refused e x = absurd x
  numbers_rel sd k i v (acts r l p) (acts q h o) e x =
      subst (λ (b : Bool). NOut sd (numbers m k v (acts r l p))
      (cond b (cond (ltb i v) (leaves v (acts q h o)) refused) (leaves i (acts q h o))))
      (starts_rel m n g sd p o x.2)
      (subst (λ (u : ℕ). NOut sd (numbers m k v (acts r l p)) (cond (starts m p) (cond (ltb u v) (leaves v (acts q h o)) refused) (leaves i (acts q h o)))) e
      (two_rel (g.RR sd) (g.EE sd) (starts m p) (ltb k v) v k v i (acts r l p) (acts q h o) refl e x))

  numbers_still : (sd : Side) (v : ℕ) (o : Outcome m.R m.E) (k : ℕ) (q : Numbered n.R) → k ≡ q.no
      → Still (g.RR sd) o q.it → Still (With (g.RR sd)) (numbers m k v o) q
  numbers_still sd v refused k q e x = tt
  numbers_still sd v (acts r l nothing) k q e x = ((e, x.0), x.1)
  numbers_still sd v (acts r l (puts a)) k q e x = absurd x
  numbers_still sd v (acts r l (message a b i)) k q e x = absurd x

  pub call_rel : (sd : Side) (v : ℕ) (o : Outcome m.R m.E) (k : ℕ) (q : Numbered n.R) → k ≡ q.no
      → Follows (g.RR sd) (g.EE sd) o q.it (n.call sd q.it)
      → Follows (With (g.RR sd)) (With (g.EE sd)) (numbers m k v o) q (λ (a : Numbered n.A). numbers n q.no a.no (n.call sd q.it a.it))
  call_rel sd v o k q e (stays x) = stays (numbers_still sd v o k q e x)
  call_rel sd v o k q e (does a x) = does (mark v a) (numbers_rel sd k q.no v o (n.call sd q.it a) e x)

  pub receive_rel : (sd : Side) (r : Numbered m.R) (q : Numbered n.R) (e : Numbered m.E) (f : Numbered n.E)
      → With (g.RR sd) r q → With (g.EE (other sd)) e f → NOut sd (meets_no m sd r e) (meets_no n sd q f)
  receive_rel sd r q e f x y =
      let z = n.receive sd q.it f.it in
      subst (λ (b : Bool). NOut sd (meets_no m sd r e) (cond b (cond (ltb q.no f.no) (leaves f.no z) refused)
      (cond (eqb f.no q.no) (leaves q.no z) refused)))
      (start_rel m n g (other sd) e.it f.it y.1)
      (subst (λ (u : ℕ). NOut sd (meets_no m sd r e) (cond (is_start m e.it) (cond (ltb u f.no) (leaves f.no z) refused) (cond (eqb f.no u) (leaves q.no z) refused))) x.0
      (subst (λ (u : ℕ). NOut sd (meets_no m sd r e) (cond (is_start m e.it) (cond (ltb r.no u) (leaves f.no z) refused) (cond (eqb u r.no) (leaves q.no z) refused))) y.0
      (three_rel (g.RR sd) (g.EE sd) (is_start m e.it) (ltb r.no e.no) (eqb e.no r.no) e.no r.no
      f.no q.no (m.receive sd r.it e.it) z y.0 x.0
      (g.receive_is sd r.it q.it e.it f.it x.1 y.1))))

  abbrev pub with_number : NAgree (numbered m) (numbered n)
  with_number = record {
    agree = record {
      RR = λ (sd : Side) (r : Numbered m.R) (q : Numbered n.R). With (g.RR sd) r q;
      EE = λ (sd : Side) (e : Numbered m.E) (f : Numbered n.E). With (g.EE sd) e f;
      ctl_is = λ (sd : Side) (r : Numbered m.R) (q : Numbered n.R) (x : With (g.RR sd) r q). g.ctl_is sd r.it q.it x.1;
      sort_is = λ (sd : Side) (e : Numbered m.E) (f : Numbered n.E) (x : With (g.EE sd) e f). g.sort_is sd e.it f.it x.1;
      call_is = λ (sd : Side) (r : Numbered m.R) (q : Numbered n.R) (a : Numbered m.A)
          (x : With (g.RR sd) r q). call_rel sd a.no (m.call sd r.it a.it) r.no q x.0
          (g.call_is sd r.it q.it a.it x.1);
      receive_is = receive_rel;
      expiry_is = λ (sd : Side) (r : Numbered m.R) (q : Numbered n.R) (x : With (g.RR sd) r q). report_rel
          (g.RR sd) (g.EE sd) r.no (m.expiry sd r.it) (n.expiry sd q.it) q x.0
          (g.expiry_is sd r.it q.it x.1);
      error_is = λ (sd : Side) (r : Numbered m.R) (q : Numbered n.R) (x : With (g.RR sd) r q). report_rel
          (g.RR sd) (g.EE sd) r.no (m.error sd r.it) (n.error sd q.it) q x.0
          (g.error_is sd r.it q.it x.1);
      away_is = λ (sd : Side) (r : Numbered m.R) (q : Numbered n.R) (x : With (g.RR sd) r q). leaves_rel
          (g.RR sd) (g.EE sd) r.no q.no (m.away sd r.it) (n.away sd q.it) x.0
          (g.away_is sd r.it q.it x.1);
      p_abort_is_law = λ (sd : Side) (r : Numbered m.R) (q : Numbered n.R) (x : With (g.RR sd) r q). leaves_rel
          (g.RR sd) (g.EE sd) r.no q.no (m.p_abort sd r.it) (n.p_abort sd q.it) x.0
          (g.p_abort_is_law sd r.it q.it x.1);
    };
    holds_is = λ (sd : Side) (r : Numbered m.R) (q : Numbered n.R) (x : With (g.RR sd) r q). x.0;
    carries_is = λ (sd : Side) (e : Numbered m.E) (f : Numbered n.E) (x : With (g.EE sd) e f). x.0;
  }

-- request E9 for any machine that agrees with the control, with a number beside it
pub machine_numbered : (m : Machine) (g : Agree m control) (from : Side) (n k i j : ℕ) (r q : m.R)
    → g.RR Air r (held closed i) → g.RR Ground q (held closed j) → not_below from n k
    → (ts : List (Turn (Numbered m.A)))
    → NClaims (numbered m) i j (n_run (numbered m) from (n_fresh (numbered m) (mark n r) (mark k q)) ts)
machine_numbered m g from n k i j r q near far h ts = n_holds_through (numbered m) (numbered control)
    (with_number m control g) from (mark n r) (mark k q) (mark n (held closed i)) (mark k (held closed j)) (refl, near)
    (refl, far) (control_numbered from n k i j h) ts

-- and for the machines of crate machine, from any two IDLE records of the pair
module _ (K : Codec) (ed : Edition) (p : ℕ) (fair : security_sent (secures ed) p ≡ p) (v : T (ltb p security_values)) where
  pub step_numbered_is : (from : Side) (n k : ℕ) (r q : Record) → Local ed p r → T (is_idle r.control) → Local ed p q
      → T (is_idle q.control) → not_below from n k → (ts : List (Turn (Numbered Order)))
      → NClaims (numbered (step_machine K p)) r.highest q.highest (n_run (numbered (step_machine K p)) from (n_fresh (numbered (step_machine K p)) (mark n r) (mark k q)) ts)
  step_numbered_is from n k r q h i x y b ts = machine_numbered (step_machine K p) (agrees K ed p fair v) from n k
      r.highest q.highest r q (idle_same K ed p fair v r h i) (idle_same K ed p fair v q x y) b ts
