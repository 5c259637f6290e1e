-- Crate numbered's step on the numbered carrier: it is crate machine's step with a number beside it. So E9's pair statement holds of it.
-- Assumes nothing.
use mathlib.Core.Path.{◌≡◌, refl, ap, sym, ◌∙◌, subst}
use mathlib.Core.Bool.{Bool, true, false, not, cond, ◌&&◌}
use mathlib.Core.List.{List, []}
use Prim.Native.Nat.{ℕ}
use lib.Dec.{T, eqb, ltb}
use Rattle.editions.specs.Editions.{secures}
use Rattle.editions.specs.declared.Edition.{Edition}
use Rattle.machine.specs.Calls.{security_sent}
use Rattle.machine.specs.Codes.{security_values}
use Rattle.machine.specs.Calls.{sent, start_request, start_response, message_request, end_request, end_response, user_abort, called}
use Rattle.machine.specs.Event.{event_fits}
use Rattle.machine.specs.Outcome.{is_none}
use Rattle.machine.specs.Outcome as M
use Rattle.machine.specs.Step.{step, refusal_of}
use Rattle.machine.specs.Step as S
use Rattle.machine.specs.declared.record.Record.{Record}
use Rattle.machine.specs.declared.event.UserData.TheVariants.{Absent}
use Rattle.machine.specs.declared.event.Event.{Event}
use Rattle.machine.specs.declared.event.Event.TheVariants.{User, Service, TimerExpires, UnrecoverableSystemError}
use Rattle.machine.specs.declared.event.ServicePrimitive.TheVariants.{DPAbortIndication}
use Rattle.machine.specs.declared.outcome.Invoked.{Invoked}
use Rattle.machine.specs.declared.outcome.Invoked.TheVariants.{DStartRequest, DStartResponse, DDataRequest, DEndRequest, DEndResponse, DAbortRequest, DStartForwardRequest, DStartForwardResponse}
use Rattle.machine.specs.declared.outcome.StepRefusal.TheVariants.{Shape, Stale}
use Rattle.machine.specs.declared.outcome.Outcome as O
use Rattle.numbered.specs.Numbers.{user_starts, service_starts, is_start, is_service, is_stale, held_after, numbered_step}
use Rattle.numbered.proofs.Laws.{shape_first, then_stale, then_step}
use Rattle.pair.specs.Names.{Side, is_idle, closed, other}
use Rattle.pair.specs.Carrier.{Body, Sent, nothing, puts, message, Outcome, refused, acts, begins?, starts, Turn}
use Rattle.pair.specs.Numbered.{NMachine, NSys, NClaims, Numbered, mark, not_below, n_fresh, n_run}
use Rattle.pair.specs.Wires.{Wire, sort_of, arrives, rejects}
use Rattle.pair.proofs.NumberedMachine.{numbered, leaves, numbers, meets_no}
use Rattle.pair.proofs.ControlMachine.{held, control}
use Rattle.pair.proofs.StepMachine.{Codec, apdu_of, body_of, happens, taken, Order, start_request_of, start_response_of, message_request_of, end_request_of, end_response_of, user_abort_of, asked, data_of, job_of, calls, step_machine}
use Rattle.pair.proofs.Finite.{is_t, no_T}
use Rattle.pair.proofs.Agree.{SentRel, OutRel, does}
use Rattle.pair.proofs.StepLocal.{Local}
use Rattle.pair.proofs.StepAgrees.{agrees, idle_same}
use Rattle.pair.proofs.NumberedLines.{self, yes, nay}
use Rattle.pair.proofs.NumberedNeeds.{Calm}
use Rattle.pair.proofs.NumberedClaims.{NQuiet, control_numbered_quiet}
use Rattle.pair.proofs.NumberedSimulate.{NAgree, n_followed, n_holds_through, n_quiet_through}
use Rattle.pair.proofs.NumberedAgree.{with_number, step_numbered_is}
use Rattle.std.specs.Prelude.{None, Option, Some}

-- ---- the machine. What the carrier itself makes carries the number of the end that gets it

-- f: what becomes of an outcome of the step on the carrier
abbrev pub numberedly : Side → Numbered Record → Event → ℕ → (O.Outcome → Outcome Record Wire) → Outcome (Numbered Record) (Numbered Wire)
numberedly sd r e v f = leaves (held_after r.no e v) (f (numbered_step sd r.it r.no e v))

abbrev pub step_numbered : Codec → ℕ → NMachine
step_numbered K p = record {
  at = record {
    R = Numbered Record;
    E = Numbered Wire;
    A = Numbered Order;
    ctl = λ (r : Numbered Record). r.it.control;
    sort = λ (w : Numbered Wire). sort_of w.it.primitive;
    call = λ (sd : Side) (r : Numbered Record) (a : Numbered Order). numberedly sd r (User (asked K p a.it)) a.no
        (λ (o : O.Outcome). calls K sd o (data_of a.it) (job_of a.it));
    receive = λ (sd : Side) (r : Numbered Record) (w : Numbered Wire).
        numberedly sd r (Service (arrives sd w.it.primitive) (apdu_of (K.dec (other sd) w.it.bytes))) w.no
        (λ (o : O.Outcome). happens K sd o (body_of (K.dec (other sd) w.it.bytes)));
    expiry = λ (sd : Side) (r : Numbered Record). numberedly sd r TimerExpires 0 (λ (o : O.Outcome). happens K sd o []);
    error = λ (sd : Side) (r : Numbered Record). numberedly sd r UnrecoverableSystemError 0 (λ (o : O.Outcome). happens K sd o []);
    away = λ (sd : Side) (r : Numbered Record). numberedly sd r (Service rejects Absent) r.no (λ (o : O.Outcome). happens K sd o []);
    p_abort = λ (sd : Side) (r : Numbered Record). numberedly sd r (Service DPAbortIndication Absent) r.no
        (λ (o : O.Outcome). happens K sd o []);
  };
  holds = λ (r : Numbered Record). r.no;
  carries = λ (w : Numbered Wire). w.no;
}

-- ---- the same outcome

pub sent_refl : {E : Type 0} (p : Sent E) → SentRel (λ (e f : E). e ≡ f) p p
sent_refl nothing = tt
sent_refl (puts e) = refl
sent_refl (message e b i) = (refl, refl, refl)

pub out_refl : {R E : Type 0} (o : Outcome R E) → OutRel (λ (r q : R). r ≡ q) (λ (e f : E). e ≡ f) o o
out_refl refused = tt
out_refl (acts r l p) = (refl, refl, sent_refl p)

pub out_eq : {R E : Type 0} (o z : Outcome R E) → o ≡ z → OutRel (λ (r q : R). r ≡ q) (λ (e f : E). e ≡ f) o z
out_eq {R} {E} o z e = subst (λ (x : Outcome R E). OutRel (λ (r q : R). r ≡ q) (λ (a f : E). a ≡ f) o x) e (out_refl o)

-- ---- what is stale is refused, and what is not is the step's

-- b: is it not stale; z: the outcome where it is not
pub late : (sd : Side) (r : Numbered Record) (e : Event) (v : ℕ) (f : O.Outcome → Outcome Record Wire) (b : Bool) (z : Outcome (Numbered Record) (Numbered Wire))
    → is_stale r.no e v ≡ not b → f (M.refused (Some Shape) r.it) ≡ refused → f (M.refused (Some Stale) r.it) ≡ refused
    → (b ≡ true → z ≡ leaves (held_after r.no e v) (f (step sd r.it e))) → numberedly sd r e v f ≡ cond b z refused
late sd r e v f true z q x y g = ap (λ (o : O.Outcome). leaves (held_after r.no e v) (f o))
    (then_step sd r.it r.no e v q) ∙ sym (g refl)
late sd r e v f false z q x y g = go (event_fits sd r.it.edition e) refl
  where
    to : O.Outcome → Outcome (Numbered Record) (Numbered Wire)
    to o = leaves (held_after r.no e v) (f o)

    go : (s : Bool) → event_fits sd r.it.edition e ≡ s
        → leaves (held_after r.no e v) (f (numbered_step sd r.it r.no e v)) ≡ refused
    go true w = ap (λ (o : O.Outcome). leaves (held_after r.no e v) (f o)) (then_stale sd r.it r.no e v w q) ∙
        ap (leaves (held_after r.no e v)) y
    go false w = ap (λ (o : O.Outcome). leaves (held_after r.no e v) (f o)) (shape_first sd r.it r.no e v w) ∙
        ap (leaves (held_after r.no e v)) x

pub never : (sd : Side) (r : Numbered Record) (e : Event) (v : ℕ) (f : O.Outcome → Outcome Record Wire)
    → is_stale r.no e v ≡ false → numberedly sd r e v f ≡ leaves (held_after r.no e v) (f (step sd r.it e))
never sd r e v f q = ap (λ (o : O.Outcome). leaves (held_after r.no e v) (f o)) (then_step sd r.it r.no e v q)

module _ (K : Codec) (ed : Edition) (p : ℕ) where
  -- ---- an entry

  pub receive_same : (sd : Side) (r : Numbered Record) (w : Numbered Wire)
      → (step_numbered K p).at.receive sd r w ≡ meets_no (step_machine K p) sd r w
  unfolding is_stale held_after is_start is_service service_starts
  receive_same sd r w = go w.it.primitive
    where
      ev : Option Invoked → Event
      ev i = Service (arrives sd i) (apdu_of (K.dec (other sd) w.it.bytes))

      f : O.Outcome → Outcome Record Wire
      f o = happens K sd o (body_of (K.dec (other sd) w.it.bytes))

      go : (i : Option Invoked)
          → numberedly sd r (Service (arrives sd i) (apdu_of (K.dec (other sd) w.it.bytes))) w.no (λ (o : O.Outcome). happens K sd o (body_of (K.dec (other sd) w.it.bytes)))
          ≡ cond (begins? (sort_of i)) (cond (ltb r.no w.no) (leaves w.no (happens K sd
          (step sd r.it (Service (arrives sd i) (apdu_of (K.dec (other sd) w.it.bytes))))
          (body_of (K.dec (other sd) w.it.bytes)))) refused)
          (cond (eqb w.no r.no) (leaves r.no (happens K sd
          (step sd r.it (Service (arrives sd i) (apdu_of (K.dec (other sd) w.it.bytes))))
          (body_of (K.dec (other sd) w.it.bytes)))) refused)
      go None = late sd r (ev None) w.no f (eqb w.no r.no)
          (leaves r.no (f (step sd r.it (ev None)))) refl refl refl (λ (e : _). refl)
      go (Some (DStartRequest q s)) = late sd r (ev (Some (DStartRequest q s))) w.no f (ltb r.no w.no)
          (leaves w.no (f (step sd r.it (ev (Some (DStartRequest q s)))))) refl refl refl (λ (e : _). refl)
      go (Some (DStartResponse x s)) = late sd r (ev (Some (DStartResponse x s))) w.no f (eqb w.no r.no)
          (leaves r.no (f (step sd r.it (ev (Some (DStartResponse x s)))))) refl refl refl (λ (e : _). refl)
      go (Some DDataRequest) = late sd r (ev (Some DDataRequest)) w.no f (eqb w.no r.no)
          (leaves r.no (f (step sd r.it (ev (Some DDataRequest))))) refl refl refl (λ (e : _). refl)
      go (Some DEndRequest) = late sd r (ev (Some DEndRequest)) w.no f (eqb w.no r.no)
          (leaves r.no (f (step sd r.it (ev (Some DEndRequest))))) refl refl refl (λ (e : _). refl)
      go (Some (DEndResponse x)) = late sd r (ev (Some (DEndResponse x))) w.no f (eqb w.no r.no)
          (leaves r.no (f (step sd r.it (ev (Some (DEndResponse x)))))) refl refl refl (λ (e : _). refl)
      go (Some (DAbortRequest x)) = late sd r (ev (Some (DAbortRequest x))) w.no f (eqb w.no r.no)
          (leaves r.no (f (step sd r.it (ev (Some (DAbortRequest x)))))) refl refl refl (λ (e : _). refl)
      go (Some (DStartForwardRequest q s v)) = late sd r (ev (Some (DStartForwardRequest q s v))) w.no f (ltb r.no w.no)
          (leaves w.no (f (step sd r.it (ev (Some (DStartForwardRequest q s v)))))) refl refl refl (λ (e : _). refl)
      go (Some (DStartForwardResponse s v)) = late sd r (ev (Some (DStartForwardResponse s v))) w.no f (eqb w.no r.no)
          (leaves r.no (f (step sd r.it (ev (Some (DStartForwardResponse s v)))))) refl refl refl (λ (e : _). refl)

  -- ---- a call

  abbrev pub Starting : Outcome Record Wire → Type 0
  Starting refused = Unit {0}
  Starting (acts r l s) = T (starts (step_machine K p) s)

  pub numbers_start : (n v : ℕ) (o : Outcome Record Wire) → Starting o
      → cond (ltb n v) (leaves v o) refused ≡ numbers (step_machine K p) n v o
  numbers_start n v refused t = go (ltb n v)
    where
      go : (b : Bool) → ◌≡◌ {A = Outcome (Numbered Record) (Numbered Wire)} (cond b refused refused) refused
      go true = refl
      go false = refl
  numbers_start n v (acts r l s) t = sym (yes (starts (step_machine K p) s) _ _ (is_t (starts (step_machine K p) s) t))

  pub numbers_calm : (n v : ℕ) (o : Outcome Record Wire) → Calm (step_machine K p) o → leaves n o ≡ numbers (step_machine K p) n v o
  numbers_calm n v refused t = refl
  numbers_calm n v (acts r l s) t = sym (nay (starts (step_machine K p) s) _ _ (no_T (starts (step_machine K p) s) t))

  -- a call is refused, or does what its clause says
  pub call_shape : (Q : Outcome Record Wire → Type 0) (sd : Side) (r : Record) (e : Event) (b : Body) (j : ℕ)
      → Q refused → Q (taken K sd (S.acts sd r e) b j []) → Q (calls K sd (step sd r e) b j)
  unfolding step
  call_shape Q sd r e b j x y = go (is_none (refusal_of sd r e)) refl
    where
      either : (c : Bool) → Q (cond c (taken K sd (S.acts sd r e) b j []) refused)
      either true = y
      either false = x

      go : (c : Bool) → is_none (refusal_of sd r e) ≡ c → Q (calls K sd (cond c (S.acts sd r e) (M.refused (refusal_of sd r e) r)) b j)
      go true q = either (is_none (S.acts sd r e).refusal && K.fits sd (S.acts sd r e).apdu b)
      go false q = subst (λ (c : Bool). Q (cond (c && K.fits sd (M.refused (refusal_of sd r e) r).apdu b)
          (taken K sd (M.refused (refusal_of sd r e) r) b j []) refused)) (sym q) x

  pub call_same : (sd : Side) (r : Numbered Record) (a : Numbered Order)
      → (step_numbered K p).at.call sd r a ≡ numbers (step_machine K p) r.no a.no (calls K sd (step sd r.it (User (asked K p a.it))) (data_of a.it) (job_of a.it))
  unfolding S.acts called start_request start_response message_request end_request end_response user_abort sent is_stale
      held_after is_start is_service user_starts
  call_same sd r a = go a.it
    where
      -- a start
      begun : (x : Order) → is_stale r.no (User (asked K p x)) a.no ≡ not (ltb r.no a.no)
          → held_after r.no (User (asked K p x)) a.no ≡ a.no
          → Starting (calls K sd (step sd r.it (User (asked K p x))) (data_of x) (job_of x))
          → numberedly sd r (User (asked K p x)) a.no (λ (o : O.Outcome). calls K sd o (data_of x) (job_of x)) ≡ numbers (step_machine K p) r.no a.no (calls K sd (step sd r.it (User (asked K p x))) (data_of x) (job_of x))
      begun x q h t =
          let o = calls K sd (step sd r.it (User (asked K p x))) (data_of x) (job_of x) in
          late sd r (User (asked K p x)) a.no (λ (o : O.Outcome). calls K sd o (data_of x) (job_of x))
          (ltb r.no a.no) (leaves a.no o) q refl refl
          (λ (z : ltb r.no a.no ≡ true). ap (λ (n : ℕ). leaves n o) (sym h))
          ∙ numbers_start r.no a.no o t

      -- another call
      other_call : (x : Order) → is_stale r.no (User (asked K p x)) a.no ≡ false
          → held_after r.no (User (asked K p x)) a.no ≡ r.no
          → Calm (step_machine K p) (calls K sd (step sd r.it (User (asked K p x))) (data_of x) (job_of x))
          → numberedly sd r (User (asked K p x)) a.no (λ (o : O.Outcome). calls K sd o (data_of x) (job_of x)) ≡ numbers (step_machine K p) r.no a.no (calls K sd (step sd r.it (User (asked K p x))) (data_of x) (job_of x))
      other_call x q h t =
          let o = calls K sd (step sd r.it (User (asked K p x))) (data_of x) (job_of x) in
          never sd r (User (asked K p x)) a.no (λ (o : O.Outcome). calls K sd o (data_of x) (job_of x)) q ∙ ap
          (λ (n : ℕ). leaves n o) h ∙ numbers_calm r.no a.no o t

      go : (x : Order)
          → numberedly sd r (User (asked K p x)) a.no (λ (o : O.Outcome). calls K sd o (data_of x) (job_of x)) ≡ numbers (step_machine K p) r.no a.no (calls K sd (step sd r.it (User (asked K p x))) (data_of x) (job_of x))
      go (start_request_of m k b) = begun (start_request_of m k b) refl refl
          (call_shape Starting sd r.it (User (asked K p (start_request_of m k b))) b 0 tt tt)
      go (start_response_of m x b) = other_call (start_response_of m x b) refl refl
          (call_shape (Calm (step_machine K p)) sd r.it (User (asked K p (start_response_of m x b))) b 0 tt tt)
      go (message_request_of b j) = other_call (message_request_of b j) refl refl
          (call_shape (Calm (step_machine K p)) sd r.it (User (asked K p (message_request_of b j))) b j tt tt)
      go (end_request_of m b) = other_call (end_request_of m b) refl refl
          (call_shape (Calm (step_machine K p)) sd r.it (User (asked K p (end_request_of m b))) b 0 tt tt)
      go (end_response_of m x b) = other_call (end_response_of m x b) refl refl
          (call_shape (Calm (step_machine K p)) sd r.it (User (asked K p (end_response_of m x b))) b 0 tt tt)
      go (user_abort_of g x) = other_call (user_abort_of g x) refl refl
          (call_shape (Calm (step_machine K p)) sd r.it (User (asked K p (user_abort_of g x))) [] 0 tt tt)

  -- ---- so the two are one machine

  abbrev pub N : NMachine
  N = numbered (step_machine K p)

  abbrev pub plain : Side → O.Outcome → Outcome Record Wire
  plain sd o = happens K sd o []

  pub expiry_same : (sd : Side) (r : Numbered Record) → (step_numbered K p).at.expiry sd r ≡ N.at.expiry sd r
  unfolding is_stale held_after is_start is_service
  expiry_same sd r = never sd r TimerExpires 0 (plain sd) refl

  pub error_same : (sd : Side) (r : Numbered Record) → (step_numbered K p).at.error sd r ≡ N.at.error sd r
  unfolding is_stale held_after is_start is_service
  error_same sd r = never sd r UnrecoverableSystemError 0 (plain sd) refl

  pub away_same : (sd : Side) (r : Numbered Record) → (step_numbered K p).at.away sd r ≡ N.at.away sd r
  unfolding is_stale held_after is_start is_service service_starts
  away_same sd r = never sd r (Service rejects Absent) r.no (plain sd) (ap not (self r.no))

  pub p_abort_same : (sd : Side) (r : Numbered Record) → (step_numbered K p).at.p_abort sd r ≡ N.at.p_abort sd r
  unfolding is_stale held_after is_start is_service service_starts
  p_abort_same sd r = never sd r (Service DPAbortIndication Absent) r.no (plain sd) (ap not (self r.no))

  abbrev pub same_step : NAgree (step_numbered K p) (numbered (step_machine K p))
  same_step = record {
    agree = record {
      RR = λ (sd : Side) (r q : Numbered Record). r ≡ q;
      EE = λ (sd : Side) (e f : Numbered Wire). e ≡ f;
      ctl_is = λ (sd : Side) (r q : Numbered Record) (x : r ≡ q). ap (λ (z : Numbered Record). z.it.control) x;
      sort_is = λ (sd : Side) (e f : Numbered Wire) (x : e ≡ f). ap (λ (z : Numbered Wire). sort_of z.it.primitive) x;
      call_is = λ (sd : Side) (r q : Numbered Record) (a : Numbered Order) (x : r ≡ q). does a
          (out_eq _ _ (call_same sd r a ∙ ap (λ (z : Numbered Record). N.at.call sd z a) x));
      receive_is = λ (sd : Side) (r q : Numbered Record) (e f : Numbered Wire) (x : r ≡ q) (y : e ≡ f). out_eq _ _ (
          receive_same sd r e ∙ ap (λ (z : Numbered Record). N.at.receive sd z e) x ∙ ap
          (λ (z : Numbered Wire). N.at.receive sd q z) y);
      expiry_is = λ (sd : Side) (r q : Numbered Record) (x : r ≡ q). does tt
          (out_eq _ _ (expiry_same sd r ∙ ap (λ (z : Numbered Record). N.at.expiry sd z) x));
      error_is = λ (sd : Side) (r q : Numbered Record) (x : r ≡ q). does tt
          (out_eq _ _ (error_same sd r ∙ ap (λ (z : Numbered Record). N.at.error sd z) x));
      away_is = λ (sd : Side) (r q : Numbered Record) (x : r ≡ q). out_eq _ _
          (away_same sd r ∙ ap (λ (z : Numbered Record). N.at.away sd z) x);
      p_abort_is_law = λ (sd : Side) (r q : Numbered Record) (x : r ≡ q). out_eq _ _
          (p_abort_same sd r ∙ ap (λ (z : Numbered Record). N.at.p_abort sd z) x);
    };
    holds_is = λ (sd : Side) (r q : Numbered Record) (x : r ≡ q). ap (λ (z : Numbered Record). z.no) x;
    carries_is = λ (sd : Side) (e f : Numbered Wire) (x : e ≡ f). ap (λ (z : Numbered Wire). z.no) x;
  }

  -- from any two IDLE records of the pair, of which n and k are the numbers; all starts come from one side, whose number is not below the other's
  module _ (fair : security_sent (secures ed) p ≡ p) (v : T (ltb p security_values)) (from : Side) (n k : ℕ) (r q : Record) (h : Local ed p r) (i : T (is_idle r.control)) (x : Local ed p q) (j : T (is_idle q.control)) (b : not_below from n k) where
    abbrev pub numbered_after : List (Turn (Numbered Order)) → NSys (step_numbered K p)
    numbered_after ts = n_run (step_numbered K p) from (n_fresh (step_numbered K p) (mark n r) (mark k q)) ts

    -- request E9's pair statement for the machines with refusal 6 in its place
    pub numbered_holds : (ts : List (Turn (Numbered Order))) → NClaims (step_numbered K p) r.highest q.highest (numbered_after ts)
    numbered_holds ts = n_holds_through (step_numbered K p) N same_step from (mark n r) (mark k q) (mark n r) (mark k q)
        refl refl (step_numbered_is K ed p fair v from n k r q h i x j b) ts

    -- and on every run t-start runs exactly in START-REQ, the user is active exactly outside IDLE, and IDLE has DSC false
    pub numbered_local : (ts : List (Turn (Numbered Order)))
        → Local ed p (numbered_after ts).here.rec.it × Local ed p (numbered_after ts).there.rec.it
    numbered_local ts =
        let f = n_followed (step_numbered K p) N same_step from (mark n r) (mark k q) (mark n r) (mark k q) refl refl ts in
        let g = n_followed N (numbered control) (with_number (step_machine K p) control (agrees K ed p fair v)) from (mark n r) (mark k q) (mark n (held closed r.highest)) (mark k (held closed q.highest)) (refl, idle_same K ed p fair v r h i) (refl, idle_same K ed p fair v q x j) f.turns in (
          subst (λ (z : Numbered Record). Local ed p z.it) (sym f.rel.here.rec) g.rel.here.rec.1.local,
          subst (λ (z : Numbered Record). Local ed p z.it) (sym f.rel.there.rec) g.rel.there.rec.1.local,
        )

    -- and no machine answers an entry that is handed over by a D-ABORT
    pub numbered_silent : (ts : List (Turn (Numbered Order))) → NQuiet (step_numbered K p) (numbered_after ts)
    numbered_silent ts =
        let f = n_followed (step_numbered K p) N same_step from (mark n r) (mark k q) (mark n r) (mark k q) refl refl ts in
        let a = with_number (step_machine K p) control (agrees K ed p fair v) in
        let y = mark n (held closed r.highest) in
        let z = mark k (held closed q.highest) in
        let g = n_followed N (numbered control) a from (mark n r) (mark k q) y z (refl, idle_same K ed p fair v r h i)
        (refl, idle_same K ed p fair v q x j) f.turns in
        n_quiet_through (step_numbered K p) N same_step (numbered_after ts) (n_run N from (n_fresh N (mark n r) (mark k q)) f.turns) f.rel
        (n_quiet_through N (numbered control) a (n_run N from (n_fresh N (mark n r) (mark k q)) f.turns)
        (n_run (numbered control) from (n_fresh (numbered control) y z) g.turns) g.rel
        (control_numbered_quiet from n k r.highest q.highest b g.turns))
