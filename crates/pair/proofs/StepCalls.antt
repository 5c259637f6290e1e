-- A user call, an expiry and a system error at the machines do what the control does.
-- Assumes nothing.
use mathlib.Core.Path.{◌≡◌, refl, ap, sym, ◌∙◌, subst}
use mathlib.Core.Bool.{Bool, true, false, not, cond, ◌&&◌}
use mathlib.Core.List.{[]}
use Prim.Native.Nat.{ℕ, suc}
use lib.Dec.{T, ltb, leb, le→leb, nleb→lt}
use Rattle.editions.specs.Editions.{secures, spares, user_reasons}
use Rattle.editions.specs.declared.Edition.{Edition}
use Rattle.editions.specs.declared.Edition.TheVariants.{Plain, Protected}
use Rattle.machine.specs.Codes.{user, results, routing_classes, security_values, timer_expired, undefined_error}
use Rattle.control.specs.Control.{started, ended}
use Rattle.machine.specs.Record.{with_timer, with_user, with_job, with_request, enter}
use Rattle.machine.specs.Outcome.{is_none}
use Rattle.machine.specs.Outcome as O
use Rattle.machine.specs.Event.{is_dsc, has_mode, answer_fits, user_fits, event_fits}
use Rattle.machine.specs.Exceptions.{closes, excepts, timer_expires, system_error}
use Rattle.machine.specs.Calls.{reply_of, sent, qos_asked, security_sent, unless_spared, start_request, start_response, message_request, end_request, end_response, reason_sent, user_abort, unsent, called}
use Rattle.machine.specs.Calls as U
use Rattle.machine.specs.Step.{permitted, message_refusal, refusal_of, acts, step}
use Rattle.machine.specs.declared.record.Record.{Record}
use Rattle.machine.specs.declared.event.UserData.TheVariants.{Start, Send, AbortUser}
use Rattle.machine.specs.declared.event.Event.{Event}
use Rattle.machine.specs.declared.event.Event.TheVariants.{User, TimerExpires, UnrecoverableSystemError}
use Rattle.machine.specs.declared.outcome.StepRefusal.{StepRefusal}
use Rattle.machine.specs.declared.outcome.StepRefusal.TheVariants.{Shape, Prohibited, NoMessage, Repeat}
use Rattle.machine.specs.declared.outcome.Invoked.TheVariants.{DStartRequest, DStartResponse, DDataRequest, DEndRequest, DEndResponse, DAbortRequest}
use Rattle.control.proofs.Moves.{goes_awaits}
use Rattle.pair.specs.Names.{Side, Control, Call, StartRequest, StartResponse, MessageRequest, EndRequest, EndResponse, UserAbort, TimerExpiry, SystemError, is, is_idle, takes, goes, StartReq, Reply, Accepted, Rejected, DStartCnf, DEnd, DEndCnf}
use Rattle.pair.specs.Carrier.{Body, Sent}
use Rattle.pair.specs.Carrier as C
use Rattle.pair.proofs.ControlMachine.{ent, Held, held, Ent, Ask, ask, job_fine, may_call, highest, moved, call_of}
use Rattle.pair.proofs.ControlMachine as M
use Rattle.pair.specs.Wires.{Wire}
use Rattle.pair.proofs.StepMachine.{Codec, taken, happens, Order, start_request_of, start_response_of, message_request_of, end_request_of, end_response_of, user_abort_of, asked, data_of, job_of, calls}
use Rattle.pair.proofs.Finite.{and_l, and_r, both, is_t, T_is}
use Rattle.pair.proofs.Agree.{SentRel, OutRel, Follows, stays, does}
use Rattle.pair.proofs.StepLocal.{Local, low_of, Low, closed_is_idle}
use Rattle.pair.proofs.StepEnds.{excepts_rel}
use Rattle.pair.proofs.StepMeans.{known, meant, Means, written, start_means, answer_means, end_request_means, end_means, user_means}
use Rattle.std.specs.Prelude.{None, Option, Some}

-- ---- refusals

-- an event that is not refused has the codes of its types, is permitted, and is not unsent
order : (a b : Bool) (w : Option StepRefusal) → is_none (cond (not a) (Some Shape) (cond (not b) (Some Prohibited) w)) ≡ true → T a × T b × (is_none w ≡ true)
order true true w e = (tt, tt, e)
order true false w e = absurd (subst T (sym e) tt)
order false b w e = absurd (subst T (sym e) tt)

step_taken : (sd : Side) (r : Record) (e : Event) → is_none (refusal_of sd r e) ≡ true → step sd r e ≡ acts sd r e
unfolding step
step_taken sd r e t = rw t

step_refused : (sd : Side) (r : Record) (e : Event) → is_none (refusal_of sd r e) ≡ false → is_none (step sd r e).refusal ≡ false
unfolding step
step_refused sd r e t = rw t t

above : (j h : ℕ) → leb j h ≡ false → T (ltb h j)
above j h e = le→leb (suc h) j (nleb→lt j h (subst (λ (b : Bool). T (not b)) (sym e) tt))

-- a message request that is taken holds a message and a job above the highest
message_fine : (b t : Bool) → is_none (cond (not b) (Some NoMessage) (cond t (Some Repeat) None)) ≡ true → t ≡ false
message_fine true true e = absurd (subst T (sym e) tt)
message_fine true false e = refl
message_fine false t e = absurd (subst T (sym e) tt)

module _ (K : Codec) (ed : Edition) (p : ℕ) where
  abbrev pub Follow : Side → Record → C.Outcome Record Wire → Type 0
  Follow sd r o = Follows (Low ed p) (Means K ed p sd) o (low_of r) (call_of sd (low_of r))

  made : (sd : Side) (q : Held) (a : Ask) → T (may_call sd q a) → call_of sd q a ≡ C.acts (moved q a) [] (M.sent_by a)
  made sd q a t = ap (λ (b : Bool). cond b (C.acts (moved q a) [] (M.sent_by a)) C.refused) (is_t (may_call sd q a) t)

  -- the call u of the control does the same
  same_call : (sd : Side) (r z : Record) (u : Call) (b : Body) (j : ℕ) (w : Sent Wire) → Local ed p r
      → T (takes sd r.control u) → T (job_fine u r.highest j) → z.edition ≡ r.edition → z.policy ≡ r.policy
      → (T (is (goes r.control u).state StartReq) → z.request ≡ p) → z.highest ≡ highest u r.highest j
      → SentRel (Means K ed p sd) w (M.sent_by (ask u b j))
      → OutRel (Low ed p) (Means K ed p sd) (C.acts (enter z (goes r.control u)) [] w) (call_of sd (low_of r) (ask u b j))
  unfolding enter
  same_call sd r z u b j w h t f k g n e s =
      subst (λ (o : C.Outcome Held Ent). OutRel (Low ed p) (Means K ed p sd) (C.acts (enter z (goes r.control u)) [] w) o)
      (sym (made sd (low_of r) (ask u b j) (both (takes sd r.control u) (job_fine u r.highest j) t f)))
      (record { edition = k ∙ h.edition; low = ap (held (goes r.control u)) e; policy = g ∙ h.policy; request = n; dialogue = goes_awaits r.control u h.dialogue }, refl, s)

  -- an answer does not lead to START-REQ
  pub started_not : (a : Reply) (d : Bool) → T (is (started a d).state StartReq) → ⊥
  started_not Accepted d x = x
  started_not Rejected d x = x

  pub ended_not : (a : Reply) (d : Bool) → T (is (ended a d).state StartReq) → ⊥
  ended_not Accepted d x = x
  ended_not Rejected d x = x

  -- ---- user calls

  abbrev Done : Side → Record → Order → Type 0
  Done sd r a = (f : Bool) → K.fits sd (acts sd r (User (asked K p a))).apdu (data_of a) ≡ f → Follow sd r (cond
      (is_none (acts sd r (User (asked K p a))).refusal && f)
      (taken K sd (acts sd r (User (asked K p a))) (data_of a) (job_of a) []) C.refused)

  -- what is sent where the edition compares no security values is what both ends have
  sent_is : (r : Record) → security_sent (secures ed) p ≡ p → Local ed p r → security_sent (secures r.edition) p ≡ p
  sent_is r fair h = ap (λ (e : Edition). security_sent (secures e) p) h.edition ∙ fair

  zero_fits : (e : Edition) → T (ltb 0 (user_reasons e))
  zero_fits Plain = tt
  zero_fits Protected = tt

  acted : security_sent (secures ed) p ≡ p → (sd : Side) (r : Record) (a : Order) → Local ed p r
      → is_none (refusal_of sd r (User (asked K p a))) ≡ true → Done sd r a
  unfolding acts called start_request start_response message_request end_request end_response user_abort sent refusal_of
      event_fits user_fits permitted U.call_of message_refusal unsent
  acted fair sd r (start_request_of m k b) h e false q = stays tt
  acted fair sd r (start_request_of m k b) h e true q =
      let v = order (has_mode sd m && (ltb k routing_classes && ltb p security_values))
      (takes sd r.control (StartRequest (is_dsc m))) None e in
      let z = sent_is r fair h in
      rw z
      (does (ask (StartRequest (is_dsc m)) b 0)
      (same_call sd r (with_request (with_user (with_timer r true) true) p) (StartRequest (is_dsc m)) b 0
      (C.puts (record { primitive = Some (DStartRequest (qos_asked k) p); bytes = K.enc sd (Start (is_dsc m)) b })) h v.1 tt refl refl (λ (x : T true). refl) refl
      (written K ed p sd (Some (DStartRequest (qos_asked k) p)) (Start (is_dsc m)) b _ (T_is _ q)
      (start_means ed p k (is_dsc m) b (and_l (ltb k routing_classes) _ (and_r (has_mode sd m) _ v.0))))))
  acted fair sd r (start_response_of m x b) h e false q = stays tt
  acted fair sd r (start_response_of m x b) h e true q =
      let v = order (answer_fits (spares r.edition) x (K.carries b)) (takes sd r.control (StartResponse m (reply_of x))) None e in
      let y = subst (λ (c : Edition). answer_fits (spares c) x (K.carries b) ≡ true) h.edition
      (is_t (answer_fits (spares r.edition) x (K.carries b)) v.0) in
      let z : security_sent (secures r.edition) r.policy ≡ p = ap (security_sent (secures r.edition)) h.policy
      ∙ sent_is r fair h in
      does (ask (StartResponse m (reply_of x)) b 0)
      (same_call sd r r (StartResponse m (reply_of x)) b 0
      (C.puts (record { primitive = Some (DStartResponse x (security_sent (secures r.edition) r.policy)); bytes = K.enc sd (unless_spared (spares r.edition) (K.carries b)) b })) h v.1 tt refl refl (λ (y : T (is (started (reply_of x) r.control.dsc).state StartReq)). absurd (started_not (reply_of x) r.control.dsc y)) refl
      (written K ed p sd (Some (DStartResponse x (security_sent (secures r.edition) r.policy)))
      (unless_spared (spares r.edition) (K.carries b)) b _ (T_is _ q) (subst (λ (c : Edition). meant ed p
      (Some (DStartResponse x (security_sent (secures r.edition) r.policy)))
      (unless_spared (spares c) (K.carries b)) b ≡ known (ent (DStartCnf (reply_of x)) b))
      (sym h.edition) (answer_means ed p x _ (K.carries b) b y z))))
  acted fair sd r (message_request_of b j) h e false q = stays tt
  acted fair sd r (message_request_of b j) h e true q =
      let v = order (ltb 0 j) (takes sd r.control MessageRequest) _ e in
      does (ask MessageRequest b j)
      (same_call sd r (with_job r j) MessageRequest b j (C.message (record { primitive = Some DDataRequest; bytes = K.enc sd Send b }) b j) h v.1 (above j r.highest (message_fine (K.carries b) _ v.2)) refl refl h.request refl
      (written K ed p sd (Some DDataRequest) Send b _ (T_is _ q) refl, refl, refl))
  acted fair sd r (end_request_of m b) h e false q = stays tt
  acted fair sd r (end_request_of m b) h e true q =
      let v = order true (takes sd r.control (EndRequest m)) None e in
      does (ask (EndRequest m) b 0) (same_call sd r r (EndRequest m) b 0
      (C.puts (record { primitive = Some DEndRequest; bytes = K.enc sd (unless_spared (spares r.edition) (K.carries b)) b })) h v.1 tt refl refl
      (λ (y : T false). absurd y) refl (written K ed p sd (Some DEndRequest)
      (unless_spared (spares r.edition) (K.carries b)) b _ (T_is _ q) (subst (λ (c : Edition). meant ed
      p (Some DEndRequest) (unless_spared (spares c) (K.carries b)) b ≡ known (ent DEnd b))
      (sym h.edition) (end_request_means ed p (K.carries b) b))))
  acted fair sd r (end_response_of m x b) h e false q = stays tt
  acted fair sd r (end_response_of m x b) h e true q =
      let v = order (ltb x results) (takes sd r.control (EndResponse m (reply_of x))) None e in
      does (ask (EndResponse m (reply_of x)) b 0)
      (same_call sd r r (EndResponse m (reply_of x)) b 0
      (C.puts (record { primitive = Some (DEndResponse x); bytes = K.enc sd (unless_spared (spares r.edition) (K.carries b)) b })) h v.1 tt refl refl (λ
      (y : T (is (ended (reply_of x) r.control.dsc).state StartReq)). absurd
      (ended_not (reply_of x) r.control.dsc y)) refl (written K ed p sd (Some (DEndResponse x))
      (unless_spared (spares r.edition) (K.carries b)) b _ (T_is _ q) (subst (λ (c : Edition). meant ed
      p (Some (DEndResponse x)) (unless_spared (spares c) (K.carries b)) b ≡ known
      (ent (DEndCnf (reply_of x)) b)) (sym h.edition) (end_means ed p x (K.carries b) b v.0))))
  acted fair sd r (user_abort_of g x) h e false q = stays tt
  acted fair sd r (user_abort_of g x) h e true q =
      let v = order (ltb x (user_reasons r.edition)) (takes sd r.control UserAbort) None e in
      does (ask UserAbort [] 0)
      (same_call sd r r UserAbort [] 0
      (C.puts (record { primitive = Some (DAbortRequest user); bytes = K.enc sd (AbortUser (reason_sent g x)) [] })) h v.1 tt refl refl (λ (y : T false). absurd y) refl (written K ed p sd
      (Some (DAbortRequest user)) (AbortUser (reason_sent g x)) [] _ (T_is _ q) (user_means ed p (reason_sent g x)
      (reason g (subst (λ (c : Edition). T (ltb x (user_reasons c))) h.edition v.0)))))
    where
      reason : (g : Bool) → T (ltb x (user_reasons ed)) → T (ltb (reason_sent g x) (user_reasons ed))
      reason true t = t
      reason false t = zero_fits ed

  pub call_rel : security_sent (secures ed) p ≡ p → (sd : Side) (r : Record) (a : Order) → Local ed p r
      → Follow sd r (calls K sd (step sd r (User (asked K p a))) (data_of a) (job_of a))
  call_rel fair sd r a h = go (is_none (refusal_of sd r (User (asked K p a)))) refl
    where
      go : (b : Bool) → is_none (refusal_of sd r (User (asked K p a))) ≡ b
          → Follow sd r (calls K sd (step sd r (User (asked K p a))) (data_of a) (job_of a))
      go true e = rw (step_taken sd r (User (asked K p a)) e)
          (acted fair sd r a h e (K.fits sd (acts sd r (User (asked K p a))).apdu (data_of a)) refl)
      go false e = rw (step_refused sd r (User (asked K p a)) e) (stays tt)

  -- ---- an expiry, a system error

  abbrev Reported : Side → Record → C.Outcome Record Wire → Call → Type 0
  Reported sd r o u = Follows {X = Unit {0}} (Low ed p) (Means K ed p sd) o (low_of r) (λ (x : Unit {0}). call_of sd (low_of r) (ask u [] 0))

  -- the control takes the report
  taken_report : (sd : Side) (r : Record) (u : Call) (o : C.Outcome Record Wire) → T (may_call sd (low_of r) (ask u [] 0))
      → OutRel (Low ed p) (Means K ed p sd) o (C.acts (moved (low_of r) (ask u [] 0)) [] (M.sent_by (ask u [] 0)))
      → Reported sd r o u
  taken_report sd r u o t x = does tt (subst (λ (z : C.Outcome Held Ent). OutRel (Low ed p) (Means K ed p sd) o z)
      (sym (made sd (low_of r) (ask u [] 0) t)) x)

  pub expiry_rel : (sd : Side) (r : Record) → Local ed p r → Reported sd r (happens K sd (step sd r TimerExpires) []) TimerExpiry
  unfolding step refusal_of event_fits permitted message_refusal acts timer_expires
  expiry_rel sd r h = go r.timer refl
    where
      go : (t : Bool) → r.timer ≡ t
          → Reported sd r (happens K sd (cond (is_none (cond (not t) (Some Prohibited) None)) (timer_expires r) (O.refused (cond (not t) (Some Prohibited) None) r)) []) TimerExpiry
      go false e = stays tt
      go true e = taken_report sd r TimerExpiry _
          (both (takes sd r.control TimerExpiry) true (T_is _ (sym h.formed.timer ∙ e)) tt)
          (excepts_rel K ed p sd r timer_expired timer_expired [] h tt)

  pub error_rel : (sd : Side) (r : Record) → Local ed p r → Reported sd r (happens K sd (step sd r UnrecoverableSystemError) []) SystemError
  unfolding step refusal_of event_fits permitted message_refusal acts system_error closes enter
  error_rel sd r h = go (is_idle r.control) refl
    where
      go : (i : Bool) → is_idle r.control ≡ i
          → Reported sd r (happens K sd (cond i (closes r None) (excepts r true undefined_error undefined_error)) []) SystemError
      go true e = stays (record { edition = h.edition; low = ap (λ (c : Control). held c r.highest) (closed_is_idle r h.formed e); policy = h.policy; request = λ (x : T false). absurd x; dialogue = refl }, refl)
      go false e = taken_report sd r SystemError _
          (both (takes sd r.control SystemError) true (subst (λ (b : Bool). T (not b)) (sym e) tt) tt)
          (excepts_rel K ed p sd r undefined_error undefined_error [] h tt)
