-- An entry that means something to the control, handed over to a machine, does there what it does to the control. So on a run no
-- machine meets a fault other than an unexpected state; and none of these either, since the control's lines hold none.
-- Assumes nothing.
use mathlib.Core.Path.{◌≡◌, refl, ap, sym, ◌∙◌, subst}
use mathlib.Core.Bool.{Bool, true, false, not, cond, ◌&&◌}
use mathlib.Core.List.{[]}
use Prim.Native.Nat.{ℕ, zero, suc}
use native.Mathlib.Omega.{arith}
use lib.Dec.{T, ltb, eqb, eqb→eq, ltb→lt}
use borrow.Author.Tests.{eq-eqb}
use Rattle.editions.specs.Editions.{secures, spares, user_reasons}
use Rattle.editions.specs.declared.Edition.{Edition}
use Rattle.machine.specs.Codes.{accepted, no_security, no_version, transient, ds_provider, user, provider, results, start_results, originators, provider_reasons, security_values, protocol_error, communication_service_error, communication_service_failure}
use Rattle.control.specs.Control.{started, ended}
use Rattle.control.proofs.Moves.{after_awaits}
use Rattle.clauses.proofs.Clauses.{no_instruction_outside}
use Rattle.machine.specs.Record.{with_timer, with_user, enter}
use Rattle.machine.specs.Outcome.{is_none}
use Rattle.machine.specs.Outcome as O
use Rattle.machine.specs.UserData.{user_data_fits, abort_fits}
use Rattle.machine.specs.Event.{qos_fits, service_fits, event_fits}
use Rattle.machine.specs.Exceptions.{tell, closes, excepts, no_instruction}
use Rattle.machine.specs.Calls.{reply_of}
use Rattle.machine.specs.Faults.{differs, send_allowed, pdu_fault, send_fault, abort_fault, start_fits_of, turned_away, indication_fault, response_fault, confirmation_fault, first_fault}
use Rattle.machine.specs.Primitives.{handed, abort_told, instructed, answered, reached}
use Rattle.machine.specs.Step.{permitted, message_refusal, refusal_of, acts, step}
use Rattle.machine.specs.declared.record.Record.{Record}
use Rattle.machine.specs.declared.event.UserData.{UserData}
use Rattle.machine.specs.declared.event.UserData.TheVariants.{Absent, NotValid, Start, Send, AbortUser, AbortProvider, Forward, ForwardResponse}
use Rattle.machine.specs.declared.event.Qos.{Qos}
use Rattle.machine.specs.declared.event.ServicePrimitive.{ServicePrimitive}
use Rattle.machine.specs.declared.event.ServicePrimitive.TheVariants.{DStartIndication, DStartConfirmation, DDataIndication, DEndIndication, DEndConfirmation, DAbortIndication, DPAbortIndication}
use Rattle.machine.specs.declared.event.Event.{Event}
use Rattle.machine.specs.declared.event.Event.TheVariants.{Service}
use Rattle.machine.specs.declared.faults.Fault.{Fault}
use Rattle.machine.specs.declared.faults.Fault.TheVariants.{NoInstruction, Quality, TurnedAway, Security, NotPermitted}
use Rattle.machine.specs.declared.outcome.StepRefusal.TheVariants.{Shape}
use Rattle.machine.specs.declared.outcome.Invoked.{Invoked}
use Rattle.machine.specs.declared.outcome.Invoked.TheVariants.{DStartRequest, DStartResponse, DDataRequest, DEndRequest, DEndResponse, DAbortRequest, DStartForwardRequest, DStartForwardResponse}
use Rattle.machine.specs.declared.outcome.Told.{Told}
use Rattle.machine.specs.declared.outcome.Told.TheVariants.{StartIndication, StartConfirmation, MessageIndication, EndIndication, EndConfirmation, ProviderAbortIndication}
use Rattle.machine.specs.declared.outcome.Outcome.{Outcome}
use Rattle.pair.specs.Names.{Side, Air, Ground, StartReq, Control, Primitive, DStart, DStartCnf, DTurnedAway, DData, DEnd, DEndCnf, DAbort, DPAbort, is, is_idle, closed, may_start, expects, after, is_data, quiet}
use Rattle.pair.specs.Names as N
use Rattle.pair.specs.Carrier.{Body, nothing}
use Rattle.pair.specs.Carrier as C
use Rattle.pair.proofs.ControlMachine.{held, Ent, ent, met, receives}
use Rattle.pair.proofs.ControlMachine as M
use Rattle.pair.specs.Wires.{caller_of, ds_user, arrives, rejects}
use Rattle.pair.proofs.StepMachine.{Read, got, fault, Codec, apdu_of, body_of, handed_by, happens}
use Rattle.pair.proofs.Finite.{and_l, and_r, is_t, T_is}
use Rattle.pair.proofs.StepLocal.{Local, low_of}
use Rattle.pair.proofs.StepCalls.{started_not, ended_not}
use Rattle.pair.proofs.StepMeans.{known, ent_of, start_of, send_of, answer_of, abort_of, meant, meaning, never, known_if}
use Rattle.pair.proofs.StepEnds.{Out, closes_rel, none_rel, excepts_rel}
use Rattle.std.specs.Prelude.{None, Option, Some}

-- a Result of the two values
two : (P : ℕ → Type 0) → P 0 → P 1 → (x : ℕ) → T (ltb x results) → P x
two P a b zero t = a
two P a b (suc zero) t = b
two P a b (suc (suc n)) t =
    let v = ltb→lt (suc (suc n)) 2 t in
    absurd (omega (arith, v))

module _ (K : Codec) (ed : Edition) (p : ℕ) where
  -- ---- an expected primitive leads where the control goes

  handed_rel : (sd : Side) (r z : Record) (k : Primitive) (t : Option Told) (b : Body) → Local ed p r
      → T (expects sd r.control k) → z.edition ≡ r.edition → z.control ≡ r.control → z.highest ≡ r.highest
      → z.policy ≡ r.policy → (T (is (after r.control k).state StartReq) → z.request ≡ p)
      → handed_by t b ≡ M.handed (is_data k) b
      → Out K ed p sd (happens K sd (handed z k t) b) (C.acts (held (after r.control k) r.highest) (M.handed (is_data k) b) nothing)
  unfolding handed enter
  handed_rel sd r z k t b h v y c j m n e =
      subst (λ (x : Control). Out K ed p sd (C.acts (enter z (after x k)) (handed_by t b) nothing)
      (C.acts (held (after r.control k) r.highest) (M.handed (is_data k) b) nothing)) (sym c)
      (record { edition = y ∙ h.edition; low = ap (held (after r.control k)) j; policy = m ∙ h.policy; request = n; dialogue = after_awaits r.control k h.dialogue }, e, tt)

  -- the control meets k, which is no start
  abbrev Meets : Side → Record → Primitive → Body → Outcome → Type 0
  Meets sd r k b o = Out K ed p sd (happens K sd o b) (met (low_of r) (cond (expects sd r.control k)
      (quiet (after r.control k)) (cond (is_idle r.control && true) (quiet closed) (N.aborts closed)))
      (M.handed (is_data k && expects sd r.control k) b))

  and_true : (b : Bool) → b && true ≡ b
  and_true true = refl
  and_true false = refl

  and_false : (b : Bool) → b && false ≡ false
  and_false true = refl
  and_false false = refl

  -- the first fault is an unexpected state, or f
  expected_rel : (sd : Side) (r : Record) (k : Primitive) (b : Body) (q : ServicePrimitive) (a : UserData) (f : Option Fault) → Local ed p r
      → (T (expects sd r.control k) → Out K ed p sd (happens K sd (answered r q a f) b)
      (C.acts (held (after r.control k) r.highest) (M.handed (is_data k) b) nothing))
      → Meets sd r k b (answered r q a (cond (not (expects sd r.control k)) (Some (NoInstruction true)) f))
  unfolding answered
  expected_rel sd r k b q a f h x = go (expects sd r.control k) refl
    where
      go : (e : Bool) → expects sd r.control k ≡ e
          → Out K ed p sd (happens K sd (answered r q a (cond (not e) (Some (NoInstruction true)) f)) b) (met (low_of r) (cond e (quiet (after r.control k)) (cond (is_idle r.control && true) (quiet closed) (N.aborts closed))) (M.handed (is_data k && e) b))
      go true w = rw (and_true (is_data k)) (x (T_is _ w))
      go false w = rw (and_false (is_data k)) (none_rel K ed p sd r b h)

  -- ---- D-DATA, D-END

  data_rel : (sd : Side) (r : Record) (b : Body) → Local ed p r
      → Out K ed p sd (happens K sd (step sd r (Service DDataIndication Send)) b) (receives sd (low_of r) (ent DData b))
  unfolding step refusal_of event_fits service_fits user_data_fits permitted message_refusal acts reached first_fault send_fault
      pdu_fault answered instructed
  data_rel sd r b h =
      expected_rel sd r DData b DDataIndication Send None h
      (λ (v : T (expects sd r.control DData)). handed_rel sd r r DData (Some MessageIndication) b h v refl refl refl refl h.request refl)

  end_rel : (sd : Side) (r : Record) (b : Body) → Local ed p r
      → Out K ed p sd (happens K sd (step sd r (Service DEndIndication Send)) b) (receives sd (low_of r) (ent DEnd b))
  unfolding step refusal_of event_fits service_fits user_data_fits permitted message_refusal acts reached first_fault send_fault
      pdu_fault answered instructed
  end_rel sd r b h =
      expected_rel sd r DEnd b DEndIndication Send None h
      (λ (v : T (expects sd r.control DEnd)). handed_rel sd r r DEnd (Some (EndIndication r.control.dsc)) b h v refl
      refl refl refl (λ (x : T false). absurd x) refl)

  -- the same without user data, where it is spared
  end_spared_rel : (sd : Side) (r : Record) (b : Body) → Local ed p r → spares r.edition ≡ true
      → Out K ed p sd (happens K sd (step sd r (Service DEndIndication Absent)) b) (receives sd (low_of r) (ent DEnd b))
  unfolding step refusal_of event_fits service_fits user_data_fits permitted message_refusal acts reached first_fault send_fault
      pdu_fault answered instructed
  end_spared_rel sd r b h z =
      rw z
      (expected_rel sd r DEnd b DEndIndication Absent None h
      (λ (v : T (expects sd r.control DEnd)). handed_rel sd r r DEnd (Some (EndIndication r.control.dsc)) b h v refl
      refl refl refl (λ (x : T false). absurd x) refl))

  -- ---- D-END confirmation

  ended_rel : (sd : Side) (r : Record) (x : ℕ) (b : Body) → Local ed p r → T (ltb x results)
      → Out K ed p sd (happens K sd (step sd r (Service (DEndConfirmation x) Send)) b) (receives sd (low_of r) (ent (DEndCnf (reply_of x)) b))
  unfolding step refusal_of event_fits service_fits user_data_fits permitted message_refusal acts reached first_fault send_fault
      pdu_fault answered instructed
  ended_rel sd r x b h t = two (λ (y : ℕ). Out K ed p sd
      (happens K sd (step sd r (Service (DEndConfirmation y) Send)) b)
      (receives sd (low_of r) (ent (DEndCnf (reply_of y)) b))) (go 0) (go 1) x t
    where
      go : (y : ℕ)
          → Meets sd r (DEndCnf (reply_of y)) b (answered r (DEndConfirmation y) Send (cond (not (expects sd r.control (DEndCnf (reply_of y)))) (Some (NoInstruction true)) None))
      go y =
          expected_rel sd r (DEndCnf (reply_of y)) b (DEndConfirmation y) Send None h
          (λ (v : T (expects sd r.control (DEndCnf (reply_of y)))). handed_rel sd r r (DEndCnf (reply_of y))
          (Some (EndConfirmation r.control.dsc y)) b h v refl refl refl refl (λ
          (x : T (is (ended (reply_of y) r.control.dsc).state StartReq)). absurd
          (ended_not K ed p (reply_of y) r.control.dsc x)) refl)

  ended_spared_rel : (sd : Side) (r : Record) (x : ℕ) (b : Body) → Local ed p r → spares r.edition ≡ true
      → T (ltb x results)
      → Out K ed p sd (happens K sd (step sd r (Service (DEndConfirmation x) Absent)) b) (receives sd (low_of r) (ent (DEndCnf (reply_of x)) b))
  unfolding step refusal_of event_fits service_fits user_data_fits permitted message_refusal acts reached first_fault send_fault
      pdu_fault answered instructed
  ended_spared_rel sd r x b h z t = two (λ (y : ℕ). Out K ed p sd
      (happens K sd (step sd r (Service (DEndConfirmation y) Absent)) b)
      (receives sd (low_of r) (ent (DEndCnf (reply_of y)) b))) (rw z (go 0)) (rw z (go 1)) x t
    where
      go : (y : ℕ)
          → Meets sd r (DEndCnf (reply_of y)) b (answered r (DEndConfirmation y) Absent (cond (not (expects sd r.control (DEndCnf (reply_of y)))) (Some (NoInstruction true)) None))
      go y =
          expected_rel sd r (DEndCnf (reply_of y)) b (DEndConfirmation y) Absent None h
          (λ (v : T (expects sd r.control (DEndCnf (reply_of y)))). handed_rel sd r r (DEndCnf (reply_of y))
          (Some (EndConfirmation r.control.dsc y)) b h v refl refl refl refl (λ
          (x : T (is (ended (reply_of y) r.control.dsc).state StartReq)). absurd
          (ended_not K ed p (reply_of y) r.control.dsc x)) refl)

  -- ---- D-START confirmation

  -- equal values differ in no edition
  no_difference : (e : Edition) (s v : ℕ) → s ≡ v → differs (secures e) s v ≡ false
  no_difference e s v q = go (secures e)
    where
      go : (t : Bool) → t && not (eqb s v) ≡ false
      go true = ap not (eq-eqb s v q)
      go false = refl

  -- the tests of the result, of the security value and of the PDU are passed
  confirmed_none : (w e : Bool) (g z : Option Fault) → w ≡ false → e ≡ false → z ≡ None → cond w (Some TurnedAway) (cond e g z) ≡ None
  confirmed_none true e g z q d n = absurd (subst T q tt)
  confirmed_none false true g z q d n = absurd (subst T d tt)
  confirmed_none false false g z q d n = n

  -- the PDU of a confirmation has no fault
  abbrev Fine : Record → ℕ → UserData → Option Fault
  Fine r x a = pdu_fault (spares r.edition) (send_allowed (spares r.edition) (eqb x accepted) a) (eqb x accepted) true a None

  confirmed_acts : (sd : Side) (r : Record) (x s : ℕ) (a : UserData) (b : Body) → Local ed p r → s ≡ p
      → turned_away x ds_user ≡ false → Fine r x a ≡ None
      → instructed r (DStartConfirmation x ds_user s no_version) a ≡ handed (with_timer r false) (DStartCnf (reply_of x)) (Some (StartConfirmation r.control.dsc x))
      → Meets sd r (DStartCnf (reply_of x)) b (reached sd r (DStartConfirmation x ds_user s no_version) a)
  unfolding reached first_fault confirmation_fault answered
  confirmed_acts sd r x s a b h e w pf ins =
      let k = DStartCnf (reply_of x) in
      let f = cond (turned_away x ds_user) (Some TurnedAway)
      (cond (differs (secures r.edition) s r.request) (Some (Security (eqb x accepted))) (Fine r x a)) in
      subst (λ (z : Bool). Meets sd r k b (answered r (DStartConfirmation x ds_user s no_version) a (cond
      (not (expects sd r.control k)) (cond z (response_fault r x ds_user s a) (Some (NoInstruction true))) f)))
      (sym h.dialogue)
      (expected_rel sd r k b (DStartConfirmation x ds_user s no_version) a f h
      (λ (v : T (expects sd r.control k)).
      subst (λ (z : Option Fault). Out K ed p sd (happens K sd (answered r (DStartConfirmation x ds_user s no_version) a z) b)
      (C.acts (held (after r.control k) r.highest) [] nothing))
      (sym (confirmed_none (turned_away x ds_user) (differs (secures r.edition) s r.request)
      (Some (Security (eqb x accepted))) (Fine r x a) w (no_difference r.edition s r.request
      (e ∙ sym (h.request (and_l (is r.control.state StartReq) (may_start sd r.control.dsc) v))))
      pf))
      (subst (λ (z : Outcome). Out K ed p sd (happens K sd z b) (C.acts (held (after r.control k) r.highest) [] nothing)) (sym ins)
      (handed_rel sd r (with_timer r false) k (Some (StartConfirmation r.control.dsc x)) b h v refl refl refl refl (λ
      (y : T (is (started (reply_of x) r.control.dsc).state StartReq)). absurd
      (started_not K ed p (reply_of x) r.control.dsc y)) refl))))

  -- an event with the codes of its types is not refused
  step_fits : (sd : Side) (r : Record) (e : Event) → is_none (refusal_of sd r e) ≡ true → step sd r e ≡ acts sd r e
  unfolding step
  step_fits sd r e t = ap (λ (b : Bool). cond b (acts sd r e) (O.refused (refusal_of sd r e) r)) t

  confirmed_fits : (sd : Side) (r : Record) (x s : ℕ) (a : UserData) → ltb x start_results ≡ true
      → ltb s security_values ≡ true → user_data_fits r.edition a ≡ true
      → is_none (refusal_of sd r (Service (DStartConfirmation x ds_user s no_version) a)) ≡ true
  unfolding refusal_of event_fits service_fits permitted message_refusal
  confirmed_fits sd r x s a t v u = rw (t, v, u)

  confirmed_rel : (sd : Side) (r : Record) (x s : ℕ) (a : UserData) (b : Body) → Local ed p r → T (ltb x results)
      → s ≡ p → ltb p security_values ≡ true → user_data_fits r.edition a ≡ true → Fine r x a ≡ None
      → ((y : ℕ) → instructed r (DStartConfirmation y ds_user s no_version) a ≡ handed (with_timer r false) (DStartCnf (reply_of y)) (Some (StartConfirmation r.control.dsc y)))
      → Out K ed p sd (happens K sd (step sd r (Service (DStartConfirmation x ds_user s no_version) a)) b)
      (receives sd (low_of r) (ent (DStartCnf (reply_of x)) b))
  unfolding acts
  confirmed_rel sd r x s a b h t e v u pf ins =
      two (λ (y : ℕ). Fine r y a ≡ None → Out K ed p sd
      (happens K sd (step sd r (Service (DStartConfirmation y ds_user s no_version) a)) b)
      (receives sd (low_of r) (ent (DStartCnf (reply_of y)) b))) (go 0 refl refl) (go 1 refl refl) x t pf
    where
      go : (y : ℕ) → ltb y start_results ≡ true → turned_away y ds_user ≡ false → Fine r y a ≡ None
          → Out K ed p sd (happens K sd (step sd r (Service (DStartConfirmation y ds_user s no_version) a)) b) (receives sd (low_of r) (ent (DStartCnf (reply_of y)) b))
      go y f w n =
          subst (λ (z : Outcome). Out K ed p sd (happens K sd z b) (receives sd (low_of r) (ent (DStartCnf (reply_of y)) b)))
          (sym (step_fits sd r (Service (DStartConfirmation y ds_user s no_version) a)
          (confirmed_fits sd r y s a f (ap (λ (c : ℕ). ltb c security_values) e ∙ v) u)))
          (confirmed_acts sd r y s a b h e w n (ins y))

  -- with a send, where it is allowed; without user data, where it is spared
  confirmed_send : (sd : Side) (r : Record) (x s : ℕ) (b : Body) → Local ed p r → T (ltb x results) → s ≡ p
      → ltb p security_values ≡ true → not (spares r.edition && eqb x accepted) ≡ true
      → Out K ed p sd (happens K sd (step sd r (Service (DStartConfirmation x ds_user s no_version) Send)) b) (receives sd (low_of r) (ent (DStartCnf (reply_of x)) b))
  unfolding user_data_fits pdu_fault instructed
  confirmed_send sd r x s b h t e v z = confirmed_rel sd r x s Send b h t e v refl (rw z) (λ (y : ℕ). refl)

  confirmed_spared : (sd : Side) (r : Record) (x s : ℕ) (b : Body) → Local ed p r → T (ltb x results) → s ≡ p
      → ltb p security_values ≡ true → spares r.edition ≡ true
      → Out K ed p sd (happens K sd (step sd r (Service (DStartConfirmation x ds_user s no_version) Absent)) b) (receives sd (low_of r) (ent (DStartCnf (reply_of x)) b))
  unfolding user_data_fits pdu_fault instructed
  confirmed_spared sd r x s b h t e v z = confirmed_rel sd r x s Absent b h t e v refl (rw z) (λ (y : ℕ). refl)

  -- ---- the carrier turns a start away

  pub away_rel : (sd : Side) (r : Record) → Local ed p r
      → Out K ed p sd (happens K sd (step sd r (Service rejects Absent)) []) (receives sd (low_of r) (ent DTurnedAway []))
  unfolding step refusal_of event_fits service_fits user_data_fits permitted message_refusal acts reached first_fault
      confirmation_fault answered reply_of
  away_rel sd r h =
      subst (λ (z : Bool). Meets sd r DTurnedAway [] (answered r rejects Absent (cond
      (not (expects sd r.control DTurnedAway))
      (cond z (response_fault r transient ds_provider no_security Absent) (Some (NoInstruction true))) (Some TurnedAway))))
      (sym h.dialogue)
      (expected_rel sd r DTurnedAway [] rejects Absent (Some TurnedAway) h
      (λ (v : T (expects sd r.control DTurnedAway)). closes_rel K ed p sd r
      (tell r (Some (ProviderAbortIndication communication_service_error))) [] h))

  -- ---- D-ABORT, D-P-ABORT: outside IDLE they close; in IDLE there is no output

  abbrev Closes : Side → Record → Body → Outcome → Type 0
  Closes sd r b o = Out K ed p sd (happens K sd o b) (met (low_of r) (cond (not (is_idle r.control)) (quiet closed)
      (cond (is_idle r.control && true) (quiet closed) (N.aborts closed))) [])

  none_closes : (sd : Side) (r : Record) (b : Body) → Local ed p r
      → Out K ed p sd (happens K sd (no_instruction r false) b) (C.acts (held closed r.highest) [] nothing)
  unfolding no_instruction excepts
  none_closes sd r b h = go (is_idle r.control)
    where
      go : (i : Bool)
          → Out K ed p sd (happens K sd (cond i (closes r None) (closes r (tell r (Some (ProviderAbortIndication protocol_error))))) b) (C.acts (held closed r.highest) [] nothing)
      go true = closes_rel K ed p sd r None b h
      go false = closes_rel K ed p sd r (tell r (Some (ProviderAbortIndication protocol_error))) b h

  ends_rel : (sd : Side) (r : Record) (b : Body) (q : ServicePrimitive) (a : UserData) (t : Option Told) → Local ed p r
      → instructed r q a ≡ closes r t
      → Closes sd r b (answered r q a (cond (not (not (is_idle r.control))) (Some (NoInstruction false)) None))
  unfolding answered
  ends_rel sd r b q a t h e = go (is_idle r.control)
    where
      go : (i : Bool)
          → Out K ed p sd (happens K sd (answered r q a (cond (not (not i)) (Some (NoInstruction false)) None)) b) (met (low_of r) (cond (not i) (quiet closed) (cond (i && true) (quiet closed) (N.aborts closed))) [])
      go true = none_closes sd r b h
      go false = subst
          (λ (z : Outcome). Out K ed p sd (happens K sd z b) (C.acts (held closed r.highest) [] nothing)) (sym e)
          (closes_rel K ed p sd r t b h)

  pub p_abort_rel : (sd : Side) (r : Record) → Local ed p r
      → Out K ed p sd (happens K sd (step sd r (Service DPAbortIndication Absent)) []) (receives sd (low_of r) (ent DPAbort []))
  unfolding step refusal_of event_fits service_fits user_data_fits permitted message_refusal acts reached first_fault abort_fault instructed
  p_abort_rel sd r h = ends_rel sd r [] DPAbortIndication Absent (tell r (Some (ProviderAbortIndication communication_service_failure))) h refl

  abort_fits_is : (sd : Side) (r : Record) (o : ℕ) (a : UserData) → ltb o originators && user_data_fits r.edition a ≡ true
      → is_none (refusal_of sd r (Service (DAbortIndication o) a)) ≡ true
  unfolding refusal_of event_fits service_fits permitted message_refusal
  abort_fits_is sd r o a e = ap (λ (z : Bool). is_none (cond (not z) (Some Shape) None)) e

  abort_rel : (sd : Side) (r : Record) (o : ℕ) (a : UserData) (b : Body) → Local ed p r
      → ltb o originators && user_data_fits r.edition a ≡ true → abort_fits o a ≡ true
      → Out K ed p sd (happens K sd (step sd r (Service (DAbortIndication o) a)) b) (receives sd (low_of r) (ent DAbort []))
  unfolding acts reached first_fault abort_fault instructed
  abort_rel sd r o a b h s f =
      subst (λ (z : Outcome). Closes sd r b z) (sym (step_fits sd r (Service (DAbortIndication o) a) (abort_fits_is sd r o a s)))
      (subst (λ (z : Bool). Closes sd r b (answered r (DAbortIndication o) a (cond (not (not (is_idle r.control))) (Some (NoInstruction false)) (cond (not z) (Some (NoInstruction false)) None)))) (sym f)
      (ends_rel sd r b (DAbortIndication o) a (tell r (abort_told a)) h refl))

  -- ---- D-START indication

  abbrev indication : Side → Qos → ℕ → ServicePrimitive
  indication sd q s = DStartIndication (caller_of sd) s q no_version

  -- i: IDLE; y: the other side may start in this mode
  offered_rel : (sd : Side) (r : Record) (q : Qos) (s : ℕ) (m i y : Bool) (b : Body) → Local ed p r
      → is_idle r.control ≡ i → (T (i && y) → T (expects sd r.control (DStart m)))
      → Out K ed p sd (happens K sd (answered r (indication sd q s) (Start m)
      (cond (not i) (Some (NoInstruction true)) (cond (not (i && y)) (Some (NotPermitted true)) None))) b)
      (met (low_of r) (cond (i && y) (quiet (after r.control (DStart m))) (cond (i && false) (quiet closed) (N.aborts closed))) [])
  unfolding answered instructed
  offered_rel sd r q s m true true b h w v = handed_rel sd r (with_user r true) (DStart m)
      (Some (StartIndication m q.routing)) b h (v tt) refl refl refl refl (λ (x : T false). absurd x) refl
  offered_rel sd r q s m true false b h w v = excepts_rel K ed p sd r protocol_error protocol_error b h tt
  offered_rel sd r q s m false y b h w v =
      subst (λ (z : Outcome). Out K ed p sd (happens K sd z b) (met (low_of r) (N.aborts closed) []))
      (sym (no_instruction_outside r true w)) (excepts_rel K ed p sd r protocol_error protocol_error b h tt)

  -- the tests of quality of service and security are passed
  passed : (a c : Bool) (o : Option Fault) (i : Bool) → a ≡ true → c ≡ false
      → cond (not i) (Some (NoInstruction true)) (cond (not a) (Some Quality) (cond c (Some (Security true)) o)) ≡ cond (not i) (Some (NoInstruction true)) o
  passed true false o i e f = refl
  passed true true o i e f = absurd (subst T f tt)
  passed false c o i e f = absurd (subst T (sym e) tt)

  start_acts : (sd : Side) (r : Record) (q : Qos) (s : ℕ) (m : Bool) (b : Body) → Local ed p r → qos_fits q ≡ true
      → s ≡ p
      → Out K ed p sd (happens K sd (reached sd r (indication sd q s) (Start m)) b) (receives sd (low_of r) (ent (DStart m) b))
  unfolding reached first_fault indication_fault start_fits_of pdu_fault
  start_acts Air r q s m b h f e =
      subst (λ (z : Option Fault). Out K ed p Air (happens K Air (answered r (indication Air q s) (Start m) z) b)
      (receives Air (low_of r) (ent (DStart m) b)))
      (sym (passed (qos_fits q) (differs (secures r.edition) s r.policy)
      (cond (not (is_idle r.control && may_start Ground m)) (Some (NotPermitted true)) None)
      (is_idle r.control) f (no_difference r.edition s r.policy (e ∙ sym h.policy))))
      (offered_rel Air r q s m (is_idle r.control) (may_start Ground m) b h refl (λ (v : T (is_idle r.control && may_start Ground m)). v))
  start_acts Ground r q s m b h f e =
      subst (λ (z : Option Fault). Out K ed p Ground (happens K Ground (answered r (indication Ground q s) (Start m) z) b)
      (receives Ground (low_of r) (ent (DStart m) b)))
      (sym (passed (qos_fits q) (differs (secures r.edition) s r.policy)
      (cond (not (is_idle r.control && may_start Air m)) (Some (NotPermitted true)) None) (is_idle r.control)
      f (no_difference r.edition s r.policy (e ∙ sym h.policy))))
      (offered_rel Ground r q s m (is_idle r.control) (may_start Air m) b h refl (λ (v : T (is_idle r.control && may_start Air m)). v))

  start_fits : (sd : Side) (r : Record) (q : Qos) (s : ℕ) (m : Bool) → ltb s security_values ≡ true
      → is_none (refusal_of sd r (Service (indication sd q s) (Start m))) ≡ true
  unfolding refusal_of event_fits service_fits user_data_fits permitted message_refusal
  start_fits Air r q s m v = ap (λ (b : Bool). is_none (cond (not ((b && true) && true)) (Some Shape) None)) v
  start_fits Ground r q s m v = ap (λ (b : Bool). is_none (cond (not ((b && true) && true)) (Some Shape) None)) v

  start_rel : (sd : Side) (r : Record) (q : Qos) (s : ℕ) (m : Bool) (b : Body) → Local ed p r → qos_fits q ≡ true → s ≡ p
      → ltb p security_values ≡ true
      → Out K ed p sd (happens K sd (step sd r (Service (indication sd q s) (Start m))) b) (receives sd (low_of r) (ent (DStart m) b))
  unfolding acts
  start_rel sd r q s m b h f e v =
      subst (λ (z : Outcome). Out K ed p sd (happens K sd z b) (receives sd (low_of r) (ent (DStart m) b)))
      (sym (step_fits sd r (Service (indication sd q s) (Start m)) (start_fits sd r q s m (ap (λ (a : ℕ). ltb a security_values) e ∙ v))))
      (start_acts sd r q s m b h f e)

  -- ---- every entry that means something

  abbrev Received : Side → Record → Option Invoked → UserData → Body → Ent → Type 0
  Received sd r i a b f = Out K ed p sd (happens K sd (step sd r (Service (arrives sd i) a)) b) (receives sd (low_of r) f)

  -- what is known of the entry is what it means
  at_known : (sd : Side) (r : Record) (i : Option Invoked) (a : UserData) (b : Body) (g f : Ent) → known g ≡ known f
      → Received sd r i a b g → Received sd r i a b f
  at_known sd r i a b g f e x = subst (λ (z : Ent). Received sd r i a b z) (ap ent_of e) x

  send_core : (sd : Side) (r : Record) (i : Option Invoked) (t u : Bool) (k : Primitive) (a : UserData) (b : Body) (f : Ent)
      → (T t → Received sd r i Absent b (ent k b)) → (T u → Received sd r i Send b (ent k b))
      → send_of t u k a b ≡ known f → Received sd r i a b f
  send_core sd r i t u k Absent b f x y e = let v = known_if t (known (ent k b)) f e in at_known sd r i Absent b
      (ent k b) f v.1 (x v.0)
  send_core sd r i t u k NotValid b f x y e = never f e
  send_core sd r i t u k (Start m) b f x y e = never f e
  send_core sd r i t u k Send b f x y e = let v = known_if u (known (ent k b)) f e in at_known sd r i Send b (ent k b) f v.1 (y v.0)
  send_core sd r i t u k (AbortUser z) b f x y e = never f e
  send_core sd r i t u k (AbortProvider z) b f x y e = never f e
  send_core sd r i t u k Forward b f x y e = never f e
  send_core sd r i t u k (ForwardResponse z) b f x y e = never f e

  start_core : (sd : Side) (r : Record) (q : Qos) (s : ℕ) (a : UserData) (b : Body) (f : Ent) → Local ed p r
      → qos_fits q ≡ true → s ≡ p → ltb p security_values ≡ true → start_of a b ≡ known f
      → Received sd r (Some (DStartRequest q s)) a b f
  start_core sd r q s Absent b f h t e v k = never f k
  start_core sd r q s NotValid b f h t e v k = never f k
  start_core sd r q s (Start m) b f h t e v k = at_known sd r (Some (DStartRequest q s)) (Start m) b (ent (DStart m) b) f k
      (start_rel sd r q s m b h t e v)
  start_core sd r q s Send b f h t e v k = never f k
  start_core sd r q s (AbortUser y) b f h t e v k = never f k
  start_core sd r q s (AbortProvider y) b f h t e v k = never f k
  start_core sd r q s Forward b f h t e v k = never f k
  start_core sd r q s (ForwardResponse y) b f h t e v k = never f k

  abort_core : (sd : Side) (r : Record) (o : ℕ) (a : UserData) (b : Body) (f : Ent) → Local ed p r
      → abort_of ed o a ≡ known f → Received sd r (Some (DAbortRequest o)) a b f
  unfolding user_data_fits
  abort_core sd r o Absent b f h k = never f k
  abort_core sd r o NotValid b f h k = never f k
  abort_core sd r o (Start m) b f h k = never f k
  abort_core sd r o Send b f h k = never f k
  abort_core sd r o (AbortUser x) b f h k =
      let v = known_if (eqb o user && ltb x (user_reasons ed)) (known (ent DAbort [])) f k in
      let e = is_t (eqb o user) (and_l (eqb o user) (ltb x (user_reasons ed)) v.0) in
      let w : ltb x (user_reasons r.edition) ≡ true = ap (λ (c : Edition). ltb x (user_reasons c)) h.edition ∙ is_t
      (ltb x (user_reasons ed)) (and_r (eqb o user) (ltb x (user_reasons ed)) v.0) in
      at_known sd r (Some (DAbortRequest o)) (AbortUser x) b (ent DAbort []) f v.1
      (abort_rel sd r o (AbortUser x) b h
      (ap (λ (z : ℕ). ltb z originators && ltb x (user_reasons r.edition)) (eqb→eq o user (T_is _ e)) ∙ w)
      (ap (λ (z : ℕ). abort_fits z (AbortUser x)) (eqb→eq o user (T_is _ e))))
  abort_core sd r o (AbortProvider x) b f h k =
      let v = known_if (eqb o provider && ltb x provider_reasons) (known (ent DAbort [])) f k in
      let e = is_t (eqb o provider) (and_l (eqb o provider) (ltb x provider_reasons) v.0) in
      at_known sd r (Some (DAbortRequest o)) (AbortProvider x) b (ent DAbort []) f v.1
      (abort_rel sd r o (AbortProvider x) b h (ap (λ (z : ℕ). ltb z originators && ltb x provider_reasons)
      (eqb→eq o provider (T_is _ e)) ∙ is_t (ltb x provider_reasons)
      (and_r (eqb o provider) (ltb x provider_reasons) v.0))
      (ap (λ (z : ℕ). abort_fits z (AbortProvider x)) (eqb→eq o provider (T_is _ e))))
  abort_core sd r o Forward b f h k = never f k
  abort_core sd r o (ForwardResponse x) b f h k = never f k

  spared_here : (r : Record) → Local ed p r → T (spares ed) → spares r.edition ≡ true
  spared_here r h z = ap (λ (c : Edition). spares c) h.edition ∙ is_t (spares ed) z

  core : (sd : Side) (r : Record) (i : Option Invoked) (a : UserData) (b : Body) (f : Ent) → Local ed p r
      → ltb p security_values ≡ true → meant ed p i a b ≡ known f → Received sd r i a b f
  core sd r None a b f h v k = never f k
  core sd r (Some (DStartRequest q s)) a b f h v k =
      let w = known_if (qos_fits q && eqb s p) (start_of a b) f k in
      start_core sd r q s a b f h (is_t (qos_fits q) (and_l (qos_fits q) (eqb s p) w.0))
      (eqb→eq s p (and_r (qos_fits q) (eqb s p) w.0)) v w.1
  core sd r (Some (DStartResponse x s)) a b f h v k =
      let w = known_if (ltb x results && eqb s p) (answer_of ed x a b) f k in
      let t = and_l (ltb x results) (eqb s p) w.0 in
      let e = eqb→eq s p (and_r (ltb x results) (eqb s p) w.0) in
      send_core sd r (Some (DStartResponse x s)) (spares ed) (not (spares ed && eqb x accepted)) (DStartCnf (reply_of x)) a b f
      (λ (z : T (spares ed)). confirmed_spared sd r x s b h t e v (spared_here r h z))
      (λ (z : T (not (spares ed && eqb x accepted))). confirmed_send sd r x s b h t e v (ap
      (λ (c : Edition). not (spares c && eqb x accepted)) h.edition ∙ is_t
      (not (spares ed && eqb x accepted)) z))
      w.1
  core sd r (Some DDataRequest) a b f h v k = send_core sd r (Some DDataRequest) false true DData a b f (λ (z : T false). absurd z)
      (λ (z : T true). data_rel sd r b h) k
  core sd r (Some DEndRequest) a b f h v k = send_core sd r (Some DEndRequest) (spares ed) true DEnd a b f
      (λ (z : T (spares ed)). end_spared_rel sd r b h (spared_here r h z)) (λ (z : T true). end_rel sd r b h) k
  core sd r (Some (DEndResponse x)) a b f h v k =
      let w = known_if (ltb x results) (send_of (spares ed) true (DEndCnf (reply_of x)) a b) f k in
      send_core sd r (Some (DEndResponse x)) (spares ed) true (DEndCnf (reply_of x)) a b f
      (λ (z : T (spares ed)). ended_spared_rel sd r x b h (spared_here r h z) w.0)
      (λ (z : T true). ended_rel sd r x b h w.0) w.1
  core sd r (Some (DAbortRequest o)) a b f h v k = abort_core sd r o a b f h k
  core sd r (Some (DStartForwardRequest q s w)) a b f h v k = never f k
  core sd r (Some (DStartForwardResponse s w)) a b f h v k = never f k

  pub receive_rel : (sd : Side) (r : Record) (i : Option Invoked) (x : Read) (f : Ent) → Local ed p r
      → ltb p security_values ≡ true → meaning ed p i x ≡ known f
      → Out K ed p sd (happens K sd (step sd r (Service (arrives sd i) (apdu_of x))) (body_of x)) (receives sd (low_of r) f)
  receive_rel sd r i (got a b) f h v k = core sd r i a b f h v k
  receive_rel sd r i fault f h v k = never f k
