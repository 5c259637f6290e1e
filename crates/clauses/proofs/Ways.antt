-- Every step is one of twelve ways; each law is shown of the ways.
-- Assumes nothing.
use mathlib.Core.Path.{◌≡◌, refl, ap, sym, subst, ◌∙◌}
use mathlib.Core.Bool.{Bool, true, false, not, cond, ◌&&◌, ◌||◌}
use Prim.Native.Nat.{ℕ, ◌<◌}
use lib.Dec.{T, ltb, leb, eqb}
use borrow.Author.Tests.{leb-false, eqb-true, not-false}
use Rattle.editions.specs.Editions.{secures, spares}
use Rattle.words.proofs.Laws.{both_left, both_right}
use Rattle.control.specs.Control.{is_idle, takes, takes_forward, awaits_response, expects}
use Rattle.machine.specs.Record.{with_timer, with_user}
use Rattle.machine.specs.Event.{is_dsc, qos_fits, event_fits}
use Rattle.machine.specs.Outcome.{is_none, refused}
use Rattle.machine.specs.Exceptions.{tell, closes, aborts, excepts, timer_expires, system_error, no_instruction}
use Rattle.machine.specs.Calls.{reply_of, sent, start_request, start_response, message_request, end_request, end_response, user_abort, call_of, unsent, called}
use Rattle.machine.specs.UserData.{kind_of, mode_of, reason_of, is_missing, is_invalid, is_start_pdu, is_send, is_forward, is_response}
use Rattle.machine.specs.Faults.{differs, send_allowed, turned_away, pdu_fault, send_fault, peer_fits, from_centre, start_fits_of, indication_fault, response_fault, confirmation_fault, first_fault}
use Rattle.machine.specs.Codes.{accepted, success, service_not_supported, version_not_equal, no_version}
use Rattle.machine.specs.Forwards.{forward_request, responds, forward_arrives, forward_confirmed}
use Rattle.machine.specs.Primitives.{handed, abort_told, instructed, answered, reached}
use Rattle.control.proofs.Moves.{busy}
use Rattle.machine.specs.Step.{permitted, message_refusal, refusal_of, acts, step}
use Rattle.control.specs.declared.Side.{Side}
use Rattle.control.specs.declared.Reply.{Reply}
use Rattle.control.specs.declared.Call.{Call}
use Rattle.control.specs.declared.Call.TheVariants.{StartRequest, StartResponse, MessageRequest, EndRequest, EndResponse, UserAbort}
use Rattle.control.specs.declared.Primitive.{Primitive}
use Rattle.control.specs.declared.Primitive.TheVariants.{DStart, DStartCnf, DTurnedAway, DData, DEnd, DEndCnf, DAbort, DPAbort}
use Rattle.machine.specs.declared.record.Record.{Record}
use Rattle.machine.specs.declared.event.UserData.{UserData}
use Rattle.machine.specs.declared.event.Qos.{Qos}
use Rattle.machine.specs.declared.event.UserPrimitive.{UserPrimitive}
use Rattle.machine.specs.declared.event.UserPrimitive.TheVariants.{StartServiceRequest, StartServiceResponse, MessageServiceRequest, EndServiceRequest, EndServiceResponse, UserAbortServiceRequest}
use Rattle.machine.specs.declared.event.ServicePrimitive.{ServicePrimitive}
use Rattle.machine.specs.declared.event.ServicePrimitive.TheVariants.{DStartIndication, DStartConfirmation, DDataIndication, DEndIndication, DEndConfirmation, DAbortIndication, DPAbortIndication}
use Rattle.machine.specs.declared.event.Event.{Event}
use Rattle.machine.specs.declared.event.Event.TheVariants.{User, Forward, Service, TimerExpires, UnrecoverableSystemError}
use Rattle.machine.specs.declared.faults.Fault.{Fault}
use Rattle.machine.specs.declared.faults.Fault.TheVariants.{NoInstruction, Quality, TurnedAway, Security, Missing, Invalid, NotPermitted}
use Rattle.machine.specs.declared.outcome.StepRefusal.{StepRefusal}
use Rattle.machine.specs.declared.outcome.StepRefusal.TheVariants.{Shape, Prohibited, NoMessage, Repeat}
use Rattle.machine.specs.declared.outcome.Invoked.{Invoked}
use Rattle.machine.specs.declared.outcome.Told.{Told}
use Rattle.machine.specs.declared.outcome.Told.TheVariants.{StartIndication, StartConfirmation, MessageIndication, EndIndication, EndConfirmation, UserAbortIndication, ProviderAbortIndication, ForwardIndication, ForwardConfirmation}
use Rattle.machine.specs.declared.outcome.Outcome.{Outcome}
use Rattle.std.specs.Prelude.{None, Option, Some}

-- a primitive inside a dialogue: data, an end or its confirmation
abbrev pub within : Primitive → Bool
within (DStart m) = false
within (DStartCnf a) = false
within DTurnedAway = false
within DData = true
within DEnd = true
within (DEndCnf a) = true
within DAbort = false
within DPAbort = false

abbrev pub is_abort : Option Told → Bool
is_abort None = false
is_abort (Some (StartIndication m x)) = false
is_abort (Some (StartConfirmation m x)) = false
is_abort (Some MessageIndication) = false
is_abort (Some (EndIndication m)) = false
is_abort (Some (EndConfirmation m x)) = false
is_abort (Some (UserAbortIndication x)) = true
is_abort (Some (ProviderAbortIndication x)) = true
is_abort (Some ForwardIndication) = false
is_abort (Some (ForwardConfirmation x v)) = false

-- who is not active is not told
abbrev pub ToActive : Record → Option Told → Type 0
ToActive r t = r.active ≡ false → t ≡ None

pub data Way (sd : Side) (r : Record) : Outcome → Type 0 where
  is_refused : (w : Option StepRefusal) → is_none w ≡ false → Way sd r (refused w r)
  is_closed : (t : Option Told) → ToActive r t → Way sd r (closes r t)
  is_aborted : (p : ℕ) (t : Option Told) → ToActive r t → Way sd r (aborts r p t)
  is_started : (m : Bool) (k s : ℕ) → takes sd r.control (StartRequest m) ≡ true → Way sd r (start_request r m k s)
  is_message : (j : ℕ) → takes sd r.control MessageRequest ≡ true → r.highest < j → Way sd r (message_request r j)
  is_called : (k : Call) (i : Option Invoked) (a : UserData) → takes sd r.control k ≡ true → busy k ≡ true → Way sd r (sent r k i a)
  is_invited : (m : Bool) (x : ℕ) → expects sd r.control (DStart m) ≡ true
      → Way sd r (handed (with_user r true) (DStart m) (Some (StartIndication m x)))
  is_confirmed : (a : Reply) (m : Bool) (x : ℕ) → expects sd r.control (DStartCnf a) ≡ true
      → Way sd r (handed (with_timer r false) (DStartCnf a) (Some (StartConfirmation m x)))
  is_forwarding : (k s : ℕ) → takes_forward sd r.control ≡ true → Way sd r (forward_request r k s)
  is_responding : (x s v : ℕ) (t : Option Told) → is_idle r.control ≡ true → is_abort t ≡ false → Way sd r (responds r x s v t)
  is_forwarded : (x v : ℕ) → awaits_response r.control ≡ true → Way sd r (forward_confirmed r x v)
  is_read : (p : Primitive) (t : Option Told) → expects sd r.control p ≡ true → within p ≡ true → is_abort t ≡ false → Way sd r (handed r p t)

-- ---- a choice, by its test

pub by_test : {A : Type 0} (P : A → Type 0) (b : Bool) (x y : A) → (b ≡ true → P x) → (b ≡ false → P y) → P (cond b x y)
by_test P true x y f g = f refl
by_test P false x y f g = g refl

-- ---- a fault that did not come first

abbrev is_fault : Option Fault → Bool
is_fault None = false
is_fault (Some (NoInstruction live)) = true
is_fault (Some Quality) = true
is_fault (Some TurnedAway) = true
is_fault (Some (Security live)) = true
is_fault (Some Missing) = true
is_fault (Some (Invalid live)) = true
is_fault (Some (NotPermitted live)) = true

-- without a fault each test is passed
pub passed : (b : Bool) (f g : Option Fault) → is_fault f ≡ true → cond b f g ≡ None → (b ≡ false) × (g ≡ None)
passed true f g n e = absurd (subst T (sym n ∙ ap is_fault e) tt)
passed false f g n e = (refl, e)

pub pdu_fits : (fits i u : Bool) (a : UserData) (g : Option Fault) → pdu_fault false fits i u a g ≡ None → fits ≡ true
unfolding pdu_fault
pdu_fits fits i u a g e =
    let there = passed (is_missing a) (Some Missing) _ refl e in
    let valid = passed (is_invalid a) (Some (Invalid i)) _ refl there.1 in
    not-false fits (passed (not fits) (Some (NotPermitted u)) g refl valid.1).0

-- ---- the parts

pub record StartIs (sd : Side) (r : Record) (x s : ℕ) (a : UserData) : Type 0 where
  pub idle : is_idle r.control ≡ true
  pub secure : differs (secures r.edition) s r.policy ≡ false
  pub fits : start_fits_of sd r x a ≡ true

-- a start that fits and is a forward is one of a centre, at the ground
pub forward_ground : (sd : Side) (r : Record) (x : ℕ) (a : UserData) → start_fits_of sd r x a ≡ true → is_forward a ≡ true
    → from_centre sd x ≡ true
unfolding start_fits_of
forward_ground sd r x a e y = go (from_centre sd x) e
  where
    other : is_start_pdu a ≡ false
    other = rw (eqb-true (kind_of a) 6 y)

    go : (b : Bool) → cond b (is_forward a) (is_start_pdu a && expects sd r.control (DStart (mode_of a))) ≡ true → b ≡ true
    go true k = refl
    go false k = absurd (subst T (sym (both_left (is_start_pdu a) _ k) ∙ other) tt)

module _ (sd : Side) (r : Record) where
  tell_active : (t : Option Told) → ToActive r (tell r t)
  unfolding tell
  tell_active t e = rw e

  except_way : (o : Bool) (p s : ℕ) → Way sd r (excepts r o p s)
  unfolding excepts
  except_way true p s = is_aborted p _ (tell_active (Some (ProviderAbortIndication s)))
  except_way false p s = is_closed _ (tell_active (Some (ProviderAbortIndication s)))

  none_way : (x : Bool) → Way sd r (no_instruction r x)
  unfolding no_instruction
  none_way x =
      by_test (Way sd r) (is_idle r.control) _ _ (λ e. is_closed None (λ f. refl)) (λ e. except_way x _ _)

  -- what is done about a fault; without one, the instruction
  answered_way : (p : ServicePrimitive) (a : UserData) (f : Option Fault) → (f ≡ None → Way sd r (instructed r p a))
      → Way sd r (answered r p a f)
  unfolding answered
  answered_way p a None k = k refl
  answered_way p a (Some (NoInstruction live)) k = none_way live
  answered_way p a (Some Quality) k = is_aborted _ None (λ g. refl)
  answered_way p a (Some TurnedAway) k = is_closed _ (tell_active _)
  answered_way p a (Some (Security live)) k = except_way live _ _
  answered_way p a (Some Missing) k = except_way true _ _
  answered_way p a (Some (Invalid live)) k = except_way live _ _
  answered_way p a (Some (NotPermitted live)) k = except_way live _ _

  pub send_expected : (p : Primitive) (may live : Bool) (a : UserData) → send_fault sd r p may live a ≡ None
      → expects sd r.control p ≡ true
  unfolding send_fault
  send_expected p may live a e = not-false _ (passed (not (expects sd r.control p)) (Some (NoInstruction true)) _ refl e).0

  pub send_there : (p : Primitive) (live : Bool) (a : UserData) → send_fault sd r p false live a ≡ None → is_send a ≡ true
  unfolding send_fault
  send_there p live a e =
      pdu_fits (is_send a) live live a None (passed (not (expects sd r.control p)) (Some (NoInstruction true)) _ refl e).1

  -- a start that fits and is no forward is one that the control expects
  pub fits_expected : (x : ℕ) (a : UserData) → start_fits_of sd r x a ≡ true → is_forward a ≡ false
      → expects sd r.control (DStart (mode_of a)) ≡ true
  unfolding start_fits_of
  fits_expected x a e n = go (from_centre sd x) e
    where
      go : (b : Bool) → cond b (is_forward a) (is_start_pdu a && expects sd r.control (DStart (mode_of a))) ≡ true
          → expects sd r.control (DStart (mode_of a)) ≡ true
      go true y = absurd (subst T (sym y ∙ n) tt)
      go false y = both_right (is_start_pdu a) _ y

  arrives_way : (s v : ℕ) → is_idle r.control ≡ true → Way sd r (forward_arrives r s v)
  unfolding forward_arrives
  arrives_way s v i =
      by_test (Way sd r) (not r.forwards) _ _ (λ e. is_responding service_not_supported s no_version None i refl)
      (λ e. by_test (Way sd r) (eqb v r.version) _ _
      (λ y. is_responding success s no_version (Some ForwardIndication) i refl)
      (λ y. is_responding version_not_equal s r.version None i refl))

  -- in FORWARD only a response has no fault
  pub response_there : (x o s : ℕ) (a : UserData) → response_fault r x o s a ≡ None → is_response a ≡ true
  unfolding response_fault
  response_there x o s a e =
      let away = passed (turned_away x o) (Some TurnedAway) _ refl e in
      let secure = passed (differs (secures r.edition) s r.request) (Some (Security (eqb x accepted))) _ refl away.1 in
      rejected (eqb x accepted) secure.1
    where
      rejected : (b : Bool)
          → cond b (pdu_fault false false true true a None) (pdu_fault false (is_response a) false true a None) ≡ None
          → is_response a ≡ true
      rejected true k = absurd (subst T (sym (pdu_fits false true true a None k)) tt)
      rejected false k = pdu_fits (is_response a) false true a None k

  -- a send is no response
  pub send_other : (a : UserData) → is_send a ≡ true → is_response a ≡ false
  send_other a e = rw (eqb-true (kind_of a) 3 e)

  -- nor is a PDU that may be absent
  pub not_response : (may live i u : Bool) (a : UserData)
      → pdu_fault may (send_allowed may live a) i u a None ≡ None → is_response a ≡ false
  unfolding pdu_fault
  not_response may live i u a e = go (is_missing a) refl e
    where
      go : (b : Bool) → is_missing a ≡ b
          → cond b (cond may None (Some Missing)) (cond (is_invalid a) (Some (Invalid i)) (cond (not (send_allowed may live a)) (Some (NotPermitted u)) None)) ≡ None
          → is_response a ≡ false
      go true m k = rw (eqb-true (kind_of a) 0 m)
      go false m k =
          let valid = passed (is_invalid a) (Some (Invalid i)) _ refl k in
          let f = not-false (send_allowed may live a) (passed (not (send_allowed may live a)) (Some (NotPermitted u)) None refl valid.1).0 in
          send_other a (both_right (not (may && live)) _ f)

  -- a confirmation without a fault: of a start that the control expects, or of a forward
  confirmed_way : (x o s v : ℕ) (a : UserData) (t : Bool) → expects sd r.control (DStartCnf (reply_of x)) ≡ t
      → cond (not t) (cond (awaits_response r.control) (response_fault r x o s a) (Some (NoInstruction true))) (cond
      (turned_away x o) (Some TurnedAway) (cond (differs (secures r.edition) s r.request)
      (Some (Security (eqb x accepted))) (pdu_fault (spares r.edition)
      (send_allowed (spares r.edition) (eqb x accepted) a) (eqb x accepted) true a None))) ≡
      None
      → Way sd r (cond (is_response a) (forward_confirmed r (reason_of a) v)
      (handed (with_timer r false) (DStartCnf (reply_of x)) (Some (StartConfirmation r.control.dsc x))))
  confirmed_way x o s v a true p e =
      let away = passed (turned_away x o) (Some TurnedAway) _ refl e in
      let secure = passed (differs (secures r.edition) s r.request) (Some (Security (eqb x accepted))) _ refl away.1 in
      let n = not_response (spares r.edition) (eqb x accepted) (eqb x accepted) true a secure.1 in
      rw n (is_confirmed (reply_of x) r.control.dsc x p)
  confirmed_way x o s v a false p e = awaited (awaits_response r.control) refl e
    where
      awaited : (b : Bool) → awaits_response r.control ≡ b → cond b (response_fault r x o s a) (Some (NoInstruction true)) ≡ None
          → Way sd r (cond (is_response a) (forward_confirmed r (reason_of a) v)
          (handed (with_timer r false) (DStartCnf (reply_of x)) (Some (StartConfirmation r.control.dsc x))))
      awaited true q k = rw (response_there x o s a k) (is_forwarded (reason_of a) v q)
      awaited false q k = absurd (subst T (ap is_fault k) tt)

  -- a D-START indication without a fault
  pub start_there : (x s : ℕ) (q : Qos) (a : UserData) → indication_fault sd r x s q a ≡ None → StartIs sd r x s a
  unfolding indication_fault
  start_there x s q a e =
      let idle = passed (not (is_idle r.control)) (Some (NoInstruction true)) _ refl e in
      let quality = passed (not (qos_fits q)) (Some Quality) _ refl idle.1 in
      let secure = passed (differs (secures r.edition) s r.policy) (Some (Security true)) _ refl quality.1 in
      record {
        idle = not-false (is_idle r.control) idle.0;
        secure = secure.0;
        fits = pdu_fits (start_fits_of sd r x a) true true a (cond (peer_fits sd x) None (Some (NoInstruction true))) secure.1;
      }

  -- a primitive without a fault is one that the control expects
  instructed_way : (p : ServicePrimitive) (a : UserData) → first_fault sd r p a ≡ None → Way sd r (instructed r p a)
  unfolding instructed first_fault confirmation_fault
  instructed_way (DStartIndication x s q v) a e =
      let i = start_there x s q a e in
      by_test (Way sd r) (is_forward a) _ _ (λ y. arrives_way s v i.idle)
      (λ n. is_invited (mode_of a) q.routing (fits_expected x a i.fits n))
  instructed_way (DStartConfirmation x o s v) a e = confirmed_way x o s v a (expects sd r.control (DStartCnf (reply_of x))) refl e
  instructed_way DDataIndication a e = is_read DData (Some MessageIndication) (send_expected DData _ true a e) refl refl
  instructed_way DEndIndication a e = is_read DEnd _ (send_expected DEnd _ true a e) refl refl
  instructed_way (DEndConfirmation x) a e = is_read (DEndCnf (reply_of x)) _ (send_expected (DEndCnf (reply_of x)) _ _ a e) refl refl
  instructed_way (DAbortIndication o) a e = is_closed _ (tell_active (abort_told a))
  instructed_way DPAbortIndication a e = is_closed _ (tell_active _)

  reached_way : (p : ServicePrimitive) (a : UserData) → Way sd r (reached sd r p a)
  unfolding reached
  reached_way p a = answered_way p a (first_fault sd r p a) (instructed_way p a)

  -- ---- a user primitive

  above : (h : Bool) (j : ℕ) → is_none (unsent r.highest (MessageServiceRequest h j)) ≡ true → r.highest < j
  unfolding unsent
  above true j e = leb-false j r.highest (fresh (leb j r.highest) e)
    where
      fresh : (b : Bool) → is_none (cond b (Some Repeat) None) ≡ true → b ≡ false
      fresh true e = absurd (subst T (sym e) tt)
      fresh false e = refl
  above false j e = absurd (subst T (sym e) tt)

  called_way : (u : UserPrimitive) → takes sd r.control (call_of u) ≡ true → is_none (unsent r.highest u) ≡ true → Way sd r (called r u)
  unfolding called call_of start_response end_request end_response user_abort
  called_way (StartServiceRequest m k s) e n = is_started (is_dsc m) k s e
  called_way (StartServiceResponse m x h) e n = is_called (StartResponse m (reply_of x)) _ _ e refl
  called_way (MessageServiceRequest h j) e n = is_message j e (above h j n)
  called_way (EndServiceRequest m h) e n = is_called (EndRequest m) _ _ e refl
  called_way (EndServiceResponse m x h) e n = is_called (EndResponse m (reply_of x)) _ _ e refl
  called_way (UserAbortServiceRequest g x) e n = is_called UserAbort _ _ e refl

  acts_way : (e : Event) → permitted sd r e ≡ true → is_none (message_refusal r e) ≡ true → Way sd r (acts sd r e)
  unfolding acts permitted message_refusal timer_expires system_error
  acts_way (User u) p n = called_way u p n
  acts_way (Forward k s) p n = is_forwarding k s p
  acts_way (Service s a) p n = reached_way s a
  acts_way TimerExpires p n = except_way true _ _
  acts_way UnrecoverableSystemError p n =
      by_test (Way sd r) (is_idle r.control) _ _ (λ e. is_closed None (λ f. refl)) (λ e. except_way true _ _)

-- what is not refused is permitted, and no message request that is refused
pub not_refused : (s p : Bool) (w : Option StepRefusal) → is_none (cond (not s) (Some Shape) (cond (not p) (Some Prohibited) w)) ≡ true
    → (s ≡ true) × ((p ≡ true) × (is_none w ≡ true))
not_refused true true w e = (refl, (refl, e))
not_refused true false w e = absurd (subst T (sym e) tt)
not_refused false p w e = absurd (subst T (sym e) tt)

taken_way : (sd : Side) (r : Record) (e : Event) → is_none (refusal_of sd r e) ≡ true → Way sd r (acts sd r e)
unfolding refusal_of
taken_way sd r e n =
    let k = not_refused (event_fits sd r.edition e) (permitted sd r e) (message_refusal r e) n in acts_way sd r e k.1.0 k.1.1

-- every step is one of the twelve ways
pub ways : (sd : Side) (r : Record) (e : Event) → Way sd r (step sd r e)
unfolding step
ways sd r e =
    by_test (Way sd r) (is_none (refusal_of sd r e)) _ _ (taken_way sd r e) (λ n. is_refused (refusal_of sd r e) n)
