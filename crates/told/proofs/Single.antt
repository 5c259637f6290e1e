-- What one event does: it is an activation of a user who was not active, a closing of one who was, or neither. What is finite in that is
-- computed over all states, calls and primitives.
-- Assumes nothing.
use mathlib.Core.Path.{◌≡◌, refl, ap, sym, subst, ◌∙◌}
use mathlib.Core.Bool.{Bool, true, false, not, cond, ◌&&◌, ◌||◌}
use Prim.Native.Nat.{ℕ, ◌+◌}
use lib.Dec.{T, eqb}
use borrow.Author.Tests.{eqb-true}
use Rattle.words.proofs.Laws.{both_left, both_right}
use Rattle.control.specs.Control.{is_idle, takes, goes, takes_forward, awaits_response, expects, after}
use Rattle.control.proofs.Finite.{imp, imp_e, all_bool, all_side, at_side, all_state, all_answer, all_control, at_control, all_response, all_call, at_call, all_primitive, at_primitive}
use Rattle.control.specs.Control.{is_start}
use Rattle.control.proofs.Moves.{not_t, busy, call_held_is, primitive_held_is, goes_awaits, after_awaits}
use Rattle.control.specs.declared.Side.{Side}
use Rattle.control.specs.declared.Side.TheVariants.{Air, Ground}
use Rattle.control.specs.declared.Control.{Control}
use Rattle.control.specs.declared.Call.{Call}
use Rattle.control.specs.declared.Call.TheVariants.{StartRequest, StartResponse, MessageRequest, EndRequest, EndResponse, UserAbort, TimerExpiry, SystemError}
use Rattle.control.specs.declared.Primitive.{Primitive}
use Rattle.control.specs.declared.Primitive.TheVariants.{DStart, DStartCnf, DTurnedAway, DData, DEnd, DEndCnf, DAbort, DPAbort}
use Rattle.machine.specs.Record.{with_timer, with_user, enter}
use Rattle.machine.specs.Run.{Formed}
use Rattle.machine.specs.Event.{qos_fits, event_fits}
use Rattle.machine.specs.Codes.{accepted}
use Rattle.machine.specs.UserData.{abort_fits, mode_of, reason_of, is_missing, is_invalid, is_user_abort, is_send, is_forward, is_response}
use Rattle.machine.specs.Outcome.{is_none, refused}
use Rattle.machine.specs.Exceptions.{tell, closes, aborts, excepts, timer_expires, system_error, no_instruction}
use Rattle.machine.specs.Calls.{reply_of, sent, start_request as requested, start_response as responded, message_request, end_request, end_response as endResponded, user_abort, call_of, called}
use Rattle.machine.specs.Forwards.{forward_request as forwarded, responds, forward_arrives, forward_confirmed}
use Rattle.editions.specs.Editions.{secures, spares}
use Rattle.machine.specs.Faults.{differs, send_allowed, turned_away, pdu_fault, peer_fits, start_fits_of, indication_fault, response_fault, confirmation_fault, send_fault, abort_fault, first_fault}
use Rattle.machine.specs.Primitives.{handed, instructed, answered, reached}
use Rattle.machine.specs.Step.{permitted, message_refusal, refusal_of, acts, step}
use Rattle.machine.specs.declared.record.Record.{Record}
use Rattle.machine.specs.declared.event.UserData.{UserData}
use Rattle.machine.specs.declared.event.Qos.{Qos}
use Rattle.machine.specs.declared.event.UserPrimitive.{UserPrimitive}
use Rattle.machine.specs.declared.event.UserPrimitive.TheVariants.{StartServiceRequest, StartServiceResponse, MessageServiceRequest, EndServiceRequest, EndServiceResponse, UserAbortServiceRequest}
use Rattle.machine.specs.declared.event.ServicePrimitive.{ServicePrimitive}
use Rattle.machine.specs.declared.event.ServicePrimitive.TheVariants.{DStartIndication, DStartConfirmation, DDataIndication, DEndIndication, DEndConfirmation, DAbortIndication, DPAbortIndication}
use Rattle.machine.specs.declared.event.Event.{Event}
use Rattle.machine.specs.declared.event.Event.TheVariants.{User, Forward, Service, TimerExpires, UnrecoverableSystemError}
use Rattle.machine.specs.declared.faults.Fault.{Fault}
use Rattle.machine.specs.declared.faults.Fault.TheVariants.{NoInstruction, Quality, TurnedAway, Security, Missing, Invalid, NotPermitted}
use Rattle.machine.specs.declared.outcome.StepRefusal.TheVariants.{Stale}
use Rattle.machine.specs.declared.outcome.Told.{Told}
use Rattle.machine.specs.declared.outcome.Told.TheVariants.{StartIndication, StartConfirmation, MessageIndication, EndIndication, EndConfirmation, ProviderAbortIndication, UserAbortIndication, ForwardIndication, ForwardConfirmation}
use Rattle.machine.specs.declared.outcome.Outcome.{Outcome}
use Rattle.clauses.proofs.Laws.{step_formed, refused_same}
use Rattle.clauses.proofs.Ways.{Way, is_refused, is_closed, is_aborted, is_started, is_message, is_called, is_invited, is_confirmed, is_forwarding, is_responding, is_forwarded, is_read, ways, by_test, passed, pdu_fits, start_there, send_expected, fits_expected, response_there, not_response, not_refused}
use Rattle.numbered.specs.Numbers.{is_stale, numbered_step}
use Rattle.numbered.proofs.Laws.{numbered_is}
use Rattle.told.specs.Lists.{Item, start_request, start_indication, start_response, start_confirmation, end_response, end_confirmation, user_abort_request, user_abort_indication, provider_abort_indication, forward_request, forward_confirmation, unlisted, is_item, periods, among, begins, ends, invocation_of, receipt_of}
use Rattle.told.proofs.Chains.{Lawful, refused_law}
use Rattle.told.specs.Histories.{NumberedEvent, End, Entry, entry, outcome_of, next, one}
use Rattle.std.specs.Prelude.{None, Option, Some}

-- ---- the law of one event as a test

-- p, q: is the user active before and after; i is what it invokes, t what it receives
abbrev pub fair : Bool → Bool → Bool → Bool → Bool → Bool → Bool
fair p act clo call ab q = eqb (one p + one act) (one clo + one q) && (not (act && clo) && (imp (not p) (not ab) && imp call (not ab)))

abbrev pub lawful : Side → Bool → Item → Item → Bool → Bool
lawful sd p i t q =
    fair p (begins (periods sd) i || begins (periods sd) t) (ends (periods sd) i || ends (periods sd) t) (ends (periods sd) i)
    (is_item t user_abort_indication || is_item t provider_abort_indication) q

T_is : {b : Bool} → b ≡ true → T b
T_is e = subst T (sym e) tt

pub record Fair (p act clo call ab q : Bool) : Type 0 where
  pub count : one p + one act ≡ one clo + one q
  pub apart : (act && clo) ≡ false
  pub inactive : p ≡ false → ab ≡ false
  pub silent : call ≡ true → ab ≡ false

is_fair : (p act clo call ab q : Bool) → fair p act clo call ab q ≡ true → Fair p act clo call ab q
is_fair p act clo call ab q h =
    let b = both_right (eqb (one p + one act) (one clo + one q)) (not (act && clo) && (imp (not p) (not ab) && imp call (not ab))) h in
    let d = both_right (not (act && clo)) (imp (not p) (not ab) && imp call (not ab)) b in
    record {
      count = eqb-true _ _ (both_left (eqb (one p + one act) (one clo + one q))
          (not (act && clo) && (imp (not p) (not ab) && imp call (not ab))) h);
      apart = not_t (act && clo) (both_left (not (act && clo)) (imp (not p) (not ab) && imp call (not ab)) b);
      inactive = λ n. not_t ab (imp_e (not p) (not ab) (T_is (both_left (imp (not p) (not ab)) (imp call (not ab)) d)) (ap not n));
      silent = λ n. not_t ab (imp_e call (not ab) (T_is (both_right (imp (not p) (not ab)) (imp call (not ab)) d)) n);
    }

-- the entry of an event that was taken, with what the user was told
abbrev shown : Event → Option Told → Entry
shown e t = record { taken = true; invocation = invocation_of e; receipt = receipt_of t }

taken_law : (sd : Side) (p : Bool) (e : Event) (t : Option Told) (q : Bool)
    → lawful sd p (invocation_of e) (receipt_of t) q ≡ true → Lawful sd p (shown e t) q
taken_law sd p e t q h =
    let f = is_fair p (begins (periods sd) (invocation_of e) || begins (periods sd) (receipt_of t))
    (ends (periods sd) (invocation_of e) || ends (periods sd) (receipt_of t)) (ends (periods sd) (invocation_of e))
    (is_item (receipt_of t) user_abort_indication || is_item (receipt_of t) provider_abort_indication) q h in
    record { count = f.count; apart = f.apart; inactive = f.inactive; silent = f.silent }

-- ---- the finite part, computed

-- a user's call, as the lists name it
abbrev call_item : Call → Item
call_item (StartRequest m) = start_request m
call_item (StartResponse m a) = start_response m a
call_item MessageRequest = unlisted
call_item (EndRequest m) = unlisted
call_item (EndResponse m a) = end_response m a
call_item UserAbort = user_abort_request
call_item TimerExpiry = unlisted
call_item SystemError = unlisted

abbrev users : Call → Bool
users (StartRequest m) = true
users (StartResponse m a) = true
users MessageRequest = true
users (EndRequest m) = true
users (EndResponse m a) = true
users UserAbort = true
users TimerExpiry = false
users SystemError = false

abbrev call_test : Side → Control → Call → Bool
call_test sd c k = imp (takes sd c k) (imp (users k) (lawful sd (not (is_idle c)) (call_item k) unlisted (not (is_idle (goes c k)))))

call_passed : T (all_side (λ (sd : Side). all_control (λ (c : Control). all_call (call_test sd c))))
unfolding imp all_bool all_side all_state all_answer all_control all_response all_call begins ends among
call_passed = tt

call_lawful : (sd : Side) (c : Control) (k : Call) → takes sd c k ≡ true → users k ≡ true
    → lawful sd (not (is_idle c)) (call_item k) unlisted (not (is_idle (goes c k))) ≡ true
call_lawful sd c k e u =
    imp_e (users k) _ (T_is (imp_e (takes sd c k) _ (at_call (call_test sd c) (at_control
    (λ (c : Control). all_call (call_test sd c)) (at_side
    (λ (sd : Side). all_control (λ (c : Control). all_call (call_test sd c))) call_passed sd) c)
    k) e)) u

-- what a primitive that is expected tells; d is the DSC
abbrev primitive_item : Bool → Primitive → Item
primitive_item d (DStart m) = start_indication m
primitive_item d (DStartCnf a) = start_confirmation d a
primitive_item d DTurnedAway = unlisted
primitive_item d DData = unlisted
primitive_item d DEnd = unlisted
primitive_item d (DEndCnf a) = end_confirmation d a
primitive_item d DAbort = unlisted
primitive_item d DPAbort = unlisted

abbrev handing : Primitive → Bool
handing (DStart m) = true
handing (DStartCnf a) = true
handing DTurnedAway = false
handing DData = true
handing DEnd = true
handing (DEndCnf a) = true
handing DAbort = false
handing DPAbort = false

abbrev primitive_test : Side → Control → Primitive → Bool
primitive_test sd c p = imp (expects sd c p)
    (imp (handing p) (lawful sd (not (is_idle c)) unlisted (primitive_item c.dsc p) (not (is_idle (after c p)))))

primitive_passed : T (all_side (λ (sd : Side). all_control (λ (c : Control). all_primitive (primitive_test sd c))))
unfolding imp all_bool all_side all_state all_answer all_control all_primitive begins ends among
primitive_passed = tt

primitive_lawful : (sd : Side) (c : Control) (p : Primitive) → expects sd c p ≡ true → handing p ≡ true
    → lawful sd (not (is_idle c)) unlisted (primitive_item c.dsc p) (not (is_idle (after c p))) ≡ true
primitive_lawful sd c p e u =
    imp_e (handing p) _ (T_is (imp_e (expects sd c p) _ (at_primitive (primitive_test sd c) (at_control
    (λ (c : Control). all_primitive (primitive_test sd c)) (at_side
    (λ (sd : Side). all_control (λ (c : Control). all_primitive (primitive_test sd c)))
    primitive_passed sd) c) p) e)) u

-- a forward's request and its confirmation
forward_lawful : (sd : Side) (c : Control) → takes_forward sd c ≡ true → lawful sd (not (is_idle c)) forward_request unlisted true ≡ true
unfolding begins ends among imp
forward_lawful Air c e = absurd (subst T (sym e) tt)
forward_lawful Ground c e = rw e

abbrev confirmed_at : Control → Bool
confirmed_at c = imp (awaits_response c) (lawful Ground (not (is_idle c)) unlisted forward_confirmation false)

confirmed_passed : T (all_control confirmed_at)
unfolding imp all_bool all_state all_control begins ends among
confirmed_passed = tt

confirmed_lawful : (c : Control) → awaits_response c ≡ true → lawful Ground (not (is_idle c)) unlisted forward_confirmation false ≡ true
confirmed_lawful c e = imp_e (awaits_response c) _ (at_control confirmed_at confirmed_passed c) e

-- an abort that is told to an active user, and nothing to another
tells_lawful : (sd : Side) (b u : Bool) (x : ℕ)
    → lawful sd b unlisted (receipt_of (cond b (cond u (Some (UserAbortIndication x)) (Some (ProviderAbortIndication x))) None)) false ≡ true
unfolding begins ends among imp
tells_lawful Air true true x = refl
tells_lawful Air true false x = refl
tells_lawful Air false u x = refl
tells_lawful Ground true true x = refl
tells_lawful Ground true false x = refl
tells_lawful Ground false u x = refl

-- nothing is told of where nothing was
nothing_lawful : (sd : Side) → lawful sd false unlisted unlisted false ≡ true
unfolding begins ends among imp
nothing_lawful Air = refl
nothing_lawful Ground = refl

-- ---- the records of a run: formed, and an air machine waits for no forward's response

pub record Runs (sd : Side) (r : Record) : Type 0 where
  pub formed : Formed r
  pub ground : sd ≡ Air → awaits_response r.control ≡ false

never : {A : Type 0} → true ≡ false → A
never e = absurd (subst T e tt)

way_awaits : (r : Record) (o : Outcome) → Way Air r o → awaits_response r.control ≡ false → awaits_response o.next.control ≡ false
unfolding closes aborts requested message_request sent handed forwarded responds forward_confirmed enter
way_awaits r o (is_refused w n) h = h
way_awaits r o (is_closed t a) h = refl
way_awaits r o (is_aborted p t a) h = refl
way_awaits r o (is_started m k s e) h = refl
way_awaits r o (is_message j e n) h = h
way_awaits r o (is_called k x a e b) h = goes_awaits r.control k h
way_awaits r o (is_invited m x e) h = refl
way_awaits r o (is_confirmed a m x e) h = after_awaits r.control (DStartCnf a) h
way_awaits r o (is_forwarding k s e) h = never (sym e)
way_awaits r o (is_responding x s v t j b) h = refl
way_awaits r o (is_forwarded x v e) h = refl
way_awaits r o (is_read p t e w a) h = after_awaits r.control p h

step_awaits : (sd : Side) (r : Record) (e : Event) → sd ≡ Air → awaits_response r.control ≡ false
    → awaits_response (step sd r e).next.control ≡ false
step_awaits Air r e a h = way_awaits r (step Air r e) (ways Air r e) h
step_awaits Ground r e a h = never (ap is_air (sym a))
  where
    is_air : Side → Bool
    is_air Air = true
    is_air Ground = false

step_runs : (sd : Side) (r : Record) (e : Event) → Runs sd r → Runs sd (step sd r e).next
step_runs sd r e h = record { formed = step_formed sd r e h.formed; ground = λ a. step_awaits sd r e a (h.ground a) }

-- ---- a user's call

lawful_at : (sd : Side) (p p' : Bool) (i i' t t' : Item) (q q' : Bool) → p ≡ p' → i ≡ i' → t ≡ t' → q ≡ q'
    → lawful sd p' i' t' q' ≡ true → lawful sd p i t q ≡ true
lawful_at sd p p' i i' t t' q q' a b c d e = rw (a, b, c, d) e

sent_law : (sd : Side) (r : Record) (e : Event) (k : Call) → r.active ≡ not (is_idle r.control)
    → takes sd r.control k ≡ true → users k ≡ true → busy k ≡ true → invocation_of e ≡ call_item k
    → Lawful sd r.active (shown e None) (not (is_idle (goes r.control k)) && r.active)
sent_law sd r e k h t u b i =
    taken_law sd r.active e None (not (is_idle (goes r.control k)) && r.active)
    (lawful_at sd r.active (not (is_idle r.control)) (invocation_of e) (call_item k) unlisted unlisted _ (not (is_idle (goes r.control k))) h i refl
    (ap (λ (z : Bool). not (is_idle (goes r.control k)) && z) h ∙ call_held_is sd r.control k t b) (call_lawful sd r.control k t u))

user_law : (sd : Side) (r : Record) → r.active ≡ not (is_idle r.control) → (u : UserPrimitive)
    → takes sd r.control (call_of u) ≡ true
    → Lawful sd r.active (entry (User u) (called r u)) (called r u).next.active
unfolding called call_of requested responded message_request end_request endResponded user_abort sent enter
user_law sd r h (StartServiceRequest m k s) t =
    taken_law sd r.active (User (StartServiceRequest m k s)) None true
    (lawful_at sd r.active (not (is_idle r.control)) _ _ unlisted unlisted true true h refl refl refl
    (call_lawful sd r.control (call_of (StartServiceRequest m k s)) t refl))
user_law sd r h (StartServiceResponse m x g) t = sent_law sd r (User (StartServiceResponse m x g))
    (StartResponse m (reply_of x)) h t refl refl refl
user_law sd r h (MessageServiceRequest g j) t = sent_law sd r (User (MessageServiceRequest g j)) MessageRequest h t refl refl refl
user_law sd r h (EndServiceRequest m g) t = sent_law sd r (User (EndServiceRequest m g)) (EndRequest m) h t refl refl refl
user_law sd r h (EndServiceResponse m x g) t = sent_law sd r (User (EndServiceResponse m x g))
    (EndResponse m (reply_of x)) h t refl refl refl
user_law sd r h (UserAbortServiceRequest g x) t = sent_law sd r (User (UserAbortServiceRequest g x)) UserAbort h t refl refl refl

-- ---- what ends in IDLE, with an active user told

module _ (sd : Side) (r : Record) (e : Event) (i : invocation_of e ≡ unlisted) where
  told_law : (u : Bool) (x : ℕ)
      → Lawful sd r.active (shown e (tell r (cond u (Some (UserAbortIndication x)) (Some (ProviderAbortIndication x))))) false
  unfolding tell
  told_law u x = taken_law sd r.active e (tell r (cond u (Some (UserAbortIndication x)) (Some (ProviderAbortIndication x)))) false (
      lawful_at sd r.active r.active (invocation_of e) unlisted _ _ false false refl i refl refl
      (tells_lawful sd r.active u x))

  quiet_law : (t : Option Told) → receipt_of t ≡ unlisted → r.active ≡ false → Lawful sd r.active (shown e t) false
  quiet_law t k h = taken_law sd r.active e t false (lawful_at sd r.active false (invocation_of e) unlisted
      (receipt_of t) unlisted false false h i k refl (nothing_lawful sd))

  except_law : (live : Bool) (p s : ℕ) → Lawful sd r.active (entry e (excepts r live p s)) (excepts r live p s).next.active
  unfolding excepts aborts closes enter
  except_law true p s = told_law false s
  except_law false p s = told_law false s

-- the law of an outcome
abbrev LawOf : Side → Record → Event → Outcome → Type 0
LawOf sd r e o = Lawful sd r.active (entry e o) o.next.active

idle_inactive : (r : Record) → r.active ≡ not (is_idle r.control) → is_idle r.control ≡ true → r.active ≡ false
idle_inactive r h i = h ∙ ap not i

none_law : (sd : Side) (r : Record) (e : Event) → invocation_of e ≡ unlisted → r.active ≡ not (is_idle r.control)
    → (x : Bool) → LawOf sd r e (no_instruction r x)
unfolding no_instruction closes enter
none_law sd r e i h x =
    by_test (LawOf sd r e) (is_idle r.control) _ _ (λ k. quiet_law sd r e i None refl (idle_inactive r h k))
    (λ k. except_law sd r e i x _ _)

-- ---- a primitive of the dialogue service without a fault

abbrev is_no_fault : Option Fault → Bool
is_no_fault None = true
is_no_fault (Some (NoInstruction live)) = false
is_no_fault (Some Quality) = false
is_no_fault (Some TurnedAway) = false
is_no_fault (Some (Security live)) = false
is_no_fault (Some Missing) = false
is_no_fault (Some (Invalid live)) = false
is_no_fault (Some (NotPermitted live)) = false

-- one that is handed on, at a record whose user is active exactly outside IDLE; q is whether the user is active then
handed_law : (sd : Side) (r : Record) (e : Event) (p : Primitive) (t : Option Told) (q : Bool) → invocation_of e ≡ unlisted
    → r.active ≡ not (is_idle r.control) → expects sd r.control p ≡ true → handing p ≡ true
    → receipt_of t ≡ primitive_item r.control.dsc p → q ≡ not (is_idle (after r.control p)) → Lawful sd r.active (shown e t) q
handed_law sd r e p t q i h x n k a =
    taken_law sd r.active e t q
    (lawful_at sd r.active (not (is_idle r.control)) (invocation_of e) unlisted (receipt_of t)
    (primitive_item r.control.dsc p) q (not (is_idle (after r.control p))) h i k a
    (primitive_lawful sd r.control p x n))

-- one inside a dialogue: the user stays as it is until IDLE
read_law : (sd : Side) (r : Record) (e : Event) (p : Primitive) (t : Option Told) → invocation_of e ≡ unlisted
    → r.active ≡ not (is_idle r.control) → expects sd r.control p ≡ true → handing p ≡ true
    → not (is_start p) ≡ true
    → receipt_of t ≡ primitive_item r.control.dsc p → LawOf sd r e (handed r p t)
unfolding handed enter
read_law sd r e p t i h x n s k =
    handed_law sd r e p t _ i h x n k (ap (λ (z : Bool). not (is_idle (after r.control p)) && z) h ∙ primitive_held_is sd r.control p x s)

module _ (sd : Side) (r : Record) (f : Runs sd r) where
  user : r.active ≡ not (is_idle r.control)
  user = f.formed.user

  -- a forward message: the user does not become active
  arrives_law : (e : Event) → invocation_of e ≡ unlisted → is_idle r.control ≡ true → (s v : ℕ) → LawOf sd r e (forward_arrives r s v)
  unfolding forward_arrives responds enter
  arrives_law e i k s v =
      by_test (LawOf sd r e) (not r.forwards) _ _ (λ y. quiet_law sd r e i None refl (idle_inactive r user k))
      (λ y. by_test (LawOf sd r e) (eqb v r.version) _ _
      (λ z. quiet_law sd r e i (Some ForwardIndication) refl (idle_inactive r user k))
      (λ z. quiet_law sd r e i None refl (idle_inactive r user k)))

  invited_law : (e : Event) → invocation_of e ≡ unlisted → (m : Bool) (k : ℕ) → expects sd r.control (DStart m) ≡ true
      → LawOf sd r e (handed (with_user r true) (DStart m) (Some (StartIndication m k)))
  unfolding handed enter
  invited_law e i m k x = handed_law sd r e (DStart m) (Some (StartIndication m k)) true i user x refl refl refl

  -- the confirmation of a forward: at the ground, where the user is active
  awaited_law : (s : Side) → s ≡ sd → (e : Event) → invocation_of e ≡ unlisted → awaits_response r.control ≡ true
      → (x v : ℕ) → Lawful s r.active (entry e (forward_confirmed r x v)) (forward_confirmed r x v).next.active
  unfolding forward_confirmed closes enter
  awaited_law Air a e i k x v = never (sym k ∙ f.ground (sym a))
  awaited_law Ground a e i k x v =
      taken_law Ground r.active e (Some (ForwardConfirmation x v)) false (lawful_at Ground r.active
      (not (is_idle r.control)) (invocation_of e) unlisted forward_confirmation forward_confirmation false false
      user i refl refl (confirmed_lawful r.control k))

  -- a confirmation without a fault: of a start, or of a forward
  confirmed_law : (e : Event) → invocation_of e ≡ unlisted → (x o s v : ℕ) (a : UserData) (t : Bool)
      → expects sd r.control (DStartCnf (reply_of x)) ≡ t
      → cond (not t) (cond (awaits_response r.control) (response_fault r x o s a) (Some (NoInstruction true))) (cond
      (turned_away x o) (Some TurnedAway) (cond (differs (secures r.edition) s r.request)
      (Some (Security (eqb x accepted))) (pdu_fault (spares r.edition)
      (send_allowed (spares r.edition) (eqb x accepted) a) (eqb x accepted) true a None))) ≡
      None
      → LawOf sd r e (cond (is_response a) (forward_confirmed r (reason_of a) v)
      (handed (with_timer r false) (DStartCnf (reply_of x)) (Some (StartConfirmation r.control.dsc x))))
  confirmed_law e i x o s v a true p k =
      let away = passed (turned_away x o) (Some TurnedAway) _ refl k in
      let secure = passed (differs (secures r.edition) s r.request) (Some (Security (eqb x accepted))) _ refl away.1 in
      let n = not_response sd r (spares r.edition) (eqb x accepted) (eqb x accepted) true a secure.1 in
      subst (λ (b : Bool). LawOf sd r e (cond b (forward_confirmed r (reason_of a) v)
      (handed (with_timer r false) (DStartCnf (reply_of x)) (Some (StartConfirmation r.control.dsc x))))) (sym n)
      (read_law sd (with_timer r false) e (DStartCnf (reply_of x)) (Some (StartConfirmation r.control.dsc x)) i user p refl refl refl)
  confirmed_law e i x o s v a false p k = awaited (awaits_response r.control) refl k
    where
      awaited : (b : Bool) → awaits_response r.control ≡ b → cond b (response_fault r x o s a) (Some (NoInstruction true)) ≡ None
          → LawOf sd r e (cond (is_response a) (forward_confirmed r (reason_of a) v)
          (handed (with_timer r false) (DStartCnf (reply_of x)) (Some (StartConfirmation r.control.dsc x))))
      awaited true q z =
          subst (λ (b : Bool). LawOf sd r e (cond b (forward_confirmed r (reason_of a) v)
          (handed (with_timer r false) (DStartCnf (reply_of x)) (Some (StartConfirmation r.control.dsc x)))))
          (sym (response_there sd r x o s a z))
          (awaited_law sd refl e i q (reason_of a) v)
      awaited false q z = never (sym (ap is_no_fault z))

  instructed_law : (p : ServicePrimitive) (a : UserData) → first_fault sd r p a ≡ None → LawOf sd r (Service p a) (instructed r p a)
  unfolding instructed first_fault confirmation_fault closes enter
  instructed_law (DStartIndication x s q v) a k =
      let there = start_there sd r x s q a k in
      by_test (LawOf sd r (Service (DStartIndication x s q v) a)) (is_forward a) _ _
      (λ y. arrives_law (Service (DStartIndication x s q v) a) refl there.idle s v)
      (λ n. invited_law (Service (DStartIndication x s q v) a) refl (mode_of a) q.routing (fits_expected sd r x a there.fits n))
  instructed_law (DStartConfirmation x o s v) a k = confirmed_law (Service (DStartConfirmation x o s v) a) refl x o s v
      a (expects sd r.control (DStartCnf (reply_of x))) refl k
  instructed_law DDataIndication a k = read_law sd r (Service DDataIndication a) DData (Some MessageIndication) refl user
      (send_expected sd r DData _ true a k) refl refl refl
  instructed_law DEndIndication a k = read_law sd r (Service DEndIndication a) DEnd (Some (EndIndication r.control.dsc))
      refl user (send_expected sd r DEnd _ true a k) refl refl refl
  instructed_law (DEndConfirmation x) a k =
      read_law sd r (Service (DEndConfirmation x) a) (DEndCnf (reply_of x)) (Some (EndConfirmation r.control.dsc x)) refl
      user (send_expected sd r (DEndCnf (reply_of x)) _ _ a k) refl refl refl
  instructed_law (DAbortIndication o) a k = told_law sd r (Service (DAbortIndication o) a) refl (is_user_abort a) (reason_of a)
  instructed_law DPAbortIndication a k = told_law sd r (Service DPAbortIndication a) refl false _

-- ---- a fault

-- a wrong quality of service tells nobody, and is met in IDLE alone
abbrev is_quality : Option Fault → Bool
is_quality None = false
is_quality (Some (NoInstruction live)) = false
is_quality (Some Quality) = true
is_quality (Some TurnedAway) = false
is_quality (Some (Security live)) = false
is_quality (Some Missing) = false
is_quality (Some (Invalid live)) = false
is_quality (Some (NotPermitted live)) = false

either : (b : Bool) (f g : Option Fault) → is_quality f ≡ false → is_quality g ≡ false → is_quality (cond b f g) ≡ false
either true f g x y = x
either false f g x y = y

pdu_quality : (may fits i u : Bool) (a : UserData) (g : Option Fault) → is_quality g ≡ false → is_quality (pdu_fault may fits i u a g) ≡ false
unfolding pdu_fault
pdu_quality may fits i u a g n = either (is_missing a) _ _ (either may _ _ n refl)
    (either (is_invalid a) _ _ refl (either (not fits) _ _ refl n))

module _ (sd : Side) (r : Record) where
  send_quality : (p : Primitive) (may live : Bool) (a : UserData) → is_quality (send_fault sd r p may live a) ≡ false
  unfolding send_fault
  send_quality p may live a = either (not (expects sd r.control p)) _ _ refl (pdu_quality may (is_send a) live live a None refl)

  abort_quality : (p : Primitive) (fits : Bool) → is_quality (abort_fault sd r p fits) ≡ false
  unfolding abort_fault
  abort_quality p fits = either (not (expects sd r.control p)) _ _ refl (either (not fits) _ _ refl refl)

  confirmation_quality : (x o s : ℕ) (a : UserData) → is_quality (confirmation_fault sd r x o s a) ≡ false
  unfolding confirmation_fault response_fault
  confirmation_quality x o s a =
      either (not (expects sd r.control (DStartCnf (reply_of x)))) _ _
      (either (awaits_response r.control) _ _ (either (turned_away x o) _ _ refl (either
      (differs (secures r.edition) s r.request) _ _ refl (either (eqb x accepted) _ _
      (pdu_quality false false true true a None refl)
      (pdu_quality false (is_response a) false true a None refl)))) refl)
      (either (turned_away x o) _ _ refl (either (differs (secures r.edition) s r.request) _ _ refl (pdu_quality
      (spares r.edition) (send_allowed (spares r.edition) (eqb x accepted) a) (eqb x accepted) true
      a None refl)))

  indication_quality : (x s : ℕ) (q : Qos) (a : UserData) → is_quality (indication_fault sd r x s q a) ≡ true → is_idle r.control ≡ true
  unfolding indication_fault
  indication_quality x s q a e = go (is_idle r.control) e
    where
      go : (b : Bool)
          → is_quality (cond (not b) (Some (NoInstruction true)) (cond (not (qos_fits q)) (Some Quality) (cond (differs (secures r.edition) s r.policy) (Some (Security true)) (pdu_fault false (start_fits_of sd r x a) true true a (cond (peer_fits sd x) None (Some (NoInstruction true))))))) ≡ true
          → b ≡ true
      go true k = refl
      go false k = never (sym k)

  quality_idle : (p : ServicePrimitive) (a : UserData) → is_quality (first_fault sd r p a) ≡ true → is_idle r.control ≡ true
  unfolding first_fault
  quality_idle (DStartIndication x s q v) a e = indication_quality x s q a e
  quality_idle (DStartConfirmation x o s v) a e = never (sym e ∙ confirmation_quality x o s a)
  quality_idle DDataIndication a e = never (sym e ∙ send_quality DData _ true a)
  quality_idle DEndIndication a e = never (sym e ∙ send_quality DEnd _ true a)
  quality_idle (DEndConfirmation x) a e = never (sym e ∙ send_quality (DEndCnf (reply_of x)) _ (not (eqb x accepted)) a)
  quality_idle (DAbortIndication o) a e = never (sym e ∙ abort_quality DAbort (abort_fits o a))
  quality_idle DPAbortIndication a e = never (sym e ∙ abort_quality DPAbort true)

  answered_law : Runs sd r → (p : ServicePrimitive) (a : UserData) (f : Option Fault) → first_fault sd r p a ≡ f
      → LawOf sd r (Service p a) (answered r p a f)
  unfolding answered closes aborts enter
  answered_law h p a None k = instructed_law sd r h p a k
  answered_law h p a (Some (NoInstruction live)) k = none_law sd r (Service p a) refl (user sd r h) live
  answered_law h p a (Some Quality) k = quiet_law sd r (Service p a) refl None refl
      (idle_inactive r (user sd r h) (quality_idle p a (ap is_quality k)))
  answered_law h p a (Some TurnedAway) k = told_law sd r (Service p a) refl false _
  answered_law h p a (Some (Security live)) k = except_law sd r (Service p a) refl live _ _
  answered_law h p a (Some Missing) k = except_law sd r (Service p a) refl true _ _
  answered_law h p a (Some (Invalid live)) k = except_law sd r (Service p a) refl live _ _
  answered_law h p a (Some (NotPermitted live)) k = except_law sd r (Service p a) refl live _ _

  -- ---- every event

  forwarding_law : (k s : ℕ) → r.active ≡ not (is_idle r.control) → takes_forward sd r.control ≡ true
      → LawOf sd r (Forward k s) (forwarded r k s)
  unfolding forwarded enter
  forwarding_law k s h t = taken_law sd r.active (Forward k s) None true (lawful_at sd r.active
      (not (is_idle r.control)) forward_request forward_request unlisted unlisted true true h refl refl refl
      (forward_lawful sd r.control t))

  acts_law : Runs sd r → (e : Event) → permitted sd r e ≡ true → LawOf sd r e (acts sd r e)
  unfolding acts permitted reached timer_expires system_error closes enter
  acts_law h (User u) p = user_law sd r (user sd r h) u p
  acts_law h (Forward k s) p = forwarding_law k s (user sd r h) p
  acts_law h (Service q a) p = answered_law h q a (first_fault sd r q a) refl
  acts_law h TimerExpires p = except_law sd r TimerExpires refl true _ _
  acts_law h UnrecoverableSystemError p =
      by_test (LawOf sd r UnrecoverableSystemError) (is_idle r.control) _ _
      (λ k. quiet_law sd r UnrecoverableSystemError refl None refl (idle_inactive r (user sd r h) k))
      (λ k. except_law sd r UnrecoverableSystemError refl true _ _)

  step_law : Runs sd r → (e : Event) → LawOf sd r e (step sd r e)
  unfolding step refusal_of
  step_law h e =
      by_test (LawOf sd r e) (is_none (refusal_of sd r e)) _ _ (λ n. acts_law h e
      (not_refused (event_fits sd r.edition e) (permitted sd r e) (message_refusal r e) n).1.0)
      (λ n. refused_law sd r.active (entry e (refused (refusal_of sd r e) r)) n)

  numbered_law : Runs sd r → (n : ℕ) (e : Event) (v : ℕ) → LawOf sd r e (numbered_step sd r n e v)
  numbered_law h n e v =
      subst (LawOf sd r e) (sym (numbered_is sd r n e v))
      (by_test (LawOf sd r e) (event_fits sd r.edition e && is_stale n e v) _ _
      (λ k. refused_law sd r.active (entry e (refused (Some Stale) r)) refl) (λ k. step_law h e))

  numbered_runs : Runs sd r → (n : ℕ) (e : Event) (v : ℕ) → Runs sd (numbered_step sd r n e v).next
  numbered_runs h n e v =
      subst (λ (o : Outcome). Runs sd o.next) (sym (numbered_is sd r n e v))
      (by_test (λ (o : Outcome). Runs sd o.next) (event_fits sd r.edition e && is_stale n e v) _ _ (λ k. h) (λ k. step_runs sd r e h))

pub numbered_refused : (sd : Side) (r : Record) (n : ℕ) (e : Event) (v : ℕ)
    → is_none (numbered_step sd r n e v).refusal ≡ false
    → numbered_step sd r n e v ≡ refused (numbered_step sd r n e v).refusal r
numbered_refused sd r n e v =
    subst (λ (o : Outcome). is_none o.refusal ≡ false → o ≡ refused o.refusal r) (sym (numbered_is sd r n e v))
    (by_test (λ (o : Outcome). is_none o.refusal ≡ false → o ≡ refused o.refusal r)
    (event_fits sd r.edition e && is_stale n e v) _ _ (λ k m. refl) (λ k. refused_same sd r e))

-- the law of an event with its dialogue number, at an end
pub event_law : (sd : Side) (h : End) (b : NumberedEvent) → Runs sd h.dialogue
    → Lawful sd h.dialogue.active (entry b.event (outcome_of sd h b)) (next sd h b).dialogue.active
event_law sd h b f = numbered_law sd h.dialogue f h.number b.event b.number

pub event_runs : (sd : Side) (h : End) (b : NumberedEvent) → Runs sd h.dialogue → Runs sd (next sd h b).dialogue
event_runs sd h b f = numbered_runs sd h.dialogue f h.number b.event b.number
