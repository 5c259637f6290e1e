-- Every event keeps the codes of a record within their types, forwards too, and what it tells has room in the answer's number.
-- Assumes nothing.
use mathlib.Core.Path.{◌≡◌, refl}
use mathlib.Core.Bool.{Bool, true, false, not, cond, ◌&&◌}
use Prim.Native.Nat.{ℕ, ◌^◌, ◌<◌}
use native.Mathlib.Omega.{arith}
use borrow.Author.Tests.{ltb-true, lt-ltb}
use lib.Dec.{ltb, eqb}
use Rattle.words.proofs.Laws.{both_left, both_right}
use Rattle.control.specs.Control.{is_idle}
use Rattle.editions.specs.Editions.{secures}
use Rattle.control.specs.declared.Side.{Side}
use Rattle.control.specs.declared.Control.{Control}
use Rattle.control.specs.declared.Call.{Call}
use Rattle.control.specs.declared.Primitive.{Primitive}
use Rattle.machine.specs.Codes.{security_values, results, start_results, routing_classes, reject_sources, versions}
use Rattle.machine.specs.Record.{with_timer, with_user, with_job, with_request, enter}
use Rattle.machine.specs.UserData.{is_forward, is_response, is_user_abort, user_data_fits}
use Rattle.machine.specs.Event.{has_mode, user_fits, service_fits, event_fits}
use Rattle.machine.specs.Outcome.{is_none}
use Rattle.machine.specs.Exceptions.{tell, closes, aborts, excepts, no_instruction, timer_expires, system_error}
use Rattle.machine.specs.Calls.{security_sent, sent, start_request, start_response, message_request, end_request, end_response, user_abort, called}
use Rattle.machine.specs.Forwards.{forward_request, responds, forward_arrives, forward_confirmed}
use Rattle.machine.specs.Faults.{first_fault}
use Rattle.machine.specs.Primitives.{handed, abort_told, instructed, answered, reached}
use Rattle.machine.specs.Step.{acts}
use Rattle.machine.specs.declared.record.Record.{Record}
use Rattle.machine.specs.declared.event.UserData.{UserData}
use Rattle.machine.specs.declared.event.UserPrimitive.{UserPrimitive}
use Rattle.machine.specs.declared.event.UserPrimitive.TheVariants.{StartServiceRequest, StartServiceResponse, MessageServiceRequest, EndServiceRequest, EndServiceResponse, UserAbortServiceRequest}
use Rattle.machine.specs.declared.event.ServicePrimitive.{ServicePrimitive}
use Rattle.machine.specs.declared.event.ServicePrimitive.TheVariants.{DStartIndication, DStartConfirmation, DDataIndication, DEndIndication, DEndConfirmation, DAbortIndication, DPAbortIndication}
use Rattle.machine.specs.declared.event.Event.{Event}
use Rattle.machine.specs.declared.event.Event.TheVariants.{User, Forward, Service, TimerExpires, UnrecoverableSystemError}
use Rattle.machine.specs.declared.faults.Fault.{Fault}
use Rattle.machine.specs.declared.faults.Fault.TheVariants.{NoInstruction, Quality, TurnedAway, Security, Missing, Invalid, NotPermitted}
use Rattle.machine.specs.declared.outcome.StepRefusal.{StepRefusal}
use Rattle.machine.specs.declared.outcome.StepRefusal.TheVariants.{Shape}
use Rattle.machine.specs.declared.outcome.Invoked.{Invoked}
use Rattle.machine.specs.declared.outcome.Told.{Told}
use Rattle.machine.specs.declared.outcome.Told.TheVariants.{StartIndication, StartConfirmation, MessageIndication, EndIndication, EndConfirmation, UserAbortIndication, ProviderAbortIndication, ForwardIndication, ForwardConfirmation}
use Rattle.machine.specs.declared.outcome.Outcome.{Outcome}
use Rattle.clauses.proofs.Ways.{by_test}
use Rattle.numbered.specs.Numbers.{refusal_of, numbered_step}
use Rattle.stored.proofs.Storing.{Coded}
use Rattle.packed.specs.Packed.{codes}
use Rattle.step.proofs.Taken.{never}
use Rattle.std.specs.Prelude.{None, Option, Some}

-- ---- what is shown

-- the Result of a confirmation is a number of four bits
abbrev pub result_fits : Option Told → Bool
result_fits None = true
result_fits (Some (StartIndication m k)) = true
result_fits (Some (StartConfirmation m x)) = ltb x codes
result_fits (Some MessageIndication) = true
result_fits (Some (EndIndication m)) = true
result_fits (Some (EndConfirmation m x)) = ltb x codes
result_fits (Some (UserAbortIndication x)) = true
result_fits (Some (ProviderAbortIndication x)) = true
result_fits (Some ForwardIndication) = true
result_fits (Some (ForwardConfirmation x v)) = true

pub record Keeps (o : Outcome) : Type 0 where
  pub coded : Coded o.next
  pub result : result_fits o.told ≡ true

-- the job of a message request is a number of eight bytes
abbrev pub JobLow : Event → Type 0
JobLow (User (StartServiceRequest m k s)) = Unit {0}
JobLow (User (StartServiceResponse m x h)) = Unit {0}
JobLow (User (MessageServiceRequest h j)) = j < 2 ^ 64
JobLow (User (EndServiceRequest m h)) = Unit {0}
JobLow (User (EndServiceResponse m x h)) = Unit {0}
JobLow (User (UserAbortServiceRequest g x)) = Unit {0}
JobLow (Forward k s) = Unit {0}
JobLow (Service p a) = Unit {0}
JobLow TimerExpires = Unit {0}
JobLow UnrecoverableSystemError = Unit {0}

-- ---- the shapes

enter_coded : (r : Record) (c : Control) → Coded r → Coded (enter r c)
unfolding enter
enter_coded r c k = record { request = k.request; policy = k.policy; least = k.least; most = k.most; highest = k.highest }

timer_coded : (r : Record) (on : Bool) → Coded r → Coded (with_timer r on)
timer_coded r on k = record { request = k.request; policy = k.policy; least = k.least; most = k.most; highest = k.highest }

user_coded : (r : Record) (on : Bool) → Coded r → Coded (with_user r on)
user_coded r on k = record { request = k.request; policy = k.policy; least = k.least; most = k.most; highest = k.highest }

request_coded : (r : Record) (s : ℕ) → s < security_values → Coded r → Coded (with_request r s)
request_coded r s h k = record { request = h; policy = k.policy; least = k.least; most = k.most; highest = k.highest }

-- a security value that is sent is one
sent_low : (compared : Bool) (s : ℕ) → s < security_values → security_sent compared s < security_values
sent_low true s h = h
sent_low false s h = omega arith

job_coded : (r : Record) (j : ℕ) → j < 2 ^ 64 → Coded r → Coded (with_job r j)
job_coded r j h k = record { request = k.request; policy = k.policy; least = k.least; most = k.most; highest = h }

-- a start: t-start runs, the user is active, the security value is kept
started_coded : (r : Record) (s : ℕ) → s < security_values → Coded r → Coded (with_request (with_user (with_timer r true) true) s)
started_coded r s h k = request_coded (with_user (with_timer r true) true) s h (user_coded (with_timer r true) true (timer_coded r true k))

closes_keeps : (r : Record) (t : Option Told) → Coded r → result_fits t ≡ true → Keeps (closes r t)
unfolding closes
closes_keeps r t k f = record { coded = enter_coded r _ k; result = f }

aborts_keeps : (r : Record) (p : ℕ) (t : Option Told) → Coded r → result_fits t ≡ true → Keeps (aborts r p t)
unfolding aborts
aborts_keeps r p t k f = record { coded = enter_coded r _ k; result = f }

tell_fits : (r : Record) (t : Option Told) → result_fits t ≡ true → result_fits (tell r t) ≡ true
unfolding tell
tell_fits r t f = by_test (λ (z : Option Told). result_fits z ≡ true) r.active t None (λ e. f) (λ e. refl)

excepts_keeps : (r : Record) (live : Bool) (p s : ℕ) → Coded r → Keeps (excepts r live p s)
unfolding excepts
excepts_keeps r true p s k = aborts_keeps r p _ k (tell_fits r (Some (ProviderAbortIndication s)) refl)
excepts_keeps r false p s k = closes_keeps r _ k (tell_fits r (Some (ProviderAbortIndication s)) refl)

none_keeps : (r : Record) (live : Bool) → Coded r → Keeps (no_instruction r live)
unfolding no_instruction
none_keeps r live k = by_test Keeps (is_idle r.control) _ _ (λ e. closes_keeps r None k refl) (λ e. excepts_keeps r live _ _ k)

handed_keeps : (r : Record) (p : Primitive) (t : Option Told) → Coded r → result_fits t ≡ true → Keeps (handed r p t)
unfolding handed
handed_keeps r p t k f = record { coded = enter_coded r _ k; result = f }

responds_keeps : (r : Record) (x s v : ℕ) (t : Option Told) → Coded r → result_fits t ≡ true → Keeps (responds r x s v t)
unfolding responds
responds_keeps r x s v t k f = record { coded = enter_coded r _ k; result = f }

sent_keeps : (r : Record) (c : Call) (i : Option Invoked) (a : UserData) → Coded r → Keeps (sent r c i a)
unfolding sent
sent_keeps r c i a k = record { coded = enter_coded r _ k; result = refl }

-- ---- a primitive of the dialogue service

arrives_keeps : (r : Record) (s v : ℕ) → Coded r → Keeps (forward_arrives r s v)
unfolding forward_arrives
arrives_keeps r s v k =
    by_test Keeps (not r.forwards) _ _ (λ e. responds_keeps r _ s _ None k refl)
    (λ e. by_test Keeps (eqb v r.version) _ _ (λ f. responds_keeps r _ s _ (Some ForwardIndication) k refl)
    (λ f. responds_keeps r _ s _ None k refl))

abort_fits_is : (a : UserData) → result_fits (abort_told a) ≡ true
abort_fits_is a = by_test (λ (t : Option Told). result_fits t ≡ true) (is_user_abort a) _ _ (λ e. refl) (λ e. refl)

low_fits : (x n : ℕ) → n < codes → ltb x n ≡ true → ltb x codes ≡ true
low_fits x n h e =
    let l = ltb-true x n e in
    lt-ltb x codes (omega (arith, l, h))

instructed_keeps : (r : Record) (p : ServicePrimitive) (a : UserData) → Coded r → service_fits p ≡ true → Keeps (instructed r p a)
unfolding instructed forward_confirmed service_fits
instructed_keeps r (DStartIndication x s q v) a k f = by_test Keeps (is_forward a) _ _ (λ e. arrives_keeps r s v k)
    (λ e. handed_keeps (with_user r true) _ _ (user_coded r true k) refl)
instructed_keeps r (DStartConfirmation x o s v) a k f =
    by_test Keeps (is_response a) _ _ (λ e. closes_keeps (with_timer r false) _ (timer_coded r false k) refl)
    (λ e. handed_keeps (with_timer r false) _ _ (timer_coded r false k) (low_fits x start_results (omega arith)
    (both_left (ltb x start_results) (ltb o reject_sources && (ltb s security_values && ltb v versions)) f)))
instructed_keeps r DDataIndication a k f = handed_keeps r _ _ k refl
instructed_keeps r DEndIndication a k f = handed_keeps r _ _ k refl
instructed_keeps r (DEndConfirmation x) a k f = handed_keeps r _ _ k (low_fits x results (omega arith) f)
instructed_keeps r (DAbortIndication o) a k f = closes_keeps r _ k (tell_fits r (abort_told a) (abort_fits_is a))
instructed_keeps r DPAbortIndication a k f = closes_keeps r _ k (tell_fits r (Some (ProviderAbortIndication _)) refl)

answered_keeps : (r : Record) (p : ServicePrimitive) (a : UserData) (f : Option Fault) → Coded r → service_fits p ≡ true → Keeps (answered r p a f)
unfolding answered
answered_keeps r p a None k h = instructed_keeps r p a k h
answered_keeps r p a (Some (NoInstruction live)) k h = none_keeps r live k
answered_keeps r p a (Some Quality) k h = aborts_keeps r _ None k refl
answered_keeps r p a (Some TurnedAway) k h = closes_keeps r _ k (tell_fits r (Some (ProviderAbortIndication _)) refl)
answered_keeps r p a (Some (Security live)) k h = excepts_keeps r live _ _ k
answered_keeps r p a (Some Missing) k h = excepts_keeps r true _ _ k
answered_keeps r p a (Some (Invalid live)) k h = excepts_keeps r live _ _ k
answered_keeps r p a (Some (NotPermitted live)) k h = excepts_keeps r live _ _ k

-- ---- a call of the user

called_keeps : (sd : Side) (r : Record) (u : UserPrimitive) → Coded r → user_fits sd r.edition u ≡ true
    → JobLow (User u) → Keeps (called r u)
unfolding called user_fits start_request start_response message_request end_request end_response user_abort
called_keeps sd r (StartServiceRequest m c s) k h j =
    let both = both_right (has_mode sd m) (ltb c routing_classes && ltb s security_values) h in
    let low = sent_low (secures r.edition) s
    (ltb-true s security_values (both_right (ltb c routing_classes) (ltb s security_values) both)) in
    sent_keeps (with_request (with_user (with_timer r true) true) (security_sent (secures r.edition) s)) _ _ _
    (started_coded r (security_sent (secures r.edition) s) low k)
called_keeps sd r (StartServiceResponse m x g) k h j = sent_keeps r _ _ _ k
called_keeps sd r (MessageServiceRequest b n) k h j = sent_keeps (with_job r n) _ _ _ (job_coded r n j k)
called_keeps sd r (EndServiceRequest m g) k h j = sent_keeps r _ _ _ k
called_keeps sd r (EndServiceResponse m x g) k h j = sent_keeps r _ _ _ k
called_keeps sd r (UserAbortServiceRequest g x) k h j = sent_keeps r _ _ _ k

forward_keeps : (r : Record) (c s : ℕ) → Coded r → s < security_values → Keeps (forward_request r c s)
unfolding forward_request
forward_keeps r c s k h =
    let low = sent_low (secures r.edition) s h in
    record { coded = enter_coded (with_request (with_user (with_timer r true) true) (security_sent (secures r.edition) s)) _ (started_coded r (security_sent (secures r.edition) s) low k); result = refl }

-- ---- every event

acts_keeps : (sd : Side) (r : Record) (e : Event) → Coded r → event_fits sd r.edition e ≡ true → JobLow e → Keeps (acts sd r e)
unfolding acts event_fits reached timer_expires system_error
acts_keeps sd r (User u) k h j = called_keeps sd r u k h j
acts_keeps sd r (Forward c s) k h j = forward_keeps r c s k
    (ltb-true s security_values (both_right (ltb c routing_classes) (ltb s security_values) h))
acts_keeps sd r (Service p a) k h j = answered_keeps r p a (first_fault sd r p a) k
    (both_left (service_fits p) (user_data_fits r.edition a) h)
acts_keeps sd r TimerExpires k h j = excepts_keeps r true _ _ k
acts_keeps sd r UnrecoverableSystemError k h j = by_test Keeps (is_idle r.control) _ _
    (λ e. closes_keeps r None k refl) (λ e. excepts_keeps r true _ _ k)

-- with a dialogue number, refused or not
pub numbered_keeps : (sd : Side) (r : Record) (n : ℕ) (e : Event) (v : ℕ) → Coded r → JobLow e → Keeps (numbered_step sd r n e v)
unfolding numbered_step refusal_of
numbered_keeps sd r n e v k j =
    by_test Keeps (is_none (refusal_of sd r n e v)) _ _ (λ q. acts_keeps sd r e k (shaped (event_fits sd r.edition e) _ q) j) (λ q. record { coded = k; result = refl })
  where
    shaped : (s : Bool) (w : Option StepRefusal) → is_none (cond (not s) (Some Shape) w) ≡ true → s ≡ true
    shaped true w q = refl
    shaped false w q = never q
