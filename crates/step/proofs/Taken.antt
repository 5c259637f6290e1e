-- After a step of a dialogue that was taken no writer refuses the APDU and no store the record, and the primitive's parameters have room in the number. Of the
-- forward service nothing is said here.
-- Assumes nothing.
use mathlib.Core.Path.{◌≡◌, refl, sym, subst, ◌∙◌}
use mathlib.Core.Bool.{Bool, true, false, not, cond, ◌&&◌, ◌||◌}
use Prim.Native.Nat.{ℕ, ◌^◌, ◌≤◌, ◌<◌}
use native.Mathlib.Omega.{arith}
use borrow.Author.Tests.{ltb-true, le-leb}
use lib.Dec.{T, ltb, eqb}
use Rattle.words.proofs.Laws.{both_left, both_right}
use Rattle.fields.specs.Encodings.{whole_fits}
use Rattle.editions.specs.Editions.{secures, spares, user_reasons}
use Rattle.editions.specs.declared.Edition.{Edition}
use Rattle.editions.specs.declared.Edition.TheVariants.{Plain, Protected}
use Rattle.apdu.specs.Sizes.{provider_last}
use Rattle.apdu.specs.Encoding.{mode_fits}
use Rattle.codec.specs.Codec.{user_last}
use Rattle.machine.specs.Codes.{accepted, security_values, results, routing_classes}
use Rattle.control.specs.Control.{is_idle, takes, awaits_response, may_start}
use Rattle.control.proofs.Moves.{goes_awaits, after_awaits}
use Rattle.machine.specs.Record.{with_timer, with_user, with_job, with_request, enter}
use Rattle.machine.specs.UserData.{is_send, is_forward, is_response, mode_of, reason_of, is_user_abort}
use Rattle.machine.specs.Event.{is_dsc, has_mode, answer_fits, user_fits, event_fits}
use Rattle.machine.specs.Outcome.{is_none, refused}
use Rattle.machine.specs.Exceptions.{tell, closes, aborts, excepts, no_instruction, timer_expires, system_error}
use Rattle.machine.specs.Calls.{reply_of, sent, qos_asked, security_sent, unless_spared, start_request, start_response, message_request, end_request, end_response, reason_sent, user_abort, call_of, unsent, called}
use Rattle.machine.specs.Faults.{from_centre, indication_fault, first_fault}
use Rattle.machine.specs.Forwards.{forward_confirmed}
use Rattle.machine.specs.Primitives.{handed, abort_told, instructed, answered, reached}
use Rattle.machine.specs.Step.{permitted, message_refusal, refusal_of, acts, step}
use Rattle.clauses.proofs.Ways.{by_test, not_refused, send_there, start_there, forward_ground}
use Rattle.control.specs.declared.Side.{Side}
use Rattle.control.specs.declared.Side.TheVariants.{Air, Ground}
use Rattle.control.specs.declared.Call.{Call}
use Rattle.control.specs.declared.Call.TheVariants.{StartRequest, StartResponse, MessageRequest, EndRequest, EndResponse, UserAbort}
use Rattle.control.specs.declared.Primitive.{Primitive}
use Rattle.control.specs.declared.Primitive.TheVariants.{DStart, DStartCnf, DData, DEnd, DEndCnf}
use Rattle.machine.specs.declared.record.Record.{Record}
use Rattle.machine.specs.declared.event.UserData.{UserData}
use Rattle.machine.specs.declared.event.UserData.TheVariants.{Absent, NotValid, Start, Send, AbortUser, AbortProvider, Forward, ForwardResponse}
use Rattle.machine.specs.declared.event.UserPrimitive.{UserPrimitive}
use Rattle.machine.specs.declared.event.UserPrimitive.TheVariants.{StartServiceRequest, StartServiceResponse, MessageServiceRequest, EndServiceRequest, EndServiceResponse, UserAbortServiceRequest}
use Rattle.machine.specs.declared.event.ServicePrimitive.{ServicePrimitive}
use Rattle.machine.specs.declared.event.ServicePrimitive.TheVariants.{DStartIndication, DStartConfirmation, DDataIndication, DEndIndication, DEndConfirmation, DAbortIndication, DPAbortIndication}
use Rattle.machine.specs.declared.event.Event.{Event}
use Rattle.machine.specs.declared.event.Event.TheVariants.{User, Service, TimerExpires, UnrecoverableSystemError}
use Rattle.machine.specs.declared.event.Event.TheVariants.{Forward as ForwardRequested}
use Rattle.machine.specs.declared.faults.Fault.{Fault}
use Rattle.machine.specs.declared.faults.Fault.TheVariants.{NoInstruction, Quality, TurnedAway, Security, Missing, Invalid, NotPermitted}
use Rattle.machine.specs.declared.outcome.Invoked.{Invoked}
use Rattle.machine.specs.declared.outcome.Invoked.TheVariants.{DStartRequest, DStartResponse, DDataRequest, DEndRequest, DEndResponse, DAbortRequest, DStartForwardRequest, DStartForwardResponse}
use Rattle.machine.specs.declared.outcome.Told.{Told}
use Rattle.machine.specs.declared.outcome.Told.TheVariants.{StartIndication, StartConfirmation, MessageIndication, EndIndication, EndConfirmation, UserAbortIndication, ProviderAbortIndication, ForwardIndication, ForwardConfirmation}
use Rattle.machine.specs.declared.outcome.StepRefusal.TheVariants.{Stale}
use Rattle.machine.specs.declared.outcome.Outcome.{Outcome}
use Rattle.numbered.specs.Numbers.{is_stale, numbered_step}
use Rattle.numbered.proofs.Laws.{numbered_is}
use Rattle.packed.specs.Packed.{codes}
use Rattle.stored.specs.Stored.{flag}
use Rattle.step.specs.Call.{pdus_of, passes}
pub use Rattle.stored.proofs.Storing.{Coded}
use Rattle.std.specs.Prelude.{None, Option, Some}

-- ---- what is shown

-- an APDU of a dialogue that the side's writer takes, with message data that are within the sizes; or none, where it may be left out
abbrev pub writable : Edition → Side → UserData → Bool
writable ed sd Absent = spares ed
writable ed sd NotValid = false
writable ed sd (Start m) = mode_fits (pdus_of sd) (flag m)
writable ed sd Send = true
writable ed sd (AbortUser x) = whole_fits 0 (user_last ed) x
writable ed sd (AbortProvider x) = whole_fits 0 provider_last x
writable ed sd Forward = false
writable ed sd (ForwardResponse x) = false

-- message data travel in it
abbrev pub with_body : UserData → Bool
with_body Absent = false
with_body NotValid = false
with_body (Start m) = true
with_body Send = true
with_body (AbortUser x) = false
with_body (AbortProvider x) = false
with_body Forward = false
with_body (ForwardResponse x) = false

-- what an event brings: is it a user primitive, do message data that go out come with it, is it a message request, do they hold a message; the APDU of a
-- primitive
pub record Brings : Type 0 where
  pub user : Bool
  pub body : Bool
  pub message : Bool
  pub holds : Bool
  pub apdu : UserData

abbrev pub asks : Bool → Bool → Bool → Brings
asks b m h = record { user = true; body = b; message = m; holds = h; apdu = Absent }

abbrev pub hears : UserData → Brings
hears a = record { user = false; body = false; message = false; holds = false; apdu = a }

-- with a send, or without user data
abbrev pub answers : Edition → Bool → Brings
answers ed h = asks (with_body (unless_spared (spares ed) h)) false h

abbrev pub brings : Edition → Event → Brings
brings ed (User (StartServiceRequest m k s)) = asks true false false
brings ed (User (StartServiceResponse m x h)) = answers ed h
brings ed (User (MessageServiceRequest h j)) = asks true true h
brings ed (User (EndServiceRequest m h)) = answers ed h
brings ed (User (EndServiceResponse m x h)) = answers ed h
brings ed (User (UserAbortServiceRequest g x)) = asks false false false
brings ed (ForwardRequested k s) = asks false false false
brings ed (Service p a) = hears a
brings ed TimerExpires = hears Absent
brings ed UnrecoverableSystemError = hears Absent

-- a primitive that is invoked has such an APDU; a user primitive invokes one; where none is invoked there is no APDU
abbrev pub GoesOut : Edition → Bool → Side → Option Invoked → UserData → Type 0
GoesOut ed u sd None a = (u ≡ false) × (a ≡ Absent)
GoesOut ed u sd (Some (DStartRequest q s)) a = writable ed sd a ≡ true
GoesOut ed u sd (Some (DStartResponse x s)) a = writable ed sd a ≡ true
GoesOut ed u sd (Some DDataRequest) a = writable ed sd a ≡ true
GoesOut ed u sd (Some DEndRequest) a = writable ed sd a ≡ true
GoesOut ed u sd (Some (DEndResponse x)) a = writable ed sd a ≡ true
GoesOut ed u sd (Some (DAbortRequest o)) a = writable ed sd a ≡ true
GoesOut ed u sd (Some (DStartForwardRequest q s v)) a = ⊥
GoesOut ed u sd (Some (DStartForwardResponse s v)) a = ⊥

abbrev pub is_ddata : Option Invoked → Bool
is_ddata None = false
is_ddata (Some (DStartRequest q s)) = false
is_ddata (Some (DStartResponse x s)) = false
is_ddata (Some DDataRequest) = true
is_ddata (Some DEndRequest) = false
is_ddata (Some (DEndResponse x)) = false
is_ddata (Some (DAbortRequest o)) = false
is_ddata (Some (DStartForwardRequest q s v)) = false
is_ddata (Some (DStartForwardResponse s v)) = false

-- its parameter has room in four bits and its security value in one, and the quality of service that is not in the number is the right one
abbrev pub Roomy : Option Invoked → Type 0
Roomy None = Unit {0}
Roomy (Some (DStartRequest q s)) = (q ≡ qos_asked q.routing) × (q.routing < codes) × (s < 2)
Roomy (Some (DStartResponse x s)) = (x < codes) × (s < 2)
Roomy (Some DDataRequest) = Unit {0}
Roomy (Some DEndRequest) = Unit {0}
Roomy (Some (DEndResponse x)) = x < codes
Roomy (Some (DAbortRequest o)) = o < codes
Roomy (Some (DStartForwardRequest q s v)) = ⊥
Roomy (Some (DStartForwardResponse s v)) = ⊥

-- no message indication
abbrev pub quiet : Option Told → Bool
quiet None = true
quiet (Some (StartIndication m k)) = true
quiet (Some (StartConfirmation m x)) = true
quiet (Some MessageIndication) = false
quiet (Some (EndIndication m)) = true
quiet (Some (EndConfirmation m x)) = true
quiet (Some (UserAbortIndication x)) = true
quiet (Some (ProviderAbortIndication x)) = true
quiet (Some ForwardIndication) = true
quiet (Some (ForwardConfirmation x v)) = true

pub record Fit (ed : Edition) (sd : Side) (v : Brings) (o : Outcome) : Type 0 where
  pub coded : Coded o.next
  pub edition : o.next.edition ≡ ed
  pub apdu : GoesOut ed v.user sd o.invoked o.apdu
  -- message data go out where they came with the call
  pub body : with_body o.apdu ≡ v.body
  -- where user data may be left out, a send goes out with a message alone
  pub sends : spares ed ≡ true → is_send o.apdu ≡ true → v.holds ≡ true
  -- a D-DATA request is invoked by a message request, and by nothing else
  pub invokes : is_ddata o.invoked ≡ v.message
  pub roomy : Roomy o.invoked
  -- a message indication is told with the data of the send that was send_fault
  pub told : (quiet o.told || (o.delivers && is_send v.apdu)) ≡ true
  -- no forward is under way, and none is passed on
  pub dialogue : awaits_response o.next.control ≡ false
  pub plain : passes o.told ≡ false

-- an event of a dialogue: the job of a message request is a number of eight bytes; no forward is asked for, and no start comes from a centre
abbrev pub JobLow : Side → Event → Type 0
JobLow sd (User (StartServiceRequest m k s)) = Unit {0}
JobLow sd (User (StartServiceResponse m x h)) = Unit {0}
JobLow sd (User (MessageServiceRequest h j)) = j < 2 ^ 64
JobLow sd (User (EndServiceRequest m h)) = Unit {0}
JobLow sd (User (EndServiceResponse m x h)) = Unit {0}
JobLow sd (User (UserAbortServiceRequest g x)) = Unit {0}
JobLow sd (ForwardRequested k s) = ⊥
JobLow sd (Service (DStartIndication x s q v) a) = from_centre sd x ≡ false
JobLow sd (Service (DStartConfirmation x o s v) a) = Unit {0}
JobLow sd (Service DDataIndication a) = Unit {0}
JobLow sd (Service DEndIndication a) = Unit {0}
JobLow sd (Service (DEndConfirmation x) a) = Unit {0}
JobLow sd (Service (DAbortIndication o) a) = Unit {0}
JobLow sd (Service DPAbortIndication a) = Unit {0}
JobLow sd TimerExpires = Unit {0}
JobLow sd UnrecoverableSystemError = Unit {0}

-- a primitive of a dialogue
abbrev pub is_dialogue : Option Invoked → Bool
is_dialogue None = true
is_dialogue (Some (DStartRequest q s)) = true
is_dialogue (Some (DStartResponse x s)) = true
is_dialogue (Some DDataRequest) = true
is_dialogue (Some DEndRequest) = true
is_dialogue (Some (DEndResponse x)) = true
is_dialogue (Some (DAbortRequest o)) = true
is_dialogue (Some (DStartForwardRequest q s v)) = false
is_dialogue (Some (DStartForwardResponse s v)) = false

pub roomy_dialogue : (i : Option Invoked) → Roomy i → is_dialogue i ≡ true
roomy_dialogue None h = refl
roomy_dialogue (Some (DStartRequest q s)) h = refl
roomy_dialogue (Some (DStartResponse x s)) h = refl
roomy_dialogue (Some DDataRequest) h = refl
roomy_dialogue (Some DEndRequest) h = refl
roomy_dialogue (Some (DEndResponse x)) h = refl
roomy_dialogue (Some (DAbortRequest o)) h = refl
roomy_dialogue (Some (DStartForwardRequest q s v)) h = absurd h
roomy_dialogue (Some (DStartForwardResponse s v)) h = absurd h

-- ---- a primitive, an expiry, a system error

pub never : {A : Type 0} → false ≡ true → A
never e = absurd (subst T (sym e) tt)

module _ (sd : Side) (r : Record) (k : Coded r) (w : awaits_response r.control ≡ false) (a : UserData) where
  closed_fits : (t : Option Told) → quiet t ≡ true → passes t ≡ false → Fit r.edition sd (hears a) (closes r t)
  unfolding closes enter
  closed_fits t q z = record { coded = record { request = k.request; policy = k.policy; least = k.least; most = k.most; highest = k.highest }; edition = refl; apdu = (refl, refl); body = refl; sends = λ e f. never f; invokes = refl; roomy = tt; told = rw q; dialogue = refl; plain = z }

  aborted_fits : (p : ℕ) (t : Option Told) → whole_fits 0 provider_last p ≡ true → quiet t ≡ true → passes t ≡ false
      → Fit r.edition sd (hears a) (aborts r p t)
  unfolding aborts enter
  aborted_fits p t h q z = record { coded = record { request = k.request; policy = k.policy; least = k.least; most = k.most; highest = k.highest }; edition = refl; apdu = h; body = refl; sends = λ e f. never f; invokes = refl; roomy = omega arith; told = rw q; dialogue = refl; plain = z }

  tell_quiet : (t : Option Told) → quiet t ≡ true → quiet (tell r t) ≡ true
  unfolding tell
  tell_quiet t q = by_test (λ (x : Option Told). quiet x ≡ true) r.active t None (λ e. q) (λ e. refl)

  tell_plain : (t : Option Told) → passes t ≡ false → passes (tell r t) ≡ false
  unfolding tell
  tell_plain t q = by_test (λ (x : Option Told). passes x ≡ false) r.active t None (λ e. q) (λ e. refl)

  except_fits : (o : Bool) (p s : ℕ) → whole_fits 0 provider_last p ≡ true → Fit r.edition sd (hears a) (excepts r o p s)
  unfolding excepts
  except_fits true p s h = aborted_fits p _ h (tell_quiet (Some (ProviderAbortIndication s)) refl) (tell_plain (Some (ProviderAbortIndication s)) refl)
  except_fits false p s h = closed_fits _ (tell_quiet (Some (ProviderAbortIndication s)) refl) (tell_plain (Some (ProviderAbortIndication s)) refl)

  none_fits : (x : Bool) → Fit r.edition sd (hears a) (no_instruction r x)
  unfolding no_instruction
  none_fits x = by_test (Fit r.edition sd (hears a)) (is_idle r.control) _ _ (λ e. closed_fits None refl refl)
      (λ e. except_fits x _ _ refl)

  handed_fits : (p : Primitive) (t : Option Told) → (quiet t || is_send a) ≡ true → passes t ≡ false → Fit r.edition sd (hears a) (handed r p t)
  unfolding handed enter
  handed_fits p t q z = record { coded = record { request = k.request; policy = k.policy; least = k.least; most = k.most; highest = k.highest }; edition = refl; apdu = (refl, refl); body = refl; sends = λ e f. never f; invokes = refl; roomy = tt; told = q; dialogue = after_awaits r.control p w; plain = z }

  either_way : (b : Bool) → (b || true) ≡ true
  either_way true = refl
  either_way false = refl

same_coded : (r : Record) (on : Bool) → Coded r → Coded (with_user r on) × Coded (with_timer r on)
same_coded r on k = (record { request = k.request; policy = k.policy; least = k.least; most = k.most; highest = k.highest }, record { request = k.request; policy = k.policy; least = k.least; most = k.most; highest = k.highest })

abort_quiet : (a : UserData) → quiet (abort_told a) ≡ true
abort_quiet a = by_test (λ (t : Option Told). quiet t ≡ true) (is_user_abort a) _ _ (λ e. refl) (λ e. refl)

abort_plain : (a : UserData) → passes (abort_told a) ≡ false
abort_plain a = by_test (λ (t : Option Told). passes t ≡ false) (is_user_abort a) _ _ (λ e. refl) (λ e. refl)

module _ (sd : Side) (r : Record) (k : Coded r) (w : awaits_response r.control ≡ false) where
  answered_fits : (p : ServicePrimitive) (a : UserData) (f : Option Fault)
      → (f ≡ None → Fit r.edition sd (hears a) (instructed r p a))
      → Fit r.edition sd (hears a) (answered r p a f)
  unfolding answered
  answered_fits p a None i = i refl
  answered_fits p a (Some (NoInstruction live)) i = none_fits sd r k w a live
  answered_fits p a (Some Quality) i = aborted_fits sd r k w a _ None refl refl refl
  answered_fits p a (Some TurnedAway) i = closed_fits sd r k w a _ (tell_quiet sd r k w a _ refl) (tell_plain sd r k w a _ refl)
  answered_fits p a (Some (Security live)) i = except_fits sd r k w a live _ _ refl
  answered_fits p a (Some Missing) i = except_fits sd r k w a true _ _ refl
  answered_fits p a (Some (Invalid live)) i = except_fits sd r k w a live _ _ refl
  answered_fits p a (Some (NotPermitted live)) i = except_fits sd r k w a live _ _ refl

  confirmed_fits : (a : UserData) (x v : ℕ) → Fit r.edition sd (hears a) (forward_confirmed r x v)
  unfolding forward_confirmed
  confirmed_fits a x v = closed_fits sd (with_timer r false) (same_coded r false k).1 w a (Some (ForwardConfirmation x v)) refl refl

  -- without a fault, what a D-DATA indication tells is with a send
  instructed_fits : (p : ServicePrimitive) (a : UserData) → JobLow sd (Service p a) → first_fault sd r p a ≡ None
      → Fit r.edition sd (hears a) (instructed r p a)
  unfolding instructed first_fault
  instructed_fits (DStartIndication x s q v) a b e =
      let i = start_there sd r x s q a e in
      by_test (Fit r.edition sd (hears a)) (is_forward a) _ _ (λ y. never (sym b ∙ forward_ground sd r x a i.fits y))
      (λ n. handed_fits sd (with_user r true) (same_coded r true k).0 w a (DStart (mode_of a)) _ refl refl)
  instructed_fits (DStartConfirmation x o s v) a b e =
      by_test (Fit r.edition sd (hears a)) (is_response a) _ _ (λ y. confirmed_fits a (reason_of a) v)
      (λ n. handed_fits sd (with_timer r false) (same_coded r false k).1 w a (DStartCnf (reply_of x)) _ refl refl)
  instructed_fits DDataIndication a b e = handed_fits sd r k w a DData (Some MessageIndication) (send_there sd r DData true a e) refl
  instructed_fits DEndIndication a b e = handed_fits sd r k w a DEnd _ refl refl
  instructed_fits (DEndConfirmation x) a b e = handed_fits sd r k w a (DEndCnf (reply_of x)) _ refl refl
  instructed_fits (DAbortIndication o) a b e = closed_fits sd r k w a _
      (tell_quiet sd r k w a (abort_told a) (abort_quiet a)) (tell_plain sd r k w a (abort_told a) (abort_plain a))
  instructed_fits DPAbortIndication a b e = closed_fits sd r k w a _ (tell_quiet sd r k w a _ refl) (tell_plain sd r k w a _ refl)

  reached_fits : (p : ServicePrimitive) (a : UserData) → JobLow sd (Service p a) → Fit r.edition sd (hears a) (reached sd r p a)
  unfolding reached
  reached_fits p a b = answered_fits p a (first_fault sd r p a) (instructed_fits p a b)

  -- ---- a user primitive

  -- only the air starts in mode dsc
  start_writable : (s : Side) (m i : Bool) → (i && may_start s m) ≡ true → mode_fits (pdus_of s) (flag m) ≡ true
  unfolding mode_fits
  start_writable Air true i e = refl
  start_writable Air false i e = refl
  start_writable Ground true true e = never e
  start_writable Ground true false e = never e
  start_writable Ground false i e = refl

  reason_low : (ed : Edition) (g : Bool) (x : ℕ) → x < user_reasons ed → reason_sent g x ≤ user_last ed
  reason_low Plain true x h = omega arith
  reason_low Plain false x h = omega arith
  reason_low Protected true x h = omega arith
  reason_low Protected false x h = omega arith

  -- a value that is sent is one of two
  security_low : (compared : Bool) (s : ℕ) → s < security_values → security_sent compared s < security_values
  security_low true s h = h
  security_low false s h = omega arith

  -- with a send, or without user data where they may be left out
  spared_writable : (ed : Edition) (h : Bool) → writable ed sd (unless_spared (spares ed) h) ≡ true
  spared_writable Plain true = refl
  spared_writable Plain false = refl
  spared_writable Protected h = refl

  spared_sends : (ed : Edition) (h : Bool) → spares ed ≡ true → is_send (unless_spared (spares ed) h) ≡ true → h ≡ true
  spared_sends Plain true e f = refl
  spared_sends Plain false e f = never f
  spared_sends Protected h e f = never e

  message_there : (h : Bool) (j : ℕ) → is_none (unsent r.highest (MessageServiceRequest h j)) ≡ true → h ≡ true
  unfolding unsent
  message_there true j e = refl
  message_there false j e = never e

  sent_fits : (q : Record) (c : Call) (i : Option Invoked) (a : UserData) (m h : Bool) → Coded q → q.edition ≡ r.edition
      → awaits_response q.control ≡ false → GoesOut r.edition true sd i a
      → (spares r.edition ≡ true → is_send a ≡ true → h ≡ true) → is_ddata i ≡ m → Roomy i
      → Fit r.edition sd (asks (with_body a) m h) (sent q c i a)
  unfolding sent enter
  sent_fits q c i a m h kq ed z g s d n = record { coded = record { request = kq.request; policy = kq.policy; least = kq.least; most = kq.most; highest = kq.highest }; edition = ed; apdu = g; body = refl; sends = s; invokes = d; roomy = n; told = refl; dialogue = goes_awaits q.control c z; plain = refl }

  called_fits : (u : UserPrimitive) → user_fits sd r.edition u ≡ true → takes sd r.control (call_of u) ≡ true
      → is_none (unsent r.highest u) ≡ true → JobLow sd (User u)
      → Fit r.edition sd (brings r.edition (User u)) (called r u)
  unfolding called call_of unsent user_fits start_request start_response message_request end_request end_response user_abort
  called_fits (StartServiceRequest m c s) h t n j =
      let codes = both_right (has_mode sd m) (ltb c routing_classes && ltb s security_values) h in
      let hc = ltb-true c routing_classes (both_left (ltb c routing_classes) (ltb s security_values) codes) in
      let hs = security_low (secures r.edition) s
      (ltb-true s security_values (both_right (ltb c routing_classes) (ltb s security_values) codes)) in
      sent_fits (with_request (with_user (with_timer r true) true) (security_sent (secures r.edition) s)) (StartRequest (is_dsc m)) _ _ false false (record { request = hs; policy = k.policy; least = k.least; most = k.most; highest = k.highest }) refl w (start_writable sd (is_dsc m) (is_idle r.control) t) (λ e f. never f) refl (refl, omega arith, hs)
  called_fits (StartServiceResponse m x g) h t n j =
      let hx = ltb-true x results (both_right (not (spares r.edition && (eqb x accepted && g))) (ltb x results) h) in
      let hp = security_low (secures r.edition) r.policy k.policy in
      sent_fits r (StartResponse m (reply_of x)) _ _ false g k refl w (spared_writable r.edition g)
      (spared_sends r.edition g) refl (omega arith, hp)
  called_fits (MessageServiceRequest b i) h t n j = sent_fits (with_job r i) MessageRequest _ _ true b (record { request = k.request; policy = k.policy; least = k.least; most = k.most; highest = j }) refl w refl (λ e f. message_there b i n) refl tt
  called_fits (EndServiceRequest m g) h t n j = sent_fits r (EndRequest m) _ _ false g k refl w
      (spared_writable r.edition g) (spared_sends r.edition g) refl tt
  called_fits (EndServiceResponse m x g) h t n j =
      let hx = ltb-true x results h in
      sent_fits r (EndResponse m (reply_of x)) _ _ false g k refl w (spared_writable r.edition g)
      (spared_sends r.edition g) refl (omega arith)
  called_fits (UserAbortServiceRequest g x) h t n j =
      let hx = reason_low r.edition g x (ltb-true x (user_reasons r.edition) h) in
      sent_fits r UserAbort _ _ false false k refl w
      (rw (le-leb 0 (reason_sent g x) (omega arith), le-leb (reason_sent g x) (user_last r.edition) hx))
      (λ e f. never f) refl (omega arith)

  acts_fits : (e : Event) → event_fits sd r.edition e ≡ true → permitted sd r e ≡ true
      → is_none (message_refusal r e) ≡ true → JobLow sd e → Fit r.edition sd (brings r.edition e) (acts sd r e)
  unfolding acts event_fits permitted message_refusal timer_expires system_error
  acts_fits (User u) h t n j = called_fits u h t n j
  acts_fits (ForwardRequested c s) h t n j = absurd j
  acts_fits (Service p a) h t n j = reached_fits p a j
  acts_fits TimerExpires h t n j = except_fits sd r k w Absent true _ _ refl
  acts_fits UnrecoverableSystemError h t n j = by_test (Fit r.edition sd (hears Absent)) (is_idle r.control) _ _
      (λ e. closed_fits sd r k w Absent None refl refl) (λ e. except_fits sd r k w Absent true _ _ refl)

  -- whatever is taken
  pub step_fits : (e : Event) → JobLow sd e → is_none (step sd r e).refusal ≡ true
      → Fit r.edition sd (brings r.edition e) (step sd r e)
  unfolding step refusal_of
  step_fits e j n = go (is_none (refusal_of sd r e)) refl n
    where
      go : (b : Bool) → is_none (refusal_of sd r e) ≡ b
          → is_none (cond b (acts sd r e) (refused (refusal_of sd r e) r)).refusal ≡ true
          → Fit r.edition sd (brings r.edition e) (cond b (acts sd r e) (refused (refusal_of sd r e) r))
      go true q n =
          let v = not_refused (event_fits sd r.edition e) (permitted sd r e) (message_refusal r e) q in acts_fits e
          v.0 v.1.0 v.1.1 j
      go false q n = never (sym q ∙ n)

  -- with a dialogue number
  pub numbered_fits : (n : ℕ) (e : Event) (v : ℕ) → JobLow sd e → is_none (numbered_step sd r n e v).refusal ≡ true
      → Fit r.edition sd (brings r.edition e) (numbered_step sd r n e v)
  numbered_fits n e v j = subst
      (λ (o : Outcome). is_none o.refusal ≡ true → Fit r.edition sd (brings r.edition e) o)
      (sym (numbered_is sd r n e v)) (go (event_fits sd r.edition e && is_stale n e v))
    where
      go : (t : Bool) → is_none (cond t (refused (Some Stale) r) (step sd r e)).refusal ≡ true
          → Fit r.edition sd (brings r.edition e) (cond t (refused (Some Stale) r) (step sd r e))
      go true x = never x
      go false x = step_fits e j x
