-- What the outcome of an event sends, tells and delivers, by what came with it.
-- Assumes nothing.
use mathlib.Core.Path.{◌≡◌, refl, sym, ◌∙◌}
use mathlib.Core.Bool.{Bool, true, false, not, cond, ◌&&◌, ◌||◌}
use Prim.Native.Nat.{ℕ}
use borrow.Author.Tests.{not-false}
use lib.Dec.{eqb}
use Rattle.words.proofs.Laws.{both_left, both_right}
use Rattle.editions.specs.Editions.{secures, spares}
use Rattle.editions.specs.declared.Edition.{Edition}
use Rattle.clauses.proofs.Ways.{by_test}
use Rattle.control.specs.Control.{is_idle, awaits_response, expects}
use Rattle.control.specs.declared.Side.{Side}
use Rattle.control.specs.declared.Primitive.{Primitive}
use Rattle.control.specs.declared.Primitive.TheVariants.{DStart, DStartCnf, DData, DEnd, DEndCnf, DAbort, DPAbort}
use Rattle.machine.specs.Calls.{sent, unless_spared, start_request, start_response, message_request, end_request, end_response, user_abort, called, reply_of}
use Rattle.machine.specs.Codes.{accepted}
use Rattle.machine.specs.Event.{qos_fits}
use Rattle.machine.specs.Exceptions.{closes, aborts, excepts, no_instruction, tell, timer_expires, system_error}
use Rattle.machine.specs.Faults.{differs, send_allowed, pdu_fault, send_fault, abort_fault, peer_fits, from_centre, start_fits_of, turned_away, indication_fault, response_fault, confirmation_fault, first_fault}
use Rattle.machine.specs.Forwards.{responds, forward_request, forward_arrives, forward_confirmed}
use Rattle.machine.specs.Outcome.{is_none, refused}
use Rattle.machine.specs.Primitives.{handed, instructed, answered, reached, abort_told}
use Rattle.machine.specs.Step.{permitted, message_refusal, refusal_fitting, acts, step_fitting}
use Rattle.machine.specs.UserData.{is_missing, is_invalid, is_start_pdu, is_send, is_user_abort, is_forward, is_response, mode_of, abort_fits}
use Rattle.machine.specs.declared.record.Record.{Record}
use Rattle.machine.specs.declared.event.Qos.{Qos}
use Rattle.machine.specs.declared.event.UserData.{UserData}
use Rattle.machine.specs.declared.event.UserPrimitive.{UserPrimitive}
use Rattle.machine.specs.declared.event.UserPrimitive.TheVariants.{StartServiceRequest, StartServiceResponse, MessageServiceRequest, EndServiceRequest, EndServiceResponse, UserAbortServiceRequest}
use Rattle.machine.specs.declared.event.ServicePrimitive.{ServicePrimitive}
use Rattle.machine.specs.declared.event.ServicePrimitive.TheVariants.{DStartIndication, DStartConfirmation, DDataIndication, DEndIndication, DEndConfirmation, DAbortIndication, DPAbortIndication}
use Rattle.machine.specs.declared.event.Event.TheVariants.{User, Forward, Service}
use Rattle.machine.specs.declared.faults.Fault.{Fault}
use Rattle.machine.specs.declared.faults.Fault.TheVariants.{NoInstruction, Quality, TurnedAway, Security, Missing, Invalid, NotPermitted}
use Rattle.machine.specs.declared.outcome.Outcome.{Outcome}
use Rattle.machine.specs.declared.outcome.Told.{Told}
use Rattle.machine.specs.declared.outcome.Told.TheVariants.{UserAbortIndication, ProviderAbortIndication}
use Rattle.numbered.specs.Numbers.{refusal_of, numbered_step}
use Rattle.step.specs.Call.{passes}
use Rattle.step.specs.Handing.{is_given, is_reply, host_event}
use Rattle.step.proofs.Taken.{never}
use Rattle.std.specs.Prelude.{None, Option, Some}
use Rattle.step.specs.declared.call.HostEvent.{HostEvent}
use Rattle.step.specs.declared.call.HostEvent.TheVariants as host

-- ---- nothing is handed on

pub record Quiet (o : Outcome) : Type 0 where
  pub told : passes o.told ≡ false
  pub delivers : o.delivers ≡ false

provider_quiet : (t : Bool) (x : ℕ) → passes (cond t (Some (ProviderAbortIndication x)) None) ≡ false
provider_quiet true x = refl
provider_quiet false x = refl

abort_quiet : (t u : Bool) (x y : ℕ) → passes (cond t (cond u (Some (UserAbortIndication x)) (Some (ProviderAbortIndication y))) None) ≡ false
abort_quiet true true x y = refl
abort_quiet true false x y = refl
abort_quiet false u x y = refl

excepts_quiet : (r : Record) (t : Bool) (p s : ℕ) → Quiet (excepts r t p s)
unfolding excepts aborts closes tell
excepts_quiet r true p s = record { told = provider_quiet r.active s; delivers = refl }
excepts_quiet r false p s = record { told = provider_quiet r.active s; delivers = refl }

is_fault : Option Fault → Bool
is_fault None = false
is_fault (Some (NoInstruction live)) = true
is_fault (Some Quality) = true
is_fault (Some TurnedAway) = true
is_fault (Some (Security live)) = true
is_fault (Some Missing) = true
is_fault (Some (Invalid live)) = true
is_fault (Some (NotPermitted live)) = true

fault_quiet : (r : Record) (p : ServicePrimitive) (a : UserData) (f : Option Fault) → is_fault f ≡ true → Quiet (answered r p a f)
unfolding is_fault answered no_instruction aborts closes tell
fault_quiet r p a None h = never h
fault_quiet r p a (Some (NoInstruction live)) h = by_test Quiet (is_idle r.control) _ _ (λ e. record { told = refl; delivers = refl }) (λ e. excepts_quiet r live _ _)
fault_quiet r p a (Some Quality) h = record { told = refl; delivers = refl }
fault_quiet r p a (Some TurnedAway) h = record { told = provider_quiet r.active _; delivers = refl }
fault_quiet r p a (Some (Security live)) h = excepts_quiet r live _ _
fault_quiet r p a (Some Missing) h = excepts_quiet r true _ _
fault_quiet r p a (Some (Invalid live)) h = excepts_quiet r live _ _
fault_quiet r p a (Some (NotPermitted live)) h = excepts_quiet r live _ _

-- ---- a forward message is handed on of a forward alone, message data of a start or a send alone; or there are none, where user data may be left out

abbrev pub has_body : Edition → UserData → Bool
has_body ed a = is_start_pdu a || (is_send a || (is_missing a && spares ed))

pub record Hands (ed : Edition) (a : UserData) (o : Outcome) : Type 0 where
  pub forward : passes o.told ≡ true → is_forward a ≡ true
  pub body : o.delivers ≡ true → has_body ed a ≡ true

quiet_hands : (ed : Edition) (a : UserData) (o : Outcome) → Quiet o → Hands ed a o
quiet_hands ed a o q = record { forward = λ e. never (sym q.told ∙ e); body = λ e. never (sym q.delivers ∙ e) }

or_true : (t : Bool) → (t || true) ≡ true
or_true true = refl
or_true false = refl

module _ (sd : Side) (r : Record) (a : UserData) where
  abbrev Fine : ServicePrimitive → Option Fault → Type 0
  Fine p f = Hands r.edition a (answered r p a f)

  fault : (p : ServicePrimitive) (f : Option Fault) → is_fault f ≡ true → Fine p f
  fault p f h = quiet_hands r.edition a (answered r p a f) (fault_quiet r p a f h)

  pdu_fine : (p : ServicePrimitive) (may fits i u : Bool) (behind : Option Fault)
      → ((is_missing a && may) ≡ true → Fine p behind) → (fits ≡ true → Fine p behind)
      → Fine p (pdu_fault may fits i u a behind)
  unfolding is_fault pdu_fault
  pdu_fine p may fits i u behind n k =
      by_test (Fine p) (is_missing a) _ _ (λ e. by_test (Fine p) may _ _ (λ g. n (rw (e, g))) (λ g. fault p (Some Missing) refl))
      (λ e. by_test (Fine p) (is_invalid a) _ _ (λ g. fault p (Some (Invalid i)) refl)
      (λ g. by_test (Fine p) (not fits) _ _ (λ h. fault p (Some (NotPermitted u)) refl) (λ h. k (not-false fits h))))

  handed_hands : (q : Record) (x : Primitive) (t : Option Told) → passes t ≡ false → has_body r.edition a ≡ true
      → Hands r.edition a (handed q x t)
  unfolding handed
  handed_hands q x t n m = record { forward = λ e. never (sym n ∙ e); body = λ e. m }

  start_body : is_start_pdu a ≡ true → has_body r.edition a ≡ true
  start_body h = rw h

  send_body : is_send a ≡ true → has_body r.edition a ≡ true
  send_body h = rw h (or_true (is_start_pdu a))

  none_body : (is_missing a && spares r.edition) ≡ true → has_body r.edition a ≡ true
  none_body h = rw h (rw (or_true (is_send a)) (or_true (is_start_pdu a)))

  send_fine : (p : ServicePrimitive) (q : Primitive) (may live : Bool) → ((is_missing a && may) ≡ true → Fine p None)
      → (is_send a ≡ true → Fine p None) → Fine p (send_fault sd r q may live a)
  unfolding is_fault send_fault
  send_fine p q may live n k = by_test (Fine p) (not (expects sd r.control q)) _ _
      (λ e. fault p (Some (NoInstruction true)) refl) (λ e. pdu_fine p may (is_send a) live live None n k)

  abort_fine : (p : ServicePrimitive) (q : Primitive) (fits : Bool) → Fine p None → Fine p (abort_fault sd r q fits)
  unfolding is_fault abort_fault
  abort_fine p q fits k =
      by_test (Fine p) (not (expects sd r.control q)) _ _ (λ e. fault p (Some (NoInstruction false)) refl)
      (λ e. by_test (Fine p) (not fits) _ _ (λ g. fault p (Some (NoInstruction false)) refl) (λ g. k))

  arrives : (s v : ℕ) → is_forward a ≡ true → Hands r.edition a (forward_arrives r s v)
  unfolding forward_arrives responds
  arrives s v h =
      by_test (Hands r.edition a) (not r.forwards) _ _ (λ e. record { forward = λ f. h; body = λ f. never f })
      (λ e. by_test (Hands r.edition a) (eqb v r.version) _ _ (λ g. record { forward = λ f. h; body = λ f. never f }) (λ g. record { forward = λ f. h; body = λ f. never f }))

  starts : (x : ℕ) → start_fits_of sd r x a ≡ true → is_forward a ≡ false → is_start_pdu a ≡ true
  unfolding start_fits_of
  starts x f n = go (from_centre sd x) f
    where
      go : (t : Bool) → cond t (is_forward a) (is_start_pdu a && expects sd r.control (DStart (mode_of a))) ≡ true → is_start_pdu a ≡ true
      go true e = never (sym n ∙ e)
      go false e = both_left (is_start_pdu a) (expects sd r.control (DStart (mode_of a))) e

  module _ (x s : ℕ) (q : Qos) (v : ℕ) where
    abbrev start : ServicePrimitive
    start = DStartIndication x s q v

    indicated : start_fits_of sd r x a ≡ true → Fine start None
    unfolding answered instructed
    indicated f = by_test (Hands r.edition a) (is_forward a) _ _ (λ e. arrives s v e)
        (λ e. handed_hands _ _ _ refl (start_body (starts x f e)))

    indication_fine : Fine start (indication_fault sd r x s q a)
    unfolding is_fault indication_fault
    indication_fine =
        by_test (Fine start) (not (is_idle r.control)) _ _ (λ e. fault start (Some (NoInstruction true)) refl)
        (λ e. by_test (Fine start) (not (qos_fits q)) _ _ (λ f. fault start (Some Quality) refl)
        (λ f. by_test (Fine start) (differs (secures r.edition) s r.policy) _ _ (λ g. fault start (Some (Security true)) refl)
        (λ g. pdu_fine start false (start_fits_of sd r x a) true true (cond (peer_fits sd x) None (Some (NoInstruction true))) (λ h. never (both_right (is_missing a) false h))
        (λ h. by_test (Fine start) (peer_fits sd x) _ _ (λ k. indicated h) (λ k. fault start (Some (NoInstruction true)) refl)))))

  module _ (x o s v : ℕ) where
    abbrev confirmation : ServicePrimitive
    confirmation = DStartConfirmation x o s v

    of_body : has_body r.edition a ≡ true → Fine confirmation None
    unfolding answered instructed forward_confirmed closes
    of_body h = by_test (Hands r.edition a) (is_response a) _ _ (λ e. quiet_hands r.edition a _ (record { told = refl; delivers = refl })) (λ e. handed_hands _ _ _ refl h)

    of_send : is_send a ≡ true → Fine confirmation None
    of_send h = of_body (send_body h)

    of_none : (is_missing a && spares r.edition) ≡ true → Fine confirmation None
    of_none h = of_body (none_body h)

    of_response : is_response a ≡ true → Fine confirmation None
    unfolding answered instructed forward_confirmed closes
    of_response h = by_test (Hands r.edition a) (is_response a) _ _ (λ e. quiet_hands r.edition a _ (record { told = refl; delivers = refl })) (λ e. never (sym e ∙ h))

    response_fine : Fine confirmation (response_fault r x o s a)
    unfolding is_fault response_fault
    response_fine =
        by_test (Fine confirmation) (turned_away x o) _ _ (λ e. fault confirmation (Some TurnedAway) refl)
        (λ e. by_test (Fine confirmation) (differs (secures r.edition) s r.request) _ _ (λ f. fault confirmation (Some (Security (eqb x accepted))) refl)
        (λ f. by_test (Fine confirmation) (eqb x accepted) _ _ (λ g. pdu_fine confirmation false false true true None
        (λ h. never (both_right (is_missing a) false h)) (λ h. never h)) (λ g. pdu_fine confirmation false
        (is_response a) false true None (λ h. never (both_right (is_missing a) false h)) of_response)))

    confirmation_fine : Fine confirmation (confirmation_fault sd r x o s a)
    unfolding is_fault confirmation_fault
    confirmation_fine =
        by_test (Fine confirmation) (not (expects sd r.control (DStartCnf (reply_of x)))) _ _
        (λ e. by_test (Fine confirmation) (awaits_response r.control) _ _ (λ f. response_fine)
        (λ f. fault confirmation (Some (NoInstruction true)) refl))
        (λ e. by_test (Fine confirmation) (turned_away x o) _ _ (λ f. fault confirmation (Some TurnedAway) refl)
        (λ f. by_test (Fine confirmation) (differs (secures r.edition) s r.request) _ _ (λ g. fault confirmation (Some (Security (eqb x accepted))) refl)
        (λ g. pdu_fine confirmation (spares r.edition) (send_allowed (spares r.edition) (eqb x accepted) a) (eqb x accepted) true None of_none
        (λ h. of_send (both_right (not (spares r.edition && eqb x accepted)) (is_send a) h)))))

  first_fine : (p : ServicePrimitive) → Fine p (first_fault sd r p a)
  unfolding first_fault answered instructed closes tell
  first_fine (DStartIndication x s q v) = indication_fine x s q v
  first_fine (DStartConfirmation x o s v) = confirmation_fine x o s v
  first_fine DDataIndication = send_fine DDataIndication DData false true
      (λ h. never (both_right (is_missing a) false h)) (λ h. handed_hands _ _ _ refl (send_body h))
  first_fine DEndIndication = send_fine DEndIndication DEnd (spares r.edition) true
      (λ h. handed_hands _ _ _ refl (none_body h)) (λ h. handed_hands _ _ _ refl (send_body h))
  first_fine (DEndConfirmation x) = send_fine (DEndConfirmation x) (DEndCnf (reply_of x)) (spares r.edition)
      (not (eqb x accepted)) (λ h. handed_hands _ _ _ refl (none_body h)) (λ h. handed_hands _ _ _ refl (send_body h))
  first_fine (DAbortIndication o) = abort_fine (DAbortIndication o) DAbort (abort_fits o a) (quiet_hands r.edition a _ (record { told = abort_quiet r.active (is_user_abort a) _ _; delivers = refl }))
  first_fine DPAbortIndication = abort_fine DPAbortIndication DPAbort true (quiet_hands r.edition a _ (record { told = provider_quiet r.active _; delivers = refl }))

  pub service_hands : (p : ServicePrimitive) → Hands r.edition a (step_fitting sd r (Service p a))
  unfolding step_fitting refusal_fitting permitted message_refusal acts reached
  service_hands p = first_fine p

-- ---- what answers a primitive of the dialogue service: an abort, a forward's response, or nothing

abbrev Replies : Outcome → Type 0
Replies o = is_reply o.apdu ≡ true

excepts_replies : (r : Record) (t : Bool) (p s : ℕ) → Replies (excepts r t p s)
unfolding excepts aborts closes
excepts_replies r true p s = refl
excepts_replies r false p s = refl

arrives_replies : (r : Record) (s v : ℕ) → Replies (forward_arrives r s v)
unfolding forward_arrives responds
arrives_replies r s v = by_test Replies (not r.forwards) _ _ (λ e. refl)
    (λ e. by_test Replies (eqb v r.version) _ _ (λ f. refl) (λ f. refl))

instructed_replies : (r : Record) (p : ServicePrimitive) (a : UserData) → Replies (instructed r p a)
unfolding instructed handed closes forward_confirmed
instructed_replies r (DStartIndication x s q v) a = by_test Replies (is_forward a) _ _ (λ e. arrives_replies r s v) (λ e. refl)
instructed_replies r (DStartConfirmation x o s v) a = by_test Replies (is_response a) _ _ (λ e. refl) (λ e. refl)
instructed_replies r DDataIndication a = refl
instructed_replies r DEndIndication a = refl
instructed_replies r (DEndConfirmation x) a = refl
instructed_replies r (DAbortIndication o) a = refl
instructed_replies r DPAbortIndication a = refl

answered_replies : (r : Record) (p : ServicePrimitive) (a : UserData) (f : Option Fault) → Replies (answered r p a f)
unfolding answered no_instruction aborts closes
answered_replies r p a None = instructed_replies r p a
answered_replies r p a (Some (NoInstruction live)) = by_test Replies (is_idle r.control) _ _ (λ e. refl) (λ e. excepts_replies r live _ _)
answered_replies r p a (Some Quality) = refl
answered_replies r p a (Some TurnedAway) = refl
answered_replies r p a (Some (Security live)) = excepts_replies r live _ _
answered_replies r p a (Some Missing) = excepts_replies r true _ _
answered_replies r p a (Some (Invalid live)) = excepts_replies r live _ _
answered_replies r p a (Some (NotPermitted live)) = excepts_replies r live _ _

pub service_replies : (sd : Side) (r : Record) (p : ServicePrimitive) (a : UserData) → is_reply (step_fitting sd r (Service p a)).apdu ≡ true
unfolding step_fitting refusal_fitting permitted message_refusal acts reached
service_replies sd r p a = answered_replies r p a (first_fault sd r p a)

-- ---- an expiry, a system error

host_acts : (sd : Side) (r : Record) (t : HostEvent) → (Replies (acts sd r (host_event t))) × (Quiet (acts sd r (host_event t)))
unfolding acts timer_expires system_error closes
host_acts sd r host.TimerExpires = (excepts_replies r true _ _, excepts_quiet r true _ _)
host_acts sd r host.SystemError =
    (by_test Replies (is_idle r.control) _ _ (λ e. refl) (λ e. excepts_replies r true _ _), by_test Quiet (is_idle r.control) _ _ (λ e. record { told = refl; delivers = refl }) (λ e. excepts_quiet r true _ _))

pub host_replies : (sd : Side) (r : Record) (t : HostEvent) → is_reply (step_fitting sd r (host_event t)).apdu ≡ true
unfolding step_fitting
host_replies sd r t = by_test Replies (is_none (refusal_fitting sd r (host_event t))) _ _ (λ e. (host_acts sd r t).0) (λ e. refl)

pub host_quiet : (sd : Side) (r : Record) (t : HostEvent) → Quiet (step_fitting sd r (host_event t))
unfolding step_fitting
host_quiet sd r t = by_test Quiet (is_none (refusal_fitting sd r (host_event t))) _ _ (λ e. (host_acts sd r t).1) (λ e. record { told = refl; delivers = refl })

-- ---- a user primitive, a forward request

spared_given : (may h : Bool) → is_given (unless_spared may h) ≡ true
spared_given true true = refl
spared_given true false = refl
spared_given false h = refl

called_given : (r : Record) (u : UserPrimitive) → is_given (called r u).apdu ≡ true
unfolding called start_request start_response message_request end_request end_response user_abort sent
called_given r (StartServiceRequest m k s) = refl
called_given r (StartServiceResponse m x h) = spared_given (spares r.edition) h
called_given r (MessageServiceRequest h j) = refl
called_given r (EndServiceRequest m h) = spared_given (spares r.edition) h
called_given r (EndServiceResponse m x h) = spared_given (spares r.edition) h
called_given r (UserAbortServiceRequest g x) = refl

called_quiet : (r : Record) (u : UserPrimitive) → Quiet (called r u)
unfolding called start_request start_response message_request end_request end_response user_abort sent
called_quiet r (StartServiceRequest m k s) = record { told = refl; delivers = refl }
called_quiet r (StartServiceResponse m x h) = record { told = refl; delivers = refl }
called_quiet r (MessageServiceRequest h j) = record { told = refl; delivers = refl }
called_quiet r (EndServiceRequest m h) = record { told = refl; delivers = refl }
called_quiet r (EndServiceResponse m x h) = record { told = refl; delivers = refl }
called_quiet r (UserAbortServiceRequest g x) = record { told = refl; delivers = refl }

pub user_given : (sd : Side) (r : Record) (n : ℕ) (u : UserPrimitive) (v : ℕ) → is_given (numbered_step sd r n (User u) v).apdu ≡ true
unfolding numbered_step acts
user_given sd r n u v = by_test (λ (o : Outcome). is_given o.apdu ≡ true) (is_none (refusal_of sd r n (User u) v)) _ _
    (λ e. called_given r u) (λ e. refl)

pub user_quiet : (sd : Side) (r : Record) (n : ℕ) (u : UserPrimitive) (v : ℕ) → Quiet (numbered_step sd r n (User u) v)
unfolding numbered_step acts
user_quiet sd r n u v = by_test Quiet (is_none (refusal_of sd r n (User u) v)) _ _ (λ e. called_quiet r u) (λ e. record { told = refl; delivers = refl })

pub forward_quiet : (sd : Side) (r : Record) (n k s v : ℕ) → Quiet (numbered_step sd r n (Forward k s) v)
unfolding numbered_step acts forward_request
forward_quiet sd r n k s v = by_test Quiet (is_none (refusal_of sd r n (Forward k s) v)) _ _ (λ e. record { told = refl; delivers = refl }) (λ e. record { told = refl; delivers = refl })

-- the APDU of a forward request that is taken
pub forward_sends : (sd : Side) (r : Record) (n k s v : ℕ)
    → is_none (numbered_step sd r n (Forward k s) v).refusal ≡ true
    → (numbered_step sd r n (Forward k s) v).apdu ≡ Rattle.machine.specs.declared.event.UserData.TheVariants.Forward
unfolding numbered_step acts forward_request
forward_sends sd r n k s v = by_test (λ (o : Outcome). is_none o.refusal ≡ true → o.apdu ≡
    Rattle.machine.specs.declared.event.UserData.TheVariants.Forward) (is_none (refusal_of sd r n (Forward k s) v)) _
    _ (λ e h. refl) (λ e h. never (sym e ∙ h))
