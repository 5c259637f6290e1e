-- Two ground cards: every event at a centre that is away.
-- Assumes nothing.
use mathlib.Core.Path.{◌≡◌, refl, ap, sym, subst, ◌∙◌}
use mathlib.Core.Bool.{Bool, true, false, not, cond}
use mathlib.Core.List.{List, []}
use Prim.Native.Nat.{ℕ, ◌/◌, ◌%◌, ◌<◌}
use native.Mathlib.Omega.{arith}
use borrow.Author.Tests.{eq-eqb, lt-ltb, ltb-true}
use lib.Dec.{eqb, ltb}
use lib.ListN.{length}
use Rattle.editions.specs.Editions.{secures, user_reasons}
use Rattle.editions.specs.declared.Edition.{Edition}
use Rattle.apdu.specs.Pdus.{lent}
use Rattle.pdus.specs.declared.PduType.TheVariants as pdu
use Rattle.apdu.specs.declared.Data.{Data}
use Rattle.apdu.specs.declared.Apdu.TheVariants as is
use Rattle.codec.specs.Codec.{forward_given_fits, apdu_at}
use Rattle.machine.specs.Codes.{security_values, forward_results, permanent, no_version, undefined_error, communication_service_error, communication_service_failure}
use Rattle.machine.specs.Record.{with_timer}
use Rattle.machine.specs.Event.{user_fits, service_fits, event_fits}
use Rattle.machine.specs.UserData.{user_data_fits}
use Rattle.machine.specs.Outcome.{is_none}
use Rattle.machine.specs.Exceptions.{tell, closes, aborts, excepts, system_error}
use Rattle.machine.specs.Calls.{reply_of, call_of}
use Rattle.machine.specs.Forwards.{forward_confirmed}
use Rattle.machine.specs.Faults.{abort_fault, response_fault, confirmation_fault, first_fault}
use Rattle.machine.specs.Primitives.{instructed, answered as answeredBy, reached}
use Rattle.machine.specs.Step.{permitted, message_refusal, acts as clause, step}
use Rattle.machine.specs.Step as S
use Rattle.clauses.proofs.Clauses.{user_aborts, expiry}
use Rattle.clauses.proofs.ForwardClauses.{is_user_abort, only_abort, confirmed}
use Rattle.machine.specs.declared.record.Record.{Record}
use Rattle.machine.specs.declared.event.UserData.{UserData}
use Rattle.machine.specs.declared.event.UserData.TheVariants.{Absent, ForwardResponse}
use Rattle.machine.specs.declared.event.UserPrimitive.{UserPrimitive}
use Rattle.machine.specs.declared.event.UserPrimitive.TheVariants.{StartServiceResponse, EndServiceRequest, EndServiceResponse, UserAbortServiceRequest}
use Rattle.machine.specs.declared.event.ServicePrimitive.{ServicePrimitive}
use Rattle.machine.specs.declared.event.ServicePrimitive.TheVariants.{DStartConfirmation, DPAbortIndication}
use Rattle.machine.specs.declared.event.Event.TheVariants.{User, Service, TimerExpires, UnrecoverableSystemError}
use Rattle.machine.specs.declared.event.Event.TheVariants.{Forward as ForwardRequested}
use Rattle.machine.specs.declared.outcome.Invoked.{Invoked}
use Rattle.machine.specs.declared.outcome.Told.TheVariants.{ProviderAbortIndication, ForwardConfirmation}
use Rattle.machine.specs.declared.outcome.Outcome as O
use Rattle.numbered.specs.Numbers.{user_starts, service_starts, is_start as isStartEvent, is_service, is_stale, held_after, numbered_step}
use Rattle.numbered.proofs.Laws.{then_step}
use Rattle.packed.specs.Packed.{codes, three, told_number}
use Rattle.step.specs.Call.{Called, called as calledWith, carries_data, carries_forward, carried_by, no_data, concluded, event_step, user_call, forward_step, forward_by, reads_as, reads_again, read_pdu, meaning}
use Rattle.packed.proofs.Unpacked.{code_unpacked, parameter_unpacked}
use Rattle.card.specs.Face.{no_count, given_data, message_requested, holds_message}
use Rattle.pair.specs.Names.{Ground, Control, is_idle, entered, takes}
use Rattle.pair.specs.Names.{Forward as FORWARD}
use Rattle.pair.specs.Carrier.{begins?, is_start}
use Rattle.pair.specs.Numbered.{Numbered}
use Rattle.pair.specs.Wires.{Wire, sort_of, arrives, rejects}
use Rattle.pair.proofs.TwoCentres.{Returns, Comes, Refuses}
use Rattle.card_pair.specs.Answered.{told_part_of}
use Rattle.card_pair.specs.CardMachine.{Word, Asked, start_request_of, start_response_of, message_request_of, end_request_of, end_response_of, user_abort_of, held_by}
use Rattle.card_pair.specs.CentreMachine.{Passed, CentreAsked, forward_request_of, other_call, Desk, does, lent_first, lent_second, hears, reports, forwards, centre_asks, centre_machine}
use Rattle.card_pair.proofs.CentreBytes.{Shut, abort_shut, aborts_shut, at_record, closes_shut, heard_bare, heard_data, heard_stale, held_is, no_number, not_fitting, other_stale, own_number, refused_call, reported, shut_comes, shut_returns, told_is, unpermitted, user_refused}
use Rattle.card_pair.proofs.CentreEntries.{Away, Confirms, Good, Rest, a_forward, a_response, clash, no_difference}
use Rattle.std.specs.Prelude.{Ok, Option, Some}

-- ---- away

-- what the carrier makes in FORWARD
turned_in_forward : (r : Record) → r.control ≡ entered FORWARD false
    → reached Ground r rejects Absent ≡ closes r (tell r (Some (ProviderAbortIndication communication_service_error)))
unfolding reached first_fault confirmation_fault response_fault answeredBy reply_of
turned_in_forward r c = rw c

lost_in_forward : (r : Record) → r.control ≡ entered FORWARD false
    → reached Ground r DPAbortIndication Absent ≡ closes r (tell r (Some (ProviderAbortIndication communication_service_failure)))
unfolding reached first_fault abort_fault answeredBy instructed
lost_in_forward r c = rw c

-- a response is read in FORWARD
reads_response : (ed : Edition) (c : Control) (s z : ℕ) (l : List ℕ) → c ≡ entered FORWARD false
    → apdu_at ed pdu.GroundPdus l ≡ Ok (is.ForwardResponse z)
    → meaning (read_pdu ed Ground c (DStartConfirmation permanent 0 s no_version) l) ≡ ForwardResponse z
unfolding read_pdu reads_as reads_again meaning
reads_response ed c s z l f e = rw (f, e)

module _ (p : ℕ) (ed : Edition) (ver : ℕ) (d : Desk) (h : Away p ed ver d) where
  abbrev rec : Record
  rec = h.at.held

  abbrev num : ℕ
  num = h.at.number

  busy : is_idle h.at.held.control ≡ false
  busy = ap is_idle h.control

  -- any user primitive but an abort
  call_refused : (u : UserPrimitive) (ids msgs checks : List ℕ) (z : Data) → is_user_abort u ≡ false
      → Returns (centre_machine p) (Rest p ed ver) d (does d (user_call d.kept.bytes (lent_first d) (lent_second d) (User u) 0 ids msgs checks z))
  call_refused u ids msgs checks z e =
      user_refused p ed ver d h.at (Returns (centre_machine p) (Rest p ed ver) d) u 0 ids msgs checks z
      (ap (λ (c : Control). takes Ground c (call_of u)) h.control ∙ only_abort Ground false u e) tt

  -- an abort
  aborts_away : (g : Bool) (z : ℕ) → Returns (centre_machine p) (Rest p ed ver) d (does d (reports d (User (UserAbortServiceRequest g z))))
  unfolding held_after isStartEvent user_starts is_stale is_service event_fits user_fits
  aborts_away g z =
      subst (λ (c : Called). Returns (centre_machine p) (Rest p ed ver) d (does d c))
      (sym (reported p ed ver d h.at (User (UserAbortServiceRequest g z))))
      (shut_returns p ed ver d h.at (numbered_step Ground rec num (User (UserAbortServiceRequest g z)) 0) (lent [])
      (lent []) (lent []) (carries_data no_data) (go (ltb z (user_reasons rec.edition)) refl))
    where
      go : (b : Bool) → ltb z (user_reasons rec.edition) ≡ b
          → is_none (numbered_step Ground rec num (User (UserAbortServiceRequest g z)) 0).refusal ≡ true
          → Shut rec (numbered_step Ground rec num (User (UserAbortServiceRequest g z)) 0)
      go true e t = subst (Shut rec) (sym (no_number p ed ver d h.at (User (UserAbortServiceRequest g z)) refl ∙
          user_aborts Ground rec g z e busy)) (abort_shut rec g z h.at.coded)
      go false e t = clash (sym t ∙ not_fitting p ed ver d h.at (User (UserAbortServiceRequest g z)) 0 e)

  away_other : (a : Asked) → Returns (centre_machine p) (Rest p ed ver) d (centre_asks p d (other_call a))
  away_other (start_request_of v m k g) = tt
  away_other (start_response_of m z g) = call_refused (StartServiceResponse m z (holds_message g.bits)) g.ids
      g.msgs g.checks (given_data (length g.ids) g.bits g.check) refl
  away_other (message_request_of j g) = call_refused (message_requested g.bits j.number) g.ids g.msgs
      g.checks (given_data (length g.ids) g.bits g.check) refl
  away_other (end_request_of m g) = call_refused (EndServiceRequest m (holds_message g.bits)) g.ids g.msgs
      g.checks (given_data (length g.ids) g.bits g.check) refl
  away_other (end_response_of m z g) = call_refused (EndServiceResponse m z (holds_message g.bits)) g.ids g.msgs
      g.checks (given_data (length g.ids) g.bits g.check) refl
  away_other (user_abort_of z) = aborts_away (not (eqb z no_count)) (cond (eqb z no_count) 0 z)

  -- a further forward
  away_forward : (v : Word) (k : ℕ) (f : Passed) → Returns (centre_machine p) (Rest p ed ver) d (does d (forwards p d v k f))
  unfolding forward_by forward_step permitted
  away_forward v k f =
      subst (λ (c : Called). Returns (centre_machine p) (Rest p ed ver) d (does d c))
      (sym (at_record p ed ver d h.at (forward_step numbered_step d.kept.bytes (lent_first d) (lent_second d) k p v.number (lent f.msgs) (record { heading = f.heading; message = record { at = 0; count = f.bits } }))))
      (go (forward_given_fits rec.edition (lent f.msgs) (record { heading = f.heading; message = record { at = 0; count = f.bits } })))
    where
      go : (b : Bool) → Returns (centre_machine p) (Rest p ed ver) d (does d (cond b (event_step numbered_step d.kept.bytes (lent_first d) (lent_second d) (ForwardRequested k p) v.number (lent f.msgs) (lent f.msgs) (lent f.msgs) (carries_forward (record { heading = f.heading; message = record { at = 0; count = f.bits } })) Ground rec num) (calledWith 2 d.kept.bytes (lent_first d) (lent_second d))))
      go true =
          refused_call p ed ver d h.at (Returns (centre_machine p) (Rest p ed ver) d) (held_after num (ForwardRequested k p) v.number) (numbered_step Ground rec num (ForwardRequested k p) v.number) (lent f.msgs) (lent f.msgs) (lent f.msgs) (carries_forward (record { heading = f.heading; message = record { at = 0; count = f.bits } }))
          (unpermitted p ed ver d h.at (ForwardRequested k p) v.number busy) tt
      go false = tt

  pub away_asks : (a : CentreAsked) → Returns (centre_machine p) (Rest p ed ver) d (centre_asks p d a)
  away_asks (forward_request_of v k f) = away_forward v k f
  away_asks (other_call a) = away_other a

  pub away_expires : Returns (centre_machine p) (Rest p ed ver) d (does d (reports d TimerExpires))
  unfolding held_after isStartEvent is_stale is_service permitted
  away_expires =
      subst (λ (c : Called). Returns (centre_machine p) (Rest p ed ver) d (does d c)) (sym (reported p ed ver d h.at TimerExpires))
      (shut_returns p ed ver d h.at (numbered_step Ground rec num TimerExpires 0) (lent []) (lent []) (lent [])
      (carries_data no_data) (go rec.timer refl))
    where
      go : (b : Bool) → rec.timer ≡ b → is_none (numbered_step Ground rec num TimerExpires 0).refusal ≡ true
          → Shut rec (numbered_step Ground rec num TimerExpires 0)
      go true e t = subst (Shut rec) (sym (no_number p ed ver d h.at TimerExpires refl ∙ expiry Ground rec e))
          (aborts_shut rec _ _ h.at.coded)
      go false e t = clash (sym t ∙ unpermitted p ed ver d h.at TimerExpires 0 e)

  error_busy : step Ground rec UnrecoverableSystemError ≡ aborts rec undefined_error (tell rec (Some (ProviderAbortIndication undefined_error)))
  unfolding step S.refusal_of event_fits permitted message_refusal clause system_error excepts
  error_busy = rw busy

  pub away_errs : Returns (centre_machine p) (Rest p ed ver) d (does d (reports d UnrecoverableSystemError))
  unfolding held_after isStartEvent is_stale is_service
  away_errs =
      subst (λ (c : Called). Returns (centre_machine p) (Rest p ed ver) d (does d c))
      (sym (reported p ed ver d h.at UnrecoverableSystemError))
      (shut_returns p ed ver d h.at (numbered_step Ground rec num UnrecoverableSystemError 0) (lent []) (lent [])
      (lent []) (carries_data no_data) (λ t. subst (Shut rec)
      (sym (no_number p ed ver d h.at UnrecoverableSystemError refl ∙ error_busy))
      (aborts_shut rec _ _ h.at.coded)))

  -- what the carrier makes
  comes_bare : (a : ServicePrimitive) (o : O.Outcome) → event_fits Ground rec.edition (Service a Absent) ≡ true
      → service_starts a ≡ false → reached Ground rec a Absent ≡ o → Shut rec o
      → Comes (centre_machine p) (Rest p ed ver) d (does d (hears d a (held_by d.kept.bytes) 0 []))
  unfolding held_after isStartEvent
  comes_bare a o sh st e s =
      subst (λ (v : ℕ). Comes (centre_machine p) (Rest p ed ver) d (does d (hears d a v 0 []))) (sym (held_is p ed ver d h.at))
      (subst (λ (c : Called). Comes (centre_machine p) (Rest p ed ver) d (does d c)) (sym (heard_bare p ed ver d h.at a num))
      (subst (λ (z : O.Outcome). Comes (centre_machine p) (Rest p ed ver) d (does d (E (cond (service_starts a) num num) z))) (sym (own_number p ed ver d h.at a Absent sh st ∙ e))
      (subst (λ (b : Bool). Comes (centre_machine p) (Rest p ed ver) d (does d (E (cond b num num) o))) (sym st)
      (shut_comes p ed ver d h.at o (lent []) (lent []) (lent []) (carries_data no_data) s))))
    where
      E : ℕ → O.Outcome → Called
      E m z = concluded d.kept.bytes (lent_first d) (lent_second d) rec.edition Ground m z (lent []) (lent [])
          (lent []) (carries_data no_data)

  pub away_away : Comes (centre_machine p) (Rest p ed ver) d (does d (hears d rejects (held_by d.kept.bytes) 0 []))
  unfolding event_fits service_fits user_data_fits service_starts
  away_away = comes_bare rejects _ refl refl (turned_in_forward rec h.control) (closes_shut rec _ h.at.coded)

  pub away_p_abort : Comes (centre_machine p) (Rest p ed ver) d (does d (hears d DPAbortIndication (held_by d.kept.bytes) 0 []))
  unfolding event_fits service_fits user_data_fits service_starts
  away_p_abort = comes_bare DPAbortIndication _ refl refl (lost_in_forward rec h.control) (closes_shut rec _ h.at.coded)

  -- ---- the response

  abbrev J : ServicePrimitive
  J = DStartConfirmation permanent 0 p no_version

  away_reads : (z : ℕ) (l : List ℕ) → apdu_at ed pdu.GroundPdus l ≡ Ok (is.ForwardResponse z)
      → meaning (read_pdu rec.edition Ground rec.control J l) ≡ ForwardResponse z
  away_reads z l e = reads_response rec.edition rec.control p z l h.control
      (ap (λ (y : Edition). apdu_at y pdu.GroundPdus l) h.at.edition ∙ e)

  response_confirmed : (z : ℕ) → ltb z forward_results ≡ true → p < security_values
      → numbered_step Ground rec num (Service J (ForwardResponse z)) num ≡ forward_confirmed rec z no_version
  unfolding is_stale isStartEvent is_service service_starts
  response_confirmed z zl pl =
      then_step Ground rec num (Service J (ForwardResponse z)) num (rw (eq-eqb num num refl))
      ∙ confirmed Ground rec false p no_version z h.control (lt-ltb p security_values pl) refl zl
      (no_difference (secures rec.edition) p rec.request (sym h.request))

  confirmed_shut : (z : ℕ) → Shut rec (forward_confirmed rec z no_version)
  unfolding forward_confirmed
  confirmed_shut z =
      let k = h.at.coded in
      let s = closes_shut (with_timer rec false) (Some (ForwardConfirmation z no_version)) (record { request = k.request; policy = k.policy; least = k.least; most = k.most; highest = k.highest }) in
      record { taken = s.taken; control = s.control; timer = s.timer; user = s.user; policy = s.policy; version = s.version; edition = s.edition; coded = s.coded; calm = s.calm }

  valid_away : p < security_values
  valid_away = subst (λ (v : ℕ). v < security_values) h.at.policy h.at.coded.policy

  abbrev Confirmed : Numbered Wire → ℕ → Called
  Confirmed w z = concluded d.kept.bytes (lent_first d) (lent_second d) rec.edition Ground num
      (forward_confirmed rec z no_version) (lent w.it.bytes) (lent w.it.bytes) (lent w.it.bytes)
      (carried_by (read_pdu rec.edition Ground rec.control J (lent w.it.bytes)))

  -- a property of a call that holds where the answer is told, whatever its result, holds of it
  away_by : (w : Numbered Wire) (P : Called → Type 0) → Good p ed ver w → is_start (centre_machine p).at w ≡ false
      → w.no ≡ held_by d.kept.bytes
      → ((z : ℕ) → ltb z forward_results ≡ true → apdu_at ed pdu.GroundPdus (lent w.it.bytes) ≡ Ok (is.ForwardResponse z) → P (Confirmed w z))
      → P (hears d (arrives Ground w.it.primitive) w.no 1 w.it.bytes)
  unfolding held_after isStartEvent service_starts
  away_by w P (a_forward k kl e f r low) st m b = clash (sym (ap (λ (i : Option Invoked). begins? (sort_of i)) e) ∙ st)
  away_by w P (a_response z zl e r) st m b =
      subst (λ (i : Option Invoked). P (hears d (arrives Ground i) w.no 1 w.it.bytes)) (sym e)
      (subst (λ (v : ℕ). P (hears d J v 1 w.it.bytes)) (sym (m ∙ held_is p ed ver d h.at))
      (subst P (sym (heard_data p ed ver d h.at J num w.it.bytes))
      (subst (λ (a : UserData). P (E (numbered_step Ground rec num (Service J a) num))) (sym (away_reads z (lent w.it.bytes) r))
      (subst (λ (o : O.Outcome). P (E o)) (sym (response_confirmed z zl valid_away)) (b z zl r)))))
    where
      E : O.Outcome → Called
      E o = concluded d.kept.bytes (lent_first d) (lent_second d) rec.edition Ground num o (lent w.it.bytes)
          (lent w.it.bytes) (lent w.it.bytes)
          (carried_by (read_pdu rec.edition Ground rec.control J (lent w.it.bytes)))

  pub away_takes : (w : Numbered Wire) → Good p ed ver w → is_start (centre_machine p).at w ≡ false
      → w.no ≡ held_by d.kept.bytes
      → Comes (centre_machine p) (Rest p ed ver) d (does d (hears d (arrives Ground w.it.primitive) w.no 1 w.it.bytes))
  away_takes w g st m =
      away_by w (λ (c : Called). Comes (centre_machine p) (Rest p ed ver) d (does d c)) g st m
      (λ (z : ℕ) (zl : ltb z forward_results ≡ true)
      (r : apdu_at ed pdu.GroundPdus (lent w.it.bytes) ≡ Ok (is.ForwardResponse z)). shut_comes p ed
      ver d h.at (forward_confirmed rec z no_version) (lent w.it.bytes) (lent w.it.bytes)
      (lent w.it.bytes) (carried_by (read_pdu rec.edition Ground rec.control J (lent w.it.bytes)))
      (confirmed_shut z))

  confirmed_told : (w : Numbered Wire) (z : ℕ) → told_part_of (Confirmed w z).number ≡ three 9 z 0
  unfolding forward_confirmed closes told_number
  confirmed_told w z = told_is p ed ver d h.at num (forward_confirmed rec z no_version) (lent w.it.bytes)
      (lent w.it.bytes) (lent w.it.bytes)
      (carried_by (read_pdu rec.edition Ground rec.control J (lent w.it.bytes))) refl

  pub away_tells : (w : Numbered Wire) → Good p ed ver w → is_start (centre_machine p).at w ≡ false
      → w.no ≡ held_by d.kept.bytes
      → Confirms ed w (hears d (arrives Ground w.it.primitive) w.no 1 w.it.bytes)
  away_tells w g st m =
      away_by w (Confirms ed w) g st m
      (λ (z : ℕ) (zl : ltb z forward_results ≡ true) (r : apdu_at ed pdu.GroundPdus (lent w.it.bytes) ≡ Ok (is.ForwardResponse z)).
      let l = ltb-true z forward_results zl in
      record { result = z; reads = r; code = ap (λ (i : ℕ). i % codes) (confirmed_told w z) ∙ code_unpacked 9 z 0 (omega arith); parameter = ap (λ (i : ℕ). i / codes % codes) (confirmed_told w z) ∙ parameter_unpacked 9 z 0 (omega arith) (omega (arith, l)) })

  pub away_stale : (w : Numbered Wire) → Good p ed ver w → is_start (centre_machine p).at w ≡ false
      → (w.no ≡ held_by d.kept.bytes → ⊥)
      → Refuses (centre_machine p) (does d (hears d (arrives Ground w.it.primitive) w.no 1 w.it.bytes))
  away_stale w (a_forward k kl e f r low) st m = clash (sym (ap (λ (i : Option Invoked). begins? (sort_of i)) e) ∙ st)
  away_stale w (a_response z zl e r) st m =
      subst (λ (i : Option Invoked). Refuses (centre_machine p) (does d (hears d (arrives Ground i) w.no 1 w.it.bytes))) (sym e)
      (heard_stale p ed ver d h.at J w.no w.it.bytes (other_stale p ed ver d h.at permanent 0 p no_version
      w.no (λ (q : w.no ≡ num). m (q ∙ sym (held_is p ed ver d h.at)))))
