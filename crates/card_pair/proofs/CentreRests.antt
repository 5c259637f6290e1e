-- Two ground cards: every event at a centre that rests.
-- Assumes nothing.
use mathlib.Core.Path.{◌≡◌, refl, ap, sym, subst, ◌∙◌}
use mathlib.Core.Bool.{Bool, true, false, cond}
use mathlib.Core.List.{List, []}
use Prim.Native.Nat.{ℕ, ◌^◌, ◌%◌, ◌≤◌, ◌<◌}
use native.Mathlib.Omega.{arith}
use borrow.Author.Tests.{eq-eqb, lt-ltb, ltb-true}
use lib.Dec.{eqb, ltb}
use lib.ListN.{length}
use Rattle.editions.specs.Editions.{secures}
use Rattle.editions.specs.declared.Edition.{Edition}
use Rattle.apdu.specs.Pdus.{lent, pdu_in}
use Rattle.pdus.specs.declared.PduType.TheVariants as pdu
use Rattle.apdu.specs.declared.Data.{Data}
use Rattle.apdu.specs.declared.Forward.{Forward as Forwarded}
use Rattle.apdu.specs.declared.Apdu.TheVariants as is
use Rattle.codec.specs.Codec.{forward_given_fits, apdu_fits, apdu_at}
use Rattle.codec.proofs.Stated.{pdu_fits}
use Rattle.codec.proofs.Instance.{laws}
use Rattle.machine.specs.Codes.{security_values, routing_classes, versions, forward_results, facility, success, service_not_supported, no_version}
use Rattle.machine.specs.Record.{enter}
use Rattle.machine.specs.Event.{qos_fits, service_fits, event_fits}
use Rattle.machine.specs.Outcome.{is_none}
use Rattle.machine.specs.Exceptions.{closes}
use Rattle.machine.specs.Calls.{qos_asked, security_sent, call_of}
use Rattle.machine.specs.Forwards.{forward_request, responds}
use Rattle.machine.specs.Faults.{differs}
use Rattle.machine.specs.Step.{permitted, message_refusal, acts as clause, step}
use Rattle.clauses.proofs.Clauses.{error_idle}
use Rattle.clauses.proofs.ForwardClauses.{supported, not_supported}
use Rattle.machine.specs.declared.record.Record.{Record}
use Rattle.machine.specs.declared.event.UserData.{UserData}
use Rattle.machine.specs.declared.event.UserData.TheVariants.{Forward}
use Rattle.machine.specs.declared.event.UserPrimitive.{UserPrimitive}
use Rattle.machine.specs.declared.event.UserPrimitive.TheVariants.{StartServiceResponse, EndServiceRequest, EndServiceResponse}
use Rattle.machine.specs.declared.event.ServicePrimitive.{ServicePrimitive}
use Rattle.machine.specs.declared.event.ServicePrimitive.TheVariants.{DStartIndication}
use Rattle.machine.specs.declared.event.Event.TheVariants.{User, Service, TimerExpires, UnrecoverableSystemError}
use Rattle.machine.specs.declared.event.Event.TheVariants.{Forward as ForwardRequested}
use Rattle.machine.specs.declared.outcome.Invoked.{Invoked}
use Rattle.machine.specs.declared.outcome.Invoked.TheVariants.{DStartForwardRequest, DStartForwardResponse}
use Rattle.machine.specs.declared.outcome.Told.{Told}
use Rattle.machine.specs.declared.outcome.Told.TheVariants.{ForwardIndication}
use Rattle.machine.specs.declared.outcome.Outcome as O
use Rattle.numbered.specs.Numbers.{user_starts, service_starts, is_start as isStartEvent, is_service, is_stale, held_after, refusal_of, numbered_step}
use Rattle.numbered.proofs.Laws.{then_step}
use Rattle.stored.specs.Stored.{record_bytes, load_at, is_stored}
use Rattle.packed.specs.Packed.{codes, invoked_number, told_number, version_number}
use Rattle.step.specs.Call.{Carried, Called, called as calledWith, carries_data, carries_forward, carried_by, no_data, first_takes, concluded, user_call, forward_step, forward_by, reads_as, reads_again, read_pdu, meaning}
use Rattle.step.proofs.Taken.{Coded}
use Rattle.card.specs.Face.{given_data, message_requested, abort_requested, holds_message}
use Rattle.pair.specs.Names.{Ground, Control, is_idle, entered, takes}
use Rattle.pair.specs.Names.{Forward as FORWARD}
use Rattle.pair.specs.Carrier.{nothing, Outcome, refused, acts, begins?, is_start}
use Rattle.pair.specs.Numbered.{Numbered}
use Rattle.pair.specs.Wires.{Wire, sort_of, arrives}
use Rattle.pair.proofs.TwoCentres.{Begun, Starts, Quiet, Answers, Refuses}
use Rattle.card_pair.specs.Answered.{is_taken, invoked_of, handed_of}
use Rattle.card_pair.specs.CardMachine.{Word, Asked, start_request_of, start_response_of, message_request_of, end_request_of, end_response_of, user_abort_of, held_by, put_on}
use Rattle.card_pair.specs.CentreMachine.{Passed, CentreAsked, forward_request_of, other_call, Desk, version_part, between_centres, centre_entry, after, does, lent_first, lent_second, hears, reports, forwards, centre_asks, centre_machine}
use Rattle.card_pair.specs.Promise.{Rests}
use Rattle.card_pair.proofs.Ends.{number_in, Keeps}
use Rattle.card_pair.proofs.Beginnings.{begins_keeps, begins_valid}
use Rattle.card_pair.proofs.CentreBytes.{At, Ended, Shut, at_record, bytes_are, closes_shut, forward_not_fitting, forward_stale, heard_data, heard_stale, held_is, invoked_is, kept_is, loads_next, no_number, number_taken, refused_call, reported, shut_back, start_stale, stored_loads, taken_does, told_is, unpermitted, user_refused, version_is}
use Rattle.card_pair.proofs.CentreEntries.{Away, Good, Replies, Rest, a_forward, a_response, clash, forward_value, idle_takes, no_difference, own_version, put_read, request_back, response_back, response_value}
use Rattle.std.specs.Prelude.{Ok, None, Option, Some}

-- ---- at rest

module _ (p : ℕ) (ed : Edition) (ver : ℕ) (fair : security_sent (secures ed) p ≡ p) (d : Desk) (h : Rests p ed ver d.kept.bytes) where
  keeps : Keeps ed Ground d.kept.bytes h.begins.held h.begins.number
  keeps = begins_keeps p ed Ground d.kept.bytes h.begins

  abbrev at_rest : At p ed ver d
  at_rest = record { held = h.begins.held; number = h.begins.number; load = h.begins.load; size = keeps.size; coded = keeps.coded; low = keeps.low; policy = h.begins.policy; version = h.version; edition = h.begins.edition }

  abbrev x : Record
  x = h.begins.held

  abbrev pub y : ℕ
  y = h.begins.number

  valid : p < security_values
  valid = begins_valid p ed Ground d.kept.bytes h.begins

  -- the security value that goes out
  abbrev sends : ℕ
  sends = security_sent (secures h.begins.held.edition) p

  sends_it : security_sent (secures h.begins.held.edition) p ≡ p
  sends_it = ap (λ (z : Edition). security_sent (secures z) p) h.begins.edition ∙ fair

  sends_low : security_sent (secures h.begins.held.edition) p < security_values
  sends_low = subst (λ (z : ℕ). z < security_values) (sym sends_it) valid

  pub idle : is_idle h.begins.held.control ≡ true
  idle = ap is_idle h.begins.idle

  -- a forward request
  module _ (v : Word) (k : ℕ) (f : Passed) where
    abbrev F : Forwarded
    F = record { heading = f.heading; message = record { at = 0; count = f.bits } }

    abbrev C : Called
    C = Ended p ed ver d at_rest v.number (forward_request x k p) (lent f.msgs) (lent f.msgs) (lent f.msgs) (carries_forward F)

    abbrev Begins_it : Outcome Desk (Numbered Wire) → Type 0
    Begins_it o = Starts (centre_machine p) (Away p ed ver) (Good p ed ver) d o

    request_coded : Coded (forward_request x k p).next
    unfolding forward_request enter
    request_coded = record { request = sends_low; policy = keeps.coded.policy; least = keeps.coded.least; most = keeps.coded.most; highest = keeps.coded.highest }

    request_taken : is_none (forward_request x k p).refusal ≡ true
    unfolding forward_request
    request_taken = refl

    request_loads : load_at C.kept ≡ is_stored Ground (forward_request x k p).next v.number
    request_loads =
        loads_next p ed ver d at_rest v.number (forward_request x k p) (lent f.msgs) (lent f.msgs)
        (lent f.msgs) (carries_forward F) request_taken request_coded v.low

    request_size : length C.kept ≡ record_bytes
    request_size =
        ap length (kept_is p ed ver d at_rest v.number (forward_request x k p) (lent f.msgs) (lent f.msgs)
        (lent f.msgs) (carries_forward F) request_taken)
        ∙ (stored_loads p ed ver d at_rest (forward_request x k p).next v.number request_coded v.low).1

    request_away : Away p ed ver (after d C)
    unfolding forward_request enter
    request_away =
        record {
          at = record { held = (forward_request x k p).next; number = v.number; load = request_loads; size = request_size; coded = request_coded; low = v.low; policy = h.begins.policy; version = h.version; edition = h.begins.edition };
          control = ap (λ (c : Control). entered FORWARD c.dsc) h.begins.idle;
          request = sends_it;
        }

    request_primitive : ltb k routing_classes ≡ true → (centre_entry C).it.primitive ≡ Some (DStartForwardRequest (qos_asked k) p ver)
    unfolding forward_request invoked_number
    request_primitive e =
        let kl = ltb-true k routing_classes e in
        let i = invoked_is p ed ver d at_rest v.number (forward_request x k p) (lent f.msgs) (lent f.msgs)
        (lent f.msgs) (carries_forward F) request_taken in
        let w = own_version x.version keeps.coded.least in
        let most = keeps.coded.most in
        let z = version_is p ed ver d at_rest v.number (forward_request x k p) (lent f.msgs) (lent f.msgs)
        (lent f.msgs) (carries_forward F) request_taken (subst (λ (z : ℕ). z < versions) (sym w) most) in
        ap (λ (z : ℕ). between_centres (version_part C.number) (invoked_of z)) i
        ∙ ap (between_centres (version_part C.number)) (request_back k sends (omega arith) (omega (arith, sends_low)))
        ∙ ap (λ (v : ℕ). Some (DStartForwardRequest (qos_asked k) sends v)) (z ∙ w ∙ h.version) ∙ ap
        (λ (s : ℕ). Some (DStartForwardRequest (qos_asked k) s ver)) sends_it

    request_good : ltb k routing_classes ≡ true → forward_given_fits x.edition (lent f.msgs) F ≡ true → Good p ed ver (centre_entry C)
    unfolding forward_request first_takes apdu_fits pdu_fits pdu_in
    request_good e sh =
        let r = put_read x.edition (is.Forward F) f.msgs (lent_first d)
        ((laws x.edition).forward_given_value (lent f.msgs) F sh) (d.lends d.kept.calls).first_full in
        let g = forward_value _ r.value _ _ r.same in
        let b = bytes_are p ed ver d at_rest v.number (forward_request x k p) (lent f.msgs) (lent f.msgs)
        (lent f.msgs) (carries_forward F) request_taken (is.Forward F)
        ((laws x.edition).forward_given_places (lent f.msgs) F sh) refl in
        subst (λ (z : Edition). Good p z ver (centre_entry C)) h.begins.edition
        (a_forward k e (request_primitive e) g.message (ap
        (λ (z : List ℕ). apdu_at x.edition pdu.GroundPdus (lent z)) b ∙ r.read ∙ ap Ok g.same)
        (subst (λ (z : ℕ). z < 2 ^ 64) (sym (ap number_in request_loads)) v.low))

    request_begun : ltb k routing_classes ≡ true → y < v.number
        → forward_given_fits x.edition (lent f.msgs) F ≡ true
        → Begun (centre_machine p) (Away p ed ver) (Good p ed ver) d (after d C) (centre_entry C)
    request_begun e lt sh =
        let a = held_is p ed ver d at_rest in
        let b = ap number_in request_loads in
        record {
          start = ap (λ (i : Option Invoked). begins? (sort_of i)) (request_primitive e);
          away = request_away;
          good = request_good e sh;
          number = refl;
          above = omega arith;
        }

    request_starts : ltb k routing_classes ≡ true → y < v.number
        → forward_given_fits x.edition (lent f.msgs) F ≡ true → Begins_it (does d C)
    request_starts e lt sh =
        taken_does Begins_it d C (number_taken p ed ver d at_rest v.number (forward_request x k p) (lent f.msgs)
        (lent f.msgs) (lent f.msgs) (carries_forward F) request_taken)
        (subst (λ (i : Option Invoked). Begins_it (acts (after d C) (handed_of C) (put_on (centre_entry C) i)))
        (sym (request_primitive e)) (request_begun e lt sh))

    request_step : ltb k routing_classes ≡ true → y < v.number
        → numbered_step Ground x y (ForwardRequested k p) v.number ≡ forward_request x k p
    unfolding numbered_step refusal_of event_fits is_stale isStartEvent permitted message_refusal clause
    request_step e lt = rw (e, lt-ltb p security_values valid, lt-ltb y v.number lt, idle)

    asks_forward : Begins_it (does d (forwards p d v k f))
    unfolding forward_by forward_step held_after isStartEvent
    asks_forward =
        subst (λ (c : Called). Begins_it (does d c))
        (sym (at_record p ed ver d at_rest (forward_step numbered_step d.kept.bytes (lent_first d) (lent_second d) k p
        v.number (lent f.msgs) F)))
        (shape (forward_given_fits x.edition (lent f.msgs) F) refl)
      where
        E : O.Outcome → Called
        E o = concluded d.kept.bytes (lent_first d) (lent_second d) x.edition Ground v.number o
            (lent f.msgs) (lent f.msgs) (lent f.msgs) (carries_forward F)

        O' : O.Outcome
        O' = numbered_step Ground x y (ForwardRequested k p) v.number

        unmade : is_none (numbered_step Ground x y (ForwardRequested k p) v.number).refusal ≡ false → Begins_it (does d (E O'))
        unmade e = refused_call p ed ver d at_rest Begins_it v.number
            (numbered_step Ground x y (ForwardRequested k p) v.number) (lent f.msgs) (lent f.msgs)
            (lent f.msgs) (carries_forward F) e tt

        number : forward_given_fits x.edition (lent f.msgs) F ≡ true → ltb k routing_classes ≡ true → (b : Bool)
            → ltb y v.number ≡ b → Begins_it (does d (E O'))
        number sh e true lt = subst (λ (o : O.Outcome). Begins_it (does d (E o)))
            (sym (request_step e (ltb-true y v.number lt))) (request_starts e (ltb-true y v.number lt) sh)
        number sh e false lt = unmade (forward_stale p ed ver d at_rest k v.number lt)

        class : forward_given_fits x.edition (lent f.msgs) F ≡ true → (b : Bool) → ltb k routing_classes ≡ b → Begins_it (does d (E O'))
        class sh true e = number sh e (ltb y v.number) refl
        class sh false e = unmade (forward_not_fitting p ed ver d at_rest k v.number e)

        shape : (b : Bool) → forward_given_fits x.edition (lent f.msgs) F ≡ b
            → Begins_it (does d (cond b (E O') (calledWith 2 d.kept.bytes (lent_first d) (lent_second d))))
        shape true sh = class sh (ltb k routing_classes) refl
        shape false sh = tt

  -- any other call: there is no start but a forward, and IDLE permits nothing else
  data_refused : (P : Outcome Desk (Numbered Wire) → Type 0) (u : UserPrimitive) (ids msgs checks : List ℕ) (z : Data)
      → user_starts u ≡ false → P refused
      → P (does d (user_call d.kept.bytes (lent_first d) (lent_second d) (User u) 0 ids msgs checks z))
  data_refused P u ids msgs checks z e t = user_refused p ed ver d at_rest P u 0 ids msgs checks z
      (ap (λ (c : Control). takes Ground c (call_of u)) h.begins.idle ∙ idle_takes u e) t

  asks_other : (a : Asked) → Starts (centre_machine p) (Away p ed ver) (Good p ed ver) d (centre_asks p d (other_call a))
  unfolding user_starts
  asks_other (start_request_of v m k g) = tt
  asks_other (start_response_of m z g) = data_refused (Starts (centre_machine p) (Away p ed ver) (Good p ed ver) d)
      (StartServiceResponse m z (holds_message g.bits)) g.ids g.msgs g.checks
      (given_data (length g.ids) g.bits g.check) refl tt
  asks_other (message_request_of j g) = data_refused (Starts (centre_machine p) (Away p ed ver) (Good p ed ver) d)
      (message_requested g.bits j.number) g.ids g.msgs g.checks
      (given_data (length g.ids) g.bits g.check) refl tt
  asks_other (end_request_of m g) = data_refused (Starts (centre_machine p) (Away p ed ver) (Good p ed ver) d)
      (EndServiceRequest m (holds_message g.bits)) g.ids g.msgs g.checks
      (given_data (length g.ids) g.bits g.check) refl tt
  asks_other (end_response_of m z g) = data_refused (Starts (centre_machine p) (Away p ed ver) (Good p ed ver) d)
      (EndServiceResponse m z (holds_message g.bits)) g.ids g.msgs g.checks
      (given_data (length g.ids) g.bits g.check) refl tt
  asks_other (user_abort_of z) = data_refused (Starts (centre_machine p) (Away p ed ver) (Good p ed ver) d)
      (abort_requested z) [] [] [] no_data refl tt

  pub rest_asks : (a : CentreAsked) → Starts (centre_machine p) (Away p ed ver) (Good p ed ver) d (centre_asks p d a)
  rest_asks (forward_request_of v k f) = asks_forward v k f
  rest_asks (other_call a) = asks_other a

  -- t-start does not run
  pub rest_expires : Quiet (centre_machine p) (Rest p ed ver) d (does d (reports d TimerExpires))
  unfolding permitted
  rest_expires =
      subst (λ (c : Called). Quiet (centre_machine p) (Rest p ed ver) d (does d c)) (sym (reported p ed ver d at_rest TimerExpires))
      (refused_call p ed ver d at_rest (Quiet (centre_machine p) (Rest p ed ver) d) (held_after y TimerExpires 0)
      (numbered_step Ground x y TimerExpires 0) (lent []) (lent []) (lent []) (carries_data no_data)
      (unpermitted p ed ver d at_rest TimerExpires 0 h.begins.timer) tt)

  -- a system error gives no output
  pub rest_errs : Quiet (centre_machine p) (Rest p ed ver) d (does d (reports d UnrecoverableSystemError))
  unfolding held_after isStartEvent is_stale is_service closes invoked_number
  rest_errs =
      subst (λ (c : Called). Quiet (centre_machine p) (Rest p ed ver) d (does d c))
      (sym (reported p ed ver d at_rest UnrecoverableSystemError))
      (subst (λ (o : O.Outcome). Quiet (centre_machine p) (Rest p ed ver) d (does d (E o)))
      (sym (no_number p ed ver d at_rest UnrecoverableSystemError refl ∙ error_idle Ground x idle)) silent)
    where
      E : O.Outcome → Called
      E o = concluded d.kept.bytes (lent_first d) (lent_second d) x.edition Ground y o (lent []) (lent [])
          (lent []) (carries_data no_data)

      shut : Shut x (closes x None)
      shut = closes_shut x None keeps.coded

      prim : (centre_entry (E (closes x None))).it.primitive ≡ None
      prim = ap (λ (i : ℕ). between_centres (version_part (E (closes x None)).number) (invoked_of i)) (invoked_is p ed
          ver d at_rest y (closes x None) (lent []) (lent []) (lent []) (carries_data no_data) shut.taken)

      silent : Quiet (centre_machine p) (Rest p ed ver) d (does d (E (closes x None)))
      silent =
          taken_does (Quiet (centre_machine p) (Rest p ed ver) d) d (E (closes x None)) (number_taken p ed ver d
          at_rest y (closes x None) (lent []) (lent []) (lent []) (carries_data no_data) shut.taken)
          (subst (λ (i : Option Invoked). Quiet (centre_machine p) (Rest p ed ver) d (acts (after d (E (closes x None))) (handed_of (E (closes x None))) (put_on (centre_entry (E (closes x None))) i))) (sym prim)
          (shut_back p ed ver d at_rest (closes x None) (lent []) (lent []) (lent []) (carries_data no_data) shut nothing refl))

  -- ---- a forward arrives

  abbrev Reply : Numbered Wire → ℕ → Option Told → Carried → Called
  Reply w z t c = concluded d.kept.bytes (lent_first d) (lent_second d) x.edition Ground w.no
      (responds x z p no_version t) (lent w.it.bytes) (lent w.it.bytes) (lent w.it.bytes) c

  -- it was answered by the result z, with t told to the user
  module _ (w : Numbered Wire) (z : ℕ) (t : Option Told) (c : Carried) (zl : ltb z forward_results ≡ true) (sh : apdu_fits x.edition pdu.GroundPdus (lent w.it.bytes) (lent w.it.bytes) (lent w.it.bytes) (is.ForwardResponse z) ≡ true) (quiet : version_number (Some (DStartForwardResponse p no_version)) t ≡ no_version) (low : w.no < 2 ^ 64) where
    abbrev B : O.Outcome
    B = responds x z p no_version t

    abbrev K : Called
    K = Reply w z t c

    reply_coded : Coded (responds x z p no_version t).next
    unfolding responds enter
    reply_coded = record { request = keeps.coded.request; policy = keeps.coded.policy; least = keeps.coded.least; most = keeps.coded.most; highest = keeps.coded.highest }

    reply_taken : is_none (responds x z p no_version t).refusal ≡ true
    unfolding responds
    reply_taken = refl

    reply_loads : load_at K.kept ≡ is_stored Ground (responds x z p no_version t).next w.no
    reply_loads = loads_next p ed ver d at_rest w.no B (lent w.it.bytes) (lent w.it.bytes)
        (lent w.it.bytes) c reply_taken reply_coded low

    reply_rests : Rests p ed ver K.kept
    unfolding responds enter
    reply_rests = record { begins = record { held = (responds x z p no_version t).next; number = w.no; load = reply_loads; edition = h.begins.edition; policy = h.begins.policy; idle = refl; timer = refl; user = refl }; version = h.version }

    reply_primitive : (centre_entry K).it.primitive ≡ Some (DStartForwardResponse p no_version)
    unfolding responds invoked_number
    reply_primitive =
        let i = invoked_is p ed ver d at_rest w.no B (lent w.it.bytes) (lent w.it.bytes) (lent w.it.bytes) c reply_taken in
        let v = version_is p ed ver d at_rest w.no B (lent w.it.bytes) (lent w.it.bytes)
        (lent w.it.bytes) c reply_taken (subst (λ (k : ℕ). k < versions) (sym quiet) (omega arith)) in
        ap (λ (k : ℕ). between_centres (version_part K.number) (invoked_of k)) i
        ∙ ap (between_centres (version_part K.number)) (response_back sends (omega (arith, sends_low)))
        ∙ ap (λ (v : ℕ). Some (DStartForwardResponse sends v)) (v ∙ quiet) ∙ ap (λ (s : ℕ). Some (DStartForwardResponse s no_version)) sends_it

    reply_reads : apdu_at ed pdu.GroundPdus (lent (centre_entry K).it.bytes) ≡ Ok (is.ForwardResponse z)
    unfolding responds first_takes apdu_fits pdu_fits pdu_in
    reply_reads =
        let r = put_read x.edition (is.ForwardResponse z) w.it.bytes (lent_first d) sh (d.lends d.kept.calls).first_full in
        let b = bytes_are p ed ver d at_rest w.no B (lent w.it.bytes) (lent w.it.bytes) (lent w.it.bytes)
        c reply_taken (is.ForwardResponse z) sh refl in
        subst (λ (y : Edition). apdu_at y pdu.GroundPdus (lent (centre_entry K).it.bytes) ≡ Ok (is.ForwardResponse z)) h.begins.edition
        (ap (λ (l : List ℕ). apdu_at x.edition pdu.GroundPdus (lent l)) b ∙ r.read ∙ ap Ok
        (response_value _ r.value z r.same))

    reply_good : Good p ed ver (centre_entry K)
    reply_good = a_response z zl reply_primitive reply_reads

    reply_number : is_taken K.number ≡ true
    reply_number = number_taken p ed ver d at_rest w.no B (lent w.it.bytes) (lent w.it.bytes) (lent w.it.bytes) c reply_taken

    -- what is told, and what the answer says
    reply_tells : eqb (told_number t % codes) 8 ≡ eqb z success → Replies ed d K
    unfolding responds
    reply_tells e =
        record {
          result = z;
          reads = reply_reads;
          sends = ap (λ (b : Bool). cond b
              (acts (after d K) (handed_of K) (put_on (centre_entry K) (centre_entry K).it.primitive)) refused)
              reply_number ∙ ap (λ (i : Option Invoked). acts (after d K) (handed_of K) (put_on (centre_entry K) i))
              reply_primitive;
          tells = ap (λ (i : ℕ). eqb (i % codes) 8) (told_is p ed ver d at_rest w.no B (lent w.it.bytes)
              (lent w.it.bytes) (lent w.it.bytes) c reply_taken) ∙ e;
        }

    replied : Answers (centre_machine p) (Rest p ed ver) (Good p ed ver) w (does d K)
    replied =
        taken_does (Answers (centre_machine p) (Rest p ed ver) (Good p ed ver) w) d K reply_number
        (subst (λ (i : Option Invoked). Answers (centre_machine p) (Rest p ed ver) (Good p ed ver) w (acts (after d K) (handed_of K) (put_on (centre_entry K) i))) (sym reply_primitive)
        (record { rest = reply_rests; good = reply_good; plain = ap sort_of reply_primitive; number = ap number_in reply_loads; holds = ap number_in reply_loads }))

  -- whether forwarding is supported or not
  module _ (w : Numbered Wire) (k : ℕ) (kl : ltb k routing_classes ≡ true) (low : w.no < 2 ^ 64) (above : y < w.no) where
    abbrev I : ServicePrimitive
    I = DStartIndication facility p (qos_asked k) ver

    not_stale : is_stale y (Service I Forward) w.no ≡ false
    unfolding is_stale isStartEvent service_starts
    not_stale = rw (lt-ltb y w.no above)

    indication_fits : service_fits I ≡ true
    unfolding service_fits
    indication_fits = rw (
      lt-ltb p security_values valid,
      lt-ltb ver versions
          (subst (λ (v : ℕ). v < versions) h.version keeps.coded.most),
    )

    right : qos_fits (qos_asked k) ≡ true
    unfolding qos_fits
    right = rw kl

    fits : differs (secures x.edition) p x.policy ≡ false
    fits = no_difference (secures x.edition) p x.policy (sym h.begins.policy)

    same_version : eqb ver x.version ≡ true
    same_version = eq-eqb ver x.version (sym h.version)

    -- a property of a call that holds where the forward is answered by success and told, and by "not supported" and not told, holds of it
    forward_answered : (c : Carried) (P : Called → Type 0) → P (Reply w success (Some ForwardIndication) c)
        → P (Reply w service_not_supported None c)
        → P (concluded d.kept.bytes (lent_first d) (lent_second d) x.edition Ground w.no (numbered_step Ground x y (Service I Forward) w.no) (lent w.it.bytes) (lent w.it.bytes) (lent w.it.bytes) c)
    forward_answered c P told untold = subst (λ (o : O.Outcome). P (E o))
        (sym (then_step Ground x y (Service I Forward) w.no not_stale)) (go x.forwards refl)
      where
        E : O.Outcome → Called
        E o = concluded d.kept.bytes (lent_first d) (lent_second d) x.edition Ground w.no o
            (lent w.it.bytes) (lent w.it.bytes) (lent w.it.bytes) c

        go : (b : Bool) → x.forwards ≡ b → P (E (step Ground x (Service I Forward)))
        go true e = subst (λ (o : O.Outcome). P (E o))
            (sym (supported x p ver (qos_asked k) indication_fits idle right fits e same_version)) told
        go false e = subst (λ (o : O.Outcome). P (E o)) (sym (not_supported x p ver (qos_asked k) indication_fits idle right fits e)) untold

  -- what is read
  rest_reads : (k : ℕ) (l : List ℕ) (f : Forwarded) → apdu_at ed pdu.GroundPdus l ≡ Ok (is.Forward f)
      → meaning (read_pdu x.edition Ground x.control (DStartIndication facility p (qos_asked k) ver) l) ≡ Forward
  unfolding read_pdu reads_as reads_again meaning
  rest_reads k l f e = rw (h.begins.edition, e)

  abbrev Heard : Numbered Wire → Called
  Heard w = hears d (arrives Ground w.it.primitive) w.no 1 w.it.bytes

  rest_by : (w : Numbered Wire) (P : Called → Type 0) → Good p ed ver w → is_start (centre_machine p).at w ≡ true
      → y < w.no → ((c : Carried) → w.no < 2 ^ 64 → P (Reply w success (Some ForwardIndication) c))
      → ((c : Carried) → w.no < 2 ^ 64 → P (Reply w service_not_supported None c)) → P (Heard w)
  unfolding held_after isStartEvent service_starts
  rest_by w P (a_response z zl e r) st above told untold = clash (sym st ∙ ap (λ (i : Option Invoked). begins? (sort_of i)) e)
  rest_by w P (a_forward k kl e f r low) st above told untold =
      subst (λ (i : Option Invoked). P (hears d (arrives Ground i) w.no 1 w.it.bytes)) (sym e)
      (subst P (sym (heard_data p ed ver d at_rest (DStartIndication facility p (qos_asked k) ver) w.no w.it.bytes))
      (subst (λ (a : UserData). P (concluded d.kept.bytes (lent_first d) (lent_second d) x.edition Ground w.no (numbered_step Ground x y (Service (DStartIndication facility p (qos_asked k) ver) a) w.no) (lent w.it.bytes) (lent w.it.bytes) (lent w.it.bytes) (carried_by (read_pdu x.edition Ground x.control (DStartIndication facility p (qos_asked k) ver) (lent w.it.bytes)))))
      (sym (rest_reads k (lent w.it.bytes) f r))
      (forward_answered w k kl low above (carried_by (read_pdu x.edition Ground x.control
      (DStartIndication facility p (qos_asked k) ver) (lent w.it.bytes))) P (told (carried_by (read_pdu
      x.edition Ground x.control (DStartIndication facility p (qos_asked k) ver)
      (lent w.it.bytes))) low) (untold (carried_by (read_pdu x.edition Ground x.control
      (DStartIndication facility p (qos_asked k) ver) (lent w.it.bytes))) low))))

  pub rest_answers : (w : Numbered Wire) → Good p ed ver w → is_start (centre_machine p).at w ≡ true → y < w.no
      → Answers (centre_machine p) (Rest p ed ver) (Good p ed ver) w (does d (Heard w))
  unfolding apdu_fits
  rest_answers w g st above =
      rest_by w (λ (c : Called). Answers (centre_machine p) (Rest p ed ver) (Good p ed ver) w (does d c)) g st above
      (λ (c : Carried) (low : w.no < 2 ^ 64). replied w success (Some ForwardIndication) c refl refl refl low)
      (λ (c : Carried) (low : w.no < 2 ^ 64). replied w service_not_supported None c refl refl refl low)

  pub rest_tells : (w : Numbered Wire) → Good p ed ver w → is_start (centre_machine p).at w ≡ true
      → held_by d.kept.bytes < w.no → Replies ed d (Heard w)
  unfolding apdu_fits told_number
  rest_tells w g st above =
      rest_by w (Replies ed d) g st (let e = ap number_in h.begins.load in omega arith)
      (λ (c : Carried) (low : w.no < 2 ^ 64). reply_tells w success (Some ForwardIndication) c refl refl refl low refl)
      (λ (c : Carried) (low : w.no < 2 ^ 64). reply_tells w service_not_supported None c refl refl refl low refl)

  pub rest_stale : (w : Numbered Wire) → Good p ed ver w → is_start (centre_machine p).at w ≡ true → w.no ≤ y
      → Refuses (centre_machine p) (does d (hears d (arrives Ground w.it.primitive) w.no 1 w.it.bytes))
  rest_stale w (a_response z zl e r) st below = clash (sym st ∙ ap (λ (i : Option Invoked). begins? (sort_of i)) e)
  rest_stale w (a_forward k kl e f r low) st below =
      subst (λ (i : Option Invoked). Refuses (centre_machine p) (does d (hears d (arrives Ground i) w.no 1 w.it.bytes))) (sym e)
      (heard_stale p ed ver d at_rest (DStartIndication facility p (qos_asked k) ver) w.no w.it.bytes
      (start_stale p ed ver d at_rest facility p (qos_asked k) ver w.no below))
