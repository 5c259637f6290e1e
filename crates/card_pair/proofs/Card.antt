-- Demand 3 of the definitions that the exported calls' contracts cite: two cards, a carrier, and bytes on the lines.
-- Assumes nothing.
use mathlib.Core.Path.{◌≡◌, refl, ap, subst}
use mathlib.Core.List.{List, ◌∷◌, ◌++◌}
use Prim.Native.Nat.{ℕ, ◌≤◌, ◌<◌}
use native.Mathlib.Omega.{arith}
use borrow.Author.Tests.{lt-ltb}
use lib.Dec.{T, ltb}
use lib.ListN.{length}
use Rattle.editions.specs.Editions.{secures, type_of}
use Rattle.editions.specs.declared.Edition.{Edition}
use Rattle.editions.specs.declared.Edition.TheVariants.{Plain, Protected}
use Rattle.machine.specs.Codes.{security_values, no_security, versions}
use Rattle.machine.specs.Calls.{security_sent}
use Rattle.machine.specs.declared.record.Record.{Record}
use Rattle.machine.specs.declared.event.Event.TheVariants.{TimerExpires, UnrecoverableSystemError}
use Rattle.machine.specs.declared.event.ServicePrimitive.TheVariants.{DPAbortIndication}
use Rattle.stored.specs.Stored.{record_bytes}
use Rattle.step.proofs.Refusing.{Leaves, user_leaves}
use Rattle.card.specs.Face.{fresh_call}
use Rattle.pair.specs.Names.{Side, Air, Ground, other}
use Rattle.pair.specs.Carrier.{Turn}
use Rattle.pair.specs.Numbered.{NSys, Numbered, mark, not_below, n_fresh, n_run}
use Rattle.pair.specs.Wires.{Wire, sort_of, rejects}
use Rattle.pair.proofs.StepMachine.{Order}
use Rattle.pair.proofs.Agree.{does}
use Rattle.pair.proofs.NumberedClaims.{NQuiet, n_taken_once}
use Rattle.pair.proofs.NumberedSimulate.{NAgree, NRunRel, n_followed, n_carried, n_quiet_through}
use Rattle.pair.proofs.NumberedStepAgrees.{step_numbered, numbered_holds, numbered_local, numbered_silent}
use Rattle.card_pair.specs.CardMachine.{Buffers, Asked, start_request_of, start_response_of, message_request_of, end_request_of, end_response_of, user_abort_of, answered, Kept, newly, control_in, card_machine}
use Rattle.card_pair.specs.Promise.{Begins, Promise}
use Rattle.card_pair.proofs.Codec.{card_codec, true_holds}
use Rattle.card_pair.proofs.Ends.{number_in}
use Rattle.card_pair.proofs.Entries.{KeepsAt, Carries}
use Rattle.card_pair.proofs.CardCalls.{call_rel, report_rel}
use Rattle.card_pair.proofs.CardReceives.{receive_rel, made_rel}
use Rattle.card_pair.proofs.Beginnings.{begins_keeps, begins_idle, begins_local, begins_valid, fresh_begins, fresh_highest, fresh_number}

-- What the machine says of a refused call is what the call does: the record's bytes and both buffers stay. (Of a primitive, an expiry and a system
-- error: crate step, Refusing.)
pub answered_leaves : (p : ℕ) (w : Buffers) (r : List ℕ) (a : Asked) → Leaves r w.first w.second (answered p w r a)
answered_leaves p w r (start_request_of v m k g) = user_leaves r w.first w.second _ _ _ _ _ _
answered_leaves p w r (start_response_of m x g) = user_leaves r w.first w.second _ _ _ _ _ _
answered_leaves p w r (message_request_of j g) = user_leaves r w.first w.second _ _ _ _ _ _
answered_leaves p w r (end_request_of m g) = user_leaves r w.first w.second _ _ _ _ _ _
answered_leaves p w r (end_response_of m x g) = user_leaves r w.first w.second _ _ _ _ _ _
answered_leaves p w r (user_abort_of x) = user_leaves r w.first w.second _ _ _ _ _ _

-- p: the security value of both ends; ed: their edition; host: the buffers that a side lends to each call, of full size and with any bytes in them
module _ (p : ℕ) (ed : Edition) (host : Side → ℕ → Buffers) where
  -- the exported calls do at bytes what the machines' steps do at records, with the card's own codec
  abbrev pub agrees : NAgree (card_machine p host) (step_numbered (card_codec ed) p)
  agrees = record {
    agree = record {
      RR = KeepsAt ed;
      EE = Carries ed;
      ctl_is = λ (sd : Side) (r : Kept) (q : Numbered Record) (h : KeepsAt ed sd r q). ap control_in h.load;
      sort_is = λ (sd : Side) (e f : Numbered Wire) (h : Carries ed sd e f). ap sort_of h.primitive;
      call_is = λ (sd : Side) (r : Kept) (q : Numbered Record) (a : Asked) (h : KeepsAt ed sd r q). call_rel p
          r.calls r.bytes (host sd r.calls) ed sd q.it q.no h a;
      receive_is = λ (sd : Side) (r : Kept) (q : Numbered Record) (e f : Numbered Wire) (h : KeepsAt ed sd r q)
          (x : Carries ed (other sd) e f). receive_rel r.calls r.bytes (host sd r.calls) ed sd q.it q.no
          h e f x;
      expiry_is = λ (sd : Side) (r : Kept) (q : Numbered Record) (h : KeepsAt ed sd r q). does tt (report_rel p
          r.calls r.bytes (host sd r.calls) ed sd q.it q.no h TimerExpires tt refl refl refl refl);
      error_is = λ (sd : Side) (r : Kept) (q : Numbered Record) (h : KeepsAt ed sd r q). does tt (report_rel p
          r.calls r.bytes (host sd r.calls) ed sd q.it q.no h UnrecoverableSystemError tt refl refl
          refl refl);
      away_is = λ (sd : Side) (r : Kept) (q : Numbered Record) (h : KeepsAt ed sd r q). made_rel r.calls r.bytes
          (host sd r.calls) ed sd q.it q.no h rejects tt;
      p_abort_is_law = λ (sd : Side) (r : Kept) (q : Numbered Record) (h : KeepsAt ed sd r q). made_rel r.calls
          r.bytes (host sd r.calls) ed sd q.it q.no h DPAbortIndication tt;
    };
    holds_is = λ (sd : Side) (r : Kept) (q : Numbered Record) (h : KeepsAt ed sd r q). ap number_in h.load;
    carries_is = λ (sd : Side) (e f : Numbered Wire) (h : Carries ed sd e f). h.number;
  }

  -- ---- from any two IDLE records of the edition, as the host keeps them. All starts come from one side, whose record holds a number not below the other's. An edition
  -- without security values sends none, so its ends' value is that one (fair)

  module _ (fair : security_sent (secures ed) p ≡ p) (from : Side) (r q : List ℕ) (a : Begins p ed Air r) (g : Begins p ed Ground q) (b : not_below from a.number g.number) where
    abbrev pub after : List (Turn Asked) → NSys (card_machine p host)
    after ts = n_run (card_machine p host) from (n_fresh (card_machine p host) (newly r) (newly q)) ts

    abbrev air_end : Numbered Record
    air_end = mark a.number a.held

    abbrev ground_end : Numbered Record
    ground_end = mark g.number g.held

    valued : T (ltb p security_values)
    valued = true_holds (ltb p security_values) (lt-ltb p security_values (begins_valid p ed Air r a))

    follows : (ts : List (Turn Asked))
        → NRunRel (card_machine p host) (step_numbered (card_codec ed) p) agrees from (after ts) (n_fresh (step_numbered (card_codec ed) p) air_end ground_end)
    follows ts = n_followed (card_machine p host) (step_numbered (card_codec ed) p) agrees from (newly r) (newly q) air_end
        ground_end (begins_keeps p ed Air r a) (begins_keeps p ed Ground q g) ts

    abbrev stepped : List (Turn (Numbered Order)) → NSys (step_numbered (card_codec ed) p)
    stepped us = n_run (step_numbered (card_codec ed) p) from (n_fresh (step_numbered (card_codec ed) p) air_end ground_end) us

    -- THE theorem: after any steps both ends' bytes are records of their side and edition; the ends match where nothing is on its way; in each dialogue what was
    -- handed out is, in order, the first of what was taken, and all of it where nothing is on its way and nothing broke that dialogue; and each record takes its
    -- jobs in rising order, from the highest that it had taken
    pub cards_hold : (ts : List (Turn Asked)) → Promise p ed host a.held.highest g.held.highest (after ts)
    cards_hold ts =
        let f = follows ts in
        let l = numbered_local (card_codec ed) ed p fair valued from a.number g.number a.held g.held
        (begins_local p ed Air r a) (begins_idle p ed Air r a) (begins_local p ed Ground q g)
        (begins_idle p ed Ground q g) b f.turns in
        let c = numbered_holds (card_codec ed) ed p fair valued from a.number g.number a.held g.held
        (begins_local p ed Air r a) (begins_idle p ed Air r a) (begins_local p ed Ground q g)
        (begins_idle p ed Ground q g) b f.turns in
        record {
          air = record { held = _; number = _; load = f.rel.here.rec.load; edition = l.0.edition; policy = l.0.policy; formed = l.0.formed };
          ground = record { held = _; number = _; load = f.rel.there.rec.load; edition = l.1.edition; policy = l.1.policy; formed = l.1.formed };
          claims = n_carried (card_machine p host) (step_numbered (card_codec ed) p) agrees (after ts) (stepped f.turns) f.rel c;
        }

    -- so no job is taken twice by one record over its whole life
    pub cards_take_once : (ts : List (Turn Asked)) (xs ys zs : List ℕ) (j : ℕ)
        → ((after ts).here.jobs ≡ xs ++ (j ∷ (ys ++ (j ∷ zs))) → ⊥) × ((after ts).there.jobs ≡ xs ++ (j ∷ (ys ++ (j ∷ zs))) → ⊥)
    cards_take_once ts xs ys zs j = n_taken_once (card_machine p host) (after ts) (cards_hold ts).claims xs ys zs j

    -- and no card answers what the other card sent by a D-ABORT: it discards it, refuses it as stale, or has an action for it
    pub cards_quiet : (ts : List (Turn Asked)) → NQuiet (card_machine p host) (after ts)
    cards_quiet ts =
        let f = follows ts in
        n_quiet_through (card_machine p host) (step_numbered (card_codec ed) p) agrees (after ts) (stepped f.turns) f.rel
        (numbered_silent (card_codec ed) ed p fair valued from a.number g.number a.held g.held
        (begins_local p ed Air r a) (begins_idle p ed Air r a) (begins_local p ed Ground q g)
        (begins_idle p ed Ground q g) b f.turns)

  -- two records that peat_fresh made, in any two ranges of a record's size, each with its own word about forwarding (e, f) and its own version (m, n); either side may be
  -- the one that starts
  module _ (fair : security_sent (secures ed) p ≡ p) (from : Side) (v : p < security_values) (e m f n : ℕ) (we : e ≤ 1) (lm : 1 ≤ m) (hm : m < versions) (wf : f ≤ 1) (ln : 1 ≤ n) (hn : n < versions) (r q : List ℕ) (hr : length r ≡ record_bytes) (hq : length q ≡ record_bytes) where
    abbrev air_fresh : Begins p ed Air (fresh_call r 1 p e m (type_of ed)).bytes
    air_fresh = fresh_begins p ed e m Air r v we lm hm hr

    abbrev ground_fresh : Begins p ed Ground (fresh_call q 2 p f n (type_of ed)).bytes
    ground_fresh = fresh_begins p ed f n Ground q v wf ln hn hq

    pub both_zero : (from : Side) (n k : ℕ) → n ≡ 0 → k ≡ 0 → not_below from n k
    both_zero Air n k x y = omega arith
    both_zero Ground n k x y = omega arith

    abbrev not_below_is : not_below from air_fresh.number ground_fresh.number
    not_below_is = both_zero from air_fresh.number ground_fresh.number (fresh_number p ed e m Air r v we lm hm hr)
        (fresh_number p ed f n Ground q v wf ln hn hq)

    abbrev pub fresh_after : List (Turn Asked) → NSys (card_machine p host)
    fresh_after = after fair from (fresh_call r 1 p e m (type_of ed)).bytes (fresh_call q 2 p f n (type_of ed)).bytes
        air_fresh ground_fresh not_below_is

    pub fresh_cards_hold : (ts : List (Turn Asked)) → Promise p ed host 0 0 (fresh_after ts)
    fresh_cards_hold ts =
        subst (λ (i : ℕ). Promise p ed host i 0 (fresh_after ts)) (fresh_highest p ed e m Air r v we lm hm hr)
        (subst (λ (j : ℕ). Promise p ed host air_fresh.held.highest j (fresh_after ts))
        (fresh_highest p ed f n Ground q v wf ln hn hq) (cards_hold fair from
        (fresh_call r 1 p e m (type_of ed)).bytes (fresh_call q 2 p f n (type_of ed)).bytes air_fresh
        ground_fresh not_below_is ts))

-- ---- the two editions by name

-- two cards of type 22, with any security value
pub protected_cards_hold : (p : ℕ) (host : Side → ℕ → Buffers) (from : Side) (r q : List ℕ)
    (a : Begins p Protected Air r) (g : Begins p Protected Ground q) (b : not_below from a.number g.number)
    (ts : List (Turn Asked))
    → Promise p Protected host a.held.highest g.held.highest (after p Protected host refl from r q a g b ts)
protected_cards_hold p host from r q a g b ts = cards_hold p Protected host refl from r q a g b ts

-- two cards of type 2, which has none
pub plain_cards_hold : (host : Side → ℕ → Buffers) (from : Side) (r q : List ℕ) (a : Begins no_security Plain Air r)
    (g : Begins no_security Plain Ground q) (b : not_below from a.number g.number) (ts : List (Turn Asked))
    → Promise no_security Plain host a.held.highest g.held.highest (after no_security Plain host refl from r q a g b ts)
plain_cards_hold host from r q a g b ts = cards_hold no_security Plain host refl from r q a g b ts
