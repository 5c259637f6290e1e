-- Two ground cards: what a call leaves of a ground record's bytes, and what it puts on the line.
-- Assumes nothing.
use mathlib.Core.Path.{◌≡◌, refl, ap, sym, subst, ◌∙◌}
use mathlib.Core.Bool.{Bool, true, false, not, cond}
use mathlib.Core.List.{List, []}
use Prim.Native.Nat.{ℕ, ◌^◌, ◌≤◌, ◌<◌}
use native.Mathlib.Omega.{arith}
use borrow.Author.Tests.{eq-eqb, ne_eqb, le-leb, lt-ltb, le-ltb}
use lib.Dec.{ltb}
use lib.ListN.{length, take}
use Rattle.bits.specs.Put.{put_bits}
use Rattle.editions.specs.declared.Edition.{Edition}
use Rattle.apdu.specs.Pdus.{lent, pdu_in}
use Rattle.apdu.specs.Encoding.{padded, bytes_for}
use Rattle.apdu.specs.Writing.{done}
use Rattle.pdus.specs.declared.PduType.TheVariants as pdu
use Rattle.apdu.specs.declared.Data.{Data}
use Rattle.apdu.specs.declared.Apdu.{Apdu}
use Rattle.apdu.proofs.Theorems.{writes}
use Rattle.codec.specs.Codec.{pdu_bits, given_fits, apdu_fits}
use Rattle.codec.proofs.Instance.{laws}
use Rattle.machine.specs.Codes.{security_values, routing_classes, versions}
use Rattle.machine.specs.Record.{enter}
use Rattle.machine.specs.Event.{event_fits}
use Rattle.machine.specs.Outcome.{is_none}
use Rattle.machine.specs.Outcome as N
use Rattle.machine.specs.Exceptions.{closes, aborts}
use Rattle.machine.specs.Calls.{sent, user_abort, call_of}
use Rattle.machine.specs.Primitives.{reached}
use Rattle.machine.specs.Step.{permitted, acts as clause, step}
use Rattle.clauses.proofs.Clauses.{service_taken}
use Rattle.machine.specs.declared.record.Record.{Record}
use Rattle.machine.specs.declared.event.Qos.{Qos}
use Rattle.machine.specs.declared.event.UserData.{UserData}
use Rattle.machine.specs.declared.event.UserData.TheVariants.{Absent}
use Rattle.machine.specs.declared.event.UserPrimitive.{UserPrimitive}
use Rattle.machine.specs.declared.event.ServicePrimitive.{ServicePrimitive}
use Rattle.machine.specs.declared.event.ServicePrimitive.TheVariants.{DStartIndication, DStartConfirmation}
use Rattle.machine.specs.declared.event.Event.{Event}
use Rattle.machine.specs.declared.event.Event.TheVariants.{User, Service}
use Rattle.machine.specs.declared.event.Event.TheVariants.{Forward as ForwardRequested}
use Rattle.machine.specs.declared.outcome.StepRefusal.TheVariants.{Shape, Stale, Prohibited}
use Rattle.machine.specs.declared.outcome.Invoked.{Invoked}
use Rattle.machine.specs.declared.outcome.Invoked.TheVariants.{DStartRequest, DStartResponse, DDataRequest, DEndRequest, DEndResponse, DAbortRequest, DStartForwardRequest, DStartForwardResponse}
use Rattle.machine.specs.declared.outcome.Told.{Told}
use Rattle.machine.specs.declared.outcome.Outcome as O
use Rattle.numbered.specs.Numbers.{service_starts, is_start as isStartEvent, is_service, is_stale, held_after, refusal_of, numbered_step}
use Rattle.numbered.proofs.Laws.{shape_first, then_step}
use Rattle.stored.specs.Stored.{record_bytes, load_at, store_at, is_stored}
use Rattle.packed.specs.Packed.{invoked_number, told_number, version_number}
use Rattle.step.specs.Call.{Carried, Called, called as calledWith, carries_data, carried_by, no_data, bits_of_written, pdu_to, first_takes, passes, second_takes, finished, concluded, entering, event_step, user_step, user_call, user_by, read_pdu, meaning, data_step, bare_step, service_step, service_by}
use Rattle.stored.proofs.Storing.{length_stored, loaded_stored}
use Rattle.step.proofs.Calling.{with_record_is}
use Rattle.packed.proofs.Unpacked.{invoked_low, told_low, refusal_unpacked, invoked_unpacked, told_unpacked, sent_unpacked, version_unpacked}
use Rattle.step.proofs.Taken.{Coded}
use Rattle.pair.specs.Names.{Side, Ground, closed, takes}
use Rattle.pair.specs.Carrier.{Sent, Outcome, refused, acts, begins?, starts}
use Rattle.pair.specs.Numbered.{Numbered}
use Rattle.pair.specs.Wires.{Wire, sort_of}
use Rattle.pair.proofs.TwoCentres.{Back, Returns, Comes, Refuses}
use Rattle.card_pair.specs.Answered.{is_taken, invoked_part, told_part_of, invoked_of, entry_of, handed_of}
use Rattle.card_pair.specs.CardMachine.{held_by, put_on}
use Rattle.card_pair.specs.CentreMachine.{Desk, version_part, between_centres, centre_entry, after, does, lent_first, lent_second, hears, reports, centre_machine}
use Rattle.card_pair.specs.Promise.{Rests}
use Rattle.card_pair.proofs.Ends.{number_in, concluded_refused}
use Rattle.card_pair.proofs.CardCalls.{none_given}
use Rattle.std.specs.Prelude.{Ok, None, Option, Some}

-- ---- a call that is taken, or not

pub taken_does : (P : Outcome Desk (Numbered Wire) → Type 0) (d : Desk) (c : Called) → is_taken c.number ≡ true
    → P (acts (after d c) (handed_of c) (put_on (centre_entry c) (centre_entry c).it.primitive)) → P (does d c)
taken_does P d c e x = subst (λ (b : Bool). P
    (cond b (acts (after d c) (handed_of c) (put_on (centre_entry c) (centre_entry c).it.primitive)) refused)) (sym e)
    x

refused_does : (P : Outcome Desk (Numbered Wire) → Type 0) (d : Desk) (c : Called) → is_taken c.number ≡ false → P refused → P (does d c)
refused_does P d c e x = subst (λ (b : Bool). P
    (cond b (acts (after d c) (handed_of c) (put_on (centre_entry c) (centre_entry c).it.primitive)) refused)) (sym e)
    x

-- what is put on the line is no start where its primitive begins nothing
put_calm : (p : ℕ) (e : Numbered Wire) → begins? (sort_of e.it.primitive) ≡ false
    → starts (centre_machine p).at (put_on e e.it.primitive) ≡ false
put_calm p e b = go e.it.primitive
  where
    go : (i : Option Invoked) → starts (centre_machine p).at (put_on e i) ≡ false
    go None = refl
    go (Some (DStartRequest q s)) = b
    go (Some (DStartResponse x s)) = b
    go (Some DDataRequest) = b
    go (Some DEndRequest) = b
    go (Some (DEndResponse x)) = b
    go (Some (DAbortRequest o)) = b
    go (Some (DStartForwardRequest q s v)) = b
    go (Some (DStartForwardResponse s v)) = b

-- ---- outcomes that end in IDLE and begin nothing

pub record Shut (q : Record) (o : O.Outcome) : Type 0 where
  pub taken : is_none o.refusal ≡ true
  pub control : o.next.control ≡ closed
  pub timer : o.next.timer ≡ false
  pub user : o.next.active ≡ false
  pub policy : o.next.policy ≡ q.policy
  pub version : o.next.version ≡ q.version
  pub edition : o.next.edition ≡ q.edition
  pub coded : Coded o.next
  pub calm : (v : ℕ) → begins? (sort_of (between_centres v (invoked_of (invoked_number o.invoked)))) ≡ false

pub closes_shut : (q : Record) (t : Option Told) → Coded q → Shut q (closes q t)
unfolding closes enter invoked_number
closes_shut q t k =
    record { taken = refl; control = refl; timer = refl; user = refl; policy = refl; version = refl; edition = refl; coded = record { request = k.request; policy = k.policy; least = k.least; most = k.most; highest = k.highest }; calm = λ (v : ℕ). refl }

pub aborts_shut : (q : Record) (x : ℕ) (t : Option Told) → Coded q → Shut q (aborts q x t)
unfolding aborts enter invoked_number
aborts_shut q x t k =
    record { taken = refl; control = refl; timer = refl; user = refl; policy = refl; version = refl; edition = refl; coded = record { request = k.request; policy = k.policy; least = k.least; most = k.most; highest = k.highest }; calm = λ (v : ℕ). refl }

pub abort_shut : (q : Record) (g : Bool) (x : ℕ) → Coded q → Shut q (user_abort q g x)
unfolding user_abort sent enter invoked_number
abort_shut q g x k =
    record { taken = refl; control = refl; timer = refl; user = refl; policy = refl; version = refl; edition = refl; coded = record { request = k.request; policy = k.policy; least = k.least; most = k.most; highest = k.highest }; calm = λ (v : ℕ). refl }

-- ---- a record at its bytes

-- the bytes are those of a ground record of edition ed that accepts p and has the version ver
pub record At (p : ℕ) (ed : Edition) (ver : ℕ) (d : Desk) : Type 0 where
  pub held : Record
  pub number : ℕ
  pub load : load_at d.kept.bytes ≡ is_stored Ground held number
  pub size : length d.kept.bytes ≡ record_bytes
  pub coded : Coded held
  pub low : number < 2 ^ 64
  pub policy : held.policy ≡ p
  pub version : held.version ≡ ver
  pub edition : held.edition ≡ ed

module _ (p : ℕ) (ed : Edition) (ver : ℕ) (d : Desk) (at : At p ed ver d) where
  abbrev pub q : Record
  q = at.held

  abbrev n : ℕ
  n = at.number

  pub at_record : (k : Side → Record → ℕ → Called) → entering d.kept.bytes (lent_first d) (lent_second d) k ≡ k Ground q n
  at_record k =
      sym (with_record_is d.kept.bytes (lent_first d) (lent_second d) k (d.lends d.kept.calls).first_full
      (d.lends d.kept.calls).second_full (load_at d.kept.bytes) refl Ground q n (k Ground q n)
      at.load refl)

  pub held_is : held_by d.kept.bytes ≡ n
  held_is = ap number_in at.load

  abbrev pub Ended : ℕ → O.Outcome → List ℕ → List ℕ → List ℕ → Carried → Called
  Ended m o li lm lc x = concluded d.kept.bytes (lent_first d) (lent_second d) at.held.edition Ground m o li lm lc x

  pub stored_loads : (x : Record) (m : ℕ) → Coded x → m < 2 ^ 64
      → (load_at (store_at d.kept.bytes Ground x m).bytes ≡ is_stored Ground x m) × (length (store_at d.kept.bytes Ground x m).bytes ≡ record_bytes)
  unfolding store_at
  stored_loads x m k l =
      rw (
        eq-eqb (length d.kept.bytes) record_bytes at.size,
        lt-ltb x.request security_values k.request,
        lt-ltb x.policy security_values k.policy,
        le-leb 1 x.version k.least,
        lt-ltb x.version
            versions k.most,
      )
      (loaded_stored Ground x m k l, length_stored Ground x m k l)

  module _ (m : ℕ) (o : O.Outcome) (li lm lc : List ℕ) (x : Carried) (t : is_none o.refusal ≡ true) where
    pub number_taken : is_taken (Ended m o li lm lc x).number ≡ true
    unfolding concluded finished
    number_taken = rw t (eq-eqb _ 0 (refusal_unpacked _ _ _ _ _))

    pub kept_is : (Ended m o li lm lc x).kept ≡ (store_at d.kept.bytes Ground o.next m).bytes
    unfolding concluded finished
    kept_is = rw t

    pub invoked_is : invoked_part (Ended m o li lm lc x).number ≡ invoked_number o.invoked
    unfolding concluded finished
    invoked_is = rw t (invoked_unpacked _ _ _ _ _ (invoked_low o.invoked))

    pub told_is : told_part_of (Ended m o li lm lc x).number ≡ told_number o.told
    unfolding concluded finished
    told_is = rw t (told_unpacked _ _ _ _ _ (invoked_low o.invoked) (told_low o.told))

    pub loads_next : Coded o.next → m < 2 ^ 64 → load_at (Ended m o li lm lc x).kept ≡ is_stored Ground o.next m
    loads_next k l = ap load_at kept_is ∙ (stored_loads o.next m k l).0

    -- the version, and the bytes that were written
    pub version_is : version_number o.invoked o.told < versions
        → version_part (Ended m o li lm lc x).number ≡ version_number o.invoked o.told
    unfolding concluded finished
    version_is h = rw t (version_unpacked _ _ _ _ _ (invoked_low o.invoked) (told_low o.told) h)

    pub bytes_are : (a : Apdu) → apdu_fits q.edition pdu.GroundPdus li lm lc a ≡ true
        → first_takes q.edition Ground li lm lc x o.apdu (lent_first d) ≡ pdu_to q.edition pdu.GroundPdus li lm lc a (lent_first d)
        → (entry_of (Ended m o li lm lc x)).bytes ≡ take
        (bytes_for (length (pdu_bits q.edition pdu.GroundPdus (pdu_in li lm lc a))))
        (put_bits (lent_first d) 0 (padded (pdu_bits q.edition pdu.GroundPdus (pdu_in li lm lc a))))
    unfolding concluded finished
    bytes_are a sh e =
        let w = (laws q.edition).pdu_most_is pdu.GroundPdus li lm lc a sh in
        let z : pdu_to q.edition pdu.GroundPdus li lm lc a (lent_first d) ≡ done
        (Ok (length (pdu_bits q.edition pdu.GroundPdus (pdu_in li lm lc a))))
        (put_bits (lent_first d) 0 (padded (pdu_bits q.edition pdu.GroundPdus (pdu_in li lm lc a)))) = rw sh (writes
        (lent_first d) (pdu_bits q.edition pdu.GroundPdus (pdu_in li lm lc a))
        (d.lends d.kept.calls).first_full) in
        rw (
          t,
          e,
          z,
          sent_unpacked (invoked_number o.invoked) (told_number o.told)
              (length (pdu_bits q.edition pdu.GroundPdus (pdu_in li lm lc a))) (bits_of_written
              (second_takes q.edition li lm lc x (passes o.told) o.delivers (lent_second d)).answer)
              (version_number o.invoked o.told) (invoked_low o.invoked) (told_low o.told) (omega arith),
        )

  -- ---- back to rest

  module _ (o : O.Outcome) (li lm lc : List ℕ) (x : Carried) (s : Shut q o) where
    pub shut_back : (z : Sent (Numbered Wire)) → starts (centre_machine p).at z ≡ false
        → Back (centre_machine p) (λ (e : Desk). Rests p ed ver e.kept.bytes) d (after d (Ended n o li lm lc x)) z
    shut_back z b =
        let l = loads_next n o li lm lc x s.taken s.coded at.low in
        record {
          rest = record { begins = record { held = o.next; number = n; load = l; edition = s.edition ∙ at.edition; policy = s.policy ∙ at.policy; idle = s.control; timer = s.timer; user = s.user }; version = s.version ∙ at.version };
          calm = b;
          holds = ap number_in l ∙ sym held_is;
        }

    shut_calm : starts (centre_machine p).at
        (put_on (centre_entry (Ended n o li lm lc x)) (centre_entry (Ended n o li lm lc x)).it.primitive) ≡ false
    shut_calm =
        put_calm p (centre_entry (Ended n o li lm lc x))
        (ap (λ (i : ℕ). begins? (sort_of (between_centres (version_part (Ended n o li lm lc x).number) (invoked_of i))))
        (invoked_is n o li lm lc x s.taken) ∙ s.calm (version_part (Ended n o li lm lc x).number))

    pub shut_comes : Comes (centre_machine p) (λ (e : Desk). Rests p ed ver e.kept.bytes) d (does d (Ended n o li lm lc x))
    shut_comes = taken_does (Comes (centre_machine p) (λ (e : Desk). Rests p ed ver e.kept.bytes) d) d
        (Ended n o li lm lc x) (number_taken n o li lm lc x s.taken) (shut_back _ shut_calm)

  -- if it is taken
  pub shut_returns : (o : O.Outcome) (li lm lc : List ℕ) (x : Carried) → (is_none o.refusal ≡ true → Shut q o)
      → Returns (centre_machine p) (λ (e : Desk). Rests p ed ver e.kept.bytes) d (does d (Ended n o li lm lc x))
  shut_returns o li lm lc x f = go (is_none o.refusal) refl
    where
      go : (b : Bool) → is_none o.refusal ≡ b
          → Returns (centre_machine p) (λ (e : Desk). Rests p ed ver e.kept.bytes) d (does d (Ended n o li lm lc x))
      go true e =
          let s = f e in
          taken_does (Returns (centre_machine p) (λ (z : Desk). Rests p ed ver z.kept.bytes) d) d
          (Ended n o li lm lc x) (number_taken n o li lm lc x e)
          (shut_back o li lm lc x s _ (shut_calm o li lm lc x s))
      go false e = refused_does (Returns (centre_machine p) (λ (z : Desk). Rests p ed ver z.kept.bytes) d) d
          (Ended n o li lm lc x) (concluded_refused _ _ _ _ Ground n o li lm lc x e) tt

  -- a call that the machine refuses
  pub refused_call : (P : Outcome Desk (Numbered Wire) → Type 0) (m : ℕ) (o : O.Outcome) (li lm lc : List ℕ) (x : Carried)
      → is_none o.refusal ≡ false → P refused → P (does d (Ended m o li lm lc x))
  refused_call P m o li lm lc x e z = refused_does P d (Ended m o li lm lc x) (concluded_refused _ _ _ _ Ground m o li lm lc x e) z

  -- ---- the calls, as far as the step

  pub heard_data : (a : ServicePrimitive) (v : ℕ) (s : List ℕ)
      → hears d a v 1 s ≡ event_step numbered_step d.kept.bytes (lent_first d) (lent_second d) (Service a (meaning (read_pdu q.edition Ground q.control a (lent s)))) v (lent s) (lent s) (lent s) (carried_by (read_pdu q.edition Ground q.control a (lent s))) Ground q n
  unfolding service_by service_step data_step
  heard_data a v s = at_record (service_step numbered_step d.kept.bytes (lent_first d) (lent_second d) a v 1 (lent s))

  pub heard_bare : (a : ServicePrimitive) (v : ℕ)
      → hears d a v 0 [] ≡ event_step numbered_step d.kept.bytes (lent_first d) (lent_second d) (Service a Absent) v (lent []) (lent []) (lent []) (carries_data no_data) Ground q n
  unfolding service_by service_step bare_step
  heard_bare a v = at_record (service_step numbered_step d.kept.bytes (lent_first d) (lent_second d) a v 0 (lent []))

  pub reported : (e : Event)
      → reports d e ≡ event_step numbered_step d.kept.bytes (lent_first d) (lent_second d) e 0 (lent []) (lent []) (lent []) (carries_data no_data) Ground q n
  unfolding user_by user_step
  reported e = at_record
      (user_step numbered_step d.kept.bytes (lent_first d) (lent_second d) e 0 (lent []) (lent []) (lent []) no_data) ∙
      rw (none_given q.edition pdu.GroundPdus (lent []) (lent []) (lent []))

  -- a primitive with the number that the record holds
  pub own_number : (a : ServicePrimitive) (x : UserData) → event_fits Ground q.edition (Service a x) ≡ true
      → service_starts a ≡ false → numbered_step Ground q n (Service a x) n ≡ reached Ground q a x
  unfolding is_stale isStartEvent is_service
  own_number a x sh st = then_step Ground q n (Service a x) n (rw (st, eq-eqb n n refl)) ∙ service_taken Ground q a x sh

  -- not stale, so the machine's step
  pub no_number : (e : Event) → is_stale n e 0 ≡ false → numbered_step Ground q n e 0 ≡ step Ground q e
  no_number e h = then_step Ground q n e 0 h

  -- ---- refused

  pub unpermitted : (e : Event) (v : ℕ) → permitted Ground q e ≡ false → is_none (numbered_step Ground q n e v).refusal ≡ false
  unfolding numbered_step refusal_of
  unpermitted e v h = rw h (go (event_fits Ground q.edition e) (is_stale n e v) (clause Ground q e))
    where
      go : (s l : Bool) (a : O.Outcome)
          → is_none (cond (is_none (cond (not s) (Some Shape) (cond l (Some Stale) (Some Prohibited)))) a (N.refused (cond (not s) (Some Shape) (cond l (Some Stale) (Some Prohibited))) q)).refusal ≡ false
      go true true a = refl
      go true false a = refl
      go false l a = refl

  stale_refused : (e : Event) (v : ℕ) → is_stale n e v ≡ true → is_none (numbered_step Ground q n e v).refusal ≡ false
  unfolding numbered_step refusal_of
  stale_refused e v h = rw h (go (event_fits Ground q.edition e) (clause Ground q e))
    where
      go : (s : Bool) (a : O.Outcome)
          → is_none (cond (is_none (cond (not s) (Some Shape) (Some Stale))) a (N.refused (cond (not s) (Some Shape) (Some Stale)) q)).refusal ≡ false
      go true a = refl
      go false a = refl

  pub not_fitting : (e : Event) (v : ℕ) → event_fits Ground q.edition e ≡ false → is_none (numbered_step Ground q n e v).refusal ≡ false
  not_fitting e v h = ap (λ (o : O.Outcome). is_none o.refusal) (shape_first Ground q n e v h)

  -- a user call that the machine does not permit
  pub user_refused : (P : Outcome Desk (Numbered Wire) → Type 0) (u : UserPrimitive) (v : ℕ) (ids msgs checks : List ℕ) (x : Data)
      → takes Ground q.control (call_of u) ≡ false → P refused
      → P (does d (user_call d.kept.bytes (lent_first d) (lent_second d) (User u) v ids msgs checks x))
  unfolding user_by user_step permitted
  user_refused P u v ids msgs checks x h z =
      subst (λ (c : Called). P (does d c)) (sym (at_record (user_step numbered_step d.kept.bytes (lent_first d)
      (lent_second d) (User u) v (lent ids) (lent msgs) (lent checks) x)))
      (go (given_fits q.edition pdu.GroundPdus (lent ids) (lent msgs) (lent checks) x))
    where
      go : (b : Bool)
          → P (does d (cond b (event_step numbered_step d.kept.bytes (lent_first d) (lent_second d) (User u) v (lent ids) (lent msgs) (lent checks) (carries_data x) Ground q n) (calledWith 2 d.kept.bytes (lent_first d) (lent_second d))))
      go true = refused_call P (held_after n (User u) v) (numbered_step Ground q n (User u) v) (lent ids) (lent msgs)
          (lent checks) (carries_data x) (unpermitted (User u) v h) z
      go false = z

  -- a forward request with a number that is not above, or with a class that there is none
  pub forward_stale : (k v : ℕ) → ltb n v ≡ false → is_none (numbered_step Ground q n (ForwardRequested k p) v).refusal ≡ false
  unfolding is_stale isStartEvent
  forward_stale k v lt = stale_refused (ForwardRequested k p) v (ap not lt)

  pub forward_not_fitting : (k v : ℕ) → ltb k routing_classes ≡ false
      → is_none (numbered_step Ground q n (ForwardRequested k p) v).refusal ≡ false
  unfolding event_fits
  forward_not_fitting k v e = not_fitting (ForwardRequested k p) v (rw e)

  -- an entry of another number
  pub heard_stale : (a : ServicePrimitive) (v : ℕ) (s : List ℕ) → ((b : UserData) → is_stale n (Service a b) v ≡ true)
      → Refuses (centre_machine p) (does d (hears d a v 1 s))
  heard_stale a v s f =
      subst (λ (c : Called). Refuses (centre_machine p) (does d c)) (sym (heard_data a v s))
      (refused_call (Refuses (centre_machine p)) (held_after n (Service a (meaning (read_pdu q.edition Ground q.control a (lent s)))) v) (numbered_step Ground q n (Service a (meaning (read_pdu q.edition Ground q.control a (lent s)))) v) (lent s) (lent s) (lent s) (carried_by (read_pdu q.edition Ground q.control a (lent s)))
      (stale_refused (Service a (meaning (read_pdu q.edition Ground q.control a (lent s)))) v
      (f (meaning (read_pdu q.edition Ground q.control a (lent s))))) tt)

  pub start_stale : (x s : ℕ) (k : Qos) (w v : ℕ) → v ≤ n → (b : UserData) → is_stale n (Service (DStartIndication x s k w) b) v ≡ true
  unfolding is_stale isStartEvent service_starts
  start_stale x s k w v h b = rw (le-ltb n v h)

  pub other_stale : (x o s w v : ℕ) → (v ≡ n → ⊥) → (b : UserData) → is_stale n (Service (DStartConfirmation x o s w) b) v ≡ true
  unfolding is_stale isStartEvent service_starts is_service
  other_stale x o s w v h b = rw (ne_eqb v n h)
