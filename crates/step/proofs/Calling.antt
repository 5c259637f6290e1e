-- The ways out of a call, as the code has them.
-- Assumes nothing.
use mathlib.Core.Path.{◌≡◌, refl, ap, sym, ◌∙◌}
use mathlib.Core.Bool.{Bool, true, false, not, cond, ◌&&◌}
use mathlib.Core.List.{List, [], ◌++◌}
use Prim.Native.Nat.{ℕ, ◌+◌, ◌*◌, ◌^◌, ◌≤◌, ◌<◌}
use native.Mathlib.Omega.{arith}
use borrow.Author.Tests.{lt-ltb, le-ltb, le-leb, eq-eqb, ne_eqb, eqb-true, ltb-false, not-false}
use lib.Dec.{eqb, ltb, leb}
use lib.ListN.{length, length-append}
use lib.Pow.{pow_pos}
use Rattle.bits.specs.Bits.{bits_n, run}
use Rattle.bits.specs.Put.{left, put_run, put_if, put_number, put_led}
use Rattle.bits.proofs.Numbers.{length_bits_n}
use Rattle.bits.proofs.Bytes.{length_to, length_run, run_to}
use Rattle.apdu.specs.Sizes.{all_bits, buffer_least, bit}
use Rattle.apdu.specs.Pdus.{lent, part_in, items_in, content_in, pdu_in, forwards, forward}
use Rattle.apdu.specs.Encoding.{padding}
use Rattle.apdu.specs.Writing.{done, place_of, write_out, data_fits, forward_fits}
use Rattle.codec.specs.Codec.{pdu_bits, given_fits, forward_given_fits, apdu_fits}
use Rattle.editions.specs.declared.Edition.{Edition}
use Rattle.editions.specs.declared.Edition.TheVariants.{Plain, Protected}
use Rattle.plain.specs.Plain as plain
use Rattle.pdus.specs.declared.PduType.{PduType}
use Rattle.apdu.specs.declared.Data.{Data}
use Rattle.apdu.specs.declared.Forward.{Forward as Forwarded}
use Rattle.apdu.proofs.Writers.{written_out}
use Rattle.control.specs.declared.Side.{Side}
use Rattle.machine.specs.Event.{service_fits, event_fits}
use Rattle.machine.specs.Outcome.{refusal_number, is_none, refused}
use Rattle.machine.specs.Step.{step_fitting}
use Rattle.machine.specs.UserData.{user_data_fits}
use Rattle.machine.specs.declared.record.Record.{Record}
use Rattle.machine.specs.declared.event.UserData.{UserData}
use Rattle.machine.specs.declared.event.UserData.TheVariants.{Absent, NotValid, Start, Send, AbortUser, AbortProvider, Forward as ForwardPdu, ForwardResponse}
use Rattle.machine.specs.declared.event.UserPrimitive.{UserPrimitive}
use Rattle.machine.specs.declared.event.ServicePrimitive.{ServicePrimitive}
use Rattle.machine.specs.declared.event.Event.TheVariants.{User, Service}
use Rattle.machine.specs.declared.event.Event.TheVariants.{Forward as ForwardRequested}
use Rattle.machine.specs.declared.outcome.Outcome.{Outcome}
use Rattle.machine.specs.declared.outcome.StepRefusal.{StepRefusal}
use Rattle.machine.specs.declared.outcome.StepRefusal.TheVariants.{Shape, Stale}
use Rattle.numbered.specs.Numbers.{service_starts, is_start, is_service, is_stale, held_after, numbered_step}
use Rattle.numbered.proofs.Laws.{shape_first, then_stale, then_fitting}
use Rattle.stored.specs.Stored.{load_at, store_at, is_stored}
use Rattle.packed.specs.Packed.{packed, invoked_number, told_number, version_number}
use Rattle.step.specs.Call.{Carried, Called, called, call_refusal, carries_data, carried_by, no_data, bits_of_written, pdus_of, first_takes, passes, second_takes, finished, concluded, event_step, with_record, entering, user_step, forward_step, reads_as, read_pdu, meaning, data_step, bare_step, service_step}
use Rattle.step.specs.Handing.{came, arrival_of, arrived, led_run, delivered_of, is_given, is_reply, reply_takes, Settled, settled, concluded_of, host_event, opened}
use Rattle.step.specs.declared.arrived.Arrival.{Arrival}
use Rattle.step.specs.declared.answers.CallRefusal.{CallRefusal}
use Rattle.step.specs.declared.answers.CallRefusal.TheVariants as is
use Rattle.step.specs.declared.call.HostEvent.{HostEvent}
use Rattle.step.specs.declared.call.HostEvent.TheVariants.{TimerExpires, SystemError}
use Rattle.words.specs.Limits.{room}
use Rattle.step.proofs.Fitting.{read_fits, codes_same}
use Rattle.step.proofs.Hands.{Hands, Quiet, service_hands, service_replies, host_replies, host_quiet, user_given, user_quiet, forward_quiet, forward_sends}
use Rattle.step.proofs.Runs.{none_fits, absent_second, pdu_handed, arrival_pdu}
use Rattle.step.proofs.Taken.{never}
use Rattle.std.specs.Prelude.{Err, Ok, Option, Result, Some, None, ok_or, unwrap_or}
use Rattle.words.specs.declared.Unwritten.{Unwritten}
use Rattle.stored.specs.declared.Stored.{Stored}

-- ---- the answer to a primitive of the dialogue service has no message data, and is the same in every edition

pub reply_same : (ed : Edition) (sd : Side) (li lm lc : List ℕ) (d : Carried) (a : UserData) (s : List ℕ)
    → is_reply a ≡ true → first_takes ed sd li lm lc d a s ≡ reply_takes Protected sd a s
unfolding first_takes apdu_fits pdu_in pdu_bits
reply_same ed sd li lm lc d Absent s h = refl
reply_same ed sd li lm lc d NotValid s h = never h
reply_same ed sd li lm lc d (Start m) s h = never h
reply_same ed sd li lm lc d Send s h = never h
reply_same ed sd li lm lc d (AbortUser x) s h = never h
reply_same ed sd li lm lc d (AbortProvider x) s h = refl
reply_same ed sd li lm lc d ForwardPdu s h = never h
reply_same ed sd li lm lc d (ForwardResponse x) s h = refl

-- ---- before the step

module _ (r a b : List ℕ) (k : Side → Record → ℕ → Called) where
  pub no_room_first : length a < buffer_least → called 1 r a b ≡ entering r a b k
  unfolding entering
  no_room_first h = rw (lt-ltb (length a) buffer_least h)

  pub no_room_second : buffer_least ≤ length a → length b < buffer_least → called 1 r a b ≡ entering r a b k
  unfolding entering
  no_room_second h g = rw (le-ltb (length a) buffer_least h, lt-ltb (length b) buffer_least g)

  module _ (ha : buffer_least ≤ length a) (hb : buffer_least ≤ length b) (l : Option Stored) (p : l ≡ load_at r) where
    enters : entering r a b k ≡ with_record r a b l k
    unfolding entering
    enters = rw (le-ltb (length a) buffer_least ha, le-ltb (length b) buffer_least hb, ← p)

    pub no_record : l ≡ None → called 2 r a b ≡ entering r a b k
    unfolding with_record
    no_record q = rw (enters, q)

    pub with_record_is : (sd : Side) (x : Record) (n : ℕ) (o : Called) → l ≡ is_stored sd x n → o ≡ k sd x n → o ≡ entering r a b k
    unfolding with_record
    with_record_is sd x n o q e = e ∙ rw (enters, q)

-- the same, with what `opened` answers
module _ (r a b : List ℕ) (k : Side → Record → ℕ → Called) (x : Result Stored CallRefusal) (p : x ≡ opened r a b) where
  pub not_opened : (e : CallRefusal) → x ≡ Err e → called (call_refusal e) r a b ≡ entering r a b k
  unfolding opened entering with_record
  not_opened e q = by (ltb (length a) buffer_least) (ltb (length b) buffer_least) (load_at r) (sym p ∙ q)
    where
      number_in : Result Stored CallRefusal → ℕ
      number_in (Ok z) = 0
      number_in (Err e) = call_refusal e

      by : (s t : Bool) (l : Option Stored) → cond s (Err is.Room) (cond t (Err is.Room) (ok_or l (is.Step Shape))) ≡ Err e
          → called (call_refusal e) r a b ≡ cond s (called room r a b) (cond t (called room r a b) (with_record r a b l k))
      by true t l f = ap (λ (y : Result Stored CallRefusal). called (number_in y) r a b) (sym f)
      by false true l f = ap (λ (y : Result Stored CallRefusal). called (number_in y) r a b) (sym f)
      by false false None f = ap (λ (y : Result Stored CallRefusal). called (number_in y) r a b) (sym f)
      by false false (Some z) f = cc

  module _ (z : Stored) (q : x ≡ Ok z) where
    pub is_opened : (o : Called) → o ≡ k z.side z.machine z.number → o ≡ entering r a b k
    unfolding opened entering with_record
    is_opened o f = f ∙ by (ltb (length a) buffer_least) (ltb (length b) buffer_least) (load_at r) (sym p ∙ q)
      where
        of : Result Stored CallRefusal → Called
        of (Ok z) = k z.side z.machine z.number
        of (Err e) = called 0 r a b

        by : (s t : Bool) (l : Option Stored) → cond s (Err is.Room) (cond t (Err is.Room) (ok_or l (is.Step Shape))) ≡ Ok z
            → k z.side z.machine z.number ≡ cond s (called room r a b) (cond t (called room r a b) (with_record r a b l k))
        by true t l f = cc
        by false true l f = cc
        by false false None f = cc
        by false false (Some y) f = ap of (sym f)

pub opened_room : (r a b : List ℕ) (x : Result Stored CallRefusal) (z : Stored) → x ≡ opened r a b → x ≡ Ok z → buffer_least ≤ length b
unfolding opened
opened_room r a b x z p q = by (ltb (length a) buffer_least) (ltb (length b) buffer_least) refl (sym p ∙ q)
  where
    by : (s t : Bool) → ltb (length b) buffer_least ≡ t
        → cond s (Err is.Room) (cond t (Err is.Room) (ok_or (load_at r) (is.Step Shape))) ≡ Ok z → buffer_least ≤ length b
    by true t e f = cc
    by false true e f = cc
    by false false e f = ltb-false (length b) buffer_least e

-- ---- the end of a call

-- what is settled with an outcome: the number that the call answers, and the record
abbrev pub Settles : List ℕ → Side → Outcome → ℕ → ℕ → ℕ → ℕ → List ℕ → Type 0
Settles r sd o n w z j r' = settled j r' ≡ settled
    (packed (invoked_number o.invoked) (told_number o.told) w z (version_number o.invoked o.told))
    (store_at r sd o.next n).bytes

module _ (r a b : List ℕ) (ed : Edition) (sd : Side) (n : ℕ) (o : Outcome) (x : Arrival) (l : List ℕ) (t : Bool) (pt : t ≡ is_none o.refusal) where
  pub is_refused : (j : ℕ) → t ≡ false → j ≡ refusal_number o.refusal → called j r a b ≡ concluded_of r a b ed sd n o x l
  unfolding concluded_of
  is_refused j q e = rw (← pt, q, e)

  pub is_taken_is : t ≡ true → is_reply o.apdu ≡ true → (w z : Result ℕ Unwritten) (a' b' : List ℕ)
      → done w a' ≡ reply_takes Protected sd o.apdu a → done z b' ≡ delivered_of ed l x o b → (j : ℕ) (r' : List ℕ)
      → Settles r sd o n (bits_of_written w) (bits_of_written z) j r' → called j r' a' b' ≡ concluded_of r a b ed sd n o x l
  unfolding concluded_of finished
  is_taken_is q s w z a' b' e i j r' g =
      let g₁ = ap (λ (y : Settled). y.number) g in
      let g₂ = ap (λ (y : Settled). y.bytes) g in
      rw (← pt, q, reply_same ed sd [] [] [] (carries_data no_data) o.apdu a s, ← e, ← i, g₁, g₂)

-- ---- a user primitive

module _ (r a b : List ℕ) (u : UserPrimitive) (v : ℕ) (li lm lc : List ℕ) (d : Data) (sd : Side) (x : Record) (n : ℕ) (t : Bool) (c : PduType) (ec : c ≡ pdus_of sd) (pc : t ≡ given_fits x.edition c li lm lc d) where
  pt : t ≡ given_fits x.edition (pdus_of sd) li lm lc d
  pt = pc ∙ ap (λ (z : PduType). given_fits x.edition z li lm lc d) ec

  pub no_shape : t ≡ false → called 2 r a b ≡ user_step numbered_step r a b (User u) v li lm lc d sd x n
  unfolding user_step
  no_shape q = rw (← pt, q)

  module _ (q : t ≡ true) (o : Outcome) (po : o ≡ numbered_step sd x n (User u) v) (y : Bool) (py : y ≡ is_none o.refusal) where
    pub user_refused : (j : ℕ) → y ≡ false → j ≡ refusal_number o.refusal
        → called j r a b ≡ user_step numbered_step r a b (User u) v li lm lc d sd x n
    unfolding user_step concluded
    user_refused j k i = rw (← pt, q, ← po, ← py, k, i)

    pub user_taken : y ≡ true → (w : Result ℕ Unwritten) (a' : List ℕ)
        → done w a' ≡ first_takes x.edition sd li lm lc (carries_data d) o.apdu a → (m : ℕ)
        → m ≡ held_after n (User u) v → (j : ℕ) (r' : List ℕ) → Settles r sd o m (bits_of_written w) 0 j r'
        → called j r' a' b ≡ user_step numbered_step r a b (User u) v li lm lc d sd x n
    unfolding user_step concluded finished second_takes
    user_taken k w a' i m em j r' g =
        let z : Quiet o = rw po (user_quiet sd x n u v) in
        let g₁ = ap (λ (y : Settled). y.number) g in
        let g₂ = ap (λ (y : Settled). y.bytes) g in
        rw (← pt, q, ← po, ← py, k, ← i, z.told, z.delivers, ← em, g₁, g₂)

-- the APDU that it sends
pub gives : (sd : Side) (x : Record) (n : ℕ) (u : UserPrimitive) (v : ℕ) (o : Outcome)
    → o ≡ numbered_step sd x n (User u) v → is_given o.apdu ≡ true
gives sd x n u v o po = rw po (user_given sd x n u v)

-- ---- an expiry, a system error

host_fits : (ed : Edition) (sd : Side) (t : HostEvent) → event_fits sd ed (host_event t) ≡ true
unfolding event_fits
host_fits ed sd TimerExpires = refl
host_fits ed sd SystemError = refl

host_fresh : (n : ℕ) (t : HostEvent) → is_stale n (host_event t) 0 ≡ false
unfolding is_stale is_start is_service
host_fresh n TimerExpires = refl
host_fresh n SystemError = refl

host_held : (n : ℕ) (t : HostEvent) → held_after n (host_event t) 0 ≡ n
unfolding held_after is_start
host_held n TimerExpires = refl
host_held n SystemError = refl

none_given : (ed : Edition) (t : PduType) (li lm lc : List ℕ) → given_fits ed t li lm lc no_data ≡ true
unfolding plain.given_fits plain.content_fits content_in part_in
none_given Plain t li lm lc = rw (none_fits li lm lc)
none_given Protected t li lm lc = none_fits li lm lc

module _ (r a b : List ℕ) (t : HostEvent) (li lm lc : List ℕ) (sd : Side) (x : Record) (n : ℕ) (o : Outcome) (po : o ≡ step_fitting sd x (host_event t)) (y : Bool) (py : y ≡ is_none o.refusal) where
  host_steps : o ≡ numbered_step sd x n (host_event t) 0
  host_steps = po ∙ sym (then_fitting sd x n (host_event t) 0 (host_fits x.edition sd t) (host_fresh n t))

  pub host_refused : (j : ℕ) → y ≡ false → j ≡ refusal_number o.refusal
      → called j r a b ≡ user_step numbered_step r a b (host_event t) 0 li lm lc no_data sd x n
  unfolding user_step concluded
  host_refused j k i = rw (none_given x.edition (pdus_of sd) li lm lc, ← host_steps, ← py, k, i)

  pub host_taken : y ≡ true → (w : Result ℕ Unwritten) (a' : List ℕ) → done w a' ≡ reply_takes Protected sd o.apdu a
      → (j : ℕ) (r' : List ℕ) → Settles r sd o n (bits_of_written w) 0 j r'
      → called j r' a' b ≡ user_step numbered_step r a b (host_event t) 0 li lm lc no_data sd x n
  unfolding user_step concluded finished second_takes
  host_taken k w a' i j r' g =
      let z : Quiet o = rw po (host_quiet sd x t) in
      let s : is_reply o.apdu ≡ true = rw po (host_replies sd x t) in
      let g₁ = ap (λ (y : Settled). y.number) g in
      let g₂ = ap (λ (y : Settled). y.bytes) g in
      rw (
        none_given x.edition (pdus_of sd) li lm lc,
        ← host_steps,
        ← py,
        k,
        reply_same x.edition sd li lm lc
            (carries_data no_data) o.apdu a s,
        ← i,
        z.told,
        z.delivers,
        host_held n t,
        g₁,
        g₂,
      )

pub host_answers : (sd : Side) (x : Record) (t : HostEvent) (o : Outcome) → o ≡ step_fitting sd x (host_event t) → is_reply o.apdu ≡ true
host_answers sd x t o po = rw po (host_replies sd x t)

-- ---- a forward request

module _ (r a b : List ℕ) (k s v : ℕ) (lm : List ℕ) (f : Forwarded) (sd : Side) (x : Record) (n : ℕ) (t : Bool) (pt : t ≡ forward_given_fits x.edition lm f) where
  pub no_forward_shape : t ≡ false → called 2 r a b ≡ forward_step numbered_step r a b k s v lm f sd x n
  unfolding forward_step
  no_forward_shape q = rw (← pt, q)

  module _ (q : t ≡ true) (o : Outcome) (po : o ≡ numbered_step sd x n (ForwardRequested k s) v) (y : Bool) (py : y ≡ is_none o.refusal) where
    pub forward_refused : (j : ℕ) → y ≡ false → j ≡ refusal_number o.refusal
        → called j r a b ≡ forward_step numbered_step r a b k s v lm f sd x n
    unfolding forward_step concluded
    forward_refused j z i = rw (← pt, q, ← po, ← py, z, i)

    pub forward_taken : y ≡ true → (w : Result ℕ Unwritten) (a' : List ℕ) (c : PduType) → c ≡ pdus_of sd
        → done w a' ≡ write_out (forwards c && forward_fits lm f) a (pdu_bits x.edition c (forward f.heading (items_in lm bit f.message)))
        → (j : ℕ) (r' : List ℕ) → Settles r sd o v (bits_of_written w) 0 j r'
        → called j r' a' b ≡ forward_step numbered_step r a b k s v lm f sd x n
    unfolding forward_step concluded finished second_takes first_takes apdu_fits pdu_in held_after is_start
    forward_taken z w a' c ec i j r' g =
        let h : Quiet o = rw po (forward_quiet sd x n k s v) in
        let e : o.apdu ≡ ForwardPdu = rw po (forward_sends sd x n k s v (rw (← po) (sym py ∙ z))) in
        let g₁ = ap (λ (y : Settled). y.number) g in
        let g₂ = ap (λ (y : Settled). y.bytes) g in
        rw (← pt, q, ← po, ← py, z, e, ← ec, ← i, h.told, h.delivers, g₁, g₂)

-- ---- a dialogue-service primitive

held_number : (n : ℕ) (p : ServicePrimitive) (u : UserData) (v : ℕ) → is_stale n (Service p u) v ≡ false → held_after n (Service p u) v ≡ v
unfolding is_stale held_after is_start is_service
held_number n p u v h = go (service_starts p) h
  where
    go : (t : Bool) → cond t (not (ltb n v)) (true && not (eqb v n)) ≡ false → cond t v n ≡ v
    go true e = refl
    go false e = sym (eqb-true v n (not-false (eqb v n) e))

module _ (r a b : List ℕ) (p : ServicePrimitive) (v : ℕ) (l : List ℕ) (sd : Side) (x : Record) (n : ℕ) where
  pub given_odd : (g : ℕ) → 1 < g → called 2 r a b ≡ service_step numbered_step r a b p v g l sd x n
  unfolding service_step
  given_odd g h = rw (lt-ltb 1 g h)

  -- ---- refused before the user data are read

  refused_step : (u : UserData) (d : Carried) (w : Option StepRefusal) → numbered_step sd x n (Service p u) v ≡ refused w x
      → is_none w ≡ false → called (refusal_number w) r a b ≡ event_step numbered_step r a b (Service p u) v l l l d sd x n
  unfolding concluded
  refused_step u d w e h = rw (e, h)

  module _ (k : user_data_fits x.edition (meaning (read_pdu x.edition sd x.control p l)) ≡ true) (g : ℕ) (h : g ≤ 1) where
    unread : (w : Option StepRefusal) → is_none w ≡ false
        → ((u : UserData) → user_data_fits x.edition u ≡ true → numbered_step sd x n (Service p u) v ≡ refused w x)
        → called (refusal_number w) r a b ≡ service_step numbered_step r a b p v g l sd x n
    unfolding service_step data_step bare_step user_data_fits
    unread w q e = rw (le-ltb 1 g h) (go (eqb g 1))
      where
        go : (t : Bool)
            → called (refusal_number w) r a b ≡ cond t (data_step numbered_step r a b p v l sd x n) (bare_step numbered_step r a b p v l sd x n)
        go true = refused_step (meaning (read_pdu x.edition sd x.control p l))
            (carried_by (read_pdu x.edition sd x.control p l)) w (e _ k) q
        go false = refused_step Absent (carries_data no_data) w (e Absent refl) q

    module _ (t : Bool) (pt : t ≡ service_fits p) where
      codes : (u : UserData) → user_data_fits x.edition u ≡ true → event_fits sd x.edition (Service p u) ≡ t
      codes u f = codes_same x.edition sd p u f ∙ sym pt

      pub codes_odd : t ≡ false → called 2 r a b ≡ service_step numbered_step r a b p v g l sd x n
      codes_odd q = unread (Some Shape) refl (λ u f. shape_first sd x n (Service p u) v (codes u f ∙ q))

      pub number_odd : t ≡ true → (y : Bool) → y ≡ is_stale n (Service p Absent) v → y ≡ true
          → called 6 r a b ≡ service_step numbered_step r a b p v g l sd x n
      unfolding is_stale is_start is_service
      number_odd q y py qy = unread (Some Stale) refl (λ u f. then_stale sd x n (Service p u) v (codes u f ∙ q) (sym py ∙ qy))

  -- ---- not refused: what came decides the step

  event_served : (u : UserData) (d : Carried) (y : Arrival) → event_fits sd x.edition (Service p u) ≡ true
      → is_stale n (Service p u) v ≡ false
      → ((o : Outcome) → Hands x.edition u o → second_takes x.edition l l l d (passes o.told) o.delivers b ≡
      delivered_of x.edition l y o b)
      → concluded_of r a b x.edition sd v (step_fitting sd x (Service p u)) y l ≡ event_step numbered_step r a b
      (Service p u) v l l l d sd x n
  unfolding concluded_of concluded
  event_served u d y f s k =
      rw (
        then_fitting sd x n (Service p u) v f s,
        held_number n p u v s,
        reply_same x.edition sd l l l d
            (step_fitting sd x (Service p u)).apdu a (service_replies sd x p u),
        reply_same x.edition sd [] [] []
            (carries_data no_data) (step_fitting sd x (Service p u)).apdu a (service_replies sd x p u),
        k
            (step_fitting sd x (Service p u)) (service_hands sd x u p),
      )

-- the codes and the number are right with whatever was read
module _ (r a b : List ℕ) (p : ServicePrimitive) (v : ℕ) (s : List ℕ) (sd : Side) (x : Record) (n g : ℕ) (h : g ≤ 1)
    (t : Bool) (pt : t ≡ service_fits p) (qt : t ≡ true) (w : Bool) (pw : w ≡ is_stale n (Service p Absent) v) (qw : w ≡ false) where
  right : (u : UserData) → user_data_fits x.edition u ≡ true → event_fits sd x.edition (Service p u) ≡ true
  right u f = codes_same x.edition sd p u f ∙ sym pt ∙ qt

  fresh : (u : UserData) → is_stale n (Service p u) v ≡ false
  unfolding is_stale is_start is_service
  fresh u = sym pw ∙ qw

  abbrev there : Arrival
  there = arrival_of x.edition (reads_as sd x.control p) (read_pdu x.edition sd x.control p (lent s))

  with_data : concluded_of r a b x.edition sd v (step_fitting sd x (Service p there.pdu)) there (lent s) ≡ data_step
      numbered_step r a b p v (lent s) sd x n
  unfolding data_step
  with_data =
      ap (λ (m : UserData). concluded_of r a b x.edition sd v (step_fitting sd x (Service p m)) there (lent s))
      (arrival_pdu x.edition (reads_as sd x.control p) (read_pdu x.edition sd x.control p (lent s)))
      ∙ (event_served r a b p v (lent s) sd x n (meaning (read_pdu x.edition sd x.control p (lent s))) (carried_by (read_pdu x.edition sd x.control p (lent s))) there
      (right _ (read_fits x.edition sd x.control p s)) (fresh _) (λ o k. (pdu_handed x.edition sd x.control p s).second o b k))

  without : concluded_of r a b x.edition sd v (step_fitting sd x (Service p Absent)) (came Absent 0 0) (lent s) ≡
      bare_step numbered_step r a b p v (lent s) sd x n
  unfolding bare_step user_data_fits
  without = event_served r a b p v (lent s) sd x n Absent (carries_data no_data) (came Absent 0 0) (right Absent refl)
      (fresh Absent) (λ o k. absent_second x.edition (lent s) o b k)

  pub served : (y : Arrival) → y ≡ arrived x.edition sd x.control p g (lent s) → (o : Outcome)
      → o ≡ step_fitting sd x (Service p y.pdu) → (z : Called) → z ≡ concluded_of r a b x.edition sd v o y (lent s)
      → z ≡ service_step numbered_step r a b p v g (lent s) sd x n
  unfolding service_step arrived
  served y py o po z e = e ∙ rw (po, py, le-ltb 1 g h) (go (eqb g 1))
    where
      go : (c : Bool)
          → concluded_of r a b x.edition sd v (step_fitting sd x (Service p (cond c there (came Absent 0 0)).pdu)) (cond c there (came Absent 0 0)) (lent s) ≡ cond c (data_step numbered_step r a b p v (lent s) sd x n) (bare_step numbered_step r a b p v (lent s) sd x n)
      go true = with_data
      go false = without

pub answers : (sd : Side) (x : Record) (p : ServicePrimitive) (u : UserData) (o : Outcome)
    → o ≡ step_fitting sd x (Service p u) → is_reply o.apdu ≡ true
answers sd x p u o po = rw po (service_replies sd x p u)

-- ---- bits handed on

place_is : (r : Option ℕ) → unwrap_or r 0 ≡ place_of r
place_is None = refl
place_is (Some n) = refl

pub led_out : (s bytes z z' : List ℕ) (lead from count n : ℕ) (r r' : Option ℕ) → lead ≤ 1 → buffer_least ≤ length s
    → from + count ≤ length (lent bytes) → count + 8 ≤ 8 * buffer_least
    → left r z ≡ put_led s all_bits 0 lead 0 bytes all_bits from count → n ≡ unwrap_or r 0 → left r' z' ≡ put_number z all_bits n (padding n) 0
    → done (Ok n) z' ≡ write_out true s (led_run (lent bytes) lead from count)
unfolding put_led put_if
led_out s bytes z z' lead from count n r r' few room there most a i k =
    let e = length_to bytes all_bits in
    let w : from + count ≤ 8 * length bytes = omega (arith, there, e) in
    let f : left r z ≡ put_run s all_bits 0 (bits_n lead 0 ++ run bytes from count) = a ∙ rw (
      le-leb lead 56 (omega arith),
      lt-ltb 0 (2 ^ lead) (pow_pos lead),
      le-leb (from + count) (length (lent bytes)) there,
    ) in
    let g : length (bits_n lead 0 ++ run bytes from count) + 7 ≤ 8 * buffer_least = omega
    (arith, length-append (bits_n lead 0) (run bytes from count), length_bits_n lead 0, length_run bytes from count w)
    in
    let q : from + count ≤ all_bits = omega (arith, there, e) in
    written_out s z z' (bits_n lead 0 ++ run bytes from count) true true n (padding n) r r' room g refl refl f (i ∙ place_is r) refl k
    ∙ ap (λ (y : List ℕ). write_out true s (bits_n lead 0 ++ y)) (sym (run_to bytes all_bits from count q))
