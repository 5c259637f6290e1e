-- What one exported call does, on the bytes of a record that a run reaches: it keeps the law of one event (crate told, Chains), read off the
-- call and its answer, and leaves the bytes of such a record.
-- Assumes nothing.
use mathlib.Core.Path.{◌≡◌, refl, ap, sym, subst, ◌∙◌}
use mathlib.Core.Bool.{Bool, true, false}
use mathlib.Core.List.{List}
use Prim.Native.Nat.{ℕ, ◌^◌, ◌<◌}
use native.Mathlib.Omega.{arith}
use borrow.Author.Tests.{ltb-true, le-leb, lt-ltb, eq-eqb}
use lib.Dec.{ltb, eqb}
use lib.ListN.{length}
use Rattle.words.specs.Limits.{room, shape}
use Rattle.apdu.specs.Sizes.{buffer_least}
use Rattle.apdu.specs.Pdus.{lent}
use Rattle.apdu.specs.Writing.{Done}
use Rattle.apdu.specs.declared.Data.{Data}
use Rattle.apdu.specs.declared.Forward.{Forward as Forwarded}
use Rattle.codec.specs.Codec.{given_fits, forward_given_fits}
use Rattle.control.specs.declared.Side.{Side}
use Rattle.machine.specs.Codes.{security_values, versions}
use Rattle.machine.specs.Outcome.{is_none, refusal_number}
use Rattle.machine.specs.declared.record.Record.{Record}
use Rattle.machine.specs.declared.event.UserPrimitive.TheVariants.{StartServiceRequest, StartServiceResponse, EndServiceRequest, EndServiceResponse}
use Rattle.machine.specs.declared.event.ServicePrimitive.{ServicePrimitive}
use Rattle.machine.specs.declared.event.Event.{Event}
use Rattle.machine.specs.declared.event.Event.TheVariants.{User, Forward, Service, TimerExpires, UnrecoverableSystemError}
use Rattle.machine.specs.declared.outcome.StepRefusal.{StepRefusal}
use Rattle.machine.specs.declared.outcome.StepRefusal.TheVariants.{Shape, Stale, Prohibited, NoMessage, Repeat}
use Rattle.machine.specs.declared.outcome.Told.{Told}
use Rattle.machine.specs.declared.outcome.Told.TheVariants.{StartIndication, StartConfirmation, MessageIndication, EndIndication, EndConfirmation, UserAbortIndication, ProviderAbortIndication, ForwardIndication, ForwardConfirmation}
use Rattle.clauses.proofs.Ways.{by_test}
use Rattle.numbered.specs.Numbers.{is_start, held_after, numbered_step}
use Rattle.stored.specs.Stored.{record_bytes, flag, load_at, store_at, is_stored}
use Rattle.stored.proofs.Storing.{Coded, length_stored, loaded_stored}
use Rattle.packed.specs.Packed.{codes, packed, invoked_number, told_number, version_number}
use Rattle.packed.proofs.Unpacked.{invoked_low, told_low, refusal_unpacked, told_unpacked, code_unpacked, parameter_unpacked, last_unpacked}
use Rattle.step.specs.Call.{Carried, Called, called, pdus_of, bits_of_written, finished, concluded, with_record, entering, event_step, user_step, user_call, user_by, forward_step, forward_call, forward_by, data_step, bare_step, service_step, service_call, service_by}
use Rattle.step.proofs.Taken.{never}
use Rattle.card.specs.Face.{no_number, message_requested, abort_requested, holds_message}
use Rattle.card_pair.specs.Answered.{is_taken, told_part_of}
use Rattle.told.specs.Lists.{Item, unlisted, invocation_of, receipt_of}
use Rattle.told.specs.Histories.{end}
use Rattle.told.proofs.Chains.{Lawful, refused_law}
use Rattle.told.proofs.Single.{Runs, event_law, event_runs}
use Rattle.told_card.specs.Answers.{Call, start, start_response_of, message_request_of, end_request_of, end_response_of, user_abort_of, forward_request_of, service_primitive, timer_expiry, system_error, answer_of, invocation_by, told_item, entry}
use Rattle.told_card.proofs.Kept.{result_fits, JobLow, numbered_keeps}
use Rattle.std.specs.Prelude.{None, Option, Some}
use Rattle.stored.specs.declared.Stored.{Stored}

-- ---- what the number says of a call that was taken

flag_back : (b : Bool) → eqb (flag b) 1 ≡ b
flag_back true = refl
flag_back false = refl

flag_low : (b : Bool) → flag b < 2
flag_low true = omega arith
flag_low false = omega arith

told_back : (t : Option Told) → result_fits t ≡ true → told_item (told_number t) ≡ receipt_of t
unfolding told_number
told_back None h = refl
told_back (Some (StartIndication m k)) h = rw
    (code_unpacked 1 k (flag m) (omega arith), last_unpacked 1 k (flag m) (omega arith) (flag_low m), flag_back m)
told_back (Some (StartConfirmation m x)) h =
    rw (
      code_unpacked 2 x (flag m) (omega arith),
      parameter_unpacked 2 x (flag m) (omega arith) (ltb-true x codes h),
      last_unpacked 2 x (flag m) (omega arith) (flag_low m),
      flag_back m,
    )
told_back (Some MessageIndication) h = refl
told_back (Some (EndIndication m)) h = rw (code_unpacked 4 0 (flag m) (omega arith))
told_back (Some (EndConfirmation m x)) h =
    rw (
      code_unpacked 5 x (flag m) (omega arith),
      parameter_unpacked 5 x (flag m) (omega arith) (ltb-true x codes h),
      last_unpacked 5 x (flag m) (omega arith) (flag_low m),
      flag_back m,
    )
told_back (Some (UserAbortIndication x)) h = rw (code_unpacked 6 x 0 (omega arith))
told_back (Some (ProviderAbortIndication x)) h = rw (code_unpacked 7 x 0 (omega arith))
told_back (Some ForwardIndication) h = refl
told_back (Some (ForwardConfirmation x v)) h = rw (code_unpacked 9 x 0 (omega arith))

refusal_untaken : (w : Option StepRefusal) → is_none w ≡ false → is_taken (refusal_number w) ≡ false
refusal_untaken None e = never (sym e)
refusal_untaken (Some Shape) e = refl
refusal_untaken (Some Stale) e = refl
refusal_untaken (Some Prohibited) e = refl
refusal_untaken (Some NoMessage) e = refl
refusal_untaken (Some Repeat) e = refl

-- ---- the bytes of a record that a run reaches

pub record Bytes (sd : Side) (b : List ℕ) (x : Record) (n : ℕ) : Type 0 where
  pub load : load_at b ≡ is_stored sd x n
  pub size : length b ≡ record_bytes
  pub coded : Coded x
  pub low : n < 2 ^ 64
  pub runs : Runs sd x

pub stored : (sd : Side) (r : List ℕ) (x : Record) (n : ℕ) → length r ≡ record_bytes → Coded x → n < 2 ^ 64 → Runs sd x
    → Bytes sd (store_at r sd x n).bytes x n
unfolding store_at
stored sd r x n h k l f =
    rw (
      eq-eqb (length r) record_bytes h,
      lt-ltb x.request security_values k.request,
      lt-ltb x.policy
          security_values k.policy,
      le-leb 1 x.version k.least,
      lt-ltb x.version versions k.most,
    )
    (record { load = loaded_stored sd x n k l; size = length_stored sd x n k l; coded = k; low = l; runs = f })

-- what a call leaves: such bytes, and the law of the entry i with the number that it answered; p: was the user active
pub record Leaves (sd : Side) (p : Bool) (i : Item) (c : Called) : Type 0 where
  pub held : Record
  pub number : ℕ
  pub bytes : Bytes sd c.kept held number
  pub law : Lawful sd p (entry i c.number) held.active

lawful_as : (sd : Side) (p : Bool) (t t' : Bool) (i i' m m' : Item) (q : Bool) → t ≡ t' → i ≡ i' → m ≡ m' → Lawful sd p (record { taken = t; invocation = i; receipt = m }) q → Lawful sd p (record { taken = t'; invocation = i'; receipt = m' }) q
lawful_as sd p t t' i i' m m' q a b c h =
    subst (λ (z : Item). Lawful sd p (record { taken = t'; invocation = i'; receipt = z }) q) c
    (subst (λ (z : Item). Lawful sd p (record { taken = t'; invocation = z; receipt = m }) q) b
    (subst (λ (z : Bool). Lawful sd p (record { taken = z; invocation = i; receipt = m }) q) a h))

-- ---- one call, on the bytes r of the record x with the dialogue number n

module _ (sd : Side) (r a b : List ℕ) (x : Record) (n : ℕ) (h : Bytes sd r x n) where
  refuses : (i : Item) (w : ℕ) → is_taken w ≡ false → Leaves sd x.active i (called w r a b)
  refuses i w e = record { held = x; number = n; bytes = h; law = refused_law sd x.active (entry i w) e }

  held_low : (e : Event) (v : ℕ) → v < 2 ^ 64 → held_after n e v < 2 ^ 64
  unfolding held_after
  held_low e v l = by_test (λ (m : ℕ). m < 2 ^ 64) (is_start e) v n (λ q. l) (λ q. h.low)

  takes : (e : Event) (v : ℕ) (one two : Done) → v < 2 ^ 64 → JobLow e
      → is_none (numbered_step sd x n e v).refusal ≡ true
      → Leaves sd x.active (invocation_of e) (finished r a b sd (held_after n e v) (numbered_step sd x n e v) one two)
  unfolding finished
  takes e v one two l j q =
      let o = numbered_step sd x n e v in
      let k = numbered_keeps sd x n e v h.coded j in
      let i = invoked_number o.invoked in
      let s = bits_of_written one.answer in
      let g = bits_of_written two.answer in
      let w = version_number o.invoked o.told in
      record {
        held = o.next;
        number = held_after n e v;
        bytes = stored sd r o.next (held_after n e v) h.size k.coded (held_low e v l) (event_runs sd (end x n) (record { event = e; number = v }) h.runs);
        law = lawful_as sd x.active (is_none o.refusal) (is_taken (packed i (told_number o.told) s g w))
            (invocation_of e) (invocation_of e) (receipt_of o.told)
            (told_item (told_part_of (packed i (told_number o.told) s g w))) o.next.active
            (q ∙ sym (eq-eqb _ 0 (refusal_unpacked i (told_number o.told) s g w))) refl
            (sym (told_back o.told k.result) ∙ sym (ap told_item
            (told_unpacked i (told_number o.told) s g w (invoked_low o.invoked) (told_low o.told))))
            (event_law sd (end x n) (record { event = e; number = v }) h.runs);
      }

  -- an event that brings the dialogue number v
  event_leaves : (e : Event) (v : ℕ) (li lm lc : List ℕ) (d : Carried) → v < 2 ^ 64 → JobLow e
      → Leaves sd x.active (invocation_of e) (event_step numbered_step r a b e v li lm lc d sd x n)
  unfolding concluded
  event_leaves e v li lm lc d l j =
      by_test (Leaves sd x.active (invocation_of e)) (is_none (numbered_step sd x n e v).refusal) _ _ (takes e v _ _ l j)
      (λ q. refuses (invocation_of e) (refusal_number (numbered_step sd x n e v).refusal)
      (refusal_untaken (numbered_step sd x n e v).refusal q))

  entering_leaves : (i : Item) (k : Side → Record → ℕ → Called) → Leaves sd x.active i (k sd x n)
      → Leaves sd x.active i (entering r a b k)
  unfolding entering with_record
  entering_leaves i k f =
      by_test (Leaves sd x.active i) (ltb (length a) buffer_least) _ _ (λ e. refuses i room refl)
      (λ e. by_test (Leaves sd x.active i) (ltb (length b) buffer_least) _ _ (λ g. refuses i room refl)
      (λ g. subst (λ (z : Option Stored). Leaves sd x.active i (with_record r a b z k)) (sym h.load) f))

  user_leaves : (e : Event) (v : ℕ) (ids msgs checks : List ℕ) (d : Data) → v < 2 ^ 64 → JobLow e
      → Leaves sd x.active (invocation_of e) (user_call r a b e v ids msgs checks d)
  unfolding user_by user_step
  user_leaves e v ids msgs checks d l j =
      entering_leaves (invocation_of e) (user_step numbered_step r a b e v (lent ids) (lent msgs) (lent checks) d)
      (by_test (Leaves sd x.active (invocation_of e))
      (given_fits x.edition (pdus_of sd) (lent ids) (lent msgs) (lent checks) d) _ _
      (λ q. event_leaves e v _ _ _ _ l j) (λ q. refuses (invocation_of e) shape refl))

  forward_leaves : (k s v : ℕ) (msgs : List ℕ) (f : Forwarded) → v < 2 ^ 64
      → Leaves sd x.active (invocation_of (Forward k s)) (forward_call r a b k s v msgs f)
  unfolding forward_by forward_step
  forward_leaves k s v msgs f l =
      entering_leaves (invocation_of (Forward k s)) (forward_step numbered_step r a b k s v (lent msgs) f)
      (by_test (Leaves sd x.active (invocation_of (Forward k s))) (forward_given_fits x.edition (lent msgs) f) _ _
      (λ q. event_leaves (Forward k s) v _ _ _ _ l tt) (λ q. refuses (invocation_of (Forward k s)) shape refl))

  service_leaves : (p : ServicePrimitive) (v given : ℕ) (bytes : List ℕ) → v < 2 ^ 64
      → Leaves sd x.active unlisted (service_call r a b p v given bytes)
  unfolding service_by service_step data_step bare_step
  service_leaves p v given bytes l =
      entering_leaves unlisted (service_step numbered_step r a b p v given (lent bytes))
      (by_test (Leaves sd x.active unlisted) (ltb 1 given) _ _ (λ q. refuses unlisted shape refl)
      (λ q. by_test (Leaves sd x.active unlisted) (eqb given 1) _ _ (λ g. event_leaves (Service p _) v _ _ _ _ l tt)
      (λ g. event_leaves (Service p _) v _ _ _ _ l tt)))

  -- every call
  pub call_leaves : (c : Call) → Leaves sd x.active (invocation_by c) (answer_of r a b c)
  call_leaves (start v m k s g) = user_leaves (User (StartServiceRequest m k s)) v.number _ _ _ _ v.low tt
  call_leaves (start_response_of m y g) = user_leaves (User (StartServiceResponse m y (holds_message g.bits))) no_number _
      _ _ _ (omega arith) tt
  call_leaves (message_request_of j g) = user_leaves (User (message_requested g.bits j.number)) no_number _ _ _ _ (omega arith) j.low
  call_leaves (end_request_of m g) = user_leaves (User (EndServiceRequest m (holds_message g.bits))) no_number _ _ _ _ (omega arith) tt
  call_leaves (end_response_of m y g) = user_leaves (User (EndServiceResponse m y (holds_message g.bits))) no_number _ _ _ _ (omega arith) tt
  call_leaves (user_abort_of y) = user_leaves (User (abort_requested y)) no_number _ _ _ _ (omega arith) tt
  call_leaves (forward_request_of v k s f) = forward_leaves k s v.number _ _ v.low
  call_leaves (service_primitive p v given bytes) = service_leaves p v.number given bytes v.low
  call_leaves timer_expiry = user_leaves TimerExpires no_number _ _ _ _ (omega arith) tt
  call_leaves system_error = user_leaves UnrecoverableSystemError no_number _ _ _ _ (omega arith) tt
