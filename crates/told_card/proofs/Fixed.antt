-- "Chosen by application type when a record is made and fixed from then on" (document 02, E14), of the exported calls and the record's bytes: byte 0, which says the end and the application
-- type, is what peat_fresh was asked for, and no call changes it, on any bytes.
-- Assumes nothing.
use mathlib.Core.Path.{◌≡◌, refl, ap, sym, ◌∙◌}
use mathlib.Core.Bool.{Bool, true, false, ◌&&◌}
use mathlib.Core.List.{List, [], ◌∷◌}
use Prim.Native.Nat.{ℕ, zero, suc, ◌≤◌}
use native.Mathlib.Omega.{arith}
use borrow.Author.Tests.{leb-true}
use lib.Dec.{leb, ltb, eqb}
use lib.ListN.{length}
use Rattle.words.proofs.Laws.{both_left, both_right}
use Rattle.editions.specs.Editions.{edition_of}
use Rattle.bits.specs.Bits.{bits_to}
use Rattle.bits.specs.Read.{read_bits}
use Rattle.apdu.specs.Sizes.{buffer_least}
use Rattle.apdu.specs.Pdus.{lent}
use Rattle.apdu.specs.declared.Data.{Data}
use Rattle.apdu.specs.declared.Forward.{Forward as Forwarded}
use Rattle.codec.specs.Codec.{given_fits, forward_given_fits}
use Rattle.control.specs.declared.Side.{Side}
use Rattle.machine.specs.Codes.{security_values}
use Rattle.machine.specs.Outcome.{is_none}
use Rattle.machine.specs.Record.{fresh_record}
use Rattle.machine.specs.declared.record.Record.{Record}
use Rattle.machine.specs.declared.event.UserPrimitive.TheVariants.{StartServiceRequest, StartServiceResponse, EndServiceRequest, EndServiceResponse}
use Rattle.machine.specs.declared.event.ServicePrimitive.{ServicePrimitive}
use Rattle.machine.specs.declared.event.Event.{Event}
use Rattle.machine.specs.declared.event.Event.TheVariants.{User, Forward, Service, TimerExpires, UnrecoverableSystemError}
use Rattle.machine.specs.Event.{event_fits}
use Rattle.machine.specs.declared.outcome.Outcome.{Outcome}
use Rattle.clauses.proofs.Ways.{by_test}
use Rattle.clauses.proofs.Laws.{edition_fixed}
use Rattle.numbered.specs.Numbers.{is_stale, held_after, numbered_step}
use Rattle.numbered.proofs.Laws.{numbered_is}
use Rattle.stored.specs.Stored.{side_byte, state_byte, dsc_byte, timer_byte, active_byte, request_byte, policy_byte, forwards_byte, version_byte, job_bit, job_bits, number_bit, number_bits, record_bits, record_bytes, side_code, end_code, side_of, edition_in, code_at, head_fits, head_of, head_bytes, stored_bytes, version_fits, with_numbers, load_at, Kept, store_at, is_stored}
use Rattle.step.specs.Call.{Carried, Called, pdus_of, finished, concluded, with_record, entering, event_step, user_step, user_call, user_by, forward_step, forward_call, forward_by, data_step, bare_step, service_step, service_call, service_by}
use Rattle.step.proofs.Taken.{never}
use Rattle.card.specs.Face.{no_number, message_requested, abort_requested, holds_message, first_number, fresh_call}
use Rattle.told_card.specs.Answers.{Lent, Call, start, start_response_of, message_request_of, end_request_of, end_response_of, user_abort_of, forward_request_of, service_primitive, timer_expiry, system_error, answer_of, answer, leaves}
use Rattle.told_card.proofs.Theorems.{fresh_bytes}
use Rattle.std.specs.Prelude.{None, Option, Some}
use Rattle.stored.specs.declared.Stored.{Stored}

-- ---- byte 0 of a record says its end and its application type

code_back : (y : ℕ) → 1 ≤ y → y ≤ 4 → end_code (side_of y) (edition_in y) ≡ y
code_back zero h k = absurd (omega arith)
code_back (suc zero) h k = refl
code_back (suc (suc zero)) h k = refl
code_back (suc (suc (suc zero))) h k = refl
code_back (suc (suc (suc (suc zero)))) h k = refl
code_back (suc (suc (suc (suc (suc n))))) h k = absurd (omega arith)

first_two : (a b c d e f g h i j : Bool) → a && b && c && d && e && f && g && h && i && j ≡ true → a && b ≡ true
first_two true true c d e f g h i j q = refl
first_two true false c d e f g h i j q = q
first_two false b c d e f g h i j q = q

head_code : (b : List ℕ) → head_of b ≡ true → end_code (side_of (code_at b side_byte)) (edition_in (code_at b side_byte)) ≡ code_at b side_byte
unfolding head_fits
head_code b h =
    let y = code_at b side_byte in
    let q : leb 1 y && leb y 4 ≡ true = first_two (leb 1 y) (leb y 4) (ltb (code_at b state_byte) 6)
    (ltb (code_at b dsc_byte) 2) (ltb (code_at b timer_byte) 2) (ltb (code_at b active_byte) 2)
    (ltb (code_at b request_byte) security_values) (ltb (code_at b policy_byte) security_values)
    (ltb (code_at b forwards_byte) 2) (version_fits (code_at b version_byte)) h in
    code_back y (leb-true 1 y (both_left (leb 1 y) (leb y 4) q)) (leb-true y 4 (both_right (leb 1 y) (leb y 4) q))

-- what the bytes say
abbrev code_in : Option Stored → ℕ
code_in (Some z) = end_code z.side z.machine.edition
code_in None = 0

abbrev is_record : Option Stored → Bool
is_record (Some z) = true
is_record None = false

pub end_code_is : (b : List ℕ) (sd : Side) (x : Record) (n : ℕ) → load_at b ≡ is_stored sd x n → end_code sd x.edition ≡ code_at b side_byte
unfolding load_at with_numbers
end_code_is b sd x n =
    by_test (λ (z : Option Stored). z ≡ is_stored sd x n → end_code sd x.edition ≡ code_at b side_byte) (eqb (length b) record_bytes && head_of b) _ _
    (λ h. numbers (read_bits (bits_to b record_bits) job_bit job_bits) (read_bits (bits_to b record_bits) number_bit number_bits)
    (both_right (eqb (length b) record_bytes) (head_of b) h))
    (λ h e. never (ap is_record e))
  where
    numbers : (p q : Option (ℕ × ℕ)) → head_of b ≡ true → with_numbers b p q ≡ is_stored sd x n → end_code sd x.edition ≡ code_at b side_byte
    numbers (Some (h, next)) (Some (m, last)) f e = sym (ap code_in e) ∙ head_code b f
    numbers (Some (h, next)) None f e = never (ap is_record e)
    numbers None q f e = never (ap is_record e)

-- ---- no event changes it

numbered_edition : (sd : Side) (r : Record) (n : ℕ) (e : Event) (v : ℕ) → (numbered_step sd r n e v).next.edition ≡ r.edition
numbered_edition sd r n e v =
    ap (λ (o : Outcome). o.next.edition) (numbered_is sd r n e v) ∙ by_test
    (λ (o : Outcome). o.next.edition ≡ r.edition) (event_fits sd r.edition e && is_stale n e v) _ _ (λ q. refl)
    (λ q. edition_fixed sd r e)

store_keeps : (r : List ℕ) (sd : Side) (x : Record) (n : ℕ) → end_code sd x.edition ≡ code_at r side_byte
    → code_at (store_at r sd x n).bytes side_byte ≡ code_at r side_byte
unfolding store_at stored_bytes head_bytes
store_keeps r sd x n e =
    by_test (λ (k : Kept). code_at k.bytes side_byte ≡ code_at r side_byte) (eqb (length r) record_bytes && ltb
    x.request security_values && ltb x.policy security_values && version_fits x.version) _ _ (λ q. e)
    (λ q. refl)

-- ---- no call does, on the bytes r and the buffers a and b

module _ (r a b : List ℕ) where
  abbrev Same : Called → Type 0
  Same c = code_at c.kept side_byte ≡ code_at r side_byte

  event_same : (e : Event) (v : ℕ) (li lm lc : List ℕ) (d : Carried) (sd : Side) (x : Record) (n : ℕ)
      → load_at r ≡ is_stored sd x n → Same (event_step numbered_step r a b e v li lm lc d sd x n)
  unfolding concluded finished
  event_same e v li lm lc d sd x n l =
      by_test Same (is_none (numbered_step sd x n e v).refusal) _ _
      (λ q. store_keeps r sd (numbered_step sd x n e v).next (held_after n e v)
      (ap (end_code sd) (numbered_edition sd x n e v) ∙ end_code_is r sd x n l)) (λ q. refl)

  entering_same : (k : Side → Record → ℕ → Called)
      → ((sd : Side) (x : Record) (n : ℕ) → load_at r ≡ is_stored sd x n → Same (k sd x n)) → Same (entering r a b k)
  unfolding entering with_record
  entering_same k f =
      by_test Same (ltb (length a) buffer_least) _ _ (λ e. refl)
      (λ e. by_test Same (ltb (length b) buffer_least) _ _ (λ g. refl) (λ g. loaded (load_at r) refl))
    where
      loaded : (z : Option Stored) → load_at r ≡ z → Same (with_record r a b z k)
      loaded (Some z) e = f z.side z.machine z.number e
      loaded None e = refl

  user_same : (e : Event) (v : ℕ) (ids msgs checks : List ℕ) (d : Data) → Same (user_call r a b e v ids msgs checks d)
  unfolding user_by user_step
  user_same e v ids msgs checks d =
      entering_same (user_step numbered_step r a b e v (lent ids) (lent msgs) (lent checks) d)
      (λ sd x n l. by_test Same (given_fits x.edition (pdus_of sd) (lent ids) (lent msgs) (lent checks) d) _ _
      (λ q. event_same e v _ _ _ _ sd x n l) (λ q. refl))

  forward_same : (k s v : ℕ) (msgs : List ℕ) (f : Forwarded) → Same (forward_call r a b k s v msgs f)
  unfolding forward_by forward_step
  forward_same k s v msgs f =
      entering_same (forward_step numbered_step r a b k s v (lent msgs) f)
      (λ sd x n l. by_test Same (forward_given_fits x.edition (lent msgs) f) _ _
      (λ q. event_same (Forward k s) v _ _ _ _ sd x n l) (λ q. refl))

  service_same : (p : ServicePrimitive) (v given : ℕ) (bytes : List ℕ) → Same (service_call r a b p v given bytes)
  unfolding service_by service_step data_step bare_step
  service_same p v given bytes =
      entering_same (service_step numbered_step r a b p v given (lent bytes))
      (λ sd x n l. by_test Same (ltb 1 given) _ _ (λ q. refl)
      (λ q. by_test Same (eqb given 1) _ _ (λ g. event_same (Service p _) v _ _ _ _ sd x n l)
      (λ g. event_same (Service p _) v _ _ _ _ sd x n l)))

  call_same : (c : Call) → Same (answer_of r a b c)
  call_same (start v m k s g) = user_same (User (StartServiceRequest m k s)) v.number _ _ _ _
  call_same (start_response_of m y g) = user_same (User (StartServiceResponse m y (holds_message g.bits))) no_number _ _ _ _
  call_same (message_request_of j g) = user_same (User (message_requested g.bits j.number)) no_number _ _ _ _
  call_same (end_request_of m g) = user_same (User (EndServiceRequest m (holds_message g.bits))) no_number _ _ _ _
  call_same (end_response_of m y g) = user_same (User (EndServiceResponse m y (holds_message g.bits))) no_number _ _ _ _
  call_same (user_abort_of y) = user_same (User (abort_requested y)) no_number _ _ _ _
  call_same (forward_request_of v k s f) = forward_same k s v.number _ _
  call_same (service_primitive p v given bytes) = service_same p v.number given bytes
  call_same timer_expiry = user_same TimerExpires no_number _ _ _ _
  call_same system_error = user_same UnrecoverableSystemError no_number _ _ _ _

-- any calls, on any bytes
pub end_fixed : (cs : List Lent) (r : List ℕ) → code_at (leaves r cs) side_byte ≡ code_at r side_byte
unfolding leaves
end_fixed [] r = refl
end_fixed (c ∷ cs) r = end_fixed cs (answer r c).kept ∙ call_same r c.first c.second c.call

-- from the bytes that peat_fresh leaves, where it answers 0: the side sd and the application type t that it was asked for
pub type_fixed : (sd : Side) (r : List ℕ) (p f v t : ℕ) (cs : List Lent) → (fresh_call r (side_code sd) p f v t).number ≡ 0
    → code_at (leaves (fresh_call r (side_code sd) p f v t).bytes cs) side_byte ≡ end_code sd (edition_of t)
type_fixed sd r p f v t cs e =
    let b = (fresh_call r (side_code sd) p f v t).bytes in
    let w = fresh_bytes sd r p f v t e in
    end_fixed cs b ∙ sym (end_code_is b sd (fresh_record w.configuration) first_number w.bytes.load) ∙ ap (end_code sd) w.edition
