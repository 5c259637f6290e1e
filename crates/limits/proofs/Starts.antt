-- "a D-START indication may bring a higher one; the record then holds that number, also where its state or a fault turns the start away" (document 02, E9), of the bytes that
-- a call leaves, with user data that can be read, with user data that can't, and with none.
-- Assumes nothing.
use mathlib.Core.Path.{◌≡◌, refl}
use mathlib.Core.Bool.{Bool, true, false, not, cond, ◌&&◌}
use mathlib.Core.List.{List}
use Prim.Native.Nat.{ℕ, ◌^◌, ◌≤◌, ◌<◌}
use native.Mathlib.Omega.{arith}
use borrow.Author.Tests.{le-leb, le-ltb, lt-ltb, eq-eqb, eqb-true}
use lib.Dec.{eqb}
use lib.ListN.{length}
use Rattle.bits.specs.Bits.{bits_to}
use Rattle.bits.specs.Read.{read_bits}
use Rattle.apdu.specs.Sizes.{buffer_least}
use Rattle.apdu.specs.Pdus.{lent}
use Rattle.control.specs.Control.{is_idle}
use Rattle.control.specs.declared.Side.{Side}
use Rattle.control.specs.declared.Control.{Control}
use Rattle.control.specs.declared.Primitive.{Primitive}
use Rattle.machine.specs.Codes.{security_values, versions}
use Rattle.machine.specs.Record.{with_user, enter}
use Rattle.machine.specs.UserData.{user_data_fits, is_forward}
use Rattle.machine.specs.Event.{service_fits, event_fits}
use Rattle.machine.specs.Outcome.{is_none}
use Rattle.machine.specs.Exceptions.{closes, aborts, excepts, no_instruction}
use Rattle.machine.specs.Forwards.{responds, forward_arrives}
use Rattle.machine.specs.Faults.{first_fault}
use Rattle.machine.specs.Primitives.{handed, instructed, answered, reached}
use Rattle.machine.specs.declared.record.Record.{Record}
use Rattle.machine.specs.declared.event.UserData.{UserData}
use Rattle.machine.specs.declared.event.UserData.TheVariants.{Absent}
use Rattle.machine.specs.declared.event.Qos.{Qos}
use Rattle.machine.specs.declared.event.ServicePrimitive.{ServicePrimitive}
use Rattle.machine.specs.declared.event.ServicePrimitive.TheVariants.{DStartIndication}
use Rattle.machine.specs.declared.event.Event.TheVariants.{Service}
use Rattle.machine.specs.declared.faults.Fault.{Fault}
use Rattle.machine.specs.declared.faults.Fault.TheVariants.{NoInstruction, Quality, TurnedAway, Security, Missing, Invalid, NotPermitted}
use Rattle.machine.specs.declared.outcome.Told.{Told}
use Rattle.machine.specs.declared.outcome.Outcome.{Outcome}
use Rattle.clauses.proofs.Ways.{by_test}
use Rattle.numbered.specs.Numbers.{numbered_step, held_after, service_starts}
use Rattle.numbered.proofs.Laws.{higher_start}
use Rattle.stored.specs.Stored.{record_bytes, record_bits, job_bit, job_bits, number_bit, number_bits, head_of, with_numbers, load_at, store_at, is_stored}
use Rattle.stored.proofs.Storing.{Coded, loaded_stored}
use Rattle.step.proofs.Fitting.{read_fits}
use Rattle.step.specs.Call.{Carried, finished, concluded, with_record, entering, event_step, read_pdu, meaning, data_step, bare_step, service_step, service_call, service_by}
use Rattle.std.specs.Prelude.{None, Option, Some}

-- ---- a D-START indication is never refused, and leaves a record whose codes are of their types

abbrev Fine : Outcome → Type 0
Fine o = (is_none o.refusal ≡ true) × Coded o.next

module _ (r : Record) (k : Coded r) where
  entered_coded : (c : Control) → Coded (enter r c)
  unfolding enter
  entered_coded c = record { request = k.request; policy = k.policy; least = k.least; most = k.most; highest = k.highest }

  closes_fine : (t : Option Told) → Fine (closes r t)
  unfolding closes
  closes_fine t = (refl, entered_coded _)

  aborts_fine : (p : ℕ) (t : Option Told) → Fine (aborts r p t)
  unfolding aborts
  aborts_fine p t = (refl, entered_coded _)

  excepts_fine : (o : Bool) (p s : ℕ) → Fine (excepts r o p s)
  unfolding excepts
  excepts_fine true p s = aborts_fine p _
  excepts_fine false p s = closes_fine _

  none_fine : (x : Bool) → Fine (no_instruction r x)
  unfolding no_instruction
  none_fine x = by_test Fine (is_idle r.control) _ _ (λ e. closes_fine _) (λ e. excepts_fine x _ _)

  responds_fine : (x s v : ℕ) (t : Option Told) → Fine (responds r x s v t)
  unfolding responds
  responds_fine x s v t = (refl, entered_coded _)

  forward_fine : (s v : ℕ) → Fine (forward_arrives r s v)
  unfolding forward_arrives
  forward_fine s v = by_test Fine (not r.forwards) _ _ (λ e. responds_fine _ s _ _)
      (λ e. by_test Fine (eqb v r.version) _ _ (λ f. responds_fine _ s _ _) (λ f. responds_fine _ s _ _))

  handed_fine : (p : Primitive) (t : Option Told) → Fine (handed r p t)
  unfolding handed
  handed_fine p t = (refl, entered_coded _)

user_coded : (r : Record) (on : Bool) → Coded r → Coded (with_user r on)
user_coded r on k = record { request = k.request; policy = k.policy; least = k.least; most = k.most; highest = k.highest }

module _ (sd : Side) (r : Record) (k : Coded r) (x s : ℕ) (q : Qos) (w : ℕ) where
  answered_fine : (a : UserData) (f : Option Fault) → Fine (answered r (DStartIndication x s q w) a f)
  unfolding answered instructed
  answered_fine a None = by_test Fine (is_forward a) _ _ (λ e. forward_fine r k s w)
      (λ e. handed_fine (with_user r true) (user_coded r true k) _ _)
  answered_fine a (Some (NoInstruction live)) = none_fine r k live
  answered_fine a (Some Quality) = aborts_fine r k _ _
  answered_fine a (Some TurnedAway) = closes_fine r k _
  answered_fine a (Some (Security live)) = excepts_fine r k live _ _
  answered_fine a (Some Missing) = excepts_fine r k true _ _
  answered_fine a (Some (Invalid live)) = excepts_fine r k live _ _
  answered_fine a (Some (NotPermitted live)) = excepts_fine r k live _ _

  reached_fine : (a : UserData) → Fine (reached sd r (DStartIndication x s q w) a)
  unfolding reached
  reached_fine a = answered_fine a (first_fault sd r (DStartIndication x s q w) a)

-- ---- the call

-- the bytes are those of a record that holds the number
pub record Holds (sd : Side) (b : List ℕ) (v : ℕ) : Type 0 where
  pub rec : Record
  pub load : load_at b ≡ is_stored sd rec v

module _ (r a b : List ℕ) (sd : Side) (x : Record) (n v : ℕ) (load : load_at r ≡ is_stored sd x n) (coded : Coded x) (first : buffer_least ≤ length a) (second : buffer_least ≤ length b)
    (y s : ℕ) (q : Qos) (w : ℕ) (fits : service_fits (DStartIndication y s q w) ≡ true) (above : n < v) (top : v < 2 ^ 64) where
  abbrev p : ServicePrimitive
  p = DStartIndication y s q w

  size : length r ≡ record_bytes
  unfolding load_at
  size = by (eqb (length r) record_bytes) refl load
    where
      by : (t : Bool) → eqb (length r) record_bytes ≡ t
          → cond (t && head_of r) (with_numbers r (read_bits (bits_to r record_bits) job_bit job_bits) (read_bits (bits_to r record_bits) number_bit number_bits)) None ≡ is_stored sd x n
          → length r ≡ record_bytes
      by true e h = eqb-true (length r) record_bytes e
      by false e h = let z : ◌≡◌ {A = ℕ} 0 1 = cc in absurd (omega arith)

  stored_holds : (z : Record) → Coded z → Holds sd (store_at r sd z v).bytes v
  unfolding store_at
  stored_holds z k = record { rec = z; load = rw (eq-eqb (length r) record_bytes size, lt-ltb z.request security_values k.request, lt-ltb z.policy security_values k.policy, le-leb 1 z.version k.least, lt-ltb z.version versions k.most) (loaded_stored sd z v k top) }

  taken : n < v → (u : UserData) → user_data_fits x.edition u ≡ true
      → (numbered_step sd x n (Service p u) v ≡ reached sd x p u) × (held_after n (Service p u) v ≡ v)
  unfolding event_fits service_starts
  taken higher u g = higher_start sd x n p u v (rw (fits, g)) refl higher

  concluded_holds : (o : Outcome) → Fine o → (li lm lc : List ℕ) (d : Carried)
      → Holds sd (concluded r a b x.edition sd v o li lm lc d).kept v
  unfolding concluded finished
  concluded_holds o f li lm lc d = rw f.0 (stored_holds o.next f.1)

  event_holds : n < v → (u : UserData) → user_data_fits x.edition u ≡ true → (li lm lc : List ℕ) (d : Carried)
      → Holds sd (event_step numbered_step r a b (Service p u) v li lm lc d sd x n).kept v
  event_holds higher u g li lm lc d =
      let t = taken higher u g in
      rw (t.0, t.1) (concluded_holds (reached sd x p u) (reached_fine sd x coded y s q w u) li lm lc d)

  -- WHATEVER IS DONE ABOUT IT, THE RECORD THEN HOLDS THE NUMBER
  pub start_held : (given : ℕ) (bytes : List ℕ) → given ≤ 1 → Holds sd (service_call r a b p v given bytes).kept v
  unfolding service_by entering with_record service_step data_step bare_step user_data_fits
  start_held given bytes h =
      rw (le-ltb (length a) buffer_least first, le-ltb (length b) buffer_least second, load, le-ltb 1 given h) (go (eqb given 1))
    where
      go : (t : Bool)
          → Holds sd (cond t (data_step numbered_step r a b p v (lent bytes) sd x n) (bare_step numbered_step r a b p v (lent bytes) sd x n)).kept v
      go true = event_holds above (meaning (read_pdu x.edition sd x.control p (lent bytes)))
          (read_fits x.edition sd x.control p bytes) (lent bytes) (lent bytes) (lent bytes) _
      go false = event_holds above Absent refl (lent bytes) (lent bytes) (lent bytes) _
