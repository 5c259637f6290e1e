-- A call that is refused leaves the record and every byte of the two buffers as they were.
-- Assumes nothing.
use mathlib.Core.Path.{◌≡◌, refl}
use mathlib.Core.List.{List}
use Prim.Native.Nat.{ℕ, ◌%◌}
use lib.Dec.{ltb, eqb}
use lib.ListN.{length}
use Rattle.apdu.specs.Sizes.{buffer_least}
use Rattle.apdu.specs.Pdus.{lent}
use Rattle.codec.specs.Codec.{given_fits, forward_given_fits}
use Rattle.editions.specs.declared.Edition.{Edition}
use Rattle.apdu.specs.declared.Data.{Data}
use Rattle.apdu.specs.declared.Forward.{Forward}
use Rattle.machine.specs.Outcome.{is_none}
use Rattle.clauses.proofs.Ways.{by_test}
use Rattle.control.specs.declared.Side.{Side}
use Rattle.machine.specs.declared.record.Record.{Record}
use Rattle.machine.specs.declared.event.Event.{Event}
use Rattle.machine.specs.declared.outcome.Outcome.{Outcome}
use Rattle.stored.specs.Stored.{load_at}
use Rattle.numbered.specs.Numbers.{numbered_step}
use Rattle.step.specs.Call.{Carried, Called, carries_data, carries_forward, finished, concluded, with_record, entering, pdus_of, user_step, user_call, user_by, forward_step, forward_call, forward_by, data_step, bare_step, service_step, service_call, service_by}
use Rattle.machine.specs.declared.event.ServicePrimitive.{ServicePrimitive}
use Rattle.packed.proofs.Unpacked.{refusal_unpacked}
use Rattle.std.specs.Prelude.{None, Option, Some}
use Rattle.stored.specs.declared.Stored.{Stored}

-- the low byte of a refusal is not 0
abbrev pub Leaves : List ℕ → List ℕ → List ℕ → Called → Type 0
Leaves r a b c = (c.number % 256 ≡ 0 → ⊥) → (c.kept ≡ r) × (c.first ≡ a) × (c.second ≡ b)

module _ (r a b : List ℕ) where
  concluded_leaves : (ed : Edition) (sd : Side) (n : ℕ) (o : Outcome) (li lm lc : List ℕ) (d : Carried)
      → Leaves r a b (concluded r a b ed sd n o li lm lc d)
  unfolding concluded finished
  concluded_leaves ed sd n o li lm lc d = by_test (Leaves r a b) (is_none o.refusal) _ _
      (λ e n. absurd (n (refusal_unpacked _ _ _ _ _))) (λ e n. (refl, refl, refl))

  with_leaves : (l : Option Stored) (k : Side → Record → ℕ → Called)
      → ((sd : Side) (x : Record) (n : ℕ) → Leaves r a b (k sd x n)) → Leaves r a b (with_record r a b l k)
  unfolding with_record
  with_leaves (Some z) k h = h z.side z.machine z.number
  with_leaves None k h = λ n. (refl, refl, refl)

  entering_leaves : (k : Side → Record → ℕ → Called) → ((sd : Side) (x : Record) (n : ℕ) → Leaves r a b (k sd x n))
      → Leaves r a b (entering r a b k)
  unfolding entering
  entering_leaves k h =
      by_test (Leaves r a b) (ltb (length a) buffer_least) _ _ (λ e n. (refl, refl, refl))
      (λ e. by_test (Leaves r a b) (ltb (length b) buffer_least) _ _ (λ f n. (refl, refl, refl)) (λ f. with_leaves (load_at r) k h))

  pub user_leaves : (e : Event) (v : ℕ) (ids msgs checks : List ℕ) (d : Data) → Leaves r a b (user_call r a b e v ids msgs checks d)
  unfolding user_by user_step
  user_leaves e v ids msgs checks d =
      entering_leaves (user_step numbered_step r a b e v (lent ids) (lent msgs) (lent checks) d) (λ sd x n. by_test
      (Leaves r a b) (given_fits x.edition (pdus_of sd) (lent ids) (lent msgs) (lent checks) d) _ _
      (λ h. concluded_leaves x.edition sd _ _ _ _ _ (carries_data d)) (λ h w. (refl, refl, refl)))

  pub forward_leaves : (k s v : ℕ) (msgs : List ℕ) (f : Forward) → Leaves r a b (forward_call r a b k s v msgs f)
  unfolding forward_by forward_step
  forward_leaves k s v msgs f =
      entering_leaves (forward_step numbered_step r a b k s v (lent msgs) f) (λ sd x n. by_test (Leaves r a b)
      (forward_given_fits x.edition (lent msgs) f) _ _
      (λ h. concluded_leaves x.edition sd _ _ _ _ _ (carries_forward f)) (λ h w. (refl, refl, refl)))

  pub service_leaves : (p : ServicePrimitive) (v given : ℕ) (bytes : List ℕ) → Leaves r a b (service_call r a b p v given bytes)
  unfolding service_by service_step data_step bare_step
  service_leaves p v given bytes =
      entering_leaves (service_step numbered_step r a b p v given (lent bytes)) (λ sd x n. by_test (Leaves r a b) (ltb 1 given) _ _ (λ h w. (refl, refl, refl))
      (λ h. by_test (Leaves r a b) (eqb given 1) _ _ (λ g. concluded_leaves x.edition sd _ _ _ _ _ _)
      (λ g. concluded_leaves x.edition sd _ _ _ _ _ _)))
