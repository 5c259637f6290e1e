-- The step with a number is the machine's step but for what is stale, and the number of a start stays.
-- Assumes nothing.
use mathlib.Core.Path.{◌≡◌, refl, ap, ◌∙◌}
use mathlib.Core.Bool.{Bool, true, false, not, cond, ◌&&◌}
use Prim.Native.Nat.{ℕ, ◌≤◌, ◌<◌}
use borrow.Author.Tests.{lt-ltb, le-ltb, ne_eqb}
use lib.Dec.{ltb, eqb}
use Rattle.control.specs.declared.Side.{Side}
use Rattle.machine.specs.Event.{event_fits}
use Rattle.machine.specs.Outcome.{is_none, refused}
use Rattle.machine.specs.Primitives.{reached}
use Rattle.machine.specs.Step.{permitted, message_refusal, acts, step, step_fitting}
use Rattle.machine.specs.Step as S
use Rattle.machine.proofs.Fitting.{step_of_fitting}
use Rattle.machine.specs.declared.record.Record.{Record}
use Rattle.machine.specs.declared.event.UserData.{UserData}
use Rattle.machine.specs.declared.event.ServicePrimitive.{ServicePrimitive}
use Rattle.machine.specs.declared.event.Event.{Event}
use Rattle.machine.specs.declared.event.Event.TheVariants.{User, Service, TimerExpires, UnrecoverableSystemError}
use Rattle.machine.specs.declared.outcome.StepRefusal.{StepRefusal}
use Rattle.machine.specs.declared.outcome.StepRefusal.TheVariants.{Shape, Stale, Prohibited}
use Rattle.machine.specs.declared.outcome.Outcome.{Outcome}
use Rattle.numbered.specs.Numbers.{is_start, is_service, service_starts, is_stale, held_after, refusal_of, looked_over, numbered_step}
use Rattle.std.specs.Prelude.{None, Option, Some}

-- s: is it event_fits; l: is it stale; w: what else is refused
in_order : (s l : Bool) (w : Option StepRefusal) (a : Outcome) (r : Record)
    → cond (is_none (cond (not s) (Some Shape) (cond l (Some Stale) w))) a (refused (cond (not s) (Some Shape) (cond l (Some Stale) w)) r)
    ≡ cond (s && l) (refused (Some Stale) r) (cond (is_none (cond (not s) (Some Shape) w)) a (refused (cond (not s) (Some Shape) w) r))
in_order true true w a r = refl
in_order true false w a r = refl
in_order false l w a r = refl

-- the check, and the step as it is
pub numbered_is : (sd : Side) (r : Record) (n : ℕ) (e : Event) (v : ℕ)
    → numbered_step sd r n e v ≡ cond (event_fits sd r.edition e && is_stale n e v) (refused (Some Stale) r) (step sd r e)
unfolding numbered_step refusal_of step S.refusal_of
numbered_is sd r n e v = in_order (event_fits sd r.edition e) (is_stale n e v)
    (cond (not (permitted sd r e)) (Some Prohibited) (message_refusal r e)) (acts sd r e) r

pub shape_first : (sd : Side) (r : Record) (n : ℕ) (e : Event) (v : ℕ) → event_fits sd r.edition e ≡ false
    → numbered_step sd r n e v ≡ refused (Some Shape) r
unfolding numbered_step refusal_of
shape_first sd r n e v s = rw s

pub then_stale : (sd : Side) (r : Record) (n : ℕ) (e : Event) (v : ℕ) → event_fits sd r.edition e ≡ true
    → is_stale n e v ≡ true → numbered_step sd r n e v ≡ refused (Some Stale) r
unfolding numbered_step refusal_of
then_stale sd r n e v s l = rw (s, l)

pub then_step : (sd : Side) (r : Record) (n : ℕ) (e : Event) (v : ℕ) → is_stale n e v ≡ false → numbered_step sd r n e v ≡ step sd r e
then_step sd r n e v l = rw (numbered_is sd r n e v, l) (go (event_fits sd r.edition e))
  where
    go : (s : Bool) → cond (s && false) (refused (Some Stale) r) (step sd r e) ≡ step sd r e
    go true = refl
    go false = refl

-- where the codes were looked at already
pub then_fitting : (sd : Side) (r : Record) (n : ℕ) (e : Event) (v : ℕ) → event_fits sd r.edition e ≡ true
    → is_stale n e v ≡ false → numbered_step sd r n e v ≡ step_fitting sd r e
then_fitting sd r n e v s l = then_step sd r n e v l ∙ step_of_fitting sd r e s

pub looked_refused : (sd : Side) (r : Record) (n : ℕ) (e : Event) (v : ℕ) (w : StepRefusal) → looked_over sd r n e v ≡ Some w
    → numbered_step sd r n e v ≡ refused (Some w) r
unfolding numbered_step refusal_of
looked_refused sd r n e v w = go (event_fits sd r.edition e) (is_stale n e v)
  where
    go : (s l : Bool) → cond (not s) (Some Shape) (cond l (Some Stale) None) ≡ Some w
        → cond (is_none (cond (not s) (Some Shape) (cond l (Some Stale) (cond (not (permitted sd r e)) (Some Prohibited) (message_refusal r e)))))
        (acts sd r e)
        (refused (cond (not s) (Some Shape) (cond l (Some Stale) (cond (not (permitted sd r e)) (Some Prohibited) (message_refusal r e)))) r)
        ≡ refused (Some w) r
    go false l q = ap (λ (o : Option StepRefusal). refused o r) q
    go true true q = ap (λ (o : Option StepRefusal). refused o r) q
    go true false q = absurd (cc)

pub looked_fitting : (sd : Side) (r : Record) (n : ℕ) (e : Event) (v : ℕ) → looked_over sd r n e v ≡ None
    → numbered_step sd r n e v ≡ step_fitting sd r e
unfolding numbered_step refusal_of step_fitting S.refusal_fitting
looked_fitting sd r n e v = go (event_fits sd r.edition e) (is_stale n e v)
  where
    go : (s l : Bool) → cond (not s) (Some Shape) (cond l (Some Stale) None) ≡ None
        → cond (is_none (cond (not s) (Some Shape) (cond l (Some Stale) (cond (not (permitted sd r e)) (Some Prohibited) (message_refusal r e)))))
        (acts sd r e)
        (refused (cond (not s) (Some Shape) (cond l (Some Stale) (cond (not (permitted sd r e)) (Some Prohibited) (message_refusal r e)))) r)
        ≡ cond (is_none (cond (not (permitted sd r e)) (Some Prohibited) (message_refusal r e))) (acts sd r e)
        (refused (cond (not (permitted sd r e)) (Some Prohibited) (message_refusal r e)) r)
    go false l q = absurd (cc)
    go true true q = absurd (cc)
    go true false q = refl

-- "A primitive of another number changes nothing"
pub other_number : (sd : Side) (r : Record) (n : ℕ) (p : ServicePrimitive) (a : UserData) (v : ℕ)
    → event_fits sd r.edition (Service p a) ≡ true → service_starts p ≡ false → (v ≡ n → ⊥)
    → numbered_step sd r n (Service p a) v ≡ refused (Some Stale) r
unfolding numbered_step refusal_of is_stale is_start is_service
other_number sd r n p a v s t h = rw (s, t, ne_eqb v n h)

-- and a start whose number is not above
pub lower_start : (sd : Side) (r : Record) (n : ℕ) (e : Event) (v : ℕ) → event_fits sd r.edition e ≡ true
    → is_start e ≡ true → v ≤ n → numbered_step sd r n e v ≡ refused (Some Stale) r
unfolding numbered_step refusal_of is_stale
lower_start sd r n e v s t h = rw (s, t, le-ltb n v h)

-- "a D-START indication may bring a higher one; the record then holds that number, also where its state or a fault turns the start away": whatever is done about it, it is
-- not refused, and the number is its own
pub higher_start : (sd : Side) (r : Record) (n : ℕ) (p : ServicePrimitive) (a : UserData) (v : ℕ)
    → event_fits sd r.edition (Service p a) ≡ true → service_starts p ≡ true → n < v
    → (numbered_step sd r n (Service p a) v ≡ reached sd r p a) × (held_after n (Service p a) v ≡ v)
unfolding numbered_step refusal_of is_stale is_start held_after permitted message_refusal acts
higher_start sd r n p a v s t h = (rw (s, t, lt-ltb n v h), rw t)
