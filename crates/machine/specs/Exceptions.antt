-- Exception handling: Doc 9880 3.5.4 (air), Doc 9705 2.3.5.4 (air) and 2.3.5.6 (ground). Every clause here ends in IDLE.
use Rattle.std.specs.Prelude.{ℕ, Bool, true, false, cond, None, Option, Some}
use Rattle.machine.specs.Codes.{provider, timer_expired, undefined_error, protocol_error}
use Rattle.control.specs.Control.{is_idle, closed}
use Rattle.machine.specs.Record.{enter}
use Rattle.machine.specs.Outcome.{outcome}
use Rattle.machine.specs.declared.record.Record.{Record}
use Rattle.machine.specs.declared.event.UserData.TheVariants.{Absent, AbortProvider}
use Rattle.machine.specs.declared.outcome.Invoked.TheVariants.{DAbortRequest}
use Rattle.machine.specs.declared.outcome.Told.{Told}
use Rattle.machine.specs.declared.outcome.Told.TheVariants.{ProviderAbortIndication}
use Rattle.machine.specs.declared.outcome.Outcome.{Outcome}

-- ---- the shapes

-- "if the user is an active user, invoke .."
unfoldable pub tell : Record → Option Told → Option Told
tell r t = cond r.active t None

-- nothing is sent
unfoldable pub closes : Record → Option Told → Outcome
closes r t = outcome (enter r closed) None t Absent false

-- abort as provider with reason p
unfoldable pub aborts : Record → ℕ → Option Told → Outcome
aborts r p t = outcome (enter r closed) (Some (DAbortRequest provider)) t (AbortProvider p) false

-- if the dialogue is open, abort as provider with reason p; tell an active user reason s
unfoldable pub excepts : Record → Bool → ℕ → ℕ → Outcome
excepts r live p s = cond live (aborts r p (tell r (Some (ProviderAbortIndication s)))) (closes r (tell r (Some (ProviderAbortIndication s))))

-- ---- the clauses

-- 3.5.4.1, 2.3.5.6.1: a timer expires
unfoldable pub timer_expires : Record → Outcome
timer_expires r = excepts r true timer_expired timer_expired

-- 3.5.4.2, 2.3.5.6.2: unrecoverable system error; in IDLE it gives no output (document 01)
unfoldable pub system_error : Record → Outcome
system_error r = cond (is_idle r.control) (closes r None) (excepts r true undefined_error undefined_error)

-- 3.5.4.4.3, 2.3.5.6.4.4: a primitive for which there are no instructions; D-ABORT if a dialogue exists. In IDLE no output (document 01)
unfoldable pub no_instruction : Record → Bool → Outcome
no_instruction r exists = cond (is_idle r.control) (closes r None) (excepts r exists protocol_error protocol_error)
