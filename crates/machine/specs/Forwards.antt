-- The CPDLC-forward service at both centres (Doc 9705 2.3.3.8): the request, the indication with its answer, the confirmation.
use Rattle.std.specs.Prelude.{ℕ, Bool, true, false, not, cond, eqb, None, Option, Some}
use Rattle.machine.specs.Codes.{success, service_not_supported, version_not_equal, no_version}
use Rattle.control.specs.Control.{closed, forwarding}
use Rattle.machine.specs.Record.{with_timer, with_user, with_request, enter}
use Rattle.machine.specs.Outcome.{outcome}
use Rattle.machine.specs.Exceptions.{closes}
use Rattle.editions.specs.Editions.{secures}
use Rattle.machine.specs.Calls.{qos_asked, security_sent}
use Rattle.machine.specs.declared.record.Record.{Record}
use Rattle.machine.specs.declared.event.UserData.TheVariants.{Forward, ForwardResponse}
use Rattle.machine.specs.declared.outcome.Invoked.TheVariants.{DStartForwardRequest, DStartForwardResponse}
use Rattle.machine.specs.declared.outcome.Told.{Told}
use Rattle.machine.specs.declared.outcome.Told.TheVariants.{ForwardIndication, ForwardConfirmation}
use Rattle.machine.specs.declared.outcome.Outcome.{Outcome}

-- CPDLC-forward request: 2.3.5.5.13.1. t-start is started and the user becomes active (3.5.5.1.6 d). The D-START carries the own version,
-- which the other centre compares (2.3.5.5.2.3)
unfoldable pub forward_request : Record → ℕ → ℕ → Outcome
forward_request r k s =
    outcome (enter (with_request (with_user (with_timer r true) true) (security_sent (secures r.edition) s)) (forwarding r.control)) (Some (DStartForwardRequest (qos_asked k) (security_sent (secures r.edition) s) r.version)) None Forward false

-- D-START response "rejected (permanent)" with a forward response, in the same event; IDLE stays (2.3.5.5.2.3, 2.3.5.5.2.4). The user does
-- not become active
unfoldable pub responds : Record → ℕ → ℕ → ℕ → Option Told → Outcome
responds r x s v t = outcome (enter r closed) (Some (DStartForwardResponse (security_sent (secures r.edition) s) v)) t (ForwardResponse x) false

-- a forward message with security s and version v: 2.3.5.5.2.4 where forwarding is not supported, else 2.3.5.5.2.3 a) or b)
unfoldable pub forward_arrives : Record → ℕ → ℕ → Outcome
forward_arrives r s v =
    cond (not r.forwards) (responds r service_not_supported s no_version None)
    (cond (eqb v r.version) (responds r success s no_version (Some ForwardIndication)) (responds r version_not_equal s r.version None))

-- 2.3.5.5.3.3: t-start is stopped, the user is told the result and the version, if one came; IDLE
unfoldable pub forward_confirmed : Record → ℕ → ℕ → Outcome
forward_confirmed r x v = closes (with_timer r false) (Some (ForwardConfirmation x v))
