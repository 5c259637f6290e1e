-- The engine: the first row that fits, and what its columns say is done.
use Rattle.std.specs.Prelude.{ℕ, Bool, true, false, not, cond, ◌&&◌, ◌||◌, List, [], ◌∷◌, eqb, ltb, leb, None, Option, Some}
use Rattle.control.specs.Control.{number, entered}
use Rattle.control.specs.declared.Side.{Side}
use Rattle.control.specs.declared.Side.TheVariants.{Air, Ground}
use Rattle.control.specs.declared.State.{State}
use Rattle.control.specs.declared.State.TheVariants.{Idle, StartReq, StartInd, Dialogue, End, Forward}
use Rattle.control.specs.declared.Control.{Control}
use Rattle.machine.specs.Codes.{user, provider, no_version, high_priority, low_error_rate}
use Rattle.machine.specs.Event.{event_fits}
use Rattle.machine.specs.Outcome.{refused}
use Rattle.machine.specs.UserData.{reason_of, is_user_abort}
use Rattle.machine.specs.declared.record.Record.{Record}
use Rattle.machine.specs.declared.event.UserData.{UserData}
use Rattle.machine.specs.declared.event.UserData.TheVariants.{Absent, Start, AbortUser, AbortProvider, ForwardResponse}
use Rattle.machine.specs.declared.event.UserData.TheVariants as pdu
use Rattle.machine.specs.declared.event.Qos.{Qos}
use Rattle.machine.specs.declared.event.Event.{Event}
use Rattle.machine.specs.declared.outcome.StepRefusal.{StepRefusal}
use Rattle.machine.specs.declared.outcome.StepRefusal.TheVariants.{Shape, Stale, Prohibited, NoMessage, Repeat}
use Rattle.machine.specs.declared.outcome.Invoked.{Invoked}
use Rattle.machine.specs.declared.outcome.Invoked.TheVariants.{DStartRequest, DStartResponse, DDataRequest, DEndRequest, DEndResponse, DAbortRequest, DStartForwardRequest, DStartForwardResponse}
use Rattle.machine.specs.declared.outcome.Told.{Told}
use Rattle.machine.specs.declared.outcome.Told.TheVariants.{StartIndication, StartConfirmation, MessageIndication, EndIndication, EndConfirmation, UserAbortIndication, ProviderAbortIndication, ForwardIndication, ForwardConfirmation}
use Rattle.machine.specs.declared.outcome.Outcome.{Outcome}
use Rattle.numbered.specs.Numbers.{is_stale}
use Rattle.rows.specs.Names as n
use Rattle.rows.specs.Events.{title_of, condition_of, parameters_of}
use Rattle.rows.specs.declared.Parameters.{Parameters}
use Rattle.rows.specs.declared.Out.{Out}
use Rattle.rows.specs.declared.Row.{Row}
use Rattle.rows.specs.Table.{nothing_done, rows}

-- ---- does a row fit

abbrev pub flag : Bool → ℕ
flag b = cond b n.yes n.no

unfoldable pub side_fits : ℕ → Side → Bool
side_fits x Air = not (eqb x n.ground)
side_fits x Ground = not (eqb x n.air)

-- 30 and above stand for several events
unfoldable pub title_fits : ℕ → ℕ → Bool
title_fits x t =
    cond (ltb x n.any_user) (eqb x t)
    (cond (eqb x n.any_user) (ltb t n.d_start)
    (cond (eqb x n.any_service) (leb n.d_start t && ltb t n.expiry) (cond (eqb x n.d_start_confirmation) (eqb t n.d_start_accepted || eqb t n.d_start_rejected) (eqb t n.d_end_accepted || eqb t n.d_end_rejected))))

unfoldable pub number_fits : ℕ → ℕ → Bool
number_fits x s = cond (eqb x n.any_state) true (cond (eqb x n.busy) (not (eqb s n.idle)) (eqb x s))

abbrev pub state_fits : ℕ → State → Bool
state_fits x s = number_fits x (number s)

unfoldable pub flag_fits : ℕ → Bool → Bool
flag_fits x b = cond (eqb x n.as_is) true (eqb x (flag b))

unfoldable pub condition_fits : ℕ → ℕ → Bool
condition_fits x k = cond (eqb x n.anyhow) true (eqb x k)

unfoldable pub fits : Row → Side → Control → ℕ → ℕ → Bool
fits x sd c t k = title_fits x.event t && (state_fits x.state c.state && (side_fits x.side sd && (flag_fits x.dsc c.dsc && condition_fits x.condition k)))

unfoldable pub walk : List Row → Side → Control → ℕ → ℕ → Out
walk [] sd c t k = nothing_done
walk (x ∷ xs) sd c t k = cond (fits x sd c t k) x.out (walk xs sd c t k)

-- ---- what its columns say is done

abbrev pub state_of : ℕ → State
state_of x = cond (eqb x n.idle) Idle (cond (eqb x n.start_req) StartReq (cond (eqb x n.start_ind) StartInd (cond (eqb x n.dialogue) Dialogue (cond (eqb x n.end) End Forward))))

abbrev pub state_after : ℕ → State → State
state_after x s = cond (eqb x n.stays) s (state_of x)

abbrev pub flag_after : ℕ → Bool → Bool
flag_after x b = cond (eqb x n.as_is) b (eqb x n.yes)

-- a number that is kept where the code says so
abbrev pub number_after : ℕ → ℕ → ℕ → ℕ → ℕ
number_after code which new old = cond (eqb code which) new old

abbrev pub next_of : Record → Parameters → Out → Record
next_of r g o =
    record {
      control = entered (state_after o.next r.control.state) (flag_after o.dsc r.control.dsc);
      timer = flag_after o.timer r.timer;
      active = flag_after o.user r.active;
      highest = number_after o.keeps n.job g.job r.highest;
      request = number_after o.keeps n.security g.security r.request;
      policy = r.policy;
      forwards = r.forwards;
      version = r.version;
      edition = r.edition;
    }

abbrev pub refusal_is : ℕ → Option StepRefusal
refusal_is x = cond (eqb x n.taken) None (cond (eqb x n.prohibited) (Some Prohibited) (cond (eqb x n.without_message) (Some NoMessage) (Some Repeat)))

-- the quality of service that 2.3.6.2.2 asks for
abbrev pub quality : ℕ → Qos
quality k = record { priority = high_priority; rer = low_error_rate; routing = k }

abbrev pub invokes : Record → Parameters → ℕ → Option Invoked
invokes r g x =
    cond (eqb x n.silent) None
    (cond (eqb x n.start_out) (Some (DStartRequest (quality g.class) g.security))
    (cond (eqb x n.dsc_start_out) (Some (DStartRequest (quality g.class) g.security))
    (cond (eqb x n.start_answer) (Some (DStartResponse g.result g.security))
    (cond (eqb x n.data_out) (Some DDataRequest)
    (cond (eqb x n.end_out) (Some DEndRequest)
    (cond (eqb x n.end_answer) (Some (DEndResponse g.result))
    (cond (eqb x n.abort_by_user) (Some (DAbortRequest user))
    (cond (eqb x n.abort_by_provider) (Some (DAbortRequest provider))
    (cond (eqb x n.forward_out) (Some (DStartForwardRequest (quality g.class) g.security r.version))
    (cond (eqb x n.forward_answer) (Some (DStartForwardResponse g.security no_version)) (Some (DStartForwardResponse g.security r.version))))))))))))

abbrev pub apdu_of : Parameters → ℕ → ℕ → UserData
apdu_of g x why =
    cond (eqb x n.silent) Absent
    (cond (eqb x n.start_out) (Start false)
    (cond (eqb x n.dsc_start_out) (Start true)
    (cond (eqb x n.abort_by_user) (AbortUser g.reason)
    (cond (eqb x n.abort_by_provider) (AbortProvider why)
    (cond (eqb x n.forward_out) pdu.Forward
    (cond (eqb x n.forward_answer) (ForwardResponse why) (cond (eqb x n.forward_answer_with_version) (ForwardResponse why) g.pdu)))))))

-- "if the user is an active user"
abbrev pub if_active : Record → Option Told → Option Told
if_active r t = cond r.active t None

-- the abort of the PDU
abbrev pub abort_in : UserData → Option Told
abort_in a = cond (is_user_abort a) (Some (UserAbortIndication (reason_of a))) (Some (ProviderAbortIndication (reason_of a)))

abbrev pub indication_of : Record → Parameters → ℕ → ℕ → Option Told
indication_of r g x why =
    cond (eqb x n.untold) None
    (cond (eqb x n.start_indication) (Some (StartIndication false g.class))
    (cond (eqb x n.dsc_start_indication) (Some (StartIndication true g.class))
    (cond (eqb x n.start_confirmation) (Some (StartConfirmation r.control.dsc g.result))
    (cond (eqb x n.message_indication) (Some MessageIndication)
    (cond (eqb x n.end_indication) (Some (EndIndication r.control.dsc))
    (cond (eqb x n.end_confirmation) (Some (EndConfirmation r.control.dsc g.result))
    (cond (eqb x n.abort_of_pdu) (if_active r (abort_in g.pdu))
    (cond (eqb x n.abort_for) (if_active r (Some (ProviderAbortIndication why)))
    (cond (eqb x n.forward_indication) (Some ForwardIndication) (Some (ForwardConfirmation (reason_of g.pdu) g.version)))))))))))

-- the user primitives that hand message data on
abbrev pub hands : ℕ → Bool
hands x = cond (eqb x n.untold) false (ltb x n.abort_of_pdu)

unfoldable pub outcome_of : Record → Parameters → Out → Outcome
outcome_of r g o =
    record { refusal = refusal_is o.refusal; next = next_of r g o; invoked = invokes r g o.sends; told = indication_of r g o.tells o.why; apdu = apdu_of g o.sends o.reason; delivers = hands o.tells }

-- ---- the step, and the step with a dialogue number: the refusals 2 and 6 as for the first engine, 3, 4 and 5 by the rows

unfoldable pub row_of : Side → Record → Event → Out
row_of sd r e = walk rows sd r.control (title_of e) (condition_of sd r e)

unfoldable pub rows_step : Side → Record → Event → Outcome
rows_step sd r e = cond (not (event_fits sd r.edition e)) (refused (Some Shape) r) (outcome_of r (parameters_of r e) (row_of sd r e))

unfoldable pub rows_numbered : Side → Record → ℕ → Event → ℕ → Outcome
rows_numbered sd r m e v = cond (not (event_fits sd r.edition e)) (refused (Some Shape) r) (cond (is_stale m e v) (refused (Some Stale) r) (outcome_of r (parameters_of r e) (row_of sd r e)))
