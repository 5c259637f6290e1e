-- The rows. The first whose side, event, state, DSC and condition fit decides; the last of an event is "in every other case".
-- row side event state DSC condition (what is done) page
use Rattle.std.specs.Prelude.{ℕ, List, [], ◌∷◌}
use Rattle.machine.specs.Codes as c
use Rattle.rows.specs.declared.Out.{Out}
use Rattle.rows.specs.declared.Row.{Row}
use Rattle.rows.specs.Names.{abort_by_provider, abort_by_user, abort_for, abort_of_pdu, abort_of_provider, abort_of_user, added, air, any_service, any_state, any_user, anyhow, as_is, both, busy, cannot_occur, d_abort, d_data, d_end, d_end_accepted, d_end_confirmation, d_end_rejected, d_pabort, d_start, d_start_accepted, d_start_confirmation, d_start_rejected, data_out, dialogue, dsc_end_request, dsc_end_response_accepted, dsc_end_response_rejected, dsc_start, dsc_start_indication, dsc_start_out, dsc_start_request, dsc_start_response_accepted, dsc_start_response_rejected, end, end_answer, end_confirmation, end_indication, end_out, end_request, end_response_accepted, end_response_rejected, equal_forward, expiry, forward, forward_answer, forward_answer_with_version, forward_confirmation, forward_indication, forward_out, forward_request, ground, idle, invalid_pdu, job, message_indication, message_request, no, no_message, no_pdu, nothing, other_forward, page, prohibited, repeat, repeated, response, security, send, silent, start, start_answer, start_confirmation, start_ind, start_indication, start_of_aircraft, start_out, start_req, start_request, start_response_accepted, start_response_rejected, stays, system_error, taken, timer_stopped, turned_away, unsupported_forward, untold, user_abort, without_message, wrong_quality, wrong_security, yes}

abbrev pub row : ℕ → ℕ → ℕ → ℕ → ℕ → Out → ℕ → Row
row a b c d e o m = record { side = a; event = b; state = c; dsc = d; condition = e; out = o; mark = m }

-- ---- what is done

-- the next state; DSC, t-start and the user after it; what is kept; the refusal; what is sent and its reason; what is told and its reason
abbrev pub out : ℕ → ℕ → ℕ → ℕ → ℕ → ℕ → ℕ → ℕ → ℕ → ℕ → Out
out s d t u k z x v y w = record { next = s; dsc = d; timer = t; user = u; keeps = k; refusal = z; sends = x; reason = v; tells = y; why = w }

-- where no row fits: nothing
abbrev pub nothing_done : Out
nothing_done = out stays as_is as_is as_is nothing taken silent 0 untold 0

abbrev pub refuses : ℕ → Out
refuses z = out stays as_is as_is as_is nothing z silent 0 untold 0

-- to a state; x is sent, y is told
abbrev pub moves : ℕ → ℕ → ℕ → Out
moves s x y = out s as_is as_is as_is nothing taken x 0 y 0

-- a start of the user: t-start runs, the user is active, the security value is kept
abbrev pub opens : ℕ → ℕ → ℕ → Out
opens s d x = out s d yes yes security taken x 0 untold 0

-- a start of the peer
abbrev pub invites : ℕ → ℕ → Out
invites d y = out start_ind d as_is yes nothing taken silent 0 y 0

-- an accepted start: t-start stops
abbrev pub connects : Out
connects = out dialogue as_is no as_is nothing taken silent 0 start_confirmation 0

-- a message request: its job number is kept
abbrev pub carries : Out
carries = out stays as_is as_is as_is job taken data_out 0 untold 0

-- to IDLE (document 01: DSC false, t-start stopped, the user not active); x is sent with the reason v, y is told with the reason w
abbrev pub enters : ℕ → ℕ → ℕ → ℕ → Out
enters x v y w = out idle no no no nothing taken x v y w

abbrev pub closes : ℕ → ℕ → Out
closes x y = enters x 0 y 0

-- the answer to a forward, its result, and what is told
abbrev pub responds : ℕ → ℕ → ℕ → Out
responds x v y = enters x v y 0

-- D-ABORT "provider" with one reason, and an active user is told another
abbrev pub aborts : ℕ → ℕ → Out
aborts v w = enters abort_by_provider v abort_for w

abbrev pub aborts_untold : ℕ → Out
aborts_untold v = enters abort_by_provider v untold 0

-- no D-ABORT; an active user is told
abbrev pub tells_only : ℕ → Out
tells_only w = enters silent 0 abort_for w

-- ---- the rows, in the order of the printed tables

unfoldable pub rows : List Row
rows =
    -- D-START indication
    row both d_start busy as_is anyhow (aborts c.protocol_error c.protocol_error) cannot_occur ∷
    row both d_start idle as_is wrong_quality (aborts_untold c.invalid_qos_parameter) added ∷
    row both d_start idle as_is wrong_security (aborts c.communication_service_failure c.communication_service_failure) added ∷
    row both d_start idle as_is no_pdu (aborts c.expected_pdu_missing c.not_permitted_pdu) added ∷
    row both d_start idle as_is invalid_pdu (aborts c.invalid_pdu c.invalid_pdu) added ∷
    row both d_start idle as_is start (invites as_is start_indication) page ∷
    row ground d_start idle as_is dsc_start (invites yes dsc_start_indication) page ∷
    row air d_start idle as_is start_of_aircraft (closes silent untold) added ∷
    row ground d_start idle as_is equal_forward (responds forward_answer c.success forward_indication) page ∷
    row ground d_start idle as_is other_forward (responds forward_answer_with_version c.version_not_equal untold) page ∷
    row ground d_start idle as_is unsupported_forward (responds forward_answer c.service_not_supported untold) page ∷
    row both d_start idle as_is anyhow (aborts c.protocol_error c.protocol_error) added ∷
    -- D-START confirmation
    row ground d_start_confirmation start_req yes anyhow (aborts c.protocol_error c.protocol_error) added ∷
    row both d_start_confirmation start_req as_is turned_away (tells_only c.communication_service_error) added ∷
    row both d_start_accepted start_req as_is wrong_security (aborts c.communication_service_failure c.communication_service_failure) added ∷
    row both d_start_rejected start_req as_is wrong_security (tells_only c.communication_service_failure) added ∷
    row both d_start_confirmation start_req as_is no_pdu (aborts c.expected_pdu_missing c.not_permitted_pdu) added ∷
    row both d_start_accepted start_req as_is invalid_pdu (aborts c.invalid_pdu c.invalid_pdu) added ∷
    row both d_start_rejected start_req as_is invalid_pdu (tells_only c.invalid_pdu) added ∷
    row both d_start_accepted start_req as_is send connects page ∷
    row both d_start_rejected start_req as_is send (closes silent start_confirmation) page ∷
    row both d_start_confirmation start_req as_is anyhow (aborts c.protocol_error c.protocol_error) added ∷
    row both d_start_confirmation forward as_is turned_away (tells_only c.communication_service_error) added ∷
    row both d_start_accepted forward as_is wrong_security (aborts c.communication_service_failure c.communication_service_failure) added ∷
    row both d_start_rejected forward as_is wrong_security (tells_only c.communication_service_failure) added ∷
    row both d_start_confirmation forward as_is no_pdu (aborts c.expected_pdu_missing c.not_permitted_pdu) added ∷
    row both d_start_accepted forward as_is invalid_pdu (aborts c.invalid_pdu c.invalid_pdu) added ∷
    row both d_start_rejected forward as_is invalid_pdu (tells_only c.invalid_pdu) added ∷
    row both d_start_rejected forward as_is response (closes silent forward_confirmation) page ∷
    row both d_start_confirmation forward as_is anyhow (aborts c.protocol_error c.protocol_error) cannot_occur ∷
    -- D-DATA indication
    row both d_data dialogue as_is no_pdu (aborts c.expected_pdu_missing c.not_permitted_pdu) added ∷
    row both d_data dialogue as_is invalid_pdu (aborts c.invalid_pdu c.invalid_pdu) added ∷
    row both d_data dialogue as_is send (moves stays silent message_indication) page ∷
    row both d_data dialogue as_is anyhow (aborts c.protocol_error c.protocol_error) added ∷
    row air d_data end yes no_pdu (aborts c.expected_pdu_missing c.not_permitted_pdu) added ∷
    row air d_data end yes invalid_pdu (aborts c.invalid_pdu c.invalid_pdu) added ∷
    row air d_data end yes send (moves stays silent message_indication) page ∷
    row air d_data end yes anyhow (aborts c.protocol_error c.protocol_error) added ∷
    row ground d_data end no no_pdu (aborts c.expected_pdu_missing c.not_permitted_pdu) added ∷
    row ground d_data end no invalid_pdu (aborts c.invalid_pdu c.invalid_pdu) added ∷
    row ground d_data end no send (moves stays silent message_indication) page ∷
    row ground d_data end no anyhow (aborts c.protocol_error c.protocol_error) added ∷
    -- D-END indication
    row air d_end dialogue no no_pdu (aborts c.expected_pdu_missing c.not_permitted_pdu) added ∷
    row air d_end dialogue no invalid_pdu (aborts c.invalid_pdu c.invalid_pdu) added ∷
    row air d_end dialogue no send (moves end silent end_indication) page ∷
    row air d_end dialogue no anyhow (aborts c.protocol_error c.protocol_error) added ∷
    row ground d_end dialogue yes no_pdu (aborts c.expected_pdu_missing c.not_permitted_pdu) added ∷
    row ground d_end dialogue yes invalid_pdu (aborts c.invalid_pdu c.invalid_pdu) added ∷
    row ground d_end dialogue yes send (moves end silent end_indication) page ∷
    row ground d_end dialogue yes anyhow (aborts c.protocol_error c.protocol_error) added ∷
    -- D-END confirmation
    row air d_end_confirmation end yes no_pdu (aborts c.expected_pdu_missing c.not_permitted_pdu) added ∷
    row air d_end_accepted end yes invalid_pdu (tells_only c.invalid_pdu) added ∷
    row air d_end_rejected end yes invalid_pdu (aborts c.invalid_pdu c.invalid_pdu) added ∷
    row air d_end_accepted end yes send (closes silent end_confirmation) page ∷
    row air d_end_rejected end yes send (moves dialogue silent end_confirmation) page ∷
    row air d_end_accepted end yes anyhow (tells_only c.protocol_error) added ∷
    row air d_end_rejected end yes anyhow (aborts c.protocol_error c.protocol_error) added ∷
    row ground d_end_confirmation end no no_pdu (aborts c.expected_pdu_missing c.not_permitted_pdu) added ∷
    row ground d_end_accepted end no invalid_pdu (tells_only c.invalid_pdu) added ∷
    row ground d_end_rejected end no invalid_pdu (aborts c.invalid_pdu c.invalid_pdu) added ∷
    row ground d_end_accepted end no send (closes silent end_confirmation) page ∷
    row ground d_end_rejected end no send (moves dialogue silent end_confirmation) page ∷
    row ground d_end_accepted end no anyhow (tells_only c.protocol_error) added ∷
    row ground d_end_rejected end no anyhow (aborts c.protocol_error c.protocol_error) added ∷
    -- user requests and responses
    row both start_request idle as_is anyhow (opens start_req as_is start_out) page ∷
    row both start_response_accepted start_ind no anyhow (moves dialogue start_answer untold) page ∷
    row both start_response_rejected start_ind no anyhow (closes start_answer untold) page ∷
    row air dsc_start_request idle as_is anyhow (opens start_req yes dsc_start_out) page ∷
    row ground dsc_start_response_accepted start_ind yes anyhow (moves dialogue start_answer untold) page ∷
    row ground dsc_start_response_rejected start_ind yes anyhow (closes start_answer untold) page ∷
    row both message_request dialogue as_is no_message (refuses without_message) added ∷
    row both message_request dialogue as_is repeat (refuses repeated) added ∷
    row both message_request dialogue as_is anyhow carries page ∷
    row air message_request end no no_message (refuses without_message) added ∷
    row air message_request end no repeat (refuses repeated) added ∷
    row air message_request end no anyhow carries page ∷
    row ground message_request end yes no_message (refuses without_message) added ∷
    row ground message_request end yes repeat (refuses repeated) added ∷
    row ground message_request end yes anyhow carries page ∷
    row ground end_request dialogue no anyhow (moves end end_out untold) page ∷
    row air end_response_accepted end no anyhow (closes end_answer untold) page ∷
    row air end_response_rejected end no anyhow (moves dialogue end_answer untold) page ∷
    row air dsc_end_request dialogue yes anyhow (moves end end_out untold) page ∷
    row ground dsc_end_response_accepted end yes anyhow (closes end_answer untold) page ∷
    row ground dsc_end_response_rejected end yes anyhow (moves dialogue end_answer untold) page ∷
    row ground forward_request idle as_is anyhow (opens forward as_is forward_out) page ∷
    row both user_abort busy as_is anyhow (closes abort_by_user untold) page ∷
    row both any_user any_state as_is anyhow (refuses prohibited) cannot_occur ∷
    -- aborts
    row both d_abort busy as_is abort_of_user (closes silent abort_of_pdu) page ∷
    row both d_abort busy as_is abort_of_provider (closes silent abort_of_pdu) page ∷
    row both d_abort busy as_is anyhow (tells_only c.protocol_error) added ∷
    row both d_pabort busy as_is anyhow (tells_only c.communication_service_failure) page ∷
    -- what has no instruction
    row both any_service idle as_is anyhow (closes silent untold) cannot_occur ∷
    row both any_service busy as_is anyhow (aborts c.protocol_error c.protocol_error) cannot_occur ∷
    -- t-start expires, unrecoverable system error
    row both expiry any_state as_is timer_stopped (refuses prohibited) cannot_occur ∷
    row both expiry any_state as_is anyhow (aborts c.timer_expired c.timer_expired) page ∷
    row both system_error idle as_is anyhow (closes silent untold) added ∷
    row both system_error busy as_is anyhow (aborts c.undefined_error c.undefined_error) added ∷
    []
