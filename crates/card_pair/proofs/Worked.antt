-- Runs of two cards, computed from the definitions that the contracts cite: every call's record, APDU and message data are bytes. (A claim about all
-- runs says nothing of cards that refuse everything.)
-- Assumes nothing.
use mathlib.Core.Path.{◌≡◌, refl}
use mathlib.Core.Bool.{Bool, true, false}
use mathlib.Core.List.{List, [], ◌∷◌, ◌++◌}
use Prim.Native.Nat.{ℕ, ◌^◌, ◌<◌}
use native.Mathlib.Omega.{arith}
use lib.ListN.{replicate}
use Rattle.bits.specs.Bits.{bits_n, bits_of, acc_of, bits_to, bytes_of}
use Rattle.bits.specs.Put.{with_bit, set_bit, put_bits}
use Rattle.bits.specs.Read.{read_bits}
use Rattle.fields.specs.Encodings.{whole_bits, index_bits, length_bits}
use Rattle.fields.specs.Fields.{bit_field, extension_bit, digits_in, whole_number, extensible_index, length_at, length_within, run_at, string_at}
use Rattle.apdu.specs.Sizes.{buffer_least}
use Rattle.apdu.specs.Encoding.{string_bits, optional_bits, content_bits, mode_bits, mode_fits, padded}
use Rattle.apdu.specs.Pdus.{part_in, content_in, pdu_in}
use Rattle.apdu.specs.Reading.{optional_at, part_at, parts_within, data_within, mode_value, mode_at, kind_mode, leading_at, tail_at, ended_at}
use Rattle.apdu.specs.Writing.{items_fit, part_fits, data_fits, write_out}
use Rattle.codec.specs.Codec.{pdu_bits, apdu_fits, rest_at, apdu_at}
use Rattle.machine.specs.Calls.{reply_of, sent, qos_asked, start_request, start_response, message_request, end_request, end_response, user_abort, call_of, unsent, called}
use Rattle.machine.specs.UserData.{user_data_fits}
use Rattle.machine.specs.Codes.{dsc_mode}
use Rattle.clauses.proofs.Clauses.{cpdlc_mode}
use Rattle.machine.specs.Event.{has_mode, qos_fits, user_fits, service_fits, event_fits}
use Rattle.machine.specs.Exceptions.{tell, closes, aborts, excepts, timer_expires, system_error, no_instruction}
use Rattle.machine.specs.Faults.{pdu_fault, send_fault, abort_fault, start_fits_of, indication_fault, confirmation_fault, first_fault}
use Rattle.machine.specs.Primitives.{handed, instructed, answered, reached}
use Rattle.machine.specs.Record.{enter}
use Rattle.machine.specs.Step.{permitted, message_refusal, acts}
use Rattle.numbered.specs.Numbers.{user_starts, service_starts, is_start, is_service, is_stale, held_after, refusal_of, numbered_step}
use Rattle.step.specs.Call.{first_takes, second_takes, finished, concluded, with_record, entering, user_step, user_by, reads_as, reads_again, abort_of, or_abort, read_pdu, meaning, data_of, data_step, bare_step, service_step, service_by}
use Rattle.packed.specs.Packed.{invoked_number, told_number, packed}
use Rattle.stored.specs.Stored.{record_bytes, head_bytes, stored_bytes, head_fits, with_numbers, load_at, store_at}
use Rattle.card.specs.Face.{no_count, part_of, given_data, fresh_for, fresh_call}
use Rattle.editions.specs.declared.Edition.TheVariants.{Protected}
use Rattle.apdu.specs.InPlace.{bits_in, perhaps_bits}
use Rattle.plain.specs.Plain as plain
use Rattle.machine.specs.declared.outcome.Invoked.{Invoked}
use Rattle.machine.specs.declared.outcome.Invoked.TheVariants.{DStartRequest, DStartResponse, DDataRequest, DEndRequest, DEndResponse, DAbortRequest}
use Rattle.pair.specs.Names.{Side, Air, Ground, StartReq, Dialogue, End, Control, entered, closed}
use Rattle.pair.specs.Carrier.{Body, Step, user_call, hand_over, timer_expires_of, error_reported, turn_away, fail, Turn}
use Rattle.pair.specs.Numbered.{NParty, Numbered, mark, n_fresh, n_run}
use Rattle.pair.specs.Wires.{Wire}
use Rattle.card_pair.specs.CardMachine.{Buffers, Given, Word, Asked, start_request_of, start_response_of, message_request_of, end_request_of, end_response_of, user_abort_of, body_given, newly, control_in, held_by, card_machine}
use Rattle.std.specs.Prelude.{Option, Some}

-- ---- the words of a run

-- both buffers of the least size, with bits in them
abbrev lends : Side → ℕ → Buffers
lends sd n = record { first = replicate buffer_least 255; second = replicate buffer_least 170; first_full = omega arith; second_full = omega arith }

-- no message data; a message of ten bits, 01 after its first byte; one with an identifier and a check besides
abbrev none : Given
none = record { ids = []; msgs = []; bits = no_count; checks = []; check = 0 }

abbrev text : ℕ → Given
text x = record { ids = []; msgs = x ∷ 64 ∷ []; bits = 10; checks = []; check = 0 }

abbrev signed : ℕ → Given
signed x = record { ids = 42 ∷ 3 ∷ []; msgs = x ∷ []; bits = 7; checks = 165 ∷ []; check = 8 }

abbrev job : (n : ℕ) → n < 2 ^ 64 → Word
job n h = record { number = n; low = h }

-- the first start of a run, and the next
abbrev one : Word
one = record { number = 1; low = omega arith }

abbrev two : Word
two = record { number = 2; low = omega arith }

abbrev turn : Side → Step Asked → Turn Asked
turn sd c = record { side = sd; step = c }

abbrev asks : Side → Asked → Turn Asked
asks sd a = turn sd (user_call a 0)

abbrev says : Side → Word → Given → Turn Asked
says sd j g = asks sd (message_request_of j g)

abbrev gets : Side → Turn Asked
gets sd = turn sd (hand_over 0)

-- an end: the number that it holds, state and DSC, its line, the messages taken and handed out in a dialogue, the jobs it ever took
record Seen : Type 0 where
  no : ℕ
  ctl : Control
  line : List (Numbered Wire)
  took : List Body
  gave : List Body
  jobs : List ℕ

record View : Type 0 where
  air : Seen
  ground : Seen
  broken : Bool

abbrev seen : ℕ → Control → List (Numbered Wire) → List Body → List Body → List ℕ → Seen
seen n c l t g j = record { no = n; ctl = c; line = l; took = t; gave = g; jobs = j }

abbrev of_party : (p : ℕ) → ℕ → NParty (card_machine p lends) → Seen
of_party p d x = seen (held_by x.rec.bytes) (control_in (load_at x.rec.bytes)) x.line (x.taken d) (x.handed d) x.jobs

-- from two fresh records that the card made, with the security value p at both ends and of application type t; the air starts. d: the dialogue whose messages are seen
abbrev after_of : ℕ → ℕ → ℕ → List (Turn Asked) → View
after_of p t d ts =
    let s = n_run (card_machine p lends) Air (n_fresh (card_machine p lends)
    (newly (fresh_call (replicate record_bytes 0) 1 p 0 1 t).bytes)
    (newly (fresh_call (replicate record_bytes 0) 2 p 1 1 t).bytes)) ts in
    record { air = of_party p d s.here; ground = of_party p d s.there; broken = s.broken d }

-- type 22, with "secured exchange"
abbrev after : ℕ → List (Turn Asked) → View
after d ts = after_of 1 22 d ts

abbrev view : Seen → Seen → Bool → View
view a g b = record { air = a; ground = g; broken = b }

abbrev wire : ℕ → Option Invoked → List ℕ → Numbered Wire
wire n i l = mark n (record { primitive = i; bytes = l })

-- a run and what is seen of a dialogue after it
record Row : Type 0 where
  dialogue : ℕ
  turns : List (Turn Asked)
  ends : View

abbrev row : ℕ → List (Turn Asked) → View → Row
row d ts v = record { dialogue = d; turns = ts; ends = v }

abbrev seen_in : List Row → List View
seen_in [] = []
seen_in (r ∷ rs) = after r.dialogue r.turns ∷ seen_in rs

abbrev said_in : List Row → List View
said_in [] = []
said_in (r ∷ rs) = r.ends ∷ said_in rs

-- ---- a dialogue, and the next

-- the air starts, the ground accepts and sends at once
abbrev opening : List (Turn Asked)
opening =
    asks Air (start_request_of one cpdlc_mode 3 (text 7)) ∷ gets Ground ∷ asks Ground (start_response_of false 0 none) ∷ says
    Ground (job 1 (omega arith)) (text 80) ∷ gets Air ∷ gets Air ∷ []

-- messages both ways; job 1 again is refused, and a message request without a message; the ground asks for the end with messages on both lines
abbrev talking : List (Turn Asked)
talking =
    opening
    ++ (says Air (job 1 (omega arith)) (text 96) ∷ says Air (job 1 (omega arith)) (text 97) ∷ says Air (job 2 (omega arith)) none ∷ says Air (job 2 (omega arith)) (signed 98) ∷ asks Ground (end_request_of false none) ∷
    says Ground (job 2 (omega arith)) (text 81) ∷ gets Ground ∷ gets Air ∷ says Air (job 3 (omega arith)) (text 99) ∷ [])

-- the air accepts the end behind its messages
abbrev closing : List (Turn Asked)
closing = talking ++ (asks Air (end_response_of false 0 none) ∷ gets Ground ∷ gets Ground ∷ gets Ground ∷ [])

-- the air starts the next one, after a start with the number that it holds, which is refused; the jobs go on: the air's job 3 and the ground's job 1 stay taken
abbrev again : List (Turn Asked)
again =
    closing
    ++ (asks Air (start_request_of one cpdlc_mode 0 none) ∷ asks Air (start_request_of two cpdlc_mode 0 none) ∷ gets Ground ∷ asks Ground (start_response_of false 0 none) ∷ gets Air ∷
    says Air (job 3 (omega arith)) (text 70) ∷ says Air (job 4 (omega arith)) (text 71) ∷ gets Ground ∷ says Ground
    (job 1 (omega arith)) (text 72) ∷ says Ground (job 2 (omega arith)) (text 73) ∷ [])

-- ---- leftovers: a message of the ground is on its way when the air aborts; the ground hears that, and the air starts anew

abbrev leftover : List (Turn Asked)
leftover =
    opening
    ++ (says Ground (job 2 (omega arith)) (text 81) ∷ asks Air (user_abort_of 3) ∷ gets Ground ∷ asks Air
    (start_request_of two cpdlc_mode 0 none) ∷ [])

-- the old message reaches the air in its new dialogue: stale, it changes nothing and is gone. The new one goes on
abbrev late : List (Turn Asked)
late = leftover ++ (gets Air ∷ gets Ground ∷ asks Ground (start_response_of false 0 none) ∷ gets Air ∷ says Ground
    (job 3 (omega arith)) (text 82) ∷ gets Air ∷ [])

-- ---- DSC: the ground may not ask for the end, but sends behind a rejected one; all of it is handed out, and the second request for the end is accepted

abbrev dsc : List (Turn Asked)
dsc =
    asks Air (start_request_of one dsc_mode 0 none) ∷ gets Ground ∷ asks Ground (start_response_of true 0 none) ∷ gets Air ∷
    asks Ground (end_request_of true none) ∷ asks Air (end_request_of true none) ∷ gets Ground ∷
    says Ground (job 5 (omega arith)) (text 80) ∷ asks Ground (end_response_of true 1 none) ∷ says Ground (job 6 (omega arith)) (text 81) ∷ []

abbrev dsc_closed : List (Turn Asked)
dsc_closed = dsc ++ (gets Air ∷ gets Air ∷ gets Air ∷ asks Air (end_request_of true none) ∷ gets Ground ∷ asks Ground
    (end_response_of true 0 none) ∷ gets Air ∷ [])

abbrev rows : List Row
rows =
    row 1 opening (view (seen 1 (entered Dialogue false) [] [] (body_given Protected (text 80) ∷ []) [])
    (seen 1 (entered Dialogue false) [] (body_given Protected (text 80) ∷ []) [] (1 ∷ [])) false) ∷
    row 1 talking (view (seen 1 (entered End false) (wire 1 (Some DDataRequest) (108 ∷ 8 ∷ 168 ∷ 12 ∷ 29 ∷ 136 ∷ 69 ∷ 40 ∷ [])
    ∷ wire 1 (Some DDataRequest) (100 ∷ 41 ∷ 141 ∷ 0 ∷ []) ∷ [])
    (body_given Protected (text 96) ∷ body_given Protected (signed 98) ∷ body_given Protected (text 99) ∷ [])
    (body_given Protected (text 80) ∷ []) (1 ∷ 2 ∷ 3 ∷ [])) (seen 1 (entered End false) []
    (body_given Protected (text 80) ∷ []) (body_given Protected (text 96) ∷ []) (1 ∷ [])) false) ∷
    row 1 closing (view (seen 1 closed []
    (body_given Protected (text 96) ∷ body_given Protected (signed 98) ∷ body_given Protected (text 99) ∷ [])
    (body_given Protected (text 80) ∷ []) (1 ∷ 2 ∷ 3 ∷ [])) (seen 1 closed []
    (body_given Protected (text 80) ∷ [])
    (body_given Protected (text 96) ∷ body_given Protected (signed 98) ∷ body_given Protected (text 99) ∷ [])
    (1 ∷ [])) false) ∷
    row 2 again (view (seen 2 (entered Dialogue false) [] (body_given Protected (text 71) ∷ []) [] (1 ∷ 2 ∷ 3 ∷ 4 ∷ [])) (
    seen 2 (entered Dialogue false) (wire 2 (Some DDataRequest) (50 ∷ 20 ∷ 146 ∷ 128 ∷ 0 ∷ []) ∷ [])
    (body_given Protected (text 73) ∷ []) (body_given Protected (text 71) ∷ []) (1 ∷ 2 ∷ [])) false) ∷
    -- the leftover stands on the ground's line when the new start goes out; afterwards its dialogue is as broken as it was, and the new one is whole
    row 1 (leftover ++ (gets Air ∷ [])) (view (seen 2 (entered StartReq false)
    (wire 2 (Some (DStartRequest (qos_asked 0) 1)) (64 ∷ 0 ∷ []) ∷ []) [] (body_given Protected (text 80) ∷ []) [])
    (seen 1 closed [] (body_given Protected (text 80) ∷ body_given Protected (text 81) ∷ []) [] (1 ∷ 2 ∷ [])) true)
    ∷
    row 2 late (view (seen 2 (entered Dialogue false) [] [] (body_given Protected (text 82) ∷ []) [])
    (seen 2 (entered Dialogue false) [] (body_given Protected (text 82) ∷ []) [] (1 ∷ 2 ∷ 3 ∷ [])) false) ∷
    row 1 dsc (view (seen 1 (entered End true) [] [] [] []) (seen 1 (entered Dialogue true) (wire 1 (Some DDataRequest)
    (50 ∷ 20 ∷ 160 ∷ 128 ∷ 0 ∷ []) ∷ wire 1 (Some (DEndResponse 1)) (48 ∷ 0 ∷ []) ∷ wire 1 (Some DDataRequest)
    (50 ∷ 20 ∷ 162 ∷ 128 ∷ 0 ∷ []) ∷ [])
    (body_given Protected (text 80) ∷ body_given Protected (text 81) ∷ []) [] (5 ∷ 6 ∷ [])) false) ∷
    row 1 dsc_closed (view (seen 1 closed [] [] (body_given Protected (text 80) ∷ body_given Protected (text 81) ∷ []) [])
    (seen 1 closed [] (body_given Protected (text 80) ∷ body_given Protected (text 81) ∷ []) [] (5 ∷ 6 ∷ []))
    false) ∷
    -- t-start expires with the start undelivered; a start is turned away; a system error; the carrier fails; a user abort keeps the oldest message
    row 1 (asks Air (start_request_of one cpdlc_mode 0 none) ∷ turn Air (timer_expires_of 0) ∷ [])
    (view (seen 1 closed (wire 1 (Some (DAbortRequest 1)) (32 ∷ []) ∷ []) [] [] []) (seen 0 closed [] [] [] []) true) ∷
    row 1 (asks Air (start_request_of one dsc_mode 0 none) ∷ turn Air (turn_away 0) ∷ [])
    (view (seen 1 closed [] [] [] []) (seen 0 closed [] [] [] []) false) ∷
    row 1 (opening ++ (turn Ground (error_reported 0) ∷ gets Air ∷ [])) (view
    (seen 1 closed [] [] (body_given Protected (text 80) ∷ []) [])
    (seen 1 closed [] (body_given Protected (text 80) ∷ []) [] (1 ∷ [])) true) ∷
    row 1 (opening ++ (turn Ground fail ∷ [])) (view (seen 1 closed [] [] (body_given Protected (text 80) ∷ []) [])
    (seen 1 closed [] (body_given Protected (text 80) ∷ []) [] (1 ∷ [])) true) ∷
    row 1 (opening ++ (says Air (job 1 (omega arith)) (text 96) ∷ says Air (job 2 (omega arith)) (text 97) ∷ turn Air
    (user_call (user_abort_of 3) 1) ∷ gets Ground ∷ []))
    (view (seen 1 closed (wire 1 (Some (DAbortRequest 0)) (3 ∷ []) ∷ [])
    (body_given Protected (text 96) ∷ body_given Protected (text 97) ∷ [])
    (body_given Protected (text 80) ∷ []) (1 ∷ 2 ∷ [])) (seen 1 (entered Dialogue false) []
    (body_given Protected (text 80) ∷ []) (body_given Protected (text 96) ∷ []) (1 ∷ [])) true) ∷ []

pub all_as_said : seen_in rows ≡ said_in rows
unfolding bits_n bits_of acc_of bits_to bytes_of with_bit set_bit put_bits read_bits whole_bits index_bits length_bits bit_field
    extension_bit digits_in whole_number extensible_index length_at length_within run_at string_at string_bits optional_bits
    content_bits mode_bits mode_fits pdu_bits padded part_in content_in pdu_in optional_at part_at parts_within data_within
    mode_value mode_at kind_mode leading_at tail_at ended_at rest_at apdu_at items_fit part_fits data_fits apdu_fits write_out
    reply_of sent start_request start_response message_request end_request end_response user_abort call_of unsent called
    user_data_fits qos_fits user_fits has_mode service_fits event_fits tell closes aborts excepts timer_expires system_error
    no_instruction pdu_fault send_fault abort_fault start_fits_of indication_fault confirmation_fault first_fault handed instructed
    answered reached enter permitted message_refusal user_starts service_starts is_start is_service is_stale held_after
    refusal_of acts numbered_step first_takes second_takes finished concluded with_record entering user_step user_by reads_as
    reads_again abort_of or_abort read_pdu meaning data_of data_step bare_step service_step service_by invoked_number told_number
    packed head_bytes stored_bytes head_fits with_numbers load_at store_at part_of given_data fresh_for fresh_call n_run
all_as_said = refl

-- ---- a restart (docs/HOST.md): the host loses its power and loads the bytes that it stored. That is the step `fail`: between two calls a record
-- is its bytes and nothing else, the carrier is gone with the host, and both ends get D-P-ABORT

-- job 2 is taken, and its message is on the line when the power fails; then a new dialogue, in which jobs 1 and 2 come again, and 3 for the first time
abbrev restarted : List (Turn Asked)
restarted =
    opening
    ++ (says Ground (job 2 (omega arith)) (text 81) ∷ turn Ground fail ∷ asks Air (start_request_of two cpdlc_mode 0 none) ∷ gets Ground ∷ asks Ground (start_response_of false 0 none) ∷ gets Air ∷
    says Ground (job 1 (omega arith)) (text 80) ∷ says Ground (job 2 (omega arith)) (text 81) ∷ says Ground
    (job 3 (omega arith)) (text 82) ∷ gets Air ∷ [])

-- the jobs of the old dialogue are refused: the ground takes 1, 2 and 3 once each, and the air is handed the message of job 3 alone
pub restart_takes_once :
    after 2 restarted
    ≡ view (seen 2 (entered Dialogue false) [] [] (body_given Protected (text 82) ∷ []) [])
    (seen 2 (entered Dialogue false) [] (body_given Protected (text 82) ∷ []) [] (1 ∷ 2 ∷ 3 ∷ [])) false
unfolding bits_n bits_of acc_of bits_to bytes_of with_bit set_bit put_bits read_bits whole_bits index_bits length_bits bit_field
    extension_bit digits_in whole_number extensible_index length_at length_within run_at string_at string_bits optional_bits
    content_bits mode_bits mode_fits pdu_bits padded part_in content_in pdu_in optional_at part_at parts_within data_within
    mode_value mode_at kind_mode leading_at tail_at ended_at rest_at apdu_at items_fit part_fits data_fits apdu_fits write_out
    reply_of sent start_request start_response message_request end_request end_response user_abort call_of unsent called
    user_data_fits qos_fits user_fits has_mode service_fits event_fits tell closes aborts excepts timer_expires system_error
    no_instruction pdu_fault send_fault abort_fault start_fits_of indication_fault confirmation_fault first_fault handed instructed
    answered reached enter permitted message_refusal user_starts service_starts is_start is_service is_stale held_after
    refusal_of acts numbered_step first_takes second_takes finished concluded with_record entering user_step user_by reads_as
    reads_again abort_of or_abort read_pdu meaning data_of data_step bare_step service_step service_by invoked_number told_number
    packed head_bytes stored_bytes head_fits with_numbers load_at store_at part_of given_data fresh_for fresh_call n_run
restart_takes_once = refl

-- ---- type 2. Without a message: the start says so by a bit; its acceptance, the end and the end's answer have no user data

abbrev bare : List (Turn Asked)
bare = asks Air (start_request_of one dsc_mode 0 none) ∷ gets Ground ∷ asks Ground (start_response_of true 0 none) ∷ []

abbrev bare_end : List (Turn Asked)
bare_end = bare ++ (gets Air ∷ says Air (job 1 (omega arith)) none ∷ asks Air (end_request_of true none) ∷ [])

abbrev bare_closed : List (Turn Asked)
bare_closed = bare_end ++ (gets Ground ∷ asks Ground (end_response_of true 0 none) ∷ gets Air ∷ [])

-- a message request without a message is refused, and so are message data that type 2 has no place for
abbrev plain_rows : List Row
plain_rows =
    row 1 (asks Air (start_request_of one dsc_mode 3 none) ∷ []) (view
    (seen 1 (entered StartReq true) (wire 1 (Some (DStartRequest (qos_asked 3) 0)) (88 ∷ []) ∷ []) [] [] [])
    (seen 0 closed [] [] [] []) false) ∷
    row 1 (asks Air (start_request_of one dsc_mode 3 (signed 98)) ∷ []) (view (seen 0 closed [] [] [] []) (seen 0 closed [] [] [] []) false) ∷
    row 1 bare (view (seen 1 (entered StartReq true) [] [] [] [])
    (seen 1 (entered Dialogue true) (wire 1 (Some (DStartResponse 0 0)) [] ∷ []) [] [] []) false) ∷
    row 1 bare_end (view (seen 1 (entered End true) (wire 1 (Some DEndRequest) [] ∷ []) [] [] [])
    (seen 1 (entered Dialogue true) [] [] [] []) false) ∷
    row 1 bare_closed (view (seen 1 closed [] [] [] []) (seen 1 closed [] [] [] []) false) ∷ []

abbrev plain_in : List Row → List View
plain_in [] = []
plain_in (r ∷ rs) = after_of 0 2 r.dialogue r.turns ∷ plain_in rs

pub plain_as_said : plain_in plain_rows ≡ said_in plain_rows
unfolding bits_n bits_of acc_of bits_to bytes_of with_bit set_bit put_bits read_bits whole_bits index_bits length_bits bit_field
    extension_bit digits_in whole_number extensible_index length_at length_within run_at string_at string_bits optional_bits
    content_bits mode_bits mode_fits pdu_bits padded part_in content_in pdu_in optional_at part_at parts_within data_within
    mode_value mode_at kind_mode leading_at tail_at ended_at rest_at apdu_at items_fit part_fits data_fits apdu_fits write_out
    reply_of sent start_request start_response message_request end_request end_response user_abort call_of unsent called
    user_data_fits qos_fits user_fits has_mode service_fits event_fits tell closes aborts excepts timer_expires system_error
    no_instruction pdu_fault send_fault abort_fault start_fits_of indication_fault confirmation_fault first_fault handed instructed
    answered reached enter permitted message_refusal user_starts service_starts is_start is_service is_stale held_after
    refusal_of acts numbered_step first_takes second_takes finished concluded with_record entering user_step user_by reads_as
    reads_again abort_of or_abort read_pdu meaning data_of data_step bare_step service_step service_by invoked_number told_number
    packed head_bytes stored_bytes head_fits with_numbers load_at store_at part_of given_data fresh_for fresh_call n_run bits_in
    perhaps_bits plain.content_fits plain.given_fits plain.start_at
plain_as_said = refl
