-- Runs of two ground cards, computed from the definitions that the contracts cite. (A claim about all runs says nothing of cards that refuse everything.)
-- Assumes nothing.
use mathlib.Core.Path.{◌≡◌, refl}
use mathlib.Core.Bool.{Bool, true, false}
use mathlib.Core.List.{List, [], ◌∷◌}
use Prim.Native.Nat.{ℕ}
use native.Mathlib.Omega.{arith}
use lib.ListN.{replicate}
use Rattle.bits.specs.Bits.{bits_n, bits_of, acc_of, bits_to, bytes_of}
use Rattle.bits.specs.Put.{with_bit, set_bit, put_bits}
use Rattle.bits.specs.Read.{read_bits}
use Rattle.fields.specs.Encodings.{whole_bits, index_bits, length_bits}
use Rattle.fields.specs.Fields.{bit_field, extension_bit, digits_in, whole_number, extensible_index, length_at, length_within, run_at, string_at}
use Rattle.apdu.specs.Sizes.{buffer_least}
use Rattle.apdu.specs.Encoding.{forward_bits, string_bits, optional_bits, content_bits, mode_bits, mode_fits, padded}
use Rattle.apdu.specs.Pdus.{part_in, content_in, pdu_in}
use Rattle.apdu.specs.Reading.{triple_at, heading_at, forward_within, optional_at, part_at, parts_within, data_within, mode_value, mode_at, kind_mode, leading_at, tail_at, ended_at}
use Rattle.apdu.specs.Writing.{forward_fits, items_fit, part_fits, data_fits, write_out}
use Rattle.codec.specs.Codec.{pdu_bits, apdu_fits, rest_at, apdu_at}
use Rattle.machine.specs.Calls.{reply_of, sent, qos_asked, start_request, start_response, message_request, end_request, end_response, user_abort, call_of, unsent, called}
use Rattle.machine.specs.UserData.{user_data_fits}
use Rattle.machine.specs.Event.{has_mode, qos_fits, user_fits, service_fits, event_fits}
use Rattle.machine.specs.Exceptions.{tell, closes, aborts, excepts, timer_expires, system_error, no_instruction}
use Rattle.machine.specs.Faults.{response_fault, pdu_fault, send_fault, abort_fault, start_fits_of, indication_fault, confirmation_fault, first_fault}
use Rattle.machine.specs.Primitives.{handed, instructed, answered, reached}
use Rattle.machine.specs.Record.{enter}
use Rattle.machine.specs.Step.{permitted, message_refusal, acts}
use Rattle.numbered.specs.Numbers.{user_starts, service_starts, is_start, is_service, is_stale, held_after, refusal_of, numbered_step}
use Rattle.step.specs.Call.{forward_step, forward_by, forward_of, first_takes, second_takes, finished, concluded, with_record, entering, user_step, user_by, reads_as, reads_again, abort_of, or_abort, read_pdu, meaning, data_of, data_step, bare_step, service_step, service_by}
use Rattle.packed.specs.Packed.{invoked_number, told_number, packed}
use Rattle.stored.specs.Stored.{record_bytes, head_bytes, stored_bytes, head_fits, with_numbers, load_at, store_at}
use Rattle.machine.specs.declared.outcome.Invoked.{Invoked}
use Rattle.pair.specs.Wires.{Wire}
use Rattle.apdu.specs.Headings.{triple, triple_bits, triple_fits, aircraft_bits, heading_bits, aircraft_fits, heading_fits}
use Rattle.machine.specs.Forwards.{forward_request, responds, forward_arrives, forward_confirmed}
use Rattle.machine.specs.declared.outcome.Invoked.TheVariants.{DStartForwardRequest, DStartForwardResponse}
use Rattle.card.specs.Face.{part_of, given_data, fresh_for, fresh_call}
use Rattle.pair.specs.Names.{Control, entered, closed, Forward}
use Rattle.pair.specs.Carrier.{user_call, hand_over, turn_away}
use Rattle.pair.specs.Numbered.{NParty, Numbered, mark, n_fresh}
use Rattle.pair.specs.Centres.{CentreTurn, centre_run}
use Rattle.card_pair.specs.CardMachine.{Buffers, Word, control_in, held_by}
use Rattle.card_pair.specs.CentreMachine.{Passed, CentreAsked, forward_request_of, new_desk, centre_machine}
use Rattle.std.specs.Prelude.{Option, Some}

abbrev lends : ℕ → Buffers
lends n = record { first = replicate buffer_least 255; second = replicate buffer_least 170; first_full = omega arith; second_full = omega arith }

-- 15 November 2026, 20:30:59, flight AB12, address ABCDEF, a downlink message of ten bits
abbrev passed : Passed
passed =
    record {
      heading = record { date = triple 2026 11 15; time = triple 20 30 59; characters = 4; flight = 137402546; address = 11259375; direction = 1 };
      msgs = 165 ∷ 192 ∷ [];
      bits = 10;
    }

abbrev one : Word
one = record { number = 1; low = omega arith }

-- the first end forwards; the other gets it; the first gets the answer
abbrev asks : CentreTurn CentreAsked
asks = record { starting = true; step = user_call (forward_request_of one 3 passed) 0 }

abbrev gets : Bool → CentreTurn CentreAsked
gets b = record { starting = b; step = hand_over 0 }

-- an end: the number that it holds, its state, its line
record Seen : Type 0 where
  no : ℕ
  ctl : Control
  line : List (Numbered Wire)

record View : Type 0 where
  here : Seen
  there : Seen

abbrev seen : ℕ → Control → List (Numbered Wire) → Seen
seen n c l = record { no = n; ctl = c; line = l }

abbrev of_party : NParty (centre_machine 1) → Seen
of_party x = seen (held_by x.rec.kept.bytes) (control_in (load_at x.rec.kept.bytes)) x.line

-- from two records of type 22 that peat_fresh made with "secured exchange" and version 3; f: does the other one support forwarding
abbrev after : ℕ → List (CentreTurn CentreAsked) → View
after f ts =
    let s = centre_run (centre_machine 1) (n_fresh (centre_machine 1)
    (new_desk (fresh_call (replicate record_bytes 0) 2 1 0 3 22).bytes lends)
    (new_desk (fresh_call (replicate record_bytes 0) 2 1 f 3 22).bytes lends)) ts in
    record { here = of_party s.here; there = of_party s.there }

abbrev view : Seen → Seen → View
view a b = record { here = a; there = b }

abbrev wire : Option Invoked → List ℕ → Numbered Wire
wire i l = mark 1 (record { primitive = i; bytes = l })

-- on its way
pub on_its_way : after 1 (asks ∷ []) ≡ view (seen 1 (entered Forward false) (wire
    (Some (DStartForwardRequest (qos_asked 3) 1 3))
    (67 ∷ 212 ∷ 234 ∷ 61 ∷ 218 ∷ 131 ∷ 9 ∷ 139 ∷ 42 ∷ 188 ∷ 222 ∷ 248 ∷ 85 ∷ 46 ∷ []) ∷ [])) (seen 0 closed [])
unfolding bits_n bits_of acc_of bits_to bytes_of with_bit set_bit put_bits read_bits whole_bits index_bits length_bits bit_field
    extension_bit digits_in whole_number extensible_index length_at length_within run_at string_at string_bits optional_bits
    content_bits mode_bits mode_fits pdu_bits padded part_in content_in pdu_in optional_at part_at parts_within data_within
    mode_value mode_at kind_mode leading_at tail_at ended_at rest_at apdu_at items_fit part_fits data_fits apdu_fits write_out
    reply_of sent start_request start_response message_request end_request end_response user_abort call_of unsent called
    user_data_fits qos_fits user_fits has_mode service_fits event_fits tell closes aborts excepts timer_expires system_error
    no_instruction pdu_fault send_fault abort_fault start_fits_of indication_fault confirmation_fault first_fault handed instructed
    answered reached enter permitted message_refusal user_starts service_starts is_start is_service is_stale held_after
    refusal_of acts numbered_step first_takes second_takes finished concluded with_record entering user_step user_by reads_as
    reads_again abort_of or_abort read_pdu meaning data_of data_step bare_step service_step service_by invoked_number told_number
    packed head_bytes stored_bytes head_fits with_numbers load_at store_at part_of given_data fresh_for fresh_call forward_request
    responds forward_arrives forward_confirmed response_fault forward_by forward_step forward_of triple_at heading_at
    forward_within triple_bits triple_fits aircraft_bits heading_bits aircraft_fits heading_fits forward_bits forward_fits
    centre_run
on_its_way = refl

-- answered: success
pub answered_success : after 1 (asks ∷ gets false ∷ []) ≡ view (seen 1 (entered Forward false) [])
    (seen 1 closed (wire (Some (DStartForwardResponse 1 0)) (80 ∷ []) ∷ []))
unfolding bits_n bits_of acc_of bits_to bytes_of with_bit set_bit put_bits read_bits whole_bits index_bits length_bits bit_field
    extension_bit digits_in whole_number extensible_index length_at length_within run_at string_at string_bits optional_bits
    content_bits mode_bits mode_fits pdu_bits padded part_in content_in pdu_in optional_at part_at parts_within data_within
    mode_value mode_at kind_mode leading_at tail_at ended_at rest_at apdu_at items_fit part_fits data_fits apdu_fits write_out
    reply_of sent start_request start_response message_request end_request end_response user_abort call_of unsent called
    user_data_fits qos_fits user_fits has_mode service_fits event_fits tell closes aborts excepts timer_expires system_error
    no_instruction pdu_fault send_fault abort_fault start_fits_of indication_fault confirmation_fault first_fault handed instructed
    answered reached enter permitted message_refusal user_starts service_starts is_start is_service is_stale held_after
    refusal_of acts numbered_step first_takes second_takes finished concluded with_record entering user_step user_by reads_as
    reads_again abort_of or_abort read_pdu meaning data_of data_step bare_step service_step service_by invoked_number told_number
    packed head_bytes stored_bytes head_fits with_numbers load_at store_at part_of given_data fresh_for fresh_call forward_request
    responds forward_arrives forward_confirmed response_fault forward_by forward_step forward_of triple_at heading_at
    forward_within triple_bits triple_fits aircraft_bits heading_bits aircraft_fits heading_fits forward_bits forward_fits
    centre_run
answered_success = refl

-- both IDLE again
pub over_again : after 1 (asks ∷ gets false ∷ gets true ∷ []) ≡ view (seen 1 closed []) (seen 1 closed [])
unfolding bits_n bits_of acc_of bits_to bytes_of with_bit set_bit put_bits read_bits whole_bits index_bits length_bits bit_field
    extension_bit digits_in whole_number extensible_index length_at length_within run_at string_at string_bits optional_bits
    content_bits mode_bits mode_fits pdu_bits padded part_in content_in pdu_in optional_at part_at parts_within data_within
    mode_value mode_at kind_mode leading_at tail_at ended_at rest_at apdu_at items_fit part_fits data_fits apdu_fits write_out
    reply_of sent start_request start_response message_request end_request end_response user_abort call_of unsent called
    user_data_fits qos_fits user_fits has_mode service_fits event_fits tell closes aborts excepts timer_expires system_error
    no_instruction pdu_fault send_fault abort_fault start_fits_of indication_fault confirmation_fault first_fault handed instructed
    answered reached enter permitted message_refusal user_starts service_starts is_start is_service is_stale held_after
    refusal_of acts numbered_step first_takes second_takes finished concluded with_record entering user_step user_by reads_as
    reads_again abort_of or_abort read_pdu meaning data_of data_step bare_step service_step service_by invoked_number told_number
    packed head_bytes stored_bytes head_fits with_numbers load_at store_at part_of given_data fresh_for fresh_call forward_request
    responds forward_arrives forward_confirmed response_fault forward_by forward_step forward_of triple_at heading_at
    forward_within triple_bits triple_fits aircraft_bits heading_bits aircraft_fits heading_fits forward_bits forward_fits
    centre_run
over_again = refl

-- answered: service not supported
pub answered_unsupported : after 0 (asks ∷ gets false ∷ []) ≡ view (seen 1 (entered Forward false) [])
    (seen 1 closed (wire (Some (DStartForwardResponse 1 0)) (82 ∷ []) ∷ []))
unfolding bits_n bits_of acc_of bits_to bytes_of with_bit set_bit put_bits read_bits whole_bits index_bits length_bits bit_field
    extension_bit digits_in whole_number extensible_index length_at length_within run_at string_at string_bits optional_bits
    content_bits mode_bits mode_fits pdu_bits padded part_in content_in pdu_in optional_at part_at parts_within data_within
    mode_value mode_at kind_mode leading_at tail_at ended_at rest_at apdu_at items_fit part_fits data_fits apdu_fits write_out
    reply_of sent start_request start_response message_request end_request end_response user_abort call_of unsent called
    user_data_fits qos_fits user_fits has_mode service_fits event_fits tell closes aborts excepts timer_expires system_error
    no_instruction pdu_fault send_fault abort_fault start_fits_of indication_fault confirmation_fault first_fault handed instructed
    answered reached enter permitted message_refusal user_starts service_starts is_start is_service is_stale held_after
    refusal_of acts numbered_step first_takes second_takes finished concluded with_record entering user_step user_by reads_as
    reads_again abort_of or_abort read_pdu meaning data_of data_step bare_step service_step service_by invoked_number told_number
    packed head_bytes stored_bytes head_fits with_numbers load_at store_at part_of given_data fresh_for fresh_call forward_request
    responds forward_arrives forward_confirmed response_fault forward_by forward_step forward_of triple_at heading_at
    forward_within triple_bits triple_fits aircraft_bits heading_bits aircraft_fits heading_fits forward_bits forward_fits
    centre_run
answered_unsupported = refl

-- turned away by the carrier
pub turned_away_again : after 1 (asks ∷ record { starting = true; step = turn_away 0 } ∷ []) ≡ view (seen 1 closed []) (seen 0 closed [])
unfolding bits_n bits_of acc_of bits_to bytes_of with_bit set_bit put_bits read_bits whole_bits index_bits length_bits bit_field
    extension_bit digits_in whole_number extensible_index length_at length_within run_at string_at string_bits optional_bits
    content_bits mode_bits mode_fits pdu_bits padded part_in content_in pdu_in optional_at part_at parts_within data_within
    mode_value mode_at kind_mode leading_at tail_at ended_at rest_at apdu_at items_fit part_fits data_fits apdu_fits write_out
    reply_of sent start_request start_response message_request end_request end_response user_abort call_of unsent called
    user_data_fits qos_fits user_fits has_mode service_fits event_fits tell closes aborts excepts timer_expires system_error
    no_instruction pdu_fault send_fault abort_fault start_fits_of indication_fault confirmation_fault first_fault handed instructed
    answered reached enter permitted message_refusal user_starts service_starts is_start is_service is_stale held_after
    refusal_of acts numbered_step first_takes second_takes finished concluded with_record entering user_step user_by reads_as
    reads_again abort_of or_abort read_pdu meaning data_of data_step bare_step service_step service_by invoked_number told_number
    packed head_bytes stored_bytes head_fits with_numbers load_at store_at part_of given_data fresh_for fresh_call forward_request
    responds forward_arrives forward_confirmed response_fault forward_by forward_step forward_of triple_at heading_at
    forward_within triple_bits triple_fits aircraft_bits heading_bits aircraft_fits heading_fits forward_bits forward_fits
    centre_run
turned_away_again = refl
