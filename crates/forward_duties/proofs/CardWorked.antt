-- A run of two ground cards and their hosts, computed from the definitions that the contracts cite: a forward that is answered and comes again, and one that the other centre
-- does not support. (A claim about all runs says nothing of cards that refuse everything.)
-- Assumes nothing.
use mathlib.Core.Path.{◌≡◌, refl}
use mathlib.Core.Bool.{true, false}
use mathlib.Core.List.{List, [], ◌∷◌}
use Prim.Native.Nat.{ℕ, zero, suc}
use native.Mathlib.Omega.{arith}
use lib.ListN.{replicate}
use Rattle.bits.specs.Bits.{bits_n, bits_of, acc_of, bits_to, bytes_of}
use Rattle.bits.specs.Put.{with_bit, set_bit, put_bits}
use Rattle.bits.specs.Read.{read_bits}
use Rattle.fields.specs.Encodings.{whole_bits, index_bits, length_bits}
use Rattle.fields.specs.Fields.{bit_field, extension_bit, digits_in, whole_number, extensible_index, length_at, length_within, run_at, string_at}
use Rattle.apdu.specs.Sizes.{buffer_least}
use Rattle.apdu.specs.Encoding.{forward_bits, string_bits, optional_bits, content_bits, mode_bits, mode_fits, padded}
use Rattle.apdu.specs.Pdus.{part_in, content_in, pdu_in}
use Rattle.apdu.specs.Reading.{triple_at, heading_at, forward_within, optional_at, part_at, parts_within, data_within, mode_value, mode_at, kind_mode, leading_at, tail_at, ended_at}
use Rattle.apdu.specs.Writing.{forward_fits, items_fit, part_fits, data_fits, write_out}
use Rattle.codec.specs.Codec.{pdu_bits, apdu_fits, rest_at, apdu_at}
use Rattle.machine.specs.Calls.{reply_of, sent, start_request, start_response, message_request, end_request, end_response, user_abort, call_of, unsent, called}
use Rattle.machine.specs.UserData.{user_data_fits}
use Rattle.machine.specs.Event.{has_mode, qos_fits, user_fits, service_fits, event_fits}
use Rattle.machine.specs.Exceptions.{tell, closes, aborts, excepts, timer_expires, system_error, no_instruction}
use Rattle.machine.specs.Faults.{response_fault, pdu_fault, send_fault, abort_fault, start_fits_of, indication_fault, confirmation_fault, first_fault}
use Rattle.machine.specs.Primitives.{handed, instructed, answered, reached}
use Rattle.machine.specs.Record.{enter}
use Rattle.machine.specs.Step.{permitted, message_refusal, acts}
use Rattle.numbered.specs.Numbers.{user_starts, service_starts, is_start, is_service, is_stale, held_after, refusal_of, numbered_step}
use Rattle.step.specs.Call.{forward_step, forward_by, forward_of, first_takes, second_takes, finished, concluded, with_record, entering, user_step, user_by, reads_as, reads_again, abort_of, or_abort, read_pdu, meaning, data_of, data_step, bare_step, service_step, service_by}
use Rattle.packed.specs.Packed.{invoked_number, told_number, packed}
use Rattle.stored.specs.Stored.{record_bytes, head_bytes, stored_bytes, head_fits, with_numbers, load_at, store_at}
use Rattle.apdu.specs.Headings.{triple, triple_bits, triple_fits, aircraft_bits, heading_bits, aircraft_fits, heading_fits}
use Rattle.machine.specs.Forwards.{forward_request, responds, forward_arrives, forward_confirmed}
use Rattle.card.specs.Face.{part_of, given_data, fresh_for, fresh_call}
use Rattle.card_pair.specs.CardMachine.{Buffers, Word, held_by}
use Rattle.card_pair.specs.CentreMachine.{Passed, CentreAsked, forward_request_of, Desk, new_desk, centre_machine}
use Rattle.pair.specs.Names.{Side}
use Rattle.pair.specs.Carrier.{hand_over}
use Rattle.duties.specs.Memory.{told_ended, Notice, note}
use Rattle.duties.specs.Host.{right}
use Rattle.forward_duties.specs.Desks.{deliver, happens, shows, release, Move, job, at, f_run, f_fresh}
use Rattle.forward_duties.specs.Desks.{answered as gets_answer}
use Rattle.forward_duties.specs.Promise.{often}
use Rattle.forward_duties.specs.CardWords.{card_words}

abbrev lends : ℕ → Buffers
lends n = record { first = replicate buffer_least 255; second = replicate buffer_least 170; first_full = omega arith; second_full = omega arith }

-- 15 November 2026, 20:30:59, flight AB12, address ABCDEF, a downlink message of ten bits
abbrev passed : Passed
passed =
    record {
      heading = record { date = triple 2026 11 15; time = triple 20 30 59; characters = 4; flight = 137402546; address = 11259375; direction = 1 };
      msgs = 165 ∷ 192 ∷ [];
      bits = 10;
    }

abbrev word : ℕ → Word
word zero = record { number = 1; low = omega arith }
word (suc n) = record { number = 2; low = omega arith }

-- the number above the record's, which holds 0 or 1 here
abbrev order : Desk → ℕ → CentreAsked
order d j = forward_request_of (word (held_by d.kept.bytes)) 3 passed

abbrev new : ℕ → Desk
new f = new_desk (fresh_call (replicate record_bytes 0) 2 1 f 3 22).bytes lends

abbrev moves : List (Move CentreAsked)
moves = job (deliver 7) ∷ at true release ∷ at false (happens (hand_over 0)) ∷ at false shows ∷ at false release ∷
    gets_answer ∷ job (deliver 7) ∷ []

record Seen : Type 0 where
  told : List Notice
  declined : List ℕ
  shown : ℕ

abbrev seen : List Notice → List ℕ → ℕ → Seen
seen n x a = record { told = n; declined = x; shown = a }

-- f: does the other one support forwarding
abbrev after : ℕ → Seen
after f =
    let d = f_run (centre_machine 1) (card_words 1) right order (λ (sd : Side). new 0)
    (f_fresh (centre_machine 1) (card_words 1) right order (λ (sd : Side). new 0) (new 0) (new f)) moves in
    seen d.both.here.kept.notices d.declined (often d.both.there.seen 7 d.both.here.log)

pub forwarded_once : after 1 ≡ seen (note 7 told_ended ∷ []) [] 1
unfolding bits_n bits_of acc_of bits_to bytes_of with_bit set_bit put_bits read_bits whole_bits index_bits length_bits bit_field
    extension_bit digits_in whole_number extensible_index length_at length_within run_at string_at string_bits optional_bits
    content_bits mode_bits mode_fits pdu_bits padded part_in content_in pdu_in optional_at part_at parts_within data_within
    mode_value mode_at kind_mode leading_at tail_at ended_at rest_at apdu_at items_fit part_fits data_fits apdu_fits write_out
    reply_of sent start_request start_response message_request end_request end_response user_abort call_of unsent called
    user_data_fits qos_fits user_fits has_mode service_fits event_fits tell closes aborts excepts timer_expires system_error
    no_instruction pdu_fault send_fault abort_fault start_fits_of indication_fault confirmation_fault first_fault handed instructed
    answered reached enter permitted message_refusal user_starts service_starts is_start is_service is_stale held_after
    refusal_of acts numbered_step first_takes second_takes finished concluded with_record entering user_step user_by reads_as
    reads_again abort_of or_abort read_pdu meaning data_of data_step bare_step service_step service_by invoked_number told_number
    packed head_bytes stored_bytes head_fits with_numbers load_at store_at part_of given_data fresh_for fresh_call forward_request
    responds forward_arrives forward_confirmed response_fault forward_by forward_step forward_of triple_at heading_at
    forward_within triple_bits triple_fits aircraft_bits heading_bits aircraft_fits heading_fits forward_bits forward_fits f_run
forwarded_once = refl

pub not_supported_there : after 0 ≡ seen (note 7 told_ended ∷ []) (7 ∷ []) 0
unfolding bits_n bits_of acc_of bits_to bytes_of with_bit set_bit put_bits read_bits whole_bits index_bits length_bits bit_field
    extension_bit digits_in whole_number extensible_index length_at length_within run_at string_at string_bits optional_bits
    content_bits mode_bits mode_fits pdu_bits padded part_in content_in pdu_in optional_at part_at parts_within data_within
    mode_value mode_at kind_mode leading_at tail_at ended_at rest_at apdu_at items_fit part_fits data_fits apdu_fits write_out
    reply_of sent start_request start_response message_request end_request end_response user_abort call_of unsent called
    user_data_fits qos_fits user_fits has_mode service_fits event_fits tell closes aborts excepts timer_expires system_error
    no_instruction pdu_fault send_fault abort_fault start_fits_of indication_fault confirmation_fault first_fault handed instructed
    answered reached enter permitted message_refusal user_starts service_starts is_start is_service is_stale held_after
    refusal_of acts numbered_step first_takes second_takes finished concluded with_record entering user_step user_by reads_as
    reads_again abort_of or_abort read_pdu meaning data_of data_step bare_step service_step service_by invoked_number told_number
    packed head_bytes stored_bytes head_fits with_numbers load_at store_at part_of given_data fresh_for fresh_call forward_request
    responds forward_arrives forward_confirmed response_fault forward_by forward_step forward_of triple_at heading_at
    forward_within triple_bits triple_fits aircraft_bits heading_bits aircraft_fits heading_fits forward_bits forward_fits f_run
not_supported_there = refl
