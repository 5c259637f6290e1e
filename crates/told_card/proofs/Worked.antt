-- A ground record's bytes from peat_fresh on, computed: a start, one that lends too little room, one in START-REQ, a carrier that fails and is
-- reported twice, a new start, a user abort, a late D-P-ABORT. (A claim about all histories says nothing of cards that refuse everything.)
-- Assumes nothing.
use mathlib.Core.Path.{◌≡◌, refl}
use mathlib.Core.List.{List, [], ◌∷◌}
use Prim.Native.Nat.{ℕ, ◌^◌, ◌<◌}
use native.Mathlib.Omega.{arith}
use lib.ListN.{get_or, replicate}
use Rattle.bits.specs.Bits.{bits_n, bits_of, acc_of, bits_to, bytes_of}
use Rattle.bits.specs.Put.{with_bit, set_bit, put_bits}
use Rattle.bits.specs.Read.{read_bits}
use Rattle.fields.specs.Encodings.{whole_bits, index_bits, length_bits}
use Rattle.fields.specs.Fields.{digits_in}
use Rattle.apdu.specs.Sizes.{buffer_least}
use Rattle.apdu.specs.Encoding.{string_bits, optional_bits, optional_fits, content_bits, content_fits, mode_bits, mode_fits, padded}
use Rattle.apdu.specs.Pdus.{part_in, content_in, pdu_in}
use Rattle.apdu.specs.InPlace.{bits_in, perhaps_bits}
use Rattle.apdu.specs.Writing.{items_fit, part_fits, data_fits, write_out}
use Rattle.codec.specs.Codec.{pdu_bits, apdu_fits}
use Rattle.plain.specs.Plain as plain
use Rattle.control.specs.declared.Side.TheVariants.{Ground}
use Rattle.machine.specs.Calls.{sent, start_request, user_abort, call_of, unsent, called}
use Rattle.machine.specs.UserData.{user_data_fits}
use Rattle.machine.specs.Event.{has_mode, user_fits, service_fits, event_fits}
use Rattle.machine.specs.Exceptions.{tell, closes, aborts, excepts, no_instruction}
use Rattle.machine.specs.Faults.{abort_fault, first_fault}
use Rattle.machine.specs.Primitives.{instructed, answered, reached}
use Rattle.machine.specs.Record.{enter}
use Rattle.machine.specs.Step.{permitted, message_refusal, acts}
use Rattle.machine.specs.declared.event.ServicePrimitive.TheVariants.{DPAbortIndication}
use Rattle.numbered.specs.Numbers.{user_starts, service_starts, is_start, is_service, is_stale, held_after, refusal_of, numbered_step}
use Rattle.step.specs.Call.{first_takes, second_takes, finished, concluded, with_record, entering, user_step, user_by, bare_step, service_step, service_by}
use Rattle.packed.specs.Packed.{invoked_number, told_number, packed}
use Rattle.stored.specs.Stored.{record_bytes, active_byte, head_bytes, stored_bytes, head_fits, with_numbers, load_at, store_at}
use Rattle.card.specs.Face.{no_count, part_of, given_data, fresh_for, fresh_call}
use Rattle.card_pair.specs.CardMachine.{Word}
use Rattle.told.specs.Lists.{among, begins, ends}
use Rattle.told.specs.Histories.{activations, closings}
use Rattle.told_card.specs.Answers.{Lent, Call, start, user_abort_of, service_primitive, history, leaves}

abbrev word : (n : ℕ) → n < 2 ^ 64 → Word
word n h = record { number = n; low = h }

-- two buffers of the least size, or the first of no size
abbrev full : Call → Lent
full c = record { call = c; first = replicate buffer_least 255; second = replicate buffer_least 170 }

abbrev narrow : Call → Lent
narrow c = record { call = c; first = []; second = replicate buffer_least 170 }

abbrev starts : Word → Call
starts v = start v 0 0 0 (record { ids = []; msgs = []; bits = no_count; checks = []; check = 0 })

abbrev fails : Word → Call
fails v = service_primitive DPAbortIndication v 0 []

abbrev calls : List Lent
calls =
    full (starts (word 1 (omega arith))) ∷ narrow (starts (word 2 (omega arith))) ∷ full (starts (word 2 (omega arith)))
    ∷ full (fails (word 1 (omega arith))) ∷ full (fails (word 1 (omega arith))) ∷
    full (starts (word 2 (omega arith))) ∷ full (user_abort_of no_count) ∷ full (fails (word 2 (omega arith))) ∷ []

-- of an application type
abbrev bytes : ℕ → List ℕ
bytes t = (fresh_call (replicate record_bytes 0) 2 0 0 1 t).bytes

-- two activations, two closings, and the user is not active
abbrev ToldOfTwo : ℕ → Type 0
ToldOfTwo t = (activations Ground (history (bytes t) calls) ≡ 2) × (closings Ground (history (bytes t) calls) ≡ 2) ×
    (get_or (leaves (bytes t) calls) active_byte 1 ≡ 0)

pub told_of_two : ToldOfTwo 22 × ToldOfTwo 2
unfolding bits_n bits_of acc_of digits_in bits_to bytes_of with_bit set_bit put_bits read_bits whole_bits index_bits length_bits
    string_bits optional_bits optional_fits content_bits content_fits mode_bits mode_fits pdu_bits padded bits_in perhaps_bits
    plain.content_fits plain.given_fits part_in content_in pdu_in items_fit part_fits data_fits apdu_fits write_out sent
    start_request user_abort call_of unsent called user_data_fits user_fits has_mode service_fits event_fits tell closes aborts
    excepts no_instruction abort_fault first_fault instructed answered reached enter permitted message_refusal user_starts
    service_starts is_start is_service is_stale held_after refusal_of acts numbered_step first_takes second_takes finished
    concluded with_record entering user_step user_by bare_step service_step service_by invoked_number told_number packed
    head_bytes stored_bytes head_fits with_numbers load_at store_at part_of given_data fresh_for fresh_call among begins ends
    activations closings history leaves
told_of_two = ((refl, refl, refl), (refl, refl, refl))
