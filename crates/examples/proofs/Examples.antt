-- Every example that document 01 marks P holds of the definitions.
-- Assumes nothing.
use mathlib.Core.Path.{◌≡◌, refl}
use mathlib.Core.Bool.{true}
use Rattle.bits.specs.Bits.{bits_n, bits_of, acc_of}
use Rattle.bits.specs.Read.{read_bits}
use Rattle.fields.specs.Fields.{bit_field, length_at, digits_in, whole_number, run_at, sized_at}
use Rattle.fields.specs.Encodings.{length_bits, whole_bits, index_bits}
use Rattle.fields.specs.Refusals.{number_of}
use Rattle.elements.specs.Arguments.{digits_fit, code_fits_of, digits_bits, code_at, characters_fit, characters_in, characters_bits, sized_fits, sized_bits, facility_fits, facility_bits, facility_at, atis_fits}
use Rattle.envelope.specs.Numbers.{number_in, number_at, groups, number}
use Rattle.envelope.specs.Envelopes.{is_kind, size_fits, bytes_for, is_padded, body_at, size_at, job_at, kind_at, envelope_at, bytes_of}
use Rattle.examples.specs.Examples.{examples, all_hold_of, same, are}

pub all_hold : all_hold_of examples ≡ true
unfolding digits_fit code_fits_of code_at characters_fit characters_in sized_fits facility_fits facility_at atis_fits groups number
    bytes_of digits_bits sized_bits facility_bits characters_bits index_bits whole_bits digits_in sized_at whole_number run_at
    number_in number_at is_kind size_fits bytes_for is_padded body_at size_at job_at kind_at envelope_at same are bits_n bits_of
    acc_of read_bits bit_field length_at length_bits number_of
all_hold = refl
