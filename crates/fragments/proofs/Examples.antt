-- Document 01's example of what is printed, and that it holds: computed claims.
-- Assumes nothing.
use mathlib.Core.Path.{◌≡◌, refl}
use mathlib.Core.List.{[], ◌∷◌}
use Rattle.envelope.specs.Numbers.{number_in, number_at}
use Rattle.envelope.specs.Envelopes.{most_bits, is_kind, size_fits, bytes_for, is_padded, body_at, size_at, job_at, kind_at, envelope_at}
use Rattle.envelope.specs.Strings.{walk_from_of, walk}
use Rattle.fragments.specs.Texts.{digits, decimal, line_of, lines_of, end_of, text_of}

-- its three lines, and those of no bytes
pub text_holds : text_of most_bits (0x01 ∷ 0xAC ∷ 0x02 ∷ 0x0A ∷ 0xA5 ∷ 0x40 ∷ []) ≡ 107 ∷ 105 ∷ 110 ∷ 100 ∷ 32 ∷ 106 ∷ 111
    ∷ 98 ∷ 32 ∷ 98 ∷ 105 ∷ 116 ∷ 115 ∷ 10 ∷ 49 ∷ 32 ∷ 51 ∷ 48 ∷ 48 ∷ 32 ∷ 49 ∷ 48 ∷ 10 ∷ 101 ∷ 110 ∷ 100 ∷ 32 ∷ 54 ∷ 10
    ∷ []
unfolding number_in number_at is_kind size_fits bytes_for is_padded body_at size_at job_at kind_at envelope_at walk_from_of walk digits
    decimal line_of lines_of end_of text_of
text_holds = refl

pub text_of_none : text_of most_bits [] ≡ 107 ∷ 105 ∷ 110 ∷ 100 ∷ 32 ∷ 106 ∷ 111 ∷ 98 ∷ 32 ∷ 98 ∷ 105 ∷ 116 ∷ 115 ∷ 10 ∷
    101 ∷ 110 ∷ 100 ∷ 32 ∷ 48 ∷ 10 ∷ []
unfolding walk_from_of walk digits decimal lines_of end_of text_of
text_of_none = refl
