-- Document 01, "Examples by hand", the rows marked P, and the two lengths of document 02, E3: one list. A subject is a constructor of Row
-- and a line of holds.
use Rattle.std.specs.Prelude.{ℕ, ◌+◌, ◌-◌, ◌*◌, ◌/◌, Bool, true, false, ◌&&◌, List, [], ◌∷◌, ◌++◌, eqb, length, replicate, Err, Ok, Result}
use Rattle.bits.specs.Bits.{bits_of}
use Rattle.fields.specs.Fields.{length_at}
use Rattle.fields.specs.Encodings.{length_bits}
use Rattle.fields.specs.Refusals.{number_of}
use Rattle.elements.specs.Arguments.{code_fits_of, digits_bits, code_at, characters_in, characters_bits, sized_fits, sized_bits, free_text_at, designation_at, facility_fits, facility_bits, facility_at, atis_fits, atis_at}
use Rattle.envelope.specs.Envelopes.{envelope_at, most_bits, content_of, bytes_of}
use Rattle.envelope.specs.Examples.{answers, reads}
use Rattle.envelope.specs.Examples.{Row as EnvelopeRow}
use Rattle.fields.specs.Fields.{Reading}
use Rattle.envelope.specs.declared.EnvelopeRefusal.{EnvelopeRefusal}
use Rattle.envelope.specs.declared.Envelope.{Envelope}

-- what bytes say, read from their first bit: a value in so many bits, or the number of the refusal
abbrev pub Says : Type 0
Says = Result (ℕ × ℕ) ℕ

-- arguments that are characters
pub data Text : Type 0 where
  designation : Text
  facility : Text
  free_text : Text
  atis_code : Text

-- bytes and what they say, by their subject. A code: its digits, how many bits, and the bytes; characters the same; a facility designation
-- that is refused: the bytes, and the number
pub data Row : Type 0 where
  a_length : List ℕ → Says → Row
  a_code : List ℕ → ℕ → List ℕ → Row
  a_text : Text → List ℕ → ℕ → List ℕ → Row
  no_designation : List ℕ → ℕ → Row
  an_envelope : EnvelopeRow → Row

abbrev pub examples : List Row
examples =
    a_length (0x7F ∷ []) (Ok (127, 8)) ∷
    a_length (0x80 ∷ 0x80 ∷ []) (Ok (128, 16)) ∷
    a_length (0x88 ∷ 0x00 ∷ []) (Ok (2048, 16)) ∷
    a_length (0x88 ∷ 0x01 ∷ []) (Ok (2049, 16)) ∷
    a_length (0xBF ∷ 0xFF ∷ []) (Ok (16383, 16)) ∷
    a_length (0x80 ∷ 0x7F ∷ []) (Err 13) ∷
    a_code (7 ∷ 5 ∷ 0 ∷ 0 ∷ []) 12 (0xF4 ∷ 0x00 ∷ []) ∷
    a_text designation (65 ∷ 66 ∷ 67 ∷ 68 ∷ []) 31 (0x10 ∷ 0x61 ∷ 0x43 ∷ 0x88 ∷ []) ∷
    no_designation (0xA0 ∷ []) 11 ∷
    a_text facility [] 1 (0x00 ∷ []) ∷
    a_text facility (65 ∷ 66 ∷ 67 ∷ 68 ∷ []) 32 (0x88 ∷ 0x30 ∷ 0xA1 ∷ 0xC4 ∷ []) ∷
    a_text free_text (65 ∷ []) 15 (0x00 ∷ 0x82 ∷ []) ∷
    a_text atis_code (66 ∷ []) 7 (0x84 ∷ []) ∷
    an_envelope (reads (0x01 ∷ 0xAC ∷ 0x02 ∷ 0x0A ∷ 0xA5 ∷ 0x40 ∷ []) 1 300 10) ∷
    []

-- ---- what a row claims

-- two lists are equal
unfoldable pub same : List ℕ → List ℕ → Bool
same [] [] = true
same [] (y ∷ ys) = false
same (x ∷ xs) [] = false
same (x ∷ xs) (y ∷ ys) = eqb x y && same xs ys

-- there are n bits, and with zeros up to a whole byte they are the bytes
unfoldable pub are : List ℕ → ℕ → List ℕ → Bool
are bits n bytes =
    eqb (length bits) n && eqb (length bytes) ((n + 7) / 8) && same (bits ++ replicate (8 * length bytes - n) 0) (bits_of bytes)

-- a field says a value in so many bits, or is refused with a number
abbrev pub field_says : Reading ℕ → Says → Bool
field_says (Ok (v, next)) (Ok (w, n)) = eqb v w && eqb next n
field_says (Ok (v, next)) (Err r) = false
field_says (Err e) (Ok (w, n)) = false
field_says (Err e) (Err r) = eqb (number_of e.fault) r

-- the bits of a value are the bytes that say it; a refusal has none
abbrev pub written : (ℕ → List ℕ) → List ℕ → Says → Bool
written bits_of_it bytes (Ok (v, n)) = are (bits_of_it v) n bytes
written bits_of_it bytes (Err r) = true

-- which characters such an argument may have, its bits, and what reading finds
abbrev pub text_fits : Text → List ℕ → Bool
text_fits designation t = sized_fits 4 8 t
text_fits facility t = facility_fits t
text_fits free_text t = sized_fits 1 256 t
text_fits atis_code t = atis_fits t

abbrev pub text_bits : Text → List ℕ → List ℕ
text_bits designation t = sized_bits 4 8 t
text_bits facility t = facility_bits t
text_bits free_text t = sized_bits 1 256 t
text_bits atis_code t = characters_bits t

abbrev pub text_at : Text → List ℕ → Reading ℕ
text_at designation l = designation_at l 0
text_at facility l = facility_at l 0
text_at free_text l = free_text_at l 0
text_at atis_code l = atis_at l 0

-- the characters end with the argument
abbrev pub text_says : Text → List ℕ → List ℕ → ℕ → Bool
text_says x l t n = field_says (text_at x l) (Ok (length t, n)) && same (characters_in l (n - 7 * length t) (length t)) t

-- a code says its digits, and ends there
abbrev pub code_says : Reading (List ℕ) → List ℕ → ℕ → Bool
code_says (Ok (ds, next)) digits n = eqb next n && same ds digits
code_says (Err r) digits n = false

abbrev pub writes_back : Result Envelope EnvelopeRefusal → List ℕ → Bool
writes_back (Ok e) bytes = same (bytes_of (content_of bytes e)) bytes
writes_back (Err r) bytes = true

-- a row holds both ways: the bytes are read as what they say, and the value is written as the bytes
abbrev pub holds : Row → Bool
holds (a_length bytes says) = field_says (length_at (bits_of bytes) 0) says && written length_bits bytes says
holds (a_code ds n bytes) =
    code_fits_of ds && are (digits_bits ds) n bytes && code_says (code_at (bits_of bytes) 0) ds n
holds (a_text x t n bytes) = text_fits x t && are (text_bits x t) n bytes && text_says x (bits_of bytes) t n
holds (no_designation bytes r) = field_says (designation_at (bits_of bytes) 0) (Err r)
holds (an_envelope row) =
    answers (envelope_at most_bits row.bytes 0) row && writes_back (envelope_at most_bits row.bytes 0) row.bytes

abbrev pub all_hold_of : List Row → Bool
all_hold_of [] = true
all_hold_of (r ∷ rs) = holds r && all_hold_of rs
