-- Fields of X.691 (unaligned), read from a list of bits at a place: the value and the place after it, or the refusal.
-- A field is one of X.691's bit-fields: an extension bit, the presence bits of a SEQUENCE, an index, a whole number, a length, the contents
-- after a length. The fault of a field is found at that field: 10, 12, 13, 11, 14 in this order (document 01).
use Rattle.std.specs.Prelude.{ℕ, zero, suc, ◌+◌, ◌-◌, ◌*◌, ◌/◌, List, cond, ◌&&◌, length, leb, ltb, eqb, Err, None, Ok, Option, Result, Some}
use Rattle.bits.specs.Read.{read_bits}
use Rattle.fields.specs.declared.Fault.{Fault}
use Rattle.fields.specs.declared.Refusal.{Refusal}
use Rattle.fields.specs.declared.Fault.TheVariants.{Short, Range, Extension, LengthForm, Limit}

-- ---- answers

-- What reading finds: a value and the place after it, or the refusal.
abbrev pub Reading : Type 0 → Type 0
Reading A = Result (A × ℕ) Refusal

-- The refusal of the field that begins at a place, counted from the first bit. Every refusal of a field is made here (document 02, E1).
abbrev pub refusal : ℕ → Fault → Refusal
refusal at f = record { fault = f; at = at }

abbrev pub refused_at : {A : Type 0} → ℕ → Fault → Result A Refusal
refused_at at f = Err (refusal at f)

-- What follows a reading goes on from its value and the place after it. A refusal is handed up, and nothing further is read.
abbrev pub onto : {A B : Type 0} → (Refusal → B) → Reading A → (A → ℕ → B) → B
onto up (Ok (v, next)) k = k v next
onto up (Err r) k = up r

-- the same, where a refusal is the answer above, unchanged
abbrev pub then : {A B : Type 0} → Reading A → (A → ℕ → Result B Refusal) → Result B Refusal
then f k = onto Err f k

-- ---- bits and numbers

abbrev pub field_of : ℕ → Option (ℕ × ℕ) → Reading ℕ
field_of at (Some (v, next)) = Ok (v, next)
field_of at None = refused_at at Short

-- a field of n bits, as the presence bits of a SEQUENCE (X.691, 19.2), or one character of 7 bits (30.5)
unfoldable pub bit_field : List ℕ → ℕ → ℕ → Reading ℕ
bit_field l at n = field_of at (read_bits l at n)

-- an extension bit (X.691, 19.1, 23.5, 14.3): 1 is refused
unfoldable pub extension_bit : List ℕ → ℕ → Reading ℕ
extension_bit l at = then (bit_field l at 1) (λ (b next : ℕ). cond (eqb b 0) (Ok (0, next)) (refused_at at Extension))

-- how many binary digits a number has, looking at no more than k of them: none for 0
unfoldable pub digits_in : ℕ → ℕ → ℕ
digits_in zero n = 0
digits_in (suc k) zero = 0
digits_in (suc k) (suc n) = suc (digits_in k (suc n / 2))

-- the fewest bits that hold the numbers up to n
abbrev pub width_of : ℕ → ℕ
width_of n = digits_in 64 n

-- a whole number from lo to hi, as its distance from lo in the fewest bits that hold hi - lo (X.691, 11.5)
unfoldable pub whole_number : List ℕ → ℕ → ℕ → ℕ → Reading ℕ
whole_number l at lo hi =
    then (bit_field l at (width_of (hi - lo))) (λ (d next : ℕ). cond (leb (lo + d) hi) (Ok (lo + d, next)) (refused_at at Range))

-- the index of a CHOICE or an ENUMERATED type with an extension marker: the extension bit, then the index, 0 to last (X.691, 23.5 to 23.7, 14.3)
unfoldable pub extensible_index : List ℕ → ℕ → ℕ → Reading ℕ
extensible_index l at last = then (extension_bit l at) (λ (b next : ℕ). whole_number l next 0 last)

-- ---- lengths (X.691, 11.9.3.5 to 11.9.3.8): under 128 a bit 0 and 7 bits; to 16,383 the bits 10 and 14 bits; 11 begins a fragment

-- the length that 16 bits say, of which the first two are 10
abbrev pub long_length : ℕ → ℕ → ℕ → Reading ℕ
long_length at v next = cond (ltb v (32768 + 128)) (refused_at at LengthForm) (Ok (v - 32768, next))

-- the length whose first eight bits say b
abbrev pub length_from : List ℕ → ℕ → ℕ → ℕ → Reading ℕ
length_from l at b next =
    cond (ltb b 128) (Ok (b, next))
    (cond (leb 192 b) (refused_at at LengthForm) (then (bit_field l at 16) (long_length at)))

unfoldable pub length_at : List ℕ → ℕ → Reading ℕ
length_at l at = then (bit_field l at 8) (length_from l at)

-- a length that the card carries from least to most
unfoldable pub length_within : List ℕ → ℕ → ℕ → ℕ → Reading ℕ
length_within l at least most =
    then (length_at l at) (λ (n next : ℕ). cond (leb least n && leb n most) (Ok (n, next)) (refused_at at Limit))

-- ---- contents: a run of items of `unit` bits, told by their count and the place after them

-- n items that are count bits
unfoldable pub run_at : List ℕ → ℕ → ℕ → ℕ → Reading ℕ
run_at l at count n = cond (leb (at + count) (length l)) (Ok (n, at + count)) (refused_at at Short)

abbrev pub contents_at : List ℕ → ℕ → ℕ → ℕ → Reading ℕ
contents_at l at unit n = run_at l at (unit * n) n

-- A string without a size of its own, of which the card carries from least to most items: its length, then its contents (X.691, 16.11: BIT STRING, unit 1;
-- 17.8: octets, unit 8).
unfoldable pub string_at : List ℕ → ℕ → ℕ → ℕ → ℕ → Reading ℕ
string_at l at unit least most = then (length_within l at least most) (λ (n from : ℕ). contents_at l from unit n)

-- A string whose size is from least to most: the size as a whole number, then the contents (X.691, 11.9.4.1 and 30.5.7: IA5String, unit 7).
unfoldable pub sized_at : List ℕ → ℕ → ℕ → ℕ → ℕ → Reading ℕ
sized_at l at unit least most = then (whole_number l at least most) (λ (n from : ℕ). contents_at l from unit n)
