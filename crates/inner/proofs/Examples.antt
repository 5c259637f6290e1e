-- A level and a whole message, worked by hand. Document 01's own examples are rows of the list of all its examples.
-- Assumes nothing.
use mathlib.Core.Path.{◌≡◌, refl}
use mathlib.Core.Bool.{Bool, true, false, ◌&&◌}
use mathlib.Core.List.{List, [], ◌∷◌, ◌++◌}
use Prim.Native.Nat.{ℕ, ◌-◌, ◌*◌}
use lib.ListN.{length, take, replicate}
use lib.Dec.{eqb}
use Rattle.bits.specs.Bits.{bits_n, acc_of, bits_of}
use Rattle.fields.specs.Fields.{digits_in}
use Rattle.fields.specs.Encodings.{whole_bits, index_bits}
use Rattle.kinds.specs.declared.Direction.TheVariants.{Uplink}
use Rattle.inner.specs.declared.values.Message.{Message}
use Rattle.kinds.specs.Elements.{kinds, uplink, rows_of, kind_of}
use Rattle.elements.specs.Arguments.{lowest, highest, level_type_bits, level_bits, time_bits, digits_bits, no_type}
use Rattle.elements.specs.OneElement.{bare, with_code, last_of, argument_bits, element_bits}
use Rattle.inner.specs.Places.{row_bits}
use Rattle.inner.specs.Headers.{date_time_bits, reference_bits, acknowledgement_bits, header_bits}
use Rattle.inner.specs.Messages.{message_bits}

-- the bits of a value, how many there are, and the bytes that hold them with zeros after them
pub record Row : Type 0 where
  pub bits : List ℕ
  pub count : ℕ
  pub bytes : List ℕ

abbrev row : List ℕ → ℕ → List ℕ → Row
row b n s = record { bits = b; count = n; bytes = s }

abbrev same : List ℕ → List ℕ → Bool
same [] [] = true
same [] (y ∷ ys) = false
same (x ∷ xs) [] = false
same (x ∷ xs) (y ∷ ys) = eqb x y && same xs ys

-- uplink 5 of 2026-11-15 04:38:02, SQUAWK 7500 (uM123)
abbrev squawk : Message
squawk =
    record {
      header =
          record {
            identification = 5;
            referenced = false;
            reference = 0;
            dated = record { year = 2026; month = 11; day = 15; time = record { hours = 4; minutes = 38 }; seconds = 2 };
            acknowledged = false;
          };
      count = 1;
      places = with_code 123 (7 ∷ 5 ∷ 0 ∷ 0 ∷ []) ∷ replicate 4 (bare 0);
    }

abbrev pub examples : List Row
examples =
    row (level_bits (record { block = false; first = record { unit = 2; number = 350 }; second = no_type })) 13 (0x4A ∷ 0x00 ∷ []) ∷
    row (message_bits Uplink squawk []) 66 (0x05 ∷ 0x3D ∷ 0x4E ∷ 0x24 ∷ 0xC1 ∷ 0x01 ∷ 0xEF ∷ 0xD0 ∷ 0x00 ∷ []) ∷ []

abbrev pub holds : List Row → Bool
holds [] = true
holds (r ∷ rs) = eqb (length r.bits) r.count && same (r.bits ++ replicate (8 * length r.bytes - r.count) 0)
    (bits_of r.bytes) && holds rs

pub all_hold : holds examples ≡ true
unfolding digits_bits level_bits level_type_bits lowest highest time_bits message_bits header_bits date_time_bits reference_bits
    acknowledgement_bits row_bits element_bits argument_bits last_of kind_of rows_of uplink kinds index_bits whole_bits digits_in
    bits_n bits_of acc_of
all_hold = refl
