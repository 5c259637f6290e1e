-- How a host takes an answer apart.
use Rattle.std.specs.Prelude.{ℕ, ◌+◌, ◌*◌, ◌/◌, ◌%◌, ◌^◌, ◌≡◌, List, get_or}
use Rattle.editions.specs.declared.Edition.{Edition}
use Rattle.editions.specs.declared.Edition.TheVariants.{Plain, Protected}
use Rattle.pdus.specs.declared.PduType.{PduType}
use Rattle.pdus.specs.declared.PduType.TheVariants.{AircraftPdus, GroundPdus}
use Rattle.recordings.specs.declared.Compared.{Compared}

-- ---- an APDU by itself: the refusal, the alternative by its tag, and behind it the mode of a start

abbrev pub refusal_in : ℕ → ℕ
refusal_in n = n % 256

abbrev pub tag_in : ℕ → ℕ
tag_in n = n / 256 % 256

abbrev pub mode_in : ℕ → ℕ
mode_in n = n / 65536 % 256

-- the number by which a host names a type of PDUs in an edition. The leading bits are the same in every edition: for them it names the type of type 22
abbrev pub type_number : Edition → PduType → ℕ
type_number Protected AircraftPdus = 1
type_number Protected GroundPdus = 2
type_number Plain AircraftPdus = 3
type_number Plain GroundPdus = 4

-- the tag of a start
abbrev pub start_tag : ℕ
start_tag = 2

-- Document 02, E11: "The router needs only the kind of an APDU, and for a start its mode." What the leading bits answer is what the whole APDU answers.
pub record SameLead (leading whole : ℕ) : Type 0 where
  pub tag : tag_in leading ≡ tag_in whole
  pub mode : tag_in whole ≡ start_tag → mode_in leading ≡ mode_in whole
  pub none : (tag_in whole ≡ start_tag → ⊥) → mode_in leading ≡ 0

-- ---- two recordings compared: every field of the report stands in the number, and none is cut

pub record Reads (n : ℕ) (c : Compared) : Type 0 where
  pub refusal : n % 256 ≡ c.refusal
  pub recording : n / 256 % 256 ≡ c.recording
  pub byte : n / 2 ^ 16 % 65536 ≡ c.byte
  pub index : n / 2 ^ 32 % 65536 ≡ c.index
  pub field : n / 2 ^ 48 ≡ c.field

-- two bytes of a range as a number, the more significant first
abbrev pub two_at : List ℕ → ℕ → ℕ
two_at l i = 256 * get_or l i 0 + get_or l (i + 1) 0

-- and every count stands in the six bytes
pub record Counts (counts : List ℕ) (c : Compared) : Type 0 where
  pub first : two_at counts 0 ≡ c.first
  pub second : two_at counts 2 ≡ c.second
  pub repeated : two_at counts 4 ≡ c.repeated
