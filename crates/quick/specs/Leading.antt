-- The leading fields of an APDU as one number (document 02, E11): "The router needs only the kind of an APDU, and for a start its mode. Answer that from
-- the leading bits".
-- The number has the bits of the one that reading the whole APDU answers (card's Recorded). A refusal is its number with its place above it
-- (fields' `packed`). Else, from the lowest bit on:
--    8 bits  0
--    8 bits  the alternative, by its tag
--    8 bits  the mode of a start, else 0
use Rattle.std.specs.Prelude.{ℕ, ◌+◌, ◌*◌, cond, List, [], ◌∷◌, eqb, Err, Ok}
use Rattle.words.specs.Limits.{shape}
use Rattle.bits.specs.Bits.{bits_of}
use Rattle.fields.specs.Refusals.{packed}
use Rattle.apdu.specs.Pdus.{index_of, lent}
use Rattle.apdu.specs.Reading.{leading_at}
use Rattle.pdus.specs.declared.PduType.{PduType}
use Rattle.pdus.specs.declared.PduType.TheVariants.{AircraftPdus, GroundPdus}
use Rattle.fields.specs.Fields.{Reading}
use Rattle.apdu.specs.declared.Kind.{Kind}

unfoldable pub lead_number : Reading (Kind × ℕ) → ℕ
lead_number (Ok ((k, m), next)) = 256 * (index_of k + 256 * m)
lead_number (Err r) = packed r

-- what a first byte says by itself
unfoldable pub byte_lead : PduType → ℕ → ℕ
byte_lead pdus b = lead_number (leading_at pdus (bits_of (b ∷ [])) 0)

-- SHAPE of the number that names the type (1 AircraftPDUs, 2 GroundPDUs), then the refusals of the leading fields
unfoldable pub leading_call : ℕ → List ℕ → ℕ
leading_call which s =
    cond (eqb which 1) (lead_number (leading_at AircraftPdus (lent s) 0)) (cond (eqb which 2) (lead_number (leading_at GroundPdus (lent s) 0)) shape)
