-- An APDU by itself, as it was recorded, for whoever looks for a fault in it. The type that it is read as is a number: 1 AircraftPDUs, 2
-- GroundPDUs of application type 22; 3 AircraftPDUs, 4 GroundPDUs of application type 2.
-- The number that reading it answers. A refusal is its number, with its place above it where the bytes are at fault (fields' `packed`), and
-- every other bit is zero. Else, from the lowest bit on:
--    8 bits  0
--    8 bits  the alternative, by its tag
--    8 bits  the reason of an abort, the mode of a start, the result of a forward response, else 0
--    8 bits  1 where there is message data, else 0
use Rattle.std.specs.Prelude.{ℕ, ◌+◌, ◌*◌, ◌%◌, cond, List, eqb, Err, None, Ok, Option, Result, Some}
use Rattle.words.specs.Limits.{shape}
use Rattle.fields.specs.Refusals.{packed}
use Rattle.apdu.specs.Pdus.{lent}
use Rattle.codec.specs.Codec.{apdu_at}
use Rattle.editions.specs.declared.Edition.{Edition}
use Rattle.editions.specs.declared.Edition.TheVariants.{Plain, Protected}
use Rattle.pdus.specs.declared.PduType.{PduType}
use Rattle.pdus.specs.declared.PduType.TheVariants.{AircraftPdus, GroundPdus}
use Rattle.apdu.specs.declared.Apdu.{Apdu}
use Rattle.apdu.specs.declared.Apdu.TheVariants as apdu
use Rattle.fields.specs.declared.Refusal.{Refusal}
use Rattle.pdus.specs.declared.Span.{Span}

abbrev pub apdu_said : ℕ → ℕ → ℕ → ℕ
apdu_said tag number given = 256 * (tag + 256 * (number % 256 + 256 * given))

-- a start of type 2 may hold no message
abbrev pub start_given : Edition → Option Span → ℕ
start_given Protected x = 1
start_given Plain None = 0
start_given Plain (Some x) = 1

unfoldable pub apdu_number : Edition → Apdu → ℕ
apdu_number ed (apdu.AbortUser r) = apdu_said 0 r 0
apdu_number ed (apdu.AbortProvider r) = apdu_said 1 r 0
apdu_number ed (apdu.Start m d) = apdu_said 2 m (start_given ed d.message)
apdu_number ed (apdu.Send d) = apdu_said 3 0 1
apdu_number ed (apdu.Forward f) = apdu_said 4 0 0
apdu_number ed (apdu.ForwardResponse x) = apdu_said 5 x 0

unfoldable pub apdu_answer : Edition → Result Apdu Refusal → ℕ
apdu_answer ed (Ok a) = apdu_number ed a
apdu_answer ed (Err r) = packed r

abbrev pub apdu_in : Edition → PduType → List ℕ → ℕ
apdu_in ed t s = apdu_answer ed (apdu_at ed t (lent s))

-- SHAPE of the number that names the type, then the refusals of the APDU
unfoldable pub apdu_call : ℕ → List ℕ → ℕ
apdu_call which s =
    cond (eqb which 1) (apdu_in Protected AircraftPdus s) (cond (eqb which 2) (apdu_in Protected GroundPdus s)
    (cond (eqb which 3) (apdu_in Plain AircraftPdus s) (cond (eqb which 4) (apdu_in Plain GroundPdus s) shape)))
