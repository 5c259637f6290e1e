-- The header of a message: ATCMessageHeader, DateTimeGroup (Doc 9705 2.3.4.3).
use Rattle.std.specs.Prelude.{ℕ, ◌+◌, ◌*◌, ◌%◌, List, [], ◌++◌, Bool, true, false, cond, ◌&&◌, eqb, leb, Ok}
use Rattle.fields.specs.Fields.{Reading, then, refused_at, whole_number}
use Rattle.fields.specs.Encodings.{whole_bits, whole_fits}
use Rattle.fields.specs.declared.Fault.TheVariants as fault
use Rattle.elements.specs.declared.values.Time.{Time}
use Rattle.inner.specs.declared.values.DateTime.{DateTime}
use Rattle.inner.specs.declared.values.Header.{Header}
use Rattle.elements.specs.Arguments.{flag, time_fits, time_bits, time_at}

-- ---- DateTimeGroup: Year (1996..2095), Month (1..12), Day (1..31), Time, TimeSeconds (0..59). Whether the month has that day is not asked.

unfoldable pub date_time_fits : DateTime → Bool
date_time_fits x =
    whole_fits 1996 2095 x.year && whole_fits 1 12 x.month && whole_fits 1 31 x.day && time_fits x.time && whole_fits 0 59 x.seconds

unfoldable pub date_time_bits : DateTime → List ℕ
date_time_bits x =
    whole_bits 1996 2095 x.year ++ whole_bits 1 12 x.month ++ whole_bits 1 31 x.day ++ time_bits x.time ++ whole_bits 0 59 x.seconds

unfoldable pub time_of_day_at : List ℕ → ℕ → ℕ → ℕ → ℕ → Reading DateTime
time_of_day_at l year month day at =
    then (time_at l at)
    (λ (t : Time) (p : ℕ). then (whole_number l p 0 59)
    (λ (s next : ℕ). Ok (record { year = year; month = month; day = day; time = t; seconds = s }, next)))

unfoldable pub date_time_at : List ℕ → ℕ → Reading DateTime
date_time_at l at =
    then (whole_number l at 1996 2095)
    (λ (y p : ℕ). then (whole_number l p 1 12)
    (λ (m q : ℕ). then (whole_number l q 1 31) (λ (d r : ℕ). time_of_day_at l y m d r)))

-- ---- ATCMessageHeader: the presence bits of the reference and of the acknowledgement, the identification number (0..63), the reference number
-- (0..63) where there is one, date and time, and the acknowledgement where it is present. Its default is notRequired (1), so that present
-- it must be required (0).

abbrev pub presence : Bool → Bool → ℕ
presence reference acknowledgement = 2 * flag reference + flag acknowledgement

unfoldable pub reference_fits : Bool → ℕ → Bool
reference_fits present n = cond present (whole_fits 0 63 n) (eqb n 0)

unfoldable pub reference_bits : Bool → ℕ → List ℕ
reference_bits present n = cond present (whole_bits 0 63 n) []

unfoldable pub reference_at : List ℕ → ℕ → Bool → Reading ℕ
reference_at l at present = cond present (whole_number l at 0 63) (Ok (0, at))

unfoldable pub acknowledgement_bits : Bool → List ℕ
acknowledgement_bits present = cond present (whole_bits 0 1 0) []

unfoldable pub acknowledgement_at : List ℕ → ℕ → Bool → Reading ℕ
acknowledgement_at l at present =
    cond present
    (then (whole_number l at 0 1) (λ (v next : ℕ). cond (eqb v 0) (Ok (0, next)) (refused_at at fault.Default)))
    (Ok (0, at))

unfoldable pub header_fits : Header → Bool
header_fits x = whole_fits 0 63 x.identification && reference_fits x.referenced x.reference && date_time_fits x.dated

unfoldable pub header_bits : Header → List ℕ
header_bits x =
    whole_bits 0 3 (presence x.referenced x.acknowledged) ++ whole_bits 0 63 x.identification ++ reference_bits x.referenced x.reference
    ++ date_time_bits x.dated ++ acknowledgement_bits x.acknowledged

abbrev pub header_of : ℕ → Bool → ℕ → DateTime → Bool → Header
header_of i r n x a = record { identification = i; referenced = r; reference = n; dated = x; acknowledged = a }

-- what follows the reference
unfoldable pub dated_at : List ℕ → ℕ → Bool → ℕ → Bool → ℕ → Reading Header
dated_at l i r n a at =
    then (date_time_at l at)
    (λ (x : DateTime) (p : ℕ). then (acknowledgement_at l p a) (λ (z next : ℕ). Ok (header_of i r n x a, next)))

unfoldable pub header_at : List ℕ → ℕ → Reading Header
header_at l at =
    then (whole_number l at 0 3)
    (λ (b p : ℕ). then (whole_number l p 0 63)
    (λ (i q : ℕ). then (reference_at l q (leb 2 b)) (λ (n r : ℕ). dated_at l i (leb 2 b) n (eqb (b % 2) 1) r)))
