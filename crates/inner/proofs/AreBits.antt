-- The bits of a message are bits: each is 0 or 1.
-- Assumes nothing.
use mathlib.Core.Bool.{Bool, true, false, cond}
use mathlib.Core.List.{List, [], ◌∷◌, ◌++◌}
use Prim.Native.Nat.{ℕ, ◌-◌}
use native.Mathlib.Omega.{arith}
use lib.ListN.{length, take, drop}
use Rattle.bits.specs.Bits.{bits_n}
use Rattle.bits.proofs.Numbers.{Bits, bits_bits_n}
use Rattle.bits.proofs.Bytes.{bits_append}
use Rattle.fields.specs.Fields.{width_of}
use Rattle.fields.specs.Encodings.{whole_bits, index_bits}
use Rattle.kinds.specs.declared.Direction.{Direction}
use Rattle.kinds.specs.declared.ArgumentKind.{ArgumentKind}
use Rattle.kinds.specs.declared.ArgumentKind.TheVariants as kind
use Rattle.elements.specs.declared.values.LevelType.{LevelType}
use Rattle.elements.specs.declared.values.Level.{Level}
use Rattle.elements.specs.declared.values.Time.{Time}
use Rattle.elements.specs.declared.values.Element.{Element}
use Rattle.kinds.specs.Elements.{kind_of}
use Rattle.elements.specs.Arguments.{flag, lowest, highest, level_type_bits, level_bits, time_bits, digits_bits, characters_bits, sized_bits, facility_bits}
use Rattle.elements.specs.OneElement.{last_of, argument_bits, element_bits}
use Rattle.inner.specs.declared.values.DateTime.{DateTime}
use Rattle.inner.specs.declared.values.Header.{Header}
use Rattle.inner.specs.declared.values.Message.{Message}
use Rattle.inner.specs.Headers.{presence, date_time_bits, reference_bits, acknowledgement_bits, header_bits}
use Rattle.inner.specs.Places.{row_bits}
use Rattle.inner.specs.Messages.{message_bits, padding, padded}

none : Bits []
none k = omega arith

whole_bits_is : (lo hi v : ℕ) → Bits (whole_bits lo hi v)
unfolding whole_bits
whole_bits_is lo hi v = bits_bits_n (width_of (hi - lo)) (v - lo)

index_bits_is : (last i : ℕ) → Bits (index_bits last i)
unfolding index_bits
index_bits_is last i = bits_append (bits_n 1 0) (whole_bits 0 last i) (bits_bits_n 1 0) (whole_bits_is 0 last i)

-- ---- arguments

level_type_bits_is : (x : LevelType) → Bits (level_type_bits x)
unfolding level_type_bits
level_type_bits_is x = bits_append (whole_bits 0 3 x.unit) _ (whole_bits_is 0 3 x.unit)
    (whole_bits_is (lowest x.unit) (highest x.unit) x.number)

level_bits_is : (x : Level) → Bits (level_bits x)
unfolding level_bits
level_bits_is x = bits_append (whole_bits 0 1 (flag x.block) ++ level_type_bits x.first) _
    (bits_append (whole_bits 0 1 (flag x.block)) _ (whole_bits_is 0 1 (flag x.block)) (level_type_bits_is x.first))
    (second x.block)
  where
    second : (b : Bool) → Bits (cond b (level_type_bits x.second) [])
    second true = level_type_bits_is x.second
    second false = none

time_bits_is : (x : Time) → Bits (time_bits x)
unfolding time_bits
time_bits_is x = bits_append (whole_bits 0 23 x.hours) _ (whole_bits_is 0 23 x.hours) (whole_bits_is 0 59 x.minutes)

digits_bits_is : (ds : List ℕ) → Bits (digits_bits ds)
unfolding digits_bits
digits_bits_is [] = none
digits_bits_is (x ∷ ds) = bits_append (whole_bits 0 7 x) (digits_bits ds) (whole_bits_is 0 7 x) (digits_bits_is ds)

characters_bits_is : (cs : List ℕ) → Bits (characters_bits cs)
unfolding characters_bits
characters_bits_is [] = none
characters_bits_is (c ∷ cs) = bits_append (bits_n 7 c) (characters_bits cs) (bits_bits_n 7 c) (characters_bits_is cs)

sized_bits_is : (least most : ℕ) (t : List ℕ) → Bits (sized_bits least most t)
unfolding sized_bits
sized_bits_is least most t = bits_append (whole_bits least most (length t)) (characters_bits t)
    (whole_bits_is least most (length t)) (characters_bits_is t)

facility_bits_is : (t : List ℕ) → Bits (facility_bits t)
unfolding facility_bits
facility_bits_is [] = whole_bits_is 0 1 0
facility_bits_is (c ∷ cs) = bits_append (whole_bits 0 1 1) (sized_bits 4 8 (c ∷ cs)) (whole_bits_is 0 1 1) (sized_bits_is 4 8 (c ∷ cs))

argument_bits_is : (k : ArgumentKind) (e : Element) (t : List ℕ) → Bits (argument_bits k e t)
unfolding argument_bits
argument_bits_is kind.NotCarried e t = none
argument_bits_is kind.None e t = none
argument_bits_is kind.Level e t = level_bits_is e.level
argument_bits_is kind.TwoLevels e t = bits_append (level_bits e.level) (level_bits e.other) (level_bits_is e.level) (level_bits_is e.other)
argument_bits_is kind.Time e t = time_bits_is e.time
argument_bits_is kind.Code e t = digits_bits_is e.code
argument_bits_is kind.FreeText e t = sized_bits_is 1 256 t
argument_bits_is kind.Facility e t = facility_bits_is t
argument_bits_is kind.FacilityDesignation e t = sized_bits_is 4 8 t
argument_bits_is kind.AtisCode e t = characters_bits_is t

-- ---- a message

row_bits_is : (d : Direction) (es : List Element) (t : List ℕ) → Bits (row_bits d es t)
unfolding row_bits element_bits
row_bits_is d [] t = none
row_bits_is d (e ∷ es) t =
    bits_append (index_bits (last_of d) e.number ++ argument_bits (kind_of d e.number) e (take e.characters t))
    (row_bits d es (drop e.characters t))
    (bits_append (index_bits (last_of d) e.number) _ (index_bits_is (last_of d) e.number)
    (argument_bits_is (kind_of d e.number) e (take e.characters t)))
    (row_bits_is d es (drop e.characters t))

pub date_time_are_bits : (x : DateTime) → Bits (date_time_bits x)
unfolding date_time_bits
date_time_are_bits x =
    bits_append (whole_bits 1996 2095 x.year ++ whole_bits 1 12 x.month ++ whole_bits 1 31 x.day ++ time_bits x.time) _
    (bits_append (whole_bits 1996 2095 x.year ++ whole_bits 1 12 x.month ++ whole_bits 1 31 x.day) _
    (bits_append (whole_bits 1996 2095 x.year ++ whole_bits 1 12 x.month) _
    (bits_append (whole_bits 1996 2095 x.year) _ (whole_bits_is 1996 2095 x.year) (whole_bits_is 1 12 x.month))
    (whole_bits_is 1 31 x.day))
    (time_bits_is x.time))
    (whole_bits_is 0 59 x.seconds)

reference_bits_is : (b : Bool) (n : ℕ) → Bits (reference_bits b n)
unfolding reference_bits
reference_bits_is true n = whole_bits_is 0 63 n
reference_bits_is false n = none

acknowledgement_bits_is : (b : Bool) → Bits (acknowledgement_bits b)
unfolding acknowledgement_bits
acknowledgement_bits_is true = whole_bits_is 0 1 0
acknowledgement_bits_is false = none

pub header_are_bits : (x : Header) → Bits (header_bits x)
unfolding header_bits
header_are_bits x =
    let p : List ℕ = whole_bits 0 3 (presence x.referenced x.acknowledged) in
    let i : List ℕ = whole_bits 0 63 x.identification in
    let r : List ℕ = reference_bits x.referenced x.reference in
    bits_append (p ++ i ++ r ++ date_time_bits x.dated) _
    (bits_append (p ++ i ++ r) _ (bits_append (p ++ i) r (bits_append p i
    (whole_bits_is 0 3 (presence x.referenced x.acknowledged)) (whole_bits_is 0 63 x.identification))
    (reference_bits_is x.referenced x.reference)) (date_time_are_bits x.dated))
    (acknowledgement_bits_is x.acknowledged)

pub message_are_bits : (d : Direction) (m : Message) (t : List ℕ) → Bits (message_bits d m t)
unfolding message_bits
message_are_bits d m t =
    bits_append (header_bits m.header ++ whole_bits 0 1 0 ++ whole_bits 1 5 m.count) _
    (bits_append (header_bits m.header ++ whole_bits 0 1 0) _
    (bits_append (header_bits m.header) _ (header_are_bits m.header) (whole_bits_is 0 1 0))
    (whole_bits_is 1 5 m.count))
    (row_bits_is d (take m.count m.places) t)

pub padded_are_bits : (l : List ℕ) → Bits l → Bits (padded l)
unfolding padded
padded_are_bits l h = bits_append l (bits_n (padding (length l)) 0) h (bits_bits_n (padding (length l)) 0)
