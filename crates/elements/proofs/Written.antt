-- The pieces that are written are the bits of the value, and each of them fits where the value does.
-- Assumes nothing.
use mathlib.Core.Path.{◌≡◌, refl}
use mathlib.Core.Bool.{Bool, true, false, cond}
use mathlib.Core.List.{List, [], ◌∷◌, ◌++◌, append_assoc, append-nil}
use Prim.Native.Nat.{ℕ, suc, ◌-◌}
use native.Mathlib.Omega.{arith}
use lib.ListN.{length}
use borrow.Author.Tests.{ne_eqb}
use Rattle.bits.specs.Bits.{bits_n}
use Rattle.fields.specs.Fields.{digits_in}
use Rattle.fields.specs.Encodings.{whole_bits}
use Rattle.kinds.specs.declared.Direction.{Direction}
use Rattle.kinds.specs.declared.ArgumentKind.{ArgumentKind}
use Rattle.kinds.specs.declared.ArgumentKind.TheVariants as kind
use Rattle.elements.specs.declared.values.LevelType.{LevelType}
use Rattle.elements.specs.declared.values.Level.{Level}
use Rattle.elements.specs.declared.values.Time.{Time}
use Rattle.elements.specs.declared.values.Element.{Element}
use Rattle.elements.specs.Arguments.{flag, level_type_bits, level_bits, time_bits, digits_bits, characters_bits, sized_bits, facility_bits}
use Rattle.elements.specs.OneElement.{argument_bits, element_bits}
use Rattle.elements.specs.Writing.{Piece, pieces_bits, level_type_pieces, level_pieces, time_pieces, number_pieces, sized_pieces, facility_pieces, argument_pieces, element_pieces}

pub bits_append : (xs ys : List Piece) → pieces_bits (xs ++ ys) ≡ pieces_bits xs ++ pieces_bits ys
unfolding pieces_bits
bits_append [] ys = refl
bits_append (x ∷ xs) ys = rw (bits_append xs ys, append_assoc)

no_bits : pieces_bits [] ≡ []
unfolding pieces_bits
no_bits = refl

one_bits : (x : Piece) → pieces_bits (x ∷ []) ≡ x.bits
unfolding pieces_bits
one_bits x = append-nil x.bits

pub level_type_bits_is : (x : LevelType) → pieces_bits (level_type_pieces x) ≡ level_type_bits x
unfolding level_type_pieces level_type_bits pieces_bits
level_type_bits_is x = rw append-nil

pub level_bits_is : (x : Level) → pieces_bits (level_pieces x) ≡ level_bits x
unfolding level_pieces level_bits
level_bits_is x = rw (bits_append, bits_append, one_bits, level_type_bits_is) (second x.block)
  where
    second : (b : Bool)
        → whole_bits 0 1 (flag b) ++ level_type_bits x.first ++ pieces_bits (cond b (level_type_pieces x.second) []) ≡ whole_bits 0 1 (flag b) ++ level_type_bits x.first ++ cond b (level_type_bits x.second) []
    second true = rw level_type_bits_is
    second false = rw no_bits

pub time_bits_is : (x : Time) → pieces_bits (time_pieces x) ≡ time_bits x
unfolding time_pieces time_bits pieces_bits
time_bits_is x = rw append-nil

pub code_bits : (ds : List ℕ) → pieces_bits (number_pieces 7 ds) ≡ digits_bits ds
unfolding number_pieces digits_bits pieces_bits
code_bits [] = refl
code_bits (d ∷ ds) = rw (code_bits ds)

character : (c : ℕ) → whole_bits 0 127 c ≡ bits_n 7 c
unfolding whole_bits digits_in
character c = let e : c - 0 ≡ c = omega arith in rw e

pub characters_bits_is : (cs : List ℕ) → pieces_bits (number_pieces 127 cs) ≡ characters_bits cs
unfolding number_pieces characters_bits pieces_bits
characters_bits_is [] = refl
characters_bits_is (c ∷ cs) = rw (character c, characters_bits_is cs)

pub sized_bits_is : (least most : ℕ) (t : List ℕ) → pieces_bits (sized_pieces least most t) ≡ sized_bits least most t
unfolding sized_pieces sized_bits
sized_bits_is least most t = rw (bits_append, one_bits, characters_bits_is)

pub facility_bits_is : (t : List ℕ) → pieces_bits (facility_pieces t) ≡ facility_bits t
unfolding facility_pieces facility_bits
facility_bits_is [] = rw one_bits
facility_bits_is (c ∷ cs) = rw (ne_eqb (suc (length cs)) 0 (λ (z : suc (length cs) ≡ 0). omega arith), bits_append, one_bits, sized_bits_is)

-- the bits that the pieces of an argument make are the argument's
pub argument_bits_is : (k : ArgumentKind) (e : Element) (t : List ℕ) → pieces_bits (argument_pieces k e t) ≡ argument_bits k e t
unfolding argument_pieces argument_bits
argument_bits_is kind.NotCarried e t = one_bits (record { fits = false; bits = [] })
argument_bits_is kind.None e t = no_bits
argument_bits_is kind.Level e t = level_bits_is e.level
argument_bits_is kind.TwoLevels e t = rw (bits_append, level_bits_is e.level, level_bits_is e.other)
argument_bits_is kind.Time e t = time_bits_is e.time
argument_bits_is kind.Code e t = code_bits e.code
argument_bits_is kind.FreeText e t = sized_bits_is 1 256 t
argument_bits_is kind.Facility e t = facility_bits_is t
argument_bits_is kind.FacilityDesignation e t = sized_bits_is 4 8 t
argument_bits_is kind.AtisCode e t = characters_bits_is t

-- and those of an element the element's
pub element_bits_is : (d : Direction) (e : Element) (t : List ℕ) → pieces_bits (element_pieces d e t) ≡ element_bits d e t
unfolding element_pieces element_bits
element_bits_is d e t = rw (bits_append, one_bits, argument_bits_is)
