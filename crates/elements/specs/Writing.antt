-- Writing: pieces one after another, each a run of bits that is written whole, or not where its value is none of its type.
-- A piece that does not fit ends the writing; what was written before it stands. So a message is measured before its first bit is written.
use Rattle.std.specs.Prelude.{ℕ, ◌^◌, ◌≤◌, ◌<◌, ◌≡◌, List, [], ◌∷◌, ◌++◌, Bool, true, false, cond, ◌&&◌, length, eqb, None, Option, Some}
use Rattle.bits.specs.Bits.{bits_n}
use Rattle.bits.specs.Put.{Left, left, put_if}
use Rattle.fields.specs.Encodings.{index_bits, whole_bits, whole_fits}
use Rattle.elements.specs.declared.values.LevelType.{LevelType}
use Rattle.elements.specs.declared.values.Level.{Level}
use Rattle.elements.specs.declared.values.Time.{Time}
use Rattle.elements.specs.declared.values.Element.{Element}
use Rattle.kinds.specs.declared.Direction.{Direction}
use Rattle.kinds.specs.declared.ArgumentKind.{ArgumentKind}
use Rattle.kinds.specs.declared.ArgumentKind.TheVariants as kind
use Rattle.kinds.specs.Elements.{kind_of}
use Rattle.elements.specs.Arguments.{flag, lowest, highest}
use Rattle.elements.specs.OneElement.{last_of}

pub record Piece : Type 0 where
  pub fits : Bool
  pub bits : List ℕ

abbrev pub whole : ℕ → ℕ → ℕ → Piece
whole lo hi v = record { fits = whole_fits lo hi v; bits = whole_bits lo hi v }

abbrev pub on_put : Option ℕ → List ℕ → (List ℕ → ℕ → Left) → Left
on_put (Some p) s k = k s p
on_put None s k = left None s

unfoldable pub put_pieces : List ℕ → ℕ → ℕ → List Piece → Left
put_pieces s e at [] = left (Some at) s
put_pieces s e at (x ∷ xs) =
    on_put (put_if x.fits s e at x.bits).answer (put_if x.fits s e at x.bits).bytes (λ (t : List ℕ) (p : ℕ). put_pieces t e p xs)

-- all of them are of their types; their bits
unfoldable pub pieces_fit : List Piece → Bool
pieces_fit [] = true
pieces_fit (x ∷ xs) = x.fits && pieces_fit xs

unfoldable pub pieces_bits : List Piece → List ℕ
pieces_bits [] = []
pieces_bits (x ∷ xs) = x.bits ++ pieces_bits xs

-- pieces of their types whose bits are the number v in n bits
pub record OneNumber (xs : List Piece) (n v : ℕ) : Type 0 where
  pub all_fit : pieces_fit xs ≡ true
  pub said : pieces_bits xs ≡ bits_n n v
  pub small : v < 2 ^ n
  pub few : n ≤ 18

-- ---- the arguments

unfoldable pub level_type_pieces : LevelType → List Piece
level_type_pieces x = whole 0 3 x.unit ∷ whole (lowest x.unit) (highest x.unit) x.number ∷ []

abbrev pub choice_piece : Bool → List Piece
choice_piece second = whole 0 1 (flag second) ∷ []

unfoldable pub level_pieces : Level → List Piece
level_pieces x =
    choice_piece x.block ++ level_type_pieces x.first ++ cond x.block (level_type_pieces x.second) []

unfoldable pub time_pieces : Time → List Piece
time_pieces x = whole 0 23 x.hours ∷ whole 0 59 x.minutes ∷ []

-- numbers from 0 to hi, one after another: the digits of a code (7), characters (127)
unfoldable pub number_pieces : ℕ → List ℕ → List Piece
number_pieces hi [] = []
number_pieces hi (x ∷ xs) = whole 0 hi x ∷ number_pieces hi xs

unfoldable pub sized_pieces : ℕ → ℕ → List ℕ → List Piece
sized_pieces least most t = (whole least most (length t) ∷ []) ++ number_pieces 127 t

unfoldable pub facility_pieces : List ℕ → List Piece
facility_pieces t = cond (eqb (length t) 0) (choice_piece false) (choice_piece true ++ sized_pieces 4 8 t)

-- the argument of an element whose characters are t; an element that is not carried is not written
unfoldable pub argument_pieces : ArgumentKind → Element → List ℕ → List Piece
argument_pieces kind.NotCarried e t = record { fits = false; bits = [] } ∷ []
argument_pieces kind.None e t = []
argument_pieces kind.Level e t = level_pieces e.level
argument_pieces kind.TwoLevels e t = level_pieces e.level ++ level_pieces e.other
argument_pieces kind.Time e t = time_pieces e.time
argument_pieces kind.Code e t = number_pieces 7 e.code
argument_pieces kind.FreeText e t = sized_pieces 1 256 t
argument_pieces kind.Facility e t = facility_pieces t
argument_pieces kind.FacilityDesignation e t = sized_pieces 4 8 t
argument_pieces kind.AtisCode e t = number_pieces 127 t

-- ---- an element: the index of an extensible CHOICE, and the argument of its kind

abbrev pub index_piece : ℕ → ℕ → Piece
index_piece last i = record { fits = whole_fits 0 last i; bits = index_bits last i }

abbrev pub element_pieces_as : Direction → ArgumentKind → Element → List ℕ → List Piece
element_pieces_as d k e t = (index_piece (last_of d) e.number ∷ []) ++ argument_pieces k e t

unfoldable pub element_pieces : Direction → Element → List ℕ → List Piece
element_pieces d e t = element_pieces_as d (kind_of d e.number) e t
