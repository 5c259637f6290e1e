-- An inner message as the host keeps it, in 132 bytes. Of a number in two bytes the more significant one is first.
--
--   byte      of the front
--   0         identification number
--   1         1: there is a reference number; 0: there is none
--   2         reference number
--   3 4       year
--   5 6       month, day
--   7 8 9     hours, minutes, seconds
--   10        1: a logical acknowledgement is required; 0: it is not
--   11        how many places are used, from the first on
--
--   Five places follow, at the bytes 12, 36, 60, 84 and 108.
--   byte      of a place
--   0         element number
--   1 2       how many characters of the text are its own
--   3         level. 1: a block; 0: one level
--   4         unit of the level, or of the first of a block (0 feet, 1 metres, 2 flight level, 3 metric flight level)
--   5 6       its number
--   7         unit of the second of a block
--   8 9       its number
--   10 to 16  the other level of two, likewise
--   17 18     hours, minutes
--   19 to 22  the four digits of a code
--   23        zero
--
-- The characters of all elements stand in a text beside the message, one element's after another's. A number may be any that its bytes
-- hold:
-- whether it is one of its type, and whether what is not used is zero, the writer asks.
use Rattle.std.specs.Prelude.{ℕ, zero, suc, ◌+◌, ◌*◌, ◌/◌, ◌%◌, ◌<◌, ◌≡◌, Bool, true, false, cond, ◌&&◌, List, [], ◌∷◌, ◌++◌, ltb, eqb, length, get_or, take, drop, None, Option, Some}
use Rattle.kinds.specs.Elements.{kind_of}
use Rattle.kinds.specs.declared.ArgumentKind.{ArgumentKind}
use Rattle.kinds.specs.declared.ArgumentKind.TheVariants.{NotCarried}
use Rattle.kinds.specs.declared.Direction.{Direction}
use Rattle.elements.specs.Arguments.{flag}
use Rattle.elements.specs.declared.values.Level.{Level}
use Rattle.elements.specs.declared.values.Element.{Element}
use Rattle.inner.specs.declared.values.Header.{Header}
use Rattle.inner.specs.declared.values.Message.{Message}

-- the bytes of the front, of a place, and of all
abbrev pub front_size : ℕ
front_size = 12

abbrev pub place_size : ℕ
place_size = 24

abbrev pub size : ℕ
size = 132

-- ---- the bytes of a message

-- a number in two bytes, if it is below 65,536
abbrev pub two_bytes : ℕ → List ℕ
two_bytes n = n / 256 % 256 ∷ n % 256 ∷ []

unfoldable pub front_bytes : Header → ℕ → List ℕ
front_bytes h n =
    h.identification ∷ flag h.referenced ∷ h.reference ∷ []
    ++ two_bytes h.dated.year
    ++ (h.dated.month ∷ h.dated.day ∷ h.dated.time.hours ∷ h.dated.time.minutes ∷ h.dated.seconds ∷ flag h.acknowledged ∷ n ∷ [])

abbrev pub level_bytes : Level → List ℕ
level_bytes x =
    flag x.block ∷ x.first.unit ∷ [] ++ two_bytes x.first.number ++ (x.second.unit ∷ []) ++ two_bytes x.second.number

unfoldable pub place_bytes : Element → List ℕ
place_bytes e =
    e.number ∷ [] ++ two_bytes e.characters ++ level_bytes e.level ++ level_bytes e.other
    ++ (e.time.hours ∷ e.time.minutes ∷ get_or e.code 0 0 ∷ get_or e.code 1 0 ∷ get_or e.code 2 0 ∷ get_or e.code 3 0 ∷ 0 ∷ [])

unfoldable pub places_bytes : List Element → List ℕ
places_bytes [] = []
places_bytes (e ∷ es) = place_bytes e ++ places_bytes es

unfoldable pub message_bytes : Message → List ℕ
message_bytes m = front_bytes m.header m.count ++ places_bytes m.places

-- ---- the message of bytes

abbrev pub of_two : ℕ → ℕ → ℕ
of_two high low = high * 256 + low

unfoldable pub header_of : List ℕ → Header
header_of b =
    record {
      identification = get_or b 0 0;
      referenced = eqb (get_or b 1 0) 1;
      reference = get_or b 2 0;
      dated =
          record {
            year = of_two (get_or b 3 0) (get_or b 4 0);
            month = get_or b 5 0;
            day = get_or b 6 0;
            time = record { hours = get_or b 7 0; minutes = get_or b 8 0 };
            seconds = get_or b 9 0;
          };
      acknowledged = eqb (get_or b 10 0) 1;
    }

-- seven bytes from one on
unfoldable pub level_of : List ℕ → ℕ → Level
level_of p at =
    record {
      block = eqb (get_or p at 0) 1;
      first = record { unit = get_or p (at + 1) 0; number = of_two (get_or p (at + 2) 0) (get_or p (at + 3) 0) };
      second = record { unit = get_or p (at + 4) 0; number = of_two (get_or p (at + 5) 0) (get_or p (at + 6) 0) };
    }

unfoldable pub element_of : List ℕ → Element
element_of p =
    record {
      number = get_or p 0 0;
      level = level_of p 3;
      other = level_of p 10;
      time = record { hours = get_or p 17 0; minutes = get_or p 18 0 };
      code = get_or p 19 0 ∷ get_or p 20 0 ∷ get_or p 21 0 ∷ get_or p 22 0 ∷ [];
      characters = of_two (get_or p 1 0) (get_or p 2 0);
    }

unfoldable pub elements_of : ℕ → List ℕ → List Element
elements_of zero b = []
elements_of (suc n) b = element_of (take place_size b) ∷ elements_of n (drop place_size b)

-- ks has the kinds of the arguments in the first n places, of five
pub record KindsOf (d : Direction) (b : List ℕ) (n : ℕ) (ks : List ArgumentKind) : Type 0 where
  pub five : length ks ≡ 5
  pub each : (i : ℕ) → i < n → i < 5 → get_or ks i NotCarried ≡ kind_of d (get_or b (front_size + place_size * i) 0)

unfoldable pub message_of : List ℕ → Message
message_of b = record { header = header_of b; count = get_or b 11 0; places = elements_of 5 (drop front_size b) }

-- ---- which bytes are a message: those whose flags are 0 or 1, and whose spare bytes are zero

abbrev pub is_flag : ℕ → Bool
is_flag x = ltb x 2

unfoldable pub front_stands : List ℕ → Bool
front_stands b = is_flag (get_or b 1 0) && is_flag (get_or b 10 0)

unfoldable pub place_stands : List ℕ → Bool
place_stands p = is_flag (get_or p 3 0) && is_flag (get_or p 10 0) && eqb (get_or p 23 0) 0

unfoldable pub places_stand : ℕ → List ℕ → Bool
places_stand zero b = true
places_stand (suc n) b = place_stands (take place_size b) && places_stand n (drop place_size b)

-- a message's size, its front, and its places
unfoldable pub message_stands : List ℕ → Bool
message_stands b = eqb (length b) size && front_stands b && places_stand 5 (drop front_size b)

unfoldable pub load_at : List ℕ → Option Message
load_at b = cond (message_stands b) (Some (message_of b)) None
