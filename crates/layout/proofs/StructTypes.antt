-- What the types of the struct say of a message: bytes, numbers of two bytes, four digits and five places. And which messages have bytes.
-- Assumes nothing.
use Prim.Native.Nat.{ℕ, ◌<◌}
use mathlib.Core.Path.{◌≡◌}
use mathlib.Core.Bool.{Bool, true, ◌&&◌}
use mathlib.Core.List.{List, [], ◌∷◌}
use lib.Dec.{ltb}
use lib.ListN.{length, get_or}
use Rattle.elements.specs.declared.values.Level.{Level}
use Rattle.elements.specs.declared.values.Element.{Element}
use Rattle.inner.specs.declared.values.Message.{Message}

pub record LevelTyped (x : Level) : Type 0 where
  pub unit : x.first.unit < 256
  pub number : x.first.number < 65536
  pub second_unit : x.second.unit < 256
  pub second_number : x.second.number < 65536

pub record ElementTyped (e : Element) : Type 0 where
  pub number : e.number < 256
  pub level : LevelTyped e.level
  pub other : LevelTyped e.other
  pub hours : e.time.hours < 256
  pub minutes : e.time.minutes < 256
  pub digits : length e.code ≡ 4
  pub digit : (k : ℕ) → get_or e.code k 0 < 256

pub data ElementsTyped : List Element → Type 0 where
  none : ElementsTyped []
  more : (e : Element) (es : List Element) → ElementTyped e → ElementsTyped es → ElementsTyped (e ∷ es)

pub record Typed (m : Message) : Type 0 where
  pub identification : m.header.identification < 256
  pub reference : m.header.reference < 256
  pub year : m.header.dated.year < 65536
  pub month : m.header.dated.month < 256
  pub day : m.header.dated.day < 256
  pub hours : m.header.dated.time.hours < 256
  pub minutes : m.header.dated.time.minutes < 256
  pub seconds : m.header.dated.seconds < 256
  pub five : length m.places ≡ 5
  pub elements : ElementsTyped m.places

-- ---- those whose numbers fit into their bytes

unfoldable pub places_fit : List Element → Bool
places_fit [] = true
places_fit (e ∷ es) = ltb e.characters 65536 && places_fit es

unfoldable pub bytes_fit : Message → Bool
bytes_fit m = ltb m.count 256 && places_fit m.places
