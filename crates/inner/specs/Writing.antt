-- A message as pieces one after another, each a run of bits that is written whole (`Writing` of the elements).
use Rattle.std.specs.Prelude.{ℕ, List, [], ◌∷◌, ◌++◌, Bool, cond, take, drop}
use Rattle.kinds.specs.declared.Direction.{Direction}
use Rattle.elements.specs.declared.values.Element.{Element}
use Rattle.elements.specs.Writing.{Piece, whole, time_pieces, element_pieces}
use Rattle.inner.specs.declared.values.DateTime.{DateTime}
use Rattle.inner.specs.declared.values.Header.{Header}
use Rattle.inner.specs.declared.values.Message.{Message}
use Rattle.inner.specs.Headers.{presence}

unfoldable pub date_time_pieces : DateTime → List Piece
date_time_pieces x =
    whole 1996 2095 x.year ∷ whole 1 12 x.month ∷ whole 1 31 x.day ∷ (time_pieces x.time ++ (whole 0 59 x.seconds ∷ []))

unfoldable pub reference_pieces : Bool → ℕ → List Piece
reference_pieces present n = cond present (whole 0 63 n ∷ []) []

unfoldable pub acknowledgement_pieces : Bool → List Piece
acknowledgement_pieces present = cond present (whole 0 1 0 ∷ []) []

unfoldable pub header_pieces : Header → List Piece
header_pieces x =
    whole 0 3 (presence x.referenced x.acknowledged) ∷ whole 0 63 x.identification ∷
    (reference_pieces x.referenced x.reference ++ (date_time_pieces x.dated ++ acknowledgement_pieces x.acknowledged))

-- elements, with their characters t beside them
unfoldable pub row_pieces : Direction → List Element → List ℕ → List Piece
row_pieces d [] t = []
row_pieces d (e ∷ es) t = element_pieces d e (take e.characters t) ++ row_pieces d es (drop e.characters t)

unfoldable pub message_pieces : Direction → Message → List ℕ → List Piece
message_pieces d m t =
    header_pieces m.header ++ ((whole 0 1 0 ∷ whole 1 5 m.count ∷ []) ++ row_pieces d (take m.count m.places) t)
