-- Elements one after another, and the five places that they are laid into.
use Rattle.std.specs.Prelude.{ℕ, zero, suc, ◌-◌, List, [], ◌∷◌, ◌++◌, Bool, ◌&&◌, length, take, drop, replicate, Ok}
use Rattle.fields.specs.Fields.{Reading, onto, then}
use Rattle.fields.specs.declared.Refusal.{Refusal}
use Rattle.kinds.specs.declared.Direction.{Direction}
use Rattle.elements.specs.declared.values.Element.{Element}
use Rattle.elements.specs.OneElement.{bare, element_at, element_fits, element_bits, no_text_of, text_of}

abbrev pub no_text : Refusal → List ℕ
no_text r = []

-- n elements, and the place after them
unfoldable pub row_at : Direction → List ℕ → ℕ → ℕ → Reading (List Element)
row_at d l at zero = Ok ([], at)
row_at d l at (suc n) =
    then (element_at d l at)
    (λ (e : Element) (next : ℕ). then (row_at d l next n) (λ (es : List Element) (last : ℕ). Ok (e ∷ es, last)))

-- their characters; a refusal has none
unfoldable pub text_at : Direction → List ℕ → ℕ → ℕ → List ℕ
text_at d l at zero = []
text_at d l at (suc n) =
    onto no_text (element_at d l at) (λ (e : Element) (next : ℕ). text_of l e next ++ text_at d l next n)

-- the characters t of elements are those of the first, then those of the others
unfoldable pub row_fits : Direction → List Element → List ℕ → Bool
row_fits d [] t = no_text_of t
row_fits d (e ∷ es) t = element_fits d e (take e.characters t) && row_fits d es (drop e.characters t)

unfoldable pub row_bits : Direction → List Element → List ℕ → List ℕ
row_bits d [] t = []
row_bits d (e ∷ es) t = element_bits d e (take e.characters t) ++ row_bits d es (drop e.characters t)

-- ---- five places, filled in order

abbrev pub laid : Reading (List Element) → Reading (List Element)
laid f = then f (λ (es : List Element) (next : ℕ). Ok (es ++ replicate (5 - length es) (bare 0), next))
