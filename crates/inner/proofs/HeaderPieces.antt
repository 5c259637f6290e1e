-- The pieces of a header as the code writes them; their bits are the header's, and each of them fits where the header does.
-- Assumes nothing.
use mathlib.Core.Path.{◌≡◌, refl, ◌∙◌}
use mathlib.Core.Bool.{Bool, true, false}
use mathlib.Core.List.{List, [], ◌∷◌, ◌++◌}
use Prim.Native.Nat.{ℕ, ◌+◌, ◌*◌, ◌≤◌}
use native.Mathlib.Omega.{arith}
use Rattle.bits.specs.Put.{left}
use Rattle.elements.specs.Arguments.{flag}
use Rattle.elements.specs.Writing.{Piece, whole, put_pieces, time_pieces}
use Rattle.inner.specs.declared.values.DateTime.{DateTime}
use Rattle.inner.specs.declared.values.Header.{Header}
use Rattle.inner.specs.Headers.{presence}
use Rattle.inner.specs.Writing.{date_time_pieces, reference_pieces, acknowledgement_pieces, header_pieces}
use Rattle.inner.proofs.Runs.{run_turn, run_full}
use Rattle.std.specs.Prelude.{None, Option, Some}

-- ---- as the code writes them

module _ (x : DateTime) (s : List ℕ) (e at : ℕ) (t : List ℕ) (a : Option ℕ) (k : left a t ≡ put_pieces s e at (whole 1996 2095 x.year ∷ whole 1 12 x.month ∷ [])) where
  first : List Piece
  first = whole 1996 2095 x.year ∷ whole 1 12 x.month ∷ []

  second : List Piece
  second = whole 1 31 x.day ∷ whole 0 23 x.time.hours ∷ []

  third : List Piece
  third = whole 0 59 x.time.minutes ∷ whole 0 59 x.seconds ∷ []

  date_is : put_pieces s e at (first ++ (second ++ third)) ≡ put_pieces s e at (date_time_pieces x)
  unfolding date_time_pieces time_pieces first second third
  date_is = refl

  pub date_first : a ≡ None → left None t ≡ put_pieces s e at (date_time_pieces x)
  unfolding first
  date_first q = run_full s e at first (second ++ third) _ date_is t a k q

  module _ (p : ℕ) (q : a ≡ Some p) (u : List ℕ) (b : Option ℕ) (m : left b u ≡ put_pieces t e p (whole 1 31 x.day ∷ whole 0 23 x.time.hours ∷ [])) where
    after_first : put_pieces t e p (second ++ third) ≡ put_pieces s e at (date_time_pieces x)
    unfolding first
    after_first = run_turn s e at first (second ++ third) _ date_is t a k p q

    pub date_second : b ≡ None → left None u ≡ put_pieces s e at (date_time_pieces x)
    unfolding second
    date_second r = run_full t e p second third _ after_first u b m r

    pub date_third : (n : ℕ) → b ≡ Some n → (z : List ℕ) (c : Option ℕ)
        → left c z ≡ put_pieces u e n (whole 0 59 x.time.minutes ∷ whole 0 59 x.seconds ∷ [])
        → left c z ≡ put_pieces s e at (date_time_pieces x)
    unfolding second third
    date_third n r z c w = w ∙ run_turn t e p second third _ after_first u b m n r

module _ (x : Header) (s : List ℕ) (e at f g : ℕ) (hf : f ≡ flag x.referenced) (hg : g ≡ flag x.acknowledged) (t : List ℕ) (a : Option ℕ) (k : left a t ≡ put_pieces s e at (whole 0 3 (2 * f + g) ∷ whole 0 63 x.identification ∷ [])) where
  rest : List Piece
  rest = reference_pieces x.referenced x.reference ++ (date_time_pieces x.dated ++ acknowledgement_pieces x.acknowledged)

  header_is : put_pieces s e at
      ((whole 0 3 (presence x.referenced x.acknowledged) ∷ whole 0 63 x.identification ∷ []) ++ rest) ≡
      put_pieces s e at (header_pieces x)
  unfolding header_pieces rest
  header_is = refl

  lead : left a t ≡ put_pieces s e at (whole 0 3 (presence x.referenced x.acknowledged) ∷ whole 0 63 x.identification ∷ [])
  lead = rw (hf, hg) at k

  pub header_first : a ≡ None → left None t ≡ put_pieces s e at (header_pieces x)
  header_first q = run_full s e at
      (whole 0 3 (presence x.referenced x.acknowledged) ∷ whole 0 63 x.identification ∷ []) rest _ header_is t
      a lead q

  module _ (p : ℕ) (q : a ≡ Some p) (u : List ℕ) (b : Option ℕ) (m : left b u ≡ put_pieces t e p (reference_pieces x.referenced x.reference)) where
    after_lead : put_pieces t e p (reference_pieces x.referenced x.reference ++
        (date_time_pieces x.dated ++ acknowledgement_pieces x.acknowledged)) ≡ put_pieces s e at (header_pieces x)
    unfolding rest
    after_lead = run_turn s e at
        (whole 0 3 (presence x.referenced x.acknowledged) ∷ whole 0 63 x.identification ∷ []) rest _ header_is
        t a lead p q

    pub header_second : b ≡ None → left None u ≡ put_pieces s e at (header_pieces x)
    header_second r = run_full t e p (reference_pieces x.referenced x.reference) _ _ after_lead u b m r

    pub header_third : (n : ℕ) → b ≡ Some n → (z : List ℕ) (c : Option ℕ)
        → left c z ≡ put_pieces u e n (date_time_pieces x.dated ++ acknowledgement_pieces x.acknowledged)
        → left c z ≡ put_pieces s e at (header_pieces x)
    header_third n r z c w = w ∙ run_turn t e p (reference_pieces x.referenced x.reference) _ _ after_lead u b m n r

-- the numbers of the presence bits
pub flag_most : (b : Bool) (f : ℕ) → f ≡ flag b → f ≤ 1
flag_most true f h = omega arith
flag_most false f h = omega arith
