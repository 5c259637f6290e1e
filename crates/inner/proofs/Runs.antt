-- Pieces as straight code writes them: what is still to be written leaves what all of them leave.
-- Assumes nothing.
use mathlib.Core.Path.{◌≡◌, sym, ◌∙◌}
use mathlib.Core.Bool.{Bool, true, false, cond, not}
use mathlib.Core.List.{List, [], ◌∷◌, ◌++◌}
use Prim.Native.Nat.{ℕ}
use Rattle.bits.specs.Put.{Left, left, put_if}
use Rattle.elements.specs.Writing.{Piece, put_pieces}
use Rattle.elements.proofs.Pieces.{pieces_nil, pieces_cons, pieces_append, one_piece}
use Rattle.elements.proofs.Steps.{never}
use Rattle.std.specs.Prelude.{None, Option, Some}

-- the first piece
module _ (s : List ℕ) (e at : ℕ) (x : Piece) (xs : List Piece) (z : Left) (inv : put_pieces s e at (x ∷ xs) ≡ z) (t : List ℕ) (a : Option ℕ) (k : left a t ≡ put_if x.fits s e at x.bits) where
  pub piece_turn : (p : ℕ) → a ≡ Some p → put_pieces t e p xs ≡ z
  piece_turn p r = rw (pieces_cons, ← k, r) at inv

  pub piece_full : a ≡ None → left None t ≡ z
  piece_full r = rw (pieces_cons, ← k, r) at inv

-- the last piece
pub piece_last : (s : List ℕ) (e at : ℕ) (x : Piece) (z : Left) → put_pieces s e at (x ∷ []) ≡ z → (t : List ℕ) (a : Option ℕ)
    → left a t ≡ put_if x.fits s e at x.bits → left a t ≡ z
piece_last s e at x z inv t a k = one_piece s t e at a x k ∙ inv

-- pieces of a part, before those that follow
module _ (s : List ℕ) (e at : ℕ) (xs ys : List Piece) (z : Left) (inv : put_pieces s e at (xs ++ ys) ≡ z) (t : List ℕ) (a : Option ℕ) (k : left a t ≡ put_pieces s e at xs) where
  pub run_turn : (p : ℕ) → a ≡ Some p → put_pieces t e p ys ≡ z
  run_turn p r = rw (pieces_append, ← k, r) at inv

  pub run_full : a ≡ None → left None t ≡ z
  run_full r = rw (pieces_append, ← k, r) at inv

-- a piece that may be absent
pub piece_there : (s z : List ℕ) (e at : ℕ) (b : Bool) (x : Piece) (a : Option ℕ) → b ≡ true
    → left a z ≡ put_if x.fits s e at x.bits → left a z ≡ put_pieces s e at (cond b (x ∷ []) [])
piece_there s z e at b x a h k = rw h (one_piece s z e at a x k)

pub piece_absent : (s : List ℕ) (e at : ℕ) (b : Bool) (x : Piece) → b ≡ false → left (Some at) s ≡ put_pieces s e at (cond b (x ∷ []) [])
piece_absent s e at b x h = rw h (sym (pieces_nil s e at))

-- a test that a function answered, taken by its negation
pub no : (r b : Bool) → r ≡ b → not r ≡ true → b ≡ false
no true b p q = never (cc)
no false b p q = sym p

pub yes : (r b : Bool) → r ≡ b → not r ≡ false → b ≡ true
yes true b p q = sym p
yes false b p q = never (cc)
