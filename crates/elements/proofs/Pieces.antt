-- Pieces one after another: as the code writes them, and what they leave.
-- Assumes nothing.
use mathlib.Core.Path.{◌≡◌, refl, sym, ◌∙◌}
use mathlib.Core.Bool.{Bool, true, false}
use mathlib.Core.List.{List, [], ◌∷◌, ◌++◌}
use Prim.Native.Nat.{ℕ, zero, suc, ◌+◌, ◌<◌, ◌≤◌}
use native.Mathlib.Numerals.{add-one}
use native.Mathlib.Omega.{arith}
use native.Mathlib.Nat.{add-zero}
use lib.ListN.{length, get_or, drop, length-append}
use lib.Seq.{drop-cons}
use Rattle.words.proofs.Laws.{both_left, both_right}
use Rattle.bits.specs.Bits.{bits_to}
use Rattle.bits.specs.Put.{Left, left, put_if, put_run, put_bits}
use Rattle.bits.proofs.Bytes.{length_to}
use Rattle.bits.proofs.Putting.{put_append, put_nil, put_fits, length_put}
use Rattle.fields.specs.Encodings.{whole_bits, whole_fits}
use Rattle.elements.specs.Writing.{Piece, on_put, put_pieces, pieces_fit, pieces_bits, whole, number_pieces}
use Rattle.std.specs.Prelude.{None, Option, Some}

pub pieces_nil : (s : List ℕ) (e at : ℕ) → put_pieces s e at [] ≡ left (Some at) s
unfolding put_pieces
pieces_nil s e at = refl

pub pieces_cons : (s : List ℕ) (e at : ℕ) (x : Piece) (xs : List Piece)
    → put_pieces s e at (x ∷ xs) ≡ on_put (put_if x.fits s e at x.bits).answer
    (put_if x.fits s e at x.bits).bytes (λ (t : List ℕ) (p : ℕ). put_pieces t e p xs)
unfolding put_pieces
pieces_cons s e at x xs = refl

-- ---- as the code writes them

-- one piece alone
pub one_piece : (s z : List ℕ) (e at : ℕ) (a : Option ℕ) (x : Piece) → left a z ≡ put_if x.fits s e at x.bits
    → left a z ≡ put_pieces s e at (x ∷ [])
one_piece s z e at a x h = sym (rw (pieces_cons, ← h) (last a))
  where
    last : (a : Option ℕ) → on_put a z (λ (t : List ℕ) (p : ℕ). put_pieces t e p []) ≡ left a z
    last (Some p) = pieces_nil z e p
    last None = refl

-- an element that is not carried
pub not_written : (s : List ℕ) (e at : ℕ) → left None s ≡ put_pieces s e at (record { fits = false; bits = [] } ∷ [])
unfolding put_pieces put_if
not_written s e at = refl

-- pieces before others
pub pieces_append : (xs ys : List Piece) (s : List ℕ) (e at : ℕ)
    → put_pieces s e at (xs ++ ys) ≡ on_put (put_pieces s e at xs).answer (put_pieces s e at xs).bytes
    (λ (t : List ℕ) (p : ℕ). put_pieces t e p ys)
pieces_append [] ys s e at = rw (pieces_nil)
pieces_append (x ∷ xs) ys s e at = rw (pieces_cons s e at x (xs ++ ys), pieces_cons s e at x xs) (go
    (put_if x.fits s e at x.bits).answer (put_if x.fits s e at x.bits).bytes
    (λ (t : List ℕ) (p : ℕ). pieces_append xs ys t e p))
  where
    go : (a : Option ℕ) (t : List ℕ)
        → ((t : List ℕ) (p : ℕ) → put_pieces t e p (xs ++ ys) ≡ on_put (put_pieces t e p xs).answer
        (put_pieces t e p xs).bytes (λ (t : List ℕ) (p : ℕ). put_pieces t e p ys))
        → on_put a t (λ (t : List ℕ) (p : ℕ). put_pieces t e p (xs ++ ys)) ≡ on_put
        (on_put a t (λ (t : List ℕ) (p : ℕ). put_pieces t e p xs)).answer
        (on_put a t (λ (t : List ℕ) (p : ℕ). put_pieces t e p xs)).bytes
        (λ (t : List ℕ) (p : ℕ). put_pieces t e p ys)
    go (Some p) t h = h t p
    go None t h = refl

-- both of two were written
pub pieces_next : (xs ys : List Piece) (s t z : List ℕ) (e at p : ℕ) (a b : Option ℕ) → left a t ≡ put_pieces s e at xs
    → a ≡ Some p → left b z ≡ put_pieces t e p ys → left b z ≡ put_pieces s e at (xs ++ ys)
pieces_next xs ys s t z e at p a b h q k = rw (pieces_append, ← h, q) k

-- ---- what they leave

if_true : (ok : Bool) (s : List ℕ) (e at : ℕ) (bs : List ℕ) → ok ≡ true → put_if ok s e at bs ≡ put_run s e at bs
unfolding put_if
if_true ok s e at bs h = rw h

pub pieces_left : (xs : List Piece) (s : List ℕ) (e at : ℕ) → pieces_fit xs ≡ true
    → at + length (pieces_bits xs) ≤ length (bits_to s e)
    → put_pieces s e at xs ≡ left (Some (at + length (pieces_bits xs))) (put_bits s at (pieces_bits xs))
unfolding pieces_fit pieces_bits
pieces_left [] s e at f h = rw (pieces_nil, add-zero at, put_nil s at)
pieces_left (x ∷ xs) s e at f h =
    let n = length-append x.bits (pieces_bits xs) in
    let k : at + length x.bits ≤ length (bits_to s e) = omega arith in
    let p = if_true x.fits s e at x.bits (both_left x.fits (pieces_fit xs) f) ∙ put_fits s e at x.bits k in
    let z : List ℕ = put_bits s at x.bits in
    let m : length (bits_to z e) ≡ length (bits_to s e) = length_to z e ∙ rw (length_put x.bits s at) (sym (length_to s e)) in
    let r = pieces_left xs z e (at + length x.bits) (both_right x.fits (pieces_fit xs) f) (omega arith) in
    let a : at + length x.bits + length (pieces_bits xs) ≡ at + length (x.bits ++ pieces_bits xs) = omega arith in
    rw (pieces_cons, p, r, a, put_append)

-- ---- numbers one after another: the loop has written the first i of them, up to p

numbers_cons : (hi v : ℕ) (xs : List ℕ) → number_pieces hi (v ∷ xs) ≡ whole 0 hi v ∷ number_pieces hi xs
unfolding number_pieces
numbers_cons hi v xs = refl

numbers_nil : (hi : ℕ) → number_pieces hi [] ≡ []
unfolding number_pieces
numbers_nil hi = refl

pub drop_all : (xs : List ℕ) (i : ℕ) → length xs ≤ i → drop i xs ≡ []
drop_all [] zero h = refl
drop_all [] (suc i) h = refl
drop_all (x ∷ xs) zero h = absurd (omega arith)
drop_all (x ∷ xs) (suc i) h = drop_all xs i (omega arith)

module _ (xs : List ℕ) (i p e hi : ℕ) (s : List ℕ) (z : Left) (inv : put_pieces s e p (number_pieces hi (drop i xs)) ≡ z) where
  module _ (h : i < length xs) (t : List ℕ) (a : Option ℕ) (k : left a t ≡ put_if (whole_fits 0 hi (get_or xs i 0)) s e p (whole_bits 0 hi (get_or xs i 0))) where
    split : put_pieces s e p (whole 0 hi (get_or xs i 0) ∷ number_pieces hi (drop (suc i) xs)) ≡ z
    split = rw (drop-cons xs i 0 h, numbers_cons) at inv

    pub numbers_turn : (q : ℕ) → a ≡ Some q → put_pieces t e q (number_pieces hi (drop (i + 1) xs)) ≡ z
    numbers_turn q r = rw add-one (rw (pieces_cons, ← k, r) at split)

    pub numbers_full : a ≡ None → left None t ≡ z
    numbers_full r = rw (pieces_cons, ← k, r) at split

  pub numbers_done : length xs ≤ i → left (Some p) s ≡ z
  numbers_done h = rw (drop_all xs i h, numbers_nil, pieces_nil) at inv
