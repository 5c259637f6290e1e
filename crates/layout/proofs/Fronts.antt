-- The header that the code loads is the message's; and what stands between it and the elements, put as one number.
-- Assumes nothing.
use mathlib.Core.Path.{◌≡◌, refl, sym, ◌∙◌}
use mathlib.Core.Bool.{Bool, true}
use mathlib.Core.List.{List, [], ◌∷◌}
use Prim.Native.Nat.{ℕ, zero, suc, ◌+◌, ◌-◌, ◌*◌, ◌%◌, ◌≤◌, min}
use native.Mathlib.Omega.{arith}
use lib.Dec.{leb}
use lib.ListN.{length}
use Rattle.bits.specs.Bits.{bits_n}
use Rattle.bits.proofs.Inside.{is_within}
use Rattle.bits.proofs.Numbers.{bits_bits_n, length_bits_n, num_bits_n}
use Rattle.fields.specs.Fields.{digits_in}
use Rattle.fields.specs.Encodings.{whole_bits, whole_fits}
use Rattle.bits.specs.Put.{left, put_number}
use Rattle.elements.specs.Writing.{Piece, pieces_bits, pieces_fit, put_pieces, whole}
use Rattle.elements.proofs.Joined.{joined_put}
use Rattle.elements.proofs.Whole.{whole_above, whole_below}
use Rattle.inner.specs.declared.values.Header.{Header}
use Rattle.inner.specs.Headers.{header_fits, header_bits}
use Rattle.inner.specs.Writing.{header_pieces}
use Rattle.inner.proofs.RowPieces.{sized}
use Rattle.layout.specs.Layout.{header_of, message_of}
use Rattle.std.specs.Prelude.{Option}

module _ (b : List ℕ) (h : Header) (p : h ≡ header_of b) where
  pub front_measured : (r : Option ℕ) → r ≡ sized (header_fits h) (header_bits h)
      → r ≡ sized (header_fits (message_of b).header) (header_bits (message_of b).header)
  unfolding message_of
  front_measured r k = rw (← p) k

  pub front_put : (s u : List ℕ) (e at : ℕ) (a : Option ℕ) → left a u ≡ put_pieces s e at (header_pieces h)
      → left a u ≡ put_pieces s e at (header_pieces (message_of b).header)
  unfolding message_of
  front_put s u e at a k = rw (← p) k

-- ---- that there is no constrained data, and the count of elements

abbrev between : ℕ → List Piece
between n = whole 0 1 0 ∷ whole 1 5 n ∷ []

four_bits : (n : ℕ) → 1 ≤ n → n ≤ 5 → pieces_bits (between n) ≡ bits_n 4 (n - 1)
unfolding pieces_bits bits_n whole_bits digits_in
four_bits zero h g = absurd (omega arith)
four_bits (suc zero) h g = refl
four_bits (suc (suc zero)) h g = refl
four_bits (suc (suc (suc zero))) h g = refl
four_bits (suc (suc (suc (suc zero)))) h g = refl
four_bits (suc (suc (suc (suc (suc zero))))) h g = refl
four_bits (suc (suc (suc (suc (suc (suc n)))))) h g = absurd (omega arith)

both_fit : (n : ℕ) → whole_fits 1 5 n ≡ true → pieces_fit (between n) ≡ true
unfolding pieces_fit
both_fit n f = rw f

pub count_joined : (s t : List ℕ) (e at n : ℕ) (a : Option ℕ) (f : Bool) → f ≡ whole_fits 1 5 n → f ≡ true → (b : Bool)
    → b ≡ leb (at + 4) (min e (8 * length s)) → b ≡ true → left a t ≡ put_number s e at 4 (n - 1)
    → left a t ≡ put_pieces s e at (whole 0 1 0 ∷ whole 1 5 n ∷ [])
count_joined s t e at n a f p q b i j h =
    let k : whole_fits 1 5 n ≡ true = sym p ∙ q in
    let lo = whole_above 1 5 n k in
    let hi = whole_below 1 5 n k in
    let bits = four_bits n (omega arith) (omega arith) in
    let v : n - 1 ≡ (n - 1) % 16 = omega arith in
    joined_put (between n) s t e at 4 (n - 1) a (both_fit n k) (rw bits (bits_bits_n 4 (n - 1))) (rw bits (sym (length_bits_n 4 (n - 1))))
    (rw bits (v ∙ sym (num_bits_n 4 (n - 1)))) (omega arith) (is_within s e at 4 b i j) h
