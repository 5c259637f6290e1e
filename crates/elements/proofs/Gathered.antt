-- Characters written eight at a time: the number of their bits, and that it leaves what they leave one after another.
-- Assumes nothing.
use mathlib.Core.Path.{◌≡◌, refl, sym, ap, ◌∙◌}
use mathlib.Core.Bool.{Bool, true, false, ◌&&◌}
use mathlib.Core.List.{List, [], ◌∷◌, ◌++◌, append-nil, append_assoc}
use Prim.Native.Nat.{ℕ, zero, suc, ◌+◌, ◌-◌, ◌*◌, ◌/◌, ◌^◌, ◌<◌, ◌≤◌, min}
use native.Mathlib.Numerals.{add-one}
use native.Mathlib.Omega.{arith}
use lib.ListN.{length, get_or, take, drop, length-take, length-drop, take-append-drop}
use lib.Seq.{take_all, take-suc, drop-drop}
use lib.Dec.{leb, ltb}
use borrow.Author.Tests.{le-leb, lt-leb, lt-ltb, ltb-true}
use Rattle.words.proofs.Laws.{both_left, both_right}
use Rattle.bits.specs.Bits.{bits_n}
use Rattle.bits.specs.Put.{Left, left, put_number, put_if, put_bits}
use Rattle.bits.proofs.Bytes.{length_to}
use Rattle.bits.proofs.Numbers.{bits_n_split, bits_n_high, bits_n_zero}
use Rattle.bits.proofs.Putting.{put_fits}
use Rattle.elements.specs.Arguments.{characters_fit, characters_bits}
use Rattle.elements.specs.Measuring.{all_most}
use Rattle.elements.specs.Writing.{put_pieces, pieces_fit, pieces_bits, number_pieces}
use Rattle.elements.proofs.Texts.{length_characters_bits}
use Rattle.elements.proofs.Written.{characters_bits_is}
use Rattle.elements.proofs.Standing.{both_hold}
use Rattle.elements.proofs.Measured.{characters_most_is}
use Rattle.elements.proofs.Pieces.{pieces_left, pieces_next}
use Rattle.std.specs.Prelude.{Option, Some}

-- ---- the number of their bits

pub characters_append : (xs ys : List ℕ) → characters_bits (xs ++ ys) ≡ characters_bits xs ++ characters_bits ys
unfolding characters_bits
characters_append [] ys = refl
characters_append (x ∷ xs) ys = rw (characters_append xs ys, append_assoc)

one_character : (c : ℕ) → characters_bits (c ∷ []) ≡ bits_n 7 c
unfolding characters_bits
one_character c = append-nil (bits_n 7 c)

pub fit_at : (xs : List ℕ) (i : ℕ) → characters_fit xs ≡ true → i < length xs → get_or xs i 0 < 128
unfolding characters_fit
fit_at [] i f h = absurd (omega arith)
fit_at (x ∷ xs) zero f h = ltb-true x 128 (both_left (ltb x 128) (characters_fit xs) f)
fit_at (x ∷ xs) (suc i) f h = fit_at xs i (both_right (ltb x 128) (characters_fit xs) f) (omega arith)

pub gather_none : (xs : List ℕ) → bits_n (7 * 0) 0 ≡ characters_bits (take 0 xs)
unfolding characters_bits
gather_none xs = bits_n_zero 0

pub gather_turn : (xs : List ℕ) (i v c : ℕ) → i < length xs → c ≡ get_or xs i 0 → c < 128
    → bits_n (7 * i) v ≡ characters_bits (take i xs)
    → bits_n (7 * (i + 1)) (v * 128 + c) ≡ characters_bits (take (i + 1) xs)
gather_turn xs i v c h e k inv =
    let n : 7 * (i + 1) ≡ 7 * i + 7 = omega arith in
    let d : (v * 128 + c) / 2 ^ 7 ≡ v = omega arith in
    let t : take (i + 1) xs ≡ take i xs ++ (c ∷ []) = rw (add-one, e) (take-suc xs i 0 h) in
    rw (n, bits_n_split (7 * i) 7 (v * 128 + c), d, bits_n_high 7 v c, inv, t, characters_append, one_character)

-- ---- whether they have room

pub room_is : (n m : ℕ) (xs : List ℕ) (r : Bool) → leb n m ≡ true → r ≡ all_most 127 xs → r ≡ (leb n m && characters_fit xs)
room_is n m xs r h f = rw (h, ← characters_most_is xs) f

pub no_room : (n m : ℕ) (b : Bool) → leb n m ≡ false → false ≡ (leb n m && b)
no_room n m b h = rw h

pub too_many : (n m : ℕ) (b : Bool) → m < n → false ≡ (leb n m && b)
too_many n m b h = no_room n m b (lt-leb n m h)

-- ---- what they leave

pub pieces_fit_is : (xs : List ℕ) → characters_fit xs ≡ true → pieces_fit (number_pieces 127 xs) ≡ true
unfolding characters_fit pieces_fit number_pieces
pieces_fit_is [] f = refl
pieces_fit_is (x ∷ xs) f =
    let h : x < 128 = ltb-true x 128 (both_left (ltb x 128) (characters_fit xs) f) in
    rw (le-leb 0 x (omega arith), le-leb x 127 (omega arith)) (pieces_fit_is xs (both_right (ltb x 128) (characters_fit xs) f))

-- characters that have room
pub characters_left : (s : List ℕ) (e at : ℕ) (xs : List ℕ) → characters_fit xs ≡ true
    → at + 7 * length xs ≤ min e (8 * length s)
    → put_pieces s e at (number_pieces 127 xs) ≡ left (Some (at + 7 * length xs)) (put_bits s at (characters_bits xs))
characters_left s e at xs f r =
    let y : pieces_bits (number_pieces 127 xs) ≡ characters_bits xs = characters_bits_is xs in
    let k = length_characters_bits xs in
    rw (y, k) at (pieces_left (number_pieces 127 xs) s e at (pieces_fit_is xs f) (rw (y, k, length_to s e) r))

-- the number of their bits, put
pub few_put : (s : List ℕ) (e at v : ℕ) (xs : List ℕ) → length xs ≤ 8 → at + 7 * length xs ≤ min e (8 * length s)
    → bits_n (7 * length xs) v ≡ characters_bits xs → v < 2 ^ (7 * length xs)
    → put_number s e at (7 * length xs) v ≡ left (Some (at + 7 * length xs)) (put_bits s at (characters_bits xs))
unfolding put_number put_if
few_put s e at v xs m r b l =
    let k = length_characters_bits xs in
    rw (le-leb (7 * length xs) 64 (omega arith), lt-ltb v (2 ^ (7 * length xs)) l, b)
    (rw k at (put_fits s e at (characters_bits xs) (rw (k, length_to s e) r)))

-- the first k of them from a place on, and the rest
fit_drop : (i : ℕ) (xs : List ℕ) → characters_fit xs ≡ true → characters_fit (drop i xs) ≡ true
unfolding characters_fit
fit_drop zero xs f = f
fit_drop (suc i) [] f = f
fit_drop (suc i) (x ∷ xs) f = fit_drop i xs (both_right (ltb x 128) (characters_fit xs) f)

fit_take : (k : ℕ) (xs : List ℕ) → characters_fit xs ≡ true → characters_fit (take k xs) ≡ true
unfolding characters_fit
fit_take zero xs f = refl
fit_take (suc k) [] f = refl
fit_take (suc k) (x ∷ xs) f = both_hold (ltb x 128) (characters_fit (take k xs))
    (both_left (ltb x 128) (characters_fit xs) f) (fit_take k xs (both_right (ltb x 128) (characters_fit xs) f))

pub fit_part : (i k : ℕ) (xs : List ℕ) → characters_fit xs ≡ true → characters_fit (take k (drop i xs)) ≡ true
fit_part i k xs f = fit_take k (drop i xs) (fit_drop i xs f)

numbers_append : (hi : ℕ) (xs ys : List ℕ) → number_pieces hi (xs ++ ys) ≡ number_pieces hi xs ++ number_pieces hi ys
unfolding number_pieces
numbers_append hi [] ys = refl
numbers_append hi (x ∷ xs) ys = rw (numbers_append hi xs ys)

pub in_parts : (hi i k : ℕ) (xs : List ℕ)
    → number_pieces hi (drop i xs) ≡ number_pieces hi (take k (drop i xs)) ++ number_pieces hi (drop (i + k) xs)
in_parts hi i k xs =
    let d : drop k (drop i xs) ≡ drop (i + k) xs = rw drop-drop in
    ap (number_pieces hi) (sym (take-append-drop k (drop i xs))) ∙ rw (numbers_append, d)

module _ (s t : List ℕ) (e p i k n v : ℕ) (xs : List ℕ) (a : Option ℕ) (f : characters_fit xs ≡ true) (w : i + k ≤ length xs) (m : k ≤ 8) (r : p + 7 * k ≤ min e (8 * length s))
    (g : (bits_n (7 * length (take k (drop i xs))) v ≡ characters_bits (take k (drop i xs))) × (v < 2 ^ (7 * length (take k (drop i xs))))) (q : n ≡ 7 * k) (h : left a t ≡ put_number s e p n v) where
  many : length (take k (drop i xs)) ≡ k
  many = omega (arith, length-take k (drop i xs), length-drop i xs)

  part : left a t ≡ left (Some (p + 7 * length (take k (drop i xs)))) (put_bits s p (characters_bits (take k (drop i xs))))
  part =
      let c = many in
      let o : n ≡ 7 * length (take k (drop i xs)) = omega arith in
      rw o at h ∙ few_put s e p v (take k (drop i xs)) (omega arith) (omega arith) g.0 g.1

  pub part_put : left a t ≡ put_pieces s e p (number_pieces 127 (take k (drop i xs)))
  part_put = let c = many in part ∙ sym (characters_left s e p (take k (drop i xs)) (fit_part i k xs f) (omega arith))

  pub part_next : (j o : ℕ) → i + k ≡ j → p + 7 * k ≡ o
      → put_pieces t e o (number_pieces 127 (drop j xs)) ≡ put_pieces s e p (number_pieces 127 (drop i xs))
  part_next j o x y =
      let u : a ≡ Some (p + 7 * length (take k (drop i xs))) = ap (λ (l : Left). l.answer) part in
      let l = put_pieces t e (p + 7 * k) (number_pieces 127 (drop (i + k) xs)) in
      rw (← x, ← y) (pieces_next (number_pieces 127 (take k (drop i xs))) (number_pieces 127 (drop (i + k) xs)) s t
      l.bytes e p (p + 7 * k) a l.answer part_put (rw many at u) refl ∙ ap (put_pieces s e p)
      (sym (in_parts 127 i k xs)))

-- the rest from a place on
pub the_rest : (xs : List ℕ) (i : ℕ) → take (length xs - i) (drop i xs) ≡ drop i xs
the_rest xs i = take_all (length xs - i) (drop i xs) (omega (arith, length-drop i xs))
