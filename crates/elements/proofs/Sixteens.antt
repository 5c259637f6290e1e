-- Characters written sixteen at a time, the second eight before the first: what that leaves.
-- Assumes nothing.
use mathlib.Core.Path.{◌≡◌, refl, sym, ap, ◌∙◌}
use mathlib.Core.Bool.{true}
use mathlib.Core.List.{List, [], ◌∷◌, ◌++◌}
use Prim.Native.Nat.{ℕ, zero, suc, ◌+◌, ◌-◌, ◌*◌, ◌^◌, ◌<◌, ◌≤◌, min}
use native.Mathlib.Omega.{arith}
use native.Mathlib.Nat.{add-zero}
use lib.ListN.{length, set, take, drop, length-append, length-take, length-drop, take-append-drop}
use lib.Seq.{sets}
use Rattle.bits.specs.Bits.{bits_n, bits_of}
use Rattle.bits.specs.Put.{Left, left, put_bits, put_number}
use Rattle.bits.proofs.Numbers.{Bits, bits_bits_n}
use Rattle.bits.proofs.Bytes.{Bytes, bits_append}
use Rattle.bits.proofs.Putting.{bits_put, bytes_put, length_put, same_bytes}
use Rattle.elements.specs.Arguments.{characters_fit, characters_bits}
use Rattle.elements.specs.Writing.{put_pieces, number_pieces}
use Rattle.elements.proofs.Texts.{length_characters_bits}
use Rattle.elements.proofs.Pieces.{pieces_next}
use Rattle.elements.proofs.Gathered.{characters_append, characters_left, few_put, fit_part, in_parts, the_rest}
use Rattle.std.specs.Prelude.{Option, Some}

-- ---- the later of two runs put first

set_swap : (l : List ℕ) (p q x y : ℕ) → p < q → set (set l q y) p x ≡ set (set l p x) q y
set_swap [] p q x y h = refl
set_swap (a ∷ l) zero zero x y h = absurd (omega arith)
set_swap (a ∷ l) zero (suc q) x y h = refl
set_swap (a ∷ l) (suc p) zero x y h = absurd (omega arith)
set_swap (a ∷ l) (suc p) (suc q) x y h = ap (λ (r : List ℕ). a ∷ r) (set_swap l p q x y (omega arith))

set_before : (ys l : List ℕ) (p q x : ℕ) → p < q → set (sets l q ys) p x ≡ sets (set l p x) q ys
set_before [] l p q x h = refl
set_before (y ∷ ys) l p q x h = set_before ys (set l q y) p (suc q) x (omega arith) ∙ ap
    (λ (r : List ℕ). sets r (suc q) ys) (set_swap l p q x y h)

sets_before : (xs ys l : List ℕ) (p q : ℕ) → p + length xs ≤ q → sets (sets l q ys) p xs ≡ sets (sets l p xs) q ys
sets_before [] ys l p q h = refl
sets_before (x ∷ xs) ys l p q h = ap (λ (r : List ℕ). sets r (suc p) xs) (set_before ys l p q x (omega arith)) ∙
    sets_before xs ys (set l p x) (suc p) q (omega arith)

sets_append : (xs ys l : List ℕ) (p : ℕ) → sets l p (xs ++ ys) ≡ sets (sets l p xs) (p + length xs) ys
sets_append [] ys l p = rw (add-zero p)
sets_append (x ∷ xs) ys l p = let a : p + suc (length xs) ≡ suc p + length xs = omega arith in rw a (sets_append xs ys (set l p x) (suc p))

put_before : (s xs ys : List ℕ) (at : ℕ) → Bytes s → Bits xs → Bits ys → at + (length xs + length ys) ≤ 8 * length s
    → put_bits (put_bits s (at + length xs) ys) at xs ≡ put_bits s at (xs ++ ys)
put_before s xs ys at b hx hy h =
    let q : ℕ = at + length xs in
    let u : List ℕ = put_bits s q ys in
    let n : length u ≡ length s = length_put ys s q in
    let m = length-append xs ys in
    same_bytes _ _ (bytes_put xs u at hx (bytes_put ys s q hy b))
    (bytes_put (xs ++ ys) s at (bits_append xs ys hx hy) b)
    (length_put xs u at ∙ n ∙ sym (length_put (xs ++ ys) s at))
    (bits_put xs u at hx (omega arith)
    ∙ ap (λ (l : List ℕ). sets l at xs) (bits_put ys s q hy (omega arith))
    ∙ sets_before xs ys (bits_of s) at q (omega arith)
    ∙ sym (sets_append xs ys (bits_of s) at)
    ∙ sym (bits_put (xs ++ ys) s at (bits_append xs ys hx hy) (omega arith)))

-- ---- sixteen characters

nothing : Bits []
nothing k = omega arith

characters_are_bits : (cs : List ℕ) → Bits (characters_bits cs)
unfolding characters_bits
characters_are_bits [] = nothing
characters_are_bits (c ∷ cs) = bits_append (bits_n 7 c) (characters_bits cs) (bits_bits_n 7 c) (characters_are_bits cs)

abbrev pub Gather : ℕ → List ℕ → Type 0
Gather v xs = (bits_n (7 * length xs) v ≡ characters_bits xs) × (v < 2 ^ (7 * length xs))

eight_put : (s z : List ℕ) (e at v : ℕ) (xs : List ℕ) (a : Option ℕ) → length xs ≡ 8 → at + 56 ≤ min e (8 * length s)
    → Gather v xs → left a z ≡ put_number s e at 56 v → z ≡ put_bits s at (characters_bits xs)
eight_put s z e at v xs a n r g h =
    let k : 56 ≡ 7 * length xs = omega arith in
    ap (λ (l : Left). l.bytes) (rw k at h ∙ few_put s e at v xs (omega arith) (omega arith) g.0 g.1)

halves : (zs : List ℕ) → take 8 zs ++ take (length zs - 8) (drop 8 zs) ≡ zs
halves zs = rw (the_rest zs 8) (take-append-drop 8 zs)

pub sixteen_put : (s u z : List ℕ) (e at p v w : ℕ) (zs : List ℕ) (a b : Option ℕ) → Bytes s → length zs ≡ 16
    → at + 112 ≤ min e (8 * length s) → Gather v (take 8 zs) → Gather w (take (length zs - 8) (drop 8 zs)) → p ≡ at + 56
    → left a u ≡ put_number s e p 56 w → left b z ≡ put_number u e at 56 v → z ≡ put_bits s at (characters_bits zs)
sixteen_put s u z e at p v w zs a b bs many r g f q h k =
    let xs : List ℕ = take 8 zs in
    let ys : List ℕ = take (length zs - 8) (drop 8 zs) in
    let n : length xs ≡ 8 = omega (arith, length-take 8 zs) in
    let m : length ys ≡ 8 = omega (arith, length-take (length zs - 8) (drop 8 zs), length-drop 8 zs) in
    let cx = length_characters_bits xs in
    let cy = length_characters_bits ys in
    let o : p ≡ at + length (characters_bits xs) = omega arith in
    let first : u ≡ put_bits s p (characters_bits ys) = eight_put s u e p w ys a m (omega arith) f h in
    let c : length u ≡ length s = ap length first ∙ length_put (characters_bits ys) s p in
    let second : z ≡ put_bits u at (characters_bits xs) = eight_put u z e at v xs b n (omega arith) g k in
    second ∙ ap (λ (l : List ℕ). put_bits l at (characters_bits xs)) (first ∙ ap (λ (i : ℕ). put_bits s i (characters_bits ys)) o)
    ∙ put_before s (characters_bits xs) (characters_bits ys) at bs (characters_are_bits xs) (characters_are_bits ys) (omega arith)
    ∙ ap (put_bits s at) (sym (characters_append xs ys) ∙ ap characters_bits (halves zs))

-- and then those that follow
pub sixteen_next : (s t : List ℕ) (e p i k : ℕ) (xs : List ℕ) → characters_fit xs ≡ true → i + k ≤ length xs
    → p + 7 * k ≤ min e (8 * length s) → t ≡ put_bits s p (characters_bits (take k (drop i xs))) → (j o : ℕ) → i + k ≡ j
    → p + 7 * k ≡ o → put_pieces t e o (number_pieces 127 (drop j xs)) ≡ put_pieces s e p (number_pieces 127 (drop i xs))
sixteen_next s t e p i k xs f w r h j o x y =
    let many : length (take k (drop i xs)) ≡ k = omega (arith, length-take k (drop i xs), length-drop i xs) in
    let l = put_pieces t e (p + 7 * k) (number_pieces 127 (drop (i + k) xs)) in
    let c : put_pieces s e p (number_pieces 127 (take k (drop i xs))) ≡ left (Some (p + 7 * k)) t = rw (many, ← h) at
    (characters_left s e p (take k (drop i xs)) (fit_part i k xs f) (omega arith)) in
    rw (← x, ← y) (pieces_next (number_pieces 127 (take k (drop i xs))) (number_pieces 127 (drop (i + k) xs)) s t
    l.bytes e p (p + 7 * k) (Some (p + 7 * k)) l.answer (sym c) refl refl ∙ ap (put_pieces s e p)
    (sym (in_parts 127 i k xs)))
