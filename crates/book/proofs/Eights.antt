-- Laws of numbers of eight bytes: what is written reads back, what is read writes back, and a row of them.
-- Assumes nothing.
use mathlib.Core.Path.{◌≡◌, refl, ap, sym, ◌∙◌}
use mathlib.Core.List.{List, [], ◌∷◌, ◌++◌, append_assoc}
use Prim.Native.Nat.{ℕ, zero, suc, ◌+◌, ◌-◌, ◌*◌, ◌/◌, ◌%◌, ◌^◌, ◌≤◌, ◌<◌}
use native.Mathlib.Omega.{arith}
use native.Mathlib.Nat.{add-mul, mul_assoc, mul_comm, zero-add, add_assoc, mul-add-div_right, mod-eq_of_lt}
use lib.ListN.{length, get_or, set, take, drop, replicate, length-append, length-drop, length-replicate, take-append-drop, replicate-append-replicate}
use lib.Seq.{drop_at, drop-drop, get_or-drop, length-take-le, sets, sets-eq, take-add, take_at, take-suc}
use lib.Pow.{pow_pos, pow-add, pow_mono, mod-pow-add, high}
use lib.Arith.{digits_lt}
use Rattle.book.specs.Books.{number_of, octets, eight_at, eights_in, eights}

-- every element is a byte
abbrev pub Bytes : List ℕ → Type 0
Bytes s = (k : ℕ) → get_or s k 0 < 256

-- ---- the clauses of the definitions, as equations

pub number_nil : (a : ℕ) → number_of a [] ≡ a
unfolding number_of
number_nil a = refl

number_cons : (a b : ℕ) (l : List ℕ) → number_of a (b ∷ l) ≡ number_of (a * 256 + b) l
unfolding number_of
number_cons a b l = refl

pub octets_suc : (n v : ℕ) → octets (suc n) v ≡ v / 2 ^ (8 * n) % 256 ∷ octets n v
unfolding octets
octets_suc n v = refl

pub octets_zero : (v : ℕ) → octets 0 v ≡ []
unfolding octets
octets_zero v = refl

pub length_octets : (n v : ℕ) → length (octets n v) ≡ n
unfolding octets
length_octets zero v = refl
length_octets (suc n) v = ap suc (length_octets n v)

-- ---- the number that bytes say

pub pow_byte : (n : ℕ) → 2 ^ (8 * suc n) ≡ 256 * 2 ^ (8 * n)
pow_byte n = let e : 8 * suc n ≡ 8 + 8 * n = omega arith in rw e (pow-add 2 8 (8 * n))

number_append : (a : ℕ) (xs ys : List ℕ) → number_of a (xs ++ ys) ≡ number_of (number_of a xs) ys
unfolding number_of
number_append a [] ys = refl
number_append a (x ∷ xs) ys = number_append (a * 256 + x) xs ys

weighed : (a b p s : ℕ) → (a * 256 + b) * p + s ≡ a * (256 * p) + (b * p + s)
weighed a b p s = rw (add-mul (a * 256) b p, mul_assoc a 256 p) (add_assoc (a * (256 * p)) (b * p) s)

-- bytes after a number, as a sum
number_sum : (a : ℕ) (l : List ℕ) → number_of a l ≡ a * 2 ^ (8 * length l) + number_of 0 l
number_sum a [] = rw (number_nil a, number_nil 0) (omega arith)
number_sum a (b ∷ l) =
    let z : 0 * 256 + b ≡ b = omega arith in
    let first : number_of 0 (b ∷ l) ≡ b * 2 ^ (8 * length l) + number_of 0 l = number_cons 0 b l ∙ ap
    (λ (x : ℕ). number_of x l) z ∙ number_sum b l in
    number_cons a b l ∙ number_sum (a * 256 + b) l ∙ weighed a b (2 ^ (8 * length l)) (number_of 0 l)
    ∙ ap (λ (x : ℕ). a * x + (b * 2 ^ (8 * length l) + number_of 0 l)) (sym (pow_byte (length l)))
    ∙ ap (λ (x : ℕ). a * 2 ^ (8 * suc (length l)) + x) (sym first)

number_first : (b : ℕ) (l : List ℕ) → number_of 0 (b ∷ l) ≡ b * 2 ^ (8 * length l) + number_of 0 l
number_first b l = let z : 0 * 256 + b ≡ b = omega arith in number_cons 0 b l ∙ ap (λ (x : ℕ). number_of x l) z ∙ number_sum b l

-- n bytes say a number below 2 ^ (8 n)
pub number_lt : (l : List ℕ) → Bytes l → number_of 0 l < 2 ^ (8 * length l)
number_lt [] h = rw (number_nil 0) (omega arith)
number_lt (b ∷ l) h =
    let r = number_lt l (λ (k : ℕ). h (suc k)) in
    let d : b * 2 ^ (8 * length l) + number_of 0 l < 256 * 2 ^ (8 * length l) = digits_lt (h 0) r in
    rw (number_first b l, pow_byte (length l)) d

-- the bytes of a number say that number
pub number_octets : (n v : ℕ) → number_of 0 (octets n v) ≡ v % 2 ^ (8 * n)
number_octets zero v = rw (octets_zero v, number_nil 0) (omega arith)
number_octets (suc n) v =
    let e : v % 2 ^ (8 + 8 * n) ≡ (v / 2 ^ (8 * n) % 2 ^ 8) * 2 ^ (8 * n) + v % 2 ^ (8 * n) = mod-pow-add v 8 (8 * n) in
    let f : 8 * suc n ≡ 8 + 8 * n = omega arith in
    rw (octets_suc n v, number_first, length_octets n v, number_octets n v, f) (sym e)

-- what is a multiple of 2 ^ (8 n) does not show in the n low bytes
octets_high : (n q v : ℕ) → octets n (q * 2 ^ (8 * n) + v) ≡ octets n v
octets_high zero q v = rw (octets_zero, octets_zero)
octets_high (suc n) q v =
    let s : q * 2 ^ (8 * suc n) ≡ q * 256 * 2 ^ (8 * n) = ap (λ (x : ℕ). q * x) (pow_byte n) ∙ sym (mul_assoc q 256 (2 ^ (8 * n))) in
    let d : (q * 256 * 2 ^ (8 * n) + v) / 2 ^ (8 * n) ≡ q * 256 + v / 2 ^ (8 * n) = mul-add-div_right (pow_pos (8 * n)) (q * 256) v in
    let m : (q * 256 + v / 2 ^ (8 * n)) % 256 ≡ v / 2 ^ (8 * n) % 256 = omega arith in
    rw (s, octets_suc n (q * 256 * 2 ^ (8 * n) + v), d, m, octets_high n (q * 256) v, octets_suc n v)

-- bytes are the bytes of the number that they say
pub octets_number : (l : List ℕ) → Bytes l → octets (length l) (number_of 0 l) ≡ l
octets_number [] h = octets_zero _
octets_number (b ∷ l) h =
    let e = high b (8 * length l) (number_lt l (λ (k : ℕ). h (suc k))) in
    let f : b % 256 ≡ b = omega (arith, h 0) in
    rw (number_first b l, octets_suc, e, f, octets_high (length l) b (number_of 0 l), octets_number l (λ (k : ℕ). h (suc k)))

-- ---- the number at a position

pub bytes_drop : (n : ℕ) (s : List ℕ) → Bytes s → Bytes (drop n s)
bytes_drop n s h k = rw get_or-drop (h (n + k))

pub bytes_take : (n : ℕ) (s : List ℕ) → Bytes s → Bytes (take n s)
bytes_take zero s h k = omega arith
bytes_take (suc n) [] h k = omega arith
bytes_take (suc n) (x ∷ s) h zero = h 0
bytes_take (suc n) (x ∷ s) h (suc k) = bytes_take n s (λ (i : ℕ). h (suc i)) k

pub eight_drop : (n at : ℕ) (b : List ℕ) → eight_at (drop n b) at ≡ eight_at b (n + at)
unfolding eight_at
eight_drop n at b = rw drop-drop

-- ---- a row of numbers

pub length_eights : (vs : List ℕ) → length (eights vs) ≡ 8 * length vs
unfolding eights
length_eights [] = refl
length_eights (v ∷ vs) = rw (length-append (octets 8 v) (eights vs), length_octets 8 v, length_eights vs) (omega arith)

pub length_in : (n : ℕ) (b : List ℕ) → length (eights_in n b) ≡ n
unfolding eights_in
length_in zero b = refl
length_in (suc n) b = ap suc (length_in n (drop 8 b))

-- the number at place i of the row
pub eight_of : (n : ℕ) (b : List ℕ) (i : ℕ) → i < n → get_or (eights_in n b) i 0 ≡ eight_at b (8 * i)
unfolding eights_in
eight_of zero b i h = absurd (omega arith)
eight_of (suc n) b zero h = refl
eight_of (suc n) b (suc i) h =
    let e : 8 + 8 * i ≡ 8 * suc i = omega arith in
    eight_of n (drop 8 b) i (omega arith) ∙ eight_drop 8 (8 * i) b ∙ ap (eight_at b) e

-- every number has 64 bits
abbrev pub Wide : List ℕ → Type 0
Wide vs = (k : ℕ) → get_or vs k 0 < 2 ^ 64

-- what is written reads back
pub eights_back : (vs : List ℕ) → Wide vs → eights_in (length vs) (eights vs) ≡ vs
unfolding eights_in eights eight_at
eights_back [] h = refl
eights_back (v ∷ vs) h =
    let n = length_octets 8 v in
    let e : number_of 0 (octets 8 v) ≡ v = number_octets 8 v ∙ mod-eq_of_lt (h 0) in
    rw (take_at (octets 8 v) (eights vs) 8 n, drop_at (octets 8 v) (eights vs) 8 n, e, eights_back vs (λ (k : ℕ). h (suc k)))

-- what is read writes back
pub eights_read : (n : ℕ) (b : List ℕ) → Bytes b → length b ≡ 8 * n → eights (eights_in n b) ≡ b
unfolding eights_in eights eight_at
eights_read zero [] h e = refl
eights_read zero (x ∷ b) h e = absurd (omega arith)
eights_read (suc n) b h e =
    let k : length (take 8 b) ≡ 8 = length-take-le 8 b (omega arith) in
    let m : length (drop 8 b) ≡ 8 * n = rw length-drop (omega arith) in
    let f : octets 8 (number_of 0 (take 8 b)) ≡ take 8 b = rw k at (octets_number (take 8 b) (bytes_take 8 b h)) in
    rw (f, eights_read n (drop 8 b) (bytes_drop 8 b h) m) (take-append-drop 8 b)

-- ---- a number put into a row

sets_later : (x : ℕ) (l : List ℕ) (i : ℕ) (vs : List ℕ) → sets (x ∷ l) (suc i) vs ≡ x ∷ sets l i vs
sets_later x l i [] = refl
sets_later x l i (v ∷ vs) = sets_later x (set l i v) (suc i) vs

sets_behind : (p l : List ℕ) (i : ℕ) (vs : List ℕ) → sets (p ++ l) (length p + i) vs ≡ p ++ sets l i vs
sets_behind [] l i vs = ap (λ (n : ℕ). sets l n vs) (zero-add i)
sets_behind (x ∷ p) l i vs =
    let e : suc (length p) + i ≡ suc (length p + i) = omega arith in
    ap (λ (n : ℕ). sets (x ∷ (p ++ l)) n vs) e ∙ sets_later x (p ++ l) (length p + i) vs ∙ ap (λ (t : List ℕ). x ∷ t) (sets_behind p l i vs)

sets_front : (vs p l : List ℕ) → length vs ≡ length p → sets (p ++ l) 0 vs ≡ vs ++ l
sets_front [] [] l h = refl
sets_front [] (x ∷ p) l h = absurd (omega arith)
sets_front (v ∷ vs) [] l h = absurd (omega arith)
sets_front (v ∷ vs) (x ∷ p) l h = sets_later v (p ++ l) 0 vs ∙ ap (λ (t : List ℕ). v ∷ t) (sets_front vs p l (omega arith))

pub eights_set : (vs : List ℕ) (i v : ℕ) → i < length vs → sets (eights vs) (8 * i) (octets 8 v) ≡ eights (set vs i v)
unfolding eights
eights_set [] i v h = absurd (omega arith)
eights_set (w ∷ vs) zero v h = sets_front (octets 8 v) (octets 8 w) (eights vs) (length_octets 8 v ∙ sym (length_octets 8 w))
eights_set (w ∷ vs) (suc i) v h =
    let e : 8 * suc i ≡ length (octets 8 w) + 8 * i = rw (length_octets 8 w) (omega arith) in
    ap (λ (n : ℕ). sets (octets 8 w ++ eights vs) n (octets 8 v)) e ∙ sets_behind (octets 8 w) (eights vs) (8 * i) (octets 8 v)
    ∙ ap (λ (t : List ℕ). octets 8 w ++ t) (eights_set vs i v (omega arith))

-- zero put where zero stands changes nothing
sets_part : (b : List ℕ) (at : ℕ) → at + 8 ≤ length b → sets b at (take 8 (drop at b)) ≡ b
sets_part b at h =
    let k : length (take 8 (drop at b)) ≡ 8 = length-take-le 8 (drop at b) (simp length-drop (omega arith)) in
    let e = sets-eq (take 8 (drop at b)) b at (rw k h) in
    e ∙ rw (k, ← take-add at 8 b) (take-append-drop (at + 8) b)

pub zero_stands : (b : List ℕ) (at v : ℕ) → Bytes b → at + 8 ≤ length b → v ≡ eight_at b at → v ≡ 0 → b ≡ sets b at (octets 8 0)
unfolding eight_at
zero_stands b at v bs h p e =
    let k : length (take 8 (drop at b)) ≡ 8 = length-take-le 8 (drop at b) (simp length-drop (omega arith)) in
    let o : octets 8 (number_of 0 (take 8 (drop at b))) ≡ take 8 (drop at b) = rw k at
    (octets_number (take 8 (drop at b)) (bytes_take 8 (drop at b) (bytes_drop at b bs))) in
    let z : octets 8 0 ≡ take 8 (drop at b) = ap (octets 8) (sym e ∙ p) ∙ o in
    sym (ap (sets b at) z ∙ sets_part b at h)

zero_octets : octets 8 0 ≡ replicate 8 0
unfolding octets
zero_octets = refl

-- one number more is cleared
pub clear_turn : (b z b₀ : List ℕ) (i : ℕ) → 8 * i + 8 ≤ length b₀ → b ≡ replicate (8 * i) 0 ++ drop (8 * i) b₀
    → z ≡ sets b (8 * i) (octets 8 0)
    → z ≡ replicate (8 * (i + 1)) 0 ++ drop (8 * (i + 1)) b₀
clear_turn b z b₀ i h e p =
    let n : ℕ = 8 * i in
    let l : List ℕ = drop n b₀ in
    let r : List ℕ = replicate n 0 in
    let k : length (take 8 l) ≡ 8 = length-take-le 8 l (simp length-drop (omega arith)) in
    let s : 8 * i ≡ length r + 0 = let q : length r ≡ n = length-replicate n 0 in omega arith in
    let m : 8 * (i + 1) ≡ n + 8 = omega arith in
    let front : sets l 0 (octets 8 0) ≡ octets 8 0 ++ drop 8 l =
    ap (λ (x : List ℕ). sets x 0 (octets 8 0)) (sym (take-append-drop 8 l)) ∙ sets_front (octets 8 0) (take 8 l)
    (drop 8 l) (length_octets 8 0 ∙ sym k) in
    p ∙ ap (λ (x : List ℕ). sets x n (octets 8 0)) e ∙ ap (λ (x : ℕ). sets (r ++ l) x (octets 8 0)) s
    ∙ sets_behind r l 0 (octets 8 0) ∙ ap (λ (x : List ℕ). r ++ x) front
    ∙ ap (λ (x : List ℕ). r ++ (x ++ drop 8 l)) zero_octets ∙ ap (λ (x : List ℕ). r ++ (replicate 8 0 ++ x))
    (drop-drop 8 n b₀) ∙ sym (append_assoc r (replicate 8 0) (drop (n + 8) b₀))
    ∙ ap (λ (x : List ℕ). x ++ drop (n + 8) b₀) (replicate-append-replicate {A = ℕ} n 8 0) ∙ ap (λ (x : ℕ). replicate x 0 ++ drop x b₀) (sym m)

-- ---- a turn of the loop that reads a number

pub read_turn : (b : List ℕ) (at i v x : ℕ) → at + i < length b → v ≡ number_of 0 (take i (drop at b)) → x ≡ get_or b (at + i) 0
    → v * 256 + x ≡ number_of 0 (take (i + 1) (drop at b))
read_turn b at i v x h e p =
    let l : i < length (drop at b) = simp length-drop (omega arith) in
    let s : i + 1 ≡ suc i = omega arith in
    let g : get_or (drop at b) i 0 ≡ get_or b (at + i) 0 = get_or-drop at b i 0 in
    rw (s, take-suc (drop at b) i 0 l, g, ← p, number_append 0 (take i (drop at b)) (x ∷ []), ← e, number_cons v x [], number_nil)

pub read_fits : (v x i : ℕ) → v < 2 ^ (8 * i) → x < 256 → i < 8 → v * 256 + x < 2 ^ 64
read_fits v x i h g l =
    let d : v * 256 + x < 2 ^ (8 * i) * 256 = digits_lt h g in
    let m : 2 ^ (8 * i) ≤ 2 ^ 56 = pow_mono {i = 8 * i} {j = 56} (omega arith) in
    omega arith

pub read_lt : (v x i : ℕ) → v < 2 ^ (8 * i) → x < 256 → v * 256 + x < 2 ^ (8 * (i + 1))
read_lt v x i h g =
    let d : v * 256 + x < 2 ^ (8 * i) * 256 = digits_lt h g in
    let e : 8 * (i + 1) ≡ 8 * suc i = omega arith in
    rw (e, pow_byte i, mul_comm 256 (2 ^ (8 * i))) d

-- ---- and of the one that writes it

pub write_start : (b : List ℕ) (at v : ℕ) → sets b (at + 0) (octets (8 - 0) v) ≡ sets b at (octets 8 v)
write_start b at v =
    let e : at + 0 ≡ at = omega arith in
    rw e

pub write_turn : (b z : List ℕ) (at i v : ℕ) → i < 8 → sets b (at + i) (octets (8 - i) v) ≡ z
    → sets (set b (at + i) (v / 2 ^ (8 * (7 - i)) % 256)) (at + (i + 1)) (octets (8 - (i + 1)) v) ≡ z
write_turn b z at i v h e =
    let n : 8 - i ≡ suc (7 - i) = omega arith in
    let m : 8 - (i + 1) ≡ 7 - i = omega arith in
    let p : at + (i + 1) ≡ suc (at + i) = omega arith in
    rw (m, p) (rw (n, octets_suc (7 - i) v) at e)

pub write_done : (b : List ℕ) (at i v : ℕ) → i ≡ 8 → sets b (at + i) (octets (8 - i) v) ≡ b
write_done b at i v h =
    let n : 8 - i ≡ 0 = omega arith in
    rw (n, octets_zero v)
