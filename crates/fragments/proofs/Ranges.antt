-- Laws of bytes and zeros that are stored into a range.
-- Assumes nothing.
use mathlib.Core.Path.{◌≡◌, refl, ap, sym, ◌∙◌}
use mathlib.Core.List.{List, [], ◌∷◌, ◌++◌, append_assoc, append-nil}
use Prim.Native.Nat.{ℕ, zero, suc, ◌+◌, ◌-◌, ◌≤◌, ◌<◌}
use native.Mathlib.Omega.{arith}
use native.Mathlib.Decide.{dec_lt}
use lib.ListN.{length, get_or, take, drop, set, get_or-replicate, length-append, length-drop, length-replicate, replicate-append-replicate, take-append-drop, drop_of_length-le}
use lib.Seq.{sets, sets-eq, take_all, take-length, length-sets, drop-drop, take-add, take_at, drop_at, drop-append-le, drop-append-add, length-take-le, get_or-drop}
use Rattle.envelope.proofs.Numbers.{AllBytes}
use Rattle.envelope.proofs.Puts.{sets_append, Copying, copying_more, copying_done}
use Rattle.fragments.specs.Mail.{head}
use Rattle.fragments.specs.Record.{held_in, padded, zeros}

-- ---- zeros

pub length_zeros : (n : ℕ) → length (zeros n) ≡ n
length_zeros n = length-replicate {A = ℕ} n 0

pub drop_zeros : (k n : ℕ) → drop k (zeros n) ≡ zeros (n - k)
drop_zeros zero n = let e : n - 0 ≡ n = omega arith in rw e
drop_zeros (suc k) zero = let e : 0 - suc k ≡ 0 = omega arith in rw e
drop_zeros (suc k) (suc n) = let e : suc n - suc k ≡ n - k = omega arith in rw e (drop_zeros k n)

zeros_more : (k j : ℕ) → zeros k ++ zeros j ≡ zeros (k + j)
zeros_more k j = replicate-append-replicate {A = ℕ} k j 0

length_behind : (l : List ℕ) (n : ℕ) → length (l ++ zeros n) ≡ length l + n
length_behind l n = length-append l (zeros n) ∙ ap (λ (k : ℕ). length l + k) (length_zeros n)

pub length_padded : (n : ℕ) (l : List ℕ) → length (padded n l) ≡ length l + (n - length l)
unfolding padded
length_padded n l = length_behind l (n - length l)

-- nothing is to pad where the bytes are that many
pub padded_none : (n : ℕ) (l : List ℕ) → n ≤ length l → padded n l ≡ l
unfolding padded
padded_none n l h = let e : n - length l ≡ 0 = omega arith in rw e (append-nil l)

-- padded to n, and then to more
pub padded_more : (n m : ℕ) (l : List ℕ) → n ≤ m → padded n l ++ zeros (m - length (padded n l)) ≡ padded m l
unfolding padded
padded_more n m l h =
    let e : n - length l + (m - (length l + (n - length l))) ≡ m - length l = omega arith in
    rw (length_behind l (n - length l)) (append_assoc l (zeros (n - length l)) (zeros (m - (length l + (n - length l))))
    ∙ rw (zeros_more (n - length l) (m - (length l + (n - length l))), e))

-- ---- stores

-- what stands there already
pub sets_self : (b : List ℕ) (at n : ℕ) → at + n ≤ length b → sets b at (take n (drop at b)) ≡ b
sets_self b at n h =
    let l : length (take n (drop at b)) ≡ n = length-take-le n (drop at b) (rw (length-drop at b) (omega arith)) in
    sets-eq (take n (drop at b)) b at (rw l h) ∙ rw (l, ← take-add at n b) (take-append-drop (at + n) b)

-- behind what stands there already
pub sets_behind : (b : List ℕ) (at n : ℕ) (t : List ℕ) → at + n ≤ length b → sets b at (take n (drop at b) ++ t) ≡ sets b (at + n) t
sets_behind b at n t h =
    let l : length (take n (drop at b)) ≡ n = length-take-le n (drop at b) (rw (length-drop at b) (omega arith)) in
    sets_append b at (take n (drop at b)) t ∙ rw (l, sets_self b at n h)

-- what a store leaves from its place on
pub drop_sets : (b : List ℕ) (at : ℕ) (y : List ℕ) → at + length y ≤ length b → drop at (sets b at y) ≡ y ++ drop (at + length y) b
drop_sets b at y h =
    let l : length (take at b) ≡ at = length-take-le at b (omega arith) in
    rw (sets-eq y b at h, append_assoc (take at b) y (drop (at + length y) b)) (drop_at (take at b) (y ++ drop (at + length y) b) at l)

pub take_sets : (b : List ℕ) (at : ℕ) (y : List ℕ) → at + length y ≤ length b → take at (sets b at y) ≡ take at b
take_sets b at y h =
    let l : length (take at b) ≡ at = length-take-le at b (omega arith) in
    rw (sets-eq y b at h, append_assoc (take at b) y (drop (at + length y) b)) (take_at (take at b) (y ++ drop (at + length y) b) at l)

-- zeros, and bytes over them
module _ (b : List ℕ) (at n : ℕ) (y : List ℕ) (room : at + n ≤ length b) (fits : at + length y ≤ length b) where
  zeroed : drop at (sets b at (zeros n)) ≡ zeros n ++ drop (at + n) b
  zeroed = let z = length_zeros n in rw z at (drop_sets b at (zeros n) (rw z room))

  shorter : length y ≤ n → drop (length y) (zeros n ++ drop (at + n) b) ≡ zeros (n - length y) ++ drop (at + (length y + (n - length y))) b
  shorter h =
      let q : length y + (n - length y) ≡ n = omega arith in
      rw q (drop-append-le (length y) (zeros n) (drop (at + n) b) (rw (length_zeros n) h) ∙ rw (drop_zeros (length y) n))

  longer : n < length y → drop (length y) (zeros n ++ drop (at + n) b) ≡ zeros (n - length y) ++ drop (at + (length y + (n - length y))) b
  longer h =
      let z : n - length y ≡ 0 = omega arith in
      let q : length y ≡ length (zeros n) + (length y - n) = rw (length_zeros n) (omega arith) in
      let o : at + n + (length y - n) ≡ at + (length y + 0) = omega arith in
      let d : drop (length (zeros n) + (length y - n)) (zeros n ++ drop (at + n) b) ≡ drop (length y - n)
      (drop (at + n) b) = drop-append-add (zeros n) (drop (at + n) b) (length y - n) in
      rw z (ap (λ (j : ℕ). drop j (zeros n ++ drop (at + n) b)) q ∙ (d ∙ (drop-drop (length y - n) (at + n) b ∙ rw o)))

  over_rest : drop (at + length y) (sets b at (zeros n)) ≡ zeros (n - length y) ++ drop (at + (length y + (n - length y))) b
  over_rest =
      let e : drop (at + length y) (sets b at (zeros n)) ≡ drop (length y) (zeros n ++ drop (at + n) b) = sym
      (drop-drop (length y) at (sets b at (zeros n))) ∙ ap (drop (length y)) zeroed in
      e ∙ elim (dec_lt n (length y)) [ yes h ↦ longer h | no h ↦ shorter (omega arith) ]

  pub zeros_over : sets (sets b at (zeros n)) at y ≡ sets b at (padded n y)
  unfolding padded
  zeros_over =
      let z = length_zeros n in
      let k : length (y ++ zeros (n - length y)) ≡ length y + (n - length y) = length_behind y (n - length y) in
      let s : at + length y ≤ length (sets b at (zeros n)) = rw (length-sets b at (zeros n)) fits in
      let p : sets b at (y ++ zeros (n - length y)) ≡ take at b ++ (y ++ zeros (n - length y)) ++ drop
      (at + (length y + (n - length y))) b = rw k at (sets-eq (y ++ zeros (n - length y)) b at (rw k (omega arith)))
      in
      let q : sets (sets b at (zeros n)) at y ≡ take at b ++ y ++
      (zeros (n - length y) ++ drop (at + (length y + (n - length y))) b) = rw
      (take_sets b at (zeros n) (rw z room), over_rest) at (sets-eq y (sets b at (zeros n)) at s) in
      q ∙ (simp append_assoc (sym (p ∙ simp append_assoc)))

-- ---- the head of a record and what follows it

pub headed : (b hd y : List ℕ) → length hd ≡ head → head + length y ≤ length b
    → sets (sets b head y) 0 hd ≡ hd ++ (y ++ drop (head + length y) b)
headed b hd y l h =
    let s : 0 + length hd ≤ length (sets b head y) = rw (length-sets b head y) (omega arith) in
    let o : 0 + length hd ≡ head = omega arith in
    sets-eq hd (sets b head y) 0 s ∙ rw (o, drop_sets b head y h)

pub headed_whole : (b hd y : List ℕ) → length hd ≡ head → length b ≡ head + length y → sets (sets b head y) 0 hd ≡ hd ++ y
headed_whole b hd y l h =
    let d : drop (head + length y) b ≡ [] = drop_of_length-le b {i = head + length y} (omega arith) in
    headed b hd y l (omega arith) ∙ rw d (ap (λ (r : List ℕ). hd ++ r) (append-nil y))

-- ---- bytes

pub bytes_append : (l t : List ℕ) → AllBytes l → AllBytes t → AllBytes (l ++ t)
bytes_append [] t p q k = q k
bytes_append (x ∷ xs) t p q zero = p zero
bytes_append (x ∷ xs) t p q (suc k) = bytes_append xs t (λ (j : ℕ). p (suc j)) q k

pub bytes_front : (l t : List ℕ) → AllBytes (l ++ t) → AllBytes l
bytes_front [] t p k = omega arith
bytes_front (x ∷ xs) t p zero = p zero
bytes_front (x ∷ xs) t p (suc k) = bytes_front xs t (λ (j : ℕ). p (suc j)) k

pub bytes_back : (l t : List ℕ) → AllBytes (l ++ t) → AllBytes t
bytes_back [] t p k = p k
bytes_back (x ∷ xs) t p k = bytes_back xs t (λ (j : ℕ). p (suc j)) k

pub bytes_drop : (n : ℕ) (l : List ℕ) → AllBytes l → AllBytes (drop n l)
bytes_drop n l p k = rw (get_or-drop n l k 0) (p (n + k))

pub bytes_take : (n : ℕ) (l : List ℕ) → AllBytes l → AllBytes (take n l)
bytes_take zero l p k = omega arith
bytes_take (suc n) [] p k = p k
bytes_take (suc n) (x ∷ xs) p zero = p zero
bytes_take (suc n) (x ∷ xs) p (suc k) = bytes_take n xs (λ (j : ℕ). p (suc j)) k

pub bytes_held : (n : ℕ) (b : List ℕ) → AllBytes b → AllBytes (held_in n b)
bytes_held n b p = bytes_take n (drop head b) (bytes_drop head b p)

-- ---- the loops

-- a zero that stands there already
pub clear_same : (s : List ℕ) (i : ℕ) → get_or s i 0 ≡ 0 → s ≡ set s i 0
clear_same [] i h = refl
clear_same (x ∷ s) zero h = ap (λ (y : ℕ). y ∷ s) h
clear_same (x ∷ s) (suc i) h = ap (λ (l : List ℕ). x ∷ l) (clear_same s i h)

pub zero_more : (s₀ s : List ℕ) (at n i : ℕ) → Copying s₀ s (zeros n) at n i → i < n → Copying s₀ (set s (at + i) 0) (zeros n) at n (i + 1)
zero_more s₀ s at n i r h = rw (get_or-replicate {A = ℕ} n i 0 0 h) at (copying_more s₀ s (zeros n) at n i (omega (arith, length_zeros n)) r h)

pub zero_done : (s₀ s : List ℕ) (at n i : ℕ) → Copying s₀ s (zeros n) at n i → n ≤ i → s ≡ sets s₀ at (zeros n)
zero_done s₀ s at n i r h =
    let l = length_zeros n in
    (copying_done s₀ s (zeros n) at n i (omega arith) r h).bytes ∙ rw (take_all n (zeros n) (omega arith))
