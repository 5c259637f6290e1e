-- Laws of a part of eight bytes as one number: read from them, and put into them.
-- Assumes nothing.
use mathlib.Core.Path.{◌≡◌, refl, ap, sym, ◌∙◌}
use mathlib.Core.List.{List, [], ◌∷◌, ◌++◌, append_assoc}
use Prim.Native.Nat.{ℕ, zero, suc, ◌+◌, ◌-◌, ◌*◌, ◌/◌, ◌%◌, ◌^◌, ◌≤◌, ◌<◌}
use native.Mathlib.Omega.{arith}
use native.Mathlib.Nat.{mod-eq_of_lt, add-mul}
use lib.ListN.{length, take, drop}
use lib.Pow.{field, shl-shr, shr_mod, shr-shr, split}
use lib.Seq.{take-take, drop-drop, sets, sets-eq, length-sets, take-add}
use Rattle.bits.specs.Bits.{bits_n, bits_of, num_of, run}
use Rattle.bits.specs.Put.{put_bits}
use Rattle.bits.proofs.Numbers.{bits_bits_n, bits_n_num, bits_n_drop, num_bits_n, num_append, num_lt, bits_n_take, length_bits_n}
use Rattle.bits.proofs.Bytes.{Bytes, length_bits_is, length_part, take_drop, run_bits}
use Rattle.bits.proofs.Putting.{sets_bits, bits_put, bytes_put, same_bytes, length_put}
use Rattle.bits.proofs.EightBytes.{shl_cut}

-- ---- a part of a number

-- to shift what stands before a part out, and what stands behind it
pub part_shift : (w r n : ℕ) → r + n ≤ 64 → w * 2 ^ r % 2 ^ 64 / 2 ^ (64 - n) ≡ w / 2 ^ (64 - r - n) % 2 ^ n
part_shift w r n h =
    let e : 64 - n ≡ r + (64 - r - n) = omega arith in
    let f : 64 - r ≡ n + (64 - r - n) = omega arith in
    let a : w % 2 ^ (64 - r) * 2 ^ r / 2 ^ (64 - n) ≡ w % 2 ^ (64 - r) / 2 ^ (64 - r - n) = ap
    (λ (k : ℕ). w % 2 ^ (64 - r) * 2 ^ r / 2 ^ k) e ∙ sym (shr-shr (w % 2 ^ (64 - r) * 2 ^ r) r (64 - r - n)) ∙ ap
    (λ (x : ℕ). x / 2 ^ (64 - r - n)) (shl-shr (w % 2 ^ (64 - r)) r) in
    ap (λ (x : ℕ). x / 2 ^ (64 - n)) (shl_cut w r (omega arith)) ∙ a ∙ ap (λ (k : ℕ). w % 2 ^ k / 2 ^ (64 - r - n)) f
    ∙ field w n (64 - r - n)

-- the number as three digits, and with another in the middle
apart : (w n m : ℕ) → w ≡ (w / 2 ^ (n + m) * 2 ^ n + w / 2 ^ m % 2 ^ n) * 2 ^ m + w % 2 ^ m
apart w n m =
    let e : n + m ≡ m + n = omega arith in
    let a : w / 2 ^ (n + m) ≡ w / 2 ^ m / 2 ^ n = ap (λ (k : ℕ). w / 2 ^ k) e ∙ sym (shr-shr w m n) in
    rw (a, split (w / 2 ^ m) n) (sym (split w m))

changed : (w a p v P Q L : ℕ) → w ≡ (a * P + p) * Q + L → w - p * Q + v * Q ≡ (a * P + v) * Q + L
changed w a p v P Q L e =
    let d : (a * P + p) * Q ≡ a * P * Q + p * Q = add-mul (a * P) p Q in
    let f : (a * P + v) * Q ≡ a * P * Q + v * Q = add-mul (a * P) v Q in
    omega arith

pub part_put : (w r n v p : ℕ) → w < 2 ^ 64 → r + n ≤ 64 → v < 2 ^ n → p ≡ w / 2 ^ (64 - r - n) % 2 ^ n
    → w - p * 2 ^ (64 - r - n) + v * 2 ^ (64 - r - n) ≡ num_of (sets (bits_n 64 w) r (bits_n n v))
part_put w r n v p hw h hv hp =
    let e : 64 ≡ r + (n + (64 - r - n)) = omega arith in
    let g : 64 - (r + n) ≡ 64 - r - n = omega arith in
    let hh : w < 2 ^ (r + (n + (64 - r - n))) = rw (← e) hw in
    let a : num_of (take r (bits_n 64 w)) ≡ w / 2 ^ (n + (64 - r - n)) = ap (λ (j : ℕ). num_of (take r (bits_n j w))) e ∙ rw (bits_n_take r (n + (64 - r - n)) w, num_bits_n r (w / 2 ^ (n + (64 - r - n)))) (shr_mod {n = w} r (n + (64 - r - n)) hh) in
    let b : num_of (bits_n n v) ≡ v = num_bits_n n v ∙ mod-eq_of_lt hv in
    let d : drop (r + n) (bits_n 64 w) ≡ bits_n (64 - r - n) w = rw (bits_n_drop (r + n) 64 w h, g) in
    let z : sets (bits_n 64 w) r (bits_n n v) ≡ take r (bits_n 64 w) ++ bits_n n v ++ bits_n (64 - r - n) w = sets-eq
    (bits_n n v) (bits_n 64 w) r (rw (length_bits_n n v, length_bits_n 64 w) h) ∙ rw (length_bits_n n v, d) in
    let y : w ≡ (w / 2 ^ (n + (64 - r - n)) * 2 ^ n + p) * 2 ^ (64 - r - n) + w % 2 ^ (64 - r - n) = rw hp (apart w n (64 - r - n)) in
    changed w (w / 2 ^ (n + (64 - r - n))) p v (2 ^ n) (2 ^ (64 - r - n)) (w % 2 ^ (64 - r - n)) y
    ∙ sym (rw (z, num_append, num_append, length_bits_n, length_bits_n, a, b, num_bits_n (64 - r - n) w))

pub part_le : (w m n p : ℕ) → p ≡ w / 2 ^ m % 2 ^ n → p * 2 ^ m ≤ w
part_le w m n p e =
    let y : w ≡ (w / 2 ^ (n + m) * 2 ^ n + p) * 2 ^ m + w % 2 ^ m = rw e (apart w n m) in
    let d : (w / 2 ^ (n + m) * 2 ^ n + p) * 2 ^ m ≡ w / 2 ^ (n + m) * 2 ^ n * 2 ^ m + p * 2 ^ m = add-mul
    (w / 2 ^ (n + m) * 2 ^ n) p (2 ^ m) in
    omega arith

pub put_lt : (w r n v : ℕ) → num_of (sets (bits_n 64 w) r (bits_n n v)) < 2 ^ 64
put_lt w r n v =
    let k : length (sets (bits_n 64 w) r (bits_n n v)) ≡ 64 = rw (length-sets, length_bits_n) in
    rw k at (num_lt (sets (bits_n 64 w) r (bits_n n v)) (sets_bits (bits_n n v) (bits_n 64 w) r (bits_bits_n n v) (bits_bits_n 64 w)))

-- ---- a number with a part put, put

after : (j m : ℕ) (l : List ℕ) → j ≤ m → drop j (take m l) ++ drop m l ≡ drop j l
after zero m l h = take_drop m l
after (suc j) zero l h = absurd (omega arith)
after (suc j) (suc m) [] h = refl
after (suc j) (suc m) (x ∷ l) h = after j m l (omega arith)

dropped : (p m : ℕ) (l : List ℕ) → drop m (drop p l) ≡ drop (p + m) l
dropped p m l = rw drop-drop

sets_in : (l : List ℕ) (p m r : ℕ) (bs : List ℕ) → p + m ≤ length l → r + length bs ≤ m
    → sets l p (sets (take m (drop p l)) r bs) ≡ sets l (p + r) bs
sets_in l p m r bs h g =
    let t : length (take m (drop p l)) ≡ m = length_part l p m h in
    let k : length (sets (take m (drop p l)) r bs) ≡ m = rw (length-sets, t) in
    let a : sets (take m (drop p l)) r bs ≡ take r (drop p l) ++ bs ++ drop (r + length bs) (take m (drop p l)) =
    sets-eq bs (take m (drop p l)) r (omega arith) ∙ rw (take-take r m (drop p l) (omega arith)) in
    let b : sets l p (sets (take m (drop p l)) r bs) ≡ take p l ++ sets (take m (drop p l)) r bs ++ drop (p + m) l =
    sets-eq (sets (take m (drop p l)) r bs) l p (omega arith) ∙ rw k in
    let d : drop (r + length bs) (take m (drop p l)) ++ drop (p + m) l ≡ drop (p + (r + length bs)) l = ap
    (λ (y : List ℕ). drop (r + length bs) (take m (drop p l)) ++ y) (sym (dropped p m l)) ∙ after (r + length bs) m
    (drop p l) g ∙ dropped p (r + length bs) l in
    let e : p + (r + length bs) ≡ p + r + length bs = omega arith in
    b ∙ rw (
      a,
      ← append_assoc,
      ← append_assoc,
      append_assoc (take p l ++ take r (drop p l) ++ bs)
          (drop (r + length bs) (take m (drop p l))) (drop (p + m) l),
      d,
      e,
      ← take-add,
    )
    (sym (sets-eq bs l (p + r) (omega arith)))

pub put_in : (s z : List ℕ) (q r at n w v x : ℕ) → Bytes s → at ≡ 8 * q + r → r + n ≤ 64 → q + 8 ≤ length s
    → w ≡ num_of (run s (8 * q) 64) → x ≡ num_of (sets (bits_n 64 w) r (bits_n n v)) → z ≡ put_bits s (8 * q) (bits_n 64 x)
    → z ≡ put_bits s at (bits_n n v)
unfolding run
put_in s z q r at n w v x hs a h g e f p =
    let k : length (sets (bits_n 64 w) r (bits_n n v)) ≡ 64 = rw (length-sets, length_bits_n) in
    let y : bits_n 64 x ≡ sets (bits_n 64 w) r (bits_n n v) = ap (bits_n 64) f ∙ rw k at (bits_n_num
    (sets (bits_n 64 w) r (bits_n n v)) (sets_bits (bits_n n v) (bits_n 64 w) r (bits_bits_n n v) (bits_bits_n 64 w)))
    in
    let o : bits_n 64 w ≡ take 64 (drop (8 * q) (bits_of s)) = sym (run_bits s (8 * q) 64 (omega arith) ∙ ap (bits_n 64) (sym e)) in
    let lb : length (bits_of s) ≡ 8 * length s = length_bits_is s in
    let ln = length_bits_n n v in
    let lx = length_bits_n 64 x in
    p ∙ rw a (same_bytes (put_bits s (8 * q) (bits_n 64 x)) (put_bits s (8 * q + r) (bits_n n v))
    (bytes_put (bits_n 64 x) s (8 * q) (bits_bits_n 64 x) hs) (bytes_put (bits_n n v) s (8 * q + r) (bits_bits_n n v) hs)
    (length_put _ _ _ ∙ sym (length_put _ _ _))
    (bits_put (bits_n 64 x) s (8 * q) (bits_bits_n 64 x) (omega arith) ∙ rw
    (y, o, sets_in (bits_of s) (8 * q) 64 r (bits_n n v) (omega arith) (omega arith))
    (sym (bits_put (bits_n n v) s (8 * q + r) (bits_bits_n n v) (omega arith)))))
