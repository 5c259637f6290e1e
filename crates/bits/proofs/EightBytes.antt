-- Laws of eight bytes as one number.
-- Assumes nothing.
use mathlib.Core.Path.{◌≡◌, refl, ap, sym, ◌∙◌}
use mathlib.Core.List.{List, [], ◌∷◌, ◌++◌}
use Prim.Native.Nat.{ℕ, zero, suc, ◌+◌, ◌-◌, ◌*◌, ◌/◌, ◌%◌, ◌^◌, ◌≤◌, ◌<◌}
use native.Mathlib.Omega.{arith}
use native.Mathlib.Nat.{mul-mod_left}
use lib.ListN.{length, get_or, take, drop, set}
use lib.Pow.{mod-pow-add, shl-shr, shr_mod}
use lib.Seq.{take-take, take-nil, drop-drop}
use Rattle.bits.specs.Bits.{bits_n, bits_of, num_of, run}
use Rattle.bits.specs.Put.{put_bits}
use Rattle.bits.proofs.Numbers.{num_nil, num_bits_n, num_append, num_lt, bits_n_zero, bits_n_part, bits_n_take, bits_n_mod, bits_n_split, length_bits_n}
use Rattle.bits.proofs.Putting.{put_append, put_nil}
use Rattle.bits.proofs.Bytes.{run_zero, run_bits, run_add, run_in_byte, bits_run, length_run}
use Rattle.bits.proofs.Reading.{turn}
use Rattle.bits.proofs.Copying.{put_byte}

-- a byte more
pub word_turn : (s : List ℕ) (q i v b : ℕ) → q + i < length s → b ≡ get_or s (q + i) 0 → b < 256
    → v ≡ num_of (run s (8 * q) (8 * i)) → v * 256 + b ≡ num_of (run s (8 * q) (8 * (i + 1)))
word_turn s q i v b h e hb inv =
    let p : (8 * q + 8 * i) / 8 ≡ q + i = omega arith in
    let m : 8 - (8 * q + 8 * i) % 8 - 8 ≡ 0 = omega arith in
    let o : b ≡ b / 2 ^ 0 % 2 ^ 8 = omega arith in
    let z : b ≡ get_or s ((8 * q + 8 * i) / 8) 0 / 2 ^ (8 - (8 * q + 8 * i) % 8 - 8) % 2 ^ 8 = rw (p, m, ← e) o in
    let n : 8 * (i + 1) ≡ 8 * i + 8 = omega arith in
    rw n (turn s (8 * q) (8 * i) 8 v 256 b (omega arith) (omega arith) (omega arith) refl z inv)

part_to : (l : List ℕ) (e at n : ℕ) → at + n ≤ e → take n (drop at (take e l)) ≡ take n (drop at l)
part_to l e zero n h = take-take n e l (omega arith)
part_to [] e (suc at) n h = rw (take-nil e)
part_to (x ∷ l) zero (suc at) n h = absurd (omega arith)
part_to (x ∷ l) (suc e) (suc at) n h = part_to l e at n (omega arith)

-- a run within a run
sub_run : (s : List ℕ) (p m r n : ℕ) → r + n ≤ m → run s (p + r) n ≡ take n (drop r (run s p m))
unfolding run
sub_run s p m r n h = rw (part_to (drop p (bits_of s)) m r n h, drop-drop)

-- n bits within m bits that begin at a byte
pub in_word : (s : List ℕ) (m b r at n w v : ℕ) → at ≡ 8 * b + r → r + n ≤ m → 8 * b + m ≤ 8 * length s
    → w ≡ num_of (run s (8 * b) m) → v ≡ w / 2 ^ (m - r - n) % 2 ^ n → v ≡ num_of (run s at n)
in_word s m b r at n w v a h g e f =
    let k : r + (n + (m - r - n)) ≡ m = omega arith in
    let x : run s (8 * b) m ≡ bits_n m w = run_bits s (8 * b) m g ∙ ap (bits_n m) (sym e) in
    let y : take n (drop r (bits_n m w)) ≡ bits_n n (w / 2 ^ (m - r - n)) = rw k at (bits_n_part r n (m - r - n) w) in
    f ∙ rw (a, sub_run s (8 * b) m r n h, x, y, num_bits_n)

-- n bits within two bytes
pub in_two_bytes : (s : List ℕ) (at n x y v : ℕ) → at / 8 + 1 < length s → at % 8 + n ≤ 16 → x ≡ get_or s (at / 8) 0
    → x < 256 → y ≡ get_or s (at / 8 + 1) 0 → y < 256
    → v ≡ (x * 256 + y) / 2 ^ (16 - at % 8 - n) % 2 ^ n → v ≡ num_of (run s at n)
in_two_bytes s at n x y v h g e hx f hy k =
    let p : at / 8 + 0 ≡ at / 8 = omega arith in
    let one : x ≡ num_of (run s (8 * (at / 8)) 8) = let z : 0 * 256 + x ≡ x = omega arith in rw z at
    (word_turn s (at / 8) 0 0 x (omega arith) (rw p e) hx (sym (rw run_zero num_nil))) in
    let two : x * 256 + y ≡ num_of (run s (8 * (at / 8)) 16) = word_turn s (at / 8) 1 x y h f hy one in
    in_word s 16 (at / 8) (at % 8) at n (x * 256 + y) v (omega arith) g (omega arith) two k

-- ---- 64 bits of nine bytes

pub shl_cut : (w r : ℕ) → r ≤ 64 → w * 2 ^ r % 2 ^ 64 ≡ w % 2 ^ (64 - r) * 2 ^ r
shl_cut w r h =
    let e : 64 ≡ 64 - r + r = omega arith in
    ap (λ (k : ℕ). w * 2 ^ r % 2 ^ k) e ∙ mod-pow-add (w * 2 ^ r) (64 - r) r ∙ rw (shl-shr, mul-mod_left) (omega arith)

-- the first bits of a byte
first_of : (s : List ℕ) (p r b : ℕ) → p / 8 < length s → p % 8 ≡ 0 → r < 8 → b ≡ get_or s (p / 8) 0 → b < 256
    → b / 2 ^ (8 - r) ≡ num_of (run s p r)
first_of s p r b h a l e hb =
    let k : r + (8 - r) ≡ 8 = omega arith in
    let u : run s p r ≡ take r (drop (p % 8) (bits_n 8 (get_or s (p / 8) 0))) = run_in_byte s p r h (omega arith) in
    let t : take r (bits_n 8 b) ≡ bits_n r (b / 2 ^ (8 - r)) = rw k at (bits_n_take r (8 - r) b) in
    let hk : b < 2 ^ (r + (8 - r)) = rw k hb in
    rw (u, a, ← e, t, num_bits_n) (sym (shr_mod {n = b} r (8 - r) hk))

pub nine_is : (s : List ℕ) (q r w b : ℕ) → r < 8 → q + 9 ≤ length s → w ≡ num_of (run s (8 * q) 64)
    → b ≡ get_or s (q + 8) 0 → b < 256 → w * 2 ^ r % 2 ^ 64 + b / 2 ^ (8 - r) ≡ num_of (run s (8 * q + r) 64)
nine_is s q r w b h g e f hb =
    let k : 64 - r + r ≡ 64 = omega arith in
    let z : 64 - r - (64 - r) ≡ 0 = omega arith in
    let o : w % 2 ^ (64 - r) ≡ w / 2 ^ (64 - r - (64 - r)) % 2 ^ (64 - r) = rw z (ap (λ (n : ℕ). n % 2 ^ (64 - r)) (omega arith)) in
    let x : w % 2 ^ (64 - r) ≡ num_of (run s (8 * q + r) (64 - r)) = in_word s 64 q r (8 * q + r) (64 - r) w
    (w % 2 ^ (64 - r)) refl (omega arith) (omega arith) e o in
    let p : (8 * q + r + (64 - r)) / 8 ≡ q + 8 = omega arith in
    let y : b / 2 ^ (8 - r) ≡ num_of (run s (8 * q + r + (64 - r)) r) = first_of s (8 * q + r + (64 - r)) r b
    (omega arith) (omega arith) h (rw p f) hb in
    let n : length (run s (8 * q + r + (64 - r)) r) ≡ r = length_run s (8 * q + r + (64 - r)) r (omega arith) in
    rw (shl_cut w r (omega arith), x, y) (sym (ap (λ (j : ℕ). num_of (run s (8 * q + r) j)) (sym k) ∙ rw
    (run_add s (8 * q + r) (64 - r) r, num_append, n)))

-- a number that was read has no more bits than were read
pub run_lt : (s : List ℕ) (at n v : ℕ) → at + n ≤ 8 * length s → v ≡ num_of (run s at n) → v < 2 ^ n
run_lt s at n v h e = let l : num_of (run s at n) < 2 ^ n = rw (length_run s at n h) at (num_lt (run s at n) (bits_run s at n)) in rw e l

-- ---- eight bytes put

pub put_start : (d : List ℕ) (q w : ℕ) → put_bits d (8 * (q + 0)) (bits_n (64 - 8 * 0) w) ≡ put_bits d (8 * q) (bits_n 64 w)
put_start d q w =
    let e : q + 0 ≡ q = omega arith in
    rw e

pub put_turn : (d d' z : List ℕ) (q i w x : ℕ) → i < 8 → q + i < length d → x ≡ w / 2 ^ (56 - 8 * i) % 256
    → d' ≡ set d (q + i) x → put_bits d (8 * (q + i)) (bits_n (64 - 8 * i) w) ≡ z
    → put_bits d' (8 * (q + (i + 1))) (bits_n (64 - 8 * (i + 1)) w) ≡ z
put_turn d d' z q i w x h g e f inv =
    let k : 64 - 8 * i ≡ 8 + (56 - 8 * i) = omega arith in
    let m : 64 - 8 * (i + 1) ≡ 56 - 8 * i = omega arith in
    let u : 8 * (q + i) + 8 ≡ 8 * (q + (i + 1)) = omega arith in
    let hx : x < 256 = omega arith in
    let y : bits_n 8 (w / 2 ^ (56 - 8 * i)) ≡ bits_n 8 x = sym (bits_n_mod 8 (w / 2 ^ (56 - 8 * i))) ∙ ap (bits_n 8) (sym e) in
    let j : put_bits d (8 * (q + i)) (bits_n 8 x ++ bits_n (56 - 8 * i) w) ≡ z = rw (k, bits_n_split 8 (56 - 8 * i) w, y) at inv in
    rw (f, m) (rw (put_append, length_bits_n 8 x, u, put_byte d (q + i) x hx g) at j)

pub put_done : (d : List ℕ) (q i w : ℕ) → i ≡ 8 → put_bits d (8 * (q + i)) (bits_n (64 - 8 * i) w) ≡ d
put_done d q i w e =
    let m : 64 - 8 * i ≡ 0 = omega arith in
    rw (m, bits_n_zero, put_nil)

-- ---- a turn of the loop over eights

pub eights_start : (d s : List ℕ) (base at m : ℕ)
    → put_bits d (8 * (base + 8 * 0)) (run s (at + 64 * 0) (64 * (m - 0))) ≡ put_bits d (8 * base) (run s at (64 * m))
eights_start d s base at m =
    let e : m - 0 ≡ m = omega arith in
    let f : at + 64 * 0 ≡ at = omega arith in
    let g : base + 8 * 0 ≡ base = omega arith in
    rw (e, f, g)

pub eights_turn : (d d' z s : List ℕ) (base at m i x : ℕ) → i < m → at + 64 * m ≤ 8 * length s
    → x ≡ num_of (run s (8 * (at / 8 + 8 * i) + at % 8) 64) → d' ≡ put_bits d (8 * (base + 8 * i)) (bits_n 64 x)
    → put_bits d (8 * (base + 8 * i)) (run s (at + 64 * i) (64 * (m - i))) ≡ z → put_bits d' (8 * (base + 8 * (i + 1)))
    (run s (at + 64 * (i + 1)) (64 * (m - (i + 1)))) ≡ z
eights_turn d d' z s base at m i x h g e f inv =
    let k : 64 * (m - i) ≡ 64 + 64 * (m - (i + 1)) = omega arith in
    let t : at + 64 * i + 64 ≡ at + 64 * (i + 1) = omega arith in
    let u : 8 * (base + 8 * i) + 64 ≡ 8 * (base + 8 * (i + 1)) = omega arith in
    let p : 8 * (at / 8 + 8 * i) + at % 8 ≡ at + 64 * i = omega arith in
    let y : run s (at + 64 * i) 64 ≡ bits_n 64 x = run_bits s (at + 64 * i) 64 (omega arith) ∙ ap (bits_n 64) (sym (rw p at e)) in
    let j : put_bits d (8 * (base + 8 * i)) (bits_n 64 x ++ run s (at + 64 * (i + 1)) (64 * (m - (i + 1)))) ≡ z = rw
    (k, run_add, t, y) at inv in
    rw f (rw (put_append, length_bits_n 64 x, u) at j)

-- two numbers of 32 bits, one after the other
pub halves : (s : List ℕ) (q a b : ℕ) → q + 8 ≤ length s → a ≡ num_of (run s (8 * q) 32)
    → b ≡ num_of (run s (8 * (q + 4)) 32) → a * 4294967296 + b ≡ num_of (run s (8 * q) 64)
halves s q a b h e g =
    let k : 8 * (q + 4) ≡ 8 * q + 32 = omega arith in
    let n : length (run s (8 * q + 32) 32) ≡ 32 = length_run s (8 * q + 32) 32 (omega arith) in
    rw (e, g, k) (sym (rw (run_add s (8 * q) 32 32, num_append, n)))
