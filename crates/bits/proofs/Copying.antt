-- Laws of a run of bits that is copied: a copy reads at the new place as it read at the old one.
-- Assumes nothing.
use mathlib.Core.Path.{◌≡◌, ap, sym, ◌∙◌}
use mathlib.Core.Bool.{false}
use mathlib.Core.List.{List, ◌∷◌, ◌++◌, append_assoc, append-nil}
use Prim.Native.Nat.{ℕ, suc, ◌+◌, ◌-◌, ◌*◌, ◌/◌, ◌%◌, ◌^◌, ◌≤◌, ◌<◌}
use native.Mathlib.Omega.{arith}
use native.Mathlib.Decide.{dec_lt}
use native.Mathlib.Nat.{mod-eq_of_lt, zero-add}
use native.Mathlib.Numerals.{add-one}
use lib.Dec.{leb}
use lib.ListN.{length, get_or, drop, set, length-drop}
use lib.Seq.{sets, sets-eq, drop-length, drop-drop, drop-cons, take-append-le, drop-append-le}
use Rattle.bits.specs.Bits.{bits_n, bits_of, num_of, bits_to, run}
use Rattle.bits.specs.Put.{put_bits, left, copy_run, put_run, put_if}
use Rattle.bits.proofs.Numbers.{bits_n_split, bits_n_high, bits_n_part, bits_n_mod, length_bits_n, num_bits_n}
use Rattle.bits.proofs.Bytes.{bits_cons, bytes_drop, run_zero, run_add, run_bits, bits_run, length_run}
use Rattle.bits.proofs.Inside.{Within}
use Rattle.bits.proofs.Putting.{put_nil, put_append, number_in_byte, read_back}
use Rattle.std.specs.Prelude.{None, Some}

-- ---- runs in a row

-- two runs that stand one after the other, put one after the other
pub joined : (d s : List ℕ) (to at m n : ℕ) → at + m ≤ 8 * length s
    → put_bits (put_bits d to (run s at m)) (to + m) (run s (at + m) n) ≡ put_bits d to (run s at (m + n))
joined d s to at m n h = rw (run_add s at m n, put_append, length_run s at m h)

-- a run in two parts
pub in_two : (d x z s : List ℕ) (to at m n : ℕ) → m ≤ n → at + n ≤ 8 * length s → x ≡ put_bits d to (run s at m)
    → z ≡ put_bits x (to + m) (run s (at + m) (n - m)) → z ≡ put_bits d to (run s at n)
in_two d x z s to at m n h g p q =
    let e : m + (n - m) ≡ n = omega arith in
    q ∙ rw p (joined d s to at m (n - m) (omega arith)) ∙ ap (λ (k : ℕ). put_bits d to (run s at k)) e

pub none_left : (d s : List ℕ) (to at n : ℕ) → n ≡ 0 → put_bits d to (run s at n) ≡ d
none_left d s to at n e = rw (e, run_zero, put_nil)

-- at most 64 bits go as one number
pub as_number : (d z s : List ℕ) (to at n v : ℕ) → at + n ≤ 8 * length s → v ≡ num_of (run s at n)
    → z ≡ put_bits d to (bits_n n v) → z ≡ put_bits d to (run s at n)
as_number d z s to at n v h p e = e ∙ ap (put_bits d to) (rw p (sym (run_bits s at n h)))

-- a copy reads at the new place as it read at the old one
pub copy_reads : (d s : List ℕ) (to at n : ℕ) → to + n ≤ 8 * length d → at + n ≤ 8 * length s
    → run (put_bits d to (run s at n)) to n ≡ run s at n
copy_reads d s to at n hd hs =
    let k = length_run s at n hs in
    rw k at (read_back d to (run s at n) (bits_run s at n) (rw k hd))

-- ---- the head, whole bytes, and the rest

pub in_three : (d x y z s : List ℕ) (to at n h m : ℕ) → h + 8 * m ≤ n → at + n ≤ 8 * length s → (0 < m → 8 * ((to + h) / 8) ≡ to + h)
    → x ≡ put_bits d to (run s at h) → y ≡ put_bits x (8 * ((to + h) / 8)) (run s (at + h) (8 * m)) → z ≡ put_bits y
    (to + h + 8 * m) (run s (at + h + 8 * m) (n - h - 8 * m))
    → z ≡ put_bits d to (run s at n)
in_three d x y z s to at n h m f g aligned p q r =
    let b : put_bits x (8 * ((to + h) / 8)) (run s (at + h) (8 * m)) ≡ put_bits x (to + h) (run s (at + h) (8 * m)) = elim (dec_lt 0 m) [
      | yes k ↦ ap (λ (t : ℕ). put_bits x t (run s (at + h) (8 * m))) (aligned k)
      | no k ↦ let e : 8 * m ≡ 0 = omega arith in none_left x s _ (at + h) (8 * m) e ∙ sym (none_left x s _ (at + h) (8 * m) e)
    ] in
    let e : h + (8 * m + (n - h - 8 * m)) ≡ n = omega arith in
    r ∙ ap (λ (l : List ℕ). put_bits l (to + h + 8 * m) (run s (at + h + 8 * m) (n - h - 8 * m))) (q ∙ b)
    ∙ joined x s (to + h) (at + h) (8 * m) (n - h - 8 * m) (omega arith)
    ∙ ap (λ (l : List ℕ). put_bits l (to + h) (run s (at + h) (8 * m + (n - h - 8 * m)))) p
    ∙ joined d s to at h (8 * m + (n - h - 8 * m)) (omega arith) ∙ ap (λ (k : ℕ). put_bits d to (run s at k)) e

-- whole bytes, eight at a time and the rest
pub in_eights : (d x z s : List ℕ) (base at m : ℕ) → at + 8 * m ≤ 8 * length s
    → x ≡ put_bits d (8 * base) (run s at (64 * (m / 8)))
    → z ≡ put_bits x (8 * (base + 8 * (m / 8))) (run s (at + 64 * (m / 8)) (8 * (m % 8)))
    → z ≡ put_bits d (8 * base) (run s at (8 * m))
in_eights d x z s base at m h p q =
    let a : 8 * (base + 8 * (m / 8)) ≡ 8 * base + 64 * (m / 8) = omega arith in
    let e : 64 * (m / 8) + 8 * (m % 8) ≡ 8 * m = omega arith in
    q ∙ rw (p, a) (joined d s (8 * base) at (64 * (m / 8)) (8 * (m % 8)) (omega arith)) ∙ ap
    (λ (k : ℕ). put_bits d (8 * base) (run s at k)) e

-- ---- a turn of the loop over bytes

all_set : (vs l : List ℕ) → length l ≡ length vs → sets l 0 vs ≡ vs
all_set vs l h = sets-eq vs l 0 (omega arith) ∙ rw (zero-add (length vs), ← h, drop-length l) (append-nil vs)

-- a byte put at a byte's place is that byte set
pub put_byte : (d : List ℕ) (i x : ℕ) → x < 256 → i < length d → put_bits d (8 * i) (bits_n 8 x) ≡ set d i x
put_byte d i x h g =
    let q : 8 * i / 8 ≡ i = omega arith in
    let r : 8 * i % 8 ≡ 0 = omega arith in
    let e : sets (bits_n 8 (get_or d i 0)) 0 (bits_n 8 x) ≡ bits_n 8 x = all_set (bits_n 8 x) (bits_n 8 (get_or d i 0))
    (length_bits_n 8 (get_or d i 0) ∙ sym (length_bits_n 8 x)) in
    let v : num_of (bits_n 8 x) ≡ x = num_bits_n 8 x ∙ mod-eq_of_lt h in
    (rw (q, r) at (number_in_byte d (8 * i) 8 x (omega arith) (omega arith) (omega arith))) ∙ rw (e, v)

two : (a b : ℕ) → b < 256 → bits_n 16 (a * 256 + b) ≡ bits_n 8 a ++ bits_n 8 b
two a b h =
    let e : (a * 256 + b) / 2 ^ 8 ≡ a = omega arith in
    bits_n_split 8 8 (a * 256 + b) ∙ rw (e, bits_n_high 8 a b)

-- eight bits of two bytes
eight_bits : (s : List ℕ) (q r : ℕ) → r < 8 → q + 1 < length s → get_or s (q + 1) 0 < 256
    → run s (8 * q + r) 8 ≡ bits_n 8 ((get_or s q 0 * 256 + get_or s (q + 1) 0) / 2 ^ (8 - r))
unfolding run
eight_bits s q r h g b =
    let w : ℕ = get_or s q 0 * 256 + get_or s (q + 1) 0 in
    let u : drop q s ≡ get_or s q 0 ∷ (get_or s (q + 1) 0 ∷ drop (suc (suc q)) s) = drop-cons s q 0 (omega arith) ∙ rw
    (add-one, drop-cons s (suc q) 0 (omega arith)) in
    let k : r + (8 + (8 - r)) ≡ 16 = omega arith in
    let n : length (bits_n 16 w) ≡ 16 = length_bits_n 16 _ in
    let m : length (drop r (bits_n 16 w)) ≡ 16 - r = rw (length-drop, n) in
    let z : bits_of (drop q s) ≡ bits_n 16 w ++ bits_of (drop (suc (suc q)) s) = ap bits_of u ∙ rw
    (bits_cons, bits_cons, two (get_or s q 0) (get_or s (q + 1) 0) b, append_assoc) in
    rw (
      ← drop-drop,
      bytes_drop s q,
      z,
      drop-append-le r (bits_n 16 w) (bits_of (drop (suc (suc q)) s)) (omega arith),
      take-append-le 8 (drop r (bits_n 16 w)) (bits_of (drop (suc (suc q)) s)) (omega arith),
    )
    (rw k at (bits_n_part r 8 (8 - r) w))

run_eight : (s : List ℕ) (q r p x : ℕ) → p ≡ 8 * q + r → r < 8 → q + 1 < length s → get_or s (q + 1) 0 < 256
    → x ≡ (get_or s q 0 * 256 + get_or s (q + 1) 0) / 2 ^ (8 - r) % 256 → run s p 8 ≡ bits_n 8 x
run_eight s q r p x e h g b f = rw (e, f) (eight_bits s q r h g b ∙ sym (bits_n_mod 8 ((get_or s q 0 * 256 + get_or s (q + 1) 0) / 2 ^ (8 - r))))

pub byte_turn : (d d' z s : List ℕ) (base at m i a b x : ℕ) → i < m → at / 8 + m < length s → base + i < length d
    → a ≡ get_or s (at / 8 + i) 0 → b ≡ get_or s (at / 8 + i + 1) 0 → b < 256
    → x ≡ (a * 256 + b) / 2 ^ (8 - at % 8) % 256 → d' ≡ set d (base + i) x
    → put_bits d (8 * (base + i)) (run s (at + 8 * i) (8 * (m - i))) ≡ z → put_bits d' (8 * (base + (i + 1)))
    (run s (at + 8 * (i + 1)) (8 * (m - (i + 1)))) ≡ z
byte_turn d d' z s base at m i a b x h g l p q hb e f inv =
    let k : 8 * (m - i) ≡ 8 + 8 * (m - (i + 1)) = omega arith in
    let t : at + 8 * i + 8 ≡ at + 8 * (i + 1) = omega arith in
    let u : 8 * (base + i) + 8 ≡ 8 * (base + (i + 1)) = omega arith in
    let w : at + 8 * i ≡ 8 * (at / 8 + i) + at % 8 = omega arith in
    let hx : x < 256 = omega arith in
    let hq : get_or s (at / 8 + i + 1) 0 < 256 = rw (← q) hb in
    let y : run s (at + 8 * i) 8 ≡ bits_n 8 x = run_eight s (at / 8 + i) (at % 8) (at + 8 * i) x w (omega arith)
    (omega arith) hq (e ∙ rw (p, q)) in
    let j : put_bits d (8 * (base + i)) (bits_n 8 x ++ run s (at + 8 * (i + 1)) (8 * (m - (i + 1)))) ≡ z = rw (k, run_add, t, y) at inv in
    rw f (rw (put_append, length_bits_n 8 x, u, put_byte d (base + i) x hx l) at j)

pub byte_start : (d s : List ℕ) (base at m : ℕ)
    → put_bits d (8 * (base + 0)) (run s (at + 8 * 0) (8 * (m - 0))) ≡ put_bits d (8 * base) (run s at (8 * m))
byte_start d s base at m =
    let e : m - 0 ≡ m = omega arith in
    let f : at + 8 * 0 ≡ at = omega arith in
    let g : base + 0 ≡ base = omega arith in
    rw (e, f, g)

-- ---- the answers of the copier, as the code has them

pub is_copied : (d z s : List ℕ) (e to f at n : ℕ) → Within s f at n → Within d e to n → z ≡ put_bits d to (run s at n)
    → left (Some (to + n)) z ≡ copy_run d e to s f at n
unfolding copy_run put_if put_run
is_copied d z s e to f at n ws wd h = rw (ws.test, length_run s at n ws.bytes, wd.test, h)

pub no_room : (d s : List ℕ) (e to f at n : ℕ) → Within s f at n → leb (to + n) (length (bits_to d e)) ≡ false
    → left None d ≡ copy_run d e to s f at n
unfolding copy_run put_if put_run
no_room d s e to f at n ws wd = rw (ws.test, length_run s at n ws.bytes, wd)

pub not_there : (d s : List ℕ) (e to f at n : ℕ) → leb (at + n) (length (bits_to s f)) ≡ false → left None d ≡ copy_run d e to s f at n
unfolding copy_run put_if
not_there d s e to f at n h = rw h
