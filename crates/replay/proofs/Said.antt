-- What was said is there when it is asked for: of a job, and of a number of the book.
-- Assumes nothing.
use mathlib.Core.Path.{◌≡◌, refl, sym, subst, ap, ◌∙◌}
use mathlib.Core.Bool.{Bool, true, false, cond}
use mathlib.Core.List.{List}
use Prim.Native.Nat.{ℕ, zero, suc, ◌+◌, ◌≤◌, ◌<◌}
use native.Mathlib.Omega.{arith}
use borrow.Author.Tests.{eq-eqb, ne_eqb, lt-ltb, le-ltb, lt-leb, ltb-false}
use lib.Dec.{eqb, leb, ltb}
use lib.ListN.{length, get_or, set, length-set}
use Rattle.replay.specs.Watched.{held, of_side, looked, kept, job_at, said_at, found_in, is_known, agrees_with, learned, is_open_in, marked}
use Rattle.tables.proofs.Tables.{get_same, get_other}

-- ---- places

pub looked_same : (w : List ℕ) (air : Bool) (a v : ℕ) → length w ≡ 65792 → a < 32896 → looked (kept w air a v) air a ≡ v
looked_same w true a v l h = get_same w a v (omega (arith, l, h))
looked_same w false a v l h = rw (le-ltb 32895 a (omega (arith, h)), get_same w (a + 32896) v (omega (arith, l, h)))

pub looked_other : (w : List ℕ) (air : Bool) (a b v : ℕ) → a < 32896 → b < 32896 → (b ≡ a → ⊥)
    → looked (kept w air a v) air b ≡ looked w air b
looked_other w true a b v h g n = get_other w a b v n
looked_other w false a b v h g n =
    rw (
      le-ltb 32895 a (omega (arith, h)),
      le-ltb 32895 b (omega (arith, g)),
      get_other w (a + 32896) (b + 32896) v
          (λ (e : b + 32896 ≡ a + 32896). n (omega (arith, e))),
    )

pub length_kept : (w : List ℕ) (air : Bool) (a v : ℕ) → length (kept w air a v) ≡ length w
length_kept w air a v = length-set w (of_side air a) v

-- ---- the book

pub open_there : (w : List ℕ) (air : Bool) (d n : ℕ) → length w ≡ 65792 → n < 64 → (d ≡ 0 → ⊥) → is_open_in (marked w air n d) air d n ≡ true
open_there w air d n l h e =
    rw (lt-leb 64 n h, ne_eqb d 0 e, lt-ltb n 64 h, looked_same w air (16 + n) d l (omega (arith, h)), eq-eqb d d refl)

pub closed_there : (w : List ℕ) (air : Bool) (d n : ℕ) → length w ≡ 65792 → n < 64 → (d ≡ 0 → ⊥)
    → is_open_in (marked w air n 0) air d n ≡ false
closed_there w air d n l h e =
    rw (
      lt-leb 64 n h,
      ne_eqb d 0 e,
      lt-ltb n 64 h,
      looked_same w air (16 + n) 0 l (omega (arith, h)),
      ne_eqb 0 d
          (λ (q : 0 ≡ d). e (sym q)),
    )

-- ---- a job

pub job_same : (w : List ℕ) (air : Bool) (k v : ℕ) → length w ≡ 65792 → k < 16384 → job_at (kept w air (128 + k) v) air k ≡ v
job_same w air k v l h = rw (lt-leb 16384 k h, looked_same w air (128 + k) v l (omega (arith, h)))

pub job_other : (w : List ℕ) (air : Bool) (a v k : ℕ) → a < 32896 → k < 16384 → (128 + k ≡ a → ⊥)
    → job_at (kept w air a v) air k ≡ job_at w air k
job_other w air a v k g h n = rw (lt-leb 16384 k h, looked_other w air a (128 + k) v g (omega (arith, h)) n)

pub said_same : (w : List ℕ) (air : Bool) (k v : ℕ) → length w ≡ 65792 → k < 16384 → said_at (kept w air (16512 + k) v) air k ≡ v
said_same w air k v l h = rw (lt-leb 16384 k h, looked_same w air (16512 + k) v l (omega (arith, h)))

pub said_other : (w : List ℕ) (air : Bool) (a v k : ℕ) → a < 32896 → k < 16384 → (16512 + k ≡ a → ⊥)
    → said_at (kept w air a v) air k ≡ said_at w air k
said_other w air a v k g h n = rw (lt-leb 16384 k h, looked_other w air a (16512 + k) v g (omega (arith, h)) n)

pub found_le : (w : List ℕ) (air : Bool) (job n : ℕ) → found_in w air job n ≤ n
found_le w air job zero = omega arith
found_le w air job (suc n) = go (ltb (found_in w air job n) n) (eqb (job_at w air n) job) (found_le w air job n)
  where
    go : (b e : Bool) → found_in w air job n ≤ n → cond b (found_in w air job n) (cond e n (suc n)) ≤ suc n
    go true e h = omega (arith, h)
    go false true h = omega arith
    go false false h = omega arith

-- a place that is none of the first k jobs' does not change which one is found
pub found_other : (w : List ℕ) (air : Bool) (job a v k : ℕ) → a < 32896 → k ≤ 16384 → ((i : ℕ) → i < k → 128 + i ≡ a → ⊥)
    → found_in (kept w air a v) air job k ≡ found_in w air job k
found_other w air job a v zero g h n = refl
found_other w air job a v (suc k) g h n =
    rw (
      found_other w air job a v k g (omega (arith, h)) (λ (i : ℕ) (b : i < k). n i (omega (arith, b))),
      job_other w air a v k g (omega (arith, h)) (n k (omega arith)),
    )

abbrev put : List ℕ → Bool → ℕ → ℕ → ℕ → List ℕ
put w air n job said = kept (kept (kept w air (128 + n) job) air (16512 + n) said) air 8 (n + 1)

length_two : (w : List ℕ) (air : Bool) (a b u v : ℕ) → length w ≡ 65792 → length (kept (kept w air a u) air b v) ≡ 65792
length_two w air a b u v l = length_kept (kept w air a u) air b v ∙ (length_kept w air a u ∙ l)

found_put : (w : List ℕ) (air : Bool) (job said n : ℕ) → n < 16384 → found_in w air job n ≡ n → found_in (put w air n job said) air job n ≡ n
found_put w air job said n h f =
    found_other (kept (kept w air (128 + n) job) air (16512 + n) said) air job 8 (n + 1) n (omega arith)
    (omega (arith, h)) (λ (i : ℕ) (g : i < n) (e : 128 + i ≡ 8). omega (arith, e))
    ∙ (found_other (kept w air (128 + n) job) air job (16512 + n) said n (omega (arith, h)) (omega (arith, h))
    (λ (i : ℕ) (g : i < n) (e : 128 + i ≡ 16512 + n). omega (arith, g, e))
    ∙ (found_other w air job (128 + n) job n (omega (arith, h)) (omega (arith, h))
    (λ (i : ℕ) (g : i < n) (e : 128 + i ≡ 128 + n). omega (arith, g, e)) ∙ f))

job_put : (w : List ℕ) (air : Bool) (job said n : ℕ) → length w ≡ 65792 → n < 16384 → job_at (put w air n job said) air n ≡ job
job_put w air job said n l h =
    job_other (kept (kept w air (128 + n) job) air (16512 + n) said) air 8 (n + 1) n (omega arith) h (λ (e : 128 + n ≡ 8). omega (arith, e))
    ∙ (job_other (kept w air (128 + n) job) air (16512 + n) said n (omega (arith, h)) h
    (λ (e : 128 + n ≡ 16512 + n). omega (arith, e)) ∙ job_same w air n job l h)

said_put : (w : List ℕ) (air : Bool) (job said n : ℕ) → length w ≡ 65792 → n < 16384 → said_at (put w air n job said) air n ≡ said
said_put w air job said n l h =
    said_other (kept (kept w air (128 + n) job) air (16512 + n) said) air 8 (n + 1) n (omega arith) h
    (λ (e : 16512 + n ≡ 8). omega (arith, e))
    ∙ said_same (kept w air (128 + n) job) air n said (length_kept w air (128 + n) job ∙ l) h

count_put : (w : List ℕ) (air : Bool) (job said n : ℕ) → length w ≡ 65792 → looked (put w air n job said) air 8 ≡ suc n
count_put w air job said n l =
    let q : n + 1 ≡ suc n = omega arith in
    looked_same (kept (kept w air (128 + n) job) air (16512 + n) said) air 8 (n + 1)
    (length_two w air (128 + n) (16512 + n) job said l) (omega arith) ∙ q

turn_put : (w : List ℕ) (air : Bool) (job said n : ℕ) → length w ≡ 65792 → n < 16384 → found_in w air job n ≡ n
    → found_in (put w air n job said) air job (suc n) ≡ n
turn_put w air job said n l h f = rw
    (found_put w air job said n h f, le-ltb n n (omega arith), job_put w air job said n l h, eq-eqb job job refl)

there_put : (w : List ℕ) (air : Bool) (job said x n : ℕ) → length w ≡ 65792 → n < 16384 → found_in w air job n ≡ n
    → agrees_with (put w air n job said) air job x ≡ eqb said x
there_put w air job said x n l h f =
    rw (count_put w air job said n l, turn_put w air job said n l h f, lt-ltb n (suc n) (omega arith), said_put w air job said n l h)

-- what was said of a job is what the next line about it is held against
pub learned_there : (w : List ℕ) (air : Bool) (job said x : ℕ) → length w ≡ 65792 → is_known w air job ≡ false → looked w air 8 < 16384
    → agrees_with (learned w air job said).watch air job x ≡ eqb said x
unfolding learned
learned_there w air job said x l k h =
    rw (k, lt-leb 16384 (looked w air 8) h)
    (there_put w air job said x (looked w air 8) l h (omega (
      arith,
      found_le w air job (looked w air 8),
      ltb-false
          (found_in w air job (looked w air 8)) (looked w air 8) k,
    )))
