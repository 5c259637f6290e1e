-- Laws of the open numbers as one number: trailing zeros of its complement are the lowest free number, its ones are the open count, and a bit is put in
-- or taken out with the job.
-- Assumes nothing.
use mathlib.Core.Path.{◌≡◌, refl, ap, sym, ◌∙◌}
use mathlib.Core.List.{List, [], ◌∷◌}
use Prim.Native.Nat.{ℕ, zero, suc, ◌+◌, ◌-◌, ◌*◌, ◌/◌, ◌%◌, ◌^◌, ◌≤◌, ◌<◌}
use native.Mathlib.Omega.{arith}
use native.Mathlib.Nat.{pow-suc, mul_assoc, mul_comm}
use lib.ListN.{length, get_or, set}
use lib.Pow.{shl_exact}
use lib.Count.{ones, ones_step, count_trailing_zeros}
use Rattle.book.specs.Books.{mark, marks, lowest_free, open_count}

pub mark_lt : (j : ℕ) → mark j < 2
mark_lt zero = omega arith
mark_lt (suc j) = omega arith

pub mark_zero : (j : ℕ) → j ≡ 0 → mark j ≡ 0
mark_zero zero e = refl
mark_zero (suc j) e = absurd (omega arith)

pub mark_one : (j : ℕ) → (j ≡ 0 → ⊥) → mark j ≡ 1
mark_one zero e = absurd (e refl)
mark_one (suc j) e = refl

pub marks_nil : marks [] ≡ 0
unfolding marks
marks_nil = refl

pub marks_cons : (j : ℕ) (js : List ℕ) → marks (j ∷ js) ≡ mark j + 2 * marks js
unfolding marks
marks_cons j js = refl

-- n numbers are n bits
pub marks_lt : (js : List ℕ) → marks js < 2 ^ length js
marks_lt [] = rw marks_nil (omega arith)
marks_lt (j ∷ js) =
    let r = marks_lt js in
    let m = mark_lt j in
    rw (marks_cons j js, pow-suc 2 (length js)) (omega arith)

-- ---- the lowest free number

-- the complement of one bit more: its lowest digit, and the rest
low_digit : (m p : ℕ) → m < p → (p * 2 - 1 - (0 + 2 * m)) % 2 ≡ 1
low_digit m p h = omega arith

low_even : (m p : ℕ) → m < p → (p * 2 - 1 - (1 + 2 * m)) % 2 ≡ 0
low_even m p h = omega arith

low_rest : (m p : ℕ) → m < p → (p * 2 - 1 - (1 + 2 * m)) / 2 ≡ p - 1 - m
low_rest m p h = omega arith

-- trailing zeros of the complement
pub zeros_free : (js : List ℕ) → count_trailing_zeros (length js) (2 ^ length js - 1 - marks js) ≡ lowest_free js
unfolding count_trailing_zeros lowest_free marks
zeros_free [] = refl
zeros_free (zero ∷ js) = rw (pow-suc 2 (length js), low_digit (marks js) (2 ^ length js) (marks_lt js))
zeros_free (suc j ∷ js) =
    rw (
      pow-suc 2 (length js),
      low_even (marks js) (2 ^ length js) (marks_lt js),
      low_rest (marks js) (2 ^ length js)
          (marks_lt js),
    ) (ap suc (zeros_free js))

-- it is free, and every lower one is open
pub free_le : (js : List ℕ) → lowest_free js ≤ length js
unfolding lowest_free
free_le [] = omega arith
free_le (zero ∷ js) = omega arith
free_le (suc j ∷ js) = omega (arith, free_le js)

pub free_closed : (js : List ℕ) → lowest_free js < length js → get_or js (lowest_free js) 0 ≡ 0
unfolding lowest_free
free_closed [] h = absurd (omega arith)
free_closed (zero ∷ js) h = refl
free_closed (suc j ∷ js) h = free_closed js (omega arith)

pub lower_open : (js : List ℕ) (n : ℕ) → n < lowest_free js → get_or js n 0 ≡ 0 → ⊥
unfolding lowest_free
lower_open [] n h e = omega arith
lower_open (zero ∷ js) n h e = omega arith
lower_open (suc j ∷ js) zero h e = omega arith
lower_open (suc j ∷ js) (suc n) h e = lower_open js n (omega arith) e

-- ---- the open count

ones_zero : ones 0 ≡ 0
unfolding ones
ones_zero = refl

pub ones_count : (js : List ℕ) → ones (marks js) ≡ open_count js
unfolding open_count
ones_count [] = rw marks_nil ones_zero
ones_count (j ∷ js) =
    let b = mark_lt j in
    let l : (mark j + 2 * marks js) % 2 ≡ mark j = omega arith in
    let r : (mark j + 2 * marks js) / 2 ≡ marks js = omega arith in
    rw (marks_cons j js, ones_step (mark j + 2 * marks js), l, r, ones_count js)

pub count_le : (js : List ℕ) → open_count js ≤ length js
unfolding open_count
count_le [] = omega arith
count_le (j ∷ js) = omega (arith, count_le js, mark_lt j)

-- all are open exactly where none is free
pub count_free : (js : List ℕ) → lowest_free js ≡ length js → open_count js ≡ length js
unfolding open_count lowest_free
count_free [] h = refl
count_free (zero ∷ js) h = absurd (omega arith)
count_free (suc j ∷ js) h = omega (arith, count_free js (omega arith))

pub free_count : (js : List ℕ) → open_count js ≡ length js → lowest_free js ≡ length js
unfolding open_count lowest_free
free_count [] h = refl
free_count (zero ∷ js) h = absurd (omega (arith, count_le js))
free_count (suc j ∷ js) h = ap suc (free_count js (omega arith))

-- ---- as the code has them

pub bit_is : (n : ℕ) → n < 64 → 1 * 2 ^ n % 2 ^ 64 ≡ 2 ^ n
bit_is n h = shl_exact {a = 1} 1 n 64 (omega arith) (omega arith) ∙ omega arith

-- ---- a job put at a number: one law for opening and closing

doubled : (a n : ℕ) → a * 2 ^ suc n ≡ 2 * (a * 2 ^ n)
doubled a n = ap (λ (x : ℕ). a * x) (pow-suc 2 n) ∙ sym (mul_assoc a (2 ^ n) 2) ∙ mul_comm (a * 2 ^ n) 2

pub marks_set : (js : List ℕ) (n v : ℕ) → n < length js → marks (set js n v) + mark (get_or js n 0) * 2 ^ n ≡ marks js + mark v * 2 ^ n
marks_set [] n v h = absurd (omega arith)
marks_set (j ∷ js) zero v h = rw (marks_cons v js, marks_cons j js) (omega arith)
marks_set (j ∷ js) (suc n) v h =
    let r = marks_set js n v (omega arith) in
    let p : mark (get_or js n 0) * 2 ^ suc n ≡ 2 * (mark (get_or js n 0) * 2 ^ n) = doubled (mark (get_or js n 0)) n in
    let q : mark v * 2 ^ suc n ≡ 2 * (mark v * 2 ^ n) = doubled (mark v) n in
    rw (marks_cons j (set js n v), marks_cons j js) (omega arith)

-- opening: the bit of a free number is put in
pub marks_open : (js : List ℕ) (n v : ℕ) → n < length js → get_or js n 0 ≡ 0 → (v ≡ 0 → ⊥) → marks js + 2 ^ n ≡ marks (set js n v)
marks_open js n v h e g =
    let s = rw (mark_zero (get_or js n 0) e, mark_one v g) at (marks_set js n v h) in
    omega arith

-- closing: that of an open one is taken out
pub marks_close : (js : List ℕ) (n : ℕ) → n < length js → (get_or js n 0 ≡ 0 → ⊥) → marks js ≡ marks (set js n 0) + 2 ^ n
marks_close js n h e =
    let s = rw (mark_one (get_or js n 0) e) at (marks_set js n 0 h) in
    omega arith
