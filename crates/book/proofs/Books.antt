-- A book is the bytes of its jobs; and the ways out of each call, as the code has them.
-- Assumes nothing.
use mathlib.Core.Path.{◌≡◌, refl, ap, sym, ◌∙◌}
use mathlib.Core.Bool.{Bool, true, false, cond}
use mathlib.Core.List.{List, [], ◌∷◌, ◌++◌, append-nil}
use Prim.Native.Nat.{ℕ, suc, ◌+◌, ◌-◌, ◌*◌, ◌^◌, ◌≤◌, ◌<◌}
use native.Mathlib.Omega.{arith}
use borrow.Author.Tests.{eq-eqb, ne_eqb, eqb-true}
use lib.Dec.{eqb}
use lib.Count.{ones, count_trailing_zeros}
use lib.ListN.{length, get_or, set, drop, replicate, length-set, drop_of_length-le, get_or-eq_default}
use lib.Seq.{take_at, drop_at, drop-cons, sets}
use lib.Pow.{pow_mono}
use native.Mathlib.Nat.{mod-eq_of_lt, pow-suc}
use Rattle.words.proofs.Laws.{both_left, both_right}
use Rattle.book.specs.Books.{octets, eight_at, eights_in, eights, mark, marks, lowest_free, book_of, jobs_in, is_book, load_at, left, empty_at, opening, open_at, closing, close_at, count_at, job_at}
use Rattle.book.specs.declared.BookRefusal.TheVariants.{Shape, AllOpen, NotOpen}
use Rattle.book.specs.declared.BookRefusal.{BookRefusal}
use Rattle.book.proofs.Eights.{Bytes, Wide, length_octets, number_octets, eight_of, eight_drop, length_in, length_eights, eights_back, eights_read, eights_set}
use Rattle.book.proofs.Marks.{marks_nil, marks_cons, marks_lt, zeros_free, free_le, free_closed, ones_count, marks_open, marks_close}
use Rattle.std.specs.Prelude.{Err, Ok, Result}

-- ---- a book and its jobs

pub length_jobs : (b : List ℕ) → length (jobs_in b) ≡ 64
unfolding jobs_in
length_jobs b = length_in 64 (drop 8 b)

-- the job of number n stands at byte 8 (n + 1)
pub job_place : (b : List ℕ) (n : ℕ) → n < 64 → get_or (jobs_in b) n 0 ≡ eight_at b (8 * (n + 1))
unfolding jobs_in
job_place b n h =
    let e : 8 + 8 * n ≡ 8 * (n + 1) = omega arith in
    eight_of 64 (drop 8 b) n h ∙ eight_drop 8 (8 * n) b ∙ ap (eight_at b) e

in-suc : (n : ℕ) (b : List ℕ) → eights_in (suc n) b ≡ eight_at b 0 ∷ eights_in n (drop 8 b)
unfolding eights_in
in-suc n b = refl

-- bytes that are a book are those of their jobs
pub book_is : (b : List ℕ) → Bytes b → is_book b ≡ true → book_of (jobs_in b) ≡ b
unfolding is_book book_of jobs_in
book_is b h t =
    let l : length b ≡ 520 = eqb-true (length b) 520 (both_left _ (eqb (eight_at b 0) (marks (eights_in 64 (drop 8 b)))) t) in
    let e : eight_at b 0 ≡ marks (eights_in 64 (drop 8 b)) = eqb-true _ _ (both_right (eqb (length b) 520) _ t) in
    ap (λ (w : ℕ). eights (w ∷ eights_in 64 (drop 8 b))) (sym e) ∙ ap eights (sym (in-suc 64 b)) ∙ eights_read 65 b h l

pub book_long : (b : List ℕ) → is_book b ≡ true → length b ≡ 520
unfolding is_book
book_long b t = eqb-true (length b) 520 (both_left _ (eqb (eight_at b 0) (marks (jobs_in b))) t)

-- the bytes of jobs are a book, with those jobs
first_back : (v : ℕ) (vs : List ℕ) → v < 2 ^ 64 → eight_at (eights (v ∷ vs)) 0 ≡ v
unfolding eight_at eights
first_back v vs h = rw (take_at (octets 8 v) (eights vs) 8 (length_octets 8 v)) (number_octets 8 v ∙ mod-eq_of_lt h)

rest_back : (v : ℕ) (vs : List ℕ) → drop 8 (eights (v ∷ vs)) ≡ eights vs
unfolding eights
rest_back v vs = drop_at (octets 8 v) (eights vs) 8 (length_octets 8 v)

module _ (js : List ℕ) (l : length js ≡ 64) (w : Wide js) where
  pub jobs_back : jobs_in (book_of js) ≡ js
  unfolding jobs_in book_of
  jobs_back = ap (eights_in 64) (rest_back (marks js) js) ∙ (rw l at (eights_back js w))

  pub length_book : length (book_of js) ≡ 520
  unfolding book_of
  length_book = rw (length_eights (marks js ∷ js), l)

  first : marks js < 2 ^ 64 → eight_at (book_of js) 0 ≡ marks js
  unfolding book_of
  first m = first_back (marks js) js m

  pub book_of_is : is_book (book_of js) ≡ true
  unfolding is_book
  book_of_is =
      let m : marks js < 2 ^ 64 = rw l at (marks_lt js) in
      let f : eight_at (book_of js) 0 ≡ marks (jobs_in (book_of js)) = first m ∙ ap marks (sym jobs_back) in
      rw (length_book, eq-eqb (eight_at (book_of js) 0) (marks (jobs_in (book_of js))) f)

-- ---- the open numbers and the job of one number, written

pub written : (b : List ℕ) (n v w : ℕ) (y z : List ℕ) → Bytes b → is_book b ≡ true → n < 64 → w ≡ marks (set (jobs_in b) n v)
    → y ≡ sets b 0 (octets 8 w) → z ≡ sets y (8 * (n + 1)) (octets 8 v) → z ≡ book_of (set (jobs_in b) n v)
unfolding book_of
written b n v w y z bs t h m p q =
    let js = jobs_in b in
    let e : b ≡ eights (marks js ∷ js) = sym (book_is b bs t) in
    let l : 0 < length (marks js ∷ js) = omega arith in
    let g : suc n < length (w ∷ js) = rw (length_jobs b) (omega arith) in
    let s : 8 * (n + 1) ≡ 8 * suc n = omega arith in
    q ∙ ap (λ (x : List ℕ). sets x (8 * (n + 1)) (octets 8 v))
    (p ∙ ap (λ (x : List ℕ). sets x 0 (octets 8 w)) e ∙ eights_set (marks js ∷ js) 0 w l)
    ∙ ap (λ (x : ℕ). sets (eights (w ∷ js)) x (octets 8 v)) s ∙ eights_set (w ∷ js) (suc n) v g ∙ ap (λ (x : ℕ). eights (x ∷ set js n v)) m

-- ---- a turn of the loop over the jobs, from the last to the first

pub marks_end : (b : List ℕ) → 0 ≡ marks (drop 64 (jobs_in b))
marks_end b =
    let d : drop 64 (jobs_in b) ≡ [] = drop_of_length-le (jobs_in b) {i = 64} (rw (length_jobs b) (omega arith)) in
    rw d (sym marks_nil)

pub marks_turn : (b : List ℕ) (i m e v : ℕ) → 0 < i → i ≤ 64 → m ≡ marks (drop i (jobs_in b)) → e ≡ eight_at b (8 * i) → v ≡ mark e
    → 2 * m + v ≡ marks (drop (i - 1) (jobs_in b))
marks_turn b i m e v pos le p q r =
    let s : suc (i - 1) ≡ i = omega arith in
    let a : i - 1 + 1 ≡ i = omega arith in
    let g : get_or (jobs_in b) (i - 1) 0 ≡ e = job_place b (i - 1) (omega arith) ∙ ap (λ (x : ℕ). eight_at b (8 * x)) a ∙ sym q in
    let d : drop (i - 1) (jobs_in b) ≡ e ∷ drop i (jobs_in b) = drop-cons (jobs_in b) (i - 1) 0
    (rw (length_jobs b) (omega arith)) ∙ rw (g, s) in
    rw (d, marks_cons e (drop i (jobs_in b)), ← p, ← r) (omega arith)

pub turn_fits : (m v i : ℕ) → m < 2 ^ (64 - i) → v < 2 → 0 < i → 2 * m + v < 2 ^ 64
turn_fits m v i h g pos =
    let k : 2 ^ (64 - i) ≤ 2 ^ 63 = pow_mono {i = 64 - i} {j = 63} (omega arith) in
    omega arith

pub turn_lt : (m v i : ℕ) → m < 2 ^ (64 - i) → v < 2 → 0 < i → i ≤ 64 → 2 * m + v < 2 ^ (64 - (i - 1))
turn_lt m v i h g pos le =
    let e : 64 - (i - 1) ≡ suc (64 - i) = omega arith in
    rw (e, pow-suc 2 (64 - i)) (omega arith)

-- ---- the ways out of `load`

pub load_long : (b : List ℕ) → (length b ≡ 520 → ⊥) → Err Shape ≡ load_at b
unfolding load_at is_book
load_long b h = rw (ne_eqb (length b) 520 h)

module _ (b : List ℕ) (l : length b ≡ 520) (w : ℕ) (p : w ≡ marks (jobs_in b)) (e : ℕ) (q : e ≡ eight_at b 0) where
  pub load_is : e ≡ w → Ok w ≡ load_at b
  unfolding load_at is_book
  load_is h = rw (eq-eqb (length b) 520 l, ← q, ← p, eq-eqb e w h)

  pub load_not : (e ≡ w → ⊥) → Err Shape ≡ load_at b
  unfolding load_at is_book
  load_not h = rw (eq-eqb (length b) 520 l, ← q, ← p, ne_eqb e w h)

-- ---- what an answer of `load` says

pub record Known (b : List ℕ) (w : ℕ) : Type 0 where
  pub book : is_book b ≡ true
  pub open_is : w ≡ marks (jobs_in b)

known_of : (b : List ℕ) (t : Bool) (w : ℕ) → is_book b ≡ t → cond {A = Result ℕ BookRefusal} t (Ok (marks (jobs_in b))) (Err Shape) ≡ Ok w → Known b w
known_of b true w e h = record { book = e; open_is = cc }
known_of b false w e h = let z : ◌≡◌ {A = ℕ} 0 1 = cc in absurd (omega arith)

pub is_known : (b : List ℕ) (l : Result ℕ BookRefusal) (w : ℕ) → l ≡ load_at b → l ≡ Ok w → Known b w
unfolding load_at
is_known b l w p q = known_of b (is_book b) w refl (sym p ∙ q)

not_of : (t : Bool) (w : ℕ) (r : BookRefusal) → cond {A = Result ℕ BookRefusal} t (Ok w) (Err Shape) ≡ Err r → t ≡ false
not_of true w r h = let z : ◌≡◌ {A = ℕ} 0 1 = cc in absurd (omega arith)
not_of false w r h = refl

pub not_known : (b : List ℕ) (l : Result ℕ BookRefusal) (r : BookRefusal) → l ≡ load_at b → l ≡ Err r → is_book b ≡ false
unfolding load_at
not_known b l r p q = not_of (is_book b) (marks (jobs_in b)) r (sym p ∙ q)

-- ---- emptying

pub empty_long : (b : List ℕ) → (length b ≡ 520 → ⊥) → left (Err Shape) b ≡ empty_at b
unfolding empty_at
empty_long b h = rw (ne_eqb (length b) 520 h)

zeros : book_of (replicate 64 0) ≡ replicate 520 0
unfolding book_of eights octets marks
zeros = refl

-- all bytes were filled
pub empty_is : (b z : List ℕ) (i : ℕ) → length b ≡ 520 → i ≡ 520 → z ≡ replicate i 0 ++ drop i b → left (Ok 0) z ≡ empty_at b
unfolding empty_at
empty_is b z i l e p =
    let d : drop i b ≡ [] = drop_of_length-le b {i = i} (omega arith) in
    let w : z ≡ replicate 520 0 = p ∙ (rw (d, e) (append-nil (replicate 520 0))) in
    rw (eq-eqb (length b) 520 l) (ap (left (Ok 0)) (w ∙ sym zeros))

-- ---- opening

pub open_zero : (b : List ℕ) (j : ℕ) → j ≡ 0 → left (Err Shape) b ≡ open_at b j
unfolding open_at
open_zero b j h = rw (eq-eqb j 0 h)

module _ (b : List ℕ) (j : ℕ) (pos : j ≡ 0 → ⊥) where
  pub open_none : is_book b ≡ false → left (Err Shape) b ≡ open_at b j
  unfolding open_at
  open_none h = rw (ne_eqb j 0 pos, h)

  module _ (w n : ℕ) (k : Known b w) (z : n ≡ count_trailing_zeros 64 (2 ^ 64 - 1 - w)) where
    free : n ≡ lowest_free (jobs_in b)
    free = z ∙ ap (λ (x : ℕ). count_trailing_zeros 64 (2 ^ 64 - 1 - x)) k.open_is ∙ (rw (length_jobs b) at (zeros_free (jobs_in b)))

    pub open_le : n ≤ 64
    open_le = rw free (rw (length_jobs b) at (free_le (jobs_in b)))

    opens : open_at b j ≡ opening b j (jobs_in b)
    unfolding open_at
    opens = rw (ne_eqb j 0 pos, k.book)

    pub open_full : n ≡ 64 → left (Err AllOpen) b ≡ open_at b j
    unfolding opening
    open_full h = rw (opens, ← free, eq-eqb n 64 h)

    module _ (some : n ≡ 64 → ⊥) where
      lower : n < 64
      lower = omega (arith, open_le)

      below : n < length (jobs_in b)
      below = rw (length_jobs b) lower

      closed : get_or (jobs_in b) n 0 ≡ 0
      closed = rw free (free_closed (jobs_in b) (rw free at below))

      bits_of : w + 2 ^ n ≡ marks (set (jobs_in b) n j)
      bits_of = rw k.open_is (marks_open (jobs_in b) n j below closed pos)

      pub open_fits : w + 2 ^ n < 2 ^ 64
      open_fits = rw bits_of (rw (length-set (jobs_in b) n j, length_jobs b) at (marks_lt (set (jobs_in b) n j)))

      pub open_is : (x : ℕ) (y z : List ℕ) → Bytes b → x ≡ 2 ^ n → y ≡ sets b 0 (octets 8 (w + x))
          → z ≡ sets y (8 * (n + 1)) (octets 8 j) → left (Ok n) z ≡ open_at b j
      unfolding opening
      open_is x y z bs e p q =
          let m : w + x ≡ marks (set (jobs_in b) n j) = ap (λ (i : ℕ). w + i) e ∙ bits_of in
          rw (opens, ← free, ne_eqb n 64 some) (ap (left (Ok n)) (written b n j (w + x) y z bs k.book lower m p q))

-- ---- closing

module _ (b : List ℕ) (n w : ℕ) (k : Known b w) where
  closes : close_at b n ≡ closing b n (jobs_in b)
  unfolding close_at
  closes = rw k.book

  pub close_above : 64 ≤ n → left (Err NotOpen) b ≡ close_at b n
  unfolding closing
  close_above h = rw (closes, get_or-eq_default (jobs_in b) 0 {n = n} (rw (length_jobs b) h))

  module _ (lower : n < 64) (j : ℕ) (p : j ≡ eight_at b (8 * (n + 1))) where
    job_is : j ≡ get_or (jobs_in b) n 0
    job_is = p ∙ sym (job_place b n lower)

    pub close_not : j ≡ 0 → left (Err NotOpen) b ≡ close_at b n
    unfolding closing
    close_not h = rw (closes, eq-eqb (get_or (jobs_in b) n 0) 0 (sym job_is ∙ h))

    module _ (some : j ≡ 0 → ⊥) where
      open_now : get_or (jobs_in b) n 0 ≡ 0 → ⊥
      open_now h = some (job_is ∙ h)

      bits_left : w ≡ marks (set (jobs_in b) n 0) + 2 ^ n
      bits_left = k.open_is ∙ marks_close (jobs_in b) n (rw (length_jobs b) lower) open_now

      pub close_le : 2 ^ n ≤ w
      close_le = omega (arith, bits_left)

      pub close_is : (x : ℕ) (y z : List ℕ) → Bytes b → x ≡ 2 ^ n → y ≡ sets b 0 (octets 8 (w - x))
          → z ≡ sets y (8 * (n + 1)) (octets 8 0) → left (Ok 0) z ≡ close_at b n
      unfolding closing
      close_is x y z bs e q r =
          let m : w - x ≡ marks (set (jobs_in b) n 0) = omega (arith, bits_left) in
          rw (closes, ne_eqb (get_or (jobs_in b) n 0) 0 open_now) (ap (left (Ok 0)) (written b n 0 (w - x) y z bs k.book lower m q r))

-- ---- the count, and the job of a number

pub count_is : (b : List ℕ) (w n : ℕ) → Known b w → n ≡ ones w → Ok n ≡ count_at b
unfolding count_at
count_is b w n k p = rw k.book (ap Ok (p ∙ ap ones k.open_is ∙ ones_count (jobs_in b)))

pub job_none : (b : List ℕ) (n : ℕ) → is_book b ≡ false → 0 ≡ job_at b n
unfolding job_at
job_none b n h = rw h

pub job_above : (b : List ℕ) (n w : ℕ) → Known b w → 64 ≤ n → 0 ≡ job_at b n
unfolding job_at
job_above b n w k h = rw (k.book, get_or-eq_default (jobs_in b) 0 {n = n} (rw (length_jobs b) h))

pub job_at_is : (b : List ℕ) (n w j : ℕ) → Known b w → n < 64 → j ≡ eight_at b (8 * (n + 1)) → j ≡ job_at b n
unfolding job_at
job_at_is b n w j k h p = rw k.book (p ∙ sym (job_place b n h))
