-- What single calls promise: a refused one leaves the bytes; the number given was the lowest free one; 7 exactly where all 64 are open, 8 exactly where the
-- number is not open.
-- Assumes nothing.
use mathlib.Core.Path.{◌≡◌, refl, ap, sym, ◌∙◌}
use mathlib.Core.Bool.{Bool, true, false, cond}
use mathlib.Core.List.{List}
use Prim.Native.Nat.{ℕ, ◌≤◌, ◌<◌}
use native.Mathlib.Omega.{arith}
use borrow.Author.Tests.{eq-eqb, ne_eqb, eqb-true, eqb-false}
use lib.Dec.{eqb}
use lib.ListN.{length, get_or, set, replicate}
use Rattle.book.specs.Books.{lowest_free, open_count, book_of, jobs_in, is_book, Left, left, empty_at, opening, open_at, closing, close_at, count_at, job_at}
use Rattle.book.specs.declared.BookRefusal.{BookRefusal}
use Rattle.book.specs.declared.BookRefusal.TheVariants.{Shape, AllOpen, NotOpen}
use Rattle.book.proofs.Marks.{free_le, free_closed, lower_open, count_le, count_free, free_count}
use Rattle.book.proofs.Books.{length_jobs}
use Rattle.std.specs.Prelude.{Err, Ok}

-- ---- "the book stays"

-- a call that is refused or leaves b
stays : (t : Bool) (b : List ℕ) (x : Left) (r s : BookRefusal) → (x.answer ≡ Err r → x.bytes ≡ b)
    → (cond t (left (Err s) b) x).answer ≡ Err r
    → (cond t (left (Err s) b) x).bytes ≡ b
stays true b x r s h e = refl
stays false b x r s h e = h e

-- or one that is taken, and else refused
stays_else : (t : Bool) (b : List ℕ) (x : Left) (r s : BookRefusal) → (x.answer ≡ Err r → x.bytes ≡ b)
    → (cond t x (left (Err s) b)).answer ≡ Err r
    → (cond t x (left (Err s) b)).bytes ≡ b
stays_else true b x r s h e = h e
stays_else false b x r s h e = refl

taken : (n : ℕ) (b c : List ℕ) (r : BookRefusal) → (left (Ok n) c).answer ≡ Err r → (left (Ok n) c).bytes ≡ b
taken n b c r e = let z : ◌≡◌ {A = ℕ} 0 1 = cc in absurd (omega arith)

pub empty_stays : (b : List ℕ) (r : BookRefusal) → (empty_at b).answer ≡ Err r → (empty_at b).bytes ≡ b
unfolding empty_at
empty_stays b r e = stays_else (eqb (length b) 520) b (left (Ok 0) (book_of (replicate 64 0))) r Shape
    (taken 0 b (book_of (replicate 64 0)) r) e

opening_stays : (b : List ℕ) (j : ℕ) (r : BookRefusal) → (opening b j (jobs_in b)).answer ≡ Err r → (opening b j (jobs_in b)).bytes ≡ b
unfolding opening
opening_stays b j r e =
    let n = lowest_free (jobs_in b) in
    stays (eqb n 64) b (left (Ok n) (book_of (set (jobs_in b) n j))) r AllOpen (taken n b (book_of (set (jobs_in b) n j)) r) e

pub open_stays : (b : List ℕ) (j : ℕ) (r : BookRefusal) → (open_at b j).answer ≡ Err r → (open_at b j).bytes ≡ b
unfolding open_at
open_stays b j r e =
    stays (eqb j 0) b (cond (is_book b) (opening b j (jobs_in b)) (left (Err Shape) b)) r Shape
    (stays_else (is_book b) b (opening b j (jobs_in b)) r Shape (opening_stays b j r)) e

closing_stays : (b : List ℕ) (n : ℕ) (r : BookRefusal) → (closing b n (jobs_in b)).answer ≡ Err r → (closing b n (jobs_in b)).bytes ≡ b
unfolding closing
closing_stays b n r e =
    stays (eqb (get_or (jobs_in b) n 0) 0) b (left (Ok 0) (book_of (set (jobs_in b) n 0))) r NotOpen
    (taken 0 b (book_of (set (jobs_in b) n 0)) r) e

pub close_stays : (b : List ℕ) (n : ℕ) (r : BookRefusal) → (close_at b n).answer ≡ Err r → (close_at b n).bytes ≡ b
unfolding close_at
close_stays b n r e = stays_else (is_book b) b (closing b n (jobs_in b)) r Shape (closing_stays b n r) e

-- ---- "Opening gives the lowest free of the 64 numbers"

-- the number was free, every lower one was open, and the book then has the job there
pub record Given (b : List ℕ) (j n : ℕ) : Type 0 where
  pub number : n < 64
  pub free : job_at b n ≡ 0
  pub lower : (m : ℕ) → m < n → job_at b m ≡ 0 → ⊥
  pub book : (open_at b j).bytes ≡ book_of (set (jobs_in b) n j)

job_of : (b : List ℕ) → is_book b ≡ true → (n : ℕ) → job_at b n ≡ get_or (jobs_in b) n 0
unfolding job_at
job_of b t n = rw t

pub given_lowest : (b : List ℕ) (j n : ℕ) → (open_at b j).answer ≡ Ok n → Given b j n
unfolding open_at opening
given_lowest b j n e = go (eqb j 0) (is_book b) (eqb (lowest_free (jobs_in b)) 64) refl refl refl e
  where
    js : List ℕ
    js = jobs_in b

    f : ℕ
    f = lowest_free (jobs_in b)

    all : Bool → Bool → Bool → Left
    all t0 t1 t2 = cond t0 (left (Err Shape) b)
        (cond t1 (cond t2 (left (Err AllOpen) b) (left (Ok f) (book_of (set js f j)))) (left (Err Shape) b))

    go : (t0 t1 t2 : Bool) → eqb j 0 ≡ t0 → is_book b ≡ t1 → eqb f 64 ≡ t2 → (all t0 t1 t2).answer ≡ Ok n → Given b j n
    go true t1 t2 p q r e = let z : ◌≡◌ {A = ℕ} 0 1 = cc in absurd (omega arith)
    go false false t2 p q r e = let z : ◌≡◌ {A = ℕ} 0 1 = cc in absurd (omega arith)
    go false true true p q r e = let z : ◌≡◌ {A = ℕ} 0 1 = cc in absurd (omega arith)
    go false true false p q r e =
        let s : n ≡ f = cc in
        let ne : f ≡ 64 → ⊥ = eqb-false f 64 r in
        let l : f < 64 = omega (arith, free_le js, length_jobs b) in
        record {
          number = omega arith;
          free = job_of b q n ∙ ap (λ (x : ℕ). get_or js x 0) s ∙ free_closed js (rw (length_jobs b) l);
          lower = λ (m : ℕ) (h : m < n) (x : job_at b m ≡ 0). lower_open js m (rw (← s) h) (sym (job_of b q m) ∙ x);
          book = rw (p, q, r, s);
        }

-- ---- "7, all 64 are open, exactly then; 8, closing a number that isn't open or is above 63"

full : (b : List ℕ) (j : ℕ) → is_book b ≡ true → (j ≡ 0 → ⊥) → open_at b j ≡ opening b j (jobs_in b)
unfolding open_at
full b j t pos = rw (ne_eqb j 0 pos, t)

pub all_open : (b : List ℕ) (j : ℕ) → (j ≡ 0 → ⊥) → is_book b ≡ true → open_count (jobs_in b) ≡ 64 → open_at b j ≡ left (Err AllOpen) b
unfolding opening
all_open b j pos t e =
    let l : lowest_free (jobs_in b) ≡ 64 = free_count (jobs_in b) (e ∙ sym (length_jobs b)) ∙ length_jobs b in
    rw (full b j t pos, eq-eqb (lowest_free (jobs_in b)) 64 l)

pub only_all_open : (b : List ℕ) (j : ℕ) → (open_at b j).answer ≡ Err AllOpen → open_count (jobs_in b) ≡ 64
unfolding open_at opening
only_all_open b j e = go (eqb j 0) (is_book b) (eqb (lowest_free (jobs_in b)) 64) refl e
  where
    js : List ℕ
    js = jobs_in b

    f : ℕ
    f = lowest_free (jobs_in b)

    go : (t0 t1 t2 : Bool) → eqb f 64 ≡ t2
        → (cond t0 (left (Err Shape) b) (cond t1
        (cond t2 (left (Err AllOpen) b) (left (Ok f) (book_of (set js f j)))) (left (Err Shape) b))).answer
        ≡ Err AllOpen
        → open_count js ≡ 64
    go true t1 t2 r e = let z : ◌≡◌ {A = ℕ} 0 1 = cc in absurd (omega arith)
    go false false t2 r e = let z : ◌≡◌ {A = ℕ} 0 1 = cc in absurd (omega arith)
    go false true true r e = count_free js (eqb-true f 64 r ∙ sym (length_jobs b)) ∙ length_jobs b
    go false true false r e = let z : ◌≡◌ {A = ℕ} 0 1 = cc in absurd (omega arith)

pub not_open : (b : List ℕ) (n : ℕ) → is_book b ≡ true → job_at b n ≡ 0 → close_at b n ≡ left (Err NotOpen) b
unfolding close_at closing
not_open b n t e = rw (t, eq-eqb (get_or (jobs_in b) n 0) 0 (sym (job_of b t n) ∙ e))

pub was_open : (b : List ℕ) (n : ℕ) → is_book b ≡ true → (job_at b n ≡ 0 → ⊥) → close_at b n ≡ left (Ok 0) (book_of (set (jobs_in b) n 0))
unfolding close_at closing
was_open b n t e = rw (t, ne_eqb (get_or (jobs_in b) n 0) 0 (λ (x : get_or (jobs_in b) n 0 ≡ 0). e (job_of b t n ∙ x)))

-- ---- "the open count" is at most 64

pub count_most : (b : List ℕ) (n : ℕ) → count_at b ≡ Ok n → n ≤ 64
unfolding count_at
count_most b n e = go (is_book b) e
  where
    go : (t : Bool) → cond t (Ok (open_count (jobs_in b))) (Err Shape) ≡ Ok n → n ≤ 64
    go true q = let s : n ≡ open_count (jobs_in b) = cc in omega (arith, count_le (jobs_in b), length_jobs b)
    go false q = let z : ◌≡◌ {A = ℕ} 0 1 = cc in absurd (omega arith)
