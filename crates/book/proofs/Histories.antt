-- After any calls the book is that of the history since it was last emptied; and two openings of one number have a closing of it between them.
-- Assumes nothing.
use mathlib.Core.Path.{◌≡◌, refl, ap, sym, subst, ◌∙◌}
use mathlib.Core.Bool.{Bool, true, false, cond, ◌||◌}
use mathlib.Core.List.{List, [], ◌∷◌, ◌++◌}
use Prim.Native.Nat.{ℕ, zero, suc, ◌+◌, ◌^◌, ◌≤◌, ◌<◌}
use native.Mathlib.Omega.{arith}
use native.Mathlib.Decide.{dec_lt, ℕ_discrete}
use borrow.Author.Tests.{eq-eqb, ne_eqb}
use lib.Dec.{eqb}
use lib.ListN.{length, get_or, set, length-set, get_or-eq_default}
use lib.Seq.{ext_get_or, get_or-set_same, get_or-set_other}
use Rattle.book.specs.Books.{lowest_free, open_count, book_of, jobs_in, is_book, Left, left, empty_at, opening, open_at, closing, close_at, count_at, job_at}
use Rattle.book.specs.Histories.{Call, empties, opens, closes, opened, closed, History, job_of, listed, jobs_of, closes_number, Orderly, Kept, called, noted, after, run, emptied, Claims}
use Rattle.book.specs.declared.BookRefusal.TheVariants.{Shape, AllOpen, NotOpen}
use Rattle.book.proofs.Eights.{Wide}
use Rattle.book.proofs.Marks.{free_le, free_closed, lower_open}
use Rattle.book.proofs.Books.{jobs_back, length_book, book_of_is, open_zero}
use Rattle.std.specs.Prelude.{Err, Ok, Result}
use Rattle.book.specs.declared.BookRefusal.{BookRefusal}

-- ---- the jobs of a history

length_listed : (k n : ℕ) (f : ℕ → ℕ) → length (listed k n f) ≡ k
unfolding listed
length_listed zero n f = refl
length_listed (suc k) n f = ap suc (length_listed k (suc n) f)

get_d_listed : (k n : ℕ) (f : ℕ → ℕ) (i : ℕ) → i < k → get_or (listed k n f) i 0 ≡ f (n + i)
unfolding listed
get_d_listed zero n f i h = absurd (omega arith)
get_d_listed (suc k) n f zero h = let e : n ≡ n + 0 = omega arith in ap f e
get_d_listed (suc k) n f (suc i) h =
    let e : suc n + i ≡ n + suc i = omega arith in
    get_d_listed k (suc n) f i (omega arith) ∙ ap f e

length_jobs : (h : History) → length (jobs_of h) ≡ 64
length_jobs h = length_listed 64 0 (job_of h)

job_in : (h : History) (n : ℕ) → n < 64 → get_or (jobs_of h) n 0 ≡ job_of h n
job_in h n l =
    let e : 0 + n ≡ n = omega arith in
    get_d_listed 64 0 (job_of h) n l ∙ ap (job_of h) e

-- one clause for both entries: the entry's number has the entry's job, the others keep theirs
entry_here : (h : History) (n j : ℕ) → job_of (opened n j ∷ h) n ≡ j
unfolding job_of
entry_here h n j = rw (eq-eqb n n refl)

closed_here : (h : History) (n : ℕ) → job_of (closed n ∷ h) n ≡ 0
unfolding job_of
closed_here h n = rw (eq-eqb n n refl)

entry_other : (h : History) (n j m : ℕ) → (n ≡ m → ⊥) → job_of (opened n j ∷ h) m ≡ job_of h m
unfolding job_of
entry_other h n j m e = rw (ne_eqb n m e)

closed_other : (h : History) (n m : ℕ) → (n ≡ m → ⊥) → job_of (closed n ∷ h) m ≡ job_of h m
unfolding job_of
closed_other h n m e = rw (ne_eqb n m e)

-- a list with the job of one number put is the list of the history with the entry
put_job : (h h' : History) (n j : ℕ) → n < 64 → job_of h' n ≡ j → ((m : ℕ) → (n ≡ m → ⊥) → job_of h' m ≡ job_of h m)
    → set (jobs_of h) n j ≡ jobs_of h'
put_job h h' n j l here other =
    ext_get_or 0 (set (jobs_of h) n j) (jobs_of h') (length-set (jobs_of h) n j ∙ length_jobs h ∙ sym (length_jobs h'))
    (λ (i : ℕ) (g : i < length (set (jobs_of h) n j)). each i (rw (length-set (jobs_of h) n j, length_jobs h) at g))
  where
    each : (i : ℕ) → i < 64 → get_or (set (jobs_of h) n j) i 0 ≡ get_or (jobs_of h') i 0
    each i g =
        elim (ℕ_discrete n i) [
          | yes e ↦
              ap (λ (x : ℕ). get_or (set (jobs_of h) n j) x 0) (sym e) ∙ get_or-set_same (jobs_of h) n j 0 (rw (length_jobs h) l) ∙ sym here
              ∙ sym (job_in h' n l) ∙ ap (λ (x : ℕ). get_or (jobs_of h') x 0) e
          | no e ↦
              get_or-set_other (jobs_of h) n i j 0 (λ (x : i ≡ n). e (sym x)) ∙ job_in h i g ∙ sym (other i e) ∙ sym (job_in h' i g)
        ]

-- ---- an orderly history

pub jobs_wide : (h : History) → Orderly h → (n : ℕ) → job_of h n < 2 ^ 64
unfolding job_of
jobs_wide [] o n = omega arith
jobs_wide (opened m j ∷ h) o n = pick (eqb m n) o.0.width (jobs_wide h o.1 n)
  where
    pick : (t : Bool) → j < 2 ^ 64 → job_of h n < 2 ^ 64 → cond t j (job_of h n) < 2 ^ 64
    pick true a b = a
    pick false a b = b
jobs_wide (closed m ∷ h) o n = pick (eqb m n) (jobs_wide h o.1 n)
  where
    pick : (t : Bool) → job_of h n < 2 ^ 64 → cond t 0 (job_of h n) < 2 ^ 64
    pick true b = omega arith
    pick false b = b

-- no number above 63 is open
none_above : (h : History) → Orderly h → (n : ℕ) → 64 ≤ n → job_of h n ≡ 0
unfolding job_of
none_above [] o n l = refl
none_above (opened m j ∷ h) o n l = rw (ne_eqb m n (λ (e : m ≡ n). omega (arith, o.0.number))) (none_above h o.1 n l)
none_above (closed m ∷ h) o n l = rw (ne_eqb m n (λ (e : m ≡ n). omega (arith, o.0.number))) (none_above h o.1 n l)

wide_jobs : (h : History) → Orderly h → Wide (jobs_of h)
wide_jobs h o n =
    elim (dec_lt n 64) [
      | yes l ↦ rw (job_in h n l) (jobs_wide h o n)
      | no l ↦ let e : get_or (jobs_of h) n 0 ≡ 0 = get_or-eq_default (jobs_of h) 0 {n = n} (rw (length_jobs h) (omega arith)) in rw e (omega arith)
    ]

-- two openings of one number have a closing of it between them
stays_open : (c d : History) (n j : ℕ) → Orderly (c ++ (opened n j ∷ d)) → closes_number n c ≡ false
    → job_of (c ++ (opened n j ∷ d)) n ≡ 0 → ⊥
unfolding job_of closes_number
stays_open [] d n j o f e = o.0.job (sym (entry_here d n j) ∙ e)
stays_open (opened m x ∷ c) d n j o f e = pick (eqb m n) o.0.job
    (λ (g : job_of (c ++ (opened n j ∷ d)) n ≡ 0). stays_open c d n j o.1 f g) e
  where
    pick : (t : Bool) → (x ≡ 0 → ⊥) → (job_of (c ++ (opened n j ∷ d)) n ≡ 0 → ⊥) → cond t x (job_of (c ++ (opened n j ∷ d)) n) ≡ 0 → ⊥
    pick true a b g = a g
    pick false a b g = b g
stays_open (closed m ∷ c) d n j o f e = pick (eqb m n) f
    (λ (p : closes_number n c ≡ false) (g : job_of (c ++ (opened n j ∷ d)) n ≡ 0). stays_open c d n j o.1 p g) e
  where
    pick : (t : Bool) → (t || closes_number n c) ≡ false
        → (closes_number n c ≡ false → job_of (c ++ (opened n j ∷ d)) n ≡ 0 → ⊥)
        → cond t 0 (job_of (c ++ (opened n j ∷ d)) n) ≡ 0 → ⊥
    pick true p b g = let z : ◌≡◌ {A = ℕ} 0 1 = cc in omega arith
    pick false p b g = b p g

pub closed_between : (c d : History) (n i j : ℕ) → Orderly (opened n j ∷ (c ++ (opened n i ∷ d))) → closes_number n c ≡ true
closed_between c d n i j o = pick (closes_number n c) (λ (f : closes_number n c ≡ false). stays_open c d n i o.1 f o.0.free)
  where
    pick : (t : Bool) → (t ≡ false → ⊥) → t ≡ true
    pick true f = refl
    pick false f = absurd (f refl)

-- what holds of a history holds of each earlier one
pub orderly_before : (a h : History) → Orderly (a ++ h) → Orderly h
orderly_before [] h o = o
orderly_before (opened n j ∷ a) h o = orderly_before a h o.1
orderly_before (closed n ∷ a) h o = orderly_before a h o.1

-- ---- calls on a book that is that of its history

pub record Fits (k : Kept) : Type 0 where
  pub bytes : k.bytes ≡ book_of (jobs_of k.history)
  pub orderly : Orderly k.history

moved : (k : Kept) (c : Call) (a : Result ℕ BookRefusal) (b : List ℕ) → called k.bytes c ≡ left a b → after k c ≡ record { bytes = b; history = noted c a k.history }
moved k c a b e = ap (λ (l : Left). record { bytes = l.bytes; history = noted c l.answer k.history }) e

arrives : (k : Kept) (c : Call) (a : Result ℕ BookRefusal) (b : List ℕ) → called k.bytes c ≡ left a b → Fits (record { bytes = b; history = noted c a k.history }) → Fits (after k c)
arrives k c a b e f = subst Fits (sym (moved k c a b e)) f

-- the calls on the bytes of an orderly history
module _ (h : History) (o : Orderly h) where
  book : is_book (book_of (jobs_of h)) ≡ true
  book = book_of_is (jobs_of h) (length_jobs h) (wide_jobs h o)

  same : jobs_in (book_of (jobs_of h)) ≡ jobs_of h
  same = jobs_back (jobs_of h) (length_jobs h) (wide_jobs h o)

  long : length (book_of (jobs_of h)) ≡ 520
  long = length_book (jobs_of h) (length_jobs h) (wide_jobs h o)

  opens_is : (j : ℕ) → (j ≡ 0 → ⊥) → open_at (book_of (jobs_of h)) j ≡ opening (book_of (jobs_of h)) j (jobs_of h)
  unfolding open_at
  opens_is j pos = rw (ne_eqb j 0 pos, book, same)

  closes_is : (n : ℕ) → close_at (book_of (jobs_of h)) n ≡ closing (book_of (jobs_of h)) n (jobs_of h)
  unfolding close_at
  closes_is n = rw (book, same)

  still : Fits (record { bytes = book_of (jobs_of h); history = h })
  still = record { bytes = refl; orderly = o }

  opened_fits : (j n : ℕ) → j < 2 ^ 64 → (j ≡ 0 → ⊥) → n ≡ lowest_free (jobs_of h) → n < 64 → Fits (record { bytes = book_of (set (jobs_of h) n j); history = opened n j ∷ h })
  opened_fits j n width pos e l =
      let g : lowest_free (jobs_of h) < length (jobs_of h) = rw (← e, length_jobs h) l in
      let z : get_or (jobs_of h) n 0 ≡ 0 = ap (λ (x : ℕ). get_or (jobs_of h) x 0) e ∙ free_closed (jobs_of h) g in
      record {
        bytes = ap book_of (put_job h (opened n j ∷ h) n j l (entry_here h n j) (entry_other h n j));
        orderly = (
          record {
            number = l;
            job = pos;
            width = width;
            free = sym (job_in h n l) ∙ z;
            lower = λ (m : ℕ) (q : m < n) (x : job_of h m ≡ 0). lower_open (jobs_of h) m (rw (← e) q) (job_in h m (omega arith) ∙ x);
          },
          o,
        );
      }

  closed_fits : (n : ℕ) → n < 64 → (get_or (jobs_of h) n 0 ≡ 0 → ⊥) → Fits (record { bytes = book_of (set (jobs_of h) n 0); history = closed n ∷ h })
  closed_fits n l e =
      record {
        bytes = ap book_of (put_job h (closed n ∷ h) n 0 l (closed_here h n) (closed_other h n));
        orderly = (record { number = l; was_open = λ (x : job_of h n ≡ 0). e (job_in h n l ∙ x) }, o);
      }

is_full : (b : List ℕ) (j : ℕ) (js : List ℕ) → lowest_free js ≡ 64 → opening b j js ≡ left (Err AllOpen) b
unfolding opening
is_full b j js e = rw (eq-eqb (lowest_free js) 64 e)

is_given : (b : List ℕ) (j : ℕ) (js : List ℕ) → (lowest_free js ≡ 64 → ⊥)
    → opening b j js ≡ left (Ok (lowest_free js)) (book_of (set js (lowest_free js) j))
unfolding opening
is_given b j js e = rw (ne_eqb (lowest_free js) 64 e)

is_closed : (b : List ℕ) (n : ℕ) (js : List ℕ) → get_or js n 0 ≡ 0 → closing b n js ≡ left (Err NotOpen) b
unfolding closing
is_closed b n js e = rw (eq-eqb (get_or js n 0) 0 e)

is_open : (b : List ℕ) (n : ℕ) (js : List ℕ) → (get_or js n 0 ≡ 0 → ⊥) → closing b n js ≡ left (Ok 0) (book_of (set js n 0))
unfolding closing
is_open b n js e = rw (ne_eqb (get_or js n 0) 0 e)

empty_is : (b : List ℕ) → length b ≡ 520 → empty_at b ≡ left (Ok 0) (book_of (jobs_of []))
unfolding empty_at listed job_of
empty_is b l = rw (eq-eqb (length b) 520 l)

-- each call keeps it so
keeps : (k : Kept) (c : Call) → Fits k → Fits (after k c)
keeps k empties f =
    let h = k.history in
    let e : called k.bytes empties ≡ left (Ok 0) (book_of (jobs_of [])) = ap empty_at f.bytes ∙ empty_is
    (book_of (jobs_of h)) (long h f.orderly) in
    arrives k empties (Ok 0) (book_of (jobs_of [])) e (still [] tt)
keeps k (opens j width) f =
    let h = k.history in
    let b = book_of (jobs_of h) in
    let o = f.orderly in
    let e : open_at k.bytes j ≡ open_at b j = ap (λ (x : List ℕ). open_at x j) f.bytes in
    elim (ℕ_discrete j 0) [
      | yes z ↦ arrives k (opens j width) (Err Shape) b (e ∙ sym (open_zero b j z)) (still h o)
      | no pos ↦
          elim (ℕ_discrete (lowest_free (jobs_of h)) 64) [
            | yes z ↦ arrives k (opens j width) (Err AllOpen) b (e ∙ opens_is h o j pos ∙ is_full b j (jobs_of h) z) (still h o)
            | no z ↦
                let l : lowest_free (jobs_of h) < 64 = omega (arith, free_le (jobs_of h), length_jobs h) in
                arrives k (opens j width) (Ok (lowest_free (jobs_of h))) (book_of (set (jobs_of h) (lowest_free (jobs_of h)) j))
                (e ∙ opens_is h o j pos ∙ is_given b j (jobs_of h) z) (opened_fits h o j (lowest_free (jobs_of h)) width pos refl l)
          ]
    ]
keeps k (closes n) f =
    let h = k.history in
    let b = book_of (jobs_of h) in
    let o = f.orderly in
    let e : close_at k.bytes n ≡ close_at b n = ap (λ (x : List ℕ). close_at x n) f.bytes in
    elim (ℕ_discrete (get_or (jobs_of h) n 0) 0) [
      | yes z ↦ arrives k (closes n) (Err NotOpen) b (e ∙ closes_is h o n ∙ is_closed b n (jobs_of h) z) (still h o)
      | no z ↦ arrives k (closes n) (Ok 0) (book_of (set (jobs_of h) n 0))
          (e ∙ closes_is h o n ∙ is_open b n (jobs_of h) z) (closed_fits h o n (within (jobs_of h) n (length_jobs h) z) z)
    ]
  where
    within : (js : List ℕ) (n : ℕ) → length js ≡ 64 → (get_or js n 0 ≡ 0 → ⊥) → n < 64
    within js n l z =
        elim (dec_lt n 64) [
          | yes g ↦ g
          | no g ↦ absurd (z (get_or-eq_default js 0 {n = n} (rw l (omega arith))))
        ]

run_fits : (cs : List Call) (k : Kept) → Fits k → Fits (run k cs)
unfolding run
run_fits [] k f = f
run_fits (c ∷ cs) k f = run_fits cs (after k c) (keeps k c f)

-- ---- what the calls that read say of it

read_job : (h : History) → Orderly h → (n : ℕ) → job_at (book_of (jobs_of h)) n ≡ job_of h n
unfolding job_at
read_job h o n =
    rw (book h o, same h o)
    (elim (dec_lt n 64) [
      | yes l ↦ job_in h n l
      | no l ↦ get_or-eq_default (jobs_of h) 0 {n = n} (rw (length_jobs h) (omega arith)) ∙ sym (none_above h o n (omega arith))
    ])

read_count : (h : History) → Orderly h → count_at (book_of (jobs_of h)) ≡ Ok (open_count (jobs_of h))
unfolding count_at
read_count h o = rw (book h o, same h o)

claims_of : (k : Kept) → Fits k → Claims k
claims_of k f =
    record {
      bytes = f.bytes;
      jobs = λ (n : ℕ). ap (λ (b : List ℕ). job_at b n) f.bytes ∙ read_job k.history f.orderly n;
      count = ap count_at f.bytes ∙ read_count k.history f.orderly;
      orderly = f.orderly;
    }

-- "After any calls the book's open numbers, their jobs and the open count are those of the history of openings and closings since it was last emptied."
pub book_keeps_history : (b : List ℕ) → length b ≡ 520 → (cs : List Call) → Claims (run (emptied b) cs)
book_keeps_history b l cs =
    claims_of (run (emptied b) cs) (run_fits cs (emptied b) (record { bytes = ap (λ (x : Left). x.bytes) (empty_is b l); orderly = tt }))
