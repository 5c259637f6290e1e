-- The history of a book: document 02, E2, "After any calls the book's open numbers, their jobs and the open count are those of the history
-- of openings and closings since it was last emptied." The history is made of what the calls answered, and says by itself which numbers are
-- open and for which jobs.
use Rattle.std.specs.Prelude.{ℕ, zero, suc, ◌^◌, ◌<◌, ◌≡◌, Bool, false, cond, ◌||◌, List, [], ◌∷◌, eqb, Err, Ok, Result}
use Rattle.book.specs.Books.{numbers, book_of, open_count, Left, empty_at, open_at, close_at, count_at, job_at}
use Rattle.book.specs.declared.BookRefusal.{BookRefusal}

-- the calls that may change a book; a job has 64 bits
pub data Call : Type 0 where
  empties : Call
  opens : (job : ℕ) → job < 2 ^ 64 → Call
  closes : ℕ → Call

-- what happened: a number was opened for a job, or closed
pub data Entry : Type 0 where
  opened : ℕ → ℕ → Entry
  closed : ℕ → Entry

-- the last entry first
abbrev pub History : Type 0
History = List Entry

-- ---- what a history says

-- the job that a number is open for, by the last entry about it; 0 where it is not open
unfoldable pub job_of : History → ℕ → ℕ
job_of [] n = 0
job_of (opened m j ∷ h) n = cond (eqb m n) j (job_of h n)
job_of (closed m ∷ h) n = cond (eqb m n) 0 (job_of h n)

-- f n and so on, k of them
unfoldable pub listed : ℕ → ℕ → (ℕ → ℕ) → List ℕ
listed zero n f = []
listed (suc k) n f = f n ∷ listed k (suc n) f

-- the jobs of the 64 numbers
abbrev pub jobs_of : History → List ℕ
jobs_of h = listed numbers 0 (job_of h)

-- a closing of a number is among the entries
unfoldable pub closes_number : ℕ → History → Bool
closes_number n [] = false
closes_number n (opened m j ∷ h) = closes_number n h
closes_number n (closed m ∷ h) = eqb m n || closes_number n h

-- an opening after a history: of the lowest free number, for a job
pub record Opening (h : History) (n j : ℕ) : Type 0 where
  pub number : n < numbers
  pub job : j ≡ 0 → ⊥
  pub width : j < 2 ^ 64
  pub free : job_of h n ≡ 0
  pub lower : (m : ℕ) → m < n → job_of h m ≡ 0 → ⊥

-- a closing after a history: of a number that is open
pub record Closing (h : History) (n : ℕ) : Type 0 where
  pub number : n < numbers
  pub was_open : job_of h n ≡ 0 → ⊥

abbrev pub Orderly : History → Type 0
Orderly [] = Unit {0}
Orderly (opened n j ∷ h) = Opening h n j × Orderly h
Orderly (closed n ∷ h) = Closing h n × Orderly h

-- ---- calls in a row

-- a book's bytes, and its history since it was last emptied
pub record Kept : Type 0 where
  pub bytes : List ℕ
  pub history : History

abbrev pub called : List ℕ → Call → Left
called b empties = empty_at b
called b (opens j fits) = open_at b j
called b (closes n) = close_at b n

-- what a call that was not refused adds; emptying begins anew
abbrev pub taken : Call → ℕ → History → History
taken empties x h = []
taken (opens j fits) n h = opened n j ∷ h
taken (closes n) x h = closed n ∷ h

-- refused calls are not in it
abbrev pub noted : Call → Result ℕ BookRefusal → History → History
noted c (Ok x) h = taken c x h
noted c (Err r) h = h

abbrev pub after : Kept → Call → Kept
after k c = record { bytes = (called k.bytes c).bytes; history = noted c (called k.bytes c).answer k.history }

unfoldable pub run : Kept → List Call → Kept
run k [] = k
run k (c ∷ cs) = run (after k c) cs

-- a range of a book's size that was just emptied
abbrev pub emptied : List ℕ → Kept
emptied b = record { bytes = (empty_at b).bytes; history = [] }

-- what is claimed of a book after any calls
pub record Claims (k : Kept) : Type 0 where
  -- the bytes are those of the history's open numbers and jobs: equal histories, equal bytes
  pub bytes : k.bytes ≡ book_of (jobs_of k.history)
  -- the calls that read say what the history says: of each number the job that it is open for, and how many are open
  pub jobs : (n : ℕ) → job_at k.bytes n ≡ job_of k.history n
  pub count : count_at k.bytes ≡ Ok (open_count (jobs_of k.history))
  -- each number was the lowest free one when it was given, and was open when it was closed
  pub orderly : Orderly k.history
