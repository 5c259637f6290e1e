-- The book of message identification numbers: document 02, E2. A book says of each of the 64 numbers the job that it is open for, 0 where
-- it is not open.
-- The host keeps it in 520 bytes:
--   0 to 7   the open numbers: bit n, counted from the lowest, is 1 where number n is open
--   8 (n + 1) and the seven bytes after it   the job of number n
-- each number of eight bytes the most significant byte first. The jobs decide which numbers are open, so the first eight bytes have one
-- value, and books with the same open numbers and jobs have the same bytes.
use Rattle.std.specs.Prelude.{ℕ, zero, suc, ◌+◌, ◌*◌, ◌/◌, ◌%◌, ◌^◌, Bool, cond, ◌&&◌, List, [], ◌∷◌, ◌++◌, eqb, length, take, drop, get_or, set, replicate, Err, Ok, Result}
use Rattle.words.specs.Limits.{shape}
use Rattle.book.specs.declared.BookRefusal.{BookRefusal}
use Rattle.book.specs.declared.BookRefusal.TheVariants.{Shape, AllOpen, NotOpen}

-- document 01, "The numbers a refusal carries", and E2: "7, all 64 are open [..]; 8, closing a number that isn't open or is above 63"
abbrev pub refusal_number : BookRefusal → ℕ
refusal_number Shape = shape
refusal_number AllOpen = 7
refusal_number NotOpen = 8

-- "the 64 numbers", and the bytes of a book
abbrev pub numbers : ℕ
numbers = 64

abbrev pub book_bytes : ℕ
book_bytes = 520

-- ---- numbers of eight bytes

-- the number that bytes say after the number a
unfoldable pub number_of : ℕ → List ℕ → ℕ
number_of a [] = a
number_of a (b ∷ bs) = number_of (a * 256 + b) bs

-- the n low bytes of a number, the most significant first
unfoldable pub octets : ℕ → ℕ → List ℕ
octets zero v = []
octets (suc n) v = v / 2 ^ (8 * n) % 256 ∷ octets n v

-- the number at a byte position
unfoldable pub eight_at : List ℕ → ℕ → ℕ
eight_at b at = number_of 0 (take 8 (drop at b))

-- n numbers, one behind the other; and the bytes of numbers
unfoldable pub eights_in : ℕ → List ℕ → List ℕ
eights_in zero b = []
eights_in (suc n) b = eight_at b 0 ∷ eights_in n (drop 8 b)

unfoldable pub eights : List ℕ → List ℕ
eights [] = []
eights (v ∷ vs) = octets 8 v ++ eights vs

-- ---- the jobs of the numbers, the first that of number 0

-- 1 where a number is open
abbrev pub mark : ℕ → ℕ
mark zero = 0
mark (suc j) = 1

-- the open numbers, a bit each, the lowest that of the first
unfoldable pub marks : List ℕ → ℕ
marks [] = 0
marks (j ∷ js) = mark j + 2 * marks js

-- "the lowest free of the 64 numbers"; how many there are where none is free
unfoldable pub lowest_free : List ℕ → ℕ
lowest_free [] = 0
lowest_free (zero ∷ js) = 0
lowest_free (suc j ∷ js) = suc (lowest_free js)

-- "the open count"
unfoldable pub open_count : List ℕ → ℕ
open_count [] = 0
open_count (j ∷ js) = mark j + open_count js

-- ---- the bytes of a book

unfoldable pub book_of : List ℕ → List ℕ
book_of js = eights (marks js ∷ js)

unfoldable pub jobs_in : List ℕ → List ℕ
jobs_in b = eights_in numbers (drop 8 b)

-- of their size, and the open numbers are those that have a job
unfoldable pub is_book : List ℕ → Bool
is_book b = eqb (length b) book_bytes && eqb (eight_at b 0) (marks (jobs_in b))

-- the open numbers of a book
unfoldable pub load_at : List ℕ → Result ℕ BookRefusal
load_at b = cond (is_book b) (Ok (marks (jobs_in b))) (Err Shape)

-- ---- the calls: what each answers, and the bytes after it

pub record Left : Type 0 where
  pub answer : Result ℕ BookRefusal
  pub bytes : List ℕ

abbrev pub left : Result ℕ BookRefusal → List ℕ → Left
left a b = record { answer = a; bytes = b }

-- SHAPE where the bytes are no book, and they stay; or what is done with the jobs
abbrev pub with_jobs : List ℕ → (List ℕ → Left) → Left
with_jobs b f = cond (is_book b) (f (jobs_in b)) (left (Err Shape) b)

-- "the host empties it by a call": no number is open, whatever the bytes were
unfoldable pub empty_at : List ℕ → Left
empty_at b = cond (eqb (length b) book_bytes) (left (Ok 0) (book_of (replicate numbers 0))) (left (Err Shape) b)

-- "Opening gives the lowest free of the 64 numbers"; 7 where all are open
unfoldable pub opening : List ℕ → ℕ → List ℕ → Left
opening b j js = cond (eqb (lowest_free js) numbers) (left (Err AllOpen) b) (left (Ok (lowest_free js)) (book_of (set js (lowest_free js) j)))

-- a job is 1 or more (document 01, "Sizes")
unfoldable pub open_at : List ℕ → ℕ → Left
open_at b j = cond (eqb j 0) (left (Err Shape) b) (with_jobs b (opening b j))

-- 8 where the number is not open, as none above 63 is
unfoldable pub closing : List ℕ → ℕ → List ℕ → Left
closing b n js = cond (eqb (get_or js n 0) 0) (left (Err NotOpen) b) (left (Ok 0) (book_of (set js n 0)))

unfoldable pub close_at : List ℕ → ℕ → Left
close_at b n = with_jobs b (closing b n)

unfoldable pub count_at : List ℕ → Result ℕ BookRefusal
count_at b = cond (is_book b) (Ok (open_count (jobs_in b))) (Err Shape)

-- 0 where the number is not open
unfoldable pub job_at : List ℕ → ℕ → ℕ
job_at b n = cond (is_book b) (get_or (jobs_in b) n 0) 0
