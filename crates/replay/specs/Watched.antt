-- The lines that are no moves (crate replay, watched.rt; docs/HOST.md, "A recorded day"). What they said is one range of numbers, with a part for each side.
use Rattle.std.specs.Prelude.{ℕ, zero, suc, ◌+◌, Bool, true, false, not, cond, ◌&&◌, ◌||◌, List, eqb, leb, ltb, get_or, set}

-- the rule that a line breaks, or 0; and what it leaves of the range
pub record Held : Type 0 where
  pub rule : ℕ
  pub watch : List ℕ

abbrev pub held : ℕ → List ℕ → Held
held r w = record { rule = r; watch = w }

-- ---- places

-- the place of one side
abbrev pub of_side : Bool → ℕ → ℕ
of_side air at = cond air at (cond (ltb 32895 at) at (at + 32896))

abbrev pub looked : List ℕ → Bool → ℕ → ℕ
looked w air at = get_or w (of_side air at) 0

abbrev pub kept : List ℕ → Bool → ℕ → ℕ → List ℕ
kept w air at v = set w (of_side air at) v

-- ---- what was said of a job: their count at place 8, the jobs from place 128 on, what was said of them from place 16512 on

abbrev pub job_at : List ℕ → Bool → ℕ → ℕ
job_at w air i = cond (leb 16384 i) 0 (looked w air (128 + i))

abbrev pub said_at : List ℕ → Bool → ℕ → ℕ
said_at w air i = cond (leb 16384 i) 0 (looked w air (16512 + i))

-- the first of the first n that is this job; n where there is none
abbrev pub found_in : List ℕ → Bool → ℕ → ℕ → ℕ
found_in w air job zero = 0
found_in w air job (suc n) = cond (ltb (found_in w air job n) n) (found_in w air job n) (cond (eqb (job_at w air n) job) n (suc n))

abbrev pub is_known : List ℕ → Bool → ℕ → Bool
is_known w air job = ltb (found_in w air job (looked w air 8)) (looked w air 8)

-- this was said of the job, or nothing
abbrev pub agrees_with : List ℕ → Bool → ℕ → ℕ → Bool
agrees_with w air job said = cond (is_known w air job) (eqb (said_at w air (found_in w air job (looked w air 8))) said) true

-- one more of which something was said; 23: there is no room
unfoldable pub learned : List ℕ → Bool → ℕ → ℕ → Held
learned w air job said =
    cond (is_known w air job) (held 0 w)
    (cond (leb 16384 (looked w air 8)) (held 23 w)
    (held 0 (kept (kept (kept w air (128 + looked w air 8) job) air (16512 + looked w air 8) said) air 8 (looked w air 8 + 1))))

-- what a line says of the job of a move: behind one word it is learned, behind another it is what the side `of` has learned, or the rule is broken
unfoldable pub about_job : List ℕ → Bool → Bool → ℕ → ℕ → ℕ → ℕ → Held
about_job w air of learns checks rule said =
    cond (eqb (looked w air 0) checks) (cond (agrees_with w of (looked w air 1) said) (held 0 w) (held rule w))
    (cond (eqb (looked w air 0) learns)
    (cond (agrees_with w air (looked w air 1) said) (learned w air (looked w air 1) said) (held rule w)) (held 26 w))

-- `bits`: behind `takes` (2), and behind `hears-data` (34), where the other side took the job
abbrev pub bits_held : List ℕ → Bool → ℕ → Held
bits_held w air digest = about_job w air (not air) 2 34 24 digest

-- `reason`: behind `refuses` (3), and behind `tells-refused` (5)
abbrev pub reason_held : List ℕ → Bool → ℕ → Held
reason_held w air why = about_job w air air 3 5 4 why

-- `posts`: behind `shows` (19), and the envelope's kind is 2
abbrev pub posts_rule : List ℕ → Bool → ℕ → ℕ
posts_rule w air kind = cond (eqb (looked w air 0) 19) (cond (eqb kind 2) 0 25) 26

-- ---- the book: at place 16 + number the dialogue in which the number is open; at place 2 the number that a reply has named, and one

abbrev pub is_open_in : List ℕ → Bool → ℕ → ℕ → Bool
is_open_in w air dialogue number = cond (leb 64 number) false (cond (eqb dialogue 0) false (eqb (looked w air (16 + number)) dialogue))

abbrev pub marked : List ℕ → Bool → ℕ → ℕ → List ℕ
marked w air number dialogue = cond (ltb number 64) (kept w air (16 + number) dialogue) w

unfoldable pub opens_held : List ℕ → Bool → ℕ → ℕ → Held
opens_held w air dialogue number =
    cond (eqb (looked w air 0) 2)
    (cond (leb 64 number) (held 11 w)
    (cond (is_open_in w air dialogue number) (held 11 w) (held 0 (marked w air number dialogue)))) (held 26 w)

abbrev pub is_heard : ℕ → Bool
is_heard word = cond (ltb 49 word) (eqb word 52 || eqb word 53) (ltb 29 word)

unfoldable pub replies_held : List ℕ → Bool → ℕ → ℕ → Held
replies_held w air dialogue number =
    cond (is_heard (looked w air 0))
    (cond (eqb (looked w air 2) 0) (cond (leb 64 number) (held 0 w)
    (cond (is_open_in w air dialogue number) (held 0 (kept w air 2 (number + 1))) (held 0 w))) (held 11 w))
    (held 26 w)

unfoldable pub closes_held : List ℕ → Bool → ℕ → Held
closes_held w air number =
    cond (leb 64 number) (held 11 w) (cond (eqb (looked w air 2) (number + 1)) (held 0 (marked (kept w air 2 0) air number 0)) (held 11 w))

unfoldable pub discards_held : List ℕ → Bool → ℕ → ℕ → Held
discards_held w air dialogue number =
    cond (eqb (looked w air 2) 0) (cond (is_open_in w air dialogue number) (held 0 (marked w air number 0)) (held 11 w)) (held 11 w)

-- ---- what a position shows: at place 3; at 4 and 5 that the dialogue was open, was closed, since it was shown the other. p: the page of the side

abbrev pub saw : List ℕ → List ℕ → Bool → List ℕ
saw w p air = cond (eqb (get_or p 4 0) 0) (cond (eqb (get_or p 0 0) 0) (kept w air 5 1) (kept w air 4 1)) (kept w air 5 1)

unfoldable pub opened_held : List ℕ → List ℕ → Bool → Held
opened_held w p air =
    cond (eqb (looked w air 3) 0)
    (cond (eqb (looked w air 4) 0) (held 16 w) (held 0 (saw (kept (kept w air 3 1) air 5 0) p air))) (held 16 w)

unfoldable pub closed_held : List ℕ → List ℕ → Bool → Held
closed_held w p air =
    cond (eqb (looked w air 3) 0) (held 16 w)
    (cond (eqb (looked w air 5) 0) (held 16 w) (held 0 (saw (kept (kept w air 3 0) air 4 0) p air)))

-- ---- a line of these, by its word and its number; p: the page of its side, whose dialogue's number is at place 2

unfoldable pub said_held : List ℕ → List ℕ → Bool → ℕ → ℕ → Held
said_held w p air word a =
    cond (eqb word 40) (bits_held w air a)
    (cond (eqb word 41) (reason_held w air a)
    (cond (eqb word 42) (held (posts_rule w air a) w)
    (cond (eqb word 43) (opens_held w air (get_or p 2 0) a)
    (cond (eqb word 44) (replies_held w air (get_or p 2 0) a)
    (cond (eqb word 45) (closes_held w air a)
    (cond (eqb word 46) (discards_held w air (get_or p 2 0) a) (cond (eqb word 47) (opened_held w p air) (closed_held w p air))))))))

-- ---- a move was made: its word, its job, and what the pages of both sides say of their dialogue

abbrev pub job_of : ℕ → ℕ → ℕ → ℕ → ℕ
job_of word a b c = cond (eqb word 2) a (cond (eqb word 3) a (cond (eqb word 5) b (cond (eqb word 34) c 0)))

abbrev pub moved_on : List ℕ → List ℕ → List ℕ → Bool → ℕ → ℕ → List ℕ
moved_on w p q air word job = saw (saw (kept (kept w air 0 word) air 1 job) p true) q false
