-- A reader as the host keeps it, in a lent range:
--    0        what it holds (0 an envelope that is not finished, or none; 1 a finished one; 20 to 23 the refusal of that number)
--    1 to 2   how many bytes of the envelope it holds (of a refused one, none), most significant byte first
--    3 to 10  the byte where that envelope begins, most significant byte first
--   11 on     the bytes that it holds, then zeros to the size of the largest envelope
-- So what a reader holds determines each byte.
use Rattle.std.specs.Prelude.{ℕ, ◌+◌, ◌-◌, ◌*◌, ◌/◌, ◌%◌, cond, ◌&&◌, List, [], ◌∷◌, ◌++◌, length, take, drop, get_or, replicate, leb, eqb, Err, Ok, Result}
use Rattle.std.proofs.lemmas.List.Edits.{sets}
use Rattle.envelope.specs.Envelopes.{refusal_number, largest}
use Rattle.envelope.specs.declared.EnvelopeRefusal.TheVariants.{Cut, Groups, Kind, Size}
use Rattle.fragments.specs.declared.Untaken.{Untaken}
use Rattle.fragments.specs.declared.Taken.TheVariants as taken
use Rattle.fragments.specs.declared.stored.Loaded.{Loaded}
use Rattle.fragments.specs.declared.stored.Loaded.TheVariants.{Part, Whole}
use Rattle.fragments.specs.declared.Untaken.TheVariants.{Refused, Shape}
use Rattle.fragments.specs.Mail.{Taking, Mail, part, whole, refused, fresh, unfinished, head, Step, joined, later}

-- the bytes of a record: its head, and room for the largest envelope
abbrev pub record_bytes : ℕ → ℕ
record_bytes limit = head + largest limit

-- ---- numbers in bytes, most significant first

abbrev pub two_of : ℕ → List ℕ
two_of n = n / 256 % 256 ∷ n % 256 ∷ []

abbrev pub of_two : ℕ → ℕ → ℕ
of_two high low = high * 256 + low

unfoldable pub eight_of : ℕ → List ℕ
eight_of n =
    n / 256 / 256 / 256 / 256 / 256 / 256 / 256 % 256 ∷
    n / 256 / 256 / 256 / 256 / 256 / 256 % 256 ∷
    n / 256 / 256 / 256 / 256 / 256 % 256 ∷
    n / 256 / 256 / 256 / 256 % 256 ∷
    n / 256 / 256 / 256 % 256 ∷
    n / 256 / 256 % 256 ∷
    n / 256 % 256 ∷
    n % 256 ∷ []

unfoldable pub of_eight : ℕ → ℕ → ℕ → ℕ → ℕ → ℕ → ℕ → ℕ → ℕ
of_eight a b c d e f g h = ((((((a * 256 + b) * 256 + c) * 256 + d) * 256 + e) * 256 + f) * 256 + g) * 256 + h

-- ---- what a reader holds, as bytes

unfoldable pub head_at : ℕ → ℕ → ℕ → List ℕ
head_at state n place = (state ∷ two_of n) ++ eight_of place

abbrev pub state_of : Mail → ℕ
state_of (part p h) = 0
state_of (whole p h) = 1
state_of (refused r p) = refusal_number r

abbrev pub place_of : Mail → ℕ
place_of (part p h) = p
place_of (whole p h) = p
place_of (refused r p) = p

abbrev pub held_of : Mail → List ℕ
held_of (part p h) = h
held_of (whole p h) = h
held_of (refused r p) = []

abbrev pub head_of : Mail → List ℕ
head_of m = head_at (state_of m) (length (held_of m)) (place_of m)

abbrev pub zeros : ℕ → List ℕ
zeros n = replicate n 0

-- bytes, and zeros to a count of n
unfoldable pub padded : ℕ → List ℕ → List ℕ
padded n l = l ++ zeros (n - length l)

unfoldable pub record_of : ℕ → Mail → List ℕ
record_of limit m = head_of m ++ padded (largest limit) (held_of m)

-- where nothing is held
abbrev pub empty_of : ℕ → ℕ → ℕ → List ℕ
empty_of limit state place = head_at state 0 place ++ padded (largest limit) []

-- ---- what a range of bytes says

abbrev pub count_in : List ℕ → ℕ
count_in b = of_two (get_or b 1 0) (get_or b 2 0)

abbrev pub place_in : List ℕ → ℕ
place_in b = of_eight (get_or b 3 0) (get_or b 4 0) (get_or b 5 0) (get_or b 6 0) (get_or b 7 0) (get_or b 8 0) (get_or b 9 0) (get_or b 10 0)

abbrev pub held_in : ℕ → List ℕ → List ℕ
held_in n b = take n (drop head b)

abbrev pub Loading : Type 0
Loading = Result Loaded Untaken

unfoldable pub loaded_by : ℕ → ℕ → ℕ → Loading
loaded_by state n p =
    cond (eqb state 0) (Ok (Part n p))
    (cond (eqb state 1) (Ok (Whole n p))
    (cond (eqb state 20) (Err (Refused Cut)) (cond (eqb state 21) (Err (Refused Groups)) (cond (eqb state 22) (Err (Refused Kind)) (cond (eqb state 23) (Err (Refused Size)) (Err Shape))))))

unfoldable pub load_at : ℕ → List ℕ → Loading
load_at limit b =
    cond (eqb (length b) (record_bytes limit) && leb (count_in b) (largest limit)) (loaded_by (get_or b 0 0) (count_in b) (place_in b)) (Err Shape)

-- ---- the three calls: the answer, and the range after it

pub record After : Type 0 where
  pub answer : Taking
  pub bytes : List ℕ

abbrev pub after : Taking → List ℕ → After
after a b = record { answer = a; bytes = b }

-- the head and the bytes that are held, over a range of which n bytes were held; what was held past them is zero now.
-- After a refusal nothing is held.
unfoldable pub laid : ℕ → List ℕ → Mail → List ℕ
laid n b m = sets (sets b head (padded n (held_of m))) 0 (head_of m)

abbrev pub keep : ℕ → ℕ → List ℕ → Mail → List ℕ
keep limit n b (part p h) = laid n b (part p h)
keep limit n b (whole p h) = laid n b (whole p h)
keep limit n b (refused r p) = record_of limit (refused r p)

unfoldable pub kept : ℕ → ℕ → List ℕ → Step → After
kept limit n b s = after s.answer (keep limit n b s.mail)

-- SHAPE: a range of another size
unfoldable pub fresh_at : ℕ → List ℕ → After
fresh_at limit b = cond (eqb (length b) (record_bytes limit)) (after (Ok (taken.Part 0)) (record_of limit fresh)) (after (Err Shape) b)

-- what is held goes on with the fragment. SHAPE: what is held is not the beginning of an envelope
unfoldable pub resumed : ℕ → List ℕ → ℕ → ℕ → List ℕ → After
resumed limit b n p f =
    cond (unfinished limit (held_in n b)) (kept limit n b (joined limit p (held_in n b) f)) (after (Err Shape) b)

-- behind a finished envelope another begins; "fragments of no bytes" leave it where it stands
unfoldable pub begun : ℕ → List ℕ → ℕ → ℕ → List ℕ → After
begun limit b n p f = cond (eqb (length f) 0) (after (Ok (taken.Part 0)) b) (kept limit n b (joined limit (later p n) [] f))

-- "After a refusal 20 to 23 the reader answers with the same refusal until it is made fresh". SHAPE: a range that is no record
abbrev pub taken_by : ℕ → List ℕ → List ℕ → Loading → After
taken_by limit b f (Ok (Part n p)) = resumed limit b n p f
taken_by limit b f (Ok (Whole n p)) = begun limit b n p f
taken_by limit b f (Err x) = after (Err x) b

unfoldable pub take_at : ℕ → List ℕ → List ℕ → After
take_at limit b f = taken_by limit b f (load_at limit b)

-- "CUT is given only when the host says the input has ended"
unfoldable pub cut_short : ℕ → List ℕ → ℕ → ℕ → After
cut_short limit b n p =
    cond (eqb n 0) (after (Ok (taken.Part 0)) b)
    (cond (unfinished limit (held_in n b)) (after (Err (Refused Cut)) (record_of limit (refused Cut p))) (after (Err Shape) b))

abbrev pub ended_by : ℕ → List ℕ → Loading → After
ended_by limit b (Ok (Part n p)) = cut_short limit b n p
ended_by limit b (Ok (Whole n p)) = after (Ok (taken.Part 0)) b
ended_by limit b (Err x) = after (Err x) b

unfoldable pub end_at : ℕ → List ℕ → After
end_at limit b = ended_by limit b (load_at limit b)
