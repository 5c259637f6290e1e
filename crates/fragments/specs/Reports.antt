-- What the program `envelopes` prints as its input arrives: the header, the lines of each fragment, the last line. Each is put at the front
-- of a lent buffer, the rest of it as it was; or the buffer is too small for any such text.
use Rattle.std.specs.Prelude.{ℕ, suc, ◌*◌, Bool, true, false, cond, List, [], ◌∷◌, ◌++◌, length, drop, ltb, Err, None, Ok, Option, Some}
use Rattle.envelope.specs.Strings.{ended, stopped}
use Rattle.fragments.specs.declared.Taken.TheVariants as taken
use Rattle.fragments.specs.declared.Untaken.TheVariants as untaken
use Rattle.fragments.specs.declared.stored.Loaded.TheVariants as loaded
use Rattle.fragments.specs.Mail.{Taking, later}
use Rattle.fragments.specs.Record.{Loading, After, count_in, place_in, load_at, end_at}
use Rattle.fragments.specs.Cuts.{Fed, hand_over}
use Rattle.fragments.specs.Texts.{title, lines_of, last_line}

-- the bytes that a buffer has at least: for a header or a last line, and for each byte of a fragment
abbrev pub last_room : ℕ
last_room = 64

abbrev pub line_room : ℕ
line_room = 29

abbrev pub over : List ℕ → List ℕ → List ℕ
over t out = t ++ drop (length t) out

-- ---- the header: the answer, and the buffer after it

pub record Page : Type 0 where
  pub answer : Option ℕ
  pub text : List ℕ

abbrev pub page : Option ℕ → List ℕ → Page
page a t = record { answer = a; text = t }

unfoldable pub title_at : List ℕ → Page
title_at out = cond (ltb (length out) last_room) (page None out) (page (Some (length title)) (over title out))

-- ---- the lines of a fragment, and the last line: the answer, and the record and the buffer after it

pub record Said : Type 0 where
  pub answer : Option ℕ
  pub bytes : List ℕ
  pub text : List ℕ

abbrev pub said : Option ℕ → List ℕ → List ℕ → Said
said a b t = record { answer = a; bytes = b; text = t }

abbrev pub says : List ℕ → List ℕ → List ℕ → Said
says t b out = said (Some (length t)) b (over t out)

-- a line for each envelope that is handed out until the fragment is taken
abbrev pub fragment_by : ℕ → List ℕ → List ℕ → Fed
fragment_by limit b f = hand_over limit (suc (length f)) b f

unfoldable pub lines_at : ℕ → List ℕ → List ℕ → List ℕ → Said
lines_at limit b f out =
    cond (ltb (length out) (line_room * length f)) (said None b out) (says (lines_of (fragment_by limit b f).envelopes) (fragment_by limit b f).bytes out)

-- from the record after the end: the bytes read, or the refusal and the byte where its envelope begins. A range that is no record has no
-- last line.
abbrev pub end_line_of : Taking → List ℕ → List ℕ
end_line_of (Ok (taken.Part n)) b = last_line (ended (later (place_in b) (count_in b)))
end_line_of (Err (untaken.Refused r)) b = last_line (stopped r (place_in b))
end_line_of (Ok (taken.Whole e n)) b = []
end_line_of (Err untaken.Shape) b = []

abbrev pub end_text : After → List ℕ
end_text x = end_line_of x.answer x.bytes

unfoldable pub last_at : ℕ → List ℕ → List ℕ → Said
last_at limit b out = cond (ltb (length out) last_room) (said None b out) (says (end_text (end_at limit b)) (end_at limit b).bytes out)

-- ---- the program: fragment after fragment to the end of its input, or to a refusal, "then stops"

abbrev pub is_refused : Loading → Bool
is_refused (Ok (loaded.Part n p)) = false
is_refused (Ok (loaded.Whole n p)) = false
is_refused (Err (untaken.Refused r)) = true
is_refused (Err untaken.Shape) = false

unfoldable pub printed_from : ℕ → List ℕ → List (List ℕ) → List ℕ
printed_from limit b [] = end_text (end_at limit b)
printed_from limit b (f ∷ fs) =
    lines_of (fragment_by limit b f).envelopes
    ++ cond (is_refused (load_at limit (fragment_by limit b f).bytes)) (end_text (end_at limit (fragment_by limit b f).bytes)) (printed_from limit (fragment_by limit b f).bytes fs)
