-- Document 01, "The broker envelope": what the program prints of a string of envelopes. A text is a list of ASCII codes.
use Rattle.std.specs.Prelude.{ℕ, zero, suc, ◌+◌, ◌/◌, ◌%◌, min, cond, List, [], ◌∷◌, ◌++◌, ltb}
use Rattle.envelope.specs.Envelopes.{Content, refusal_number}
use Rattle.envelope.specs.Strings.{Ending, ended, stopped, walk, contents_of}
use Rattle.envelope.specs.declared.EnvelopeRefusal.{EnvelopeRefusal}
use Rattle.fragments.specs.Mail.{top}

-- a number in decimal digits, f + 1 of them at most and no more than it needs
unfoldable pub digits : ℕ → ℕ → List ℕ
digits zero n = (48 + n) ∷ []
digits (suc f) n = cond (ltb n 10) ((48 + n) ∷ []) (digits f (n / 10) ++ ((48 + n % 10) ∷ []))

-- a number below 2^64 has twenty digits at most
unfoldable pub decimal : ℕ → List ℕ
decimal n = digits 19 n

-- "kind job bits", and a line's end
abbrev pub title : List ℕ
title = 107 ∷ 105 ∷ 110 ∷ 100 ∷ 32 ∷ 106 ∷ 111 ∷ 98 ∷ 32 ∷ 98 ∷ 105 ∷ 116 ∷ 115 ∷ 10 ∷ []

-- "end ", "refused ", " at ", a blank, a line's end
abbrev pub end_word : List ℕ
end_word = 101 ∷ 110 ∷ 100 ∷ 32 ∷ []

abbrev pub refused_word : List ℕ
refused_word = 114 ∷ 101 ∷ 102 ∷ 117 ∷ 115 ∷ 101 ∷ 100 ∷ 32 ∷ []

abbrev pub at_word : List ℕ
at_word = 32 ∷ 97 ∷ 116 ∷ 32 ∷ []

abbrev pub blank : List ℕ
blank = 32 ∷ []

abbrev pub newline : List ℕ
newline = 10 ∷ []

-- a line for each envelope: kind, job and bits
unfoldable pub line_of : ℕ → ℕ → ℕ → List ℕ
line_of kind job bits = decimal kind ++ (blank ++ (decimal job ++ (blank ++ (decimal bits ++ newline))))

unfoldable pub lines_of : List Content → List ℕ
lines_of [] = []
lines_of (c ∷ cs) = line_of c.kind c.job c.bits ++ lines_of cs

-- an end line with the bytes read, or the refusal and the byte where its envelope begins
unfoldable pub end_of : ℕ → List ℕ
end_of n = end_word ++ (decimal n ++ newline)

unfoldable pub refusal_of : EnvelopeRefusal → ℕ → List ℕ
refusal_of r n = refused_word ++ (decimal (refusal_number r) ++ (at_word ++ (decimal n ++ newline)))

-- a count of bytes that eight bytes do not hold is shown as the largest that they do
abbrev pub last_line : Ending → List ℕ
last_line (ended at) = end_of (min at top)
last_line (stopped r at) = refusal_of r (min at top)

-- a header, the lines, the last line
unfoldable pub text_of : ℕ → List ℕ → List ℕ
text_of limit s = title ++ (lines_of (contents_of s (walk limit s).envelopes) ++ last_line (walk limit s).ending)
