-- Document 01, "The broker envelope": numbers in groups of seven bits, lowest group first, the top bit set on all but
-- the last byte, shortest form only. A number has 64 bits at most: nine groups that may be followed by another, and a
-- tenth of one bit.
use Rattle.std.specs.Prelude.{ℕ, zero, suc, ◌+◌, ◌-◌, ◌*◌, ◌/◌, ◌%◌, ◌≡◌, cond, List, [], ◌∷◌, length, drop, ltb, eqb, Err, Ok, Result}
use Rattle.std.proofs.lemmas.List.Edits.{sets}
use Rattle.envelope.specs.declared.EnvelopeRefusal.TheVariants.{Cut, Groups}
use Rattle.envelope.specs.declared.EnvelopeRefusal.{EnvelopeRefusal}

-- a number and the place after it, or why there is none
abbrev pub NumberRead : Type 0
NumberRead = Result (ℕ × ℕ) EnvelopeRefusal

-- the bytes of a number, of which f at most are followed by another
unfoldable pub groups : ℕ → ℕ → List ℕ
groups zero n = n ∷ []
groups (suc f) n = cond (ltb n 128) (n ∷ []) ((128 + n % 128) ∷ groups f (n / 128))

-- the groups that may be followed by another
abbrev pub followed : ℕ
followed = 9

-- the bytes of a number
unfoldable pub number : ℕ → List ℕ
number n = groups followed n

-- a group below what follows it: nothing above it is not the shortest form
abbrev pub below : ℕ → NumberRead → NumberRead
below c (Ok (x, n)) = cond (eqb x 0) (Err Groups) (Ok (c + 128 * x, n + 1))
below c (Err r) = Err r

-- the number at the front of bytes, of which f at most are followed by another: its value and the bytes it takes.
-- Where none may follow, a byte above 1 is GROUPS at once.
unfoldable pub number_in : ℕ → List ℕ → NumberRead
number_in f [] = Err Cut
number_in zero (b ∷ bs) = cond (ltb 1 b) (Err Groups) (Ok (b, 1))
number_in (suc f) (b ∷ bs) = cond (ltb b 128) (Ok (b, 1)) (below (b - 128) (number_in f bs))

-- bytes taken, counted from a position
abbrev pub onward : ℕ → NumberRead → NumberRead
onward at (Ok (v, n)) = Ok (v, at + n)
onward at (Err r) = Err r

-- the number at a position, and the position after it
unfoldable pub number_at : List ℕ → ℕ → NumberRead
number_at s at = onward at (number_in followed (drop at s))

-- bytes put into a buffer s at a position: the buffer after it, and the position after them
pub record Put (s z : List ℕ) (at next : ℕ) (bs : List ℕ) : Type 0 where
  pub bytes : z ≡ sets s at bs
  pub place : next ≡ at + length bs
