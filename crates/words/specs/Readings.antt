-- What follows a reading: a value and the place after it, or why there is none.
use Rattle.std.specs.Prelude.{ℕ, Err, Ok, Result}

-- What follows goes on from the value and the place. A refusal is handed up, and nothing further is read.
abbrev pub onto : {A B E : Type 0} → (E → B) → Result (A × ℕ) E → (A → ℕ → B) → B
onto up (Ok (v, next)) k = k v next
onto up (Err r) k = up r

-- the same, where a refusal is the answer above, unchanged
abbrev pub then : {A B E : Type 0} → Result (A × ℕ) E → (A → ℕ → Result B E) → Result B E
then f k = onto Err f k
