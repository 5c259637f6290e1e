-- What a call on a book leaves, from what the book's own function left; and the number that was opened, and the count, are all in the answer.
-- Assumes nothing.
use mathlib.Core.Path.{◌≡◌, ap, ◌∙◌}
use mathlib.Core.List.{List}
use Prim.Native.Nat.{ℕ, ◌/◌, ◌%◌, ◌<◌}
use native.Mathlib.Omega.{arith}
use Rattle.book.specs.Books.{Left, left, open_at, count_at}
use Rattle.book.proofs.Laws.{given_lowest, count_most}
use Rattle.layout.specs.Calls.{sent}
use Rattle.card.specs.MessageNumbers.{answer_number, leaves}
use Rattle.std.specs.Prelude.{Ok, Result}
use Rattle.book.specs.declared.BookRefusal.{BookRefusal}

pub numbered : (n : ℕ) (a : Result ℕ BookRefusal) (b : List ℕ) (l : Left) → n ≡ answer_number a → left a b ≡ l → sent n b ≡ leaves l
numbered n a b l p q = ap (λ (x : ℕ). sent x b) p ∙ ap leaves q

-- the parts of an answer that is no refusal
pub record Says (x n : ℕ) : Type 0 where
  pub none : x % 256 ≡ 0
  pub number : x / 256 ≡ n

said : (a : Result ℕ BookRefusal) (n : ℕ) → a ≡ Ok n → n < 256 → Says (answer_number a) n
unfolding answer_number
said a n e l = rw e (record { none = omega arith; number = omega arith })

pub opened_said : (b : List ℕ) (j n : ℕ) → (open_at b j).answer ≡ Ok n → Says (answer_number (open_at b j).answer) n
opened_said b j n e = said (open_at b j).answer n e (omega (arith, (given_lowest b j n e).number))

pub counted_said : (b : List ℕ) (n : ℕ) → count_at b ≡ Ok n → Says (answer_number (count_at b)) n
counted_said b n e = said (count_at b) n e (omega (arith, count_most b n e))
