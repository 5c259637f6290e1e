-- The book of message identification numbers as the host sees it.
--
-- The number that a call answers. A refusal is its number, and every other bit is zero. Else, from the lowest bit on:
--    8 bits  0
--    8 bits  the number that was opened, or how many are open; 0 where a call has neither
use Rattle.std.specs.Prelude.{ℕ, ◌*◌, ◌%◌, Err, Ok, Result}
use Rattle.book.specs.Books.{Left, refusal_number}
use Rattle.layout.specs.Calls.{Sent, sent}
use Rattle.book.specs.declared.BookRefusal.{BookRefusal}

unfoldable pub answer_number : Result ℕ BookRefusal → ℕ
answer_number (Ok x) = 256 * (x % 256)
answer_number (Err r) = refusal_number r

-- what a call leaves: the number and the bytes
abbrev pub leaves : Left → Sent
leaves x = sent (answer_number x.answer) x.bytes
