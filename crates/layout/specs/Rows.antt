-- The elements of a message as they are read, one after another: their characters, and what a call is told of them.
use Rattle.std.specs.Prelude.{ℕ, zero, suc, List, [], ◌++◌, get_or}
use Rattle.fields.specs.Fields.{Reading, onto, then}
use Rattle.kinds.specs.declared.Direction.{Direction}
use Rattle.elements.specs.Arguments.{characters_in}
use Rattle.inner.specs.declared.values.Header.{Header}
use Rattle.inner.specs.declared.values.Message.{Message}
use Rattle.inner.specs.Places.{laid, row_at, text_at}
use Rattle.inner.specs.Messages.{ended_at, message_of, opened_as, refused_by}
use Rattle.layout.specs.Calls.{Told, told_of}

-- the characters of the first k elements, by how many each has and where they begin
unfoldable pub texts_of : List ℕ → List ℕ → List ℕ → ℕ → List ℕ
texts_of l counts starts zero = []
texts_of l counts starts (suc k) = texts_of l counts starts k ++ characters_in l (get_or starts k 0) (get_or counts k 0)

-- the n elements at a place behind a header h, and nothing after them
abbrev pub ended_row : Direction → List ℕ → Header → ℕ → ℕ → Reading Message
ended_row d l h at n = then (message_of h n (laid (row_at d l at n))) (ended_at l)

-- into a message m and a text t
unfoldable pub row_told_of : Direction → List ℕ → Header → ℕ → ℕ → List ℕ → List ℕ → Told
row_told_of d l h at n m t =
    told_of m (onto (refused_by t) (ended_row d l h at n) (λ (x : Message) (next : ℕ). opened_as t x (text_at d l at n)))
