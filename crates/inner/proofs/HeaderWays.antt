-- The ways out of a field that may be absent, and of a message with nothing after it.
-- Assumes nothing.
use mathlib.Core.Path.{◌≡◌, ◌∙◌}
use mathlib.Core.Bool.{Bool, true, false}
use mathlib.Core.List.{List}
use Prim.Native.Nat.{ℕ, ◌+◌}
use lib.Dec.{leb}
use lib.ListN.{length}
use borrow.Author.Tests.{ne_eqb}
use Rattle.fields.specs.Fields.{Reading, refused_at, whole_number}
use Rattle.fields.specs.declared.Refusal.{Refusal}
use Rattle.fields.specs.declared.Fault.TheVariants as fault
use Rattle.kinds.specs.declared.Direction.{Direction}
use Rattle.inner.specs.declared.values.Message.{Message}
use Rattle.inner.specs.Headers.{acknowledgement_at}
use Rattle.inner.specs.Messages.{message_at, exactly}
use Rattle.std.specs.Prelude.{Err, Ok}

-- an acknowledgement that is present with its default value
pub ack_default : (l : List ℕ) (at : ℕ) (b : Bool) → b ≡ true → (f : Reading ℕ) → f ≡ whole_number l at 0 1 → (v next : ℕ)
    → f ≡ Ok (v, next) → (v ≡ 0 → ⊥) → acknowledgement_at l at b ≡ refused_at at fault.Default
unfolding acknowledgement_at
ack_default l at b h f p v next q d = rw (h, ← p, q, ne_eqb v 0 d)

-- nothing after it
module _ (d : Direction) (l : List ℕ) (f : Reading Message) (p : f ≡ message_at d l 0) where
  pub exactly_handed : (r : Refusal) → f ≡ Err r → exactly d l ≡ Err r
  unfolding exactly
  exactly_handed r q = rw (← p, q)

  pub exactly_more : (m : Message) (n : ℕ) → f ≡ Ok (m, n) → leb (n + 1) (length l) ≡ true → exactly d l ≡ refused_at n fault.Tail
  unfolding exactly
  exactly_more m n q e = rw (← p, q, e)

  pub exactly_done : (m : Message) (n : ℕ) → f ≡ Ok (m, n) → leb (n + 1) (length l) ≡ false → f ≡ exactly d l
  unfolding exactly
  exactly_done m n q e = rw (← p, q, e)
