use Prim.Native.Nat.{ℕ}
use Rattle.stored.proofs.Storing.{head_put}
use borrow.Author.Rules.{rules}
use Rattle.stored.proofs.put_head.Goals as goal

pub returns : goal.returns
returns c =
    rw (c.copy_from_slice.ensures.after, c.head_bytes.ensures)
    (head_put _ _ _ (λ (i : ℕ). (c.slice_known-1.given i).fits) (search rules) (search rules) (search rules) (search rules))
