use Prim.Native.Nat.{ℕ}
use Rattle.book.proofs.Eights.{zero_stands}
use Rattle.book.proofs.eight.clear_eight.Goals as goal

pub returns-then-eight_at-eq0 : goal.returns-then-eight_at-eq0
returns-then-eight_at-eq0 c =
    zero_stands _ _ _ (λ (m : ℕ). (c.slice_known-1.given m).fits) c.requires c.eight_at.ensures c.if-eight_at-eq0.true
