use Prim.Native.Nat.{ℕ}
use native.Mathlib.Omega.{arith}
use Rattle.bits.proofs.Parts.{put_in}
use Rattle.bits.proofs.eight_bytes.put_in_eight.Goals as goal

pub returns : goal.returns
returns c =
    put_in _ _ c.min-q.result _ _ _ _ _ _ (λ (k : ℕ). omega (arith, c.slice_known-1.given k)) (omega arith) (omega arith) (omega arith) c.eight_at-w.ensures c.with_part-x.ensures c.put_eight.ensures
