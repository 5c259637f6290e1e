use Prim.Native.Nat.{ℕ}
use native.Mathlib.Omega.{arith}
use mathlib.Core.Path.{◌∙◌}
use Rattle.layout.proofs.Zeros.{rest_zero}
use Rattle.layout.proofs.writing.rest_empty.Goals as goal

pub returns : goal.returns
returns c =
    c.all_most.ensures ∙ rest_zero c.args.b.now _ c.requires.0 c.requires.1 (λ (k : ℕ). omega (arith, c.type_inv.b k)) c.requires.2
