use Prim.Native.Nat.{◌≤◌}
use lib.ListN.{length, drop}
use Rattle.inner.proofs.RowPieces.{Measured}
use Rattle.layout.specs.Layout.{elements_of}
use Rattle.layout.proofs.writing.row_bits.Given as goal

abbrev pub invariant-loop-i : goal.invariant-loop-i
invariant-loop-i l = (l.from ≤ length l.text) × Measured l.direction (elements_of 5
    (drop 12 l.b)) l.n l.text l.i l.from l.total
