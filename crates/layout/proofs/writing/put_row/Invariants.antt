use mathlib.Core.Path.{◌≡◌}
use Prim.Native.Nat.{◌≤◌}
use lib.ListN.{length, take, drop}
use Rattle.elements.specs.Writing.{put_pieces}
use Rattle.inner.specs.Writing.{row_pieces}
use Rattle.layout.specs.Layout.{elements_of}
use Rattle.layout.proofs.writing.put_row.Given as goal

abbrev pub invariant-loop-i : goal.invariant-loop-i
invariant-loop-i l = (l.from ≤ length l.text) × (length l.buf ≡ length l.initial.buf)
    × (put_pieces l.buf l.end l.p (row_pieces l.direction (drop l.i (take l.n (elements_of 5 (drop 12 l.b)))) (drop l.from l.text)) ≡ put_pieces l.initial.buf l.end l.at
    (row_pieces l.direction (take l.n (elements_of 5 (drop 12 l.b))) l.text))
