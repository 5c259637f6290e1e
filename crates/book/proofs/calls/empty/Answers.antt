use borrow.Author.Rules.{rules}
use borrow.Author.Fill.{fill_none}
use Prim.Native.Nat.{◌*◌}
use mathlib.Core.Path.{ap}
use native.Mathlib.Omega.{arith}
use lib.ListN.{length}
use lib.Seq.{length-sets}
use Rattle.book.proofs.Eights.{clear_turn}
use Rattle.book.proofs.Books.{empty_long, empty_is}
use Rattle.book.proofs.calls.empty.Goals as goal

pub returns-then-b-ne-BYTES : goal.returns-then-b-ne-BYTES
returns-then-b-ne-BYTES c = empty_long _ c.if-b-ne-BYTES.true

pub loop-i-init : goal.loop-i-init
loop-i-init c = (search rules, search rules, fill_none _ 0)

pub loop-i-preserved : goal.loop-i-preserved
loop-i-preserved c = (
  c.loop-i.invariant.0,
  omega
      (arith, simp length-sets at (ap length c.clear_eight.ensures)),
  clear_turn _ _ _
      c.loop-i.i (omega arith) c.loop-i.invariant.2 c.clear_eight.ensures,
)

pub returns : goal.returns
returns c = empty_is _ _ (8 * c.loop-i.i) c.loop-i.invariant.0 (omega arith) c.loop-i.invariant.2
