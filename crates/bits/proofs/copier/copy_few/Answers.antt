use native.Mathlib.Omega.{arith}
use Rattle.bits.proofs.Bytes.{run_zero}
use Rattle.bits.proofs.Putting.{put_nil}
use Rattle.bits.proofs.Copying.{as_number}
use Rattle.bits.proofs.EightBytes.{run_lt}
use borrow.Author.Rules.{rules}
use Rattle.bits.proofs.copier.copy_few.Goals as goal

pub put_number_at-requires : goal.put_number_at-requires
put_number_at-requires c =
    ((search rules, search rules), search rules, run_lt _ _ _ _ (omega arith) c.number_at-v.ensures)

pub returns-then-n-ne0 : goal.returns-then-n-ne0
returns-then-n-ne0 c = as_number _ _ _ _ _ _ _ (omega arith) c.number_at-v.ensures c.put_number_at.ensures

pub returns-else-n-ne0 : goal.returns-else-n-ne0
returns-else-n-ne0 c = rw (c.if-n-ne0.false, run_zero, put_nil)
