use Rattle.elements.proofs.Pieces.{numbers_full}
use Rattle.elements.proofs.numbers.put_numbers.Goals as goal

pub returns-in_err-p : goal.returns-in_err-p
returns-in_err-p c =
    rw c.from_residual.ensures (numbers_full _ _ _ _ _ _ _ c.loop-item.invariant.1 c.loop-item-test.true _ _
    c.put_whole.ensures c.in_err-p.was)
