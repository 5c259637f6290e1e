use native.Mathlib.Omega.{arith}
use Rattle.fields.proofs.Writers.{refused, above_high}
use Rattle.fields.proofs.Joined.{index_put_once}
use Rattle.fields.proofs.numbers.put_extensible_index.Goals as goal

pub returns-then-last-i : goal.returns-then-last-i
returns-then-last-i c = refused _ _ _ _ _ (above_high 0 _ _ (omega arith) c.if-last-i.true)

pub returns : goal.returns
returns c =
    index_put_once _ _ _ _ _ _ _ (omega arith) c.width-n.ensures c.if-n-ge64.false
    c.if-last-i.false c.put_bits.ensures
