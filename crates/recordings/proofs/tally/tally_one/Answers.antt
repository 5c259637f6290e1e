use native.Mathlib.Omega.{arith}
use Rattle.recordings.proofs.Tallies.{one_empty, one_last, one_none, one_miss, one_most, one_more}
use Rattle.recordings.proofs.tally.tally_one.Goals as goal

pub returns-then-n-eq0 : goal.returns-then-n-eq0
returns-then-n-eq0 c = one_empty _ _ _ _ c.if-n-eq0.true

pub returns-then-block-n : goal.returns-then-block-n
returns-then-block-n c = one_last _ _ _ _ c.requires.0 c.if-n-eq0.false c.if-block-n.true

pub returns-then-n-i : goal.returns-then-n-i
returns-then-n-i c = one_none _ _ _ c.place_of-i.result _ c.requires.0 c.place_of-i.ensures c.if-n-i.true

pub returns-then-block-i : goal.returns-then-block-i
returns-then-block-i c =
    one_miss _ _ _ c.place_of-i.result _ c.requires.0 c.place_of-i.ensures (omega arith) c.if-block-i.true

pub returns-then-t-ge-MOST : goal.returns-then-t-ge-MOST
returns-then-t-ge-MOST c =
    one_most _ _ _ c.place_of-i.result _ c.requires.0 c.requires.1 c.place_of-i.ensures (omega arith)
    c.if-block-i.false c.if-t-ge-MOST.true

pub returns : goal.returns
returns c =
    one_more _ _ _ c.place_of-i.result _ c.requires.0 c.requires.1 c.place_of-i.ensures (omega arith)
    c.if-block-i.false (omega arith)
