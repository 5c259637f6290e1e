use native.Mathlib.Omega.{arith}
use Rattle.fields.proofs.Writers.{refused, below_low, above_high, whole_put}
use Rattle.fields.proofs.numbers.put_whole.Goals as goal
use Rattle.fields.proofs.numbers.put_whole.Goals.{then-v-lo-via-then-v-lo, then-v-lo-via-else-v-lo+then-hi-v}

pub returns-then-v-lo : goal.returns-then-v-lo
returns-then-v-lo c =
    refused _ _ _ _ _ (elim c.then-v-lo.branch [
      | then-v-lo-via-then-v-lo w ↦ below_low _ _ _ w.if-v-lo.true
      | then-v-lo-via-else-v-lo+then-hi-v w ↦ above_high _ _ _ w.if-v-lo.false w.if-hi-v.true
    ])

pub returns : goal.returns
returns c =
    whole_put _ _ _ _ _ _ _ _ (omega arith) c.if-v-lo.false c.if-hi-v.false c.width.ensures c.put_bits.ensures
