use native.Mathlib.Omega.{arith}
use mathlib.Core.Path.{ap, ◌∙◌}
use Rattle.std.specs.Prelude.{Ok}
use Rattle.envelope.specs.Envelopes.{most_bits}
use Rattle.fragments.proofs.Calls.{Holds, holds_part, end_cut}
use Rattle.fragments.proofs.ending.end.Goals as goal

pub is_unfinished-requires : goal.is_unfinished-requires
is_unfinished-requires c =
    let held : Holds most_bits c.args.rec.now c.in-Part.n = holds_part most_bits _ _ c.load.ensures _ _ (c.in_ok-n.was ∙ ap Ok c.in-Part.is) in
    omega (arith, held)

pub refuse-requires : goal.refuse-requires
refuse-requires c =
    let held : Holds most_bits c.args.rec.now c.in-Part.n = holds_part most_bits _ _ c.load.ensures _ _ (c.in_ok-n.was ∙ ap Ok c.in-Part.is) in
    held.size

pub returns-then-is_unfinished : goal.returns-then-is_unfinished
returns-then-is_unfinished c =
    end_cut most_bits _ _ c.load.ensures _ _ _ _ _ (c.in_ok-n.was ∙ ap Ok c.in-Part.is) c.if-n-eq0.false
    c.is_unfinished.ensures c.if-is_unfinished.true c.refuse.ensures
