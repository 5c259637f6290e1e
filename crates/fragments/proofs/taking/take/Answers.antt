use native.Mathlib.Omega.{arith}
use mathlib.Core.Path.{ap, ◌∙◌}
use Rattle.std.specs.Prelude.{Ok}
use Rattle.envelope.specs.Envelopes.{most_bits}
use Rattle.envelope.proofs.Numbers.{AllBytes}
use Rattle.fragments.proofs.Calls.{sized, Holds, holds_part, holds_whole, resume_none, begun_none, begun_more, take_part, take_whole}
use Rattle.fragments.proofs.taking.take.Goals as goal

pub begin-requires : goal.begin-requires
begin-requires c =
    let held : Holds most_bits c.args.rec.now c.in-Part.n = holds_part most_bits _ _ c.load.ensures _ _ (c.in_ok-n.was ∙ ap Ok c.in-Part.is) in
    held.size

pub returns-then-n-eq0 : goal.returns-then-n-eq0
returns-then-n-eq0 c =
    let bytes : AllBytes c.args.fragment.now = λ k. omega (arith, c.type_inv.fragment k) in
    let held : Holds most_bits c.args.rec.now c.in-Part.n = holds_part most_bits _ _ c.load.ensures _ _ (c.in_ok-n.was ∙ ap Ok c.in-Part.is) in
    take_part most_bits _ _ c.load.ensures _ _ _ _ (c.in_ok-n.was ∙ ap Ok c.in-Part.is) (resume_none most_bits sized
    _ _ _ _ held.size held.count bytes _
    _ c.if-n-eq0.true c.begin.ensures)

pub resume-requires : goal.resume-requires
resume-requires c =
    let held : Holds most_bits c.args.rec.now c.in-Part.n = holds_part most_bits _ _ c.load.ensures _ _ (c.in_ok-n.was ∙ ap Ok c.in-Part.is) in
    (held.size, held.count)

pub returns-then-fragment-eq0 : goal.returns-then-fragment-eq0
returns-then-fragment-eq0 c =
    let bytes : AllBytes c.args.fragment.now = λ k. omega (arith, c.type_inv.fragment k) in
    let done : Holds most_bits c.args.rec.now c.in-Whole.n = holds_whole most_bits _ _ c.load.ensures _ _ (c.in_ok-n.was ∙ ap Ok c.in-Whole.is) in
    take_whole most_bits _ _ c.load.ensures _ _ _ _ (c.in_ok-n.was ∙ ap Ok c.in-Whole.is) (begun_none most_bits sized
    _ _ _ _ done.size done.count bytes
    c.if-fragment-eq0.true)

pub put_zeros-requires : goal.put_zeros-requires
put_zeros-requires c =
    let done : Holds most_bits c.args.rec.now c.in-Whole.n = holds_whole most_bits _ _ c.load.ensures _ _ (c.in_ok-n.was ∙ ap Ok c.in-Whole.is) in
    omega (arith, done)

pub begin-requires-in-Whole : goal.begin-requires-in-Whole
begin-requires-in-Whole c =
    let done : Holds most_bits c.args.rec.now c.in-Whole.n = holds_whole most_bits _ _ c.load.ensures _ _ (c.in_ok-n.was ∙ ap Ok c.in-Whole.is) in
    omega (arith, done, c.put_zeros.auto.out)

pub returns-else-n-eq0 : goal.returns-else-n-eq0
returns-else-n-eq0 c =
    take_part most_bits _ _ c.load.ensures _ _ _ _ (c.in_ok-n.was ∙ ap Ok c.in-Part.is)
    c.resume.ensures

pub returns-else-fragment-eq0 : goal.returns-else-fragment-eq0
returns-else-fragment-eq0 c =
    let bytes : AllBytes c.args.fragment.now = λ k. omega (arith, c.type_inv.fragment k) in
    let done : Holds most_bits c.args.rec.now c.in-Whole.n = holds_whole most_bits _ _ c.load.ensures _ _ (c.in_ok-n.was ∙ ap Ok c.in-Whole.is) in
    take_whole most_bits _ _ c.load.ensures _ _ _ _ (c.in_ok-n.was ∙ ap Ok c.in-Whole.is) (begun_more most_bits
    sized _ _ _ _ done.size done.count bytes _ _ _ _ c.if-fragment-eq0.false
    c.put_zeros.ensures c.place_behind.ensures c.begin-in-Whole.ensures)
