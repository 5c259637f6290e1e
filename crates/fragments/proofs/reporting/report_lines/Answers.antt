use mathlib.Core.Path.{◌≡◌, ap, ◌∙◌}
use Rattle.std.specs.Prelude.{Ok}
use native.Mathlib.Omega.{arith}
use Prim.Native.Nat.{ℕ, ◌+◌, ◌-◌}
use lib.Dec.{lit<}
use lib.ListN.{length, length-drop}
use Rattle.envelope.specs.Envelopes.{most_bits}
use Rattle.envelope.proofs.Numbers.{AllBytes}
use Rattle.fragments.specs.Cuts.{Fed}
use Rattle.fragments.proofs.Calls.{sized}
use Rattle.fragments.proofs.Lines.{steps, no_lines, reporting_none, reporting_more, reporting_out, reporting_done}
use Rattle.fragments.proofs.reporting.report_lines.Goals as goal

pub returns-then-out-fragment : goal.returns-then-out-fragment
returns-then-out-fragment c = no_lines most_bits _ _ _ (omega (arith, c.if-out-fragment.true))

pub loop-turn-init : goal.loop-turn-init
loop-turn-init c =
    let e : length c.args.fragment.now + 1 - 0 ≡ length c.args.fragment.now + 1 = omega arith in
    rw e (reporting_none most_bits _ _ _ (λ k. (c.type_inv.rec k).fits))

pub put_line-p-requires : goal.put_line-p-requires
put_line-p-requires c =
    let bytes : AllBytes c.args.fragment.now = λ k. omega (arith, c.type_inv.fragment k) in
    omega (
      arith,
      c.if-out-fragment.false,
      c.loop-turn.invariant,
      length-drop c.loop-turn.at
          c.args.fragment.now,
      (steps most_bits c.loop-turn.rec
          c.args.fragment.now _ c.loop-turn.at _ _ _ sized (lit< tt)
          c.loop-turn.invariant.small bytes c.take.ensures (c.in-Ok-Whole.is ∙ ap Ok c.in-Ok-Whole.field-0-is)),
    )

pub overflow_add-at : goal.overflow_add-at
overflow_add-at c =
    let bytes : AllBytes c.args.fragment.now = λ k. omega (arith, c.type_inv.fragment k) in
    omega (
      arith,
      c.loop-turn.invariant.within,
      length-drop c.loop-turn.at c.args.fragment.now,
      (steps
          most_bits c.loop-turn.rec c.args.fragment.now _ c.loop-turn.at _ _ _ sized
          (lit< tt) c.loop-turn.invariant.small bytes c.take.ensures (c.in-Ok-Whole.is ∙ ap Ok c.in-Ok-Whole.field-0-is)),
    )

pub returns-in-Ok-Part : goal.returns-in-Ok-Part
returns-in-Ok-Part c =
    reporting_done most_bits _ _ _ _ _ _ _ _ c.loop-turn.invariant _ _ (omega arith) (omega (arith, c.if-out-fragment.false)) c.take.ensures (λ (k : ℕ → Fed). rw (c.in-Ok-Part.is ∙ ap Ok c.in-Ok-Part.field-0-is))

pub loop-turn-preserved : goal.loop-turn-preserved
loop-turn-preserved c =
    let bytes : AllBytes c.args.fragment.now = λ k. omega (arith, c.type_inv.fragment k) in
    let e : length c.args.fragment.now + 1 - (c.loop-turn.turn + 1) ≡ length c.args.fragment.now + 1 - c.loop-turn.turn - 1 = omega arith in
    rw e (reporting_more most_bits _ _ _ _ _ _ _ _ c.loop-turn.invariant (omega arith) _ _ c.take.ensures _ _ _ _ (c.in-Ok-Whole.is ∙ ap Ok c.in-Ok-Whole.field-0-is) c.take.auto.rec (λ k. (c.type_inv.rec k).fits) (steps most_bits c.loop-turn.rec c.args.fragment.now _ c.loop-turn.at _ _ _ sized (lit< tt) c.loop-turn.invariant.small bytes c.take.ensures (c.in-Ok-Whole.is ∙ ap Ok c.in-Ok-Whole.field-0-is)) c.put_line-p.ensures)

pub returns : goal.returns
returns c =
    reporting_out most_bits _ _ _ _ _ _ _ _ c.loop-turn.invariant (omega arith)
    (omega (arith, c.if-out-fragment.false))

pub returns-in-Err : goal.returns-in-Err
returns-in-Err c =
    reporting_done most_bits _ _ _ _ _ _ _ _ c.loop-turn.invariant _ _ (omega arith) (omega (arith, c.if-out-fragment.false)) c.take.ensures (λ (k : ℕ → Fed). rw c.in-Err.is)
