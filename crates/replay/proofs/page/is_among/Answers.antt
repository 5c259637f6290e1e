use borrow.Author.Tests.{eq-eqb}
use Prim.Native.Nat.{◌-◌}
use mathlib.Core.Path.{refl, sym, ◌∙◌}
use mathlib.Core.Bool.{false}
use native.Mathlib.Omega.{arith}
use Rattle.tables.proofs.Tables.{among_here, among_turn, among_end}
use Rattle.replay.proofs.page.is_among.Goals as goal

pub loop-i-init : goal.loop-i-init
loop-i-init c = (omega arith, refl)

pub returns-then-at-x : goal.returns-then-at-x
returns-then-at-x c =
    sym (among_here _ _ _ _ _ c.loop-i-test.true
    (eq-eqb _ _ (sym c.at.ensures ∙ c.if-at-x.true)))

pub loop-i-preserved : goal.loop-i-preserved
loop-i-preserved c = (
  omega arith,
  among_turn c.args.p.now c.args.from c.loop-i.i
      c.args.x c.at.result c.at.ensures c.if-at-x.false
      c.loop-i.invariant.1,
)

pub returns : goal.returns
returns c = sym (among_end _ _ _ _ _ c.loop-i.invariant.0 c.loop-i-test.false c.loop-i.invariant.1)
