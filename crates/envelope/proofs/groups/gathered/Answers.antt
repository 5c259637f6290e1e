use native.Mathlib.Omega.{arith}
use Prim.Native.Nat.{◌-◌}
use Rattle.envelope.proofs.Numbers.{sums_fit, gathers_none, gathers_more, cut_here, ends_value, ends_longer, ends_zero, tenth_other, tenth_one}
use Rattle.envelope.proofs.groups.gathered.Goals as goal

pub loop-i-init : goal.loop-i-init
loop-i-init c = gathers_none _ _

pub returns-then-s-p : goal.returns-then-s-p
returns-then-s-p c = cut_here _ _ _ _ _ _ 0 c.loop-i.invariant c.if-s-p.true

pub overflow_mul-result : goal.overflow_mul-result
overflow_mul-result c =
    omega (
      arith,
      sums_fit c.loop-i.i c.loop-i.v c.loop-i.w c.wide-b.result (omega arith)
          c.loop-i.invariant.weight c.loop-i.invariant.small (omega arith),
    )

pub overflow_add-result : goal.overflow_add-result
overflow_add-result c =
    omega (
      arith,
      sums_fit c.loop-i.i c.loop-i.v c.loop-i.w c.wide-b.result (omega arith)
          c.loop-i.invariant.weight c.loop-i.invariant.small (omega arith),
    )

pub returns-then-b-gt0 : goal.returns-then-b-gt0
returns-then-b-gt0 c =
    ends_value _ _ _ _ _ _ _ c.loop-i.invariant c.loop-i-test.true c.if-s-p.false
    c.wide-b.ensures c.if-b-lt128.true c.if-b-gt0.true

pub returns-then-i-gt0 : goal.returns-then-i-gt0
returns-then-i-gt0 c =
    ends_longer _ _ _ _ _ _ _ c.loop-i.invariant c.loop-i-test.true c.if-s-p.false
    c.wide-b.ensures c.if-b-lt128.true c.if-b-gt0.false c.if-i-gt0.true

pub returns-then-b-lt128 : goal.returns-then-b-lt128
returns-then-b-lt128 c =
    ends_zero _ _ _ _ _ _ _ c.loop-i.invariant c.loop-i-test.true c.if-s-p.false
    c.wide-b.ensures c.if-b-lt128.true c.if-b-gt0.false c.if-i-gt0.false

pub overflow_mul-v : goal.overflow_mul-v
overflow_mul-v c =
    omega (
      arith,
      sums_fit c.loop-i.i c.loop-i.v c.loop-i.w (c.wide-b.result - 128) (omega arith)
          c.loop-i.invariant.weight c.loop-i.invariant.small
          (omega (arith, c.type_inv.s c.loop-i.p, c.wide-b.ensures)),
    )

pub overflow_add-v : goal.overflow_add-v
overflow_add-v c =
    omega (
      arith,
      sums_fit c.loop-i.i c.loop-i.v c.loop-i.w (c.wide-b.result - 128) (omega arith)
          c.loop-i.invariant.weight c.loop-i.invariant.small
          (omega (arith, c.type_inv.s c.loop-i.p, c.wide-b.ensures)),
    )

pub overflow_mul-w : goal.overflow_mul-w
overflow_mul-w c =
    omega (
      arith,
      sums_fit c.loop-i.i c.loop-i.v c.loop-i.w 0 (omega arith) c.loop-i.invariant.weight
          c.loop-i.invariant.small (omega arith),
    )

pub loop-i-preserved : goal.loop-i-preserved
loop-i-preserved c =
    gathers_more _ _ _ _ _ _ _ c.loop-i.invariant c.loop-i-test.true c.if-s-p.false
    c.wide-b.ensures c.if-b-lt128.false (omega (
      arith,
      c.type_inv.s
          c.loop-i.p,
      c.wide-b.ensures,
    ))

pub returns-then-s-p-2 : goal.returns-then-s-p-2
returns-then-s-p-2 c = cut_here _ _ _ _ _ _ 0 c.loop-i.invariant c.if-s-p-2.true

pub returns-then-b-ne1 : goal.returns-then-b-ne1
returns-then-b-ne1 c =
    tenth_other _ _ _ _ _ _ _ c.loop-i.invariant c.loop-i-test.false c.if-s-p-2.false
    c.wide-b-2.ensures c.if-b-ne1.true

pub returns : goal.returns
returns c =
    tenth_one _ _ _ _ _ _ _ c.loop-i.invariant c.loop-i-test.false c.if-s-p-2.false
    c.wide-b-2.ensures c.if-b-ne1.false
