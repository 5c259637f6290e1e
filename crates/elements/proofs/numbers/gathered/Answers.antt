use native.Mathlib.Omega.{arith}
use mathlib.Core.Path.{◌≡◌, refl}
use Prim.Native.Nat.{◌+◌, ◌*◌, ◌<◌}
use lib.ListN.{get_or}
use Rattle.bits.proofs.Reading.{turn_lt, turn_fits}
use Rattle.elements.proofs.Gathered.{fit_at, gather_none, gather_turn}
use Rattle.elements.proofs.numbers.gathered.Goals as goal

pub loop-item-init : goal.loop-item-init
loop-item-init c = (gather_none c.args.items.now, omega arith)

pub overflow_mul-v : goal.overflow_mul-v
overflow_mul-v c =
    omega (
      arith,
      turn_fits c.loop-item.v 128 0 (7 * c.loop-item.item-index) 7 c.loop-item.invariant.1 refl
          (omega arith) (omega (arith, c.requires.0)),
    )

pub overflow_add-v : goal.overflow_add-v
overflow_add-v c =
    let small : get_or c.args.items.now c.loop-item.item-index 0 < 128 = fit_at c.args.items.now c.loop-item.item-index c.requires.1
    c.loop-item-test.true in
    omega (
      arith,
      turn_fits c.loop-item.v 128 (get_or c.args.items.now c.loop-item.item-index 0) (7 * c.loop-item.item-index) 7 c.loop-item.invariant.1 refl small
          (omega (arith, c.requires.0)),
    )

pub loop-item-preserved : goal.loop-item-preserved
loop-item-preserved c =
    let small : get_or c.args.items.now c.loop-item.item-index 0 < 128 = fit_at c.args.items.now c.loop-item.item-index c.requires.1
    c.loop-item-test.true in
    let e : 7 * (c.loop-item.item-index + 1) ≡ 7 * c.loop-item.item-index + 7 = omega arith in
    (gather_turn _ _ _ _ c.loop-item-test.true refl small c.loop-item.invariant.0, rw e (turn_lt _ 128 _ _ 7 c.loop-item.invariant.1 refl small))
