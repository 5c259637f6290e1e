use Prim.Native.Nat.{◌-◌}
use native.Mathlib.Omega.{arith}
use Rattle.bits.proofs.Inside.{is_within}
use Rattle.elements.proofs.Joined.{element_fits_one, element_put}
use Rattle.elements.proofs.Measured.{width_small}
use Rattle.elements.proofs.writing.put_element.Goals as goal

pub overflow_add-n : goal.overflow_add-n
overflow_add-n c = omega (arith, c.whole_bits.ensures, width_small (c.last_of-last.result - 0))

pub overflow_add-n-in-Some : goal.overflow_add-n-in-Some
overflow_add-n-in-Some c =
    omega (
      arith,
      c.whole_bits.ensures,
      width_small (c.last_of-last.result - 0),
      (c.in-Some.ensures c.args.text.now).few,
    )

pub overflow_shl-number : goal.overflow_shl-number
overflow_shl-number c = omega (arith, (c.in-Some.ensures c.args.text.now).few)

pub overflow_add-number : goal.overflow_add-number
overflow_add-number c =
    omega (
      arith,
      element_fits_one c.args.direction c.args.kind c.args.e c.args.text.now _ _ _
          _ c.last_of-last.ensures c.whole_bits.ensures
          (c.in-Some.ensures c.args.text.now) c.if-number-last.true,
    )

pub returns-then-within : goal.returns-then-within
returns-then-within c =
    element_put c.args.direction c.args.kind c.args.e c.args.text.now _ _ _ _
    c.last_of-last.ensures c.whole_bits.ensures
    (c.in-Some.ensures c.args.text.now)
    c.if-number-last.true _ _ _ _ _ (is_within c.args.buf.now c.args.end c.args.at _ _
    c.within.ensures c.if-within.true) c.put_bits.ensures
