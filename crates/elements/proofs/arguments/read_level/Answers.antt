use native.Mathlib.Omega.{arith}
use Rattle.elements.proofs.OneRead.{amount_small, single_is}
use Rattle.elements.proofs.arguments.read_level.Goals as goal

pub overflow_cast-result-2 : goal.overflow_cast-result-2
overflow_cast-result-2 c =
    omega (
      arith,
      amount_small _ _ _ _ _ _ _ _ _ _ _ c.read_bits.ensures c.in-Some.is
          (omega (arith, c.if-unit-gt-LAST_UNIT.false)) c.lowest.ensures c.highest.ensures
          c.whole.ensures c.in-Ok.is,
    )

pub returns : goal.returns
returns c =
    single_is _ _ _ _ _ _ _ _ _ _ _ c.read_bits.ensures c.in-Some.is
    (omega (arith, c.if-unit-gt-LAST_UNIT.false)) c.lowest.ensures c.highest.ensures
    c.whole.ensures c.in-Ok.is
