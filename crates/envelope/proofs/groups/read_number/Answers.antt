use native.Mathlib.Omega.{arith}
use Rattle.envelope.proofs.Numbers.{gathers_none, cut_here, two_bytes}
use Rattle.envelope.proofs.groups.read_number.Goals as goal

pub returns-then-s-at : goal.returns-then-s-at
returns-then-s-at c = cut_here _ _ _ _ _ _ 0 (gathers_none _ _) c.if-s-at.true

pub returns-then-c-lt128 : goal.returns-then-c-lt128
returns-then-c-lt128 c =
    two_bytes _ _ _ c.if-s-at.false c.wide-b.ensures c.if-b-lt128.false (omega (
      arith,
      c.shared_slice_known-2-1.given c.args.at,
      c.wide-b.ensures,
    ))
    _ (omega arith) c.wide-c.ensures (omega arith) c.if-c-lt128.true
