use Prim.Native.Nat.{◌*◌}
use native.Mathlib.Omega.{arith}
use Rattle.bits.proofs.Inside.{Within, is_within, not_within}
use Rattle.bits.proofs.Reading.{is_short, is_number}
use Rattle.bits.proofs.whole_bytes.read_eight_bytes.Goals as goal

pub returns-then-eight_within : goal.returns-then-eight_within
returns-then-eight_within c =
    let inside : Within c.args.s.now c.args.end (8 * c.args.q) 64 = is_within _ _ _ _ _ c.eight_within.ensures c.if-eight_within.true in
    is_number _ _ _ _ _ (omega arith) inside c.eight_at.ensures

pub returns : goal.returns
returns c = is_short _ _ _ (omega arith) (not_within _ _ _ _ _ c.eight_within.ensures c.if-eight_within.false)
