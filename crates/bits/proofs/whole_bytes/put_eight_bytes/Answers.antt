use mathlib.Core.Path.{◌≡◌, refl}
use mathlib.Core.Bool.{true, ◌&&◌}
use Prim.Native.Nat.{◌*◌, ◌^◌}
use native.Mathlib.Omega.{arith}
use lib.Dec.{leb, ltb}
use Rattle.bits.proofs.Inside.{Within, is_within, not_within}
use Rattle.bits.proofs.Putting.{is_put, is_full, in_64}
use Rattle.bits.proofs.whole_bytes.put_eight_bytes.Goals as goal

pub returns-then-eight_within : goal.returns-then-eight_within
returns-then-eight_within c =
    let inside : Within c.args.buf.now c.args.end (8 * c.args.q) 64 = is_within _ _ _ _ _ c.eight_within.ensures c.if-eight_within.true in
    let small : (leb 64 64 && ltb c.args.w (2 ^ 64)) ≡ true = in_64 c.args.w (omega (arith, c.ranges.w)) in
    is_put _ _ _ _ _ _ _ refl small inside c.put_eight.ensures

pub returns : goal.returns
returns c =
    let small : (leb 64 64 && ltb c.args.w (2 ^ 64)) ≡ true = in_64 c.args.w (omega (arith, c.ranges.w)) in
    is_full _ _ _ _ _ _ refl small (not_within _ _ _ _ _ c.eight_within.ensures c.if-eight_within.false)
