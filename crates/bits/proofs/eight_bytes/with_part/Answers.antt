use borrow.Author.Rules.{rules}
use Prim.Native.Nat.{◌+◌, ◌*◌, ◌-◌, ◌^◌, ◌<◌}
use mathlib.Core.Path.{◌≡◌}
use native.Mathlib.Omega.{arith}
use lib.Seq.{sets}
use Rattle.bits.specs.Bits.{bits_n, num_of}
use Rattle.bits.proofs.Parts.{part_put, put_lt}
use Rattle.bits.proofs.eight_bytes.with_part.Goals as goal

pub overflow_mul-result-2 : goal.overflow_mul-result-2
overflow_mul-result-2 c =
    let sum : c.args.w - c.part_of-old.result * c.pow2-low.result + c.args.v * c.pow2-low.result ≡ num_of (sets (bits_n 64 c.args.w) c.args.r (bits_n c.args.n c.args.v)) = rw c.pow2-low.ensures
    (part_put _ _ _ _ _ (search rules) (search rules) (search rules) c.part_of-old.ensures) in
    let lt : c.args.w - c.part_of-old.result * c.pow2-low.result + c.args.v * c.pow2-low.result < 2 ^ 64 = rw sum (put_lt _ _ _ _) in
    omega (arith, lt)

pub overflow_add-result : goal.overflow_add-result
overflow_add-result c =
    let sum : c.args.w - c.part_of-old.result * c.pow2-low.result + c.args.v * c.pow2-low.result ≡ num_of (sets (bits_n 64 c.args.w) c.args.r (bits_n c.args.n c.args.v)) = rw c.pow2-low.ensures
    (part_put _ _ _ _ _ (search rules) (search rules) (search rules) c.part_of-old.ensures) in
    let lt : c.args.w - c.part_of-old.result * c.pow2-low.result + c.args.v * c.pow2-low.result < 2 ^ 64 = rw sum (put_lt _ _ _ _) in
    omega (arith, lt)

pub returns : goal.returns
returns c =
    let sum : c.args.w - c.part_of-old.result * c.pow2-low.result + c.args.v * c.pow2-low.result ≡ num_of (sets (bits_n 64 c.args.w) c.args.r (bits_n c.args.n c.args.v)) = rw c.pow2-low.ensures
    (part_put _ _ _ _ _ (search rules) (search rules) (search rules) c.part_of-old.ensures) in
    sum
