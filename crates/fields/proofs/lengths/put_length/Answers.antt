use native.Mathlib.Omega.{arith}
use borrow.Author.Tests.{le-ltb}
use Rattle.fields.proofs.Writers.{refused, short_put, long_put}
use Rattle.fields.proofs.lengths.put_length.Goals as goal

pub returns-then-n-lt128 : goal.returns-then-n-lt128
returns-then-n-lt128 c = short_put _ _ _ _ _ (omega arith) c.put_bits.ensures

pub returns-then-n-lt16384 : goal.returns-then-n-lt16384
returns-then-n-lt16384 c = long_put _ _ _ _ _ (omega arith) (omega arith) c.put_bits-then-n-lt16384.ensures

pub returns : goal.returns
returns c = refused _ _ _ _ _ (le-ltb _ 16384 c.if-n-lt16384.false)
