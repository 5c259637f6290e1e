use native.Mathlib.Omega.{arith}
use Rattle.bits.proofs.Inside.{is_within}
use Rattle.elements.proofs.Joined.{one_put}
use Rattle.elements.proofs.writing.put_level.Goals as goal

pub returns-in-Some : goal.returns-in-Some
returns-in-Some c =
    let o = c.in-Some.ensures in
    one_put _ _ _ _ _ _ _ _ o.all_fit o.said o.small (omega (arith, o.few)) (is_within c.args.buf.now
    c.args.end c.args.at c.in-Some.short.bits _ c.within.ensures
    c.if-within.true) c.put_bits.ensures
