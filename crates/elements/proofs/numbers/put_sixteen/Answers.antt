use Prim.Native.Nat.{ℕ, ◌-◌}
use native.Mathlib.Omega.{arith}
use lib.ListN.{length, drop, length-take, length-drop}
use Rattle.elements.proofs.Gathered.{fit_part}
use Rattle.elements.proofs.Sixteens.{sixteen_put}
use Rattle.elements.proofs.numbers.put_sixteen.Goals as goal

pub gathered-first-requires : goal.gathered-first-requires
gathered-first-requires c = (omega (arith, length-take 8 c.args.items.now), fit_part 0 8 _ c.requires.1)

pub gathered-second-requires : goal.gathered-second-requires
gathered-second-requires c = (
  omega (
    arith,
    c.requires.0,
    length-take (length c.args.items.now - 8) (drop 8 c.args.items.now),
    length-drop 8 c.args.items.now,
  ),
  fit_part 8 (length c.args.items.now - 8) _ c.requires.1,
)

pub returns : goal.returns
returns c =
    sixteen_put _ _ _ _ _ _ _ _ _ _ _ (λ (k : ℕ). omega (arith, c.slice_known-1.given k)) c.requires.0 c.requires.2 c.gathered-first.ensures c.gathered-second.ensures (omega arith) c.put_bits.ensures c.put_bits-2.ensures
