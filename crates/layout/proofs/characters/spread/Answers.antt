use mathlib.Core.Path.{refl}
use Prim.Native.Nat.{◌*◌, ◌-◌}
use lib.ListN.{length-set}
use Rattle.bits.specs.Bits.{bits_n}
use Rattle.layout.proofs.Texts.{characters_start, characters_turn, characters_done, spread_at}
use Rattle.layout.proofs.characters.spread.Goals as goal

pub loop-i-init : goal.loop-i-init
loop-i-init c = (refl, characters_start _ _ _ _ _)

pub loop-i-preserved : goal.loop-i-preserved
loop-i-preserved c = (
  simp length-set c.loop-i.invariant.0,
  characters_turn _ _ _ _ _ _ _ c.loop-i.invariant.1
      c.loop-i-test.true _ (spread_at _ _ _ c.loop-i-test.true),
)

pub shape_of-text : goal.shape_of-text
shape_of-text c = c.loop-i.invariant.0

pub returns : goal.returns
returns c =
    characters_done _ (bits_n (7 * c.args.n) c.args.v) _
    c.args.from 0 c.args.n c.loop-i.i c.loop-i.invariant.1
    c.loop-i-test.false
