use Rattle.layout.proofs.Texts.{taken_done}
use native.Mathlib.Omega.{arith}
use Rattle.layout.proofs.Texts.{taken_start, taken_size, taken_room, taken_turn}
use Rattle.layout.proofs.characters.copy_texts.Goals as goal

pub loop-i-init : goal.loop-i-init
loop-i-init c = taken_start _ _ _ _

pub copy_characters-requires : goal.copy_characters-requires
copy_characters-requires c = (
  c.requires.1 _ c.loop-i-test.true,
  taken_room _ _ _ _ _ _ _ c.loop-i.invariant _
      c.loop-i-test.true c.requires.2,
)

pub overflow_add-t : goal.overflow_add-t
overflow_add-t c =
    omega (
      arith,
      taken_size _ _ _ _ _ _ _ c.loop-i.invariant,
      taken_room _ _ _ _ _ _ _
          c.loop-i.invariant _ c.loop-i-test.true c.requires.2,
    )

pub loop-i-preserved : goal.loop-i-preserved
loop-i-preserved c = taken_turn _ _ _ _ _ _ _ c.loop-i.invariant _ c.copy_characters.ensures

pub shape_of-text : goal.shape_of-text
shape_of-text c = taken_size _ _ _ _ _ _ _ c.loop-i.invariant

pub returns : goal.returns
returns c = taken_done _ _ _ _ _ _ _ c.loop-i.invariant _ c.loop-i.auto.i-end c.loop-i-test.false
