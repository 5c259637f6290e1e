use mathlib.Core.Path.{◌≡◌, refl, ap, ◌∙◌}
use Prim.Native.Nat.{ℕ, ◌+◌, ◌*◌, ◌-◌, ◌/◌, ◌%◌}
use mathlib.Core.List.{List}
use native.Mathlib.Omega.{arith}
use lib.ListN.{length}
use lib.Seq.{length-sets, sets}
use Rattle.bits.specs.Bits.{bits_to}
use Rattle.bits.proofs.Bytes.{length_to}
use Rattle.elements.specs.Arguments.{characters_in}
use Rattle.layout.proofs.Texts.{characters_start, eights_turn, eights_done}
use Rattle.layout.proofs.characters.copy_characters.Goals as goal

pub loop-k-init : goal.loop-k-init
loop-k-init c = (refl, characters_start _ _ _ _ _)

pub overflow_mul-k : goal.overflow_mul-k
overflow_mul-k c = omega (arith, length_to c.args.s.now c.args.end, c.loop-k-test.true)

pub overflow_add-at : goal.overflow_add-at
overflow_add-at c = omega (arith, length_to c.args.s.now c.args.end, c.loop-k-test.true)

pub loop-k-preserved : goal.loop-k-preserved
loop-k-preserved c = (
  ap length c.copy_few.ensures ∙ length-sets c.loop-k.text (c.args.from + 8 * c.loop-k.k)
      (characters_in (bits_to c.args.s.now c.args.end) (c.args.at + 56 * c.loop-k.k) 8) ∙ c.loop-k.invariant.0,
  eights_turn _ _ _ _ _ _ _ c.loop-k.k c.loop-k-test.true c.loop-k.invariant.1 c.copy_few.ensures,
)

pub overflow_mul-n : goal.overflow_mul-n
overflow_mul-n c = omega (arith, length_to c.args.s.now c.args.end)

pub overflow_add-at-2 : goal.overflow_add-at-2
overflow_add-at-2 c = omega (arith, length_to c.args.s.now c.args.end)

pub returns : goal.returns
returns c = eights_done _ _ _ _ _ _ _ c.loop-k.k c.loop-k-test.false c.loop-k.auto.k-end c.loop-k.invariant.1 c.copy_few-2.ensures
