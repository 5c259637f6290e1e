use Rattle.elements.proofs.Joined.{level_said}
use Rattle.elements.proofs.short.short_level.Goals as goal

pub type_number-requires : goal.type_number-requires
type_number-requires c = (c.is_single.ensures c.if-is_single.true).1

pub returns-then-is_single : goal.returns-then-is_single
returns-then-is_single c =
    level_said _ _ _ (c.is_single.ensures c.if-is_single.true) c.level_bits.ensures c.type_number.ensures
