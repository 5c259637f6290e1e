use mathlib.Core.Path.{sym, ◌∙◌}
use Rattle.apdu.specs.Sizes.{octet, bit}
use Rattle.apdu.proofs.Answers.{optional_room, string_room}
use Rattle.apdu.proofs.parts.parts_at.Goals as goal

pub part-requires : goal.part-requires
part-requires c = optional_room _ _ _ octet _ _ _ _ (sym c.optional.ensures ∙ c.in_ok-octets.was)

pub part-requires-2 : goal.part-requires-2
part-requires-2 c = optional_room _ _ _ bit _ _ _ _ (sym c.optional-2.ensures ∙ c.in_ok-bits.was)

pub span_to-requires : goal.span_to-requires
span_to-requires c = string_room _ _ bit _ _ _ _ (sym c.string.ensures ∙ c.in_ok-n.was)
