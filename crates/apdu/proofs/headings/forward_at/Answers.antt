use mathlib.Core.Path.{sym, ◌∙◌}
use Rattle.apdu.specs.Sizes.{bit}
use Rattle.apdu.proofs.Answers.{string_room}
use Rattle.apdu.proofs.headings.forward_at.Goals as goal

pub span_to-requires : goal.span_to-requires
span_to-requires c = string_room _ _ bit _ _ _ _ (sym c.string.ensures ∙ c.in_ok-n.was)
