use mathlib.Core.Path.{sym, ◌∙◌}
use Rattle.elements.proofs.Measured.{digits_most}
use Rattle.elements.proofs.Joined.{code_said}
use borrow.Author.Rules.{rules}
use Rattle.elements.proofs.short.short_code.Goals as goal

pub returns-then-all_most : goal.returns-then-all_most
returns-then-all_most c =
    code_said _ (search rules) (sym (digits_most _) ∙ sym c.all_most.ensures ∙ c.if-all_most.true)
