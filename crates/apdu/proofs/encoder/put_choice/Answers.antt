use Rattle.std.proofs.Common.{rules}
use mathlib.Core.Path.{refl, sym, ◌∙◌}
use borrow.Author.Tests.{leb-true}
use Rattle.apdu.proofs.Writers.{from_zero, may_write, turned_away, written_out, choice_pads, choice_put}
use Rattle.apdu.proofs.encoder.put_choice.Goals as goal

pub returns-in_err-writable : goal.returns-in_err-writable
returns-in_err-writable c = turned_away _ _ _ c.writable.ensures _ _ _ _ c.in_err-writable.was (search rules) (λ f. sym (from_zero _ _) ∙ f)

pub returns : goal.returns
returns c =
    let ok = may_write _ _ _ c.writable.ensures _ _ (from_zero c.args.last c.args.v) c.in_ok-writable.was in
    written_out _ _ _ _ _ _ _ _ _ _ ok.room (choice_pads _ _ _ _) refl ok.right
    (choice_put _ _ _ _ _ _ _ _ _ ok.room c.requires (leb-true _ _ (from_zero _ _ ∙ ok.right))
    c.put_alternative.ensures c.place-p.ensures c.put_extensible_index.ensures) c.place-n.ensures refl c.pad.ensures
