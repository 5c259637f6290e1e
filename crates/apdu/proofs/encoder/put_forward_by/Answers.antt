use Rattle.std.proofs.Common.{rules}
use mathlib.Core.Path.{sym, ◌∙◌}
use Rattle.apdu.proofs.Writers.{ground_four, may_write, turned_away}
use Rattle.apdu.proofs.encoder.put_forward_by.Goals as goal

pub returns-in_err-writable : goal.returns-in_err-writable
returns-in_err-writable c = turned_away _ _ _ c.writable.ensures _ _ _ _ c.in_err-writable.was (search rules) (λ f. rw (sym c.has_forwards.ensures ∙ f))

pub returns : goal.returns
returns c =
    let ok = may_write _ _ _ c.writable.ensures _ _ c.has_forwards.ensures c.in_ok-writable.was in
    rw ok.right (rw (ground_four c.args.pdus ok.right) at c.write_forward.ensures)
