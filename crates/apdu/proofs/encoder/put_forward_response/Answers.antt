use Rattle.std.proofs.Common.{rules}
use mathlib.Core.Path.{sym, ◌∙◌}
use native.Mathlib.Omega.{arith}
use Rattle.apdu.specs.Encoding.{pdu_bits}
use Rattle.apdu.proofs.Writers.{ground_has, may_write, turned_away}
use Rattle.apdu.proofs.encoder.put_forward_response.Goals as goal

pub returns-in_err-writable : goal.returns-in_err-writable
returns-in_err-writable c = turned_away _ _ _ c.writable.ensures _ _ _ _ c.in_err-writable.was (search rules) (λ f. rw (sym c.has_forwards.ensures ∙ f))

pub put_choice-requires : goal.put_choice-requires
put_choice-requires c =
    let ok = may_write _ _ _ c.writable.ensures _ _ c.has_forwards.ensures c.in_ok-writable.was in
    ground_has c.args.pdus 5 ok.right (omega arith)

pub returns : goal.returns
unfolding pdu_bits
returns c =
    let ok = may_write _ _ _ c.writable.ensures _ _ c.has_forwards.ensures c.in_ok-writable.was in
    rw ok.right c.put_choice.ensures
