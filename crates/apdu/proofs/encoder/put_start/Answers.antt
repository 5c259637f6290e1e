use Rattle.std.proofs.Common.{rules}
use mathlib.Core.Path.{sym, ◌∙◌}
use mathlib.Core.List.{append_assoc}
use Rattle.apdu.specs.Encoding.{pdu_bits}
use Rattle.apdu.proofs.Writers.{may_write, turned_away}
use Rattle.apdu.proofs.encoder.put_start.Goals as goal

pub returns-in_err-writable : goal.returns-in_err-writable
returns-in_err-writable c = turned_away _ _ _ c.writable.ensures _ _ _ _ c.in_err-writable.was (search rules) (λ f. rw (sym c.mode_fits.ensures ∙ f))

pub start_front-requires : goal.start_front-requires
start_front-requires c = (may_write _ _ _ c.writable.ensures _ _ c.mode_fits.ensures c.in_ok-writable.was).right

pub returns : goal.returns
unfolding pdu_bits
returns c =
    let ok = may_write _ _ _ c.writable.ensures _ _ c.mode_fits.ensures c.in_ok-writable.was in
    rw ok.right (rw (c.start_front.ensures.1, append_assoc) at c.write_data.ensures)
