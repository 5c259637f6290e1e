use Rattle.std.proofs.Common.{rules}
use mathlib.Core.Path.{refl, sym, ◌∙◌}
use Rattle.apdu.proofs.Writers.{may_write, turned_away, written_out, run_pads, run_copied}
use Rattle.apdu.proofs.data_writer.copy_out.Goals as goal

pub returns-in_err-writable : goal.returns-in_err-writable
returns-in_err-writable c = turned_away _ _ _ c.writable.ensures _ _ _ _ c.in_err-writable.was (search rules) (λ f. sym c.run_within.ensures ∙ f)

pub returns : goal.returns
returns c =
    let ok = may_write _ _ _ c.writable.ensures _ _ c.run_within.ensures c.in_ok-writable.was in
    written_out _ _ _ _ _ _ _ _ _ _ ok.room (run_pads _ _ _ _ c.requires ok.right) refl ok.right
    (run_copied _ _ _ _ _ _ _ ok.right c.copy_bits.ensures) c.place-p.ensures refl c.pad.ensures
