use Rattle.std.proofs.Common.{rules}
use mathlib.Core.Path.{refl, sym, ◌∙◌}
use Rattle.apdu.proofs.Writers.{may_write, turned_away, written_out, data_pads, data_room, as_answer}
use Rattle.apdu.proofs.data_writer.write_data.Goals as goal

pub returns-in_err-writable : goal.returns-in_err-writable
returns-in_err-writable c = turned_away _ _ _ c.writable.ensures _ _ _ _ c.in_err-writable.was (search rules) (λ f. sym c.data_fits.ensures ∙ f)

pub put_content-n-requires : goal.put_content-n-requires
put_content-n-requires c =
    let ok = may_write _ _ _ c.writable.ensures _ _ c.data_fits.ensures c.in_ok-writable.was in
    (c.requires, ok.right, data_room _ _ _ _ _ _ c.requires.0 ok.right _ ok.room)

pub returns : goal.returns
returns c =
    let ok = may_write _ _ _ c.writable.ensures _ _ c.data_fits.ensures c.in_ok-writable.was in
    written_out _ _ _ _ _ _ _ _ _ _ ok.room (data_pads _ _ _ _ _ _ c.requires.0 ok.right) refl ok.right
    (as_answer _ _ _ _ (data_room _ _ _ _ _ _ c.requires.0 ok.right _ ok.room) c.put_content-n.ensures) refl refl c.pad.ensures
