use Rattle.std.proofs.Common.{rules}
use mathlib.Core.Path.{refl, sym, ◌∙◌}
use Rattle.apdu.proofs.Bounds.{data_fits_is}
use Rattle.apdu.proofs.Writers.{may_write, turned_away, written_out, as_answer}
use Rattle.apdu.proofs.InPlaceWriters.{message_pads, message_room}
use Rattle.apdu.proofs.in_place.write_in_place.Goals as goal

pub returns-in_err-writable : goal.returns-in_err-writable
returns-in_err-writable c = turned_away _ _ _ c.writable.ensures _ _ _ _ c.in_err-writable.was (search rules) (λ f. sym c.data_fits.ensures ∙ f)

pub put_message_in_place-n-requires : goal.put_message_in_place-n-requires
put_message_in_place-n-requires c =
    let ok = may_write _ _ _ c.writable.ensures _ _ c.data_fits.ensures c.in_ok-writable.was in
    (c.requires, (data_fits_is _ _ _ _ ok.right).message, message_room _ _ _ _ _ _ c.requires.0 ok.right _ ok.room)

pub returns : goal.returns
returns c =
    let ok = may_write _ _ _ c.writable.ensures _ _ c.data_fits.ensures c.in_ok-writable.was in
    written_out _ _ _ _ _ _ _ _ _ _ ok.room (message_pads _ _ _ _ _ _ c.requires.0 ok.right) refl ok.right
    (as_answer _ _ _ _ (message_room _ _ _ _ _ _ c.requires.0 ok.right _ ok.room) c.put_message_in_place-n.ensures) refl refl
    c.pad.ensures
