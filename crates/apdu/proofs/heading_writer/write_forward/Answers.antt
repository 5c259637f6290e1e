use Rattle.std.proofs.Common.{rules}
use mathlib.Core.Path.{refl, sym, ◌∙◌}
use Rattle.apdu.proofs.Writers.{may_write, turned_away, written_out, as_answer, led_room, led_behind}
use Rattle.apdu.proofs.InPlaceWriters.{forward_pads, forward_room}
use Rattle.apdu.proofs.heading_writer.write_forward.Goals as goal

pub returns-in_err-writable : goal.returns-in_err-writable
returns-in_err-writable c = turned_away _ _ _ c.writable.ensures _ _ _ _ c.in_err-writable.was (search rules) (λ f. sym c.forward_fits.ensures ∙ f)

pub put_forward_at-n-requires : goal.put_forward_at-n-requires
put_forward_at-n-requires c =
    let ok = may_write _ _ _ c.writable.ensures _ _ c.forward_fits.ensures c.in_ok-writable.was in (
      ok.right,
      led_room _ _ _ _ _ _ _ c.requires.0 c.requires.1 (forward_room _ _ _ _ c.args.counted c.requires.0 ok.right _ ok.room)
          c.put_bits.ensures c.place-p.ensures,
    )

pub returns : goal.returns
returns c =
    let ok = may_write _ _ _ c.writable.ensures _ _ c.forward_fits.ensures c.in_ok-writable.was in
    written_out _ _ _ _ _ _ _ _ _ _ ok.room (forward_pads _ _ _ _ c.args.counted c.requires.0 ok.right) refl ok.right
    (as_answer _ _ _ _ (forward_room _ _ _ _ c.args.counted c.requires.0 ok.right _ ok.room)
    (led_behind _ _ _ _ _ _ _ c.requires.0 c.requires.1
    (forward_room _ _ _ _ c.args.counted c.requires.0 ok.right _ ok.room) c.put_bits.ensures c.place-p.ensures _ _
    c.put_forward_at-n.ensures)) refl refl c.pad.ensures
