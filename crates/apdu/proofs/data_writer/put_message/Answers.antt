use Rattle.apdu.proofs.Writers.{some_room_first}
use Rattle.bits.specs.Bits.{bits_n}
use Rattle.apdu.specs.Sizes.{bit}
use Rattle.apdu.specs.Pdus.{lent, items_in}
use Rattle.apdu.specs.Encoding.{string_bits}
use native.Mathlib.Omega.{arith}
use Rattle.apdu.proofs.Writers.{given_fits_is, none_room, some_room, room_behind, behind, same_bits, message_none, message_some}
use Rattle.apdu.proofs.data_writer.put_message.Goals as goal

pub put_items-requires : goal.put_items-requires
put_items-requires c = (
  c.requires.0,
  omega arith,
  omega arith,
  c.requires.2,
  none_room (lent c.args.msgs.now)
      (string_bits bit (items_in (lent c.args.checks.now) bit c.args.check))
      (bits_n c.args.lead.width c.args.lead.number) c.args.message c.args.at _
      c.in-None.is c.requires.3,
)

pub put_items-p-requires : goal.put_items-p-requires
put_items-p-requires c = (
  c.requires.0,
  omega arith,
  omega arith,
  given_fits_is _ _ _ _ _ c.in-Some.is
      c.requires.1,
  some_room_first (lent c.args.msgs.now)
      (string_bits bit (items_in (lent c.args.checks.now) bit c.args.check))
      (bits_n c.args.lead.width c.args.lead.number) c.args.message c.args.buf.now c.args.at _
      c.in-Some.is c.requires.3,
)

pub put_items-requires-in-Some : goal.put_items-requires-in-Some
put_items-requires-in-Some c = (
  (omega arith, omega arith),
  omega arith,
  omega arith,
  c.requires.2,
  room_behind c.args.buf.now _
      c.args.at _ _ _ (some_room (lent c.args.msgs.now)
      (string_bits bit (items_in (lent c.args.checks.now) bit c.args.check))
      (bits_n c.args.lead.width c.args.lead.number) c.args.message c.args.at _ _
      c.in-Some.is c.requires.3) c.put_items-p.ensures,
)

pub returns-in-None : goal.returns-in-None
returns-in-None c =
    same_bits _ _ _ _ _ _ (message_none (lent c.args.msgs.now)
    (string_bits bit (items_in (lent c.args.checks.now) bit c.args.check))
    (bits_n c.args.lead.width c.args.lead.number) c.args.message c.in-None.is)
    c.put_items.ensures

pub returns-in-Some : goal.returns-in-Some
returns-in-Some c =
    same_bits _ _ _ _ _ _ (message_some (lent c.args.msgs.now)
    (string_bits bit (items_in (lent c.args.checks.now) bit c.args.check))
    (bits_n c.args.lead.width c.args.lead.number) c.args.message _ c.in-Some.is) (behind
    c.args.buf.now _ _ c.args.at _ _ _ _ c.put_items-p.ensures
    c.put_items-in-Some.ensures)
