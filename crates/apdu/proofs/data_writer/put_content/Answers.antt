use Rattle.apdu.proofs.Writers.{identifier_room}
use Rattle.apdu.specs.Pdus.{lent}
use native.Mathlib.Omega.{arith}
use Prim.Native.Nat.{◌+◌, ◌*◌, ◌<◌, ◌≤◌, ◌^◌}
use lib.Pow.{pow_mono}
use Rattle.apdu.specs.Sizes.{identifier_least, identifier_most, message_most, check_most, octet, bit}
use Rattle.apdu.proofs.Bounds.{data_fits_is}
use Rattle.apdu.proofs.Writers.{wider, part_wider, identifier_fits, there_lt, front_lt, no_identifier, an_identifier, no_identifier_room, an_identifier_room, room_behind, behind, same_bits}
use Rattle.apdu.proofs.data_writer.put_content.Goals as goal

pub overflow_mul-v : goal.overflow_mul-v
overflow_mul-v c =
    let few : 2 ^ c.args.lead.width ≤ 2 ^ 5 = pow_mono {i = c.args.lead.width} {j = 5} c.requires.0.0 in
    omega (arith, few, c.requires.0.1)

pub overflow_mul-v-2 : goal.overflow_mul-v-2
overflow_mul-v-2 c = omega (arith, c.presence.ensures, there_lt c.args.d.identifier)

pub overflow_add-v : goal.overflow_add-v
overflow_add-v c =
    let small : 2 * c.presence.result + c.presence-2.result < 4 = omega (
      arith,
      c.presence.ensures,
      c.presence-2.ensures,
      there_lt c.args.d.identifier,
      there_lt
          c.args.d.message,
    ) in
    omega (arith, small)

pub overflow_add-v-2 : goal.overflow_add-v-2
overflow_add-v-2 c =
    let few : 2 ^ c.args.lead.width ≤ 2 ^ 5 = pow_mono {i = c.args.lead.width} {j = 5} c.requires.0.0 in
    let small : 2 * c.presence.result + c.presence-2.result < 4 = omega (
      arith,
      c.presence.ensures,
      c.presence-2.ensures,
      there_lt c.args.d.identifier,
      there_lt
          c.args.d.message,
    ) in
    omega (arith, small, few, c.requires.0.1)

pub put_message-requires : goal.put_message-requires
put_message-requires c =
    let small : 2 * c.presence.result + c.presence-2.result < 4 = omega (
      arith,
      c.presence.ensures,
      c.presence-2.ensures,
      there_lt c.args.d.identifier,
      there_lt
          c.args.d.message,
    ) in (
      (omega (arith, c.requires.0.0), front_lt c.args.lead.width c.args.lead.number _ c.requires.0.1 small),
      part_wider
          (lent c.args.msgs.now) bit 0 message_most _ (data_fits_is _ _ _ _ c.requires.1).message,
      wider
          (lent c.args.checks.now) bit 0 check_most _ (data_fits_is _ _ _ _ c.requires.1).check,
      no_identifier_room (lent c.args.ids.now) (lent c.args.msgs.now)
          (lent c.args.checks.now) c.args.d c.args.lead.width c.args.lead.number
          c.presence.result c.presence-2.result c.presence.ensures
          c.presence-2.ensures _ c.in-None.is c.requires.2,
    )

pub put_items-p-requires : goal.put_items-p-requires
put_items-p-requires c =
    let small : 2 * c.presence.result + c.presence-2.result < 4 = omega (
      arith,
      c.presence.ensures,
      c.presence-2.ensures,
      there_lt c.args.d.identifier,
      there_lt
          c.args.d.message,
    ) in (
      (omega (arith, c.requires.0.0), front_lt c.args.lead.width c.args.lead.number _ c.requires.0.1 small),
      omega arith,
      omega arith,
      identifier_fits (lent c.args.ids.now) octet identifier_least identifier_most _ _
          c.in-Some.is (data_fits_is _ _ _ _ c.requires.1).identifier,
      identifier_room
          (lent c.args.ids.now) (lent c.args.msgs.now) (lent c.args.checks.now) c.args.d
          c.args.lead.width c.args.lead.number c.presence.result c.presence-2.result
          c.presence.ensures c.presence-2.ensures c.args.buf.now _
          c.in-Some.is c.requires.2,
    )

pub put_message-requires-in-Some : goal.put_message-requires-in-Some
put_message-requires-in-Some c = (
  (omega arith, omega arith),
  part_wider (lent c.args.msgs.now) bit 0 message_most _
      (data_fits_is _ _ _ _ c.requires.1).message,
  wider (lent c.args.checks.now) bit 0 check_most _
      (data_fits_is _ _ _ _ c.requires.1).check,
  room_behind c.args.buf.now _ 0 _ _ _ (an_identifier_room
      (lent c.args.ids.now) (lent c.args.msgs.now) (lent c.args.checks.now)
      c.args.d c.args.lead.width c.args.lead.number c.presence.result
      c.presence-2.result c.presence.ensures c.presence-2.ensures
      _ _ c.in-Some.is c.requires.2) c.put_items-p.ensures,
)

pub returns-in-None : goal.returns-in-None
returns-in-None c =
    same_bits _ _ 0 _ _ _ (no_identifier (lent c.args.ids.now) (lent c.args.msgs.now)
    (lent c.args.checks.now) c.args.d c.args.lead.width c.args.lead.number c.presence.result
    c.presence-2.result c.presence.ensures c.presence-2.ensures
    c.in-None.is) c.put_message.ensures

pub returns-in-Some : goal.returns-in-Some
returns-in-Some c =
    same_bits _ _ 0 _ _ _ (an_identifier (lent c.args.ids.now) (lent c.args.msgs.now)
    (lent c.args.checks.now) c.args.d c.args.lead.width c.args.lead.number
    c.presence.result c.presence-2.result c.presence.ensures
    c.presence-2.ensures _ c.in-Some.is) (behind c.args.buf.now _ _
    0 _ _ _ _ c.put_items-p.ensures c.put_message-in-Some.ensures)
