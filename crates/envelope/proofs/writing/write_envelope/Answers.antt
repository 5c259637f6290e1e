use native.Mathlib.Omega.{arith}
use Rattle.envelope.specs.Envelopes.{most_bits, least_room}
use Rattle.envelope.proofs.Sizes.{Roomy, is_roomy, largest_fits, no_room, no_shape, is_written, puts_are}
use borrow.Author.Rules.{rules}
use Rattle.envelope.proofs.writing.write_envelope.Goals as goal

pub returns-then-out-lt-ROOM : goal.returns-then-out-lt-ROOM
returns-then-out-lt-ROOM c = no_room _ _ _ _ _ _ _ c.if-out-lt-ROOM.true

pub returns-then-not-may_write : goal.returns-then-not-may_write
returns-then-not-may_write c =
    no_shape _ _ _ _ _ _ _ _ c.if-out-lt-ROOM.false c.may_write.ensures c.if-not-may_write.true

pub put_number-p-requires : goal.put_number-p-requires
put_number-p-requires c =
    let roomy : Roomy c.args.out.now c.args.kind c.args.job c.args.bits c.args.body.now = is_roomy least_room most_bits _ _ _ _ _ _ largest_fits c.if-out-lt-ROOM.false (search rules)
    c.may_write.ensures c.if-not-may_write.false in
    omega (arith, roomy)

pub put_number-q-requires : goal.put_number-q-requires
put_number-q-requires c =
    let roomy : Roomy c.args.out.now c.args.kind c.args.job c.args.bits c.args.body.now = is_roomy least_room most_bits _ _ _ _ _ _ largest_fits c.if-out-lt-ROOM.false (search rules)
    c.may_write.ensures c.if-not-may_write.false in
    omega (arith, roomy, c.put_number-p.ensures.place, c.put_number-p.auto.out)

pub put_number-t-requires : goal.put_number-t-requires
put_number-t-requires c =
    let roomy : Roomy c.args.out.now c.args.kind c.args.job c.args.bits c.args.body.now = is_roomy least_room most_bits _ _ _ _ _ _ largest_fits c.if-out-lt-ROOM.false (search rules)
    c.may_write.ensures c.if-not-may_write.false in
    omega (
      arith,
      roomy,
      c.put_number-p.ensures.place,
      c.put_number-p.auto.out,
      c.put_number-q.ensures.place,
      c.put_number-q.auto.out,
    )

pub put_bytes-end-requires : goal.put_bytes-end-requires
put_bytes-end-requires c =
    let roomy : Roomy c.args.out.now c.args.kind c.args.job c.args.bits c.args.body.now = is_roomy least_room most_bits _ _ _ _ _ _ largest_fits c.if-out-lt-ROOM.false (search rules)
    c.may_write.ensures c.if-not-may_write.false in (
      omega (
        arith,
        roomy,
        c.put_number-p.ensures.place,
        c.put_number-p.auto.out,
        c.put_number-q.ensures.place,
        c.put_number-q.auto.out,
        c.put_number-t.ensures.place,
        c.put_number-t.auto.out,
        c.bytes_for-n.ensures,
      ),
      omega
          (arith, roomy, c.bytes_for-n.ensures),
    )

pub returns : goal.returns
returns c =
    let roomy : Roomy c.args.out.now c.args.kind c.args.job c.args.bits c.args.body.now = is_roomy least_room most_bits _ _ _ _ _ _ largest_fits c.if-out-lt-ROOM.false (search rules)
    c.may_write.ensures c.if-not-may_write.false in
    is_written _ _ _ _ _ _ _ _ _ _ c.if-out-lt-ROOM.false c.may_write.ensures c.if-not-may_write.false
    roomy.whole (puts_are _ _ _ _ _ _ _ _ _ _ _ _ _ _ c.bytes_for-n.ensures
    c.put_number-p.ensures c.put_number-q.ensures c.put_number-t.ensures
    c.put_bytes-end.ensures)
