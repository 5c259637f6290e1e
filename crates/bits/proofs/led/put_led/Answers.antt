use Rattle.bits.proofs.Inside.{is_within, not_within}
use Rattle.bits.proofs.Joining.{is_led, led_full, led_lost, led_odd, led_wide}
use Rattle.bits.proofs.led.put_led.Goals as goal
use Rattle.bits.proofs.led.put_led.Goals.{else-n-le-JOINED-via-then-n-le-JOINED+then-holds+then-within+else-has_room, else-n-le-JOINED-via-then-n-le-JOINED+then-holds+else-within, else-n-le-JOINED-via-then-n-le-JOINED+else-holds, else-n-le-JOINED-via-else-n-le-JOINED}

pub returns-then-has_room : goal.returns-then-has_room
returns-then-has_room c =
    is_led _ _ _ _ _ _ _ _ _ _ _ c.if-n-le-JOINED.true c.holds.ensures c.if-holds.true
    (is_within _ _ _ _ _ c.within.ensures c.if-within.true)
    (is_within _ _ _ _ _ c.has_room.ensures c.if-has_room.true) c.put_both.ensures

pub returns : goal.returns
returns c =
    elim c.else-n-le-JOINED.branch [
      | else-n-le-JOINED-via-then-n-le-JOINED+then-holds+then-within+else-has_room w ↦
          led_full _ _ _ _ _ _ _ _ _ _ w.if-n-le-JOINED.true w.holds.ensures w.if-holds.true
          (is_within _ _ _ _ _ w.within.ensures w.if-within.true)
          (not_within _ _ _ _ _ w.has_room.ensures w.if-has_room.false)
      | else-n-le-JOINED-via-then-n-le-JOINED+then-holds+else-within w ↦
          led_lost _ _ _ _ _ _ _ _ _ _ w.if-n-le-JOINED.true w.holds.ensures w.if-holds.true
          (not_within _ _ _ _ _ w.within.ensures w.if-within.false)
      | else-n-le-JOINED-via-then-n-le-JOINED+else-holds w ↦
          led_odd _ _ _ _ _ _ _ _ _ _ w.if-n-le-JOINED.true w.holds.ensures w.if-holds.false
      | else-n-le-JOINED-via-else-n-le-JOINED w ↦ led_wide _ _ _ _ _ _ _ _ _ w.if-n-le-JOINED.false
    ]
