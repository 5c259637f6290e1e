use Rattle.bits.proofs.Bytes.{bits_to_is}
use Rattle.apdu.proofs.Answers.{digits_room}
use Rattle.apdu.proofs.decoder.tail.Goals as goal

pub overflow_sub-next : goal.overflow_sub-next
overflow_sub-next c =
    rw c.width.ensures
    (digits_room _ _ _ _ _ _ (bits_to_is _ _) c.bit_field.ensures c.in_ok-v.was)
