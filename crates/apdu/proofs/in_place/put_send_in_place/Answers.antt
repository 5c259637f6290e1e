use Rattle.apdu.proofs.in_place.put_send_in_place.Goals as goal

pub returns : goal.returns
returns c = rw c.send_front.ensures.1 at c.write_in_place.ensures
