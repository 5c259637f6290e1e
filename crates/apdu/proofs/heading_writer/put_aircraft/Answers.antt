use native.Mathlib.Omega.{arith}
use Rattle.apdu.proofs.ForwardWriters.{aircraft_put, characters_most_is}
use Rattle.apdu.proofs.heading_writer.put_aircraft.Goals as goal

pub overflow_mul-n : goal.overflow_mul-n
overflow_mul-n c = omega (arith, characters_most_is c.args.h c.requires.0)

pub returns : goal.returns
returns c =
    aircraft_put _ _ _ _ _ _ _ _ _ _ _ _ _ c.requires.0 c.requires.1 c.put_whole.ensures
    c.place-p.ensures c.put_bits.ensures c.place-q.ensures
    c.put_bits-2.ensures c.place-t.ensures c.put_whole-2.ensures
