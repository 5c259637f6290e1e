use Rattle.apdu.proofs.ForwardWriters.{date_asks, time_asks, aircraft_asks, heading_put}
use Rattle.apdu.proofs.heading_writer.put_heading.Goals as goal

pub put_triple-requires : goal.put_triple-requires
put_triple-requires c = date_asks _ _ _ c.requires.0 c.requires.1

pub put_triple-requires-2 : goal.put_triple-requires-2
put_triple-requires-2 c =
    time_asks _ _ _ c.requires.0 c.requires.1 _ _ _ c.put_triple.ensures c.place-p.ensures

pub put_aircraft-requires : goal.put_aircraft-requires
put_aircraft-requires c =
    aircraft_asks _ _ _ c.requires.0 c.requires.1 _ _ _ c.put_triple.ensures c.place-p.ensures
    _ _ _ c.put_triple-2.ensures c.place-q.ensures

pub returns : goal.returns
returns c =
    heading_put _ _ _ c.requires.0 c.requires.1 _ _ _ c.put_triple.ensures c.place-p.ensures
    _ _ _ c.put_triple-2.ensures c.place-q.ensures _ c.put_aircraft.ensures
