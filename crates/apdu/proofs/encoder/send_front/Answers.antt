use native.Mathlib.Omega.{arith}
use Rattle.apdu.proofs.Writers.{send_air, send_ground}
use Rattle.apdu.proofs.encoder.send_front.Goals as goal

pub returns-in-AircraftPdus : goal.returns-in-AircraftPdus
returns-in-AircraftPdus c = ((omega arith, omega arith), rw c.in-AircraftPdus.is send_air)

pub returns-in-GroundPdus : goal.returns-in-GroundPdus
returns-in-GroundPdus c = ((omega arith, omega arith), rw c.in-GroundPdus.is send_ground)
