use native.Mathlib.Omega.{arith}
use Rattle.apdu.proofs.Writers.{start_ground, start_default, start_dsc}
use Rattle.apdu.proofs.encoder.start_front.Goals as goal

pub returns-then-m-eq0 : goal.returns-then-m-eq0
returns-then-m-eq0 c = ((omega arith, omega arith), rw c.in-AircraftPdus.is (start_default _ c.if-m-eq0.true))

pub returns-in-GroundPdus : goal.returns-in-GroundPdus
returns-in-GroundPdus c = ((omega arith, omega arith), rw c.in-GroundPdus.is (start_ground c.args.m))

pub returns-else-m-eq0 : goal.returns-else-m-eq0
returns-else-m-eq0 c = (
  (omega arith, omega arith),
  rw c.in-AircraftPdus.is
      (start_dsc _ (rw c.in-AircraftPdus.is at c.requires) c.if-m-eq0.false),
)
