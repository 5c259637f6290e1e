use mathlib.Core.Path.{refl}
use native.Mathlib.Omega.{arith}
use Rattle.recordings.proofs.Places.{one_place, no_place, is_one}
use Rattle.recordings.proofs.shown.put_if.Goals as goal

pub put_place-requires : goal.put_place-requires
put_place-requires c = omega (arith, c.requires, is_one _ c.if-shown.true)

pub returns-then-shown : goal.returns-then-shown
returns-then-shown c = rw c.if-shown.true (refl, one_place _ _ _ _ c.put_place.ensures)

pub returns : goal.returns
returns c = rw c.if-shown.false (omega arith, no_place _ _)
