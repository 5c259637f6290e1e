-- What the promise needs of a machine beside what crate pair asks of a centre: an answer says success exactly where its user was told of the forward, and the centre that forwards is told
-- what the answer says.
-- Assumes nothing.
use mathlib.Core.Path.{◌≡◌}
use mathlib.Core.Bool.{Bool, true, false}
use mathlib.Core.List.{List}
use Prim.Native.Nat.{◌<◌}
use Rattle.pair.specs.Names.{Ground}
use Rattle.pair.specs.Carrier.{Body, puts, acts, is_start}
use Rattle.pair.specs.Numbered.{NMachine}
use Rattle.pair.proofs.TwoCentres.{Centre}
use Rattle.forward_duties.specs.Desks.{Result, success, another, Words}

abbrev pub result_of : Bool → Result
result_of true = success
result_of false = another

-- says: the answer is success
pub record Truth (m : NMachine) (c : Centre m) (w : Words m) : Type 0 where
  pub says : m.at.E → Bool
  pub answer_says : (r q : m.at.R) (e f : m.at.E) (l : List Body) → c.Rest r → c.Good e → is_start m.at e ≡ true
      → m.holds r < m.carries e → m.at.receive Ground r e ≡ acts q l (puts f) → says f ≡ w.indicates r e
  pub result_is : (r : m.at.R) (f : m.at.E) → c.Away r → c.Good f → is_start m.at f ≡ false
      → m.carries f ≡ m.holds r → w.confirms r f ≡ result_of (says f)
