use mathlib.Core.Path.{◌≡◌}
use Prim.Native.Nat.{◌-◌}
use Rattle.bits.specs.Bits.{bits_to}
use Rattle.fields.specs.Additions.{stepped_over}
use Rattle.fields.proofs.later.step_over.Given as goal

abbrev pub invariant-loop : goal.invariant-loop
invariant-loop l = stepped_over (bits_to l.s l.end) l.p (l.count - l.counter) ≡ stepped_over (bits_to l.s l.end) l.at l.count
