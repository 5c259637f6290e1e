use Prim.Native.Nat.{◌-◌, ◌≤◌}
use Rattle.recordings.proofs.Sames.{Sames}
use Rattle.recordings.proofs.differing.same_bytes.Given as goal

abbrev pub invariant-loop-i : goal.invariant-loop-i
invariant-loop-i l = Sames l.a l.p l.b l.q l.n l.i
