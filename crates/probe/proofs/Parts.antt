-- Parts of the input and of the room.
-- Assumes nothing.
use Prim.Native.Nat.{ℕ, ◌+◌, ◌-◌, ◌≤◌}
use mathlib.Core.List.{List}
use lib.ListN.{length, take, drop, length-take}
use native.Mathlib.Omega.{arith}

-- the n bytes from a place on have room in the first n of another slice
pub part_fits : (s r : List ℕ) (a n : ℕ) → n ≤ length r → length (take (a + n - a) (drop a s)) ≤ length (take n r)
part_fits s r a n h =
    let p = length-take (a + n - a) (drop a s) in
    let q = length-take n r in
    omega arith
