-- Laws of the tests whether a value fits: within the sizes it is what the lent bytes hold that decides.
-- Assumes nothing.
use mathlib.Core.Path.{◌≡◌, ◌∙◌}
use mathlib.Core.Bool.{Bool}
use mathlib.Core.List.{List}
use Prim.Native.Nat.{ℕ, ◌+◌, ◌*◌, ◌≤◌, ◌<◌, min}
use native.Mathlib.Omega.{arith}
use borrow.Author.Tests.{le-leb, lt-ltb}
use lib.Dec.{leb}
use lib.ListN.{length}
use Rattle.bits.proofs.Bytes.{length_to}
use Rattle.apdu.specs.Sizes.{all_bits}
use Rattle.apdu.specs.Pdus.{lent}
use Rattle.apdu.specs.Writing.{items_fit, run_within}
use Rattle.pdus.specs.declared.Span.{Span}

pub held : (s : List ℕ) (unit least most : ℕ) (x : Span) (t : Bool) → least ≤ x.count → x.count ≤ most → most < 16384
    → t ≡ leb (x.at + unit * x.count) (min all_bits (8 * length s)) → t ≡ items_fit (lent s) unit least most x
unfolding items_fit
held s unit least most x t h g k e = e ∙ rw
    (le-leb least x.count h, le-leb x.count most g, lt-ltb x.count 16384 (omega arith), length_to)

pub run_held : (most : ℕ) (s : List ℕ) (at n : ℕ) (t : Bool) → n ≤ most → t ≡ leb (at + n) (min all_bits (8 * length s))
    → t ≡ run_within most s at n
unfolding run_within
run_held most s at n t h e = e ∙ rw (le-leb n most h, length_to)
