-- The bits of a value that stand at a place of a list: what reading finds there, and what was written there.
-- Beside the bits of `fields` stands the test of the value; a value of no bits stands anywhere.
-- Assumes nothing.
use mathlib.Core.Path.{◌≡◌, refl, sym}
use mathlib.Core.Bool.{Bool, true, ◌&&◌}
use mathlib.Core.List.{List, [], ◌++◌}
use Prim.Native.Nat.{ℕ, ◌+◌, ◌<◌}
use native.Mathlib.Omega.{arith}
use native.Mathlib.Nat.{add-zero}
use lib.ListN.{length, length-append}
use Rattle.bits.proofs.Numbers.{Bits}
use Rattle.bits.proofs.Bytes.{Holds, holds_split, holds_join, holds_within}
use Rattle.fields.proofs.RoundTrip as trip
use Rattle.words.proofs.Laws.{both_left, both_right}
use Rattle.std.specs.Prelude.{Ok}
use Rattle.fields.specs.Fields.{Reading}

-- the bits bs of a value that its type has (ok) stand at a place of l, up to the next
pub record Stands (l : List ℕ) (at : ℕ) (ok : Bool) (bs : List ℕ) (next : ℕ) : Type 0 where
  pub fits : ok ≡ true
  pub holds : Holds l at bs
  pub place : next ≡ at + length bs

pub both_hold : (a b : Bool) → a ≡ true → b ≡ true → a && b ≡ true
both_hold a b p q = rw (p, q)

-- one value after another
pub stands_join : (l : List ℕ) (at m next : ℕ) (a b : Bool) (xs ys : List ℕ) → Stands l at a xs m → Stands l m b ys next
    → Stands l at (a && b) (xs ++ ys) next
stands_join l at m next a b xs ys p q =
    record {
      fits = both_hold a b p.fits q.fits;
      holds = holds_join l at xs ys p.holds (rw p.place at q.holds);
      place = let n = length-append xs ys in let h = p.place in let k = q.place in omega arith;
    }

pub stands_split : (l : List ℕ) (at next : ℕ) (a b : Bool) (xs ys : List ℕ) → Stands l at (a && b) (xs ++ ys) next
    → (Stands l at a xs (at + length xs) × Stands l (at + length xs) b ys next)
stands_split l at next a b xs ys s =
    let h = holds_split l at xs ys s.holds in (
      record { fits = both_left a b s.fits; holds = h.0; place = refl },
      record {
        fits = both_right a b s.fits;
        holds = h.1;
        place = let n = length-append xs ys in let k = s.place in omega arith;
      },
    )

-- the same bits for another test that holds
pub stands_as : (l : List ℕ) (at next : ℕ) (a b : Bool) (bs : List ℕ) → b ≡ true → Stands l at a bs next → Stands l at b bs next
stands_as l at next a b bs e s = record { fits = e; holds = s.holds; place = s.place }

-- nothing stands anywhere
pub stands_nothing : (l : List ℕ) (at : ℕ) (ok : Bool) → ok ≡ true → Stands l at ok [] at
stands_nothing l at ok e = record { fits = e; holds = refl; place = sym (add-zero at) }

-- ---- the fields of `fields`

-- bits that are there stand as a field's do, and the other way round
pub as_field : (l : List ℕ) (at next : ℕ) (ok : Bool) (bs : List ℕ) → 0 < length bs → Stands l at ok bs next → trip.Stands l at bs next
as_field l at next ok bs p s = record { place = s.place; within = holds_within l at bs p s.holds; holds = s.holds }

pub of_field : (l : List ℕ) (at next : ℕ) (ok : Bool) (bs : List ℕ) → ok ≡ true → trip.Stands l at bs next → Stands l at ok bs next
of_field l at next ok bs e s = record { fits = e; holds = s.holds; place = s.place }

module _ {rd : List ℕ → ℕ → Reading ℕ} {ok : ℕ → Bool} {bits : ℕ → List ℕ} (f : trip.RoundTrip rd ok bits) (l : List ℕ) (at v next : ℕ) where
  pub field_reads : 0 < length (bits v) → Stands l at (ok v) (bits v) next → rd l at ≡ Ok (v, next)
  field_reads p s = f.written_read l at v next s.fits (as_field l at next (ok v) (bits v) p s)

  pub field_stands : Bits l → rd l at ≡ Ok (v, next) → Stands l at (ok v) (bits v) next
  field_stands b e = of_field l at next (ok v) (bits v) (f.read_fits l at v next b e) (f.read_written l at v next b e)
