-- The table of elements: how many rows it has, that every row is a known kind, and what it says outside its rows.
-- Assumes nothing.
use mathlib.Core.Path.{◌≡◌, refl, ap}
use mathlib.Core.Bool.{true}
use mathlib.Core.List.{List, [], ◌∷◌, ◌++◌}
use Prim.Native.Nat.{ℕ, zero, suc, ◌+◌, ◌<◌, ◌≤◌}
use native.Mathlib.Nat.{le_of_suc-le-suc, not-suc-le-zero}
use lib.ListN.{length, get_or, get_or-append, get_or-eq_default}
use lib.Seq.{get_or-append-add}
use lib.Dec.{ltb}
use borrow.Author.Tests.{ltb-true}
use Rattle.words.proofs.Laws.{both_left, both_right}
use Rattle.kinds.specs.declared.Direction.{Direction}
use Rattle.kinds.specs.declared.Direction.TheVariants.{Downlink, Uplink}
use Rattle.kinds.specs.declared.ArgumentKind.{ArgumentKind}
use Rattle.kinds.specs.declared.ArgumentKind.TheVariants.{NotCarried}
use Rattle.kinds.specs.Elements.{kinds, other, downlink, uplink, rows, all_known, kind_at, rows_of, kind_of}

pub downlink_rows : length (rows_of Downlink) ≡ 114
unfolding rows_of downlink
downlink_rows = refl

pub uplink_rows : length (rows_of Uplink) ≡ 238
unfolding rows_of uplink
uplink_rows = refl

pub all_rows : length rows ≡ 352
unfolding rows downlink uplink
all_rows = refl

-- the test that is computed over the table
pub rows_known : all_known rows ≡ true
unfolding all_known kinds rows downlink uplink
rows_known = refl

known_at : (xs : List ℕ) → all_known xs ≡ true → (n : ℕ) → n < length xs → get_or xs n other < length kinds
unfolding all_known
known_at [] t n h = absurd (not-suc-le-zero h)
known_at (x ∷ xs) t zero h = ltb-true x (length kinds) (both_left (ltb x (length kinds)) (all_known xs) t)
known_at (x ∷ xs) t (suc n) h = known_at xs (both_right (ltb x (length kinds)) (all_known xs) t) n (le_of_suc-le-suc h)

-- every row of the table is the place of a kind
pub row_known : (n : ℕ) → n < length rows → get_or rows n other < length kinds
row_known n h = known_at rows rows_known n h

-- where the rows of each direction stand in the one table
pub downlink_at : (n : ℕ) → n < length downlink → kind_at n ≡ kind_of Downlink n
unfolding kind_at kind_of rows_of rows
downlink_at n h = ap (λ (x : ℕ). get_or kinds x NotCarried) (get_or-append downlink uplink other n h)

pub uplink_at : (n : ℕ) → kind_at (length downlink + n) ≡ kind_of Uplink n
unfolding kind_at kind_of rows_of rows
uplink_at n = ap (λ (x : ℕ). get_or kinds x NotCarried) (get_or-append-add downlink uplink n other)

-- the same, as the code counts them
pub downlink_kind : (n : ℕ) → n < 114 → kind_at n ≡ kind_of Downlink n
unfolding downlink
downlink_kind n h = downlink_at n h

pub uplink_kind : (n : ℕ) → kind_at (114 + n) ≡ kind_of Uplink n
unfolding downlink
uplink_kind n = uplink_at n

-- a number without a row is not carried
pub no_row : (d : Direction) (n : ℕ) → length (rows_of d) ≤ n → NotCarried ≡ kind_of d n
unfolding kind_of kinds
no_row d n h = rw (get_or-eq_default (rows_of d) other h)

-- uM237 stands behind the extension marker: it has a row, and is not carried
pub u_m237 : kind_of Uplink 237 ≡ NotCarried
unfolding kind_of kinds rows_of uplink
u_m237 = refl
