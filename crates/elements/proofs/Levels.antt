-- Levels: what is written is read back, and what is read stands there.
-- Assumes nothing.
use mathlib.Core.Path.{◌≡◌, refl, sym, ◌∙◌}
use mathlib.Core.Bool.{Bool, true, false, cond, ◌&&◌}
use mathlib.Core.List.{List, [], ◌∷◌, ◌++◌}
use Prim.Native.Nat.{ℕ, zero, suc, ◌<◌, ◌≤◌}
use native.Mathlib.Omega.{arith}
use native.Mathlib.Nat.{add-zero}
use lib.ListN.{get_or-eq_default}
use lib.Dec.{eqb}
use borrow.Author.Tests.{eqb-true, eqb-false}
use Rattle.words.proofs.Laws.{both_left, both_right, ok_place, ok_value}
use Rattle.bits.proofs.Numbers.{Bits}
use Rattle.fields.specs.Fields.{whole_number, then}
use Rattle.fields.specs.Encodings.{whole_bits, whole_fits}
use Rattle.elements.specs.declared.values.LevelType.{LevelType}
use Rattle.elements.specs.declared.values.Level.{Level}
use Rattle.elements.specs.Arguments.{lowest, highest, level_type_fits, level_type_bits, level_type_at, second_of, flag, no_type, same?, level_fits, level_bits, level_at}
use Rattle.elements.proofs.Standing.{Stands, stands_join, stands_split, stands_as, stands_nothing}
use Rattle.elements.proofs.Whole.{Ranged, ranged, whole_reads, whole_stands, whole_below}
use Rattle.elements.proofs.Pairs.{pair_reads, pair_stands}
use Rattle.elements.proofs.Steps.{then_is}
use Rattle.std.specs.Prelude.{Err, Ok}

-- every unit has a range
pub in_range : (u : ℕ) → u ≤ 3 → Ranged (lowest u) (highest u)
unfolding lowest highest
in_range zero h = ranged _ _ tt tt
in_range (suc zero) h = ranged _ _ tt tt
in_range (suc (suc zero)) h = ranged _ _ tt tt
in_range (suc (suc (suc zero))) h = ranged _ _ tt tt
in_range (suc (suc (suc (suc u)))) h = absurd (omega arith)

pub highest_small : (u : ℕ) → highest u ≤ 25030
unfolding highest
highest_small zero = omega arith
highest_small (suc zero) = omega arith
highest_small (suc (suc zero)) = omega arith
highest_small (suc (suc (suc zero))) = omega arith
highest_small (suc (suc (suc (suc u)))) = omega arith

-- a table of the four units, row by row
pub by_unit : (f : ℕ → ℕ) (u v : ℕ) → u < 4 → (u ≡ 0 → v ≡ f 0) → (u ≡ 1 → v ≡ f 1) → (u ≡ 2 → v ≡ f 2) → (u ≡ 3 → v ≡ f 3) → v ≡ f u
by_unit f zero v h feet metres flight metric = feet refl
by_unit f (suc zero) v h feet metres flight metric = metres refl
by_unit f (suc (suc zero)) v h feet metres flight metric = flight refl
by_unit f (suc (suc (suc zero))) v h feet metres flight metric = metric refl
by_unit f (suc (suc (suc (suc u)))) v h feet metres flight metric = absurd (omega arith)

-- what is no unit has no range
pub past_lowest : (u : ℕ) → 4 ≤ u → 0 ≡ lowest u
unfolding lowest
past_lowest u h = sym (get_or-eq_default (0 ∷ 0 ∷ 30 ∷ 100 ∷ []) 0 h)

pub past_highest : (u : ℕ) → 4 ≤ u → 0 ≡ highest u
unfolding highest
past_highest u h = sym (get_or-eq_default (7060 ∷ 25030 ∷ 700 ∷ 2500 ∷ []) 0 h)

units : Ranged 0 3
units = ranged _ _ tt tt

made : ℕ → ℕ → LevelType
made u v = record { unit = u; number = v }

pub level_type_reads : (l : List ℕ) (at next : ℕ) (x : LevelType) → Stands l at (level_type_fits x) (level_type_bits x) next
    → level_type_at l at ≡ Ok (x, next)
unfolding level_type_fits level_type_bits level_type_at made
level_type_reads l at next x s = pair_reads Err (λ (u v n : ℕ). Ok (made u v, n)) 0 3 lowest highest units in_range l at x.unit x.number next s

pub level_type_stands : (l : List ℕ) (at next : ℕ) (x : LevelType) → Bits l → level_type_at l at ≡ Ok (x, next)
    → Stands l at (level_type_fits x) (level_type_bits x) next
unfolding level_type_fits level_type_bits level_type_at made
level_type_stands l at next x b e =
    pair_stands made 0 3 lowest highest units in_range l at x next b
    (λ (u v : ℕ) (s : Stands l at (whole_fits 0 3 u && whole_fits (lowest u) (highest u) v) (whole_bits 0 3 u ++ whole_bits (lowest u) (highest u) v) next) (g : made u v ≡ x).
    rw (← g) s)
    e

-- ---- a level: one type, or two for a block

pub same_is : (x y : LevelType) → same? x y ≡ true → x ≡ y
same_is x y e =
    alike x.unit y.unit x.number y.number
    (eqb-true x.unit y.unit (both_left (eqb x.unit y.unit) (eqb x.number y.number) e))
    (eqb-true x.number y.number (both_right (eqb x.unit y.unit) (eqb x.number y.number) e))
  where
    alike : (u v m n : ℕ) → u ≡ v → m ≡ n → ◌≡◌ {A = LevelType} (record { unit = u; number = m }) (record { unit = v; number = n })
    alike u v m n p q = rw (p, q)

-- the bits of a level are the choice, the first type, and what a block has besides
reads_level : (l : List ℕ) (at next : ℕ) (block : Bool) (x y : LevelType)
    → Stands l at (true && level_type_fits x && cond block (level_type_fits y) (same? y no_type))
    (whole_bits 0 1 (flag block) ++ level_type_bits x ++ cond block (level_type_bits y) []) next
    → level_at l at ≡ Ok (record { block = block; first = x; second = y }, next)
unfolding level_at
reads_level l at next true x y s =
    let p = stands_split l at next _ _ (whole_bits 0 1 1 ++ level_type_bits x) (level_type_bits y) s in
    let q = stands_split l at _ true _ (whole_bits 0 1 1) (level_type_bits x) p.0 in
    rw (
      whole_reads l at 0 1 1 _ (ranged 0 1 tt tt) (stands_as l at _ _ _ _ refl q.0),
      level_type_reads l _ _ x
          q.1,
      level_type_reads l _ next y p.1,
    )
reads_level l at next false x y s =
    let p = stands_split l at next _ _ (whole_bits 0 1 0 ++ level_type_bits x) [] s in
    let q = stands_split l at _ true _ (whole_bits 0 1 0) (level_type_bits x) p.0 in
    rw (
      whole_reads l at 0 1 0 _ (ranged 0 1 tt tt) (stands_as l at _ _ _ _ refl q.0),
      level_type_reads l _ _ x
          q.1,
      p.1.place ∙ add-zero _,
      same_is y no_type p.1.fits,
    )

pub level_reads : (l : List ℕ) (at next : ℕ) (x : Level) → Stands l at (level_fits x) (level_bits x) next → level_at l at ≡ Ok (x, next)
unfolding level_fits level_bits
level_reads l at next x s = reads_level l at next x.block x.first x.second s

-- the choice's number and the types that were read stand there as a level
block_stands : (l : List ℕ) (at m n next b : ℕ) (x y : LevelType) → b ≡ 1 → Stands l at (whole_fits 0 1 b) (whole_bits 0 1 b) m → Stands l m (level_type_fits x) (level_type_bits x) n → Stands l n (level_type_fits y) (level_type_bits y) next → Stands l at (level_fits (record { block = true; first = x; second = y })) (level_bits (record { block = true; first = x; second = y })) next
unfolding level_fits level_bits
block_stands l at m n next b x y e p q r =
    let c : Stands l at true (whole_bits 0 1 1) m = stands_as l at m _ true _ refl (rw e at p) in
    stands_join l at n next (level_type_fits x) (level_type_fits y) (whole_bits 0 1 1 ++ level_type_bits x) (level_type_bits y)
    (stands_join l at m n true (level_type_fits x) (whole_bits 0 1 1) (level_type_bits x) c q)
    r

pub single_stands : (l : List ℕ) (at m n b : ℕ) (x : LevelType) → b ≡ 0 → Stands l at (whole_fits 0 1 b) (whole_bits 0 1 b) m → Stands l m (level_type_fits x) (level_type_bits x) n → Stands l at (level_fits (record { block = false; first = x; second = no_type })) (level_bits (record { block = false; first = x; second = no_type })) n
unfolding level_fits level_bits
single_stands l at m n b x e p q =
    let c : Stands l at true (whole_bits 0 1 0) m = stands_as l at m _ true _ refl (rw e at p) in
    stands_join l at n n (level_type_fits x) true (whole_bits 0 1 0 ++ level_type_bits x) []
    (stands_join l at m n true (level_type_fits x) (whole_bits 0 1 0) (level_type_bits x) c q)
    (stands_nothing l n true refl)

module _ (l : List ℕ) (at next : ℕ) (x : Level) (b : Bits l) where
  Goal : Type 0
  Goal = Stands l at (level_fits x) (level_bits x) next

  second_stands : (v m : ℕ) (f : LevelType) (n : ℕ) → Stands l at (whole_fits 0 1 v) (whole_bits 0 1 v) m
      → Stands l m (level_type_fits f) (level_type_bits f) n → (t : Bool) → eqb v 0 ≡ t
      → second_of l v f n ≡ Ok (x, next) → Goal
  unfolding Goal
  second_stands v m f n p q true h e =
      let g : Ok (record { block = false; first = f; second = no_type }, n) ≡ Ok (x, next) = rw h at e in
      let i : ◌≡◌ {A = Level} (record { block = false; first = f; second = no_type }) x = ok_value g in
      let j : n ≡ next = ok_place g in
      rw (← i, ← j) (single_stands l at m n v f (eqb-true v 0 h) p q)
  second_stands v m f n p q false h e =
      let w : v ≡ 1 = let a = whole_below 0 1 v p.fits in let z = eqb-false v 0 h in omega arith in
      then_is (level_type_at l n) (λ (y : LevelType) (last : ℕ). Ok (record { block = true; first = f; second = y }, last)) (x, next)
      (λ (y : LevelType) (k : ℕ) (r : level_type_at l n ≡ Ok (y, k)) (g : Ok (record { block = true; first = f; second = y }, k) ≡ Ok (x, next)).
      let i : ◌≡◌ {A = Level} (record { block = true; first = f; second = y }) x = ok_value g in
      let j : k ≡ next = ok_place g in
      rw (← i, ← j) (block_stands l at m n k v f y w p q (level_type_stands l n k y b r)))
      (rw h at e)

pub level_stands : (l : List ℕ) (at next : ℕ) (x : Level) → Bits l → level_at l at ≡ Ok (x, next)
    → Stands l at (level_fits x) (level_bits x) next
unfolding level_at Goal
level_stands l at next x b e =
    then_is (whole_number l at 0 1) (λ (v m : ℕ). then (level_type_at l m) (second_of l v)) (x, next)
    (λ (v m : ℕ) (p : whole_number l at 0 1 ≡ Ok (v, m)) (q : then (level_type_at l m) (second_of l v) ≡ Ok (x, next)).
    then_is (level_type_at l m) (second_of l v) (x, next)
    (λ (f : LevelType) (n : ℕ) (r : level_type_at l m ≡ Ok (f, n)) (g : second_of l v f n ≡ Ok (x, next)).
    second_stands l at next x b v m f n (whole_stands l at 0 1 v m b p) (level_type_stands l m n f b r) (eqb v 0) refl g)
    q)
    e
