-- Arguments read as one number: what stands there is what is read field by field.
-- Assumes nothing.
use mathlib.Core.Path.{◌≡◌, refl, sym, ap, ◌∙◌}
use mathlib.Core.Bool.{true, false, ◌&&◌}
use mathlib.Core.List.{List, [], ◌∷◌, ◌++◌}
use Prim.Native.Nat.{ℕ, zero, suc, ◌+◌, ◌*◌, ◌/◌, ◌%◌, ◌≤◌, ◌<◌}
use native.Mathlib.Omega.{arith}
use lib.Dec.{leb}
use lib.ListN.{length}
use borrow.Author.Tests.{le-leb}
use Rattle.bits.specs.Bits.{bits_n, bits_to}
use Rattle.bits.specs.Read.{read_bits}
use Rattle.bits.proofs.Bytes.{bits_to_is}
use Rattle.bits.proofs.Numbers.{length_bits_n}
use Rattle.bits.proofs.Reading.{number_is, number_lt, number_stands}
use Rattle.fields.specs.Fields.{digits_in, whole_number}
use Rattle.fields.specs.Encodings.{whole_bits, whole_fits}
use Rattle.elements.specs.declared.values.LevelType.{LevelType}
use Rattle.elements.specs.Arguments.{lowest, highest, no_type, level_type_fits, level_type_bits, level_at, digits_fit, digits_bits, code_at}
use Rattle.elements.proofs.Codes.{code_reads}
use Rattle.elements.proofs.Joined.{four}
use Rattle.elements.proofs.Levels.{highest_small, level_reads, single_stands}
use Rattle.elements.proofs.Standing.{Stands, both_hold, stands_as, stands_join, stands_split}
use Rattle.elements.proofs.Whole.{whole_stands, whole_most, whole_as}
use Rattle.std.specs.Prelude.{Ok, Option, Some}
use Rattle.fields.specs.Fields.{Reading}

-- ---- a code

digit : (d : ℕ) → d ≤ 7 → whole_fits 0 7 d ≡ true
digit d h = both_hold (leb 0 d) (leb d 7) (le-leb 0 d (omega arith)) (le-leb d 7 h)

digits : (a b c d : ℕ) → a ≤ 7 → b ≤ 7 → c ≤ 7 → d ≤ 7 → digits_fit (a ∷ b ∷ c ∷ d ∷ []) ≡ true
unfolding digits_fit
digits a b c d p q r t = rw (digit a p, digit b q, digit c r, digit d t)

pub code_is : (s : List ℕ) (e at v next : ℕ) (r : Option (ℕ × ℕ)) → r ≡ read_bits (bits_to s e) at 12 → r ≡ Some (v, next)
    → Ok (v / 8 / 8 / 8 % 8 ∷ v / 8 / 8 % 8 ∷ v / 8 % 8 ∷ v % 8 ∷ [], next) ≡ code_at (bits_to s e) at
code_is s e at v next r p q =
    let l : List ℕ = bits_to s e in
    let k = number_is l at 12 v next (sym p ∙ q) in
    let m : v < 4096 = number_lt l at 12 v next (bits_to_is s e) (sym p ∙ q) in
    let a : ℕ = v / 8 / 8 / 8 % 8 in
    let b : ℕ = v / 8 / 8 % 8 in
    let c : ℕ = v / 8 % 8 in
    let d : ℕ = v % 8 in
    let w : ((a * 8 + b) * 8 + c) * 8 + d ≡ v = omega (arith, m) in
    let z : digits_bits (a ∷ b ∷ c ∷ d ∷ []) ≡ bits_n 12 v = four a b c d (omega arith) (omega arith) (omega arith) ∙ ap (bits_n 12) w in
    sym (code_reads l at next a b c d (record {
      fits = digits a b c d (omega arith) (omega arith) (omega arith) (omega arith);
      holds = rw z (number_stands l at 12 v next (bits_to_is s e) (sym p ∙ q));
      place = rw (z, length_bits_n) k.place;
    }))

-- ---- a level that is no block

three : (u : ℕ) → u ≤ 3 → bits_n 3 u ≡ whole_bits 0 1 0 ++ whole_bits 0 3 u
unfolding bits_n whole_bits digits_in
three zero h = refl
three (suc zero) h = refl
three (suc (suc zero)) h = refl
three (suc (suc (suc zero))) h = refl
three (suc (suc (suc (suc u)))) h = absurd (omega arith)

unit_fits : (u : ℕ) → u ≤ 3 → whole_fits 0 3 u ≡ true
unit_fits u h = both_hold (leb 0 u) (leb u 3) (le-leb 0 u (omega arith)) (le-leb u 3 h)

module _ (s : List ℕ) (e at u next v last low high : ℕ) (r : Option (ℕ × ℕ)) (f : Reading ℕ) (p : r ≡ read_bits (bits_to s e) at 3) (q : r ≡ Some (u, next)) (h : u ≤ 3) (pl : low ≡ lowest u) (ph : high ≡ highest u) (pf : f ≡ whole_number (bits_to s e) next low high) (qf : f ≡ Ok (v, last)) where
  pub amount_small : v < 65536
  amount_small =
      let m = whole_most (bits_to s e) next low high v last f pf qf in
      omega (arith, m, ph, highest_small u)

  pub single_is : Ok (record { block = false; first = record { unit = u; number = v }; second = no_type }, last) ≡ level_at (bits_to s e) at
  unfolding level_type_fits level_type_bits
  single_is =
      let l : List ℕ = bits_to s e in
      let k = number_is l at 3 u next (sym p ∙ q) in
      let front : Stands l at (true && whole_fits 0 3 u) (whole_bits 0 1 0 ++ whole_bits 0 3 u) next = record {
        fits = unit_fits u h;
        holds = rw (← three u h) (number_stands l at 3 u next (bits_to_is s e) (sym p ∙ q));
        place = rw (← three u h, length_bits_n) k.place;
      } in
      let amount : Stands l next (whole_fits (lowest u) (highest u) v) (whole_bits (lowest u) (highest u) v) last =
      whole_stands l next (lowest u) (highest u) v last (bits_to_is s e)
      (sym (whole_as l next low high (lowest u) (highest u) f pf pl ph) ∙ qf) in
      let both = stands_split l at next true (whole_fits 0 3 u) (whole_bits 0 1 0) (whole_bits 0 3 u) front in
      let m : ℕ = at + length (whole_bits 0 1 0) in
      let x : LevelType = record { unit = u; number = v } in
      let t : Stands l m (level_type_fits x) (level_type_bits x) last = stands_join l m next last (whole_fits 0 3 u)
      (whole_fits (lowest u) (highest u) v) (whole_bits 0 3 u) (whole_bits (lowest u) (highest u) v) both.1 amount
      in
      sym (level_reads l at last (record { block = false; first = x; second = no_type }) (single_stands l at m last 0 x refl (stands_as l at m true (whole_fits 0 1 0) (whole_bits 0 1 0) refl both.0) t))
