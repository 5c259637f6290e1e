-- Bytes that are put into a range.
-- Assumes nothing.
use mathlib.Core.Path.{◌≡◌, refl, sym, ◌∙◌}
use mathlib.Core.List.{List, [], ◌∷◌, ◌++◌, append-nil}
use Prim.Native.Nat.{ℕ, suc, ◌+◌, ◌≤◌, ◌<◌}
use native.Mathlib.Omega.{arith}
use native.Mathlib.Numerals.{add-one}
use native.Mathlib.Nat.{add-zero}
use lib.ListN.{length, drop, set, get_or, length-set, drop_of_length-le}
use lib.Seq.{sets, sets-eq, drop-cons, drop-length}

sets_one : (s : List ℕ) (p x : ℕ) (xs : List ℕ) → sets s p (x ∷ xs) ≡ sets (set s p x) (p + 1) xs
sets_one s p x xs = rw (add-one p)

-- i bytes of src are put
pub record Copying (s₀ s src : List ℕ) (at i : ℕ) : Type 0 where
  pub count : i ≤ length src
  pub same : length s ≡ length s₀
  pub rest : sets s (at + i) (drop i src) ≡ sets s₀ at src

pub copying_all : (s src : List ℕ) (at : ℕ) → Copying s s src at 0
copying_all s src at = record { count = omega arith; same = refl; rest = rw (add-zero at) }

module _ (s₀ s src : List ℕ) (at i : ℕ) (r : Copying s₀ s src at i) where
  pub copying_more : i < length src → Copying s₀ (set s (at + i) (get_or src i 0)) src at (i + 1)
  copying_more h =
      let d : drop i src ≡ get_or src i 0 ∷ drop (i + 1) src = rw (add-one i) (drop-cons src i 0 h) in
      let a : at + (i + 1) ≡ at + i + 1 = omega arith in
      record {
        count = omega arith;
        same = length-set s (at + i) (get_or src i 0) ∙ r.same;
        rest = rw a (sym (sets_one s (at + i) (get_or src i 0) (drop (i + 1) src)) ∙ (rw d at r.rest));
      }

  pub copying_done : length src ≤ i → s ≡ sets s₀ at src
  copying_done h =
      let e : i ≡ length src = omega (arith, r.count) in
      rw (e, drop-length src) at r.rest

-- ---- puts in a row

pub sets_append : (s : List ℕ) (at : ℕ) (xs ys : List ℕ) → sets s at (xs ++ ys) ≡ sets (sets s at xs) (at + length xs) ys
sets_append s at [] ys = rw (add-zero at)
sets_append s at (x ∷ xs) ys =
    let e : at + suc (length xs) ≡ suc at + length xs = omega arith in
    rw e (sets_append (set s at x) (suc at) xs ys)

-- a range that takes just these bytes
pub sets_whole : (s xs : List ℕ) → length s ≡ length xs → sets s 0 xs ≡ xs
sets_whole s xs h =
    let d : drop (length xs) s ≡ [] = drop_of_length-le s {i = length xs} (omega arith) in
    let z : 0 + length xs ≡ length xs = omega arith in
    sets-eq xs s 0 (omega arith) ∙ rw (z, d) (append-nil xs)
