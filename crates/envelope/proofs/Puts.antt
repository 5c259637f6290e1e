-- Laws of bytes that are put into a buffer: what the writer's loops keep, and puts in a row.
-- Assumes nothing.
use mathlib.Core.Path.{◌≡◌, refl, sym, ◌∙◌}
use mathlib.Core.List.{List, [], ◌∷◌, ◌++◌}
use Prim.Native.Nat.{ℕ, zero, suc, ◌+◌, ◌-◌, ◌*◌, ◌/◌, ◌%◌, ◌^◌, ◌≤◌, ◌<◌}
use native.Mathlib.Omega.{arith}
use native.Mathlib.Numerals.{add-one}
use native.Mathlib.Decide.{dec_lt}
use native.Mathlib.Nat.{add-zero}
use lib.ListN.{length, take, drop, set, get_or, length-set, length-append}
use lib.Seq.{sets, drop-cons, get_or-take, length-take-le, drop-length}
use Rattle.envelope.specs.Numbers.{groups, number, Put}
use Rattle.envelope.proofs.Numbers.{groups_one, groups_more, wider}

sets_one : (s : List ℕ) (p x : ℕ) (xs : List ℕ) → sets s p (x ∷ xs) ≡ sets (set s p x) (p + 1) xs
sets_one s p x xs = rw (add-one p)

pub groups_pos : (f v : ℕ) → 0 < length (groups f v)
unfolding groups
groups_pos zero v = omega arith
groups_pos (suc f) v = elim (dec_lt v 128) [
  | yes h ↦ rw (groups_one (suc f) v h) (omega arith)
  | no h ↦ rw
      (groups_more f v (omega arith)) (omega arith)
]

-- ---- a number's loop: v is what is left of n, and goes to p

pub record Putting (s₀ s : List ℕ) (at n v p : ℕ) : Type 0 where
  pub from : at ≤ p
  pub count : p - at ≤ 9
  pub small : v < 2 ^ (7 * (9 - (p - at)) + 1)
  pub same : length s ≡ length s₀
  pub place : p + length (groups (9 - (p - at)) v) ≡ at + length (number n)
  pub rest : sets s p (groups (9 - (p - at)) v) ≡ sets s₀ at (number n)

pub putting_all : (s : List ℕ) (at n : ℕ) → n < 2 ^ 64 → Putting s s at n n at
unfolding number
putting_all s at n h =
    let z : at - at ≡ 0 = omega arith in
    record { from = omega arith; count = omega arith; small = rw z h; same = refl; place = rw z; rest = rw z }

followed : (f v : ℕ) → 128 ≤ v → v < 2 ^ (7 * f + 1) → 0 < f
followed zero v h g = absurd (omega arith)
followed (suc f) v h g = omega arith

module _ (s₀ s : List ℕ) (at n v p : ℕ) (r : Putting s₀ s at n v p) where
  pub putting_room : at + length (number n) ≤ length s₀ → p < length s
  putting_room h = omega (arith, groups_pos (9 - (p - at)) v, r.place, r.same)

  pub putting_more : 128 ≤ v → Putting s₀ (set s p (128 + v % 128)) at n (v / 128) (p + 1)
  putting_more h =
      let k = followed (9 - (p - at)) v h r.small in
      let e : 9 - (p - at) ≡ suc (9 - (p + 1 - at)) = omega (arith, r.from) in
      let g = groups_more (9 - (p + 1 - at)) v h in
      let q : v < 2 ^ (7 * (9 - (p + 1 - at)) + 1) * 128 = rw (e, wider (9 - (p + 1 - at))) at r.small in
      let l : p + suc (length (groups (9 - (p + 1 - at)) (v / 128))) ≡ at + length (number n) = rw (e, g) at r.place in
      record {
        from = omega (arith, r.from);
        count = omega (arith, r.from);
        small = omega arith;
        same = length-set s p (128 + v % 128) ∙ r.same;
        place = omega arith;
        rest = sym (sets_one s p (128 + v % 128) (groups (9 - (p + 1 - at)) (v / 128))) ∙ (rw (e, g) at r.rest);
      }

  pub putting_last : v < 128 → Put s₀ (set s p v) at (p + 1) (number n)
  putting_last h =
      let g = groups_one (9 - (p - at)) v h in
      let l : p + 1 ≡ at + length (number n) = rw g at r.place in
      record { bytes = rw g at r.rest; place = l }

-- ---- a body's loop: i of its first n bytes are put

pub record Copying (s₀ s body : List ℕ) (at n i : ℕ) : Type 0 where
  pub count : i ≤ n
  pub same : length s ≡ length s₀
  pub rest : sets s (at + i) (drop i (take n body)) ≡ sets s₀ at (take n body)

pub copying_all : (s body : List ℕ) (at n : ℕ) → Copying s s body at n 0
copying_all s body at n = record { count = omega arith; same = refl; rest = rw (add-zero at) }

module _ (s₀ s body : List ℕ) (at n i : ℕ) (fit : n ≤ length body) (r : Copying s₀ s body at n i) where
  pub copying_more : i < n → Copying s₀ (set s (at + i) (get_or body i 0)) body at n (i + 1)
  copying_more h =
      let l = length-take-le n body fit in
      let d : drop i (take n body) ≡ get_or body i 0 ∷ drop (i + 1) (take n body) = rw
      (add-one i, drop-cons (take n body) i 0 (omega arith), get_or-take n body i 0 h) in
      let a : at + (i + 1) ≡ at + i + 1 = omega arith in
      record {
        count = omega arith;
        same = length-set s (at + i) (get_or body i 0) ∙ r.same;
        rest = rw a (sym (sets_one s (at + i) (get_or body i 0) (drop (i + 1) (take n body))) ∙ (rw d at r.rest));
      }

  pub copying_done : n ≤ i → Put s₀ s at (at + n) (take n body)
  copying_done h =
      let l = length-take-le n body fit in
      let e : i ≡ length (take n body) = omega (arith, r.count) in
      record { bytes = rw (e, drop-length (take n body)) at r.rest; place = rw l }

-- ---- puts in a row

pub sets_append : (s : List ℕ) (at : ℕ) (xs ys : List ℕ) → sets s at (xs ++ ys) ≡ sets (sets s at xs) (at + length xs) ys
sets_append s at [] ys = rw (add-zero at)
sets_append s at (x ∷ xs) ys =
    let e : at + suc (length xs) ≡ suc at + length xs = omega arith in
    rw e (sets_append (set s at x) (suc at) xs ys)

pub put_then : (s y z : List ℕ) (at next last : ℕ) (bs cs : List ℕ) → Put s y at next bs → Put y z next last cs → Put s z at last (bs ++ cs)
put_then s y z at next last bs cs p q =
    let l : last ≡ at + length bs + length cs = rw (← p.place) q.place in
    record {
      bytes = rw (sets_append s at bs cs, ← p.bytes, ← p.place) q.bytes;
      place = rw (length-append bs cs) (omega arith);
    }
