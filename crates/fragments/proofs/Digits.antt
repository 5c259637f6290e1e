-- Laws of decimal digits: how many there are, and what the loops that count and put them keep.
-- Assumes nothing.
use mathlib.Core.Path.{◌≡◌, refl, ap, sym, ◌∙◌}
use mathlib.Core.List.{List, [], ◌∷◌, ◌++◌}
use Prim.Native.Nat.{ℕ, zero, suc, ◌+◌, ◌-◌, ◌*◌, ◌/◌, ◌%◌, ◌^◌, ◌≤◌, ◌<◌}
use native.Mathlib.Omega.{arith}
use native.Mathlib.Decide.{dec_lt}
use lib.ListN.{length, set, length-append, length-set}
use lib.Seq.{sets, set_comm}
use lib.Pow.{pow-add}
use borrow.Author.Tests.{lt-ltb, le-ltb}
use Rattle.envelope.specs.Numbers.{Put}
use Rattle.fragments.specs.Texts.{digits, decimal}
use Rattle.envelope.proofs.Puts.{sets_append}

-- ---- the clauses

digits_one : (f n : ℕ) → n < 10 → digits f n ≡ (48 + n) ∷ []
unfolding digits
digits_one zero n h = refl
digits_one (suc f) n h = rw (lt-ltb n 10 h)

digits_more : (f n : ℕ) → 10 ≤ n → digits (suc f) n ≡ digits f (n / 10) ++ ((48 + n % 10) ∷ [])
unfolding digits
digits_more f n h = rw (le-ltb n 10 h)

longer : (f n : ℕ) → 10 ≤ n → length (digits (suc f) n) ≡ length (digits f (n / 10)) + 1
longer f n h = rw (digits_more f n h) (length-append (digits f (n / 10)) ((48 + n % 10) ∷ []))

-- a digit more
tenfold : (f : ℕ) → 10 ^ (suc f + 1) ≡ 10 ^ (f + 1) * 10
tenfold f = let e : suc f + 1 ≡ f + 1 + 1 = omega arith in rw (e, pow-add 10 (f + 1) 1)

-- ---- how many

pub digits_most : (f n : ℕ) → length (digits f n) ≤ f + 1
unfolding digits
digits_most zero n = omega arith
digits_most (suc f) n =
    let ih = digits_most f (n / 10) in
    elim (dec_lt n 10) [ yes h ↦ rw (digits_one (suc f) n h) (omega arith) | no h ↦ rw (longer f n (omega arith)) (omega arith) ]

pub digits_pos : (f n : ℕ) → 0 < length (digits f n)
unfolding digits
digits_pos zero n = omega arith
digits_pos (suc f) n =
    elim (dec_lt n 10) [ yes h ↦ rw (digits_one (suc f) n h) (omega arith) | no h ↦ rw (longer f n (omega arith)) (omega arith) ]

-- a number below 10^(k + 1) has k + 1 digits at most
pub digits_short : (k f n : ℕ) → n < 10 ^ (k + 1) → length (digits f n) ≤ k + 1
unfolding digits
digits_short k zero n h = omega arith
digits_short zero (suc f) n h = rw (digits_one (suc f) n (omega arith)) (omega arith)
digits_short (suc k) (suc f) n h =
    let t = tenfold k in
    let ih = digits_short k f (n / 10) (omega arith) in
    elim (dec_lt n 10) [ yes g ↦ rw (digits_one (suc f) n g) (omega arith) | no g ↦ rw (longer f n (omega arith)) (omega arith) ]

pub decimal_most : (n : ℕ) → length (decimal n) ≤ 20
unfolding decimal
decimal_most n = digits_most 19 n

pub decimal_short : (k n : ℕ) → n < 10 ^ (k + 1) → length (decimal n) ≤ k + 1
unfolding decimal
decimal_short k n h = digits_short k 19 n h

-- ---- the loop that counts: k digits with the last of v, which is what is left of n

-- nineteen digits may stand before another
further : (f v : ℕ) → 10 ≤ v → v < 10 ^ (f + 1) → 0 < f
further zero v h g = absurd (omega arith)
further (suc f) v h g = omega arith

pub record Counting (n v k : ℕ) : Type 0 where
  pub from : 1 ≤ k
  pub count : k ≤ 20
  pub small : v < 10 ^ (20 - k + 1)
  pub rest : k + length (digits (20 - k) v) ≡ 1 + length (decimal n)

pub counting_all : (n : ℕ) → n < 2 ^ 64 → Counting n n 1
unfolding decimal
counting_all n h = record { from = omega arith; count = omega arith; small = omega arith; rest = refl }

module _ (n v k : ℕ) (r : Counting n v k) where
  pub counting_more : 10 ≤ v → Counting n (v / 10) (k + 1)
  counting_more h =
      let p = further (20 - k) v h r.small in
      let e : 20 - k ≡ suc (20 - (k + 1)) = omega arith in
      let l : k + (length (digits (20 - (k + 1)) (v / 10)) + 1) ≡ 1 + length (decimal n) = rw (e, longer (20 - (k + 1)) v h) at r.rest in
      let q : v < 10 ^ (20 - (k + 1) + 1) * 10 = rw (e, tenfold (20 - (k + 1))) at r.small in
      record { from = omega arith; count = omega arith; small = omega arith; rest = omega arith }

  pub counting_done : v < 10 → k ≡ length (decimal n)
  counting_done h =
      let l : k + 1 ≡ 1 + length (decimal n) = rw (digits_one (20 - k) v h) at r.rest in
      omega arith

-- ---- the loop that puts: the first i of k digits are those of v, and are left

-- a store behind a run goes before it
set_first : (s : List ℕ) (at : ℕ) (xs : List ℕ) (i d : ℕ) → at + length xs ≤ i → set (sets s at xs) i d ≡ sets (set s i d) at xs
set_first s at [] i d h = refl
set_first s at (x ∷ xs) i d h =
    let z : at ≡ i → ⊥ = λ (q : at ≡ i). omega arith in
    set_first (set s at x) (suc at) xs i d (omega arith) ∙ rw (set_comm s at i x d z)

sets_last : (s : List ℕ) (at : ℕ) (xs : List ℕ) (d : ℕ) → sets s at (xs ++ (d ∷ [])) ≡ sets (set s (at + length xs) d) at xs
sets_last s at xs d = sets_append s at xs (d ∷ []) ∙ set_first s at xs (at + length xs) d (omega arith)

pub record Spelling (s₀ s : List ℕ) (at n k v i : ℕ) : Type 0 where
  pub all : k ≡ length (decimal n)
  pub from : i ≤ k
  pub some : 0 < i
  pub count : k - i ≤ 19
  pub small : v < 10 ^ (19 - (k - i) + 1)
  pub same : length s ≡ length s₀
  pub left : i ≡ length (digits (19 - (k - i)) v)
  pub rest : sets s at (digits (19 - (k - i)) v) ≡ sets s₀ at (decimal n)

pub spelling_all : (s : List ℕ) (at n k : ℕ) → n < 2 ^ 64 → k ≡ length (decimal n) → Spelling s s at n k n k
unfolding decimal
spelling_all s at n k h e =
    let z : k - k ≡ 0 = omega arith in
    record { all = e; from = omega arith; some = omega (arith, digits_pos 19 n); count = omega arith; small = rw z (omega arith); same = refl; left = rw z e; rest = rw z }

module _ (s₀ s : List ℕ) (at n k v i : ℕ) (r : Spelling s₀ s at n k v i) where
  pub spelling_more : 10 ≤ v → Spelling s₀ (set s (at + (i - 1)) (48 + v % 10)) at n k (v / 10) (i - 1)
  spelling_more h =
      let o = r.some in
      let p = further (19 - (k - i)) v h r.small in
      let e : 19 - (k - i) ≡ suc (19 - (k - (i - 1))) = omega (arith, r.from) in
      let l : i ≡ length (digits (19 - (k - (i - 1))) (v / 10)) + 1 = rw (e, longer (19 - (k - (i - 1))) v h) at r.left in
      let m : i - 1 ≡ length (digits (19 - (k - (i - 1))) (v / 10)) = omega arith in
      let q : v < 10 ^ (19 - (k - (i - 1)) + 1) * 10 = rw (e, tenfold (19 - (k - (i - 1)))) at r.small in
      let t : sets s at (digits (19 - (k - (i - 1))) (v / 10) ++ ((48 + v % 10) ∷ [])) ≡ sets s₀ at (decimal n) = rw
      (e, digits_more (19 - (k - (i - 1))) v h) at r.rest in
      record {
        all = r.all;
        from = omega (arith, r.from);
        some = omega (arith, digits_pos (19 - (k - (i - 1))) (v / 10));
        count = omega (arith, r.from);
        small = omega arith;
        same = length-set s (at + (i - 1)) (48 + v % 10) ∙ r.same;
        left = m;
        rest = ap (λ (j : ℕ). sets (set s (at + j) (48 + v % 10)) at (digits (19 - (k - (i - 1))) (v / 10))) m ∙
            (sym (sets_last s at (digits (19 - (k - (i - 1))) (v / 10)) (48 + v % 10)) ∙ t);
      }

  pub spelling_last : v < 10 → Put s₀ (set s at (48 + v)) at (at + k) (decimal n)
  spelling_last h = record { bytes = rw (digits_one (19 - (k - i)) v h) at r.rest; place = rw r.all }
