-- What is counted of the forwards that were sent and of those that were shown; lines of which the youngest entries have not left.
-- Assumes nothing.
use mathlib.Core.Path.{◌≡◌, refl, ap, sym, ◌∙◌, subst}
use mathlib.Core.Bool.{Bool, true, false, cond, ◌&&◌}
use mathlib.Core.List.{List, [], ◌∷◌, ◌++◌}
use Prim.Native.Nat.{ℕ, suc, ◌+◌, ◌≤◌, ◌<◌}
use native.Mathlib.Omega.{arith}
use borrow.Author.Tests.{eqb-true, lt-ltb, ltb-true}
use lib.Dec.{T, eqb, ltb}
use lib.ListN.{length}
use Rattle.pair.specs.Claims.{rising}
use Rattle.pair.proofs.Finite.{and_l, and_r, both, T_is}
use Rattle.duties.specs.Memory.{Notice, one, count, fates, is_ended, says_ended, Took, jobs_of}
use Rattle.duties.proofs.Counting.{in_no}
use Rattle.forward_duties.specs.Promise.{numbers, often}

pub clash : {A : Type 0} → true ≡ false → A
clash e = absurd (subst T e tt)

pub and_first : (a b : Bool) → (a && b) ≡ true → a ≡ true
and_first true b e = refl
and_first false b e = clash (sym e)

pub and_second : (a b : Bool) → (a && b) ≡ true → b ≡ true
and_second true b e = e
and_second false b e = clash (sym e)

-- ---- every one of a list

abbrev pub All : {X : Type 0} → (X → Type 0) → List X → Type 0
All P [] = Unit {0}
All P (x ∷ l) = P x × All P l

pub all_map : {X : Type 0} (P Q : X → Type 0) → ((x : X) → P x → Q x) → (l : List X) → All P l → All Q l
all_map P Q f [] h = tt
all_map P Q f (x ∷ l) h = (f x h.0, all_map P Q f l h.1)

pub all_snoc : {X : Type 0} (P : X → Type 0) (l : List X) (x : X) → All P l → P x → All P (l ++ (x ∷ []))
all_snoc P [] x h g = (g, tt)
all_snoc P (y ∷ l) x h g = (h.0, all_snoc P l x h.1 g)

pub all_cond : {X : Type 0} (P : X → Type 0) (b : Bool) (l k : List X) → All P l → All P k → All P (cond b l k)
all_cond P true l k h g = h
all_cond P false l k h g = g

-- ---- of a line whose k youngest entries may not have left, those that have

abbrev pub Left : {X : Type 0} → (X → Type 0) → ℕ → List X → Type 0
Left P k [] = Unit {0}
Left P k (x ∷ l) = (ltb k (length (x ∷ l)) ≡ true → P x) × Left P k l

pub left_all : {X : Type 0} (P : X → Type 0) (k : ℕ) (l : List X) → All P l → Left P k l
left_all P k [] h = tt
left_all P k (x ∷ l) h = ((λ (e : ltb k (length (x ∷ l)) ≡ true). h.0), left_all P k l h.1)

pub left_map : {X : Type 0} (P Q : X → Type 0) (j k : ℕ) → j ≤ k → ((x : X) → P x → Q x) → (l : List X) → Left P j l → Left Q k l
left_map P Q j k b f [] h = tt
left_map P Q j k b f (x ∷ l) h = (
  (λ (e : ltb k (length (x ∷ l)) ≡ true). f x
      (h.0 (lt-ltb j (length (x ∷ l)) (omega (arith, b, ltb-true k (length (x ∷ l)) e))))),
  left_map P Q j k
      b f l h.1,
)

longer : {X : Type 0} (l : List X) (x : X) → length (l ++ (x ∷ [])) ≡ suc (length l)
longer [] x = refl
longer (y ∷ l) x = ap suc (longer l x)

pub left_snoc : {X : Type 0} (P : X → Type 0) (k : ℕ) (l : List X) (x : X) → Left P k l → Left P (suc k) (l ++ (x ∷ []))
left_snoc P k [] x h = ((λ (e : ltb (suc k) 1 ≡ true). absurd (omega (arith, ltb-true (suc k) 1 e))), tt)
left_snoc P k (y ∷ l) x h = (
  (λ (e : ltb (suc k) (suc (length (l ++ (x ∷ [])))) ≡ true). h.0 (lt-ltb k (suc (length l))
      (omega (arith, ltb-true (suc k) (suc (length (l ++ (x ∷ [])))) e, longer l x)))),
  left_snoc P k l x
      h.1,
)

-- ---- numbers

pub numbers_snoc : (l : List Took) (t : Took) → numbers (l ++ (t ∷ [])) ≡ numbers l ++ (t.no ∷ [])
numbers_snoc [] t = refl
numbers_snoc (x ∷ l) t = ap (λ (k : List ℕ). x.no ∷ k) (numbers_snoc l t)

pub rising_snoc : (n b v : ℕ) (l : List ℕ) → T (rising n l) → All (λ (i : ℕ). i ≤ b) l → n ≤ b → b < v → T (rising n (l ++ (v ∷ [])))
rising_snoc n b v [] r a h g = both (ltb n v) true (T_is (ltb n v) (lt-ltb n v (omega (arith, h, g)))) tt
rising_snoc n b v (i ∷ l) r a h g = both (ltb n i) (rising i (l ++ (v ∷ []))) (and_l (ltb n i) (rising i l) r)
    (rising_snoc i b v l (and_r (ltb n i) (rising i l) r) a.1 a.0 g)

pub count_first : (n : ℕ) (l k : List ℕ) → count n l ≤ count n (l ++ k)
count_first n [] k = omega arith
count_first n (i ∷ l) k = omega (arith, count_first n l k)

-- ---- how often

pub often_first : (seen : ℕ → ℕ) (j : ℕ) (l k : List Took) → often seen j l ≤ often seen j (l ++ k)
often_first seen j [] k = omega arith
often_first seen j (t ∷ l) k = omega (arith, often_first seen j l k)

part_mono : (b : Bool) (k l : ℕ) → k ≤ l → cond b k 0 ≤ cond b l 0
part_mono true k l h = h
part_mono false k l h = omega arith

pub often_mono : (seen more : ℕ → ℕ) (j : ℕ) (l : List Took) → ((n : ℕ) → seen n ≤ more n) → often seen j l ≤ often more j l
often_mono seen more j [] h = omega arith
often_mono seen more j (t ∷ l) h = omega
    (arith, part_mono (eqb t.job j) (seen t.no) (more t.no) (h t.no), often_mono seen more j l h)

-- a job that is in the history with number v was shown where v was
pub often_in : (seen : ℕ → ℕ) (v j : ℕ) (l : List Took) → 1 ≤ seen v → 1 ≤ in_no v j l → 1 ≤ often seen j l
often_in seen v j [] h p = p
often_in seen v j (t ∷ l) h p = go (often_in seen v j l h) (eqb t.job j) refl (eqb t.no v) refl
  where
    go : (1 ≤ in_no v j l → 1 ≤ often seen j l) → (a : Bool) → eqb t.job j ≡ a → (b : Bool) → eqb t.no v ≡ b
        → 1 ≤ cond (eqb t.job j) (seen t.no) 0 + often seen j l
    go i true e true f =
        let q : 1 ≤ seen t.no = subst (λ (n : ℕ). 1 ≤ seen n) (sym (eqb-true t.no v f)) h in
        omega (arith, q, ap (λ (b : Bool). cond b (seen t.no) 0) e)
    go i true e false f =
        let z : one (eqb t.job j && eqb t.no v) ≡ 0 = ap (λ (b : Bool). one (b && eqb t.no v)) e ∙ ap one f in
        omega (arith, i (omega (arith, p, z)))
    go i false e b f = omega (arith, i (omega (arith, p, ap (λ (x : Bool). one (x && eqb t.no v)) e)))

-- a job that is not in the history
none_in : (j v : ℕ) (l : List Took) → in_no v j l ≤ count j (jobs_of l)
none_in j v [] = omega arith
none_in j v (t ∷ l) = omega (arith, part (eqb t.job j) (eqb t.no v), none_in j v l)
  where
    part : (a b : Bool) → one (a && b) ≤ one a
    part true true = omega arith
    part true false = omega arith
    part false b = omega arith

none_of : (j : ℕ) (l : List Took) (P : ℕ → Type 0) → count j (jobs_of l) ≡ 0 → All (λ (t : Took). eqb t.job j ≡ true → P t.no) l
none_of j [] P h = tt
none_of j (t ∷ l) P h = ((λ (e : eqb t.job j ≡ true). absurd (omega (arith, h, ap one e))), none_of j l P (omega (arith, h)))

-- it is there once, with number v
pub only_one : (j v : ℕ) (l : List Took) (P : ℕ → Type 0) → count j (jobs_of l) ≤ 1 → 1 ≤ in_no v j l → P v
    → All (λ (t : Took). eqb t.job j ≡ true → P t.no) l
only_one j v [] P m h p = tt
only_one j v (t ∷ l) P m h p = go (λ (a : count j (jobs_of l) ≤ 1) (b : 1 ≤ in_no v j l). only_one j v l P a b p) (eqb t.job j) refl
  where
    number : count j (jobs_of l) ≡ 0 → (b : Bool) → eqb t.no v ≡ b → P t.no
    number z true f = subst P (sym (eqb-true t.no v f)) p
    number z false f = absurd (omega (arith, h, z, none_in j v l, ap (λ (b : Bool). one (eqb t.job j && b)) f, none (eqb t.job j)))
      where
        none : (b : Bool) → one (b && false) ≡ 0
        none true = refl
        none false = refl

    go : (count j (jobs_of l) ≤ 1 → 1 ≤ in_no v j l → All (λ (t : Took). eqb t.job j ≡ true → P t.no) l)
        → (b : Bool) → eqb t.job j ≡ b
        → (eqb t.job j ≡ true → P t.no) × All (λ (t : Took). eqb t.job j ≡ true → P t.no) l
    go i true e =
        let z : count j (jobs_of l) ≡ 0 = omega (arith, m, ap one e) in
        ((λ (q : eqb t.job j ≡ true). number z (eqb t.no v) refl), none_of j l P z)
    go i false e = (
      (λ (q : eqb t.job j ≡ true). clash (sym q ∙ e)),
      i (omega (arith, m))
          (omega (arith, h, ap (λ (x : Bool). one (x && eqb t.no v)) e)),
    )

pub often_zero : (seen : ℕ → ℕ) (j : ℕ) (l : List Took)
    → All (λ (t : Took). eqb t.job j ≡ true → seen t.no ≡ 0) l → often seen j l ≡ 0
often_zero seen j [] h = refl
often_zero seen j (t ∷ l) h = omega (arith, part (eqb t.job j) refl, often_zero seen j l h.1)
  where
    part : (b : Bool) → eqb t.job j ≡ b → cond (eqb t.job j) (seen t.no) 0 ≡ 0
    part true e = ap (λ (b : Bool). cond b (seen t.no) 0) e ∙ h.0 e
    part false e = ap (λ (b : Bool). cond b (seen t.no) 0) e

pub often_most : (seen : ℕ → ℕ) (j : ℕ) (l : List Took) → count j (jobs_of l) ≤ 1 → ((n : ℕ) → seen n ≤ 1) → often seen j l ≤ 1
often_most seen j [] m h = omega arith
often_most seen j (t ∷ l) m h = go (λ (a : count j (jobs_of l) ≤ 1). often_most seen j l a h) (eqb t.job j) refl
  where
    go : (count j (jobs_of l) ≤ 1 → often seen j l ≤ 1) → (b : Bool) → eqb t.job j ≡ b
        → cond (eqb t.job j) (seen t.no) 0 + often seen j l ≤ 1
    go i true e =
        let z : often seen j l ≡ 0 = often_zero seen j l (none_of j l (λ (n : ℕ). seen n ≡ 0) (omega (arith, m, ap one e))) in
        omega (arith, z, h t.no, ap (λ (b : Bool). cond b (seen t.no) 0) e)
    go i false e = omega (arith, ap (λ (b : Bool). cond b (seen t.no) 0) e, i (omega (arith, m)))

-- who is told as ended is told
pub ended_fates : (j : ℕ) (l : List Notice) → says_ended j l ≤ fates j l
ended_fates j [] = omega arith
ended_fates j (n ∷ l) = omega (arith, part (eqb n.job j) (is_ended n.fate), ended_fates j l)
  where
    part : (a b : Bool) → one (a && b) ≤ one a
    part true true = omega arith
    part true false = omega arith
    part false b = omega arith
