-- Jobs of a block counted.
-- Assumes nothing.
use mathlib.Core.Path.{◌≡◌, refl, ap, sym, ◌∙◌}
use mathlib.Core.Bool.{Bool, true, false, cond}
use mathlib.Core.List.{List, [], ◌∷◌, ◌++◌, map}
use Prim.Native.Nat.{ℕ, ◌+◌, ◌-◌, ◌≤◌, ◌<◌, min}
use native.Mathlib.Omega.{arith}
use lib.Dec.{ltb, eqb}
use lib.ListN.{length, get_or, take, set}
use lib.Seq.{get_or-take, length-take-le, set-get_or}
use borrow.Author.Tests.{eq-eqb, ne_eqb, lt-ltb, le-ltb, ltb-true, ltb-false}
use Rattle.envelope.specs.Envelopes.{envelope_at}
use Rattle.envelope.specs.Strings.{Walk}
use Rattle.envelope.specs.declared.EnvelopeRefusal.{EnvelopeRefusal}
use Rattle.envelope.specs.declared.Envelope.{Envelope}
use Rattle.envelope.proofs.Numbers.{AllBytes}
use Rattle.recordings.specs.Jobs.{times}
use Rattle.recordings.specs.Blocks.{Above, more, Rising, next, Block, below, bump, tallied, tallied_all}
use Rattle.recordings.specs.Recordings.{jobs}
use Rattle.recordings.proofs.Walks.{from_end, from_read, from_refused}
use Rattle.recordings.proofs.Rising.{Order, less, same, above, order, below_none, below_more, above_lower}
use Rattle.recordings.proofs.Placing.{full_last, full_none}
use Rattle.recordings.proofs.Gathers.{jobs_from, jobs_start}
use Rattle.std.specs.Prelude.{Err, Ok, Result}

-- ---- the clauses

tallied_nil : (x : ℕ) (ts : List ℕ) → tallied x [] ts ≡ ts
unfolding tallied
tallied_nil x ts = refl

tallied_short : (x y : ℕ) (ys : List ℕ) → tallied x (y ∷ ys) [] ≡ []
unfolding tallied
tallied_short x y ys = refl

tallied_here : (x y t : ℕ) (ys ts : List ℕ) → x ≡ y → tallied x (y ∷ ys) (t ∷ ts) ≡ bump t ∷ ts
unfolding tallied
tallied_here x y t ys ts e = rw (eq-eqb x y e)

tallied_later : (x y t : ℕ) (ys ts : List ℕ) → (x ≡ y → ⊥) → tallied x (y ∷ ys) (t ∷ ts) ≡ t ∷ tallied x ys ts
unfolding tallied
tallied_later x y t ys ts e = rw (ne_eqb x y e)

-- ---- a job that does not stand there

tallied_above : (x : ℕ) (l ts : List ℕ) → Above x l → tallied x l ts ≡ ts
tallied_above x [] ts a = tallied_nil x ts
tallied_above x (y ∷ ys) [] a = tallied_short x y ys
tallied_above x (y ∷ ys) (t ∷ ts) (more h a) = tallied_later x y t ys ts (λ (e : x ≡ y). absurd (omega arith)) ∙ ap
    (λ (l : List ℕ). t ∷ l) (tallied_above x ys ts a)

tallied_none : (x : ℕ) (l ts : List ℕ) → below x l ≡ length l → tallied x l ts ≡ ts
tallied_none x [] ts e = tallied_nil x ts
tallied_none x (y ∷ ys) [] e = tallied_short x y ys
tallied_none x (y ∷ ys) (t ∷ ts) e = by (order x y) (λ (g : below x ys ≡ length ys). tallied_none x ys ts g)
  where
    by : Order x y → (below x ys ≡ length ys → tallied x ys ts ≡ ts) → tallied x (y ∷ ys) (t ∷ ts) ≡ t ∷ ts
    by (less k) i = let b = below_none x y ys (omega arith) in absurd (omega arith)
    by (same k) i = let b = below_none x y ys (omega arith) in absurd (omega arith)
    by (above k) i = let b = below_more x y ys k in tallied_later x y t ys ts (λ (g : x ≡ y). absurd (omega arith)) ∙
        ap (λ (l : List ℕ). t ∷ l) (i (omega arith))

tallied_miss : (x : ℕ) (l ts : List ℕ) → Rising l → below x l < length l → (get_or l (below x l) 0 ≡ x → ⊥) → tallied x l ts ≡ ts
tallied_miss x [] ts r h n = absurd (omega arith)
tallied_miss x (y ∷ ys) [] r h n = tallied_short x y ys
tallied_miss x (y ∷ ys) (t ∷ ts) (next a r) h n = by (order x y)
    (λ (g : below x ys < length ys) (m : (get_or ys (below x ys) 0 ≡ x → ⊥)). tallied_miss x ys ts r g m)
  where
    by : Order x y → (below x ys < length ys → (get_or ys (below x ys) 0 ≡ x → ⊥) → tallied x ys ts ≡ ts)
        → tallied x (y ∷ ys) (t ∷ ts) ≡ t ∷ ts
    by (less k) i = tallied_later x y t ys ts (λ (g : x ≡ y). absurd (omega arith)) ∙ ap (λ (l : List ℕ). t ∷ l)
        (tallied_above x ys ts (above_lower x y ys k a))
    by (same k) i =
        let b = below_none x y ys (omega arith) in
        let g : (y ≡ x → ⊥) = rw b at n in
        absurd (g (sym k))
    by (above k) i =
        let b = below_more x y ys k in
        let g : (get_or ys (below x ys) 0 ≡ x → ⊥) = rw b at n in
        tallied_later x y t ys ts (λ (e : x ≡ y). absurd (omega arith)) ∙ ap (λ (l : List ℕ). t ∷ l) (i (omega arith) g)

-- ---- a job that does

tallied_hit : (x : ℕ) (l ts : List ℕ) → below x l < length l → get_or l (below x l) 0 ≡ x → length l ≤ length ts
    → tallied x l ts ≡ set ts (below x l) (bump (get_or ts (below x l) 0))
tallied_hit x [] ts h e g = absurd (omega arith)
tallied_hit x (y ∷ ys) [] h e g = absurd (omega arith)
tallied_hit x (y ∷ ys) (t ∷ ts) h e g = by (order x y) (λ (a : below x ys < length ys) (b : get_or ys (below x ys) 0 ≡ x)
    (c : length ys ≤ length ts). tallied_hit x ys ts a b c)
  where
    by : Order x y
        → (below x ys < length ys → get_or ys (below x ys) 0 ≡ x → length ys ≤ length ts → tallied x ys ts ≡ set ts (below x ys) (bump (get_or ts (below x ys) 0)))
        → tallied x (y ∷ ys) (t ∷ ts) ≡ set (t ∷ ts) (below x (y ∷ ys)) (bump (get_or (t ∷ ts) (below x (y ∷ ys)) 0))
    by (less k) i =
        let b = below_none x y ys (omega arith) in
        let w : y ≡ x = rw b at e in
        absurd (omega arith)
    by (same k) i = rw (below_none x y ys (omega arith)) (tallied_here x y t ys ts k)
    by (above k) i =
        let b = below_more x y ys k in
        let w : get_or ys (below x ys) 0 ≡ x = rw b at e in
        rw b (tallied_later x y t ys ts (λ (q : x ≡ y). absurd (omega arith)) ∙ ap (λ (l : List ℕ). t ∷ l)
        (i (omega arith) w (omega arith)))

-- ---- tally_one, one law for each way out of it

first_length : (b : List ℕ) (n : ℕ) → Block n b → length (take n b) ≡ n
first_length b n k = length-take-le n b k.within

pub one_empty : (b ts : List ℕ) (n x : ℕ) → n ≡ 0 → ts ≡ tallied x (take n b) ts
one_empty b ts n x e = rw e (sym (tallied_nil x ts))

pub one_last : (b ts : List ℕ) (n x : ℕ) → Block n b → (n ≡ 0 → ⊥) → get_or b (n - 1) 0 < x → ts ≡ tallied x (take n b) ts
one_last b ts n x k h g = sym (tallied_none x (take n b) ts (full_last b n x k h g ∙ sym (first_length b n k)))

pub one_none : (b ts : List ℕ) (n i x : ℕ) → Block n b → i ≡ below x (take n b) → n ≤ i → ts ≡ tallied x (take n b) ts
one_none b ts n i x k e h = sym (tallied_none x (take n b) ts (full_none b n i x k e h ∙ sym (first_length b n k)))

pub one_miss : (b ts : List ℕ) (n i x : ℕ) → Block n b → i ≡ below x (take n b) → i < n → (get_or b i 0 ≡ x → ⊥)
    → ts ≡ tallied x (take n b) ts
one_miss b ts n i x k e h m =
    let l = first_length b n k in
    let w : (get_or (take n b) (below x (take n b)) 0 ≡ x → ⊥) = rw (sym e)
    (λ (q : get_or (take n b) i 0 ≡ x). m (sym (get_or-take n b i 0 h) ∙ q)) in
    sym (tallied_miss x (take n b) ts k.rises (omega arith) w)

hit : (b ts : List ℕ) (n i x : ℕ) → Block n b → n ≤ length ts → i ≡ below x (take n b) → i < n → get_or b i 0 ≡ x
    → tallied x (take n b) ts ≡ set ts i (bump (get_or ts i 0))
hit b ts n i x k l e h m =
    let f = first_length b n k in
    let w : get_or (take n b) (below x (take n b)) 0 ≡ x = rw (sym e) (get_or-take n b i 0 h ∙ m) in
    rw e (tallied_hit x (take n b) ts (omega arith) w (omega arith))

pub one_most : (b ts : List ℕ) (n i x : ℕ) → Block n b → n ≤ length ts → i ≡ below x (take n b) → i < n → get_or b i 0 ≡ x
    → 2 ≤ get_or ts i 0 → ts ≡ tallied x (take n b) ts
one_most b ts n i x k l e h m g =
    let p : set ts i (bump (get_or ts i 0)) ≡ set ts i (get_or ts i 0) = rw (le-ltb (get_or ts i 0) 2 g) in
    sym (hit b ts n i x k l e h m ∙ (p ∙ set-get_or ts i 0))

pub one_more : (b ts : List ℕ) (n i x : ℕ) → Block n b → n ≤ length ts → i ≡ below x (take n b) → i < n → get_or b i 0 ≡ x
    → get_or ts i 0 < 2 → set ts i (get_or ts i 0 + 1) ≡ tallied x (take n b) ts
one_more b ts n i x k l e h m g =
    let p : set ts i (bump (get_or ts i 0)) ≡ set ts i (get_or ts i 0 + 1) = rw (lt-ltb (get_or ts i 0) 2 g) in
    sym (hit b ts n i x k l e h m ∙ p)

-- ---- the loop

all_nil : (l ts : List ℕ) → tallied_all [] l ts ≡ ts
unfolding tallied_all
all_nil l ts = refl

all_cons : (x : ℕ) (xs l ts : List ℕ) → tallied_all (x ∷ xs) l ts ≡ tallied_all xs l (tallied x l ts)
unfolding tallied_all
all_cons x xs l ts = refl

pub tally_start : (limit : ℕ) (s l ts : List ℕ) → tallied_all (jobs_from limit s 0) l ts ≡ tallied_all (jobs limit s) l ts
tally_start limit s l ts = ap (λ (js : List ℕ). tallied_all js l ts) (jobs_start limit s)

pub tally_more : (limit : ℕ) (s : List ℕ) (at : ℕ) (x : Result Envelope EnvelopeRefusal) (e : Envelope) (l ts us z : List ℕ) → AllBytes s
    → at < length s → x ≡ envelope_at limit s at → x ≡ Ok e → us ≡ tallied e.job l ts
    → tallied_all (jobs_from limit s at) l ts ≡ z → tallied_all (jobs_from limit s e.next) l us ≡ z
tally_more limit s at x e l ts us z b h p q i g =
    let w : jobs_from limit s at ≡ e.job ∷ jobs_from limit s e.next = ap
    (λ (w : Walk). map (λ (e : Envelope). e.job) w.envelopes) (from_read limit s at x e b h p q) in
    rw i (sym (all_cons e.job (jobs_from limit s e.next) l ts) ∙ (rw w at g))

pub tally_out : (limit : ℕ) (s : List ℕ) (at : ℕ) (l ts z : List ℕ) → length s ≤ at → tallied_all (jobs_from limit s at) l ts ≡ z → ts ≡ z
tally_out limit s at l ts z h g =
    let w : jobs_from limit s at ≡ [] = ap (λ (w : Walk). map (λ (e : Envelope). e.job) w.envelopes) (from_end limit s at h) in
    sym (all_nil l ts) ∙ (rw w at g)

pub tally_stop : (limit : ℕ) (s : List ℕ) (at : ℕ) (x : Result Envelope EnvelopeRefusal) (r : EnvelopeRefusal) (l ts z : List ℕ)
    → at < length s → x ≡ envelope_at limit s at → x ≡ Err r → tallied_all (jobs_from limit s at) l ts ≡ z → ts ≡ z
tally_stop limit s at x r l ts z h p q g =
    let w : jobs_from limit s at ≡ [] = ap (λ (w : Walk). map (λ (e : Envelope). e.job) w.envelopes)
    (from_refused limit s at x r h p q) in
    sym (all_nil l ts) ∙ (rw w at g)

-- ---- what is tallied: how often each job of the block stands in the recording, two at most

-- a tally after a list of jobs
unfoldable pub counted : ℕ → List ℕ → ℕ → ℕ
counted y [] c = c
counted y (x ∷ xs) c = counted y xs (cond (eqb x y) (bump c) c)

counted_nil : (y c : ℕ) → counted y [] c ≡ c
unfolding counted
counted_nil y c = refl

counted_cons : (y x : ℕ) (xs : List ℕ) (c : ℕ) → counted y (x ∷ xs) c ≡ counted y xs (cond (eqb x y) (bump c) c)
unfolding counted
counted_cons y x xs c = refl

-- a job above which all of a list are is counted nowhere in it
map_above : (x : ℕ) (f : ℕ → ℕ) (l : List ℕ) → Above x l → map (λ (y : ℕ). cond (eqb x y) (bump (f y)) (f y)) l ≡ map f l
map_above x f [] a = refl
map_above x f (y ∷ ys) (more h a) = rw (ne_eqb x y (λ (e : x ≡ y). absurd (omega arith)), map_above x f ys a)

tallied_map : (x : ℕ) (f : ℕ → ℕ) (l r : List ℕ) → Rising l
    → tallied x l (map f l ++ r) ≡ map (λ (y : ℕ). cond (eqb x y) (bump (f y)) (f y)) l ++ r
tallied_map x f [] r s = tallied_nil x r
tallied_map x f (y ∷ ys) r (next a s) = by (order x y) (tallied_map x f ys r s)
  where
    later : (x ≡ y → ⊥) → tallied x ys (map f ys ++ r) ≡ map (λ (z : ℕ). cond (eqb x z) (bump (f z)) (f z)) ys ++ r
        → tallied x (y ∷ ys) (f y ∷ (map f ys ++ r)) ≡ cond (eqb x y) (bump (f y)) (f y) ∷ (map (λ (z : ℕ). cond (eqb x z) (bump (f z)) (f z)) ys ++ r)
    later n i = rw (ne_eqb x y n) (tallied_later x y (f y) ys (map f ys ++ r) n ∙ ap (λ (l : List ℕ). f y ∷ l) i)

    by : Order x y → tallied x ys (map f ys ++ r) ≡ map (λ (z : ℕ). cond (eqb x z) (bump (f z)) (f z)) ys ++ r
        → tallied x (y ∷ ys) (f y ∷ (map f ys ++ r)) ≡ cond (eqb x y) (bump (f y)) (f y) ∷ (map (λ (z : ℕ). cond (eqb x z) (bump (f z)) (f z)) ys ++ r)
    by (less k) i = later (λ (e : x ≡ y). absurd (omega arith)) i
    by (same k) i = rw (eq-eqb x y k, map_above x f ys (rw (sym k) at a)) (tallied_here x y (f y) ys (map f ys ++ r) k)
    by (above k) i = later (λ (e : x ≡ y). absurd (omega arith)) i

all_map : (xs : List ℕ) (f : ℕ → ℕ) (l r : List ℕ) → Rising l → tallied_all xs l (map f l ++ r) ≡ map (λ (y : ℕ). counted y xs (f y)) l ++ r
all_map [] f l r s = all_nil l (map f l ++ r) ∙ ap (λ (m : List ℕ). m ++ r) (same_map l)
  where
    same_map : (l : List ℕ) → map f l ≡ map (λ (y : ℕ). counted y [] (f y)) l
    same_map [] = refl
    same_map (y ∷ ys) = rw (counted_nil y (f y)) (ap (λ (m : List ℕ). f y ∷ m) (same_map ys))
all_map (x ∷ xs) f l r s =
    all_cons x xs l (map f l ++ r) ∙ (ap (λ (m : List ℕ). tallied_all xs l m) (tallied_map x f l r s) ∙ (all_map xs
    (λ (y : ℕ). cond (eqb x y) (bump (f y)) (f y)) l r s ∙ ap (λ (m : List ℕ). m ++ r) (same_map l)))
  where
    same_map : (l : List ℕ)
        → map (λ (y : ℕ). counted y xs (cond (eqb x y) (bump (f y)) (f y))) l ≡ map (λ (y : ℕ). counted y (x ∷ xs) (f y)) l
    same_map [] = refl
    same_map (y ∷ ys) = rw (counted_cons y x xs (f y))
        (ap (λ (m : List ℕ). counted y xs (cond (eqb x y) (bump (f y)) (f y)) ∷ m) (same_map ys))

-- a count up to two
counted_is : (y : ℕ) (xs : List ℕ) (c : ℕ) → c ≤ 2 → counted y xs c ≡ min 2 (c + times y xs)
unfolding times
counted_is y [] c h = counted_nil y c ∙ omega arith
counted_is y (x ∷ xs) c h = counted_cons y x xs c ∙ by (order x y) (λ (d : ℕ) (g : d ≤ 2). counted_is y xs d g)
  where
    on : (d : ℕ) → d ≡ bump c → d ≤ 2 → ((e : ℕ) → e ≤ 2 → counted y xs e ≡ min 2 (e + times y xs))
        → min 2 (d + times y xs) ≡ min 2 (c + (1 + times y xs)) → counted y xs d ≡ min 2 (c + (1 + times y xs))
    on d e g i k = i d g ∙ k

    by : Order x y → ((d : ℕ) → d ≤ 2 → counted y xs d ≡ min 2 (d + times y xs))
        → counted y xs (cond (eqb x y) (bump c) c) ≡ min 2 (c + (cond (eqb y x) 1 0 + times y xs))
    by (less k) i = rw
        (ne_eqb x y (λ (e : x ≡ y). absurd (omega arith)), ne_eqb y x (λ (e : y ≡ x). absurd (omega arith)))
        (i c h ∙ omega arith)
    by (above k) i = rw
        (ne_eqb x y (λ (e : x ≡ y). absurd (omega arith)), ne_eqb y x (λ (e : y ≡ x). absurd (omega arith)))
        (i c h ∙ omega arith)
    by (same k) i = rw (eq-eqb x y k, eq-eqb y x (sym k)) (two (ltb c 2) refl)
      where
        two : (t : Bool) → ltb c 2 ≡ t → counted y xs (cond (ltb c 2) (c + 1) c) ≡ min 2 (c + (1 + times y xs))
        two true e = let g = ltb-true c 2 e in rw e (i (c + 1) (omega arith) ∙ omega arith)
        two false e = let g = ltb-false c 2 e in rw e (i c h ∙ omega arith)

-- the tallies of a block, from zeros: how often each of its jobs stands in the recording, two at most
pub tallies_are : (js l r : List ℕ) → Rising l → tallied_all js l (map (λ (y : ℕ). 0) l ++ r) ≡ map (λ (y : ℕ). min 2 (times y js)) l ++ r
tallies_are js l r s = all_map js (λ (y : ℕ). 0) l r s ∙ ap (λ (m : List ℕ). m ++ r) (each l)
  where
    each : (l : List ℕ) → map (λ (y : ℕ). counted y js 0) l ≡ map (λ (y : ℕ). min 2 (times y js)) l
    each [] = refl
    each (y ∷ ys) =
        let e : counted y js 0 ≡ min 2 (times y js) = counted_is y js 0 (omega arith) ∙ omega arith in
        rw e (ap (λ (m : List ℕ). min 2 (times y js) ∷ m) (each ys))

pub tally_from : (a l c x z : List ℕ) → x ≡ tallied_all a l c → c ≡ z → x ≡ tallied_all a l z
tally_from a l c x z p q = p ∙ ap (λ (m : List ℕ). tallied_all a l m) q
