-- From the law of one event to what is claimed of a history: any entries, of which each keeps the law, are a history that is told once.
-- Assumes nothing.
use mathlib.Core.Path.{◌≡◌, refl, ap, sym, subst, ◌∙◌}
use mathlib.Core.Bool.{Bool, true, false, ◌&&◌, ◌||◌}
use mathlib.Core.List.{List, [], ◌∷◌, ◌++◌}
use Prim.Native.Nat.{◌+◌, ◌≤◌}
use native.Mathlib.Omega.{arith}
use lib.Dec.{T}
use Rattle.control.specs.declared.Side.{Side}
use Rattle.told.specs.Lists.{periods, ends}
use Rattle.told.specs.Histories.{Entry, activation, closing, closing_call, abort_indication, one, activations, closings, ToldOnce}

-- ---- the law of one event, for a user who is active before (p) and after (q)

pub record Lawful (sd : Side) (p : Bool) (x : Entry) (q : Bool) : Type 0 where
  pub count : one p + one (activation sd x) ≡ one (closing sd x) + one q
  pub apart : (activation sd x && closing sd x) ≡ false
  pub inactive : p ≡ false → abort_indication x ≡ false
  pub silent : closing_call sd x ≡ true → abort_indication x ≡ false

-- a refused event is none of what is counted, and keeps the law
pub refused_uncounted : (sd : Side) (x : Entry) → x.taken ≡ false
    → (activation sd x ≡ false) × (closing sd x ≡ false) × (closing_call sd x ≡ false) × (abort_indication x ≡ false)
refused_uncounted sd x n = (rw n, rw n, rw n, rw n)

pub refused_law : (sd : Side) (p : Bool) (x : Entry) → x.taken ≡ false → Lawful sd p x p
refused_law sd p x n = record { count = rw n (go p); apart = rw n; inactive = λ m. rw n; silent = λ m. rw n }
  where
    go : (b : Bool) → one b + 0 ≡ 0 + one b
    go true = refl
    go false = refl

-- ---- entries that keep it one after the other, from a user who is active or not (p) to one who is or not (q)

pub record Link (sd : Side) (p : Bool) (x : Entry) (Rest : Bool → Type 0) : Type 0 where
  pub after : Bool
  pub law : Lawful sd p x after
  pub rest : Rest after

abbrev pub Chain : Side → Bool → List Entry → Bool → Type 0
Chain sd p [] q = p ≡ q
Chain sd p (x ∷ l) q = Link sd p x (λ (m : Bool). Chain sd m l q)

-- cut anywhere: what its first part counts
record Cut (sd : Side) (p : Bool) (xs ys : List Entry) (q : Bool) : Type 0 where
  after : Bool
  count : one p + activations sd xs ≡ closings sd xs + one after
  rest : Chain sd after ys q

cut : (sd : Side) (xs ys : List Entry) (p q : Bool) → Chain sd p (xs ++ ys) q → Cut sd p xs ys q
unfolding activations closings
cut sd [] ys p q c = record { after = p; count = omega arith; rest = c }
cut sd (x ∷ xs) ys p q c =
    let b = cut sd xs ys c.after q c.rest in
    record { after = b.after; count = omega (arith, c.law.count, b.count); rest = b.rest }

-- the whole of it
count_all : (sd : Side) (p q : Bool) (l : List Entry) → Chain sd p l q → one p + activations sd l ≡ closings sd l + one q
unfolding activations closings
count_all sd p q [] c = omega (arith, ap one c)
count_all sd p q (x ∷ l) c = omega (arith, c.law.count, count_all sd c.after q l c.rest)

-- ---- the claims

one_true : (b : Bool) → b ≡ true → one b ≡ 1
one_true b e = ap one e

is_one : (b : Bool) → one b ≡ 0 → b ≡ false
is_one true e = absurd (omega (arith, e))
is_one false e = refl

at_most : (b : Bool) → one b ≤ 1
at_most true = omega arith
at_most false = omega arith

apart_one : (a b : Bool) → (a && b) ≡ false → a ≡ true → one b ≡ 0
apart_one a b e t = ap one (sym (ap (λ (z : Bool). z && b) t) ∙ e)

apart_other : (a b : Bool) → (a && b) ≡ false → b ≡ true → one a ≡ 0
apart_other true b e t = absurd (subst T (sym t ∙ e) tt)
apart_other false b e t = refl

-- a closing by a call is a closing
call_closes : (sd : Side) (x : Entry) → closing_call sd x ≡ true → closing sd x ≡ true
call_closes sd x p = more x.taken (ends (periods sd) x.invocation) (ends (periods sd) x.receipt) p
  where
    more : (a b c : Bool) → (a && b) ≡ true → (a && (b || c)) ≡ true
    more true true c e = refl
    more true false c e = absurd (subst T (sym e) tt)
    more false b c e = e

module _ (sd : Side) (p q : Bool) (l : List Entry) (h : Chain sd p l q) where
  -- the part before an entry; what comes from the entry on is the rest of it
  at : (xs ys : List Entry) → l ≡ xs ++ ys → Cut sd p xs ys q
  at xs ys e = cut sd xs ys p q (subst (λ (z : List Entry). Chain sd p z q) e h)

  between_two : (xs zs ys : List Entry) (x y : Entry) → l ≡ xs ++ (x ∷ (zs ++ (y ∷ ys))) → activation sd x ≡ true
      → activation sd y ≡ true → activations sd zs ≡ 0 → closings sd zs ≡ 1
  between_two xs zs ys x y e s t n =
      let a = at xs (x ∷ (zs ++ (y ∷ ys))) e in
      let b = cut sd zs (y ∷ ys) a.rest.after q a.rest.rest in
      let i = a.rest.law in
      let j = b.rest.law in
      omega (
        arith,
        i.count,
        b.count,
        j.count,
        one_true _ s,
        one_true _ t,
        apart_one _ _ i.apart s,
        apart_one _ _
            j.apart t,
        n,
        at_most a.after,
        at_most a.rest.after,
        at_most b.after,
        at_most
            b.rest.after,
      )

  untold_after : (xs zs ys : List Entry) (x y : Entry) → l ≡ xs ++ (x ∷ (zs ++ (y ∷ ys))) → closing_call sd x ≡ true
      → activations sd zs ≡ 0 → abort_indication y ≡ false
  untold_after xs zs ys x y e s n =
      let a = at xs (x ∷ (zs ++ (y ∷ ys))) e in
      let b = cut sd zs (y ∷ ys) a.rest.after q a.rest.rest in
      let i = a.rest.law in
      let k = call_closes sd x s in
      b.rest.law.inactive (is_one b.after (omega (
        arith,
        i.count,
        b.count,
        one_true (closing sd x) k,
        apart_other (activation sd x) (closing sd x) i.apart k,
        n,
        at_most a.after,
      )))

-- from a user who is not active
pub chain_told_once : (sd : Side) (q : Bool) (l : List Entry) → Chain sd false l q → ToldOnce sd q l
chain_told_once sd q l h =
    record {
      counted = omega (arith, count_all sd false q l h);
      between = between_two sd false q l h;
      apart = λ (xs ys : List Entry) (x : Entry) (e : l ≡ xs ++ (x ∷ ys)). (at sd false q l h xs (x ∷ ys) e).rest.law.apart;
      untold = untold_after sd false q l h;
      silent = λ (xs ys : List Entry) (x : Entry) (e : l ≡ xs ++ (x ∷ ys)). (at sd false q l h xs (x ∷ ys) e).rest.law.silent;
    }
