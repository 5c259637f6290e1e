-- Runs against changed rules: the claims as a test, and runs on which it is computed after every step. Each run is one on which a changed rule of the
-- carrier makes a claim false; with the rules as they are none is. (The modules are checked in the order of their names. So a changed rule is
-- refused here, by the claims, before it is refused at the laws that restate it.)
-- Assumes nothing.
use mathlib.Core.Path.{◌≡◌, refl, subst}
use mathlib.Core.Bool.{Bool, true, false, not, ◌&&◌, ◌||◌}
use mathlib.Core.List.{List, [], ◌∷◌, ◌++◌}
use Prim.Native.Nat.{ℕ}
use borrow.Author.Tests.{eq-eqb}
use lib.Dec.{T, eqb}
use Rattle.pair.specs.Names.{Side, Air, Ground, Accepted, Call, StartRequest, StartResponse, MessageRequest, EndRequest, EndResponse, UserAbort}
use Rattle.pair.specs.Carrier.{Body, Machine, Step, user_call, hand_over, turn_away, fail, Turn}
use Rattle.pair.proofs.OneDialogue.{Sys, is_nil, turned, Claims}
use Rattle.pair.specs.Claims.{matching, Prefix, rising}
use Rattle.pair.proofs.ControlMachine.{Ask, ask, control, both_idle}
use Rattle.pair.proofs.Finite.{and_l, and_r, both, no_T, is_t, T_is}

-- ---- the test

abbrev same : Body → Body → Bool
same [] [] = true
same [] (y ∷ ys) = false
same (x ∷ xs) [] = false
same (x ∷ xs) (y ∷ ys) = eqb x y && same xs ys

-- xs is the beginning of ys
abbrev is_prefix : List Body → List Body → Bool
is_prefix [] ys = true
is_prefix (x ∷ xs) [] = false
is_prefix (x ∷ xs) (y ∷ ys) = same x y && is_prefix xs ys

abbrev unless : Bool → ℕ → List ℕ → List ℕ
unless true n l = l
unless false n l = n ∷ l

-- each claim of a system, in their order
module _ (m : Machine) (i j : ℕ) (s : Sys m) where
  abbrev at_rest : Bool
  at_rest = is_nil s.here.line && is_nil s.there.line

  abbrev match? : Bool
  match? = not at_rest || matching (m.ctl s.here.rec) (m.ctl s.there.rec)

  abbrev in_order? : Bool
  in_order? = is_prefix s.there.handed s.here.taken && is_prefix s.here.handed s.there.taken

  -- with `in_order?`: a beginning the other way round too
  abbrev whole : Bool
  whole = is_prefix s.here.taken s.there.handed && is_prefix s.there.taken s.here.handed

  abbrev all? : Bool
  all? = not (at_rest && not s.broken) || whole

  abbrev rise? : Bool
  rise? = rising i s.here.jobs && rising j s.there.jobs

  -- the numbers of the claims that are false
  abbrev pub false_claims : List ℕ
  false_claims = unless match? 1 (unless in_order? 2 (unless all? 3 (unless rise? 4 [])))

-- ---- where the claims hold, the test finds none false: so a number that it gives is that of a claim that does not hold

same_self : (x : Body) → T (same x x)
same_self [] = tt
same_self (n ∷ x) = both (eqb n n) (same x x) (T_is (eqb n n) (eq-eqb n n refl)) (same_self x)

prefix_more : (xs rest : List Body) → T (is_prefix xs (xs ++ rest))
prefix_more [] rest = tt
prefix_more (x ∷ xs) rest = both (same x x) (is_prefix xs (xs ++ rest)) (same_self x) (prefix_more xs rest)

is_prefix_is : (xs ys : List Body) → Prefix xs ys → T (is_prefix xs ys)
is_prefix_is xs ys h = subst (λ (l : List Body). T (is_prefix xs l)) h.joined (prefix_more xs h.rest)

prefix_self : (xs : List Body) → T (is_prefix xs xs)
prefix_self [] = tt
prefix_self (x ∷ xs) = both (same x x) (is_prefix xs xs) (same_self x) (prefix_self xs)

is_whole : (xs ys : List Body) → xs ≡ ys → T (is_prefix ys xs)
is_whole xs ys e = subst (λ (l : List Body). T (is_prefix l xs)) e (prefix_self xs)

is_nil_is : {X : Type 0} (l : List X) → T (is_nil l) → l ≡ []
is_nil_is [] t = refl
is_nil_is (x ∷ l) t = absurd t

if_then : (a b : Bool) → (T a → T b) → T (not a || b)
if_then true b f = f tt
if_then false b f = tt

module _ (m : Machine) (i j : ℕ) (s : Sys m) (c : Claims m i j s) where
  here_empty : T (at_rest m i j s) → s.here.line ≡ []
  here_empty t = is_nil_is s.here.line (and_l (is_nil s.here.line) (is_nil s.there.line) t)

  there_empty : T (at_rest m i j s) → s.there.line ≡ []
  there_empty t = is_nil_is s.there.line (and_r (is_nil s.here.line) (is_nil s.there.line) t)

  whole_given : T (at_rest m i j s && not s.broken) → T (whole m i j s)
  whole_given t =
      let r = and_l (at_rest m i j s) (not s.broken) t in
      let w = c.handed_all (here_empty r) (there_empty r) (no_T s.broken (and_r (at_rest m i j s) (not s.broken) t)) in
      both (is_prefix s.here.taken s.there.handed) (is_prefix s.there.taken s.here.handed)
      (is_whole s.there.handed s.here.taken w.0) (is_whole s.here.handed s.there.taken w.1)

  pub claims_tested : false_claims m i j s ≡ []
  claims_tested =
      rw (
        is_t (match? m i j s) (if_then (at_rest m i j s) (matching (m.ctl s.here.rec) (m.ctl s.there.rec))
            (λ (t : T (at_rest m i j s)). c.ends_match (here_empty t) (there_empty t))),
        is_t (is_prefix s.there.handed s.here.taken) (is_prefix_is s.there.handed s.here.taken c.handed_in_order.0),
        is_t (is_prefix s.here.handed s.there.taken) (is_prefix_is s.here.handed s.there.taken c.handed_in_order.1),
        is_t (all? m i j s) (if_then (at_rest m i j s && not s.broken) (whole m i j s) whole_given),
        is_t (rising i s.here.jobs) c.jobs_rise.0,
        is_t (rising j s.there.jobs) c.jobs_rise.1,
      )

-- ---- the runs

-- the claims that are false at the beginning or after a turn
abbrev false_on : Sys control → List (Turn Ask) → List ℕ
false_on s [] = false_claims control 0 0 s
false_on s (t ∷ ts) = false_claims control 0 0 s ++ false_on (turned control t.side s t.step) ts

abbrev turn : Side → Step Ask → Turn Ask
turn sd c = record { side = sd; step = c }

abbrev asks : Side → Call → Turn Ask
asks sd u = turn sd (user_call (ask u [] 0) 0)

abbrev says : Side → ℕ → Turn Ask
says sd j = turn sd (user_call (ask MessageRequest (j ∷ []) j) 0)

abbrev gets : Side → Turn Ask
gets sd = turn sd (hand_over 0)

-- a dialogue that the air started
abbrev opening : List (Turn Ask)
opening = asks Air (StartRequest false) ∷ gets Ground ∷ asks Ground (StartResponse false Accepted) ∷ gets Air ∷ []

-- two messages and an abort that loses one of them: lost the oldest, the second would be handed out without the first; lost the D-ABORT, the ground would stay
-- in DIALOGUE for ever; with the dialogue not broken, a message would be missing
abbrev aborted : List (Turn Ask)
aborted = opening ++ (says Air 1 ∷ says Air 2 ∷ turn Air (user_call (ask UserAbort [] 0) 1) ∷ gets Ground ∷ gets Ground ∷ [])

-- two messages, then the end: handed over youngest first, the second would come out before the first
abbrev ended : List (Turn Ask)
ended = opening ++ (says Ground 1 ∷ says Ground 2 ∷ gets Air ∷ gets Air ∷ asks Ground (EndRequest false) ∷ gets Air ∷
    says Air 1 ∷ asks Air (EndResponse false Accepted) ∷ gets Ground ∷ gets Ground ∷ [])

-- both abort at once, and the air asks for the next start before the aborts have arrived: the ground's old abort would end the new dialogue at the air, and the
-- ground would stay in it
abbrev early : List (Turn Ask)
early = opening ++ (asks Air UserAbort ∷ asks Ground UserAbort ∷ asks Air (StartRequest false) ∷ gets Ground ∷ gets
    Ground ∷ asks Ground (StartResponse false Accepted) ∷ gets Air ∷ gets Air ∷ [])

-- the carrier turns away a start that it has delivered: the ground would stay in START-IND
abbrev late : List (Turn Ask)
late = asks Air (StartRequest false) ∷ gets Ground ∷ turn Air (turn_away 0) ∷ []

-- the carrier fails with a message on its way: told one end only, the other would stay in DIALOGUE; with the dialogue not broken, the message would be missing
abbrev failing : List (Turn Ask)
failing = opening ++ (says Ground 1 ∷ turn Air fail ∷ [])

abbrev false_in : List (List (Turn Ask)) → List (List ℕ)
false_in [] = []
false_in (ts ∷ runs) = false_on (both_idle 0 0) ts ∷ false_in runs

pub none_false : false_in (aborted ∷ ended ∷ early ∷ late ∷ failing ∷ []) ≡ [] ∷ [] ∷ [] ∷ [] ∷ [] ∷ []
none_false = refl
