-- Two ground ends: with both lines empty they are IDLE with IDLE. It is shown of any machine whose records rest (IDLE) or are away (FORWARD), where a start
-- is answered in the event that hands it over, and everything that happens to a record that is away brings it back to rest. While the starting end is away, its start
-- is on its line and the other end holds a lower number, or an answer of its number is on the other line; entries of old numbers may be on both.
-- Assumes nothing.
use mathlib.Core.Path.{◌≡◌, refl, ap, sym, subst, ◌∙◌}
use mathlib.Core.Bool.{Bool, true, false, not, cond, ◌&&◌, ◌||◌}
use mathlib.Core.List.{List, [], ◌∷◌, ◌++◌}
use Prim.Native.Nat.{ℕ, zero, suc, ◌≤◌, ◌<◌}
use native.Mathlib.Omega.{arith}
use borrow.Author.Tests.{eq-eqb, eqb-true, eqb-false, ltb-true, ltb-false}
use lib.Dec.{T, eqb, ltb}
use Rattle.pair.specs.Names.{Ground, is_idle, waits, awaits_response}
use Rattle.pair.specs.Carrier.{Body, Sent, nothing, puts, message, Outcome, refused, acts, Sort, begins, breaks, plain, begins?, Step, user_call, hand_over, timer_expires_of, error_reported, turn_away, fail, is_start, starts, discards}
use Rattle.pair.specs.Numbered.{NMachine, NSys, n_swap, n_fresh, trim, n_put, n_sent, n_left, n_did, n_ready, n_called, n_off, n_handed_over, start_of, n_has_start, n_without_start, n_recalled, on_line, n_emptied, n_told_lost}
use Rattle.pair.specs.Centres.{CentreTurn, may_recall, recall, both_fail, centre_turned, centre_run, forward_pair}

-- ---- what is asked of a machine

module _ (m : NMachine) where
  -- a start was sent: the record is away, and holds the start's number, which is above the one before
  pub record Begun (Away : m.at.R → Type 0) (Good : m.at.E → Type 0) (r q : m.at.R) (e : m.at.E) : Type 0 where
    pub start : is_start m.at e ≡ true
    pub away : Away q
    pub good : Good e
    pub number : m.carries e ≡ m.holds q
    pub above : m.holds r < m.holds q

  -- the record rests, holds the number that it held, and sent no start
  pub record Back (Rest : m.at.R → Type 0) (r q : m.at.R) (p : Sent m.at.E) : Type 0 where
    pub rest : Rest q
    pub calm : starts m.at p ≡ false
    pub holds : m.holds q ≡ m.holds r

  -- the start e was answered by f: the record rests, and holds its number
  pub record Replied (Rest : m.at.R → Type 0) (Good : m.at.E → Type 0) (q : m.at.R) (e f : m.at.E) : Type 0 where
    pub rest : Rest q
    pub good : Good f
    pub plain : m.at.sort f ≡ plain
    pub number : m.carries f ≡ m.carries e
    pub holds : m.holds q ≡ m.carries e

  abbrev pub Starts : (m.at.R → Type 0) → (m.at.E → Type 0) → m.at.R → Outcome m.at.R m.at.E → Type 0
  Starts Away Good r refused = Unit {0}
  Starts Away Good r (acts q l nothing) = ⊥
  Starts Away Good r (acts q l (puts e)) = Begun Away Good r q e
  Starts Away Good r (acts q l (message e b j)) = ⊥

  -- if it is taken
  abbrev pub Returns : (m.at.R → Type 0) → m.at.R → Outcome m.at.R m.at.E → Type 0
  Returns Rest r refused = Unit {0}
  Returns Rest r (acts q l p) = Back Rest r q p

  -- and it is taken
  abbrev pub Comes : (m.at.R → Type 0) → m.at.R → Outcome m.at.R m.at.E → Type 0
  Comes Rest r refused = ⊥
  Comes Rest r (acts q l p) = Back Rest r q p

  -- and nothing is sent
  abbrev pub Quiet : (m.at.R → Type 0) → m.at.R → Outcome m.at.R m.at.E → Type 0
  Quiet Rest r refused = Unit {0}
  Quiet Rest r (acts q l nothing) = Back Rest r q nothing
  Quiet Rest r (acts q l (puts e)) = ⊥
  Quiet Rest r (acts q l (message e b j)) = ⊥

  abbrev pub Answers : (m.at.R → Type 0) → (m.at.E → Type 0) → m.at.E → Outcome m.at.R m.at.E → Type 0
  Answers Rest Good e refused = ⊥
  Answers Rest Good e (acts q l nothing) = ⊥
  Answers Rest Good e (acts q l (puts f)) = Replied Rest Good q e f
  Answers Rest Good e (acts q l (message f b j)) = ⊥

  abbrev pub Refuses : Outcome m.at.R m.at.E → Type 0
  Refuses refused = Unit {0}
  Refuses (acts q l p) = ⊥

-- Good: an entry that a record of this machine put on the line
pub record Centre (m : NMachine) : Type 1 where
  pub Rest : m.at.R → Type 0
  pub Away : m.at.R → Type 0
  pub Good : m.at.E → Type 0
  pub rest_idle : (r : m.at.R) → Rest r → is_idle (m.at.ctl r) ≡ true
  pub rest_waits : (r : m.at.R) → Rest r → waits (m.at.ctl r).state ≡ false
  pub away_idle : (r : m.at.R) → Away r → is_idle (m.at.ctl r) ≡ false
  pub call_rest : (r : m.at.R) (a : m.at.A) → Rest r → Starts m Away Good r (m.at.call Ground r a)
  pub call_away : (r : m.at.R) (a : m.at.A) → Away r → Returns m Rest r (m.at.call Ground r a)
  pub start_answered : (r : m.at.R) (e : m.at.E) → Rest r → Good e → is_start m.at e ≡ true
      → m.holds r < m.carries e → Answers m Rest Good e (m.at.receive Ground r e)
  pub start_stale : (r : m.at.R) (e : m.at.E) → Rest r → Good e → is_start m.at e ≡ true
      → m.carries e ≤ m.holds r → Refuses m (m.at.receive Ground r e)
  pub answer_taken : (r : m.at.R) (e : m.at.E) → Away r → Good e → is_start m.at e ≡ false
      → m.carries e ≡ m.holds r → Comes m Rest r (m.at.receive Ground r e)
  pub answer_stale : (r : m.at.R) (e : m.at.E) → Away r → Good e → is_start m.at e ≡ false
      → (m.carries e ≡ m.holds r → ⊥) → Refuses m (m.at.receive Ground r e)
  pub expiry_rest : (r : m.at.R) → Rest r → Quiet m Rest r (m.at.expiry Ground r)
  pub expiry_away : (r : m.at.R) → Away r → Returns m Rest r (m.at.expiry Ground r)
  pub error_rest : (r : m.at.R) → Rest r → Quiet m Rest r (m.at.error Ground r)
  pub error_away : (r : m.at.R) → Away r → Returns m Rest r (m.at.error Ground r)
  pub away_away : (r : m.at.R) → Away r → Comes m Rest r (m.at.away Ground r)
  pub p_abort_away : (r : m.at.R) → Away r → Comes m Rest r (m.at.p_abort Ground r)

-- ---- lists and tests

clash : {A : Type 0} → true ≡ false → A
clash e = absurd (subst T e tt)

abbrev All : {X : Type 0} → (X → Type 0) → List X → Type 0
All P [] = Unit {0}
All P (x ∷ l) = P x × All P l

all_map : {X : Type 0} (P Q : X → Type 0) → ((x : X) → P x → Q x) → (l : List X) → All P l → All Q l
all_map P Q f [] h = tt
all_map P Q f (x ∷ l) h = (f x h.0, all_map P Q f l h.1)

all_append : {X : Type 0} (P : X → Type 0) (l k : List X) → All P l → All P k → All P (l ++ k)
all_append P [] k h g = g
all_append P (x ∷ l) k h g = (h.0, all_append P l k h.1 g)

all_cond : {X : Type 0} (P : X → Type 0) (b : Bool) (l k : List X) → All P l → All P k → All P (cond b l k)
all_cond P true l k h g = h
all_cond P false l k h g = g

or_right : (a b : Bool) → b ≡ true → (a || b) ≡ true
or_right true b e = refl
or_right false b e = e

or_left : (a b : Bool) → a ≡ true → (a || b) ≡ true
or_left true b e = refl
or_left false b e = clash (sym e)

or_not : (a b : Bool) → a ≡ false → (a || b) ≡ true → b ≡ true
or_not true b n e = clash n
or_not false b n e = e

and_false : (a b : Bool) → b ≡ false → (a && b) ≡ false
and_false true b e = e
and_false false b e = refl

unequal : (a n : ℕ) → (a ≡ n → ⊥) → eqb a n ≡ false
unequal a n h = go (eqb a n) refl
  where
    go : (b : Bool) → eqb a n ≡ b → b ≡ false
    go true e = absurd (h (eqb-true a n e))
    go false e = refl

module _ (m : NMachine) (c : Centre m) where
  -- ---- the invariant

  -- the starts on the starting end's line are of its records, and none has a number above the one that it holds
  abbrev Out : ℕ → m.at.E → Type 0
  Out n e = is_start m.at e ≡ true → c.Good e × (m.carries e ≤ n)

  -- on the other line is no start
  abbrev In : m.at.E → Type 0
  In e = c.Good e × (is_start m.at e ≡ false)

  record Lines (h t : m.at.R) (x y : List m.at.E) : Type 0 where
    rest : c.Rest t
    below : m.holds t ≤ m.holds h
    out : All (Out (m.holds h)) x
    back : All In y

  data Waits (h t : m.at.R) (out back : List m.at.E) : Type 0 where
    at_rest : c.Rest h → Waits h t out back
    waiting : c.Away h → n_has_start m (m.holds h) out ≡ true → m.holds t < m.holds h → Waits h t out back
    answered : c.Away h → on_line m back (m.holds h) ≡ true → Waits h t out back

  pub record Inv (s : NSys m) : Type 0 where
    lines : Lines s.here.rec s.there.rec s.here.line s.there.line
    waits : Waits s.here.rec s.there.rec s.here.line s.there.line

  yes : (b : Bool) (x y : NSys m) → b ≡ true → Inv x → Inv (cond b x y)
  yes true x y e i = i
  yes false x y e i = clash (sym e)

  nay : (b : Bool) (x y : NSys m) → b ≡ false → Inv y → Inv (cond b x y)
  nay true x y e i = clash e
  nay false x y e i = i

  -- ---- what is left of a line

  all_trim : (P : m.at.E → Type 0) (n k : ℕ) (l : List m.at.E) → All P l → All P (trim m n k l)
  all_trim P n zero [] h = tt
  all_trim P n (suc k) [] h = tt
  all_trim P n zero (e ∷ l) h = all_cond P (eqb (m.carries e) n) _ _ (all_trim P n zero l h.1) (h.0, all_trim P n zero l h.1)
  all_trim P n (suc k) (e ∷ l) h = all_cond P (eqb (m.carries e) n) _ _ (h.0, all_trim P n k l h.1)
      (h.0, all_trim P n (suc k) l h.1)

  all_without : (P : m.at.E → Type 0) (n : ℕ) (l : List m.at.E) → All P l → All P (n_without_start m n l)
  all_without P n [] h = tt
  all_without P n (e ∷ l) h = all_cond P (start_of m n e) _ _ h.1 (h.0, all_without P n l h.1)

  has_last : (n : ℕ) (l : List m.at.E) (e : m.at.E) → start_of m n e ≡ true → n_has_start m n (l ++ (e ∷ [])) ≡ true
  has_last n [] e h = or_left (start_of m n e) false h
  has_last n (x ∷ l) e h = or_right (start_of m n x) _ (has_last n l e h)

  on_last : (j : ℕ) (l : List m.at.E) (e : m.at.E) → eqb (m.carries e) j ≡ true → on_line m (l ++ (e ∷ [])) j ≡ true
  on_last j [] e h = or_left (eqb (m.carries e) j) false h
  on_last j (x ∷ l) e h = or_right (eqb (m.carries x) j) _ (on_last j l e h)

  on_first : (j : ℕ) (l k : List m.at.E) → on_line m l j ≡ true → on_line m (l ++ k) j ≡ true
  on_first j [] k h = clash (sym h)
  on_first j (x ∷ l) k h = go (eqb (m.carries x) j) (λ e. on_first j l k e) h
    where
      go : (b : Bool) → (on_line m l j ≡ true → on_line m (l ++ k) j ≡ true) → (b || on_line m l j) ≡ true → (b || on_line m (l ++ k) j) ≡ true
      go true f e = refl
      go false f e = f e

  -- ---- the starting end comes back to rest, or stays there

  calm_put : (x : Sort) (s : NSys m) (e : m.at.E) (keep n : ℕ) → begins? x ≡ false → m.at.sort e ≡ x
      → All (Out n) s.here.line → All (Out n) (n_put m x s e keep).here.line
  calm_put begins s e keep n b q h = clash b
  calm_put breaks s e keep n b q h = all_append (Out n) (trim m (m.carries e) keep s.here.line) (e ∷ [])
      (all_trim (Out n) (m.carries e) keep s.here.line h)
      ((λ (t : is_start m.at e ≡ true). clash (sym t ∙ ap begins? q ∙ b)), tt)
  calm_put plain s e keep n b q h = all_append (Out n) s.here.line (e ∷ []) h
      ((λ (t : is_start m.at e ≡ true). clash (sym t ∙ ap begins? q ∙ b)), tt)

  put_there : (x : Sort) (s : NSys m) (e : m.at.E) (keep : ℕ)
      → ((n_put m x s e keep).there.rec ≡ s.there.rec) × ((n_put m x s e keep).there.line ≡ s.there.line)
  put_there begins s e keep = (refl, refl)
  put_there breaks s e keep = (refl, refl)
  put_there plain s e keep = (refl, refl)

  calm_sent : (s : NSys m) (p : Sent m.at.E) (keep n : ℕ) → starts m.at p ≡ false → All (Out n) s.here.line
      → All (Out n) (n_sent m s p keep).here.line
  calm_sent s nothing keep n b h = h
  calm_sent s (puts e) keep n b h = calm_put (m.at.sort e) s e keep n b refl h
  calm_sent s (message e x j) keep n b h = calm_put (m.at.sort e) s e keep n b refl h

  sent_there : (s : NSys m) (p : Sent m.at.E) (keep : ℕ)
      → ((n_sent m s p keep).there.rec ≡ s.there.rec) × ((n_sent m s p keep).there.line ≡ s.there.line)
  sent_there s nothing keep = (refl, refl)
  sent_there s (puts e) keep = put_there (m.at.sort e) s e keep
  sent_there s (message e b j) keep = put_there (m.at.sort e) s e keep

  came : (s : NSys m) (q : m.at.R) (l : List Body) (p : Sent m.at.E) (keep : ℕ)
      → Lines s.here.rec s.there.rec s.here.line s.there.line → Back m c.Rest s.here.rec q p
      → Inv (n_did m s (acts q l p) keep)
  came s q l p keep i b =
      let t = sent_there s p keep in
      record {
        lines = record {
          rest = subst c.Rest (sym t.0) i.rest;
          below = subst (λ (x : m.at.R). m.holds x ≤ m.holds q) (sym t.0)
              (subst (λ (n : ℕ). m.holds s.there.rec ≤ n) (sym b.holds) i.below);
          out = calm_sent s p keep (m.holds q) b.calm (subst (λ (n : ℕ). All (Out n) s.here.line) (sym b.holds) i.out);
          back = subst (All In) (sym t.1) i.back;
        };
        waits = at_rest b.rest;
      }

  returned : (s : NSys m) (o : Outcome m.at.R m.at.E) (keep : ℕ) → Inv s → Returns m c.Rest s.here.rec o
      → Inv (n_did m s o keep)
  returned s refused keep i b = i
  returned s (acts q l p) keep i b = came s q l p keep i.lines b

  come : (s : NSys m) (o : Outcome m.at.R m.at.E) (keep : ℕ)
      → Lines s.here.rec s.there.rec s.here.line s.there.line → Comes m c.Rest s.here.rec o
      → Inv (n_did m s o keep)
  come s refused keep i b = absurd b
  come s (acts q l p) keep i b = came s q l p keep i b

  quiet_returns : (r : m.at.R) (o : Outcome m.at.R m.at.E) → Quiet m c.Rest r o → Returns m c.Rest r o
  quiet_returns r refused x = tt
  quiet_returns r (acts q l nothing) x = x
  quiet_returns r (acts q l (puts e)) x = absurd x
  quiet_returns r (acts q l (message e b j)) x = absurd x

  -- ---- steps at the starting end

  begun : (x : Sort) (s : NSys m) (q : m.at.R) (l : List Body) (e : m.at.E) (keep : ℕ) → m.at.sort e ≡ x → Inv s
      → Begun m c.Away c.Good s.here.rec q e → Inv (n_left m (n_put m x s e keep) q l)
  begun begins s q l e keep v i b =
      let z = i.lines.below in
      let a = b.above in
      let n = b.number in
      record {
        lines = record {
          rest = i.lines.rest;
          below = omega arith;
          out = all_append (Out (m.holds q)) s.here.line (e ∷ [])
              (all_map (Out (m.holds s.here.rec)) (Out (m.holds q)) (λ (x : m.at.E)
              (f : Out (m.holds s.here.rec) x) (t : is_start m.at x ≡ true). let k = (f t).1 in
              ((f t).0, omega arith)) s.here.line i.lines.out)
              ((λ (t : is_start m.at e ≡ true). (b.good, omega arith)), tt);
          back = i.lines.back;
        };
        waits = waiting b.away
            (has_last (m.holds q) s.here.line e (rw (b.start, eq-eqb (m.carries e) (m.holds q) n)))
            (omega arith);
      }
  begun breaks s q l e keep v i b = clash (sym b.start ∙ ap begins? v)
  begun plain s q l e keep v i b = clash (sym b.start ∙ ap begins? v)

  either : (b : Bool) (x y : NSys m) → Inv x → Inv y → Inv (cond b x y)
  either true x y i j = i
  either false x y i j = j

  call_begins : (s : NSys m) (o : Outcome m.at.R m.at.E) (keep : ℕ) → Inv s
      → Starts m c.Away c.Good s.here.rec o → Inv (n_called m true s o keep)
  call_begins s refused keep i b = i
  call_begins s (acts q l nothing) keep i b = absurd b
  call_begins s (acts q l (message e x j)) keep i b = absurd b
  call_begins s (acts q l (puts e)) keep i b = either (not (is_start m.at e) || (true && n_ready m s)) _ _
      (begun (m.at.sort e) s q l e keep refl i b) i

  call_returns : (s : NSys m) (o : Outcome m.at.R m.at.E) (keep : ℕ) → Inv s
      → Returns m c.Rest s.here.rec o → Inv (n_called m true s o keep)
  call_returns s refused keep i b = i
  call_returns s (acts q l p) keep i b = either (not (starts m.at p) || (true && n_ready m s)) _ _ (came s q l p keep i.lines b) i

  -- an entry is gone that is not of the number that is waited for
  passed : (h t : m.at.R) (out : List m.at.E) (e : m.at.E) (l : List m.at.E)
      → (m.carries e ≡ m.holds h → ⊥) → Waits h t out (e ∷ l) → Waits h t out l
  passed h t out e l n (at_rest r) = at_rest r
  passed h t out e l n (waiting a s b) = waiting a s b
  passed h t out e l n (answered a o) = answered a
      (or_not (eqb (m.carries e) (m.holds h)) (on_line m l (m.holds h)) (unequal (m.carries e) (m.holds h) n) o)

  refusal : (s : NSys m) (o : Outcome m.at.R m.at.E) (keep : ℕ) → Refuses m o → Inv s → Inv (n_did m s o keep)
  refusal s refused keep b i = i
  refusal s (acts q l p) keep b i = absurd b

  take_away : (s : NSys m) (e : m.at.E) (l : List m.at.E) (keep : ℕ) → c.Away s.here.rec → In e
      → Lines s.here.rec s.there.rec s.here.line l
      → Waits s.here.rec s.there.rec s.here.line (e ∷ l)
      → Inv (n_did m (n_off m s l) (m.at.receive Ground s.here.rec e) keep)
  take_away s e l keep a x i w = go (eqb (m.carries e) (m.holds s.here.rec)) refl
    where
      go : (b : Bool) → eqb (m.carries e) (m.holds s.here.rec) ≡ b
          → Inv (n_did m (n_off m s l) (m.at.receive Ground s.here.rec e) keep)
      go true q = come (n_off m s l) (m.at.receive Ground s.here.rec e) keep i
          (c.answer_taken s.here.rec e a x.0 x.1 (eqb-true _ _ q))
      go false q =
          refusal (n_off m s l) (m.at.receive Ground s.here.rec e) keep
          (c.answer_stale s.here.rec e a x.0 x.1 (eqb-false _ _ q))
          (record { lines = i; waits = passed s.here.rec s.there.rec s.here.line e l (eqb-false _ _ q) w })

  hand_here : (s : NSys m) (k : List m.at.E) (keep : ℕ) → s.there.line ≡ k → Inv s → Inv (n_handed_over m Ground s k keep)
  hand_here s [] keep p i = i
  hand_here s (e ∷ l) keep p i = go w
    where
      w : Waits s.here.rec s.there.rec s.here.line (e ∷ l)
      w = subst (Waits s.here.rec s.there.rec s.here.line) p i.waits

      ins : All In (e ∷ l)
      ins = subst (All In) p i.lines.back

      rest : Lines s.here.rec s.there.rec s.here.line l
      rest = record { rest = i.lines.rest; below = i.lines.below; out = i.lines.out; back = ins.1 }

      busy : c.Away s.here.rec → discards m.at s.here.rec e ≡ false
      busy a = ap (λ (b : Bool). b && not (is_start m.at e)) (c.away_idle s.here.rec a)

      away : c.Away s.here.rec → Inv (n_handed_over m Ground s (e ∷ l) keep)
      away a = nay (discards m.at s.here.rec e) (n_off m s l) _ (busy a) (take_away s e l keep a ins.0 rest w)

      go : Waits s.here.rec s.there.rec s.here.line (e ∷ l) → Inv (n_handed_over m Ground s (e ∷ l) keep)
      go (at_rest r) =
          yes (discards m.at s.here.rec e) (n_off m s l) _ (rw (c.rest_idle s.here.rec r, ins.0.1)) (record { lines = rest; waits = at_rest r })
      go (waiting a h b) = away a
      go (answered a o) = away a

  recall_here : (s : NSys m) (keep : ℕ) → Inv s → Inv (recall m s keep)
  recall_here s keep i = go i.waits
    where
      lines : Lines s.here.rec s.there.rec (n_without_start m (m.holds s.here.rec) s.here.line) s.there.line
      lines = record { rest = i.lines.rest; below = i.lines.below; out = all_without (Out (m.holds s.here.rec)) (m.holds s.here.rec) s.here.line i.lines.out; back = i.lines.back }

      away : c.Away s.here.rec → Inv (recall m s keep)
      away a = either (may_recall m s) _ _
          (come (n_recalled m s) (m.at.away Ground s.here.rec) keep lines (c.away_away s.here.rec a)) i

      go : Waits s.here.rec s.there.rec s.here.line s.there.line → Inv (recall m s keep)
      go (at_rest r) = nay (may_recall m s) _ s (ap
          (λ (b : Bool). b && n_has_start m (m.holds s.here.rec) s.here.line)
          (c.rest_waits s.here.rec r)) i
      go (waiting a h b) = away a
      go (answered a o) = away a

  -- ---- the carrier fails

  data Who (h : m.at.R) : Type 0 where
    rests : c.Rest h → Who h
    gone : c.Away h → Who h

  who : (h t : m.at.R) (out back : List m.at.E) → Waits h t out back → Who h
  who h t out back (at_rest r) = rests r
  who h t out back (waiting a s b) = gone a
  who h t out back (answered a o) = gone a

  told_here : (x : NSys m) → Lines x.here.rec x.there.rec x.here.line x.there.line → Who x.here.rec
      → Inv (n_told_lost m Ground x)
  told_here x i (rests r) = yes (is_idle (m.at.ctl x.here.rec)) x _ (c.rest_idle x.here.rec r) (record { lines = i; waits = at_rest r })
  told_here x i (gone a) = nay (is_idle (m.at.ctl x.here.rec)) x _ (c.away_idle x.here.rec a)
      (come x (m.at.p_abort Ground x.here.rec) 0 i (c.p_abort_away x.here.rec a))

  -- an end that rests is told nothing
  untold : (x : NSys m) → c.Rest x.here.rec → n_told_lost m Ground x ≡ x
  untold x r = ap (λ (b : Bool). cond b x (n_did m x (m.at.p_abort Ground x.here.rec) 0)) (c.rest_idle x.here.rec r)

  emptied : (s : NSys m) → Inv s → Lines s.here.rec s.there.rec [] []
  emptied s i = record { rest = i.lines.rest; below = i.lines.below; out = tt; back = tt }

  fails_here : (s : NSys m) → Inv s → Inv (both_fail m s)
  fails_here s i =
      let j = told_here (n_emptied m s) (emptied s i) (who _ _ _ _ i.waits) in
      subst (λ (z : NSys m). Inv (n_swap m z)) (sym (untold (n_swap m (n_told_lost m Ground (n_emptied m s))) j.lines.rest)) (record { lines = j.lines; waits = j.waits })

  fails_there : (s : NSys m) → Inv s → Inv (n_swap m (both_fail m (n_swap m s)))
  fails_there s i =
      let e = untold (n_emptied m (n_swap m s)) i.lines.rest in
      let j = told_here (n_swap m (n_emptied m (n_swap m s))) (emptied s i) (who _ _ _ _ i.waits) in
      subst (λ (z : NSys m). Inv (n_swap m (n_swap m (n_told_lost m Ground (n_swap m z))))) (sym e) (record { lines = j.lines; waits = j.waits })

  -- ---- steps at the other end

  -- it starts nothing
  call_there : (s : NSys m) (o : Outcome m.at.R m.at.E) (keep : ℕ) → Inv s
      → Starts m c.Away c.Good s.there.rec o → Inv (n_swap m (n_called m false (n_swap m s) o keep))
  call_there s refused keep i b = record { lines = i.lines; waits = i.waits }
  call_there s (acts q l nothing) keep i b = absurd b
  call_there s (acts q l (message e x j)) keep i b = absurd b
  call_there s (acts q l (puts e)) keep i b = swapped (not (is_start m.at e) || false) _ (n_swap m s) (ap (λ (t : Bool). not t || false) b.start) (record { lines = i.lines; waits = i.waits })
    where
      swapped : (t : Bool) (x y : NSys m) → t ≡ false → Inv (n_swap m y) → Inv (n_swap m (cond t x y))
      swapped true x y e j = clash e
      swapped false x y e j = j

  -- an expiry or a system error there
  quiet_there : (s : NSys m) (o : Outcome m.at.R m.at.E) (keep : ℕ) → Inv s
      → Quiet m c.Rest s.there.rec o → Inv (n_swap m (n_did m (n_swap m s) o keep))
  quiet_there s refused keep i b = record { lines = i.lines; waits = i.waits }
  quiet_there s (acts q l nothing) keep i b =
      record {
        lines = record { rest = b.rest; below = subst (λ (n : ℕ). n ≤ m.holds s.here.rec) (sym b.holds) i.lines.below; out = i.lines.out; back = i.lines.back };
        waits = go i.waits;
      }
    where
      go : Waits s.here.rec s.there.rec s.here.line s.there.line → Waits s.here.rec q s.here.line s.there.line
      go (at_rest r) = at_rest r
      go (waiting a h z) = waiting a h (subst (λ (n : ℕ). n < m.holds s.here.rec) (sym b.holds) z)
      go (answered a o) = answered a o
  quiet_there s (acts q l (puts e)) keep i b = absurd b
  quiet_there s (acts q l (message e x j)) keep i b = absurd b

  recall_there : (s : NSys m) (keep : ℕ) → Inv s → Inv (n_swap m (recall m (n_swap m s) keep))
  recall_there s keep i =
      subst (λ (b : Bool). Inv (n_swap m (cond b (n_did m (n_recalled m (n_swap m s)) (m.at.away Ground s.there.rec) keep) (n_swap m s))))
      (sym (ap (λ (b : Bool). b && n_has_start m (m.holds s.there.rec) s.there.line)
      (c.rest_waits s.there.rec i.lines.rest)))
      (record { lines = i.lines; waits = i.waits })

  -- a start is answered, and its answer goes back
  module _ (s : NSys m) (e : m.at.E) (l : List m.at.E) (keep : ℕ) (i : Lines s.here.rec s.there.rec (e ∷ l) s.there.line) (w : Waits s.here.rec s.there.rec (e ∷ l) s.there.line) where
    -- the starts that are left are those that were there, without one of another number
    other_start : (m.carries e ≡ m.holds s.here.rec → ⊥) → n_has_start m (m.holds s.here.rec) (e ∷ l) ≡ true
        → n_has_start m (m.holds s.here.rec) l ≡ true
    other_start n h = or_not (start_of m (m.holds s.here.rec) e) _
        (and_false (is_start m.at e) _ (unequal (m.carries e) (m.holds s.here.rec) n)) h

    replied : (x : Sort) (q : m.at.R) (k : List Body) (f : m.at.E) → m.at.sort f ≡ x
        → m.carries e ≤ m.holds s.here.rec → Replied m c.Rest c.Good q e f
        → Inv (n_swap m (n_left m (n_put m x (n_off m (n_swap m s) l) f keep) q k))
    replied begins q k f v z b = clash (ap begins? (sym v ∙ b.plain))
    replied breaks q k f v z b = clash (ap is_break (sym v ∙ b.plain))
      where
        is_break : Sort → Bool
        is_break begins = false
        is_break breaks = true
        is_break plain = false
    replied plain q k f v z b =
        record {
          lines = record {
            rest = b.rest;
            below = subst (λ (n : ℕ). n ≤ m.holds s.here.rec) (sym b.holds) z;
            out = i.out.1;
            back = all_append In s.there.line (f ∷ []) i.back ((b.good, ap begins? b.plain), tt);
          };
          waits = go w;
        }
      where
        by : (t : Bool) → eqb (m.carries e) (m.holds s.here.rec) ≡ t → c.Away s.here.rec
            → n_has_start m (m.holds s.here.rec) (e ∷ l) ≡ true
            → Waits s.here.rec q l (s.there.line ++ (f ∷ []))
        by true p a h = answered a (on_last (m.holds s.here.rec) s.there.line f
            (ap (λ (n : ℕ). eqb n (m.holds s.here.rec)) b.number ∙ p))
        by false p a h =
            let n = eqb-false (m.carries e) (m.holds s.here.rec) p in
            let y = b.holds in
            waiting a (other_start n h) (omega arith)

        go : Waits s.here.rec s.there.rec (e ∷ l) s.there.line → Waits s.here.rec q l (s.there.line ++ (f ∷ []))
        go (at_rest r) = at_rest r
        go (waiting a h y) = by (eqb (m.carries e) (m.holds s.here.rec)) refl a h
        go (answered a o) = answered a (on_first (m.holds s.here.rec) s.there.line (f ∷ []) o)

    answers : (o : Outcome m.at.R m.at.E) → m.carries e ≤ m.holds s.here.rec
        → Answers m c.Rest c.Good e o → Inv (n_swap m (n_did m (n_off m (n_swap m s) l) o keep))
    answers refused z b = absurd b
    answers (acts q k nothing) z b = absurd b
    answers (acts q k (puts f)) z b = replied (m.at.sort f) q k f refl z b
    answers (acts q k (message f x j)) z b = absurd b

    -- the entry is gone, and nothing else
    goes : (is_start m.at e ≡ true → m.carries e ≤ m.holds s.there.rec) → Inv (n_swap m (n_off m (n_swap m s) l))
    goes f = record { lines = record { rest = i.rest; below = i.below; out = i.out.1; back = i.back }; waits = go w }
      where
        by : (t : Bool) → is_start m.at e ≡ t → m.holds s.there.rec < m.holds s.here.rec
            → n_has_start m (m.holds s.here.rec) (e ∷ l) ≡ true → n_has_start m (m.holds s.here.rec) l ≡ true
        by true p y h = let z = f p in other_start (λ (n : m.carries e ≡ m.holds s.here.rec). omega arith) h
        by false p y h = or_not (start_of m (m.holds s.here.rec) e) _
            (ap (λ (t : Bool). t && eqb (m.carries e) (m.holds s.here.rec)) p) h

        go : Waits s.here.rec s.there.rec (e ∷ l) s.there.line → Waits s.here.rec s.there.rec l s.there.line
        go (at_rest r) = at_rest r
        go (waiting a h y) = waiting a (by (is_start m.at e) refl y h) y
        go (answered a o) = answered a o

    refuses : (o : Outcome m.at.R m.at.E) → Refuses m o → m.carries e ≤ m.holds s.there.rec
        → Inv (n_swap m (n_did m (n_off m (n_swap m s) l) o keep))
    refuses refused b z = goes (λ (t : is_start m.at e ≡ true). z)
    refuses (acts q k p) b z = absurd b

    hand_start : is_start m.at e ≡ true → Inv (n_swap m (n_did m (n_off m (n_swap m s) l) (m.at.receive Ground s.there.rec e) keep))
    hand_start t = go (ltb (m.holds s.there.rec) (m.carries e)) refl
      where
        x : c.Good e × (m.carries e ≤ m.holds s.here.rec)
        x = i.out.0 t

        go : (b : Bool) → ltb (m.holds s.there.rec) (m.carries e) ≡ b
            → Inv (n_swap m (n_did m (n_off m (n_swap m s) l) (m.at.receive Ground s.there.rec e) keep))
        go true p = answers (m.at.receive Ground s.there.rec e) x.1
            (c.start_answered s.there.rec e i.rest x.0 t (ltb-true _ _ p))
        go false p = let z = ltb-false (m.holds s.there.rec) (m.carries e) p in refuses
            (m.at.receive Ground s.there.rec e) (c.start_stale s.there.rec e i.rest x.0 t z) z

    hand_entry : Inv (n_swap m (n_handed_over m Ground (n_swap m s) (e ∷ l) keep))
    hand_entry = go (is_start m.at e) refl
      where
        idle : is_idle (m.at.ctl s.there.rec) ≡ true
        idle = c.rest_idle s.there.rec i.rest

        Handed : Bool → Type 0
        Handed b = Inv (n_swap m (cond b (n_off m (n_swap m s) l)
            (n_did m (n_off m (n_swap m s) l) (m.at.receive Ground s.there.rec e) keep)))

        go : (t : Bool) → is_start m.at e ≡ t → Handed (discards m.at s.there.rec e)
        go true t = subst Handed (sym (and_false (is_idle (m.at.ctl s.there.rec)) (not (is_start m.at e)) (ap not t))) (hand_start t)
        go false t = subst Handed (sym (ap (λ (b : Bool). b && not (is_start m.at e)) idle ∙ ap not t))
            (goes (λ (u : is_start m.at e ≡ true). clash (sym u ∙ t)))

  hand_there : (s : NSys m) (k : List m.at.E) (keep : ℕ) → s.here.line ≡ k → Inv s
      → Inv (n_swap m (n_handed_over m Ground (n_swap m s) k keep))
  hand_there s [] keep p i = record { lines = i.lines; waits = i.waits }
  hand_there s (e ∷ l) keep p i =
      hand_entry s e l keep
      (subst (λ (k : List m.at.E). Lines s.here.rec s.there.rec k s.there.line) p i.lines)
      (subst (λ (k : List m.at.E). Waits s.here.rec s.there.rec k s.there.line) p i.waits)

  -- ---- every step

  by_who : (s : NSys m) (P : Type 0) → Inv s → (c.Rest s.here.rec → P) → (c.Away s.here.rec → P) → P
  by_who s P i f g = go (who _ _ _ _ i.waits)
    where
      go : Who s.here.rec → P
      go (rests r) = f r
      go (gone a) = g a

  turned_inv : (b : Bool) (s : NSys m) (k : Step m.at.A) → Inv s → Inv (centre_turned m b s k)
  turned_inv true s (user_call a keep) i = by_who s _ i
      (λ r. call_begins s (m.at.call Ground s.here.rec a) keep i (c.call_rest s.here.rec a r))
      (λ x. call_returns s (m.at.call Ground s.here.rec a) keep i (c.call_away s.here.rec a x))
  turned_inv true s (hand_over keep) i = hand_here s s.there.line keep refl i
  turned_inv true s (timer_expires_of keep) i =
      by_who s _ i (λ r. returned s (m.at.expiry Ground s.here.rec) keep i
      (quiet_returns s.here.rec (m.at.expiry Ground s.here.rec) (c.expiry_rest s.here.rec r)))
      (λ x. returned s (m.at.expiry Ground s.here.rec) keep i (c.expiry_away s.here.rec x))
  turned_inv true s (error_reported keep) i =
      by_who s _ i (λ r. returned s (m.at.error Ground s.here.rec) keep i
      (quiet_returns s.here.rec (m.at.error Ground s.here.rec) (c.error_rest s.here.rec r)))
      (λ x. returned s (m.at.error Ground s.here.rec) keep i (c.error_away s.here.rec x))
  turned_inv true s (turn_away keep) i = recall_here s keep i
  turned_inv true s fail i = fails_here s i
  turned_inv false s (user_call a keep) i = call_there s (m.at.call Ground s.there.rec a) keep i
      (c.call_rest s.there.rec a i.lines.rest)
  turned_inv false s (hand_over keep) i = hand_there s s.here.line keep refl i
  turned_inv false s (timer_expires_of keep) i = quiet_there s (m.at.expiry Ground s.there.rec) keep i
      (c.expiry_rest s.there.rec i.lines.rest)
  turned_inv false s (error_reported keep) i = quiet_there s (m.at.error Ground s.there.rec) keep i
      (c.error_rest s.there.rec i.lines.rest)
  turned_inv false s (turn_away keep) i = recall_there s keep i
  turned_inv false s fail i = fails_there s i

  run_inv : (ts : List (CentreTurn m.at.A)) (s : NSys m) → Inv s → Inv (centre_run m s ts)
  unfolding centre_run
  run_inv [] s i = i
  run_inv (t ∷ ts) s i = run_inv ts (centre_turned m t.starting s t.step) (turned_inv t.starting s t.step i)

  -- ---- with both lines empty both ends rest, so the pair is IDLE with IDLE

  rest_both : (s : NSys m) → Inv s → s.here.line ≡ [] → s.there.line ≡ [] → c.Rest s.here.rec × c.Rest s.there.rec
  rest_both s i x y = (go i.waits, i.lines.rest)
    where
      go : Waits s.here.rec s.there.rec s.here.line s.there.line → c.Rest s.here.rec
      go (at_rest r) = r
      go (waiting a h z) = clash (sym h ∙ ap (n_has_start m (m.holds s.here.rec)) x)
      go (answered a o) = clash (sym o ∙ ap (λ (l : List m.at.E). on_line m l (m.holds s.here.rec)) y)

  -- from any two records that rest, of which the starting one holds a number not below the other's
  module _ (r q : m.at.R) (hr : c.Rest r) (hq : c.Rest q) (b : m.holds q ≤ m.holds r) where
    abbrev pub centres_after : List (CentreTurn m.at.A) → NSys m
    centres_after ts = centre_run m (n_fresh m r q) ts

    pub centres_rest : (ts : List (CentreTurn m.at.A)) → (centres_after ts).here.line ≡ []
        → (centres_after ts).there.line ≡ []
        → c.Rest (centres_after ts).here.rec × c.Rest (centres_after ts).there.rec
    centres_rest ts = rest_both (centres_after ts) (run_inv ts (n_fresh m r q) (record { lines = record { rest = hq; below = b; out = tt; back = tt }; waits = at_rest hr }))

    pub centres_idle : (ts : List (CentreTurn m.at.A)) → (centres_after ts).here.line ≡ []
        → (centres_after ts).there.line ≡ []
        → (is_idle (m.at.ctl (centres_after ts).here.rec) ≡ true) × (is_idle (m.at.ctl (centres_after ts).there.rec) ≡ true)
    centres_idle ts x y =
        let z = centres_rest ts x y in
        (c.rest_idle (centres_after ts).here.rec z.0, c.rest_idle (centres_after ts).there.rec z.1)

    -- E8's sentence, which says less
    pub centres_pair : (ts : List (CentreTurn m.at.A)) → (centres_after ts).here.line ≡ []
        → (centres_after ts).there.line ≡ []
        → T (forward_pair (m.at.ctl (centres_after ts).here.rec) (m.at.ctl (centres_after ts).there.rec))
    centres_pair ts x y =
        let i = centres_idle ts x y in
        subst (λ (z : Bool). T (z || ((awaits_response (m.at.ctl (centres_after ts).here.rec) && is_idle
        (m.at.ctl (centres_after ts).there.rec)) || (is_idle
        (m.at.ctl (centres_after ts).here.rec) && awaits_response
        (m.at.ctl (centres_after ts).there.rec)))))
        (sym (ap (λ (z : Bool). z && is_idle (m.at.ctl (centres_after ts).there.rec)) i.0 ∙ i.1)) tt
