-- A day of moves that the tables do not refuse is a run of two hosts that keep their duties: the promise holds of its last pages.
-- Assumes nothing.
use mathlib.Core.Path.{◌≡◌, refl, ap, sym, subst, fun_ext, ◌∙◌}
use mathlib.Core.Bool.{Bool, false, not}
use mathlib.Core.List.{List, [], ◌∷◌, ◌++◌}
use Prim.Native.Nat.{ℕ, zero, suc, ◌≤◌, ◌<◌}
use native.Mathlib.Omega.{arith}
use lib.Dec.{eqb}
use lib.ListN.{length, get_or, set, replicate, length-set, length-replicate}
use Rattle.pair.specs.Names.{Side, Air, Ground, Reply, StartResponse, EndRequest, EndResponse, UserAbort, TimerExpiry, closed}
use Rattle.pair.specs.Carrier.{Body}
use Rattle.pair.specs.Numbered.{Numbered, starter, not_below}
use Rattle.pair.proofs.ControlMachine.{Held, Ask}
use Rattle.duties.specs.Memory.{Decision, undecided, blank}
use Rattle.duties.specs.Host.{up, Move}
use Rattle.duties.proofs.EndConfirmed.{answers_yes}
use Rattle.duties.proofs.ControlHosts.{letters}
use Rattle.moves.specs.Machine.{holding as record_of}
use Rattle.moves_laws.specs.Pages.{Sheet, MakesAll, Promised}
use Rattle.moves_laws.proofs.Steps.{M, Page, page}
use Rattle.moves_laws.proofs.Day.{begun, day_holds}
use Rattle.tables.specs.Tables.{state_of, held_in, among}
use Rattle.tables.specs.Steps.{One, All, all, facing, shown_to, departed, power_failed, cut_off_of, gave_up, released_by, carrier_failed, refused_job, taken, acknowledged, started_by, made_call, reported, turned_back, heard, heard_end}
use Rattle.tables.proofs.Tables.{size, get_same, get_other}
use Rattle.tables_laws.proofs.Reading.{jobs_from, notices_from, power_of, line_from, page_of, broken_of, Sound, Counted}
use Rattle.tables_laws.proofs.Places.{Same, same_then, same_below, same_above}
use Rattle.tables_laws.proofs.Follow.{page_path, notes_path, Follows}
use Rattle.tables_laws.proofs.HostMoves.{shown_follows, left_follows, power_follows, cut_follows, gives_up_follows, acknowledged_follows, released_follows}
use Rattle.tables_laws.proofs.JobMoves.{refused_follows, taken_follows, started_follows, start_answer_follows, end_request_follows, end_answer_follows}
use Rattle.tables_laws.proofs.AbortMoves.{abort_follows, expiry_follows, error_follows}
use Rattle.tables_laws.proofs.HearMoves.{heard_follows, heard_end_follows}
use Rattle.tables_laws.proofs.TurnMoves.{turned_follows}
use Rattle.tables_laws.proofs.FailMoves.{failed_follows}

-- ---- a move, as steps.rt has it

pub data Step : Type 0 where
  shows leaves fails_power is_cut Gives_up is_released carrier_breaks is_turned_back : Step
  refuses takes acknowledges : ℕ → Step
  -- with DSC, and the number
  starts : Bool → ℕ → Step
  answers_start : Bool → Reply → Step
  asks_end : Bool → Step
  answers_end : Bool → Reply → Step
  -- how many entries of the dialogue stay on the line
  aborts expires errs : ℕ → Step
  -- kind, number, how many entries stay, job
  hears : (kind : ℕ) → kind ≤ 8 → ℕ → ℕ → ℕ → Step
  hears_end : ℕ → Step

abbrev pub alone : One → List ℕ → List ℕ → All
alone o z b = all o.rule o.here z b

-- from: the side that all starts come from
abbrev pub does : Side → Side → Step → List ℕ → List ℕ → List ℕ → All
does from sd shows l z b = alone (shown_to l) z b
does from sd leaves l z b = alone (departed l) z b
does from sd fails_power l z b = alone (power_failed l) z b
does from sd is_cut l z b = alone (cut_off_of l) z b
does from sd Gives_up l z b = alone (gave_up l) z b
does from sd is_released l z b = alone (released_by l z b) z b
does from sd carrier_breaks l z b = carrier_failed l z b
does from sd is_turned_back l z b = alone (turned_back l sd) z b
does from sd (refuses j) l z b = alone (refused_job l j) z b
does from sd (takes j) l z b = alone (taken l sd j) z b
does from sd (acknowledges j) l z b = all (acknowledged l j) l z b
does from sd (starts dsc n) l z b = alone (started_by l z sd (starter from sd) dsc n) z b
does from sd (answers_start m a) l z b = facing (made_call l b sd (StartResponse m a) 0) z
does from sd (asks_end m) l z b = facing (made_call l b sd (EndRequest m) 0) z
does from sd (answers_end m a) l z b = facing (made_call l b sd (EndResponse m a) 0) z
does from sd (aborts k) l z b = facing (made_call l b sd UserAbort k) z
does from sd (expires k) l z b = facing (made_call l b sd TimerExpiry k) z
does from sd (errs k) l z b = facing (reported l b sd k) z
does from sd (hears kind h n k j) l z b = heard l z b sd kind n k j
does from sd (hears_end n) l z b = heard_end l z b sd n

-- ---- a day

pub record Turn : Type 0 where
  pub side : Side
  pub step : Step

-- the three tables
pub record Books : Type 0 where
  pub air : List ℕ
  pub ground : List ℕ
  pub broken : List ℕ

abbrev pub answer_at : Side → Side → Step → Books → ℕ
answer_at from Air s t = (does from Air s t.air t.ground t.broken).rule
answer_at from Ground s t = (does from Ground s t.ground t.air t.broken).rule

abbrev pub books_at : Side → Side → Step → Books → Books
books_at from Air s t = let o = does from Air s t.air t.ground t.broken in record { air = o.here; ground = o.there; broken = o.broken }
books_at from Ground s t = let o = does from Ground s t.ground t.air t.broken in record { air = o.there; ground = o.here; broken = o.broken }

abbrev pub last_books : Side → List Turn → Books → Books
last_books from [] t = t
last_books from (v ∷ vs) t = last_books from vs (books_at from v.side v.step t)

-- no rule is broken
abbrev pub Clean : Side → List Turn → Books → Type 0
Clean from [] t = Unit {0}
Clean from (v ∷ vs) t = (answer_at from v.side v.step t ≡ 0) × Clean from vs (books_at from v.side v.step t)

module _ (text : Side → ℕ → Body) (fresh : Side → Numbered Held) (from : Side) where
  -- each move that is not refused
  pub follows : (sd : Side) (d e : ℕ → Decision) (l z b : List ℕ) → Sound d l → Sound e z → Counted b → (x : Step)
      → (does from sd x l z b).rule ≡ 0
      → Follows text fresh from sd d e l z b (does from sd x l z b).here (does from sd x l z b).there (does from sd x l z b).broken
  follows sd d e l z b s t k shows h = shown_follows text fresh from sd d e l z b s t k h
  follows sd d e l z b s t k leaves h = left_follows text fresh from sd d e l z b s t k h
  follows sd d e l z b s t k fails_power h = power_follows text fresh from sd d e l z b s t k
  follows sd d e l z b s t k is_cut h = cut_follows text fresh from sd d e l z b s t k h
  follows sd d e l z b s t k Gives_up h = gives_up_follows text fresh from sd d e l z b s t k h
  follows sd d e l z b s t k is_released h = released_follows text fresh from sd d e l z b s t k h
  follows sd d e l z b s t k carrier_breaks h = failed_follows text fresh from sd d e l z b s t k h
  follows sd d e l z b s t k is_turned_back h = turned_follows text fresh from sd d e l z b s t k h
  follows sd d e l z b s t k (refuses j) h = refused_follows text fresh from sd d e l z b s t k j h
  follows sd d e l z b s t k (takes j) h = taken_follows text fresh from sd d e l z b s t k j h
  follows sd d e l z b s t k (acknowledges j) h = acknowledged_follows text fresh from sd d e l z b s t k j h
  follows sd d e l z b s t k (starts dsc n) h = started_follows text fresh from sd d e l z b s t k dsc n h
  follows sd d e l z b s t k (answers_start m a) h = start_answer_follows text fresh from sd d e l z b s t k m a 0 h
  follows sd d e l z b s t k (asks_end m) h = end_request_follows text fresh from sd d e l z b s t k m 0 h
  follows sd d e l z b s t k (answers_end m a) h = end_answer_follows text fresh from sd d e l z b s t k m a 0 h
  follows sd d e l z b s t k (aborts n) h = abort_follows text fresh from sd d e l z b s t k n h
  follows sd d e l z b s t k (expires n) h = expiry_follows text fresh from sd d e l z b s t k n h
  follows sd d e l z b s t k (errs n) h = error_follows text fresh from sd d e l z b s t k n h
  follows sd d e l z b s t k (hears kind w n m j) h = heard_follows text fresh from sd d e l z b s t k kind n m j w h
  follows sd d e l z b s t k (hears_end n) h = heard_end_follows text fresh from sd d e l z b s t k n h

  abbrev pub sheet_at : (ℕ → Decision) → (ℕ → Decision) → Books → Sheet M
  sheet_at d e t = record { air = page_of text Air d t.air; ground = page_of text Ground e t.ground; broken = broken_of t.broken }

  both_make : (xs ys : List (Move (Numbered Ask))) (c x e : Sheet M)
      → MakesAll M (letters text) fresh answers_yes from xs c x → MakesAll M (letters text) fresh answers_yes from ys x e
      → MakesAll M (letters text) fresh answers_yes from (xs ++ ys) c e
  unfolding MakesAll
  both_make [] ys c x e h w = subst (λ (v : Sheet M). MakesAll M (letters text) fresh answers_yes from ys v e) (sym h) w
  both_make (v ∷ xs) ys c x e h w = record { at = h.at; first = h.first; rest = both_make xs ys h.at x e h.rest w }

  record Reaches (d e : ℕ → Decision) (t r : Books) : Type 0 where
    moves : List (Move (Numbered Ask))
    near : ℕ → Decision
    far : ℕ → Decision
    makes : MakesAll M (letters text) fresh answers_yes from moves (sheet_at d e t) (sheet_at near far r)

  reaches : (vs : List Turn) (t : Books) (d e : ℕ → Decision) → Sound d t.air → Sound e t.ground
      → Counted t.broken → Clean from vs t → Reaches d e t (last_books from vs t)
  unfolding MakesAll
  reaches [] t d e s u k w = record { moves = []; near = d; far = e; makes = refl }
  reaches (v ∷ vs) t d e s u k w = go v.side w.0 (λ (d e : ℕ → Decision)
      (s : Sound d (books_at from v.side v.step t).air)
      (u : Sound e (books_at from v.side v.step t).ground)
      (k : Counted (books_at from v.side v.step t).broken). reaches vs (books_at from v.side v.step t) d
      e s u k w.1)
    where
      go : (sd : Side) → answer_at from sd v.step t ≡ 0
          → ((d e : ℕ → Decision) → Sound d (books_at from sd v.step t).air → Sound e
          (books_at from sd v.step t).ground → Counted (books_at from sd v.step t).broken → Reaches d e
          (books_at from sd v.step t) (last_books from vs (books_at from sd v.step t)))
          → Reaches d e t (last_books from vs (books_at from sd v.step t))
      go Air h f =
          let a = follows Air d e t.air t.ground t.broken s u k v.step h in
          let r = f a.then e a.near a.far a.counted in
          record {
            moves = a.moves ++ r.moves;
            near = r.near;
            far = r.far;
            makes = both_make a.moves r.moves (sheet_at d e t) (sheet_at a.then e (books_at from Air v.step t))
                (sheet_at r.near r.far (last_books from vs (books_at from Air v.step t))) a.makes r.makes;
          }
      go Ground h f =
          let a = follows Ground e d t.ground t.air t.broken u s k v.step h in
          let r = f d a.then a.far a.near a.counted in
          record {
            moves = a.moves ++ r.moves;
            near = r.near;
            far = r.far;
            makes = both_make a.moves r.moves (sheet_at d e t)
                (sheet_at d a.then (books_at from Ground v.step t))
                (sheet_at r.near r.far (last_books from vs (books_at from Ground v.step t))) a.makes r.makes;
          }

-- ---- at the beginning: a record with this number and this highest job, and nothing else

pub record Empty (l : List ℕ) (n i : ℕ) : Type 0 where
  pub full : size ≤ length l
  pub state : get_or l 0 0 ≡ 0
  pub dsc : get_or l 1 0 ≡ 0
  pub number : get_or l 2 0 ≡ n
  pub highest : get_or l 3 0 ≡ i
  pub power : get_or l 4 0 ≡ 0
  pub waiting : get_or l 5 0 ≡ 0
  pub unsent : get_or l 6 0 ≡ 0
  pub entries : get_or l 7 0 ≡ 0
  pub decided : get_or l 8 0 ≡ 0
  pub opened : get_or l 9 0 ≡ 0
  pub notices : get_or l 10 0 ≡ 0

abbrev new : ℕ → Decision
new j = undecided

empty_sound : (l : List ℕ) (n i : ℕ) → Empty l n i → Sound new l
empty_sound l n i a =
    record {
      full = a.full;
      entries = omega (arith, a.entries);
      decided = omega (arith, a.decided);
      opened = omega (arith, a.opened);
      notices = omega (arith, a.notices);
      known = λ (j : ℕ). sym (ap (λ (k : ℕ). among l 3088 k j) a.decided);
      powered = omega (arith, a.power);
      rests = λ (w : get_or l 4 0 ≡ 2). a.waiting;
    }

empty_held : (l : List ℕ) (n i : ℕ) → Empty l n i → held_in l ≡ record_of closed n i
unfolding held_in
empty_held l n i a =
    ap (λ (v : ℕ). record_of (record { state = state_of v; dsc = eqb (get_or l 1 0) 1 }) (get_or l 2 0) (get_or l 3 0)) a.state
    ∙ ap (λ (v : ℕ). record_of (record { state = state_of 0; dsc = eqb v 1 }) (get_or l 2 0) (get_or l 3 0)) a.dsc
    ∙ ap (λ (v : ℕ). record_of closed v (get_or l 3 0)) a.number
    ∙ ap (λ (v : ℕ). record_of closed n v) a.highest

empty_page : (text : Side → ℕ → Body) (sd : Side) (l : List ℕ) (n i : ℕ) → Empty l n i
    → page_of text sd new l ≡ page (record_of closed n i) [] blank 0 false up
empty_page text sd l n i a =
    page_path (empty_held l n i a) (ap (λ (k : ℕ). line_from text sd l k 0) a.entries)
    (notes_path (ap (λ (k : ℕ). jobs_from l k 19472) a.opened) (ap (λ (k : ℕ). notices_from l k 20496) a.notices))
    a.unsent (ap (λ (v : ℕ). not (eqb v 0)) a.waiting) (ap power_of a.power)

empty_broken : (b : List ℕ) → get_or b 0 0 ≡ 0 → broken_of b ≡ (λ (v : ℕ). false)
empty_broken b h = fun_ext (λ (v : ℕ). ap (λ (k : ℕ). among b 1 k v) h)

module _ (text : Side → ℕ → Body) (fresh : Side → Numbered Held) (from : Side) where
  pub record Kept (t : Books) : Type 0 where
    pub near : ℕ → Decision
    pub far : ℕ → Decision
    pub promised : Promised M (sheet_at text fresh from near far t)

  -- THE theorem: where no rule is broken, the promise of the duties holds of the last tables
  pub tables_hold : (n i k j : ℕ) → not_below from n k → (t : Books) → Empty t.air n i → Empty t.ground k j
      → 4097 ≤ length t.broken → get_or t.broken 0 0 ≡ 0
      → (vs : List Turn) → Clean from vs t → Kept (last_books from vs t)
  tables_hold n i k j low t a g full none-broken vs w =
      let r = reaches text fresh from vs t new new (empty_sound t.air n i a) (empty_sound t.ground k j g) (record { full = full; count = omega (arith, none-broken) }) w in
      let q : sheet_at text fresh from new new t ≡ begun text fresh from n i k j =
      ap (λ (p : Page). record { air = p; ground = page_of text Ground new t.ground; broken = broken_of t.broken }) (empty_page text Air t.air n i a)
      ∙ ap (λ (p : Page). record { air = page (record_of closed n i) [] blank 0 false up; ground = p; broken = broken_of t.broken }) (empty_page text Ground t.ground k j g)
      ∙ ap (λ (f : ℕ → Bool). record { air = page (record_of closed n i) [] blank 0 false up; ground = page (record_of closed k j) [] blank 0 false up; broken = f }) (empty_broken t.broken none-broken) in
      record {
        near = r.near;
        far = r.far;
        promised = day_holds text fresh from n i k j low r.moves (sheet_at text fresh from r.near r.far (last_books from vs t))
            (subst (λ (c : Sheet M). MakesAll M (letters text) fresh answers_yes from r.moves c
            (sheet_at text fresh from r.near r.far (last_books from vs t))) q r.makes);
      }

-- ---- the tables that the program begins with: all 0, and in each page the number and the highest job

abbrev pub zeros : ℕ → List ℕ
zeros n = replicate n 0

zero_there : (n k : ℕ) → get_or (zeros n) k 0 ≡ 0
zero_there zero k = refl
zero_there (suc n) zero = refl
zero_there (suc n) (suc k) = zero_there n k

abbrev pub beginning : List ℕ → ℕ → ℕ → List ℕ
beginning l n i = set (set l 2 n) 3 i

begins_empty : (l : List ℕ) (n i : ℕ) → size ≤ length l → ((k : ℕ) → get_or l k 0 ≡ 0) → Empty (beginning l n i) n i
begins_empty l n i full z =
    let x : List ℕ = set l 2 n in
    let m : List ℕ = set x 3 i in
    let p = length-set l 2 n in
    let low : Same l m 0 2 = λ (k : ℕ) (u : 0 ≤ k) (v : k < 2). same_below x 3 i 0 k u (omega (arith, v)) ∙ same_below l 2 n 0 k u v in
    let high : Same l m 4 53264 = same_then l x m 4 53264 (same_above l 2 n 4 53264 (omega arith))
    (same_above x 3 i 4 53264 (omega arith)) in
    record {
      full = omega (arith, full, p, length-set x 3 i);
      state = low 0 (omega arith) (omega arith) ∙ z 0;
      dsc = low 1 (omega arith) (omega arith) ∙ z 1;
      number = get_other x 3 2 i (λ (e : 2 ≡ 3). omega (arith, e)) ∙ get_same l 2 n (omega (arith, full));
      highest = get_same x 3 i (omega (arith, full, p));
      power = high 4 (omega arith) (omega arith) ∙ z 4;
      waiting = high 5 (omega arith) (omega arith) ∙ z 5;
      unsent = high 6 (omega arith) (omega arith) ∙ z 6;
      entries = high 7 (omega arith) (omega arith) ∙ z 7;
      decided = high 8 (omega arith) (omega arith) ∙ z 8;
      opened = high 9 (omega arith) (omega arith) ∙ z 9;
      notices = high 10 (omega arith) (omega arith) ∙ z 10;
    }

-- page, books: so many numbers as the tables have, or more
pub begun_hold : (text : Side → ℕ → Body) (fresh : Side → Numbered Held) (from : Side) (page books : ℕ) → size ≤ page
    → 4097 ≤ books → (n i k j : ℕ) → not_below from n k
    → (vs : List Turn) → Clean from vs (record { air = beginning (zeros page) n i; ground = beginning (zeros page) k j; broken = zeros books })
    → Kept text fresh from (last_books from vs (record { air = beginning (zeros page) n i; ground = beginning (zeros page) k j; broken = zeros books }))
begun_hold text fresh from page books a c n i k j low vs w =
    let e : length (zeros page) ≡ page = length-replicate {A = ℕ} page 0 in
    let f : length (zeros books) ≡ books = length-replicate {A = ℕ} books 0 in
    tables_hold text fresh from n i k j low (record { air = beginning (zeros page) n i; ground = beginning (zeros page) k j; broken = zeros books })
    (begins_empty (zeros page) n i (omega (arith, a, e)) (zero_there page))
    (begins_empty (zeros page) k j (omega (arith, a, e)) (zero_there page)) (omega (arith, c, f))
    (zero_there books 0) vs w
