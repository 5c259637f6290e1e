-- Two ends joined by two lines, one each way, first in first out: document 01, "The carrier in the pair statement", as document 02, E9,
-- words it. The records hold a dialogue number and the entries carry one; an entry of an old dialogue may be handed over after a new start.
use Rattle.std.specs.Prelude.{ℕ, zero, suc, ◌≤◌, ◌≡◌, Bool, true, false, not, cond, ◌&&◌, ◌||◌, List, [], ◌∷◌, ◌++◌, T, eqb}
use Rattle.pair.specs.Names.{Side, Air, Ground, StartReq, is, other}
use Rattle.pair.specs.Carrier.{Body, Sent, nothing, puts, message, Outcome, refused, acts, Sort, begins, breaks, plain, Machine, Step, user_call, hand_over, timer_expires_of, error_reported, turn_away, fail, Turn, idle, is_start, starts, discards}
use Rattle.pair.specs.Claims.{matching, Prefix, rising}

-- a machine whose records hold a dialogue number and whose entries carry one. What is stale the machine itself refuses (6)
pub record NMachine : Type 1 where
  pub at : Machine
  pub holds : at.R → ℕ
  pub carries : at.E → ℕ

-- a party is one end: its record; the line that leaves it, oldest entry first; the messages that it took and that it handed to its user, by
-- the number of the dialogue; every job that it ever took
pub record NParty (m : NMachine) : Type 0 where
  pub rec : m.at.R
  pub line : List m.at.E
  pub taken : ℕ → List Body
  pub handed : ℕ → List Body
  pub jobs : List ℕ

-- broken: whether a D-ABORT or a carrier failure broke the dialogue of a number. A step is written for the end `here`
pub record NSys (m : NMachine) : Type 0 where
  pub here : NParty m
  pub there : NParty m
  pub broken : ℕ → Bool

-- a history with l behind what it has of dialogue n
abbrev pub more : (ℕ → List Body) → ℕ → List Body → ℕ → List Body
more f n l j = cond (eqb n j) (f j ++ l) (f j)

-- from: the side that all starts come from; is sd that side
abbrev pub starter : Side → Side → Bool
starter Air Air = true
starter Air Ground = false
starter Ground Air = false
starter Ground Ground = true

-- "that end begins with a number not below the other's"; a: the air end's number, g: the ground end's
abbrev pub not_below : Side → ℕ → ℕ → Type 0
not_below Air a g = g ≤ a
not_below Ground a g = a ≤ g

module _ (m : NMachine) where
  -- the same two ends, seen from the other one
  abbrev pub n_swap : NSys m → NSys m
  n_swap s = record { here = s.there; there = s.here; broken = s.broken }

  -- at the beginning both lines are empty
  abbrev pub n_new : m.at.R → NParty m
  n_new r = record { rec = r; line = []; taken = λ (j : ℕ). []; handed = λ (j : ℕ). []; jobs = [] }

  abbrev pub n_fresh : m.at.R → m.at.R → NSys m
  n_fresh r q = record { here = n_new r; there = n_new q; broken = λ (j : ℕ). false }

  abbrev pub n_line : NParty m → List m.at.E → NParty m
  n_line x l = record { rec = x.rec; line = l; taken = x.taken; handed = x.handed; jobs = x.jobs }

  -- when an end invokes D-ABORT, the entries that it sent earlier in that dialogue, n, and that are not yet delivered may be lost, youngest
  -- first, all but `keep`
  abbrev pub trim : ℕ → ℕ → List m.at.E → List m.at.E
  trim n zero [] = []
  trim n (suc k) [] = []
  trim n zero (e ∷ l) = cond (eqb (m.carries e) n) (trim n zero l) (e ∷ trim n zero l)
  trim n (suc k) (e ∷ l) = cond (eqb (m.carries e) n) (e ∷ trim n k l) (e ∷ trim n (suc k) l)

  -- the D-ABORT itself is not lost
  abbrev pub n_cut : ℕ → List m.at.E → m.at.E → List m.at.E
  n_cut keep l e = trim (m.carries e) keep l ++ (e ∷ [])

  -- an entry goes behind the others on the line. (No history is cleared at a start: those of its number are empty)
  abbrev pub n_put : Sort → NSys m → m.at.E → ℕ → NSys m
  n_put begins s e keep = record { here = n_line s.here (s.here.line ++ (e ∷ [])); there = s.there; broken = s.broken }
  n_put breaks s e keep = record { here = n_line s.here (n_cut keep s.here.line e); there = s.there; broken = λ (j : ℕ). eqb (m.carries e) j || s.broken j }
  n_put plain s e keep = record { here = n_line s.here (s.here.line ++ (e ∷ [])); there = s.there; broken = s.broken }

  abbrev pub n_took : NSys m → ℕ → Body → ℕ → NSys m
  n_took s n b i =
      record {
        here = record { rec = s.here.rec; line = s.here.line; taken = more s.here.taken n (b ∷ []); handed = s.here.handed; jobs = s.here.jobs ++ (i ∷ []) };
        there = s.there;
        broken = s.broken;
      }

  abbrev pub n_sent : NSys m → Sent m.at.E → ℕ → NSys m
  n_sent s nothing keep = s
  n_sent s (puts e) keep = n_put (m.at.sort e) s e keep
  n_sent s (message e b i) keep = n_took (n_put (m.at.sort e) s e keep) (m.carries e) b i

  -- what is handed out belongs to the dialogue that the record holds after the event
  abbrev pub n_left : NSys m → m.at.R → List Body → NSys m
  n_left s r l =
      record {
        here = record { rec = r; line = s.here.line; taken = s.here.taken; handed = more s.here.handed (m.holds r) l; jobs = s.here.jobs };
        there = s.there;
        broken = s.broken;
      }

  abbrev pub n_did : NSys m → Outcome m.at.R m.at.E → ℕ → NSys m
  n_did s refused keep = s
  n_did s (acts r l p) keep = n_left (n_sent s p keep) r l

  -- a start needs both ends IDLE; old entries may be on the lines. may: all starts come from this end
  abbrev pub n_ready : NSys m → Bool
  n_ready s = idle m.at s.here.rec && idle m.at s.there.rec

  abbrev pub n_called : Bool → NSys m → Outcome m.at.R m.at.E → ℕ → NSys m
  n_called may s refused keep = s
  n_called may s (acts r l p) keep = cond (not (starts m.at p) || (may && n_ready s)) (n_did s (acts r l p) keep) s

  -- the oldest entry of a line is handed over. A stale one is refused by the machine and is gone
  abbrev pub n_off : NSys m → List m.at.E → NSys m
  n_off s l = record { here = s.here; there = n_line s.there l; broken = s.broken }

  abbrev pub n_handed_over : Side → NSys m → List m.at.E → ℕ → NSys m
  n_handed_over sd s [] keep = s
  n_handed_over sd s (e ∷ l) keep = cond (discards m.at s.here.rec e) (n_off s l) (n_did (n_off s l) (m.at.receive sd s.here.rec e) keep)

  -- while the starting end is in START-REQ, the carrier removes its undelivered start, the one of the number that the end holds, and turns
  -- it away at once
  abbrev pub start_of : ℕ → m.at.E → Bool
  start_of n e = is_start m.at e && eqb (m.carries e) n

  abbrev pub n_has_start : ℕ → List m.at.E → Bool
  n_has_start n [] = false
  n_has_start n (e ∷ l) = start_of n e || n_has_start n l

  abbrev pub n_without_start : ℕ → List m.at.E → List m.at.E
  n_without_start n [] = []
  n_without_start n (e ∷ l) = cond (start_of n e) l (e ∷ n_without_start n l)

  abbrev pub n_may_turn_away : NSys m → Bool
  n_may_turn_away s = is (m.at.ctl s.here.rec).state StartReq && n_has_start (m.holds s.here.rec) s.here.line

  abbrev pub n_recalled : NSys m → NSys m
  n_recalled s = record { here = n_line s.here (n_without_start (m.holds s.here.rec) s.here.line); there = s.there; broken = s.broken }

  abbrev pub n_turned_away : Side → NSys m → ℕ → NSys m
  n_turned_away sd s keep = cond (n_may_turn_away s) (n_did (n_recalled s) (m.at.away sd s.here.rec) keep) s

  -- the carrier fails, empties both lines and gives D-P-ABORT to each end that is not IDLE. That breaks each dialogue that such an end is in
  -- or that has an entry on a line; one that both ends have closed, with nothing left of it on a line, it does not break
  abbrev pub on_line : List m.at.E → ℕ → Bool
  on_line [] j = false
  on_line (e ∷ l) j = eqb (m.carries e) j || on_line l j

  abbrev pub within : NParty m → ℕ → Bool
  within x j = not (idle m.at x.rec) && eqb (m.holds x.rec) j

  abbrev pub alive : NSys m → ℕ → Bool
  alive s j = within s.here j || (within s.there j || (on_line s.here.line j || on_line s.there.line j))

  abbrev pub n_emptied : NSys m → NSys m
  n_emptied s = record { here = n_line s.here []; there = n_line s.there []; broken = λ (j : ℕ). alive s j || s.broken j }

  abbrev pub n_told_lost : Side → NSys m → NSys m
  n_told_lost sd s = cond (idle m.at s.here.rec) s (n_did s (m.at.p_abort sd s.here.rec) 0)

  abbrev pub n_failed : Side → NSys m → NSys m
  n_failed sd s = n_swap (n_told_lost (other sd) (n_swap (n_told_lost sd (n_emptied s))))

  abbrev pub n_stepped : Bool → Side → NSys m → Step m.at.A → NSys m
  n_stepped may sd s (user_call a keep) = n_called may s (m.at.call sd s.here.rec a) keep
  n_stepped may sd s (hand_over keep) = n_handed_over sd s s.there.line keep
  n_stepped may sd s (timer_expires_of keep) = n_did s (m.at.expiry sd s.here.rec) keep
  n_stepped may sd s (error_reported keep) = n_did s (m.at.error sd s.here.rec) keep
  n_stepped may sd s (turn_away keep) = n_turned_away sd s keep
  n_stepped may sd s fail = n_failed sd s

  -- `here` is the air end
  abbrev pub n_turned : Side → Side → NSys m → Step m.at.A → NSys m
  n_turned from Air s c = n_stepped (starter from Air) Air s c
  n_turned from Ground s c = n_swap (n_stepped (starter from Ground) Ground (n_swap s) c)

  unfoldable pub n_run : Side → NSys m → List (Turn m.at.A) → NSys m
  n_run from s [] = s
  n_run from s (t ∷ ts) = n_run from (n_turned from t.side s t.step) ts

-- ---- the claims, by number; i, k: the highest jobs at the beginning

pub record NClaims (m : NMachine) (i k : ℕ) (s : NSys m) : Type 0 where
  -- both lines empty: the two ends are a matching pair
  pub ends_match : s.here.line ≡ [] → s.there.line ≡ [] → T (matching (m.at.ctl s.here.rec) (m.at.ctl s.there.rec))
  -- what an end handed out in a dialogue is the beginning of what the other took in it, in that order
  pub handed_in_order : (j : ℕ) → Prefix (s.there.handed j) (s.here.taken j) × Prefix (s.here.handed j) (s.there.taken j)
  -- and all of it, if both lines are empty and nothing broke the dialogue
  pub handed_all : (j : ℕ) → s.here.line ≡ [] → s.there.line ≡ [] → s.broken j ≡ false → (s.there.handed j ≡ s.here.taken j) × (s.here.handed j ≡ s.there.taken j)
  -- each end takes its jobs in strictly rising order, over all its dialogues: none is taken twice
  pub jobs_rise : T (rising i s.here.jobs) × T (rising k s.there.jobs)

-- ---- numbers beside records, entries and calls

-- something with a number: a record with the one it holds, an entry with the one it carries, a call with the one that the host gives
pub record Numbered (X : Type 0) : Type 0 where
  pub no : ℕ
  pub it : X

abbrev pub mark : {X : Type 0} → ℕ → X → Numbered X
mark n x = record { no = n; it = x }
