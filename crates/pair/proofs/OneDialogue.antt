-- The carrier as one dialogue by itself sees it, without numbers: the steps of `Numbered` on the entries of one dialogue, a start when nothing is on the
-- lines, and the claims of demand 3. The proof with numbers sees every dialogue as a run of this one (NumberedView).
use Prim.Native.Nat.{ℕ}
use mathlib.Core.Path.{◌≡◌}
use mathlib.Core.Bool.{Bool, true, false, not, cond, ◌&&◌, ◌||◌}
use mathlib.Core.List.{List, [], ◌∷◌, ◌++◌}
use lib.Dec.{T}
use lib.ListN.{take}
use Rattle.pair.specs.Names.{Side, Air, Ground, StartReq, is, other}
use Rattle.pair.specs.Carrier.{Body, Sent, nothing, puts, message, Outcome, refused, acts, Sort, begins, breaks, plain, Machine, Step, user_call, hand_over, timer_expires_of, error_reported, turn_away, fail, Turn, idle, is_start, starts, discards}
use Rattle.pair.specs.Claims.{matching, Prefix, rising}

-- a party is one end: its record; the line that leaves it, oldest entry first; the messages that it took and that it handed to
-- its user in this dialogue; every job that it ever took
pub record Party (m : Machine) : Type 0 where
  pub rec : m.R
  pub line : List m.E
  pub taken : List Body
  pub handed : List Body
  pub jobs : List ℕ

-- broken: a D-ABORT or a carrier failure broke this dialogue. A step is written for the end `here`
pub record Sys (m : Machine) : Type 0 where
  pub here : Party m
  pub there : Party m
  pub broken : Bool

abbrev pub is_nil : {X : Type 0} → List X → Bool
is_nil [] = true
is_nil (e ∷ l) = false

module _ (m : Machine) where
  -- the same two ends, seen from the other one
  abbrev pub swap : Sys m → Sys m
  swap s = record { here = s.there; there = s.here; broken = s.broken }

  -- at the beginning both lines are empty
  abbrev pub new_end : m.R → Party m
  new_end r = record { rec = r; line = []; taken = []; handed = []; jobs = [] }

  abbrev pub fresh : m.R → m.R → Sys m
  fresh r q = record { here = new_end r; there = new_end q; broken = false }

  abbrev pub with_line : Party m → List m.E → Party m
  with_line x l = record { rec = x.rec; line = l; taken = x.taken; handed = x.handed; jobs = x.jobs }

  -- ---- what an event does to the two ends

  -- in a new dialogue no message has been taken or handed out
  abbrev pub anew : Party m → Party m
  anew x = record { rec = x.rec; line = x.line; taken = []; handed = []; jobs = x.jobs }

  -- when an end invokes D-ABORT, the entries that it sent earlier and that are not yet delivered may be lost, youngest first,
  -- all but `keep`; the D-ABORT itself is not lost
  abbrev pub cut : ℕ → List m.E → m.E → List m.E
  cut keep l e = take keep l ++ (e ∷ [])

  -- an entry goes behind the others on the line
  abbrev pub put : Sort → Sys m → m.E → ℕ → Sys m
  put begins s e keep = record { here = with_line (anew s.here) (s.here.line ++ (e ∷ [])); there = anew s.there; broken = false }
  put breaks s e keep = record { here = with_line s.here (cut keep s.here.line e); there = s.there; broken = true }
  put plain s e keep = record { here = with_line s.here (s.here.line ++ (e ∷ [])); there = s.there; broken = s.broken }

  abbrev pub took : Sys m → Body → ℕ → Sys m
  took s b j =
      record {
        here = record { rec = s.here.rec; line = s.here.line; taken = s.here.taken ++ (b ∷ []); handed = s.here.handed; jobs = s.here.jobs ++ (j ∷ []) };
        there = s.there;
        broken = s.broken;
      }

  abbrev pub sent : Sys m → Sent m.E → ℕ → Sys m
  sent s nothing keep = s
  sent s (puts e) keep = put (m.sort e) s e keep
  sent s (message e b j) keep = took (put (m.sort e) s e keep) b j

  abbrev pub left : Sys m → m.R → List Body → Sys m
  left s r l =
      record {
        here = record { rec = r; line = s.here.line; taken = s.here.taken; handed = s.here.handed ++ l; jobs = s.here.jobs };
        there = s.there;
        broken = s.broken;
      }

  abbrev pub did : Sys m → Outcome m.R m.E → ℕ → Sys m
  did s refused keep = s
  did s (acts r l p) keep = left (sent s p keep) r l

  -- ---- a user call: a start only when both ends are IDLE and both lines empty

  abbrev pub ready : Sys m → Bool
  ready s = idle m s.here.rec && (idle m s.there.rec && (is_nil s.here.line && is_nil s.there.line))

  abbrev pub called : Sys m → Outcome m.R m.E → ℕ → Sys m
  called s refused keep = s
  called s (acts r l p) keep = cond (not (starts m p) || ready s) (did s (acts r l p) keep) s

  -- ---- the oldest entry of a line is handed over

  abbrev pub off : Sys m → List m.E → Sys m
  off s l = record { here = s.here; there = with_line s.there l; broken = s.broken }

  abbrev pub handed_over : Side → Sys m → List m.E → ℕ → Sys m
  handed_over sd s [] keep = s
  handed_over sd s (e ∷ l) keep = cond (discards m s.here.rec e) (off s l) (did (off s l) (m.receive sd s.here.rec e) keep)

  -- ---- while the starting end is in START-REQ, the carrier removes its undelivered start and turns it away at once

  abbrev pub has_start : List m.E → Bool
  has_start [] = false
  has_start (e ∷ l) = is_start m e || has_start l

  abbrev pub without_start : List m.E → List m.E
  without_start [] = []
  without_start (e ∷ l) = cond (is_start m e) l (e ∷ without_start l)

  abbrev pub may_turn_away : Sys m → Bool
  may_turn_away s = is (m.ctl s.here.rec).state StartReq && has_start s.here.line

  abbrev pub recalled : Sys m → Sys m
  recalled s = record { here = with_line s.here (without_start s.here.line); there = s.there; broken = s.broken }

  abbrev pub turned_away : Side → Sys m → ℕ → Sys m
  turned_away sd s keep = cond (may_turn_away s) (did (recalled s) (m.away sd s.here.rec) keep) s

  -- ---- the carrier fails, empties both lines and gives D-P-ABORT to each end that is not IDLE

  abbrev pub emptied : Sys m → Sys m
  emptied s = record { here = with_line s.here []; there = with_line s.there []; broken = true }

  abbrev pub told_lost : Side → Sys m → Sys m
  told_lost sd s = cond (idle m s.here.rec) s (did s (m.p_abort sd s.here.rec) 0)

  abbrev pub failed : Side → Sys m → Sys m
  failed sd s = swap (told_lost (other sd) (swap (told_lost sd (emptied s))))

  -- ---- runs

  abbrev pub stepped : Side → Sys m → Step m.A → Sys m
  stepped sd s (user_call a keep) = called s (m.call sd s.here.rec a) keep
  stepped sd s (hand_over keep) = handed_over sd s s.there.line keep
  stepped sd s (timer_expires_of keep) = did s (m.expiry sd s.here.rec) keep
  stepped sd s (error_reported keep) = did s (m.error sd s.here.rec) keep
  stepped sd s (turn_away keep) = turned_away sd s keep
  stepped sd s fail = failed sd s

  -- `here` is the air end
  abbrev pub turned : Side → Sys m → Step m.A → Sys m
  turned Air s c = stepped Air s c
  turned Ground s c = swap (stepped Ground (swap s) c)

  unfoldable pub run : Sys m → List (Turn m.A) → Sys m
  run s [] = s
  run s (t ∷ ts) = run (turned t.side s t.step) ts

-- ---- the claims

-- i, j: the highest jobs that the two ends had taken when the run began
pub record Claims (m : Machine) (i j : ℕ) (s : Sys m) : Type 0 where
  -- both lines empty: the two ends are a matching pair
  pub ends_match : s.here.line ≡ [] → s.there.line ≡ [] → T (matching (m.ctl s.here.rec) (m.ctl s.there.rec))
  -- what an end handed out in this dialogue is the beginning of what the other took in it, in that order
  pub handed_in_order : Prefix s.there.handed s.here.taken × Prefix s.here.handed s.there.taken
  -- and all of it, if both lines are empty and nothing broke the dialogue
  pub handed_all : s.here.line ≡ [] → s.there.line ≡ [] → s.broken ≡ false
      → (s.there.handed ≡ s.here.taken) × (s.here.handed ≡ s.there.taken)
  -- each end takes its jobs in strictly rising order, over all its dialogues: none is taken twice
  pub jobs_rise : T (rising i s.here.jobs) × T (rising j s.there.jobs)
