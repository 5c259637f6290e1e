-- Two centres, the host of each, and the broker of the one that forwards (docs/HOST.md, duties 13 to 15; document 02, E8 and E9). All forwards go one way: `here`
-- forwards, and `there` gets them; for the other way a centre has another record (duty 15). A host, its habits and what it does with a job are those of crate
-- duties. A forward has no job number in the card: the host keeps which jobs it took (duty 13), and the number of its start ties a forward to its job.
use Rattle.std.specs.Prelude.{ℕ, suc, Bool, true, false, not, cond, ◌&&◌, List, [], ◌∷◌, ◌++◌}
use Rattle.pair.specs.Names.{Side, Ground}
use Rattle.pair.specs.Carrier.{nothing, puts, message, Outcome, refused, acts, Step, user_call, hand_over, timer_expires_of, error_reported, turn_away, fail, idle, is_start, starts, discards}
use Rattle.pair.specs.Numbered.{NMachine, NSys, n_ready, n_fresh}
use Rattle.pair.specs.Centres.{both_fail, centre_stepped}
use Rattle.duties.specs.Memory.{Notes, takes, tells, told_ended, told_broken}
use Rattle.duties.specs.Memory.{up as oneMore}
use Rattle.duties.specs.Host.{Habits, Power, up, apart, down, Hosts, d_swap, commits, logs, ready, refusing, passes, laid_aside, arrived, released, acknowledges, settled, lost, told_of, rejoins, new_host}

-- ---- what a centre's user is told

pub data Result : Type 0 where
  none success another : Result

pub record Words (m : NMachine) : Type 0 where
  -- a forward, by the event that hands an entry over and answers it (2.3.5.5.2.3 a)
  pub indicates : m.at.R → m.at.E → Bool
  -- the result of its own forward (2.3.5.5.3.3)
  pub confirms : m.at.R → m.at.E → Result

-- ---- the two centres

-- declined: the jobs whose notice says "answered" with another result than success
pub record Desks (m : NMachine) : Type 0 where
  pub both : Hosts m
  pub declined : List ℕ

-- what the broker of the centre that forwards brings, as in crate duties
pub data Job : Type 0 where
  deliver lay_aside acknowledge : ℕ → Job
  give_up : Job

-- what happens at either centre: an event of crate pair; the user is shown the forward that was handed out; the oldest entry that has not left leaves; the power
-- fails; the host hears that the connection is lost, or comes up; both have heard
pub data Event (A : Type 0) : Type 0 where
  happens : Step A → Event A
  shows release power_fails cut_off carrier_fails : Event A

-- answered: the answer to its forward is handed to the centre that forwards, and its job is told the result. at: true is the centre that forwards
pub data Move (A : Type 0) : Type 0 where
  job : Job → Move A
  answered : Move A
  at : Bool → Event A → Move A

-- h: the habits of both hosts; order: the forward request of a job, with the number that the host chooses for it; fresh: a record that peat_fresh made
module _ (m : NMachine) (w : Words m) (h : Habits) (order : m.at.R → ℕ → m.at.A) (fresh : Side → m.at.R) where
  -- crate duties has two words that mean nothing here: a message request, and an accepted end
  abbrev pub letter : Side → ℕ → m.at.A
  letter sd j = order (fresh sd) j

  abbrev pub accepts : m.at.E → Bool
  accepts e = false

  -- ---- a job

  -- its forward is sent, with the number of the start
  abbrev pub taking : Hosts m → ℕ → m.at.E → Hosts m
  taking s j e =
      let t = centre_stepped m true s.ends (user_call (order s.ends.here.rec j) 0) in
      record { ends = t; here = logs m h letter fresh accepts (record { job = j; no = m.carries e; body = [] }) (commits m h letter fresh accepts t.here.rec (takes j s.here.notes) (suc s.here.unsent) false s.here); there = s.there }

  abbrev pub offered : Hosts m → ℕ → Outcome m.at.R m.at.E → Hosts m
  offered s j refused = refusing m h letter fresh accepts s j
  offered s j (acts r l nothing) = s
  offered s j (acts r l (puts e)) = cond (is_start m.at e && n_ready m s.ends) (taking s j e) s
  offered s j (acts r l (message e b i)) = s

  -- what was decided is not put to the card again
  abbrev pub delivered : Hosts m → ℕ → Hosts m
  delivered s j = cond (passes m h letter fresh accepts s j) s (offered s j (m.at.call Ground s.ends.here.rec (order s.ends.here.rec j)))

  abbrev pub acknowledged : Hosts m → ℕ → Hosts m
  acknowledged s j = record { ends = s.ends; here = acknowledges m h letter fresh accepts j s.here; there = s.there }

  -- of a host that is up; apart from the other centre, when it refuses what is new; and down
  abbrev pub served : Power → Hosts m → Job → Hosts m
  served up s (deliver j) = cond (ready m h letter fresh accepts s.here) (delivered s j) s
  served up s (lay_aside j) = laid_aside m h letter fresh accepts s j
  served up s (acknowledge j) = acknowledged s j
  served up s give_up = settled m h letter fresh accepts told_broken s
  served apart s (deliver j) = laid_aside m h letter fresh accepts s j
  served apart s (lay_aside j) = laid_aside m h letter fresh accepts s j
  served apart s (acknowledge j) = acknowledged s j
  served apart s give_up = s
  served down s b = s

  -- ---- an event of the pair

  abbrev pub is_done : Outcome m.at.R m.at.E → Bool
  is_done refused = false
  is_done (acts r l p) = true

  -- what is handed over tells the user of a forward
  abbrev pub heard_forward : m.at.R → List m.at.E → Bool
  heard_forward r [] = false
  heard_forward r (e ∷ l) = not (discards m.at r e) && (is_done (m.at.receive Ground r e) && w.indicates r e)

  abbrev pub hands_out : NSys m → Step m.at.A → Bool
  hands_out s (user_call a k) = false
  hands_out s (hand_over k) = heard_forward s.here.rec s.there.line
  hands_out s (timer_expires_of k) = false
  hands_out s (error_reported k) = false
  hands_out s (turn_away k) = false
  hands_out s fail = false

  -- forwards are jobs: no other call starts
  abbrev pub forwards : Outcome m.at.R m.at.E → Bool
  forwards refused = false
  forwards (acts r l p) = starts m.at p

  abbrev pub may_happen : Hosts m → Step m.at.A → Bool
  may_happen s (user_call a k) = not (forwards (m.at.call Ground s.ends.here.rec a))
  may_happen s (hand_over k) = arrived m h letter fresh accepts s
  may_happen s (timer_expires_of k) = true
  may_happen s (error_reported k) = true
  may_happen s (turn_away k) = true
  may_happen s fail = false

  -- a forward that is over without its answer: its job is told as broken
  abbrev pub afterwards : m.at.R → m.at.R → Notes → Notes
  afterwards r q n = cond (h.tells_broken && (not (idle m.at r) && idle m.at q)) (tells told_broken n) n

  abbrev pub happened : Bool → Hosts m → Step m.at.A → Hosts m
  happened may s c =
      let t = centre_stepped m may s.ends c in
      record { ends = t; here = commits m h letter fresh accepts t.here.rec (afterwards s.ends.here.rec t.here.rec s.here.notes) (suc s.here.unsent) (hands_out s.ends c) s.here; there = s.there }

  -- ---- the answer

  abbrev pub heard_result : m.at.R → List m.at.E → Result
  heard_result r [] = none
  heard_result r (e ∷ l) = cond (discards m.at r e) none (cond (is_done (m.at.receive Ground r e)) (w.confirms r e) none)

  abbrev pub answering : Hosts m → Hosts m
  answering s =
      let t = centre_stepped m true s.ends (hand_over 0) in
      record { ends = t; here = commits m h letter fresh accepts t.here.rec (tells told_ended s.here.notes) (suc s.here.unsent) false s.here; there = s.there }

  abbrev pub told : Result → Desks m → Desks m
  told none d = d
  told success d = record { both = answering d.both; declined = d.declined }
  told another d = record { both = answering d.both; declined = d.declined ++ d.both.here.notes.opened }

  abbrev pub is_up_of : Power → Bool
  is_up_of up = true
  is_up_of apart = false
  is_up_of down = false

  abbrev pub gets_answer : Desks m → Desks m
  gets_answer d =
      let s = d.both in
      cond (is_up_of s.here.power && (ready m h letter fresh accepts s.here && arrived m h letter fresh accepts s)) (told (heard_result s.ends.here.rec s.ends.there.line) d) d

  -- ---- the other events

  -- a forward was shown, or is kept to be shown, under its number
  abbrev pub showing : Hosts m → Hosts m
  showing s =
      let x = s.here in
      record { ends = s.ends; here = record { notes = x.notes; kept = x.kept; kept_rec = x.kept_rec; unsent = x.unsent; power = x.power; done = x.done; log = x.log; waiting = false; seen = cond x.waiting (oneMore x.seen (m.holds s.ends.here.rec)) x.seen }; there = s.there }

  -- duty 14: the answer leaves when its user has the message
  abbrev pub releasing : Hosts m → Hosts m
  releasing s = cond (ready m h letter fresh accepts s.here) (record { ends = s.ends; here = released m h letter fresh accepts s.here; there = s.there }) s

  -- the open job is told as broken. What has not left does not leave any more
  abbrev pub cut_off_of : Hosts m → Hosts m
  cut_off_of s =
      let x = told_of m h letter fresh accepts s.ends.here.rec apart s.here in
      record { ends = s.ends; here = record { notes = x.notes; kept = x.kept; kept_rec = x.kept_rec; unsent = s.here.unsent; power = x.power; done = x.done; log = x.log; waiting = x.waiting; seen = x.seen }; there = s.there }

  abbrev pub carrier_failed : Hosts m → Hosts m
  carrier_failed s =
      let t = both_fail m s.ends in
      record { ends = t; here = told_of m h letter fresh accepts t.here.rec up s.here; there = told_of m h letter fresh accepts t.there.rec (rejoins m h letter fresh accepts s.there.power) s.there }

  -- may: this is the centre that forwards
  abbrev pub occurs : Bool → Power → Hosts m → Event m.at.A → Hosts m
  occurs may up s (happens c) = cond (ready m h letter fresh accepts s.here && may_happen s c) (happened may s c) s
  occurs may apart s (happens c) = s
  occurs may down s (happens c) = s
  occurs may up s shows = showing s
  occurs may apart s shows = showing s
  occurs may down s shows = s
  occurs may up s release = releasing s
  occurs may apart s release = s
  occurs may down s release = s
  occurs may up s power_fails = lost m h letter fresh accepts Ground s
  occurs may apart s power_fails = lost m h letter fresh accepts Ground s
  occurs may down s power_fails = s
  occurs may up s cut_off = cut_off_of s
  occurs may apart s cut_off = s
  occurs may down s cut_off = cut_off_of s
  occurs may p s carrier_fails = carrier_failed s

  -- ---- runs

  abbrev pub from : Hosts m → Desks m → Desks m
  from s d = record { both = s; declined = d.declined }

  abbrev pub swapped : Hosts m → Hosts m
  swapped s = d_swap m h letter fresh accepts s

  abbrev pub f_moved : Desks m → Move m.at.A → Desks m
  f_moved d (job b) = from (served d.both.here.power d.both b) d
  f_moved d answered = gets_answer d
  f_moved d (at true a) = from (occurs true d.both.here.power d.both a) d
  f_moved d (at false a) = from (swapped (occurs false d.both.there.power (swapped d.both) a)) d

  unfoldable pub f_run : Desks m → List (Move m.at.A) → Desks m
  f_run d [] = d
  f_run d (v ∷ vs) = f_run (f_moved d v) vs

  -- at the beginning: two IDLE records; no job was decided
  abbrev pub f_fresh : m.at.R → m.at.R → Desks m
  f_fresh r q = record { both = record { ends = n_fresh m r q; here = new_host m h letter fresh accepts r; there = new_host m h letter fresh accepts q }; declined = [] }
