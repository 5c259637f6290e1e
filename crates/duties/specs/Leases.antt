-- Several hosts share the journal of a dialogue (docs/BRIDGE.md, "With a database"). One has the dialogue, by a lease, and another may take it over at any time. The one
-- that had it still believes that it has, with its record and its notes in memory; the fence refuses what it commits, and so nothing of that leaves.
use Rattle.std.specs.Prelude.{ℕ, zero, suc, Bool, false, cond, List, [], ◌∷◌}
use Rattle.pair.specs.Names.{Side, Air, Ground}
use Rattle.pair.specs.Numbered.{NMachine, starter}
use Rattle.duties.specs.Memory.{Notes}
use Rattle.duties.specs.Host.{Habits, Power, up, apart, down, Hosts, Act, d_swap, with_rec, lost, cut_off_of, acted, d_stepped}

-- a host that had the dialogue: what it has in memory
pub record Deposed (m : NMachine) : Type 0 where
  pub rec : m.at.R
  pub notes : Notes

-- the hosts that have the dialogue, at both ends, with their journals; and those that had it
pub record Shared (m : NMachine) : Type 0 where
  pub hosts : Hosts m
  pub here : List (Deposed m)
  pub there : List (Deposed m)

pub data Shift (A : Type 0) : Type 0 where
  -- the host that has the dialogue does what it does in Host
  holder : Act A → Shift A
  -- another takes over: it loads what was kept
  takes_over : Shift A
  -- one that had it (by its place among them) makes a call with what it has in memory, and commits that
  wakes : ℕ → Act A → Shift A

pub record LMove (A : Type 0) : Type 0 where
  pub side : Side
  pub shift : Shift A

-- fence: a commit holds only where the number of the lease is still the host's own
module _ (m : NMachine) (h : Habits) (letter : Side → ℕ → m.at.A) (fresh : Side → m.at.R) (accepts : m.at.E → Bool) (fence : Bool) where
  -- it tells the open jobs as broken, and is apart until the other end has heard (the record hears D-P-ABORT: Host, cut_off_of). What the other one had committed and not sent
  -- may leave late, until then, or never
  abbrev pub take_over : Power → Side → Hosts m → Hosts m
  take_over up sd s = cut_off_of m h letter fresh accepts (lost m h letter fresh accepts sd s)
  take_over apart sd s = cut_off_of m h letter fresh accepts (lost m h letter fresh accepts sd s)
  take_over down sd s = cut_off_of m h letter fresh accepts s

  -- one that is down has nothing in memory
  abbrev pub deposed : Power → Hosts m → List (Deposed m) → List (Deposed m)
  deposed up s l = record { rec = s.ends.here.rec; notes = s.here.notes } ∷ l
  deposed apart s l = record { rec = s.ends.here.rec; notes = s.here.notes } ∷ l
  deposed down s l = l

  -- without the fence: it acts with its own record and notes, and commits over what the other one has kept; what that one has in memory stays
  abbrev pub intrudes : Bool → Side → Hosts m → Deposed m → Act m.at.A → Hosts m
  intrudes may sd s o a =
      let x = s.here in
      let v = acted m h letter fresh accepts may sd (record { ends = with_rec m h letter fresh accepts s.ends o.rec; here = record { notes = o.notes; kept = x.kept; kept_rec = x.kept_rec; unsent = x.unsent; power = up; done = x.done; log = x.log; waiting = false; seen = x.seen }; there = s.there }) a in
      record {
        ends = with_rec m h letter fresh accepts v.ends s.ends.here.rec;
        here = record { notes = x.notes; kept = v.here.kept; kept_rec = v.here.kept_rec; unsent = v.here.unsent; power = x.power; done = v.here.done; log = v.here.log; waiting = x.waiting; seen = v.here.seen };
        there = v.there;
      }

  abbrev pub intruded : Bool → Side → Hosts m → ℕ → List (Deposed m) → Act m.at.A → Hosts m
  intruded may sd s n [] a = s
  intruded may sd s zero (o ∷ l) a = intrudes may sd s o a
  intruded may sd s (suc n) (o ∷ l) a = intruded may sd s n l a

  abbrev pub l_stepped : Bool → Side → Shared m → Shift m.at.A → Shared m
  l_stepped may sd x (holder a) = record { hosts = d_stepped m h letter fresh accepts may sd x.hosts a; here = x.here; there = x.there }
  l_stepped may sd x takes_over = record { hosts = take_over x.hosts.here.power sd x.hosts; here = deposed x.hosts.here.power x.hosts x.here; there = x.there }
  l_stepped may sd x (wakes n a) = cond fence x (record { hosts = intruded may sd x.hosts n x.here a; here = x.here; there = x.there })

  abbrev pub l_swap : Shared m → Shared m
  l_swap x = record { hosts = d_swap m h letter fresh accepts x.hosts; here = x.there; there = x.here }

  abbrev pub l_turned : Side → Side → Shared m → Shift m.at.A → Shared m
  l_turned from Air x a = l_stepped (starter from Air) Air x a
  l_turned from Ground x a = l_swap (l_stepped (starter from Ground) Ground (l_swap x) a)

  unfoldable pub l_run : Side → Shared m → List (LMove m.at.A) → Shared m
  l_run from x [] = x
  l_run from x (v ∷ vs) = l_run from (l_turned from v.side x v.shift) vs

  -- at the beginning nobody was deposed
  abbrev pub alone_first : Hosts m → Shared m
  alone_first s = record { hosts = s; here = []; there = [] }
