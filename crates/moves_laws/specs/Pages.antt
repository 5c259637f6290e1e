-- What the program replay holds of two ends and their hosts, and what it means that a move leads from there to there: it is a step of crate duties, whatever
-- the program does not hold.
use Rattle.std.specs.Prelude.{ℕ, ◌≡◌, Bool, not, cond, ◌&&◌, ◌||◌, List, [], ◌∷◌, eqb}
use Rattle.pair.specs.Names.{Side, Air, Ground}
use Rattle.pair.specs.Carrier.{Body, idle}
use Rattle.pair.specs.Numbered.{NMachine, NParty, starter}
use Rattle.duties.specs.Memory.{Notes, tells, told_broken, Took}
use Rattle.duties.specs.Host.{right, Power, Host, Hosts, Act, Move, d_stepped}
use Rattle.duties.specs.Promise.{DutyPromise}

-- what it holds of an end and its host
pub record Page (m : NMachine) : Type 0 where
  pub rec : m.at.R
  pub line : List m.at.E
  pub notes : Notes
  pub unsent : ℕ
  pub waiting : Bool
  pub power : Power

-- and what it does not hold
pub record Beside : Type 0 where
  pub taken : ℕ → List Body
  pub handed : ℕ → List Body
  pub jobs : List ℕ
  pub done : ℕ → Bool
  pub log : List Took
  pub seen : ℕ → ℕ

-- both ends, and the dialogues that broke
pub record Sheet (m : NMachine) : Type 0 where
  pub air : Page m
  pub ground : Page m
  pub broken : ℕ → Bool

module _ (m : NMachine) where
  abbrev pub party_of : Page m → Beside → NParty m
  party_of p g = record { rec = p.rec; line = p.line; taken = g.taken; handed = g.handed; jobs = g.jobs }

  -- what is in memory is kept
  abbrev pub host_of : Page m → Beside → Host m
  host_of p g = record { notes = p.notes; kept = p.notes; kept_rec = p.rec; unsent = p.unsent; power = p.power; done = g.done; log = g.log; waiting = p.waiting; seen = g.seen }

  abbrev pub state_of : Page m → Page m → (ℕ → Bool) → Beside → Beside → Hosts m
  state_of p z br g k = record { ends = record { here = party_of p g; there = party_of z k; broken = br }; here = host_of p g; there = host_of z k }

  abbrev pub sheet_state : Sheet m → Beside → Beside → Hosts m
  sheet_state c g k = state_of c.air c.ground c.broken g k

  -- ---- what a move does to the notes, and what it asks

  -- the open jobs of a record r, when an event leaves f: told as broken where the host sees a break, or another dialogue begins
  abbrev pub told_by : Bool → m.at.R → m.at.R → Notes → Notes
  told_by b r f n = cond (b || not (eqb (m.holds r) (m.holds f))) (tells told_broken n) n

  -- with both lines empty the connection of this end was released in order: both ends are IDLE, and nothing broke the dialogue
  abbrev pub is_released : m.at.R → m.at.R → (ℕ → Bool) → Bool
  is_released r t br = idle m.at r && (idle m.at t && not (br (m.holds r)))

  module _ (letter : Side → ℕ → m.at.A) (fresh : Side → m.at.R) (accepts : m.at.E → Bool) where
    -- the act at the first of two ends leads from these pages to those, whatever is beside them
    pub record Lands (may : Bool) (sd : Side) (p z : Page m) (br : ℕ → Bool) (a : Act m.at.A) (q y : Page m) (cr : ℕ → Bool) (g k : Beside) : Type 0 where
      pub near : Beside
      pub far : Beside
      pub lands : d_stepped m right letter fresh accepts may sd (state_of p z br g k) a ≡ state_of q y cr near far

    -- ---- a day. from: the side that all starts come from

    abbrev pub Makes : Side → Side → Act m.at.A → Sheet m → Sheet m → Type 0
    Makes from Air a c e = (g k : Beside) → Lands (starter from Air) Air c.air c.ground c.broken a e.air e.ground e.broken g k
    Makes from Ground a c e = (g k : Beside) → Lands (starter from Ground) Ground c.ground c.air c.broken a e.ground e.air e.broken g k

    pub record Through (P Q : Sheet m → Type 0) : Type 0 where
      pub at : Sheet m
      pub first : P at
      pub rest : Q at

    -- the moves lead, one after the other, from one sheet to the other
    unfoldable pub MakesAll : Side → List (Move m.at.A) → Sheet m → Sheet m → Type 0
    MakesAll from [] c e = c ≡ e
    MakesAll from (v ∷ vs) c e = Through (λ (d : Sheet m). Makes from v.side v.act c d) (λ (d : Sheet m). MakesAll from vs d e)

  -- the promise of the duties, at a sheet
  pub record Promised (e : Sheet m) : Type 0 where
    pub near : Beside
    pub far : Beside
    pub promise : DutyPromise m (sheet_state e near far)
