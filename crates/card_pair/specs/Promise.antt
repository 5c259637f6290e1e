-- What is promised of two cards and a carrier: the bytes of an end at which a run may begin, and what holds after every step.
use Rattle.std.specs.Prelude.{ℕ, ◌≡◌, false, List}
use Rattle.editions.specs.declared.Edition.{Edition}
use Rattle.machine.specs.Run.{Formed}
use Rattle.machine.specs.declared.record.Record.{Record}
use Rattle.stored.specs.Stored.{load_at, is_stored}
use Rattle.pair.specs.Names.{Side, Air, Ground, closed}
use Rattle.pair.specs.Numbered.{NSys, NClaims}
use Rattle.card_pair.specs.CardMachine.{Buffers, card_machine}

-- document 01: an end at the beginning is "IDLE with DSC false, timer stopped and user not active". b are the bytes of such a record, of
-- side sd and edition ed, whose policy accepts p. Its highest job is any, and so are its dialogue number and the value of its last start request
pub record Begins (p : ℕ) (ed : Edition) (sd : Side) (b : List ℕ) : Type 0 where
  pub held : Record
  pub number : ℕ
  pub load : load_at b ≡ is_stored sd held number
  pub edition : held.edition ≡ ed
  pub policy : held.policy ≡ p
  pub idle : held.control ≡ closed
  pub timer : held.timer ≡ false
  pub user : held.active ≡ false

-- b are the bytes of a record of side sd and edition ed whose policy accepts p, in which t-start runs exactly in START-REQ and FORWARD, the user is active
-- exactly outside IDLE, and IDLE has DSC false. So bytes that are no record can't count as an IDLE end
pub record Stands (p : ℕ) (ed : Edition) (sd : Side) (b : List ℕ) : Type 0 where
  pub held : Record
  pub number : ℕ
  pub load : load_at b ≡ is_stored sd held number
  pub edition : held.edition ≡ ed
  pub policy : held.policy ≡ p
  pub formed : Formed held

-- demand 3 of two cards, as document 02's E9 words it; i, j: the highest jobs of the air's and the ground's record at the beginning
pub record Promise (p : ℕ) (ed : Edition) (host : Side → ℕ → Buffers) (i j : ℕ) (s : NSys (card_machine p host)) : Type 0 where
  pub air : Stands p ed Air s.here.rec.bytes
  pub ground : Stands p ed Ground s.there.rec.bytes
  pub claims : NClaims (card_machine p host) i j s

-- b are the bytes of a ground record at which a run may begin, whose own version is v
pub record Rests (p : ℕ) (ed : Edition) (v : ℕ) (b : List ℕ) : Type 0 where
  pub begins : Begins p ed Ground b
  pub version : begins.held.version ≡ v
