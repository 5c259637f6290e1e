-- A machine as the carrier sees it, and the steps that a run is made of: document 01, "The carrier in the pair statement". What the steps
-- do stands in `Numbered`. It is said once, over any machine that can stand at an end. Same version, same security, the right quality of
-- service and full buffers are properties of the machine that is put there, not of the carrier.
use Rattle.std.specs.Prelude.{ℕ, Bool, true, false, not, ◌&&◌, List}
use Rattle.pair.specs.Names.{Side, Control, is_idle}

-- ---- a machine, as the carrier sees it

-- the data of a message of the message service; nobody here looks into it
abbrev pub Body : Type 0
Body = List ℕ

-- what an event sends to the other end: nothing; a primitive; or the D-DATA of a message request, with the message and the
-- job number that the request took
pub data Sent (E : Type 0) : Type 0 where
  nothing : Sent E
  puts : E → Sent E
  message : E → Body → ℕ → Sent E

-- an event is refused and leaves all as it was; or it leaves a record, the messages handed to the user, and what it sent
pub data Outcome (R E : Type 0) : Type 0 where
  refused : Outcome R E
  acts : R → List Body → Sent E → Outcome R E

-- among primitives the carrier knows a D-START, which begins a dialogue, and a D-ABORT, which breaks it
pub data Sort : Type 0 where
  begins breaks plain : Sort

-- R: a record; E: an entry of a line; A: a user call
pub record Machine : Type 1 where
  pub R : Type 0
  pub E : Type 0
  pub A : Type 0
  -- state and DSC
  pub ctl : R → Control
  pub sort : E → Sort
  -- what each event does to a record at a side: a user call; an entry that is handed over; t-start expires; a system error;
  -- a D-START confirmation (rejected transient, DS provider) and a D-P-ABORT that the carrier itself makes
  pub call : Side → R → A → Outcome R E
  pub receive : Side → R → E → Outcome R E
  pub expiry : Side → R → Outcome R E
  pub error : Side → R → Outcome R E
  pub away : Side → R → Outcome R E
  pub p_abort : Side → R → Outcome R E

-- ---- the steps

-- the steps. The number says how many of the end's undelivered entries are left if it invokes D-ABORT in this step
pub data Step (A : Type 0) : Type 0 where
  user_call : A → ℕ → Step A
  hand_over : ℕ → Step A
  timer_expires_of : ℕ → Step A
  error_reported : ℕ → Step A
  turn_away : ℕ → Step A
  fail : Step A

-- a turn is a side and a step there
pub record Turn (A : Type 0) : Type 0 where
  pub side : Side
  pub step : Step A

abbrev pub begins? : Sort → Bool
begins? begins = true
begins? breaks = false
begins? plain = false

module _ (m : Machine) where
  abbrev pub idle : m.R → Bool
  idle r = is_idle (m.ctl r)

  abbrev pub is_start : m.E → Bool
  is_start e = begins? (m.sort e)

  abbrev pub starts : Sent m.E → Bool
  starts nothing = false
  starts (puts e) = is_start e
  starts (message e b j) = is_start e

  -- an entry other than a D-START that reaches an IDLE end is discarded
  abbrev pub discards : m.R → m.E → Bool
  discards r e = idle r && not (is_start e)
