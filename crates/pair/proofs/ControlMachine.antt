-- The finite control of both machines as a machine for the carrier: a record is state, DSC and the highest job taken; an
-- entry is the primitive that the other end will meet, with its message.
-- Assumes nothing.
use Prim.Native.Nat.{ℕ}
use mathlib.Core.Bool.{Bool, true, cond, ◌&&◌}
use mathlib.Core.List.{List, [], ◌∷◌}
use lib.Dec.{ltb}
use Rattle.pair.specs.Names.{Side, Control, Primitive, DStart, DStartCnf, DTurnedAway, DData, DEnd, DEndCnf, DAbort, DPAbort, Call, TimerExpiry, SystemError, closed, takes, goes, sends, is_data, Did, quiet, aborts, meets, hands}
use Rattle.pair.specs.Carrier.{Body, Sent, nothing, puts, message, Outcome, refused, acts, Sort, begins, breaks, plain, Machine}
use Rattle.pair.proofs.OneDialogue.{Sys, fresh}

pub record Held : Type 0 where
  pub ctl : Control
  pub job : ℕ

pub record Ent : Type 0 where
  pub kind : Primitive
  pub body : Body

pub record Ask : Type 0 where
  pub what : Call
  pub body : Body
  pub job : ℕ

abbrev pub held : Control → ℕ → Held
held c j = record { ctl = c; job = j }

abbrev pub ent : Primitive → Body → Ent
ent k b = record { kind = k; body = b }

abbrev pub ask : Call → Body → ℕ → Ask
ask u b j = record { what = u; body = b; job = j }

-- IDLE, DSC false, highest job 0
abbrev pub new : Held
new = held closed 0

abbrev pub sort_of : Primitive → Sort
sort_of (DStart m) = begins
sort_of (DStartCnf r) = plain
sort_of DTurnedAway = plain
sort_of DData = plain
sort_of DEnd = plain
sort_of (DEndCnf r) = plain
sort_of DAbort = breaks
sort_of DPAbort = plain

-- ---- calls

-- a message request is refused unless its job is above the highest that the record has taken (REPEAT)
abbrev pub job_fine : Call → ℕ → ℕ → Bool
job_fine u high j = cond (is_data (sends u)) (ltb high j) true

abbrev pub may_call : Side → Held → Ask → Bool
may_call sd q a = takes sd q.ctl a.what && job_fine a.what q.job a.job

-- a message request that is taken moves the highest job; no other event does, and no closing forgets it
abbrev pub highest : Call → ℕ → ℕ → ℕ
highest u high j = cond (is_data (sends u)) j high

abbrev pub moved : Held → Ask → Held
moved q a = held (goes q.ctl a.what) (highest a.what q.job a.job)

abbrev pub sent_by : Ask → Sent Ent
sent_by a = cond (is_data (sends a.what)) (message (ent (sends a.what) a.body) a.body a.job)
    (puts (ent (sends a.what) a.body))

abbrev pub call_of : Side → Held → Ask → Outcome Held Ent
call_of sd q a = cond (may_call sd q a) (acts (moved q a) [] (sent_by a)) refused

-- ---- primitives

abbrev pub met : Held → Did → List Body → Outcome Held Ent
met q (quiet c) l = acts (held c q.job) l nothing
met q (aborts c) l = acts (held c q.job) l (puts (ent DAbort []))

abbrev pub handed : Bool → Body → List Body
handed b x = cond b (x ∷ []) []

abbrev pub receives : Side → Held → Ent → Outcome Held Ent
receives sd q e = met q (meets sd q.ctl e.kind) (handed (hands sd q.ctl e.kind) e.body)

abbrev pub control : Machine
control = record {
  R = Held;
  E = Ent;
  A = Ask;
  ctl = λ (q : Held). q.ctl;
  sort = λ (e : Ent). sort_of e.kind;
  call = call_of;
  receive = receives;
  expiry = λ (sd : Side) (q : Held). call_of sd q (ask TimerExpiry [] 0);
  error = λ (sd : Side) (q : Held). call_of sd q (ask SystemError [] 0);
  away = λ (sd : Side) (q : Held). receives sd q (ent DTurnedAway []);
  p_abort = λ (sd : Side) (q : Held). receives sd q (ent DPAbort []);
}

-- two ends that are IDLE with DSC false, and whose highest jobs are i and j
abbrev pub both_idle : ℕ → ℕ → Sys control
both_idle i j = fresh control (held closed i) (held closed j)
