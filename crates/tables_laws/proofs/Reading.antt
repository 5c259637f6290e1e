-- What a page of numbers says of an end and its host: the page of the model (crate moves_laws).
-- Assumes nothing.
use mathlib.Core.Path.{◌≡◌}
use mathlib.Core.Bool.{Bool, not, cond}
use mathlib.Core.List.{List, [], ◌∷◌}
use Prim.Native.Nat.{ℕ, zero, suc, ◌+◌, ◌≤◌}
use lib.Dec.{eqb}
use lib.ListN.{length, get_or}
use Rattle.pair.specs.Names.{Side}
use Rattle.pair.specs.Carrier.{Body}
use Rattle.pair.specs.Numbered.{Numbered, mark}
use Rattle.pair.proofs.ControlMachine.{Ent, ent}
use Rattle.duties.specs.Memory.{Decision, Fate, told_refused, told_ended, told_broken, Notice, note, Notes, is_decided}
use Rattle.duties.specs.Host.{Power, up, apart, down}
use Rattle.moves_laws.proofs.Steps.{Page, page}
use Rattle.tables.specs.Tables.{held_in, among, entry_in}
use Rattle.tables.specs.Steps.{primitive_of}
use Rattle.tables.proofs.Tables.{size}

-- ---- lists: k members, from a place on

abbrev pub jobs_from : List ℕ → ℕ → ℕ → List ℕ
jobs_from l zero i = []
jobs_from l (suc k) i = get_or l i 0 ∷ jobs_from l k (suc i)

abbrev pub fate_in : ℕ → Fate
fate_in zero = told_broken
fate_in (suc zero) = told_refused
fate_in (suc (suc zero)) = told_ended
fate_in (suc (suc (suc n))) = told_broken

abbrev pub notice_at : List ℕ → ℕ → Notice
notice_at l i = note (get_or l i 0) (fate_in (get_or l (i + 1) 0))

abbrev pub notices_from : List ℕ → ℕ → ℕ → List Notice
notices_from l zero i = []
notices_from l (suc k) i = notice_at l i ∷ notices_from l k (i + 2)

abbrev pub power_of : ℕ → Power
power_of zero = up
power_of (suc zero) = apart
power_of (suc (suc n)) = down

-- text: the message of a job, by the side that sends it
module _ (text : Side → ℕ → Body) where
  -- an entry that side sd sent
  abbrev pub entry_of : Side → ℕ → ℕ → ℕ → Numbered Ent
  entry_of sd kind number job = mark number (ent (primitive_of kind) (cond (eqb kind 4) (text sd job) []))

  abbrev pub entry_at : Side → List ℕ → ℕ → Numbered Ent
  entry_at sd l i = entry_of sd (entry_in l i 0) (entry_in l i 1) (entry_in l i 2)

  abbrev pub line_from : Side → List ℕ → ℕ → ℕ → List (Numbered Ent)
  line_from sd l zero i = []
  line_from sd l (suc k) i = entry_at sd l i ∷ line_from sd l k (suc i)

  abbrev pub line_of : Side → List ℕ → List (Numbered Ent)
  line_of sd l = line_from sd l (get_or l 7 0) 0

  -- d: the decisions. A page has which jobs were decided, and not how
  abbrev pub notes_of : (ℕ → Decision) → List ℕ → Notes
  notes_of d l = record { decision = d; opened = jobs_from l (get_or l 9 0) 19472; notices = notices_from l (get_or l 10 0) 20496 }

  abbrev pub page_of : Side → (ℕ → Decision) → List ℕ → Page
  page_of sd d l = page (held_in l) (line_of sd l) (notes_of d l) (get_or l 6 0) (not (eqb (get_or l 5 0) 0)) (power_of (get_or l 4 0))

abbrev pub broken_of : List ℕ → ℕ → Bool
broken_of b j = among b 1 (get_or b 0 0) j

-- the counts of a page are within its lists, what it has as decided was decided, and a host that is down has nothing to show
pub record Sound (d : ℕ → Decision) (l : List ℕ) : Type 0 where
  pub full : size ≤ length l
  pub entries : get_or l 7 0 ≤ 1024
  pub decided : get_or l 8 0 ≤ 16384
  pub opened : get_or l 9 0 ≤ 1024
  pub notices : get_or l 10 0 ≤ 16384
  pub known : (j : ℕ) → is_decided (d j) ≡ among l 3088 (get_or l 8 0) j
  pub powered : get_or l 4 0 ≤ 2
  pub rests : get_or l 4 0 ≡ 2 → get_or l 5 0 ≡ 0

pub record Counted (b : List ℕ) : Type 0 where
  pub full : 4097 ≤ length b
  pub count : get_or b 0 0 ≤ 4096
