-- The start request as it stood before document 02's E7: two exported calls, of the CPDLC-start request (false) and of the DSC-start request (true), without
-- a mode among their numbers. They had no dialogue number either (E9); v stands for the one that the record holds after such a start. It stands here as the right side of proofs/OneStart, and nothing else names it. What it was made of and did not move is named
-- and not copied: takes of crate control, start_request of machine, given_fits of codec, entering and concluded of step, given_data of card. There was one application type then, 22; what is named asks
-- the record's edition now, and is the same in it.
-- Assumes nothing.
use Prim.Native.Nat.{ℕ}
use mathlib.Core.Bool.{Bool, true, false, not, cond, ◌&&◌}
use mathlib.Core.List.{List}
use lib.Dec.{ltb}
use lib.ListN.{length}
use Rattle.words.specs.Limits.{shape}
use Rattle.apdu.specs.Pdus.{lent}
use Rattle.codec.specs.Codec.{given_fits}
use Rattle.apdu.specs.declared.Data.{Data}
use Rattle.control.specs.Control.{takes}
use Rattle.control.specs.declared.Side.{Side}
use Rattle.control.specs.declared.Call.TheVariants.{StartRequest}
use Rattle.machine.specs.Codes.{routing_classes, security_values}
use Rattle.machine.specs.Outcome.{is_none, refused}
use Rattle.machine.specs.Calls.{start_request}
use Rattle.machine.specs.declared.record.Record.{Record}
use Rattle.machine.specs.declared.outcome.StepRefusal.{StepRefusal}
use Rattle.machine.specs.declared.outcome.StepRefusal.TheVariants.{Shape, Prohibited}
use Rattle.machine.specs.declared.outcome.Outcome.{Outcome}
use Rattle.step.specs.Call.{Called, called, carries_data, pdus_of, concluded, entering}
use Rattle.card.specs.Face.{given_data}
use Rattle.std.specs.Prelude.{None, Option, Some}

-- the codes, class and security, the same at both sides (machine, user_fits)
abbrev pub codes_before : ℕ → ℕ → Bool
codes_before k s = ltb k routing_classes && ltb s security_values

-- SHAPE, then PROHIBITED (machine, refusal_of)
abbrev pub refusal_before : Side → Record → Bool → ℕ → ℕ → Option StepRefusal
refusal_before sd x m k s = cond (not (codes_before k s)) (Some Shape) (cond (not (takes sd x.control (StartRequest m))) (Some Prohibited) None)

-- (machine, step)
abbrev pub step_before : Side → Record → Bool → ℕ → ℕ → Outcome
step_before sd x m k s = cond (is_none (refusal_before sd x m k s)) (start_request x m k s) (refused (refusal_before sd x m k s) x)

-- (step, user_step)
abbrev pub user_step_before : List ℕ → List ℕ → List ℕ → ℕ → Bool → ℕ → ℕ → List ℕ → List ℕ → List ℕ → Data → Side → Record → ℕ → Called
user_step_before r a b v m k s li lm lc d sd x n =
    cond (given_fits x.edition (pdus_of sd) li lm lc d)
    (concluded r a b x.edition sd v (step_before sd x m k s) li lm lc (carries_data d)) (called shape r a b)

-- the exported calls (step, user_call; card, data_call), of the bytes of the record and of the two buffers, of class and security, and of the message data
abbrev pub start_before : Bool → List ℕ → List ℕ → List ℕ → ℕ → ℕ → ℕ → List ℕ → List ℕ → ℕ → List ℕ → ℕ → Called
start_before m r a b v k s ids msgs n checks c =
    entering r a b (user_step_before r a b v m k s (lent ids) (lent msgs) (lent checks) (given_data (length ids) n c))

abbrev pub cpdlc_start_before : List ℕ → List ℕ → List ℕ → ℕ → ℕ → ℕ → List ℕ → List ℕ → ℕ → List ℕ → ℕ → Called
cpdlc_start_before = start_before false

abbrev pub dsc_start_before : List ℕ → List ℕ → List ℕ → ℕ → ℕ → ℕ → List ℕ → List ℕ → ℕ → List ℕ → ℕ → Called
dsc_start_before = start_before true
