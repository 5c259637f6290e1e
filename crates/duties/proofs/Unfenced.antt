-- Several hosts without the fence: one that was deposed commits with what it has in memory, over the other's journal. Of the control, computed. (specs/Leases)
-- Assumes nothing.
use mathlib.Core.Path.{◌≡◌, refl}
use mathlib.Core.Bool.{Bool, true, false}
use mathlib.Core.List.{List, [], ◌∷◌, ◌++◌}
use Prim.Native.Nat.{ℕ}
use Rattle.pair.specs.Names.{Air, Ground}
use Rattle.pair.specs.Numbered.{Numbered, mark}
use Rattle.pair.proofs.ControlMachine.{Ask, new, control}
use Rattle.pair.proofs.NumberedMachine.{numbered}
use Rattle.duties.specs.Memory.{told_ended, told_broken, note, Notice}
use Rattle.duties.specs.Host.{right, deliver, carrier_fails, Move, d_fresh}
use Rattle.duties.specs.Leases.{Shared, holder, takes_over, wakes, LMove, l_run, alone_first}
use Rattle.duties.specs.Promise.{times}
use Rattle.duties.proofs.Against.{letter_of, fresh_of, opening, closing, sends, gets, restart, false_at}
use Rattle.duties.proofs.EndConfirmed.{answers_yes}

abbrev by_holder : List (Move (Numbered Ask)) → List (LMove (Numbered Ask))
by_holder [] = []
by_holder (v ∷ vs) = record { side = v.side; shift = holder v.act } ∷ by_holder vs

abbrev after : Bool → List (LMove (Numbered Ask)) → Shared (numbered control)
after fence vs = l_run (numbered control) right letter_of fresh_of answers_yes fence Ground (alone_first (numbered control)
    right letter_of fresh_of answers_yes fence
    (d_fresh (numbered control) right letter_of fresh_of answers_yes (mark 0 new) (mark 0 new))) vs

-- a second host of the ground takes over, opens the dialogue anew, and job 2 is shown; the first one wakes up and takes job 1; the power fails, and job 2 comes again
abbrev wakes_late : List (LMove (Numbered Ask))
wakes_late =
    by_holder (opening 1)
    ++ (record { side = Ground; shift = takes_over } ∷ record { side = Air; shift = holder carrier_fails } ∷ by_holder (opening 2 ++ sends 2)
    ++ (record { side = Ground; shift = wakes 0 (deliver 1) } ∷ by_holder (restart ++ (opening 3 ++ sends 2))))

-- what the first had committed and not sent leaves late, before the air has heard; the second refuses it, and it is told once
abbrev leaves_late : List (LMove (Numbered Ask))
leaves_late =
    by_holder (opening 1) ++ (record { side = Ground; shift = holder (deliver 1) } ∷ record { side = Ground; shift = takes_over } ∷ record { side = Ground; shift = holder (deliver 1) } ∷ by_holder (gets Air)
    ++ (record { side = Air; shift = holder carrier_fails } ∷ by_holder (opening 2 ++ (sends 1 ++ (sends 2 ++ closing)))))

-- without the fence job 2 is shown twice, and with it no claim is false
pub fence_is_needed : false_at (after false wakes_late).hosts ∷ false_at (after true wakes_late).hosts ∷ false_at
    (after true leaves_late).hosts ∷ [] ≡ (1 ∷ []) ∷ [] ∷ [] ∷ []
unfolding l_run
fence_is_needed = refl

record Seen : Type 0 where
  told : List Notice
  first : ℕ
  second : ℕ

abbrev seen : List Notice → ℕ → ℕ → Seen
seen n a b = record { told = n; first = a; second = b }

abbrev told_on : Bool → List (LMove (Numbered Ask)) → Seen
told_on fence vs = let s = (after fence vs).hosts in seen s.there.kept.notices
    (times (numbered control) s.there s.here 1) (times (numbered control) s.there s.here 2)

pub woken_told : told_on true wakes_late ≡ seen (note 2 told_broken ∷ []) 0 1
unfolding l_run
woken_told = refl

pub left_late_told : told_on true leaves_late ≡ seen (note 1 told_broken ∷ note 2 told_ended ∷ []) 1 1
unfolding l_run
left_late_told = refl
