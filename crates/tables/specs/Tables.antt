-- What replay holds of an end and its host: a page of numbers (crate replay, page.rt). A list in it has its count at one place, and its members from another on.
use Rattle.std.specs.Prelude.{ℕ, zero, suc, ◌+◌, ◌-◌, ◌*◌, Bool, true, false, not, cond, ◌&&◌, ◌||◌, List, eqb, leb, ltb, get_or, set}
use Rattle.control.specs.declared.State.{State}
use Rattle.control.specs.declared.State.TheVariants.{Idle, StartReq, StartInd, Dialogue, End, Forward}
use Rattle.control.specs.Control.{number, entered}
use Rattle.moves.specs.declared.Held.{Held}
use Rattle.moves.specs.Machine.{holding as record_of}

-- an answer, and what it leaves of the page
pub record Leaves : Type 0 where
  pub answer : Bool
  pub page : List ℕ

abbrev pub left : Bool → List ℕ → Leaves
left b l = record { answer = b; page = l }

-- what a step that found room leaves to the next one
abbrev pub and_then : Leaves → (List ℕ → Leaves) → Leaves
and_then w f = cond w.answer (f w.page) (left false w.page)

-- ---- the record: its state at place 0, DSC at place 1, its number at place 2, its highest job at place 3

abbrev pub state_of : ℕ → State
state_of zero = Idle
state_of (suc zero) = StartReq
state_of (suc (suc zero)) = StartInd
state_of (suc (suc (suc zero))) = Dialogue
state_of (suc (suc (suc (suc zero)))) = End
state_of (suc (suc (suc (suc (suc n))))) = Forward

abbrev pub flag_of : Bool → ℕ
flag_of b = cond b 1 0

unfoldable pub held_in : List ℕ → Held
held_in l = record_of (entered (state_of (get_or l 0 0)) (eqb (get_or l 1 0) 1)) (get_or l 2 0) (get_or l 3 0)

unfoldable pub holding : List ℕ → Held → List ℕ
holding l r = set (set (set (set l 0 (number r.control.state)) 1 (flag_of r.control.dsc)) 2 r.number) 3 r.highest

-- ---- lists

-- the i-th from a place on
abbrev pub member : List ℕ → ℕ → ℕ → ℕ
member l from i = cond (ltb 4294967296 from) 0 (cond (ltb 4294967296 i) 0 (get_or l (from + i) 0))

-- x is among the first so many
abbrev pub among : List ℕ → ℕ → ℕ → ℕ → Bool
among l from zero x = false
among l from (suc n) x = among l from n x || eqb (member l from n) x

-- one behind the others; refused where there is no room
unfoldable pub pushed : List ℕ → ℕ → ℕ → ℕ → ℕ → Leaves
pushed l counter from most x =
    cond (leb most (get_or l counter 0)) (left false l)
    (cond (ltb 4294967296 from) (left false l)
    (cond (ltb 4294967296 (get_or l counter 0)) (left false l) (left true (set (set l (from + get_or l counter 0) x) counter (get_or l counter 0 + 1)))))

-- ---- notices: their count at place 10, job and fate of each from place 20496 on

unfoldable pub noted : List ℕ → ℕ → ℕ → Leaves
noted l job fate =
    cond (ltb (get_or l 10 0) 16384)
    (left true (set (set (set l (20496 + 2 * get_or l 10 0) job) (20496 + 2 * get_or l 10 0 + 1) fate) 10 (get_or l 10 0 + 1))) (left false l)

-- the notice of a number, from 1 on, is this one
unfoldable pub is_noted : List ℕ → ℕ → ℕ → ℕ → Bool
is_noted l number job fate =
    cond (eqb number 0) false
    (cond (ltb (get_or l 10 0) number) false
    (cond (ltb 16384 number) false (eqb (get_or l (20496 + 2 * (number - 1)) 0) job && eqb (get_or l (20496 + 2 * (number - 1) + 1) 0) fate)))

-- k open jobs more, from the i-th on, get their fate; then none is open. Their count is at place 9, and they stand from place 19472 on
unfoldable pub tell_on : ℕ → List ℕ → ℕ → ℕ → Leaves
tell_on zero l i fate = left true (set l 9 0)
tell_on (suc k) l i fate =
    cond (leb 1024 i) (left false l) (and_then (noted l (get_or l (19472 + i) 0) fate) (λ (m : List ℕ). tell_on k m (i + 1) fate))

unfoldable pub told : List ℕ → ℕ → Leaves
told l fate = tell_on (get_or l 9 0) l 0 fate

-- ---- the line: its count at place 7, kind, number and job of each entry from place 16 on; at place 6, how many have not left

unfoldable pub entry_in : List ℕ → ℕ → ℕ → ℕ
entry_in l i field = cond (leb 1024 i) 0 (cond (ltb 2 field) 0 (get_or l (16 + 3 * i + field) 0))

unfoldable pub set_entry : List ℕ → ℕ → ℕ → ℕ → ℕ → List ℕ
set_entry l i kind number job = cond (ltb i 1024) (set (set (set l (16 + 3 * i) kind) (16 + 3 * i + 1) number) (16 + 3 * i + 2) job) l

unfoldable pub put_on_line : List ℕ → ℕ → ℕ → ℕ → Leaves
put_on_line l kind number job =
    cond (leb 1024 (get_or l 7 0)) (left false l)
    (cond (leb 1024 (get_or l 6 0)) (left false l)
    (left true (set (set (set_entry l (get_or l 7 0) kind number job) 7 (get_or l 7 0 + 1)) 6 (get_or l 6 0 + 1))))

-- a count that does not go past the largest number
abbrev pub counted_if : ℕ → Bool → ℕ
counted_if n b = cond b (cond (ltb 4294967296 n) n (n + 1)) n

-- an entry that stays goes to its new place
unfoldable pub settled : List ℕ → ℕ → ℕ → Bool → List ℕ
settled l i to stays = cond stays (set_entry l to (entry_in l i 0) (entry_in l i 1) (entry_in l i 2)) l

-- of the entries of a dialogue the first so many stay, and all others; met: so many of it stood before
abbrev pub stays_of : Bool → ℕ → ℕ → Bool
stays_of of met most = cond of (ltb met most) true

abbrev pub is_of : List ℕ → ℕ → ℕ → Bool
is_of l i number = eqb (entry_in l i 1) number

-- k entries more, from the i-th on; kept: so many stay of those before
unfoldable pub trim_on : ℕ → List ℕ → ℕ → ℕ → ℕ → ℕ → ℕ → List ℕ
trim_on zero l number most i kept met = set l 7 kept
trim_on (suc k) l number most i kept met =
    trim_on k (settled l i kept (stays_of (is_of l i number) met most)) number most (i + 1)
    (counted_if kept (stays_of (is_of l i number) met most)) (counted_if met (is_of l i number))

unfoldable pub trimmed : List ℕ → ℕ → ℕ → List ℕ
trimmed l number most = trim_on (get_or l 7 0) l number most 0 0 0

-- an entry is the start of a dialogue
abbrev pub is_start_of : List ℕ → ℕ → ℕ → Bool
is_start_of l i number = cond (ltb (entry_in l i 0) 2) (eqb (entry_in l i 1) number) false

-- where it is on the line, among k entries from the i-th on; or the place behind them
unfoldable pub start_on : ℕ → List ℕ → ℕ → ℕ → ℕ
start_on zero l number i = i
start_on (suc k) l number i = cond (is_start_of l i number) i (start_on k l number (i + 1))

unfoldable pub start_in : List ℕ → ℕ → ℕ
start_in l number = start_on (get_or l 7 0) l number 0

-- the entry behind a place comes to it
unfoldable pub drawn : List ℕ → ℕ → List ℕ
drawn l i = cond (leb 1024 i) l (set_entry l i (entry_in l (i + 1) 0) (entry_in l (i + 1) 1) (entry_in l (i + 1) 2))

-- so at k places, from the i-th on
unfoldable pub draw_on : ℕ → List ℕ → ℕ → List ℕ
draw_on zero l i = l
draw_on (suc k) l i = draw_on k (drawn l i) (i + 1)

-- the entry at a place is gone
unfoldable pub removed : List ℕ → ℕ → List ℕ
removed l i = cond (leb (get_or l 7 0) i) l (set (draw_on (get_or l 7 0 - i) l i) 7 (get_or l 7 0 - 1))

-- ---- the numbers of the dialogues that broke

unfoldable pub mark_broken : List ℕ → ℕ → Leaves
mark_broken l number = cond (among l 1 (get_or l 0 0) number) (left true l) (pushed l 0 1 4096 number)

-- those of k entries of a line, from the i-th on
unfoldable pub mark_on : ℕ → List ℕ → List ℕ → ℕ → Leaves
mark_on zero b l i = left true b
mark_on (suc k) b l i = and_then (mark_broken b (entry_in l i 1)) (λ (c : List ℕ). mark_on k c l (i + 1))

unfoldable pub marked_line : List ℕ → List ℕ → Leaves
marked_line b l = mark_on (get_or l 7 0) b l 0
