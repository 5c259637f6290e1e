-- What each move does to the pages of two ends (crate replay, steps.rt): the rule that it breaks, or 0, and what it leaves.
use Rattle.std.specs.Prelude.{ℕ, zero, suc, ◌-◌, Bool, true, false, not, cond, ◌&&◌, List, eqb, leb, ltb, get_or, set, None, Option, Some}
use Rattle.control.specs.declared.Side.{Side}
use Rattle.control.specs.declared.Reply.{Reply}
use Rattle.control.specs.declared.Reply.TheVariants.{Accepted, Rejected}
use Rattle.control.specs.declared.Call.{Call}
use Rattle.control.specs.declared.Call.TheVariants.{StartRequest, StartResponse, MessageRequest, EndRequest, EndResponse, UserAbort, TimerExpiry, SystemError}
use Rattle.control.specs.declared.Primitive.{Primitive}
use Rattle.control.specs.declared.Primitive.TheVariants.{DStart, DStartCnf, DTurnedAway, DData, DEnd, DEndCnf, DAbort, DPAbort}
use Rattle.control.specs.Control.{expects, closed}
use Rattle.moves.specs.declared.Held.{Held}
use Rattle.moves.specs.declared.Done.{Done}
use Rattle.moves.specs.declared.Done.TheVariants.{Quiet, Shows, Sends, Aborts}
use Rattle.moves.specs.Machine.{is_opening, called_of, received_of, holding as record_of}
use Rattle.tables.specs.Tables.{Leaves, flag_of, held_in, holding, among, pushed, noted, is_noted, told, entry_in, put_on_line, trimmed, start_in, removed, mark_broken, marked_line, and_then}

-- ---- answers

-- the rule, and the page of the end whose host moves
pub record One : Type 0 where
  pub rule : ℕ
  pub here : List ℕ

-- and the numbers of the dialogues that broke
pub record Two : Type 0 where
  pub rule : ℕ
  pub here : List ℕ
  pub broken : List ℕ

-- and the other end's page
pub record All : Type 0 where
  pub rule : ℕ
  pub here : List ℕ
  pub there : List ℕ
  pub broken : List ℕ

abbrev pub one : ℕ → List ℕ → One
one r l = record { rule = r; here = l }

abbrev pub two : ℕ → List ℕ → List ℕ → Two
two r l b = record { rule = r; here = l; broken = b }

abbrev pub all : ℕ → List ℕ → List ℕ → List ℕ → All
all r l z b = record { rule = r; here = l; there = z; broken = b }

abbrev pub beside : One → List ℕ → Two
beside o b = two o.rule o.here b

abbrev pub facing : Two → List ℕ → All
facing t z = all t.rule t.here z t.broken

-- 23: there is no room in the tables
abbrev pub room : Bool → ℕ
room b = cond b 0 23

abbrev pub as_rule : Leaves → One
as_rule w = one (room w.answer) w.page

-- ---- what is tested

abbrev pub is_idle : List ℕ → Bool
is_idle l = eqb (get_or l 0 0) 0

abbrev pub is_up_of : List ℕ → Bool
is_up_of l = eqb (get_or l 4 0) 0

abbrev pub is_down : List ℕ → Bool
is_down l = eqb (get_or l 4 0) 2

-- the next call may be made: the host is up, and the user was shown what was handed out
unfoldable pub ready_rule : List ℕ → ℕ
ready_rule l = cond (is_up_of l) (cond (eqb (get_or l 5 0) 0) 0 14) 3

abbrev pub decided_in : List ℕ → ℕ → Bool
decided_in l job = among l 3088 (get_or l 8 0) job

-- ---- entries

abbrev pub replied : Reply → ℕ → ℕ → ℕ
replied Accepted a r = a
replied Rejected a r = r

-- the kind of the primitive that a call sends
abbrev pub kind_sent : Call → ℕ
kind_sent (StartRequest m) = flag_of m
kind_sent (StartResponse m a) = replied a 2 3
kind_sent MessageRequest = 4
kind_sent (EndRequest m) = 5
kind_sent (EndResponse m a) = replied a 6 7
kind_sent UserAbort = 8
kind_sent TimerExpiry = 8
kind_sent SystemError = 8

abbrev pub primitive_of : ℕ → Primitive
primitive_of zero = DStart false
primitive_of (suc zero) = DStart true
primitive_of (suc (suc zero)) = DStartCnf Accepted
primitive_of (suc (suc (suc zero))) = DStartCnf Rejected
primitive_of (suc (suc (suc (suc zero)))) = DData
primitive_of (suc (suc (suc (suc (suc zero))))) = DEnd
primitive_of (suc (suc (suc (suc (suc (suc zero)))))) = DEndCnf Accepted
primitive_of (suc (suc (suc (suc (suc (suc (suc zero))))))) = DEndCnf Rejected
primitive_of (suc (suc (suc (suc (suc (suc (suc (suc n)))))))) = DAbort

-- ---- calls

-- a D-ABORT goes on the line, the dialogue is broken, and so are its jobs
abbrev pub on_told : Leaves → List ℕ → Two
on_told t b = two (room t.answer) t.page b

abbrev pub on_mark : Leaves → List ℕ → Two
on_mark m l = cond m.answer (on_told (told l 3) m.page) (two 23 l m.page)

abbrev pub on_put : Leaves → List ℕ → ℕ → Two
on_put w b number = cond w.answer (on_mark (mark_broken b number) w.page) (two 23 w.page b)

unfoldable pub aborted : List ℕ → List ℕ → Held → ℕ → Two
aborted l b r most = on_put (put_on_line (trimmed (holding l r) r.number most) 8 r.number 0) b r.number

unfoldable pub sent : List ℕ → Call → Held → ℕ → One
sent l u r job = as_rule (put_on_line (holding l r) (kind_sent u) r.number job)

unfoldable pub call_done : List ℕ → List ℕ → Call → ℕ → Option Done → Two
call_done l b u most None = two 20 l b
call_done l b u most (Some (Quiet r)) = two 20 l b
call_done l b u most (Some (Shows r)) = two 20 l b
call_done l b u most (Some (Sends r)) = beside (sent l u r 0) b
call_done l b u most (Some (Aborts r)) = aborted l b r most

unfoldable pub made_call : List ℕ → List ℕ → Side → Call → ℕ → Two
made_call l b sd u most = cond (eqb (ready_rule l) 0) (call_done l b u most (called_of sd (held_in l) u 0 0)) (two (ready_rule l) l b)

abbrev pub on_start : Leaves → Bool → Held → One
on_start t dsc r = cond t.answer (sent t.page (StartRequest dsc) r 0) (one 23 t.page)

-- what is open of an older dialogue is broken
unfoldable pub start_told : List ℕ → Bool → Held → One
start_told l dsc r = on_start (told l 3) dsc r

unfoldable pub start_done : List ℕ → Bool → Option Done → One
start_done l dsc None = one 20 l
start_done l dsc (Some (Quiet r)) = one 20 l
start_done l dsc (Some (Shows r)) = one 20 l
start_done l dsc (Some (Sends r)) = start_told l dsc r
start_done l dsc (Some (Aborts r)) = one 20 l

-- may: all starts come from this end
unfoldable pub started_by : List ℕ → List ℕ → Side → Bool → Bool → ℕ → One
started_by l z sd may dsc number =
    cond (eqb (ready_rule l) 0)
    (cond may
    (cond (is_idle z)
    (cond (leb number (held_in l).number) (one 12 l) (start_done l dsc (called_of sd (held_in l) (StartRequest dsc) number 0))) (one 3 l))
    (one 12 l)) (one (ready_rule l) l)

unfoldable pub reported : List ℕ → List ℕ → Side → ℕ → Two
reported l b sd most = cond (is_down l) (two 3 l b) (cond (is_idle l) (two 0 l b) (cond (is_up_of l) (made_call l b sd SystemError most) (two 0 l b)))

-- the start is gone, and the open jobs are broken
unfoldable pub turned_to : List ℕ → ℕ → Held → One
turned_to l i r = as_rule (told (holding (removed l i) r) 3)

unfoldable pub turn_done : List ℕ → ℕ → Option Done → One
turn_done l i None = one 20 l
turn_done l i (Some (Quiet r)) = turned_to l i r
turn_done l i (Some (Shows r)) = one 20 l
turn_done l i (Some (Sends r)) = one 20 l
turn_done l i (Some (Aborts r)) = one 20 l

-- the carrier removes the start and turns it away
unfoldable pub turned_back : List ℕ → Side → One
turned_back l sd =
    cond (eqb (ready_rule l) 0)
    (cond (eqb (get_or l 0 0) 1)
    (cond (leb (get_or l 7 0) (start_in l (held_in l).number)) (one 21 l)
    (turn_done l (start_in l (held_in l).number) (received_of sd (held_in l) DTurnedAway (held_in l).number))) (one 21 l)) (one (ready_rule l) l)

-- ---- jobs

abbrev pub on_opened : Leaves → ℕ → Held → One
on_opened w job r = cond w.answer (sent w.page MessageRequest r job) (one 23 w.page)

abbrev pub on_decided : Leaves → ℕ → Held → One
on_decided w job r = cond w.answer (on_opened (pushed w.page 9 19472 1024 job) job r) (one 23 w.page)

unfoldable pub taken_job : List ℕ → Held → ℕ → One
taken_job l r job = on_decided (pushed l 8 3088 16384 job) job r

unfoldable pub take_done_of : List ℕ → ℕ → Option Done → One
take_done_of l job None = one 20 l
take_done_of l job (Some (Quiet r)) = one 20 l
take_done_of l job (Some (Shows r)) = one 20 l
take_done_of l job (Some (Sends r)) = taken_job l r job
take_done_of l job (Some (Aborts r)) = one 20 l

unfoldable pub taken : List ℕ → Side → ℕ → One
taken l sd job =
    cond (eqb (ready_rule l) 0)
    (cond (decided_in l job) (one 6 l) (take_done_of l job (called_of sd (held_in l) MessageRequest 0 job))) (one (ready_rule l) l)

abbrev pub on_refused : Leaves → ℕ → One
on_refused w job = cond w.answer (as_rule (noted w.page job 1)) (one 23 w.page)

unfoldable pub refused_job : List ℕ → ℕ → One
refused_job l job = cond (is_down l) (one 3 l) (cond (decided_in l job) (one 6 l) (on_refused (pushed l 8 3088 16384 job) job))

unfoldable pub acknowledged : List ℕ → ℕ → ℕ
acknowledged l job = cond (is_down l) 3 (cond (decided_in l job) 0 1)

unfoldable pub published : List ℕ → ℕ → ℕ → ℕ → ℕ
published l number job fate = cond (is_down l) 3 (cond (is_noted l number job fate) 0 4)

-- ---- a primitive

-- of a start either kind is meant by 0
abbrev pub is_kind : ℕ → ℕ → Bool
is_kind first kind = cond (eqb first kind) true (cond (eqb kind 0) (eqb first 1) false)

abbrev pub is_job : List ℕ → ℕ → ℕ → Bool
is_job z kind job = cond (eqb kind 4) (eqb (entry_in z 0 2) job) true

-- the first on the other end's line that has left is this one
unfoldable pub first_rule : List ℕ → ℕ → ℕ → ℕ → ℕ
first_rule z kind number job =
    cond (leb (get_or z 7 0) (get_or z 6 0)) 7
    (cond (is_kind (entry_in z 0 0) kind) (cond (eqb (entry_in z 0 1) number) (cond (is_job z kind job) 0 7) 12) 7)

unfoldable pub quieted : List ℕ → Held → ℕ → One
quieted l r fate = cond (eqb fate 0) (one 0 (holding l r)) (as_rule (told (holding l r) fate))

unfoldable pub showed : List ℕ → Held → One
showed l r = one 0 (set (holding l r) 5 1)

unfoldable pub met_done : List ℕ → List ℕ → ℕ → ℕ → Option Done → Two
met_done l b most fate None = two 0 l b
met_done l b most fate (Some (Quiet r)) = beside (quieted l r fate) b
met_done l b most fate (Some (Shows r)) = beside (showed l r) b
met_done l b most fate (Some (Sends r)) = two 20 l b
met_done l b most fate (Some (Aborts r)) = aborted l b r most

-- an IDLE end takes no notice of anything but a start
abbrev pub is_deaf : List ℕ → Primitive → Bool
is_deaf l p = cond (is_idle l) (not (is_opening p)) false

unfoldable pub meeting : List ℕ → List ℕ → Side → Primitive → ℕ → ℕ → ℕ → Two
meeting l b sd p number most fate =
    cond (is_deaf l p) (beside (quieted l (held_in l) fate) b) (met_done l b most fate (received_of sd (held_in l) p number))

-- what the arrival of a primitive says of the open jobs: a D-ABORT of this dialogue, and the start of another, that they are broken
abbrev pub fate_of : ℕ → ℕ → ℕ → ℕ
fate_of kind number holds = cond (eqb kind 8 && eqb number holds) 3 (cond (ltb kind 2 && ltb holds number) 3 0)

unfoldable pub heard : List ℕ → List ℕ → List ℕ → Side → ℕ → ℕ → ℕ → ℕ → All
heard l z b sd kind number most job =
    cond (eqb (ready_rule l) 0)
    (cond (eqb (first_rule z kind number job) 0)
    (facing (meeting l b sd (primitive_of (entry_in z 0 0)) number most (fate_of (entry_in z 0 0) number (get_or l 2 0))) (removed z 0))
    (all (first_rule z kind number job) l z b)) (all (ready_rule l) l z b)

unfoldable pub heard_end : List ℕ → List ℕ → List ℕ → Side → ℕ → All
heard_end l z b sd number =
    cond (eqb (ready_rule l) 0)
    (cond (eqb (first_rule z 6 number 0) 0)
    (cond (eqb number (held_in l).number)
    (cond (expects sd (held_in l).control (DEndCnf Accepted)) (facing (meeting l b sd (DEndCnf Accepted) number 0 2) (removed z 0))
    (all 4 l z b)) (all 4 l z b)) (all (first_rule z 6 number 0) l z b)) (all (ready_rule l) l z b)

-- ---- the host

unfoldable pub shown_to : List ℕ → One
shown_to l = cond (is_down l) (one 3 l) (cond (eqb (get_or l 5 0) 0) (one 1 l) (one 0 (set l 5 0)))

unfoldable pub departed : List ℕ → One
departed l = cond (is_up_of l) (cond (eqb (get_or l 6 0) 0) (one 1 l) (one 0 (set l 6 (get_or l 6 0 - 1)))) (one 3 l)

-- in order: both lines are empty, both ends are IDLE, and nothing broke the dialogue
unfoldable pub released_by : List ℕ → List ℕ → List ℕ → One
released_by l z b =
    cond (is_up_of l)
    (cond (ltb 0 (get_or l 7 0)) (one 4 l)
    (cond (ltb 0 (get_or z 7 0)) (one 4 l)
    (cond (is_idle l)
    (cond (is_idle z) (cond (among b 1 (get_or b 0 0) (get_or l 2 0)) (one 4 l) (as_rule (told l 2))) (one 4 l)) (one 4 l)))) (one 3 l)

unfoldable pub gave_up : List ℕ → One
gave_up l = cond (is_up_of l) (as_rule (told l 3)) (one 3 l)

unfoldable pub power_failed : List ℕ → One
power_failed l = one 0 (set (set l 4 2) 5 0)

unfoldable pub cut_off_of : List ℕ → One
cut_off_of l = cond (eqb (get_or l 4 0) 1) (one 0 l) (as_rule (told (set (set l 4 1) 6 0) 3))

unfoldable pub closed_in : List ℕ → List ℕ
closed_in l = cond (is_idle l) l (holding l (record_of closed (held_in l).number (held_in l).highest))

-- one end hears that the carrier failed
unfoldable pub lost : List ℕ → One
lost l = as_rule (told (closed_in (set (set l 7 0) 6 0)) 3)

-- the dialogues that an end is in, or that have an entry on its line, are broken
unfoldable pub marked_alive : List ℕ → List ℕ → Leaves
marked_alive b l = cond (is_idle l) (marked_line b l) (and_then (mark_broken b (get_or l 2 0)) (λ (c : List ℕ). marked_line c l))

-- it is up again, if it has power
unfoldable pub rejoined : List ℕ → List ℕ
rejoined l = cond (eqb (get_or l 4 0) 1) (set l 4 0) l

abbrev pub lost_too : One → List ℕ → List ℕ → All
lost_too o l b = all o.rule l o.here b

abbrev pub on_lost : One → List ℕ → List ℕ → All
on_lost o z b = cond (eqb o.rule 0) (lost_too (lost z) o.here b) (all o.rule o.here z b)

abbrev pub on_there : Leaves → List ℕ → List ℕ → All
on_there w l z = cond w.answer (on_lost (lost (set l 4 0)) (rejoined z) w.page) (all 23 l z w.page)

abbrev pub on_here : Leaves → List ℕ → List ℕ → All
on_here w l z = cond w.answer (on_there (marked_alive w.page z) l z) (all 23 l z w.page)

unfoldable pub carrier_failed : List ℕ → List ℕ → List ℕ → All
carrier_failed l z b = on_here (marked_alive b l) l z

-- ---- what a host shows

unfoldable pub record_rule : List ℕ → ℕ → ℕ → ℕ → ℕ → ℕ
record_rule l state dsc number highest =
    cond (is_up_of l)
    (cond (eqb (get_or l 0 0) state)
    (cond (eqb (get_or l 1 0) dsc) (cond (eqb (get_or l 2 0) number) (cond (eqb (get_or l 3 0) highest) 0 2) 2) 2) 2) 0

unfoldable pub quiet_rule : List ℕ → List ℕ → ℕ
quiet_rule l z = cond (ltb 0 (get_or l 7 0)) 21 (cond (ltb 0 (get_or z 7 0)) 21 0)
