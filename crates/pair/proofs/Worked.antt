-- Runs, computed: that the machines do go through their states and that each step of the carrier does something. (A
-- claim about all runs says nothing of a machine that refuses everything.) Each run says where both ends are, what is on the
-- lines, and every history.
-- Assumes nothing.
use mathlib.Core.Path.{◌≡◌, refl}
use mathlib.Core.Bool.{Bool, true, false}
use mathlib.Core.List.{List, [], ◌∷◌, ◌++◌}
use Prim.Native.Nat.{ℕ}
use Rattle.pair.specs.Names.{Side, Air, Ground, StartReq, StartInd, Dialogue, End, Control, Accepted, Rejected, Primitive, DStart, DStartCnf, DData, DEndCnf, DAbort, Call, StartRequest, StartResponse, MessageRequest, EndRequest, EndResponse, UserAbort, entered, closed}
use Rattle.pair.specs.Carrier.{Body, Step, user_call, hand_over, timer_expires_of, error_reported, turn_away, fail, Turn}
use Rattle.pair.proofs.OneDialogue.{Party, fresh, run}
use Rattle.pair.proofs.ControlMachine.{Ent, Ask, ask, new, control}

-- ---- the words of a run

abbrev turn : Side → Step Ask → Turn Ask
turn sd c = record { side = sd; step = c }

-- the user of an end calls; sends the message n with job j; gets the oldest entry of the other's line
abbrev asks : Side → Call → Turn Ask
asks sd u = turn sd (user_call (ask u [] 0) 0)

abbrev says : Side → ℕ → ℕ → Turn Ask
says sd j n = turn sd (user_call (ask MessageRequest (n ∷ []) j) 0)

abbrev gets : Side → Turn Ask
gets sd = turn sd (hand_over 0)

-- the first entry of each message
abbrev texts : List Body → List ℕ
texts [] = []
texts ([] ∷ l) = texts l
texts ((n ∷ b) ∷ l) = n ∷ texts l

abbrev kinds : List Ent → List Primitive
kinds [] = []
kinds (e ∷ l) = e.kind ∷ kinds l

-- an end: its control, its line, the messages it took and handed out in this dialogue, the jobs it ever took
record Seen : Type 0 where
  ctl : Control
  line : List Primitive
  took : List ℕ
  gave : List ℕ
  jobs : List ℕ

record View : Type 0 where
  air : Seen
  ground : Seen
  broken : Bool

abbrev seen : Control → List Primitive → List ℕ → List ℕ → List ℕ → Seen
seen c l t g j = record { ctl = c; line = l; took = t; gave = g; jobs = j }

abbrev of_party : Party control → Seen
of_party x = seen x.rec.ctl (kinds x.line) (texts x.taken) (texts x.handed) x.jobs

abbrev after : List (Turn Ask) → View
after ts = record { air = of_party (run control (fresh control new new) ts).here; ground = of_party (run control (fresh control new new) ts).there; broken = (run control (fresh control new new) ts).broken }

abbrev view : Seen → Seen → Bool → View
view a g b = record { air = a; ground = g; broken = b }

-- ---- a dialogue, and the next

-- the air starts, the ground accepts and sends at once
abbrev opening : List (Turn Ask)
opening = asks Air (StartRequest false) ∷ gets Ground ∷ asks Ground (StartResponse false Accepted) ∷ says Ground 1 50 ∷
    gets Air ∷ gets Air ∷ []

-- messages both ways; job 1 again is refused; the ground asks for the end with messages on both lines
abbrev talking : List (Turn Ask)
talking = opening ++ (says Air 1 60 ∷ says Air 1 61 ∷ says Air 2 62 ∷ asks Ground (EndRequest false) ∷ says Ground 2 51
    ∷ gets Ground ∷ gets Air ∷ says Air 3 63 ∷ [])

-- the air accepts the end behind its messages
abbrev closing : List (Turn Ask)
closing = talking ++ (asks Air (EndResponse false Accepted) ∷ gets Ground ∷ gets Ground ∷ gets Ground ∷ [])

-- the ground starts the next one; the jobs go on: the air's job 3 and the ground's job 1 stay taken
abbrev again : List (Turn Ask)
again = closing ++ (asks Ground (StartRequest false) ∷ gets Air ∷ asks Air (StartResponse false Accepted) ∷ gets Ground
    ∷ says Air 3 70 ∷ says Air 4 71 ∷ gets Ground ∷ says Ground 1 72 ∷ says Ground 2 73 ∷ [])

pub opened : after opening ≡ view (seen (entered Dialogue false) [] [] (50 ∷ []) [])
    (seen (entered Dialogue false) [] (50 ∷ []) [] (1 ∷ [])) false
unfolding run
opened = refl

pub end_asked : after talking ≡ view
    (seen (entered End false) (DData ∷ DData ∷ []) (60 ∷ 62 ∷ 63 ∷ []) (50 ∷ []) (1 ∷ 2 ∷ 3 ∷ []))
    (seen (entered End false) [] (50 ∷ []) (60 ∷ []) (1 ∷ [])) false
unfolding run
end_asked = refl

pub ended_whole : after closing ≡ view (seen closed [] (60 ∷ 62 ∷ 63 ∷ []) (50 ∷ []) (1 ∷ 2 ∷ 3 ∷ []))
    (seen closed [] (50 ∷ []) (60 ∷ 62 ∷ 63 ∷ []) (1 ∷ [])) false
unfolding run
ended_whole = refl

pub opened_again : after again ≡ view (seen (entered Dialogue false) [] (71 ∷ []) [] (1 ∷ 2 ∷ 3 ∷ 4 ∷ []))
    (seen (entered Dialogue false) (DData ∷ []) (73 ∷ []) (71 ∷ []) (1 ∷ 2 ∷ [])) false
unfolding run
opened_again = refl

-- ---- DSC

-- the air starts in mode dsc; the ground may not ask for the end, but sends behind a rejected one
abbrev dsc : List (Turn Ask)
dsc =
    asks Air (StartRequest true) ∷ gets Ground ∷ asks Ground (StartResponse true Accepted) ∷ gets Air ∷ asks Ground
    (EndRequest true) ∷ asks Air (EndRequest true) ∷ gets Ground ∷ says Ground 5 80 ∷
    asks Ground (EndResponse true Rejected) ∷ says Ground 6 81 ∷ []

pub dsc_end_rejected : after dsc ≡ view (seen (entered End true) [] [] [] [])
    (seen (entered Dialogue true) (DData ∷ DEndCnf Rejected ∷ DData ∷ []) (80 ∷ 81 ∷ []) [] (5 ∷ 6 ∷ [])) false
unfolding run
dsc_end_rejected = refl

-- all of it is handed out, and the second request for the end is accepted
pub dsc_closed : after (dsc ++ (gets Air ∷ gets Air ∷ gets Air ∷ asks Air (EndRequest true) ∷ gets Ground ∷ asks Ground
    (EndResponse true Accepted) ∷ gets Air ∷ [])) ≡ view (seen closed [] [] (80 ∷ 81 ∷ []) [])
    (seen closed [] (80 ∷ 81 ∷ []) [] (5 ∷ 6 ∷ [])) false
unfolding run
dsc_closed = refl

-- ---- each step of the carrier

-- a start is no step while the other end is not IDLE, or while an entry is on a line
pub start_waits : after (asks Air (StartRequest false) ∷ asks Ground (StartRequest false) ∷ []) ≡ view
    (seen (entered StartReq false) (DStart false ∷ []) [] [] []) (seen closed [] [] [] []) false
unfolding run
start_waits = refl

-- t-start expires with the start undelivered: the start is lost (nothing of the line is kept), the D-ABORT is not; it reaches an
-- IDLE end and is discarded; a start in between is no step
abbrev expired : List (Turn Ask)
expired = asks Air (StartRequest false) ∷ turn Air (timer_expires_of 0) ∷ asks Ground (StartRequest false) ∷ []

pub timer_expired : after expired ≡ view (seen closed (DAbort ∷ []) [] [] []) (seen closed [] [] [] []) true
unfolding run
timer_expired = refl

pub abort_discarded : after (expired ++ (gets Ground ∷ asks Ground (StartRequest false) ∷ [])) ≡ view
    (seen closed [] [] [] []) (seen (entered StartReq false) (DStart false ∷ []) [] [] []) false
unfolding run
abort_discarded = refl

-- the same with the start kept: the other end takes it, and then the D-ABORT closes it
pub abort_delivered : after (asks Air (StartRequest true) ∷ turn Air (timer_expires_of 1) ∷ gets Ground ∷ []) ≡ view
    (seen closed (DAbort ∷ []) [] [] []) (seen (entered StartInd true) [] [] [] []) true
unfolding run
abort_delivered = refl

-- no timer runs in DIALOGUE
pub no_timer : after (opening ++ (turn Air (timer_expires_of 0) ∷ [])) ≡ after opening
unfolding run
no_timer = refl

-- a user abort with three messages undelivered keeps the oldest two: they are handed out, the youngest is lost
abbrev cut : List (Turn Ask)
cut = opening ++ (says Air 1 60 ∷ says Air 2 61 ∷ says Air 3 62 ∷ turn Air (user_call (ask UserAbort [] 0) 2) ∷ [])

pub youngest_lost : after cut ≡ view
    (seen closed (DData ∷ DData ∷ DAbort ∷ []) (60 ∷ 61 ∷ 62 ∷ []) (50 ∷ []) (1 ∷ 2 ∷ 3 ∷ []))
    (seen (entered Dialogue false) [] (50 ∷ []) [] (1 ∷ [])) true
unfolding run
youngest_lost = refl

pub oldest_handed : after (cut ++ (gets Ground ∷ gets Ground ∷ gets Ground ∷ [])) ≡ view
    (seen closed [] (60 ∷ 61 ∷ 62 ∷ []) (50 ∷ []) (1 ∷ 2 ∷ 3 ∷ [])) (seen closed [] (50 ∷ []) (60 ∷ 61 ∷ []) (1 ∷ []))
    true
unfolding run
oldest_handed = refl

-- a system error: the end closes; a message that reaches it later is discarded
pub error_closes : after (opening ++ (says Air 1 60 ∷ turn Ground (error_reported 0) ∷ gets Ground ∷ [])) ≡ view
    (seen (entered Dialogue false) [] (60 ∷ []) (50 ∷ []) (1 ∷ [])) (seen closed (DAbort ∷ []) (50 ∷ []) [] (1 ∷ []))
    true
unfolding run
error_closes = refl

-- an undelivered start is turned away, and nothing is broken; a delivered one is not
pub start_turned_away : after (asks Air (StartRequest true) ∷ turn Air (turn_away 0) ∷ []) ≡ view
    (seen closed [] [] [] []) (seen closed [] [] [] []) false
unfolding run
start_turned_away = refl

pub delivered_stays : after (asks Air (StartRequest true) ∷ gets Ground ∷ turn Air (turn_away 0) ∷ []) ≡ view
    (seen (entered StartReq true) [] [] [] []) (seen (entered StartInd true) [] [] [] []) false
unfolding run
delivered_stays = refl

-- the carrier fails: both lines are empty, both ends are told, the dialogue is broken
pub carrier_failed : after (talking ++ (turn Ground fail ∷ [])) ≡ view
    (seen closed [] (60 ∷ 62 ∷ 63 ∷ []) (50 ∷ []) (1 ∷ 2 ∷ 3 ∷ [])) (seen closed [] (50 ∷ []) (60 ∷ []) (1 ∷ [])) true
unfolding run
carrier_failed = refl

-- a start that the user rejects
pub start_rejected : after (asks Ground (StartRequest false) ∷ gets Air ∷ asks Air (StartResponse false Rejected) ∷ [])
    ≡ view (seen closed (DStartCnf Rejected ∷ []) [] [] []) (seen (entered StartReq false) [] [] [] []) false
unfolding run
start_rejected = refl
