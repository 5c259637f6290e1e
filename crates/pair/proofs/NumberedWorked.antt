-- Runs on the numbered carrier, computed: entries of an old dialogue are met after a new start.
-- Assumes nothing.
use mathlib.Core.Path.{◌≡◌, refl}
use mathlib.Core.Bool.{Bool, true, false}
use mathlib.Core.List.{List, [], ◌∷◌, ◌++◌}
use Prim.Native.Nat.{ℕ}
use Rattle.pair.specs.Names.{Side, Air, Ground, StartReq, Dialogue, Control, Accepted, Primitive, DStart, DStartCnf, DData, DAbort, Call, StartRequest, StartResponse, MessageRequest, EndRequest, EndResponse, UserAbort, entered, closed}
use Rattle.pair.specs.Carrier.{Body, Step, user_call, hand_over, turn_away, fail, Turn}
use Rattle.pair.proofs.ControlMachine.{Ent, Ask, ask, new, control}
use Rattle.pair.specs.Numbered.{NParty, Numbered, mark, n_fresh, n_run}
use Rattle.pair.proofs.NumberedMachine.{numbered}

abbrev turn : Side → Step (Numbered Ask) → Turn (Numbered Ask)
turn sd c = record { side = sd; step = c }

-- a start with number v; another call; the message n with job j; the oldest entry
abbrev begins : Side → ℕ → Turn (Numbered Ask)
begins sd v = turn sd (user_call (mark v (ask (StartRequest false) [] 0)) 0)

abbrev asks : Side → Call → ℕ → Turn (Numbered Ask)
asks sd u keep = turn sd (user_call (mark 0 (ask u [] 0)) keep)

abbrev says : Side → ℕ → ℕ → Turn (Numbered Ask)
says sd j n = turn sd (user_call (mark 0 (ask MessageRequest (n ∷ []) j)) 0)

abbrev gets : Side → Turn (Numbered Ask)
gets sd = turn sd (hand_over 0)

abbrev kinds : List (Numbered Ent) → List (Numbered Primitive)
kinds [] = []
kinds (e ∷ l) = mark e.no e.it.kind ∷ kinds l

-- an end: its number, its control, its line, its histories in dialogues 1 and 2
record Seen : Type 0 where
  no : ℕ
  ctl : Control
  line : List (Numbered Primitive)
  took1 : List Body
  gave1 : List Body
  took2 : List Body
  gave2 : List Body

record View : Type 0 where
  air : Seen
  ground : Seen
  broken1 : Bool
  broken2 : Bool

abbrev seen : ℕ → Control → List (Numbered Primitive) → List Body → List Body → List Body → List Body → Seen
seen n c l t g u h = record { no = n; ctl = c; line = l; took1 = t; gave1 = g; took2 = u; gave2 = h }

abbrev of_party : NParty (numbered control) → Seen
of_party x = seen x.rec.no x.rec.it.ctl (kinds x.line) (x.taken 1) (x.handed 1) (x.taken 2) (x.handed 2)

abbrev view : Seen → Seen → Bool → Bool → View
view a g b c = record { air = a; ground = g; broken1 = b; broken2 = c }

abbrev after : List (Turn (Numbered Ask)) → View
after ts = let s = n_run (numbered control) Air (n_fresh (numbered control) (mark 0 new) (mark 0 new)) ts in view
    (of_party s.here) (of_party s.there) (s.broken 1) (s.broken 2)

-- the air starts 1, aborts, and starts 2 with START 1 and ABORT 1 still on the line; a start of 1 again is refused; the ground's is no step
abbrev late : List (Turn (Numbered Ask))
late = begins Air 1 ∷ asks Air UserAbort 1 ∷ begins Air 1 ∷ begins Ground 2 ∷ begins Air 2 ∷ []

pub late_is : after late ≡ view
    (seen 2 (entered StartReq false) (mark 1 (DStart false) ∷ mark 1 DAbort ∷ mark 2 (DStart false) ∷ []) [] [] [] [])
    (seen 0 closed [] [] [] [] []) true false
unfolding n_run
late_is = refl

-- the ground gets START 1, accepts, and takes a message in dialogue 1
abbrev old : List (Turn (Numbered Ask))
old = late ++ (gets Ground ∷ asks Ground (StartResponse false Accepted) 0 ∷ says Ground 1 70 ∷ [])

pub old_is : after old ≡ view (seen 2 (entered StartReq false) (mark 1 DAbort ∷ mark 2 (DStart false) ∷ []) [] [] [] [])
    (seen 1 (entered Dialogue false) (mark 1 (DStartCnf Accepted) ∷ mark 1 DData ∷ []) ((70 ∷ []) ∷ []) [] [] []) true
    false
unfolding n_run
old_is = refl

-- both are stale at the air; ABORT 1 closes the ground, START 2 opens it; job 1 stays taken; a message goes through in dialogue 2
abbrev newer : List (Turn (Numbered Ask))
newer = old ++ (gets Air ∷ gets Ground ∷ gets Ground ∷ asks Ground (StartResponse false Accepted) 0 ∷ says Ground 1 71 ∷
    says Ground 2 72 ∷ gets Air ∷ gets Air ∷ gets Air ∷ [])

pub newer_is : after newer ≡ view (seen 2 (entered Dialogue false) [] [] [] [] ((72 ∷ []) ∷ []))
    (seen 2 (entered Dialogue false) [] ((70 ∷ []) ∷ []) [] ((72 ∷ []) ∷ []) []) true false
unfolding n_run
newer_is = refl

-- a failure of the carrier breaks both dialogues that are alive
pub failed_is : after (old ++ (turn Air fail ∷ [])) ≡ view (seen 2 closed [] [] [] [] [])
    (seen 1 closed [] ((70 ∷ []) ∷ []) [] [] []) true true
unfolding n_run
failed_is = refl

-- an abort in dialogue 2 loses entries of dialogue 2 only: START 1 and ABORT 1 stay, START 2 goes
pub aborted_is : after (late ++ (asks Air UserAbort 0 ∷ [])) ≡ view
    (seen 2 closed (mark 1 (DStart false) ∷ mark 1 DAbort ∷ mark 2 DAbort ∷ []) [] [] [] [])
    (seen 0 closed [] [] [] [] []) true true
unfolding n_run
aborted_is = refl

-- the start that is turned away is that of number 2
pub away_is : after (late ++ (turn Air (turn_away 0) ∷ [])) ≡ view
    (seen 2 closed (mark 1 (DStart false) ∷ mark 1 DAbort ∷ []) [] [] [] []) (seen 0 closed [] [] [] [] []) true false
unfolding n_run
away_is = refl

-- a dialogue that was closed by both ends is not broken by a failure that comes later: its message was handed over, and that is promised still
abbrev closing : List (Turn (Numbered Ask))
closing = begins Air 1 ∷ gets Ground ∷ asks Ground (StartResponse false Accepted) 0 ∷ gets Air ∷ says Ground 1 70 ∷ gets
    Air ∷ asks Ground (EndRequest false) 0 ∷ gets Air ∷ asks Air (EndResponse false Accepted) 0 ∷ gets Ground ∷ []

pub closed_spared : after (closing ++ (turn Air fail ∷ [])) ≡ view (seen 1 closed [] [] ((70 ∷ []) ∷ []) [] [])
    (seen 1 closed [] ((70 ∷ []) ∷ []) [] [] []) false false
unfolding n_run
closed_spared = refl
