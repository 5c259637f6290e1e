-- The table of the finite control as an independent model of the documents gives it (tests/machine/model.py), equal to the
-- definitions by computation. A row for each state and DSC; a column for each call: 0 not taken, else 100 for each
-- primitive that is sent plus the next control; a column for each primitive: 10 quiet, 100 aborts, 1000 handed out, plus the next control.
-- Assumes nothing.
use mathlib.Core.Path.{◌≡◌, refl}
use mathlib.Core.Bool.{Bool, true, false, cond}
use mathlib.Core.List.{List, [], ◌∷◌, ◌++◌}
use Prim.Native.Nat.{ℕ, ◌+◌, ◌*◌}
use Rattle.control.specs.Control.{number, entered, takes, goes, sends, Did, quiet, aborts, meets, hands}
use Rattle.control.specs.declared.Side.{Side}
use Rattle.control.specs.declared.Side.TheVariants.{Air, Ground}
use Rattle.control.specs.declared.State.{State}
use Rattle.control.specs.declared.State.TheVariants.{Idle, StartReq, StartInd, Dialogue, End}
use Rattle.control.specs.declared.Control.{Control}
use Rattle.control.specs.declared.Reply.TheVariants.{Accepted, Rejected}
use Rattle.control.specs.declared.Call.{Call}
use Rattle.control.specs.declared.Call.TheVariants.{StartRequest, StartResponse, MessageRequest, EndRequest, EndResponse, UserAbort, TimerExpiry, SystemError}
use Rattle.control.specs.declared.Primitive.{Primitive}
use Rattle.control.specs.declared.Primitive.TheVariants.{DStart, DStartCnf, DTurnedAway, DData, DEnd, DEndCnf, DAbort, DPAbort}

abbrev control_no : Control → ℕ
control_no c = 2 * number c.state + cond c.dsc 1 0

abbrev primitive_no : Primitive → ℕ
primitive_no (DStart m) = cond m 1 0
primitive_no (DStartCnf Accepted) = 2
primitive_no (DStartCnf Rejected) = 3
primitive_no DTurnedAway = 99
primitive_no DData = 4
primitive_no DEnd = 5
primitive_no (DEndCnf Accepted) = 6
primitive_no (DEndCnf Rejected) = 7
primitive_no DAbort = 8
primitive_no DPAbort = 99

abbrev did_no : Did → ℕ
did_no (quiet c) = 10 + control_no c
did_no (aborts c) = 100 + control_no c

abbrev call_no : Side → Control → Call → ℕ
call_no sd c k = cond (takes sd c k) (100 * (1 + primitive_no (sends k)) + control_no (goes c k)) 0

abbrev meets_no : Side → Control → Primitive → ℕ
meets_no sd c p = cond (hands sd c p) 1000 0 + did_no (meets sd c p)

abbrev calls : List Call
calls =
    StartRequest false ∷ StartRequest true ∷ StartResponse false Accepted ∷ StartResponse false Rejected ∷ StartResponse
    true Accepted ∷ StartResponse true Rejected ∷
    MessageRequest ∷ EndRequest false ∷ EndRequest true ∷ EndResponse false Accepted ∷ EndResponse false Rejected ∷
    EndResponse true Accepted ∷
    EndResponse true Rejected ∷ UserAbort ∷ TimerExpiry ∷ SystemError ∷ []

abbrev primitives : List Primitive
primitives =
    DStart false ∷ DStart true ∷ DStartCnf Accepted ∷ DStartCnf Rejected ∷ DTurnedAway ∷ DData ∷ DEnd ∷ DEndCnf Accepted
    ∷ DEndCnf Rejected ∷ DAbort ∷ DPAbort ∷ []

abbrev states : List State
states = Idle ∷ StartReq ∷ StartInd ∷ Dialogue ∷ End ∷ []

unfoldable pub each : {A : Type 0} → List A → (A → ℕ) → List ℕ
each [] f = []
each (x ∷ xs) f = f x ∷ each xs f

unfoldable pub rows : List State → (Control → List ℕ) → List ℕ
rows [] f = []
rows (s ∷ ss) f = f (entered s false) ++ (f (entered s true) ++ rows ss f)

abbrev air_calls : List ℕ
air_calls =
    102 ∷ 203 ∷ 0 ∷ 0 ∷ 0 ∷ 0 ∷ 0 ∷ 0 ∷ 0 ∷ 0 ∷ 0 ∷ 0 ∷ 0 ∷ 0 ∷ 0 ∷ 0 ∷ 103 ∷ 203 ∷ 0 ∷ 0 ∷ 0 ∷ 0 ∷ 0 ∷ 0 ∷ 0 ∷ 0 ∷ 0 ∷ 0 ∷
    0 ∷ 0 ∷ 0 ∷ 0 ∷ 0 ∷ 0 ∷ 0 ∷ 0 ∷ 0 ∷ 0 ∷ 0 ∷ 0 ∷ 0 ∷ 0 ∷ 0 ∷ 0 ∷ 0 ∷ 900 ∷ 900 ∷ 900 ∷ 0 ∷ 0 ∷ 0 ∷ 0 ∷ 0 ∷ 0 ∷ 0 ∷ 0 ∷
    0 ∷ 0 ∷ 0 ∷ 0 ∷ 0 ∷ 900 ∷ 900 ∷ 900 ∷ 0 ∷ 0 ∷ 306 ∷ 400 ∷ 0 ∷ 0 ∷ 0 ∷ 0 ∷ 0 ∷ 0 ∷ 0 ∷ 0 ∷ 0 ∷ 900 ∷ 0 ∷ 900 ∷ 0 ∷ 0 ∷
    0 ∷ 0 ∷ 0 ∷ 0 ∷ 0 ∷ 0 ∷ 0 ∷ 0 ∷ 0 ∷ 0 ∷ 0 ∷ 900 ∷ 0 ∷ 900 ∷ 0 ∷ 0 ∷ 0 ∷ 0 ∷ 0 ∷ 0 ∷ 506 ∷ 0 ∷ 0 ∷ 0 ∷ 0 ∷ 0 ∷ 0 ∷ 900 ∷
    0 ∷ 900 ∷ 0 ∷ 0 ∷ 0 ∷ 0 ∷ 0 ∷ 0 ∷ 507 ∷ 0 ∷ 609 ∷ 0 ∷ 0 ∷ 0 ∷ 0 ∷ 900 ∷ 0 ∷ 900 ∷ 0 ∷ 0 ∷ 0 ∷ 0 ∷ 0 ∷ 0 ∷ 508 ∷ 0 ∷ 0 ∷
    700 ∷ 806 ∷ 0 ∷ 0 ∷ 900 ∷ 0 ∷ 900 ∷ 0 ∷ 0 ∷ 0 ∷ 0 ∷ 0 ∷ 0 ∷ 0 ∷ 0 ∷ 0 ∷ 0 ∷ 0 ∷ 0 ∷ 0 ∷ 900 ∷ 0 ∷ 900 ∷ []

pub air_calls_are : rows states (λ (c : Control). each calls (call_no Air c)) ≡ air_calls
unfolding each rows
air_calls_are = refl

abbrev air_meets : List ℕ
air_meets =
    14 ∷ 100 ∷ 10 ∷ 10 ∷ 10 ∷ 10 ∷ 10 ∷ 10 ∷ 10 ∷ 10 ∷ 10 ∷ 15 ∷ 100 ∷ 10 ∷ 10 ∷ 10 ∷ 10 ∷ 10 ∷ 10 ∷ 10 ∷ 10 ∷ 10 ∷ 100 ∷
    100 ∷ 16 ∷ 10 ∷ 10 ∷ 100 ∷ 100 ∷ 100 ∷ 100 ∷ 10 ∷ 10 ∷ 100 ∷ 100 ∷ 17 ∷ 10 ∷ 10 ∷ 100 ∷ 100 ∷ 100 ∷ 100 ∷ 10 ∷ 10 ∷ 100 ∷
    100 ∷ 100 ∷ 100 ∷ 100 ∷ 100 ∷ 100 ∷ 100 ∷ 100 ∷ 10 ∷ 10 ∷ 100 ∷ 100 ∷ 100 ∷ 100 ∷ 100 ∷ 100 ∷ 100 ∷ 100 ∷ 100 ∷ 10 ∷ 10 ∷
    100 ∷ 100 ∷ 100 ∷ 100 ∷ 100 ∷ 1016 ∷ 18 ∷ 100 ∷ 100 ∷ 10 ∷ 10 ∷ 100 ∷ 100 ∷ 100 ∷ 100 ∷ 100 ∷ 1017 ∷ 100 ∷ 100 ∷ 100 ∷
    10 ∷ 10 ∷ 100 ∷ 100 ∷ 100 ∷ 100 ∷ 100 ∷ 100 ∷ 100 ∷ 100 ∷ 100 ∷ 10 ∷ 10 ∷ 100 ∷ 100 ∷ 100 ∷ 100 ∷ 100 ∷ 1019 ∷ 100 ∷ 10 ∷
    17 ∷ 10 ∷ 10 ∷ []

pub air_meets_are : rows states (λ (c : Control). each primitives (meets_no Air c)) ≡ air_meets
unfolding each rows
air_meets_are = refl

abbrev ground_calls : List ℕ
ground_calls =
    102 ∷ 0 ∷ 0 ∷ 0 ∷ 0 ∷ 0 ∷ 0 ∷ 0 ∷ 0 ∷ 0 ∷ 0 ∷ 0 ∷ 0 ∷ 0 ∷ 0 ∷ 0 ∷ 103 ∷ 0 ∷ 0 ∷ 0 ∷ 0 ∷ 0 ∷ 0 ∷ 0 ∷ 0 ∷ 0 ∷ 0 ∷ 0 ∷ 0 ∷
    0 ∷ 0 ∷ 0 ∷ 0 ∷ 0 ∷ 0 ∷ 0 ∷ 0 ∷ 0 ∷ 0 ∷ 0 ∷ 0 ∷ 0 ∷ 0 ∷ 0 ∷ 0 ∷ 900 ∷ 900 ∷ 900 ∷ 0 ∷ 0 ∷ 0 ∷ 0 ∷ 0 ∷ 0 ∷ 0 ∷ 0 ∷ 0 ∷
    0 ∷ 0 ∷ 0 ∷ 0 ∷ 900 ∷ 900 ∷ 900 ∷ 0 ∷ 0 ∷ 306 ∷ 400 ∷ 0 ∷ 0 ∷ 0 ∷ 0 ∷ 0 ∷ 0 ∷ 0 ∷ 0 ∷ 0 ∷ 900 ∷ 0 ∷ 900 ∷ 0 ∷ 0 ∷ 0 ∷
    0 ∷ 307 ∷ 400 ∷ 0 ∷ 0 ∷ 0 ∷ 0 ∷ 0 ∷ 0 ∷ 0 ∷ 900 ∷ 0 ∷ 900 ∷ 0 ∷ 0 ∷ 0 ∷ 0 ∷ 0 ∷ 0 ∷ 506 ∷ 608 ∷ 0 ∷ 0 ∷ 0 ∷ 0 ∷ 0 ∷ 900 ∷
    0 ∷ 900 ∷ 0 ∷ 0 ∷ 0 ∷ 0 ∷ 0 ∷ 0 ∷ 507 ∷ 0 ∷ 0 ∷ 0 ∷ 0 ∷ 0 ∷ 0 ∷ 900 ∷ 0 ∷ 900 ∷ 0 ∷ 0 ∷ 0 ∷ 0 ∷ 0 ∷ 0 ∷ 0 ∷ 0 ∷ 0 ∷ 0 ∷
    0 ∷ 0 ∷ 0 ∷ 900 ∷ 0 ∷ 900 ∷ 0 ∷ 0 ∷ 0 ∷ 0 ∷ 0 ∷ 0 ∷ 509 ∷ 0 ∷ 0 ∷ 0 ∷ 0 ∷ 700 ∷ 807 ∷ 900 ∷ 0 ∷ 900 ∷ []

pub ground_calls_are : rows states (λ (c : Control). each calls (call_no Ground c)) ≡ ground_calls
unfolding each rows
ground_calls_are = refl

abbrev ground_meets : List ℕ
ground_meets =
    14 ∷ 15 ∷ 10 ∷ 10 ∷ 10 ∷ 10 ∷ 10 ∷ 10 ∷ 10 ∷ 10 ∷ 10 ∷ 15 ∷ 15 ∷ 10 ∷ 10 ∷ 10 ∷ 10 ∷ 10 ∷ 10 ∷ 10 ∷ 10 ∷ 10 ∷ 100 ∷ 100 ∷
    16 ∷ 10 ∷ 10 ∷ 100 ∷ 100 ∷ 100 ∷ 100 ∷ 10 ∷ 10 ∷ 100 ∷ 100 ∷ 100 ∷ 100 ∷ 100 ∷ 100 ∷ 100 ∷ 100 ∷ 100 ∷ 10 ∷ 10 ∷ 100 ∷
    100 ∷ 100 ∷ 100 ∷ 100 ∷ 100 ∷ 100 ∷ 100 ∷ 100 ∷ 10 ∷ 10 ∷ 100 ∷ 100 ∷ 100 ∷ 100 ∷ 100 ∷ 100 ∷ 100 ∷ 100 ∷ 100 ∷ 10 ∷ 10 ∷
    100 ∷ 100 ∷ 100 ∷ 100 ∷ 100 ∷ 1016 ∷ 100 ∷ 100 ∷ 100 ∷ 10 ∷ 10 ∷ 100 ∷ 100 ∷ 100 ∷ 100 ∷ 100 ∷ 1017 ∷ 19 ∷ 100 ∷ 100 ∷
    10 ∷ 10 ∷ 100 ∷ 100 ∷ 100 ∷ 100 ∷ 100 ∷ 1018 ∷ 100 ∷ 10 ∷ 16 ∷ 10 ∷ 10 ∷ 100 ∷ 100 ∷ 100 ∷ 100 ∷ 100 ∷ 100 ∷ 100 ∷ 100 ∷
    100 ∷ 10 ∷ 10 ∷ []

pub ground_meets_are : rows states (λ (c : Control). each primitives (meets_no Ground c)) ≡ ground_meets
unfolding each rows
ground_meets_are = refl
