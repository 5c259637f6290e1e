-- The finite control of both machines, once over the side: what a call or a primitive does to state and DSC.
-- Security, reasons, message data and jobs ride beside it.
-- Air: Doc 9880 3.5.3 and, where that is silent, Doc 9705 2.3.5.3. Ground: Doc 9705 2.3.5.5.
use Rattle.std.specs.Prelude.{ℕ, Bool, true, false, not, cond, ◌&&◌, ◌||◌, eqb}
use Rattle.control.specs.declared.Side.{Side}
use Rattle.control.specs.declared.Side.TheVariants.{Air, Ground}
use Rattle.control.specs.declared.State.{State}
use Rattle.control.specs.declared.State.TheVariants.{Idle, StartReq, StartInd, Dialogue, End, Forward}
use Rattle.control.specs.declared.Control.{Control}
use Rattle.control.specs.declared.Reply.{Reply}
use Rattle.control.specs.declared.Reply.TheVariants.{Accepted, Rejected}
use Rattle.control.specs.declared.Call.{Call}
use Rattle.control.specs.declared.Call.TheVariants.{StartRequest, StartResponse, MessageRequest, EndRequest, EndResponse, UserAbort, TimerExpiry, SystemError}
use Rattle.control.specs.declared.Primitive.{Primitive}
use Rattle.control.specs.declared.Primitive.TheVariants.{DStart, DStartCnf, DTurnedAway, DData, DEnd, DEndCnf, DAbort, DPAbort}

-- ---- small words

abbrev pub number : State → ℕ
number Idle = 0
number StartReq = 1
number StartInd = 2
number Dialogue = 3
number End = 4
number Forward = 5

abbrev pub is : State → State → Bool
is s t = eqb (number s) (number t)

abbrev pub same : Bool → Bool → Bool
same true b = b
same false b = not b

-- in this state with this DSC
abbrev pub within : Control → State → Bool → Bool
within c s d = is c.state s && same d c.dsc

abbrev pub is_idle : Control → Bool
is_idle c = is c.state Idle

-- a state that waits for a confirmation of its start: t-start runs there
abbrev pub waits : State → Bool
waits s = is s StartReq || is s Forward

abbrev pub entered : State → Bool → Control
entered s d = record { state = s; dsc = d }

-- a start with the mode dsc sets DSC, one with cpdlc leaves it (3.5.3.9 c, 2.3.5.5.2.2 b)
abbrev pub marked : Bool → Bool → Bool
marked m d = m || d

-- entering IDLE sets DSC false (document 01)
abbrev pub closed : Control
closed = entered Idle false

abbrev pub other : Side → Side
other Air = Ground
other Ground = Air

-- ---- the two differences between the sides

-- which side may start a dialogue in which mode: the ground has no downstream mode (2.3.5.3.7, 3.5.3.9, 2.3.5.5.7; document 02, E7)
abbrev pub may_start : Side → Bool → Bool
may_start Air dsc = true
may_start Ground dsc = not dsc

-- which side may ask for the end: the ground of a CPDLC dialogue (2.3.5.5.11), the air of a DSC dialogue (3.5.3.12)
abbrev pub ender : Side → Bool → Bool
ender Air dsc = dsc
ender Ground dsc = not dsc

-- ---- a call

-- Is there an action for it in this state with this DSC. An expiry and a system error are said as the pair needs them, of records that a
-- run reaches: there t-start runs in START-REQ and FORWARD and nowhere else, and a system error in IDLE does nothing. What is refused is
-- `permitted` (Step).
abbrev pub takes : Side → Control → Call → Bool
takes sd c (StartRequest m) = is c.state Idle && may_start sd m
takes sd c (StartResponse m a) = within c StartInd m && may_start (other sd) m
takes sd c MessageRequest = is c.state Dialogue || (is c.state End && not (ender sd c.dsc))
takes sd c (EndRequest m) = within c Dialogue m && ender sd m
takes sd c (EndResponse m a) = within c End m && not (ender sd m)
takes sd c UserAbort = not (is c.state Idle)
takes sd c TimerExpiry = waits c.state
takes sd c SystemError = not (is c.state Idle)

abbrev pub started : Reply → Bool → Control
started Accepted d = entered Dialogue d
started Rejected d = closed

abbrev pub ended : Reply → Bool → Control
ended Accepted d = closed
ended Rejected d = entered Dialogue d

-- where a call that is taken leads
abbrev pub goes : Control → Call → Control
goes c (StartRequest m) = entered StartReq (marked m c.dsc)
goes c (StartResponse m a) = started a c.dsc
goes c MessageRequest = c
goes c (EndRequest m) = entered End c.dsc
goes c (EndResponse m a) = ended a c.dsc
goes c UserAbort = closed
goes c TimerExpiry = closed
goes c SystemError = closed

-- what it sends to the other end
abbrev pub sends : Call → Primitive
sends (StartRequest m) = DStart m
sends (StartResponse m a) = DStartCnf a
sends MessageRequest = DData
sends (EndRequest m) = DEnd
sends (EndResponse m a) = DEndCnf a
sends UserAbort = DAbort
sends TimerExpiry = DAbort
sends SystemError = DAbort

-- ---- the forward service (2.3.3.8), the ground's alone: from IDLE to FORWARD, and back. It is no dialogue, so it is none of the calls and primitives here.

-- a forward request is taken (2.3.5.5.13.1)
abbrev pub takes_forward : Side → Control → Bool
takes_forward Air c = false
takes_forward Ground c = is_idle c

-- and leads here
abbrev pub forwarding : Control → Control
forwarding c = entered Forward c.dsc

-- the response to it is expected (2.3.5.5.3.3)
abbrev pub awaits_response : Control → Bool
awaits_response c = is c.state Forward

-- ---- a primitive

-- is there an instruction for it in this state with this DSC
abbrev pub expects : Side → Control → Primitive → Bool
expects sd c (DStart m) = is c.state Idle && may_start (other sd) m
expects sd c (DStartCnf a) = is c.state StartReq && may_start sd c.dsc
expects sd c DTurnedAway = is c.state StartReq && may_start sd c.dsc
expects sd c DData = is c.state Dialogue || (is c.state End && ender sd c.dsc)
expects sd c DEnd = is c.state Dialogue && not (ender sd c.dsc)
expects sd c (DEndCnf a) = is c.state End && ender sd c.dsc
expects sd c DAbort = not (is c.state Idle)
expects sd c DPAbort = not (is c.state Idle)

-- where an expected one leads
abbrev pub after : Control → Primitive → Control
after c (DStart m) = entered StartInd (marked m c.dsc)
after c (DStartCnf a) = started a c.dsc
after c DTurnedAway = closed
after c DData = c
after c DEnd = entered End c.dsc
after c (DEndCnf a) = ended a c.dsc
after c DAbort = closed
after c DPAbort = closed

abbrev pub is_start : Primitive → Bool
is_start (DStart m) = true
is_start (DStartCnf a) = false
is_start DTurnedAway = false
is_start DData = false
is_start DEnd = false
is_start (DEndCnf a) = false
is_start DAbort = false
is_start DPAbort = false

abbrev pub is_data : Primitive → Bool
is_data (DStart m) = false
is_data (DStartCnf a) = false
is_data DTurnedAway = false
is_data DData = true
is_data DEnd = false
is_data (DEndCnf a) = false
is_data DAbort = false
is_data DPAbort = false

-- an IDLE end takes no notice of anything but a D-START indication
abbrev pub deaf : Control → Primitive → Bool
deaf c p = is_idle c && not (is_start p)

-- what is not expected is answered by a D-ABORT and closes
pub data Did : Type 0 where
  quiet : Control → Did
  aborts : Control → Did

abbrev pub meets : Side → Control → Primitive → Did
meets sd c p = cond (expects sd c p) (quiet (after c p)) (cond (deaf c p) (quiet closed) (aborts closed))

-- is it handed out as a message indication
abbrev pub hands : Side → Control → Primitive → Bool
hands sd c p = is_data p && expects sd c p
