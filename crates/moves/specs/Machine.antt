-- What a call and a primitive do to what a record holds. It is crate pair's machine for the finite control with numbers, seen without messages (crate
-- moves_laws has the equations).
use Rattle.std.specs.Prelude.{ℕ, Bool, true, false, not, cond, ◌&&◌, eqb, ltb, None, Option, Some}
use Rattle.control.specs.declared.Side.{Side}
use Rattle.control.specs.declared.Call.{Call}
use Rattle.control.specs.declared.Call.TheVariants.{StartRequest, StartResponse, MessageRequest, EndRequest, EndResponse, UserAbort, TimerExpiry, SystemError}
use Rattle.control.specs.declared.Primitive.{Primitive}
use Rattle.control.specs.declared.Primitive.TheVariants.{DStart, DStartCnf, DTurnedAway, DData, DEnd, DEndCnf, DAbort, DPAbort}
use Rattle.control.specs.declared.Control.{Control}
use Rattle.control.specs.Control.{takes, goes, expects, after, closed, is_idle}
use Rattle.moves.specs.declared.Held.{Held}
use Rattle.moves.specs.declared.Done.{Done}
use Rattle.moves.specs.declared.Done.TheVariants.{Quiet, Shows, Sends, Aborts}

-- ---- calls

abbrev pub is_message : Call → Bool
is_message (StartRequest m) = false
is_message (StartResponse m a) = false
is_message MessageRequest = true
is_message (EndRequest m) = false
is_message (EndResponse m a) = false
is_message UserAbort = false
is_message TimerExpiry = false
is_message SystemError = false

abbrev pub is_start : Call → Bool
is_start (StartRequest m) = true
is_start (StartResponse m a) = false
is_start MessageRequest = false
is_start (EndRequest m) = false
is_start (EndResponse m a) = false
is_start UserAbort = false
is_start TimerExpiry = false
is_start SystemError = false

abbrev pub is_abort : Call → Bool
is_abort (StartRequest m) = false
is_abort (StartResponse m a) = false
is_abort MessageRequest = false
is_abort (EndRequest m) = false
is_abort (EndResponse m a) = false
is_abort UserAbort = true
is_abort TimerExpiry = true
is_abort SystemError = true

abbrev pub holding : Control → ℕ → ℕ → Held
holding c n j = record { control = c; number = n; highest = j }

-- a message request needs a job above the highest, a start a number above the record's
abbrev pub may_do : Side → Held → Call → ℕ → ℕ → Bool
may_do sd r u v j =
    cond (is_message u) (takes sd r.control u && ltb r.highest j)
    (cond (is_start u) (takes sd r.control u && ltb r.number v) (takes sd r.control u))

abbrev pub moved_by : Held → Call → ℕ → ℕ → Held
moved_by r u v j =
    cond (is_message u) (holding (goes r.control u) r.number j)
    (cond (is_start u) (holding (goes r.control u) v r.highest) (holding (goes r.control u) r.number r.highest))

abbrev pub called_of : Side → Held → Call → ℕ → ℕ → Option Done
called_of sd r u v j = cond (may_do sd r u v j) (cond (is_abort u) (Some (Aborts (moved_by r u v j))) (Some (Sends (moved_by r u v j)))) None

-- ---- primitives

abbrev pub is_opening : Primitive → Bool
is_opening (DStart m) = true
is_opening (DStartCnf a) = false
is_opening DTurnedAway = false
is_opening DData = false
is_opening DEnd = false
is_opening (DEndCnf a) = false
is_opening DAbort = false
is_opening DPAbort = false

abbrev pub is_data : Primitive → Bool
is_data (DStart m) = false
is_data (DStartCnf a) = false
is_data DTurnedAway = false
is_data DData = true
is_data DEnd = false
is_data (DEndCnf a) = false
is_data DAbort = false
is_data DPAbort = false

unfoldable pub met_by : Side → Held → Primitive → Done
met_by sd r p =
    cond (expects sd r.control p)
    (cond (is_data p) (Shows (holding (after r.control p) r.number r.highest)) (Quiet (holding (after r.control p) r.number r.highest)))
    (cond (is_idle r.control && not (is_opening p)) (Quiet (holding closed r.number r.highest)) (Aborts (holding closed r.number r.highest)))

-- a start is refused unless its number is above the record's, which then holds it; another primitive unless it has the record's
abbrev pub received_of : Side → Held → Primitive → ℕ → Option Done
received_of sd r p v =
    cond (is_opening p) (cond (ltb r.number v) (Some (met_by sd (holding r.control v r.highest) p)) None)
    (cond (eqb v r.number) (Some (met_by sd r p)) None)
