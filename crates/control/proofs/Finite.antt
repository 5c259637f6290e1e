-- Tests over every value of a finite type, which are computed, and what a passed test says of each value.
-- Assumes nothing.
use mathlib.Core.Path.{◌≡◌, refl, subst, sym}
use mathlib.Core.Bool.{Bool, true, false, not, ◌&&◌}
use lib.Dec.{T}
use Rattle.control.specs.Control.{entered}
use Rattle.control.specs.declared.Side.{Side}
use Rattle.control.specs.declared.Side.TheVariants.{Air, Ground}
use Rattle.control.specs.declared.State.{State}
use Rattle.control.specs.declared.State.TheVariants.{Idle, StartReq, StartInd, Dialogue, End, Forward}
use Rattle.control.specs.declared.Control.{Control}
use Rattle.control.specs.declared.Reply.{Reply}
use Rattle.control.specs.declared.Reply.TheVariants.{Accepted, Rejected}
use Rattle.control.specs.declared.Call.{Call}
use Rattle.control.specs.declared.Call.TheVariants.{StartRequest, StartResponse, MessageRequest, EndRequest, EndResponse, UserAbort, TimerExpiry, SystemError}
use Rattle.control.specs.declared.Primitive.{Primitive}
use Rattle.control.specs.declared.Primitive.TheVariants.{DStart, DStartCnf, DTurnedAway, DData, DEnd, DEndCnf, DAbort, DPAbort}

unfoldable pub imp : Bool → Bool → Bool
imp true b = b
imp false b = true

pub imp_e : (a b : Bool) → T (imp a b) → a ≡ true → b ≡ true
unfolding imp
imp_e true true t e = refl
imp_e true false t e = absurd t
imp_e false b t e = absurd (subst T (sym e) tt)

and_l : (a b : Bool) → T (a && b) → T a
and_l true b t = tt
and_l false b t = t

and_r : (a b : Bool) → T (a && b) → T b
and_r true b t = t
and_r false b t = absurd t

unfoldable pub all_bool : (Bool → Bool) → Bool
all_bool f = f true && f false

pub at_bool : (f : Bool → Bool) → T (all_bool f) → (x : Bool) → T (f x)
unfolding all_bool
at_bool f t true = and_l (f true) _ t
at_bool f t false = and_r (f true) _ t

unfoldable pub all_side : (Side → Bool) → Bool
all_side f = f Air && f Ground

pub at_side : (f : Side → Bool) → T (all_side f) → (x : Side) → T (f x)
unfolding all_side
at_side f t Air = and_l (f Air) _ t
at_side f t Ground = and_r (f Air) _ t

unfoldable pub all_state : (State → Bool) → Bool
all_state f = f Idle && (f StartReq && (f StartInd && (f Dialogue && (f End && f Forward))))

pub at_state : (f : State → Bool) → T (all_state f) → (x : State) → T (f x)
unfolding all_state
at_state f t Idle = and_l (f Idle) _ t
at_state f t StartReq = and_l (f StartReq) _ (and_r (f Idle) _ t)
at_state f t StartInd = and_l (f StartInd) _ (and_r (f StartReq) _ (and_r (f Idle) _ t))
at_state f t Dialogue = and_l (f Dialogue) _ (and_r (f StartInd) _ (and_r (f StartReq) _ (and_r (f Idle) _ t)))
at_state f t End = and_l (f End) _ (and_r (f Dialogue) _ (and_r (f StartInd) _ (and_r (f StartReq) _ (and_r (f Idle) _ t))))
at_state f t Forward = and_r (f End) _ (and_r (f Dialogue) _ (and_r (f StartInd) _ (and_r (f StartReq) _ (and_r (f Idle) _ t))))

unfoldable pub all_answer : (Reply → Bool) → Bool
all_answer f = f Accepted && f Rejected

pub at_answer : (f : Reply → Bool) → T (all_answer f) → (x : Reply) → T (f x)
unfolding all_answer
at_answer f t Accepted = and_l (f Accepted) _ t
at_answer f t Rejected = and_r (f Accepted) _ t

unfoldable pub all_control : (Control → Bool) → Bool
all_control f = all_state (λ (s : State). all_bool (λ (d : Bool). f (entered s d)))

pub at_control : (f : Control → Bool) → T (all_control f) → (x : Control) → T (f x)
unfolding all_control
at_control f t x =
    at_bool (λ (d : Bool). f (entered x.state d))
    (at_state (λ (s : State). all_bool (λ (d : Bool). f (entered s d))) t x.state) x.dsc

-- the calls, kind by kind
unfoldable pub all_response : (Bool → Reply → Bool) → Bool
all_response f = all_bool (λ (m : Bool). all_answer (λ (a : Reply). f m a))

pub at_response : (f : Bool → Reply → Bool) → T (all_response f) → (m : Bool) (a : Reply) → T (f m a)
unfolding all_response
at_response f t m a = at_answer (f m) (at_bool (λ (m : Bool). all_answer (λ (a : Reply). f m a)) t m) a

unfoldable pub all_call : (Call → Bool) → Bool
all_call f =
    all_bool (λ (m : Bool). f (StartRequest m)) &&
    (all_response (λ (m : Bool) (a : Reply). f (StartResponse m a)) &&
    (f MessageRequest &&
    (all_bool (λ (m : Bool). f (EndRequest m)) &&
    (all_response (λ (m : Bool) (a : Reply). f (EndResponse m a)) && (f UserAbort && (f TimerExpiry && f SystemError))))))

pub at_call : (f : Call → Bool) → T (all_call f) → (x : Call) → T (f x)
unfolding all_call
at_call f t (StartRequest m) = at_bool (λ (m : Bool). f (StartRequest m)) (and_l (all_bool (λ (m : Bool). f (StartRequest m))) _ t) m
at_call f t (StartResponse m a) = at_response (λ (m : Bool) (a : Reply). f (StartResponse m a)) (and_l
    (all_response (λ (m : Bool) (a : Reply). f (StartResponse m a))) _
    (and_r (all_bool (λ (m : Bool). f (StartRequest m))) _ t)) m a
at_call f t MessageRequest = and_l (f MessageRequest) _ (and_r
    (all_response (λ (m : Bool) (a : Reply). f (StartResponse m a))) _
    (and_r (all_bool (λ (m : Bool). f (StartRequest m))) _ t))
at_call f t (EndRequest m) = at_bool (λ (m : Bool). f (EndRequest m)) (and_l
    (all_bool (λ (m : Bool). f (EndRequest m))) _ (and_r (f MessageRequest) _ (and_r
    (all_response (λ (m : Bool) (a : Reply). f (StartResponse m a))) _
    (and_r (all_bool (λ (m : Bool). f (StartRequest m))) _ t)))) m
at_call f t (EndResponse m a) = at_response (λ (m : Bool) (a : Reply). f (EndResponse m a)) (and_l
    (all_response (λ (m : Bool) (a : Reply). f (EndResponse m a))) _ (and_r
    (all_bool (λ (m : Bool). f (EndRequest m))) _ (and_r (f MessageRequest) _ (and_r
    (all_response (λ (m : Bool) (a : Reply). f (StartResponse m a))) _
    (and_r (all_bool (λ (m : Bool). f (StartRequest m))) _ t))))) m a
at_call f t UserAbort = and_l (f UserAbort) _ (and_r (all_response (λ (m : Bool) (a : Reply). f (EndResponse m a))) _ (
    and_r (all_bool (λ (m : Bool). f (EndRequest m))) _ (and_r (f MessageRequest) _ (and_r
    (all_response (λ (m : Bool) (a : Reply). f (StartResponse m a))) _
    (and_r (all_bool (λ (m : Bool). f (StartRequest m))) _ t)))))
at_call f t TimerExpiry = and_l (f TimerExpiry) _ (and_r (f UserAbort) _ (and_r
    (all_response (λ (m : Bool) (a : Reply). f (EndResponse m a))) _ (and_r
    (all_bool (λ (m : Bool). f (EndRequest m))) _ (and_r (f MessageRequest) _ (and_r
    (all_response (λ (m : Bool) (a : Reply). f (StartResponse m a))) _
    (and_r (all_bool (λ (m : Bool). f (StartRequest m))) _ t))))))
at_call f t SystemError = and_r (f TimerExpiry) _ (and_r (f UserAbort) _ (and_r
    (all_response (λ (m : Bool) (a : Reply). f (EndResponse m a))) _ (and_r
    (all_bool (λ (m : Bool). f (EndRequest m))) _ (and_r (f MessageRequest) _ (and_r
    (all_response (λ (m : Bool) (a : Reply). f (StartResponse m a))) _
    (and_r (all_bool (λ (m : Bool). f (StartRequest m))) _ t))))))

unfoldable pub all_primitive : (Primitive → Bool) → Bool
all_primitive f =
    all_bool (λ (m : Bool). f (DStart m)) &&
    (all_answer (λ (a : Reply). f (DStartCnf a)) &&
    (f DTurnedAway && (f DData && (f DEnd && (all_answer (λ (a : Reply). f (DEndCnf a)) && (f DAbort && f DPAbort))))))

pub at_primitive : (f : Primitive → Bool) → T (all_primitive f) → (x : Primitive) → T (f x)
unfolding all_primitive
at_primitive f t (DStart m) = at_bool (λ (m : Bool). f (DStart m)) (and_l (all_bool (λ (m : Bool). f (DStart m))) _ t) m
at_primitive f t (DStartCnf a) = at_answer (λ (a : Reply). f (DStartCnf a))
    (and_l (all_answer (λ (a : Reply). f (DStartCnf a))) _ (and_r (all_bool (λ (m : Bool). f (DStart m))) _ t)) a
at_primitive f t DTurnedAway = and_l (f DTurnedAway) _
    (and_r (all_answer (λ (a : Reply). f (DStartCnf a))) _ (and_r (all_bool (λ (m : Bool). f (DStart m))) _ t))
at_primitive f t DData = and_l (f DData) _ (and_r (f DTurnedAway) _
    (and_r (all_answer (λ (a : Reply). f (DStartCnf a))) _ (and_r (all_bool (λ (m : Bool). f (DStart m))) _ t)))
at_primitive f t DEnd = and_l (f DEnd) _ (and_r (f DData) _ (and_r (f DTurnedAway) _
    (and_r (all_answer (λ (a : Reply). f (DStartCnf a))) _ (and_r (all_bool (λ (m : Bool). f (DStart m))) _ t))))
at_primitive f t (DEndCnf a) = at_answer (λ (a : Reply). f (DEndCnf a)) (and_l
    (all_answer (λ (a : Reply). f (DEndCnf a))) _ (and_r (f DEnd) _ (and_r (f DData) _ (and_r (f DTurnedAway) _ (
    and_r (all_answer (λ (a : Reply). f (DStartCnf a))) _
    (and_r (all_bool (λ (m : Bool). f (DStart m))) _ t)))))) a
at_primitive f t DAbort = and_l (f DAbort) _ (and_r (all_answer (λ (a : Reply). f (DEndCnf a))) _ (and_r (f DEnd) _ (
    and_r (f DData) _ (and_r (f DTurnedAway) _ (and_r (all_answer (λ (a : Reply). f (DStartCnf a))) _
    (and_r (all_bool (λ (m : Bool). f (DStart m))) _ t))))))
at_primitive f t DPAbort = and_r (f DAbort) _ (and_r (all_answer (λ (a : Reply). f (DEndCnf a))) _ (and_r (f DEnd) _ (
    and_r (f DData) _ (and_r (f DTurnedAway) _ (and_r (all_answer (λ (a : Reply). f (DStartCnf a))) _
    (and_r (all_bool (λ (m : Bool). f (DStart m))) _ t))))))
