-- What every move of the finite control keeps, each a test over all its values that is computed.
-- Assumes nothing.
use mathlib.Core.Path.{◌≡◌, refl, subst, sym, ◌∙◌}
use mathlib.Core.Bool.{Bool, true, false, not, ◌&&◌}
use lib.Dec.{T}
use Rattle.control.specs.Control.{same, is_idle, waits, entered, takes, goes, takes_forward, awaits_response, expects, after, is_start}
use Rattle.control.proofs.Finite.{imp, imp_e, all_bool, all_side, at_side, all_state, all_answer, all_control, at_control, all_response, all_call, at_call, all_primitive, at_primitive}
use Rattle.control.specs.declared.Side.{Side}
use Rattle.control.specs.declared.Side.TheVariants.{Air, Ground}
use Rattle.control.specs.declared.State.TheVariants.{End}
use Rattle.control.specs.declared.Control.{Control}
use Rattle.control.specs.declared.Reply.{Reply}
use Rattle.control.specs.declared.Reply.TheVariants.{Accepted, Rejected}
use Rattle.control.specs.declared.Call.{Call}
use Rattle.control.specs.declared.Call.TheVariants.{StartRequest, StartResponse, MessageRequest, EndRequest, EndResponse, UserAbort, TimerExpiry, SystemError}
use Rattle.control.specs.declared.Primitive.{Primitive}
use Rattle.control.specs.declared.Primitive.TheVariants.{DStart, DStartCnf, DTurnedAway, DData, DEnd, DEndCnf, DAbort, DPAbort}

pub not_t : (b : Bool) → not b ≡ true → b ≡ false
not_t true e = absurd (subst T (sym e) tt)
not_t false e = refl

same_eq : (a b : Bool) → same a b ≡ true → a ≡ b
same_eq true b e = sym e
same_eq false true e = absurd (subst T (sym e) tt)
same_eq false false e = refl

T_is : {b : Bool} → b ≡ true → T b
T_is e = subst T (sym e) tt

refuted : (a b : Bool) → imp a b ≡ true → b ≡ false → a ≡ false
unfolding imp
refuted true b e n = sym e ∙ n
refuted false b e n = refl

-- IDLE comes with DSC false
abbrev rest : Control → Bool
rest c = imp (is_idle c) (not c.dsc)

rest_is : (c : Control) → rest c ≡ true → is_idle c ≡ true → c.dsc ≡ false
rest_is c e i = not_t c.dsc (imp_e (is_idle c) (not c.dsc) (subst T (sym e) tt) i)

abbrev every_call : (Side → Control → Call → Bool) → Bool
every_call f = all_side (λ (sd : Side). all_control (λ (c : Control). all_call (f sd c)))

at_every_call : (f : Side → Control → Call → Bool) → T (every_call f) → (sd : Side) (c : Control) (k : Call) → T (f sd c k)
at_every_call f t sd c k =
    at_call (f sd c) (at_control (λ (c : Control). all_call (f sd c))
    (at_side (λ (sd : Side). all_control (λ (c : Control). all_call (f sd c))) t sd) c) k

abbrev every_primitive : (Side → Control → Primitive → Bool) → Bool
every_primitive f = all_side (λ (sd : Side). all_control (λ (c : Control). all_primitive (f sd c)))

at_every_primitive : (f : Side → Control → Primitive → Bool) → T (every_primitive f)
    → (sd : Side) (c : Control) (p : Primitive) → T (f sd c p)
at_every_primitive f t sd c p =
    at_primitive (f sd c)
    (at_control (λ (c : Control). all_primitive (f sd c))
    (at_side (λ (sd : Side). all_control (λ (c : Control). all_primitive (f sd c))) t sd) c) p

-- ---- entering IDLE

abbrev call_rests : Side → Control → Call → Bool
call_rests sd c k = imp (takes sd c k) (rest (goes c k))

call_rests_passed : T (every_call call_rests)
unfolding imp all_bool all_side all_state all_answer all_control all_response all_call all_primitive
call_rests_passed = tt

pub call_rests_is : (sd : Side) (c : Control) (k : Call) → takes sd c k ≡ true → is_idle (goes c k) ≡ true → (goes c k).dsc ≡ false
call_rests_is sd c k e i = rest_is (goes c k) (imp_e (takes sd c k) (rest (goes c k)) (at_every_call call_rests call_rests_passed sd c k) e) i

abbrev primitive_rests : Side → Control → Primitive → Bool
primitive_rests sd c p = imp (expects sd c p) (rest (after c p))

primitive_rests_passed : T (every_primitive primitive_rests)
unfolding imp all_bool all_side all_state all_answer all_control all_response all_call all_primitive
primitive_rests_passed = tt

pub primitive_rests_is : (sd : Side) (c : Control) (p : Primitive) → expects sd c p ≡ true → is_idle (after c p) ≡ true → (after c p).dsc ≡ false
primitive_rests_is sd c p e i = rest_is (after c p)
    (imp_e (expects sd c p) (rest (after c p)) (at_every_primitive primitive_rests primitive_rests_passed sd c p) e) i

-- ---- where the timer runs and the user is active

-- a call inside a dialogue
abbrev pub busy : Call → Bool
busy (StartRequest m) = false
busy (StartResponse m a) = true
busy MessageRequest = true
busy (EndRequest m) = true
busy (EndResponse m a) = true
busy UserAbort = true
busy TimerExpiry = false
busy SystemError = false

-- the timer stays with the state that it runs in, or is stopped by IDLE
abbrev timed : Control → Control → Bool
timed c d = same (not (is_idle d) && waits c.state) (waits d.state)

-- the user stays active until IDLE
abbrev held : Control → Control → Bool
held c d = same (not (is_idle d) && not (is_idle c)) (not (is_idle d))

abbrev call_timed : Side → Control → Call → Bool
call_timed sd c k = imp (takes sd c k) (imp (busy k) (timed c (goes c k)))

call_timed_passed : T (every_call call_timed)
unfolding imp all_bool all_side all_state all_answer all_control all_response all_call all_primitive
call_timed_passed = tt

pub call_timed_is : (sd : Side) (c : Control) (k : Call) → takes sd c k ≡ true → busy k ≡ true
    → (not (is_idle (goes c k)) && waits c.state) ≡ waits (goes c k).state
call_timed_is sd c k e b =
    same_eq _ _ (imp_e (busy k) (timed c (goes c k)) (T_is (imp_e (takes sd c k) (imp (busy k) (timed c (goes c k)))
    (at_every_call call_timed call_timed_passed sd c k) e)) b)

abbrev call_held : Side → Control → Call → Bool
call_held sd c k = imp (takes sd c k) (imp (busy k) (held c (goes c k)))

call_held_passed : T (every_call call_held)
unfolding imp all_bool all_side all_state all_answer all_control all_response all_call all_primitive
call_held_passed = tt

pub call_held_is : (sd : Side) (c : Control) (k : Call) → takes sd c k ≡ true → busy k ≡ true
    → (not (is_idle (goes c k)) && not (is_idle c)) ≡ not (is_idle (goes c k))
call_held_is sd c k e b =
    same_eq _ _ (imp_e (busy k) (held c (goes c k)) (T_is (imp_e (takes sd c k) (imp (busy k) (held c (goes c k)))
    (at_every_call call_held call_held_passed sd c k) e)) b)

abbrev pub is_confirmation : Primitive → Bool
is_confirmation (DStart m) = false
is_confirmation (DStartCnf a) = true
is_confirmation DTurnedAway = true
is_confirmation DData = false
is_confirmation DEnd = false
is_confirmation (DEndCnf a) = false
is_confirmation DAbort = false
is_confirmation DPAbort = false

abbrev primitive_timed : Side → Control → Primitive → Bool
primitive_timed sd c p = imp (expects sd c p) (imp (not (is_confirmation p)) (timed c (after c p)))

primitive_timed_passed : T (every_primitive primitive_timed)
unfolding imp all_bool all_side all_state all_answer all_control all_response all_call all_primitive
primitive_timed_passed = tt

pub primitive_timed_is : (sd : Side) (c : Control) (p : Primitive) → expects sd c p ≡ true → not (is_confirmation p) ≡ true
    → (not (is_idle (after c p)) && waits c.state) ≡ waits (after c p).state
primitive_timed_is sd c p e b =
    same_eq _ _ (imp_e (not (is_confirmation p)) (timed c (after c p)) (T_is (imp_e (expects sd c p)
    (imp (not (is_confirmation p)) (timed c (after c p)))
    (at_every_primitive primitive_timed primitive_timed_passed sd c p) e)) b)

abbrev primitive_held : Side → Control → Primitive → Bool
primitive_held sd c p = imp (expects sd c p) (imp (not (is_start p)) (held c (after c p)))

primitive_held_passed : T (every_primitive primitive_held)
unfolding imp all_bool all_side all_state all_answer all_control all_response all_call all_primitive
primitive_held_passed = tt

pub primitive_held_is : (sd : Side) (c : Control) (p : Primitive) → expects sd c p ≡ true → not (is_start p) ≡ true
    → (not (is_idle (after c p)) && not (is_idle c)) ≡ not (is_idle (after c p))
primitive_held_is sd c p e b =
    same_eq _ _ (imp_e (not (is_start p)) (held c (after c p)) (T_is (imp_e (expects sd c p)
    (imp (not (is_start p)) (held c (after c p)))
    (at_every_primitive primitive_held primitive_held_passed sd c p) e)) b)

-- ---- IDLE

abbrev idle_expects : Side → Control → Primitive → Bool
idle_expects sd c p = imp (is_idle c) (imp (expects sd c p) (is_start p))

idle_expects_passed : T (every_primitive idle_expects)
unfolding imp all_bool all_side all_state all_answer all_control all_response all_call all_primitive
idle_expects_passed = tt

pub idle_expects_is : (sd : Side) (c : Control) (p : Primitive) → is_idle c ≡ true → is_start p ≡ false → expects sd c p ≡ false
idle_expects_is sd c p i n =
    refuted (expects sd c p) (is_start p) (imp_e (is_idle c) (imp (expects sd c p) (is_start p))
    (at_every_primitive idle_expects idle_expects_passed sd c p) i) n

abbrev idle_takes : Side → Control → Call → Bool
idle_takes sd c k = imp (takes sd c k) (imp (busy k) (not (is_idle c)))

busy_takes_passed : T (every_call idle_takes)
unfolding imp all_bool all_side all_state all_answer all_control all_response all_call all_primitive
busy_takes_passed = tt

pub busy_takes : (sd : Side) (c : Control) (k : Call) → takes sd c k ≡ true → busy k ≡ true → is_idle c ≡ false
busy_takes sd c k e b =
    not_t (is_idle c) (imp_e (busy k) (not (is_idle c)) (T_is (imp_e (takes sd c k) (imp (busy k) (not (is_idle c)))
    (at_every_call idle_takes busy_takes_passed sd c k) e)) b)

-- ---- a forward: the request leaves IDLE alone, and neither IDLE nor a start of a dialogue awaits its response

pub forward_idle : (sd : Side) (c : Control) → takes_forward sd c ≡ true → is_idle c ≡ true
forward_idle Air c e = absurd (subst T (sym e) tt)
forward_idle Ground c e = e

abbrev idle_awaits : Control → Bool
idle_awaits c = imp (is_idle c) (not (awaits_response c))

idle_awaits_passed : T (all_control idle_awaits)
unfolding imp all_bool all_state all_control
idle_awaits_passed = tt

pub idle_awaits_is : (c : Control) → is_idle c ≡ true → awaits_response c ≡ false
idle_awaits_is c e = not_t (awaits_response c) (imp_e (is_idle c) (not (awaits_response c)) (at_control idle_awaits idle_awaits_passed c) e)

-- what goes on in a dialogue leads to no forward
pub goes_awaits : (c : Control) (k : Call) → awaits_response c ≡ false → awaits_response (goes c k) ≡ false
goes_awaits c (StartRequest m) e = refl
goes_awaits c (StartResponse m Accepted) e = refl
goes_awaits c (StartResponse m Rejected) e = refl
goes_awaits c MessageRequest e = e
goes_awaits c (EndRequest m) e = refl
goes_awaits c (EndResponse m Accepted) e = refl
goes_awaits c (EndResponse m Rejected) e = refl
goes_awaits c UserAbort e = refl
goes_awaits c TimerExpiry e = refl
goes_awaits c SystemError e = refl

pub after_awaits : (c : Control) (p : Primitive) → awaits_response c ≡ false → awaits_response (after c p) ≡ false
after_awaits c (DStart m) e = refl
after_awaits c (DStartCnf Accepted) e = refl
after_awaits c (DStartCnf Rejected) e = refl
after_awaits c DTurnedAway e = refl
after_awaits c DData e = e
after_awaits c DEnd e = refl
after_awaits c (DEndCnf Accepted) e = refl
after_awaits c (DEndCnf Rejected) e = refl
after_awaits c DAbort e = refl
after_awaits c DPAbort e = refl

-- ---- a message request in END: taken where the other side asked for the end (3.5.3.10, 2.3.5.5.10)

pub air_end_messages : (takes Air (entered End false) MessageRequest ≡ true) × (takes Air (entered End true) MessageRequest ≡ false)
air_end_messages = (refl, refl)

pub ground_end_messages : (takes Ground (entered End false) MessageRequest ≡ false) ×
    (takes Ground (entered End true) MessageRequest ≡ true)
ground_end_messages = (refl, refl)
