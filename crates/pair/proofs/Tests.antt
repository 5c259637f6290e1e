-- The finite tests that the steps rest on. antt computes them; each has the lemma that says what it gives.
-- Assumes nothing.
use mathlib.Core.Path.{◌≡◌, refl, sym, subst}
use mathlib.Core.Bool.{Bool, true, false, not, ◌&&◌, ◌||◌}
use lib.Dec.{T}
use Rattle.pair.specs.Names.{Side, Air, StartReq, StartInd, Control, Primitive, DTurnedAway, Call, same, is, is_idle, other, takes, goes, sends, expects, after, is_data, hands}
use Rattle.pair.specs.Carrier.{Sort, begins, breaks, plain}
use Rattle.pair.proofs.ControlMachine.{sort_of}
use Rattle.control.proofs.Finite.{imp, all_bool, at_bool, all_side, at_side, all_state, all_answer, all_control, at_control, all_primitive, at_primitive, all_call, at_call, all_response}
use Rattle.pair.proofs.Finite.{Dr, ok, dead, bad, imp_e, and_l, and_r, no_T, all_dr, at_dr}
use Rattle.pair.proofs.Drain.{is_start, deaf, starting, calm, cuts, mild, says, is_loss, recv, later, is_closed, wf, same_ctl, still, fine, sound}

abbrev pub plain? : Sort → Bool
plain? begins = false
plain? breaks = false
plain? plain = true

-- the drained end before a call u and after it: the call made at the drained end gives the one from the other, or
-- both are closed. An abort closes
abbrev pub commutes : Side → Call → Dr → Dr → Bool
commutes sd u bad y = true
commutes sd u dead y = still y
commutes sd u (ok x) bad = false
commutes sd u (ok x) dead = cuts u
commutes sd u (ok x) (ok y) = (takes sd x u && same_ctl (goes x u) y) || (cuts u && is_closed y)

abbrev pub gives : Side → Dr → Primitive → Bool
gives sd bad k = false
gives sd dead k = false
gives sd (ok c) k = hands sd c k

-- at each call that is taken and is no start
abbrev pub first_t : Side → Bool
first_t sd = all_call (λ (u : Call). all_control (λ (c : Control). imp (takes sd c u) (imp (calm u) (commutes sd u (ok c)
    (ok (goes c u)) && all_primitive
    (λ (z : Primitive). commutes sd u (recv sd c z) (recv sd (goes c u) z))))))

abbrev pub closed_t : Side → Bool
closed_t sd = all_call (λ (u : Call). imp (calm u) (all_dr (λ (x : Dr). all_dr (λ (y : Dr). imp (commutes sd u x y)
    (all_primitive (λ (z : Primitive). commutes sd u (later sd x z) (later sd y z)))))))

-- what was as it should be stays so when the other end has been handed what was sent
abbrev pub good_t : Side → Bool
good_t sd = all_call (λ (u : Call). imp (calm u) (imp (mild u) (all_dr (λ (x : Dr). all_dr (λ (y : Dr). imp
    (commutes sd u x y) (all_bool (λ (b : Bool). all_dr
    (λ (w : Dr). imp (sound sd b x w) (sound sd b y (later (other sd) w (sends u)))))))))))

-- an abort makes it so from any w, since what was sent before may be lost
abbrev pub abort_t : Side → Bool
abort_t sd = all_call (λ (u : Call). imp (cuts u) (all_dr (λ (x : Dr). all_dr (λ (y : Dr). imp (commutes sd u x y)
    (imp (fine x) (all_dr (λ (w : Dr). imp (fine w) (sound sd true y (later (other sd) w (sends u))))))))))

abbrev pub start_t : Side → Bool
start_t sd = all_call (λ (u : Call). all_control (λ (c : Control). imp (is_closed c) (imp (takes sd c u) (imp (starting u) (
    all_control (λ (g : Control). imp (is_closed g)
    (sound sd false (ok (goes c u)) (recv (other sd) g (sends u)))))))))

-- a call and a primitive leave DSC false in IDLE
abbrev pub goes_t : Side → Bool
goes_t sd = all_call (λ (u : Call). all_control (λ (c : Control). imp (takes sd c u) (wf (goes c u))))

abbrev pub after_t : Side → Bool
after_t sd = all_control (λ (c : Control). all_primitive (λ (k : Primitive). imp (expects sd c k) (wf (after c k))))

-- who may call is not about to be handed a start
abbrev pub head_t : Side → Bool
head_t sd = all_call (λ (u : Call). all_control (λ (c : Control). imp (takes sd c u)
    (imp (calm u) (all_primitive (λ (z : Primitive). imp (is_start z) (not (fine (recv sd c z))))))))

abbrev pub sort_t : Side → Bool
sort_t sd = all_call (λ (u : Call). imp (calm u) (not (is_start (sends u))))

-- a call that is no abort changes nothing of what the end will hand out
abbrev pub alike_t : Side → Bool
alike_t sd = all_call (λ (u : Call). imp (calm u) (imp (mild u) (all_dr (λ (x : Dr). all_dr (λ (y : Dr). imp
    (commutes sd u x y) (all_primitive
    (λ (z : Primitive). imp (fine (later sd x z)) (same (gives sd x z) (gives sd y z)))))))))

-- a message is handed out by the other end if the dialogue is not broken, and not if it is
abbrev pub send_t : Side → Bool
send_t sd = all_call (λ (u : Call). imp (says u) (all_dr (λ (x : Dr). all_dr (λ (y : Dr). imp (commutes sd u x y) (
    all_bool (λ (b : Bool). all_dr
    (λ (w : Dr). imp (sound sd b x w) (same (gives (other sd) w (sends u)) (not b)))))))))

-- nothing else is
abbrev pub none_t : Side → Bool
none_t sd = all_call (λ (u : Call). imp (not (says u)) (all_dr (λ (w : Dr). not (gives sd w (sends u)))))

-- an end that is closed hands out nothing and stays closed
abbrev pub over : Dr → Bool
over x = still x || not (fine x)

abbrev pub over_t : Side → Bool
over_t sd = all_dr (λ (x : Dr). imp (over x) (all_primitive (λ (z : Primitive). not (gives sd x z) && over (later sd x z))))

-- no entry behind the first leads to START-IND; a D-START is taken in IDLE only; where START-REQ is the drained end, the
-- dialogue is not broken and the other is in START-IND
abbrev pub is_ind : Dr → Bool
is_ind bad = false
is_ind dead = false
is_ind (ok c) = is c.state StartInd

abbrev pub ind_t : Side → Bool
ind_t sd = all_dr (λ (x : Dr). all_primitive (λ (z : Primitive). not (is_ind (later sd x z))))

abbrev pub taken_t : Side → Bool
taken_t sd = all_control (λ (c : Control). all_primitive (λ (z : Primitive). imp (is_start z) (imp (fine (recv sd c z)) (is_idle c))))

abbrev pub turn_t : Side → Bool
turn_t sd = all_bool (λ (b : Bool). all_control (λ (c : Control). all_dr (λ (w : Dr). imp (sound sd b (ok c) w)
    (imp (is c.state StartReq) (not b && (is_ind w && expects sd c DTurnedAway))))))

abbrev pub flip_t : Side → Bool
flip_t sd = all_bool (λ (b : Bool). all_dr (λ (x : Dr). all_dr (λ (y : Dr). imp (sound sd b x y) (sound (other sd) b y x))))

-- two closed ends are as they should be in a broken dialogue; an end that is drained dead is in one
abbrev pub rest_t : Side → Bool
rest_t sd = all_dr (λ (x : Dr). all_dr (λ (y : Dr). imp (still x) (imp (still y) (sound sd true x y))))

abbrev pub dead_t : Side → Bool
dead_t sd = all_bool (λ (b : Bool). all_dr (λ (y : Dr). imp (sound sd b dead y) (b && still y)))

abbrev pub fresh_t : Side → Bool
fresh_t sd = all_control (λ (c : Control). all_control (λ (g : Control). imp (is_closed c) (imp (is_closed g) (sound sd false (ok c) (ok g)))))

-- a start is no message
abbrev pub apart_t : Side → Bool
apart_t sd = all_primitive (λ (k : Primitive). imp (is_start k) (not (is_data k)))

-- an entry that is handed over and does not spoil the line was expected
abbrev pub view_t : Side → Bool
view_t sd = all_control (λ (c : Control). all_primitive (λ (k : Primitive). imp (not (deaf c k))
    (imp (fine (recv sd c k)) (expects sd c k && imp (is_loss k) (is_closed (after c k))))))

-- what sends a message neither starts nor breaks a dialogue
abbrev pub data_t : Side → Bool
data_t sd = all_call (λ (u : Call). imp (says u) (plain? (sort_of (sends u))))

-- antt computes them all
record Passed : Type 0 where
  first : T (all_side first_t)
  closed : T (all_side closed_t)
  good : T (all_side good_t)
  abort : T (all_side abort_t)
  start : T (all_side start_t)
  goes : T (all_side goes_t)
  after : T (all_side after_t)
  head : T (all_side head_t)
  sort : T (all_side sort_t)
  alike : T (all_side alike_t)
  send : T (all_side send_t)
  none : T (all_side none_t)
  over : T (all_side over_t)
  ind : T (all_side ind_t)
  taken : T (all_side taken_t)
  turn : T (all_side turn_t)
  flip : T (all_side flip_t)
  rest : T (all_side rest_t)
  dead : T (all_side dead_t)
  view : T (all_side view_t)
  fresh : T (all_side fresh_t)
  apart : T (all_side apart_t)
  message : T (all_side data_t)

passed : Passed
unfolding imp all_side all_bool all_state all_answer all_control all_dr all_response all_primitive all_call
passed = record { first = tt; closed = tt; good = tt; abort = tt; start = tt; goes = tt; after = tt; head = tt; sort = tt; alike = tt; send = tt; none = tt; over = tt; ind = tt; taken = tt; turn = tt; flip = tt; rest = tt; dead = tt; view = tt; fresh = tt; apart = tt; message = tt }

-- ---- what they say

pub first_nil : (sd : Side) (u : Call) (c : Control) → T (takes sd c u) → T (calm u) → T (commutes sd u (ok c) (ok (goes c u)))
first_nil sd u c t n = and_l (commutes sd u (ok c) (ok (goes c u))) _
    (imp_e _ _ (imp_e _ _ (at_control _ (at_call _ (at_side _ passed.first sd) u) c) t) n)

pub first_at : (sd : Side) (u : Call) (c : Control) → T (takes sd c u) → T (calm u) → (z : Primitive)
    → T (commutes sd u (recv sd c z) (recv sd (goes c u) z))
first_at sd u c t n z = at_primitive _ (and_r (commutes sd u (ok c) (ok (goes c u))) _
    (imp_e _ _ (imp_e _ _ (at_control _ (at_call _ (at_side _ passed.first sd) u) c) t) n)) z

pub closed_at : (sd : Side) (u : Call) → T (calm u) → (x y : Dr) → T (commutes sd u x y) → (z : Primitive)
    → T (commutes sd u (later sd x z) (later sd y z))
closed_at sd u n x y p z = at_primitive _
    (imp_e _ _ (at_dr _ (at_dr _ (imp_e _ _ (at_call _ (at_side _ passed.closed sd) u) n) x) y) p) z

pub good_at : (sd : Side) (u : Call) → T (calm u) → T (mild u) → (b : Bool) (x y w : Dr) → T (commutes sd u x y)
    → T (sound sd b x w) → T (sound sd b y (later (other sd) w (sends u)))
good_at sd u n m b x y w p q = imp_e _ _ (at_dr _ (at_bool _ (imp_e _ _
    (at_dr _ (at_dr _ (imp_e _ _ (imp_e _ _ (at_call _ (at_side _ passed.good sd) u) n) m) x) y) p) b) w)
    q

pub abort_at : (sd : Side) (u : Call) → T (cuts u) → (x y w : Dr) → T (commutes sd u x y) → T (fine x) → T (fine w)
    → T (sound sd true y (later (other sd) w (sends u)))
abort_at sd u n x y w p q r = imp_e _ _ (at_dr _
    (imp_e _ _ (imp_e _ _ (at_dr _ (at_dr _ (imp_e _ _ (at_call _ (at_side _ passed.abort sd) u) n) x) y) p) q) w)
    r

pub start_at : (sd : Side) (u : Call) (c : Control) → T (is_closed c) → T (takes sd c u) → T (starting u) → (g : Control)
    → T (is_closed g) → T (sound sd false (ok (goes c u)) (recv (other sd) g (sends u)))
start_at sd u c i t n g j = imp_e _ _ (at_control _
    (imp_e _ _ (imp_e _ _ (imp_e _ _ (at_control _ (at_call _ (at_side _ passed.start sd) u) c) i) t) n) g) j

pub goes_wf : (sd : Side) (u : Call) (c : Control) → T (takes sd c u) → T (wf (goes c u))
goes_wf sd u c t = imp_e _ _ (at_control _ (at_call _ (at_side _ passed.goes sd) u) c) t

pub after_wf : (sd : Side) (c : Control) (k : Primitive) → T (expects sd c k) → T (wf (after c k))
after_wf sd c k t = imp_e _ _ (at_primitive _ (at_control _ (at_side _ passed.after sd) c) k) t

pub head_at : (sd : Side) (u : Call) (c : Control) → T (takes sd c u) → T (calm u) → (z : Primitive) → T (is_start z)
    → fine (recv sd c z) ≡ false
head_at sd u c t n z i = no_T _ (imp_e _ _
    (at_primitive _ (imp_e _ _ (imp_e _ _ (at_control _ (at_call _ (at_side _ passed.head sd) u) c) t) n) z) i)

pub calm_at : (u : Call) → T (calm u) → T (not (is_start (sends u)))
calm_at u n = imp_e _ _ (at_call _ (at_side _ passed.sort Air) u) n

pub iff_is : (a b : Bool) → T (same a b) → a ≡ b
iff_is true true t = refl
iff_is true false t = absurd t
iff_is false true t = absurd t
iff_is false false t = refl

pub alike_at : (sd : Side) (u : Call) → T (calm u) → T (mild u) → (x y : Dr) → T (commutes sd u x y) → (z : Primitive)
    → T (fine (later sd x z)) → gives sd x z ≡ gives sd y z
alike_at sd u n m x y p z f = iff_is _ _ (imp_e _ _ (at_primitive _ (imp_e _ _
    (at_dr _ (at_dr _ (imp_e _ _ (imp_e _ _ (at_call _ (at_side _ passed.alike sd) u) n) m) x) y) p) z) f)

pub send_at : (sd : Side) (u : Call) → T (says u) → (b : Bool) (x y w : Dr) → T (commutes sd u x y) → T (sound sd b x w)
    → gives (other sd) w (sends u) ≡ not b
send_at sd u n b x y w p q = iff_is _ _ (imp_e _ _ (at_dr _ (at_bool _
    (imp_e _ _ (at_dr _ (at_dr _ (imp_e _ _ (at_call _ (at_side _ passed.send sd) u) n) x) y) p) b) w) q)

pub none_at : (sd : Side) (u : Call) → T (not (says u)) → (w : Dr) → gives sd w (sends u) ≡ false
none_at sd u n w = no_T _ (at_dr _ (imp_e _ _ (at_call _ (at_side _ passed.none sd) u) n) w)

pub over_gives : (sd : Side) (x : Dr) → T (over x) → (z : Primitive) → gives sd x z ≡ false
over_gives sd x t z = no_T _ (and_l (not (gives sd x z)) _ (at_primitive _ (imp_e _ _ (at_dr _ (at_side _ passed.over sd) x) t) z))

pub over_later : (sd : Side) (x : Dr) → T (over x) → (z : Primitive) → T (over (later sd x z))
over_later sd x t z = and_r (not (gives sd x z)) _ (at_primitive _ (imp_e _ _ (at_dr _ (at_side _ passed.over sd) x) t) z)

pub ind_at : (sd : Side) (x : Dr) (z : Primitive) → is_ind (later sd x z) ≡ false
ind_at sd x z = no_T _ (at_primitive _ (at_dr _ (at_side _ passed.ind sd) x) z)

pub taken_at : (sd : Side) (c : Control) (z : Primitive) → T (is_start z) → T (fine (recv sd c z)) → T (is_idle c)
taken_at sd c z i f = imp_e _ _ (imp_e _ _ (at_primitive _ (at_control _ (at_side _ passed.taken sd) c) z) i) f

pub turn_at : (sd : Side) (b : Bool) (c : Control) (w : Dr) → T (sound sd b (ok c) w) → T (is c.state StartReq)
    → T (not b && (is_ind w && expects sd c DTurnedAway))
turn_at sd b c w q i = imp_e _ _ (imp_e _ _ (at_dr _ (at_control _ (at_bool _ (at_side _ passed.turn sd) b) c) w) q) i

pub flip_at : (sd : Side) (b : Bool) (x y : Dr) → T (sound sd b x y) → T (sound (other sd) b y x)
flip_at sd b x y t = imp_e _ _ (at_dr _ (at_dr _ (at_bool _ (at_side _ passed.flip sd) b) x) y) t

pub rest_at : (sd : Side) (x y : Dr) → T (still x) → T (still y) → T (sound sd true x y)
rest_at sd x y t v = imp_e _ _ (imp_e _ _ (at_dr _ (at_dr _ (at_side _ passed.rest sd) x) y) t) v

pub dead_at : (sd : Side) (b : Bool) (y : Dr) → T (sound sd b dead y) → T (b && still y)
dead_at sd b y t = imp_e _ _ (at_dr _ (at_bool _ (at_side _ passed.dead sd) b) y) t

pub view_at : (sd : Side) (c : Control) (k : Primitive) → deaf c k ≡ false → T (fine (recv sd c k))
    → T (expects sd c k && imp (is_loss k) (is_closed (after c k)))
view_at sd c k e f = imp_e _ _ (imp_e _ _ (at_primitive _ (at_control _ (at_side _ passed.view sd) c) k)
    (subst (λ (b : Bool). T (not b)) (sym e) tt)) f

pub fresh_at : (sd : Side) (c g : Control) → T (is_closed c) → T (is_closed g) → T (sound sd false (ok c) (ok g))
fresh_at sd c g i j = imp_e _ _ (imp_e _ _ (at_control _ (at_control _ (at_side _ passed.fresh sd) c) g) i) j

pub apart_at : (k : Primitive) → T (is_start k) → is_data k ≡ false
apart_at k i = no_T _ (imp_e _ _ (at_primitive _ (at_side _ passed.apart Air) k) i)

plain_is : (so : Sort) → T (plain? so) → so ≡ plain
plain_is begins t = absurd t
plain_is breaks t = absurd t
plain_is plain t = refl

pub data_at : (u : Call) → T (says u) → sort_of (sends u) ≡ plain
data_at u i = plain_is _ (imp_e _ _ (at_call _ (at_side _ passed.message Air) u) i)
