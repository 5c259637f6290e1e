-- Where an end is once its line is drained, and what that must be at both ends together.
-- Assumes nothing.
use mathlib.Core.Path.{◌≡◌, refl, ap, sym, subst}
use mathlib.Core.Bool.{Bool, true, false, not, cond, ◌&&◌, ◌||◌}
use mathlib.Core.List.{List, [], ◌∷◌, ◌++◌}
use lib.Dec.{T}
use Rattle.pair.specs.Names.{Side, StartReq, StartInd, Control, Primitive, DStart, DStartCnf, DTurnedAway, DData, DEnd, DEndCnf, DAbort, DPAbort, Call, same, is, is_idle, other, may_start, sends, is_data, Did, quiet, aborts, meets}
use Rattle.pair.specs.Carrier.{Sort, begins, breaks, plain, begins?}
use Rattle.pair.specs.Claims.{matching}
use Rattle.pair.proofs.ControlMachine.{Ent, sort_of}
use Rattle.pair.proofs.Finite.{Dr, ok, dead, bad, and_l, no_T}

-- ---- entries and calls by their sort

abbrev pub is_start : Primitive → Bool
is_start k = begins? (sort_of k)

-- an IDLE end takes no notice of anything but a D-START
abbrev pub deaf : Control → Primitive → Bool
deaf c k = is_idle c && not (is_start k)

abbrev pub breaks? : Sort → Bool
breaks? begins = false
breaks? breaks = true
breaks? plain = false

-- a call that starts a dialogue, breaks it, sends a message
abbrev pub starting : Call → Bool
starting u = is_start (sends u)

abbrev pub calm : Call → Bool
calm u = not (starting u)

abbrev pub cuts : Call → Bool
cuts u = breaks? (sort_of (sends u))

abbrev pub mild : Call → Bool
mild u = not (cuts u)

abbrev pub says : Call → Bool
says u = is_data (sends u)

-- ---- draining

abbrev pub settle : Did → Dr
settle (quiet c) = ok c
settle (aborts c) = bad

abbrev pub is_loss : Primitive → Bool
is_loss (DStart m) = false
is_loss (DStartCnf r) = false
is_loss DTurnedAway = false
is_loss DData = false
is_loss DEnd = false
is_loss (DEndCnf r) = false
is_loss DAbort = true
is_loss DPAbort = true

-- the first entry of a line
abbrev pub recv : Side → Control → Primitive → Dr
recv sd c k = cond (deaf c k) dead (cond (is_loss k) dead (settle (meets sd c k)))

-- an entry behind it: a start is not expected there
abbrev pub later : Side → Dr → Primitive → Dr
later sd bad k = bad
later sd dead k = cond (is_start k) bad dead
later sd (ok c) k = cond (is_start k) bad (recv sd c k)

abbrev pub drain : Side → Dr → List Ent → Dr
drain sd x [] = x
drain sd x (e ∷ l) = drain sd (later sd x e.kind) l

abbrev pub front : Side → Control → List Ent → Dr
front sd c [] = ok c
front sd c (e ∷ l) = drain sd (recv sd c e.kind) l

abbrev pub is_closed : Control → Bool
is_closed c = is_idle c && not c.dsc

abbrev pub wf : Control → Bool
wf c = not (is_idle c) || not c.dsc

abbrev pub same_ctl : Control → Control → Bool
same_ctl x y = is x.state y.state && same x.dsc y.dsc

abbrev pub still : Dr → Bool
still bad = false
still dead = true
still (ok c) = is_closed c

abbrev pub alive : Dr → Bool
alive bad = false
alive dead = false
alive (ok c) = true

abbrev pub fine : Dr → Bool
fine bad = false
fine dead = true
fine (ok c) = true

-- matching, with equal DSC everywhere, IDLE closed, and a start by a side that may
abbrev pub strong : Side → Control → Control → Bool
strong sd x y =
    matching x y && ((same x.dsc y.dsc) &&
    (wf x && ((not (is x.state StartReq) || may_start sd x.dsc) && (not (is x.state StartInd) || may_start (other sd) x.dsc))))

abbrev pub matched : Side → Dr → Dr → Bool
matched sd bad y = false
matched sd dead y = still y
matched sd (ok x) bad = false
matched sd (ok x) dead = is_closed x
matched sd (ok x) (ok y) = strong sd x y

-- unbroken, both are as they should be; broken, both end closed
abbrev pub ok_for : Bool → Dr → Dr → Bool
ok_for true x y = still x && still y
ok_for false x y = alive x && alive y

-- the invariant of the control, over the drained ends
abbrev pub sound : Side → Bool → Dr → Dr → Bool
sound sd b x y = matched sd x y && ok_for b x y

-- ---- laws of draining

pub drain_snoc : (sd : Side) (x : Dr) (l : List Ent) (e : Ent) → drain sd x (l ++ (e ∷ [])) ≡ later sd (drain sd x l) e.kind
drain_snoc sd x [] e = refl
drain_snoc sd x (z ∷ l) e = drain_snoc sd (later sd x z.kind) l e

pub later_ok : (sd : Side) (c : Control) (k : Primitive) → T (not (is_start k)) → recv sd c k ≡ later sd (ok c) k
later_ok sd c k t = rw (no_T (is_start k) t)

pub front_snoc : (sd : Side) (c : Control) (l : List Ent) (e : Ent) → T (not (is_start e.kind))
    → front sd c (l ++ (e ∷ [])) ≡ later sd (front sd c l) e.kind
front_snoc sd c [] e t = later_ok sd c e.kind t
front_snoc sd c (z ∷ l) e t = drain_snoc sd (recv sd c z.kind) l e

pub later_fine : (sd : Side) (x : Dr) (k : Primitive) → T (fine (later sd x k)) → T (fine x)
later_fine sd bad k t = t
later_fine sd dead k t = tt
later_fine sd (ok c) k t = tt

pub drain_fine : (sd : Side) (x : Dr) (l : List Ent) → T (fine (drain sd x l)) → T (fine x)
drain_fine sd x [] t = t
drain_fine sd x (e ∷ l) t = later_fine sd x e.kind (drain_fine sd (later sd x e.kind) l t)

pub matched_left : (sd : Side) (x y : Dr) → T (matched sd x y) → T (fine x)
matched_left sd bad y t = t
matched_left sd dead y t = tt
matched_left sd (ok x) y t = tt

pub matched_right : (sd : Side) (x y : Dr) → T (matched sd x y) → T (fine y)
matched_right sd bad y t = absurd t
matched_right sd dead bad t = t
matched_right sd dead dead t = tt
matched_right sd dead (ok y) t = tt
matched_right sd (ok x) bad t = t
matched_right sd (ok x) dead t = tt
matched_right sd (ok x) (ok y) t = tt

pub sound_left : (sd : Side) (b : Bool) (x y : Dr) → T (sound sd b x y) → T (fine x)
sound_left sd b x y t = matched_left sd x y (and_l (matched sd x y) _ t)

pub sound_right : (sd : Side) (b : Bool) (x y : Dr) → T (sound sd b x y) → T (fine y)
sound_right sd b x y t = matched_right sd x y (and_l (matched sd x y) _ t)

-- nothing behind the first entry is a start
pub later_start_is : (sd : Side) (x : Dr) (k : Primitive) → T (fine (later sd x k)) → is_start k ≡ false
later_start_is sd x k t = go x (is_start k) refl t
  where
    go : (x : Dr) (b : Bool) → is_start k ≡ b → T (fine (later sd x k)) → is_start k ≡ false
    go x false e t = e
    go bad true e t = absurd t
    go dead true e t = absurd (subst (λ (b : Bool). T (fine (cond b bad dead))) e t)
    go (ok c) true e t = absurd (subst (λ (b : Bool). T (fine (cond b bad (recv sd c k)))) e t)

-- drained from a control is drained from its front
pub front_of : (sd : Side) (c : Control) (l : List Ent) → T (fine (drain sd (ok c) l)) → front sd c l ≡ drain sd (ok c) l
front_of sd c [] t = refl
front_of sd c (e ∷ l) t =
    let n = later_start_is sd (ok c) e.kind (drain_fine sd (later sd (ok c) e.kind) l t) in
    ap (λ (b : Bool). drain sd (cond b bad (recv sd c e.kind)) l) (sym n)
