-- What an entry that carries bytes is to the control: the primitive that it will be at the other end, if its parameters are
-- right and its bytes are read as a PDU that is permitted there.
-- Assumes nothing.
use mathlib.Core.Path.{◌≡◌, refl, ap, sym, ◌∙◌, subst}
use mathlib.Core.Bool.{Bool, true, false, not, cond, ◌&&◌}
use mathlib.Core.List.{[]}
use Prim.Native.Nat.{ℕ}
use lib.Dec.{T, ltb, eqb}
use borrow.Author.Tests.{eq-eqb}
use Rattle.editions.specs.Editions.{spares, user_reasons}
use Rattle.editions.specs.declared.Edition.{Edition}
use Rattle.machine.specs.Codes.{user, accepted, provider, results, provider_reasons, routing_classes}
use Rattle.machine.specs.Event.{qos_fits, answer_fits}
use Rattle.machine.specs.Calls.{reply_of, qos_asked, unless_spared}
use Rattle.machine.specs.declared.event.UserData.{UserData}
use Rattle.machine.specs.declared.event.UserData.TheVariants.{Absent, NotValid, Start, Send, AbortUser, AbortProvider, Forward, ForwardResponse}
use Rattle.machine.specs.declared.outcome.Invoked.{Invoked}
use Rattle.machine.specs.declared.outcome.Invoked.TheVariants.{DStartRequest, DStartResponse, DDataRequest, DEndRequest, DEndResponse, DAbortRequest, DStartForwardRequest, DStartForwardResponse}
use Rattle.pair.specs.Names.{Side, Primitive, DStart, DStartCnf, DData, DEnd, DEndCnf, DAbort}
use Rattle.pair.specs.Carrier.{Body}
use Rattle.pair.proofs.ControlMachine.{Ent, ent}
use Rattle.pair.proofs.ControlMachine as M
use Rattle.pair.specs.Wires.{Wire, sort_of}
use Rattle.pair.proofs.StepMachine.{Read, got, fault, Codec}
use Rattle.pair.proofs.Finite.{is_t}
use Rattle.words.proofs.Laws.{both_left, both_right}
use Rattle.std.specs.Prelude.{None, Option, Some}

-- odd: a fault would be met
pub data Meaning : Type 0 where
  known : Ent → Meaning
  odd : Meaning

abbrev pub is_odd : Meaning → Bool
is_odd odd = true
is_odd (known e) = false

abbrev pub ent_of : Meaning → Ent
ent_of odd = ent DAbort []
ent_of (known e) = e

abbrev pub start_of : UserData → Body → Meaning
start_of Absent b = odd
start_of NotValid b = odd
start_of (Start m) b = known (ent (DStart m) b)
start_of Send b = odd
start_of (AbortUser x) b = odd
start_of (AbortProvider x) b = odd
start_of Forward b = odd
start_of (ForwardResponse x) b = odd

-- spared: it may have no user data; allowed: it may have some
abbrev pub send_of : Bool → Bool → Primitive → UserData → Body → Meaning
send_of spared allowed k Absent b = cond spared (known (ent k b)) odd
send_of spared allowed k NotValid b = odd
send_of spared allowed k (Start m) b = odd
send_of spared allowed k Send b = cond allowed (known (ent k b)) odd
send_of spared allowed k (AbortUser x) b = odd
send_of spared allowed k (AbortProvider x) b = odd
send_of spared allowed k Forward b = odd
send_of spared allowed k (ForwardResponse x) b = odd

-- a start that is accepted has no user data where it is spared
abbrev pub answer_of : Edition → ℕ → UserData → Body → Meaning
answer_of ed x a b = send_of (spares ed) (not (spares ed && eqb x accepted)) (DStartCnf (reply_of x)) a b

-- the reason fits the originator
abbrev pub abort_of : Edition → ℕ → UserData → Meaning
abort_of ed o Absent = odd
abort_of ed o NotValid = odd
abort_of ed o (Start m) = odd
abort_of ed o Send = odd
abort_of ed o (AbortUser x) = cond (eqb o user && ltb x (user_reasons ed)) (known (ent DAbort [])) odd
abort_of ed o (AbortProvider x) = cond (eqb o provider && ltb x provider_reasons) (known (ent DAbort [])) odd
abort_of ed o Forward = odd
abort_of ed o (ForwardResponse x) = odd

-- p: the security value of both ends
abbrev pub meant : Edition → ℕ → Option Invoked → UserData → Body → Meaning
meant ed p None a b = odd
meant ed p (Some (DStartRequest q s)) a b = cond (qos_fits q && eqb s p) (start_of a b) odd
meant ed p (Some (DStartResponse x s)) a b = cond (ltb x results && eqb s p) (answer_of ed x a b) odd
meant ed p (Some DDataRequest) a b = send_of false true DData a b
meant ed p (Some DEndRequest) a b = send_of (spares ed) true DEnd a b
meant ed p (Some (DEndResponse x)) a b = cond (ltb x results) (send_of (spares ed) true (DEndCnf (reply_of x)) a b) odd
meant ed p (Some (DAbortRequest o)) a b = abort_of ed o a
meant ed p (Some (DStartForwardRequest q s v)) a b = odd
meant ed p (Some (DStartForwardResponse s v)) a b = odd

abbrev pub meaning : Edition → ℕ → Option Invoked → Read → Meaning
meaning ed p i (got a b) = meant ed p i a b
meaning ed p i fault = odd

-- the entry w, sent by side sd, is f to the control
abbrev pub Means : Codec → Edition → ℕ → Side → Wire → Ent → Type 0
Means K ed p sd w f = meaning ed p w.primitive (K.dec sd w.bytes) ≡ known f

pub never : {A : Type 0} (f : Ent) → odd ≡ known f → A
never f e = absurd (subst (λ (x : Meaning). T (is_odd x)) e tt)

-- where the test held
pub yes : (b : Bool) (x : Meaning) → b ≡ true → cond b x odd ≡ x
yes b x e = ap (λ (c : Bool). cond c x odd) e

pub known_if : (b : Bool) (x : Meaning) (f : Ent) → cond b x odd ≡ known f → T b × (x ≡ known f)
known_if true x f e = (tt, e)
known_if false x f e = never f e

-- ---- sorts

start_sort : (a : UserData) (b : Body) (f : Ent) → start_of a b ≡ known f → M.sort_of (DStart true) ≡ M.sort_of f.kind
start_sort Absent b f e = never f e
start_sort NotValid b f e = never f e
start_sort (Start m) b f e = ap (λ (x : Meaning). M.sort_of (ent_of x).kind) e
start_sort Send b f e = never f e
start_sort (AbortUser x) b f e = never f e
start_sort (AbortProvider x) b f e = never f e
start_sort Forward b f e = never f e
start_sort (ForwardResponse x) b f e = never f e

send_sort : (t u : Bool) (k : Primitive) (a : UserData) (b : Body) (f : Ent) → send_of t u k a b ≡ known f → M.sort_of k ≡ M.sort_of f.kind
send_sort t u k Absent b f e = ap (λ (x : Meaning). M.sort_of (ent_of x).kind) (known_if t (known (ent k b)) f e).1
send_sort t u k NotValid b f e = never f e
send_sort t u k (Start m) b f e = never f e
send_sort t u k Send b f e = ap (λ (x : Meaning). M.sort_of (ent_of x).kind) (known_if u (known (ent k b)) f e).1
send_sort t u k (AbortUser x) b f e = never f e
send_sort t u k (AbortProvider x) b f e = never f e
send_sort t u k Forward b f e = never f e
send_sort t u k (ForwardResponse x) b f e = never f e

pub abort_is : (ed : Edition) (o : ℕ) (a : UserData) (f : Ent) → abort_of ed o a ≡ known f → ent DAbort [] ≡ f
abort_is ed o Absent f e = never f e
abort_is ed o NotValid f e = never f e
abort_is ed o (Start m) f e = never f e
abort_is ed o Send f e = never f e
abort_is ed o (AbortUser x) f e = ap ent_of (known_if (eqb o user && ltb x (user_reasons ed)) (known (ent DAbort [])) f e).1
abort_is ed o (AbortProvider x) f e = ap ent_of (known_if (eqb o provider && ltb x provider_reasons) (known (ent DAbort [])) f e).1
abort_is ed o Forward f e = never f e
abort_is ed o (ForwardResponse x) f e = never f e

meant_sort : (ed : Edition) (p : ℕ) (i : Option Invoked) (a : UserData) (b : Body) (f : Ent) → meant ed p i a b ≡ known f
    → sort_of i ≡ M.sort_of f.kind
meant_sort ed p None a b f e = never f e
meant_sort ed p (Some (DStartRequest q s)) a b f e = start_sort a b f (known_if (qos_fits q && eqb s p) (start_of a b) f e).1
meant_sort ed p (Some (DStartResponse x s)) a b f e = send_sort (spares ed) _ (DStartCnf (reply_of x)) a b f
    (known_if (ltb x results && eqb s p) (answer_of ed x a b) f e).1
meant_sort ed p (Some DDataRequest) a b f e = send_sort false true DData a b f e
meant_sort ed p (Some DEndRequest) a b f e = send_sort (spares ed) true DEnd a b f e
meant_sort ed p (Some (DEndResponse x)) a b f e = send_sort (spares ed) true (DEndCnf (reply_of x)) a b f
    (known_if (ltb x results) (send_of (spares ed) true (DEndCnf (reply_of x)) a b) f e).1
meant_sort ed p (Some (DAbortRequest o)) a b f e = ap (λ (x : Ent). M.sort_of x.kind) (abort_is ed o a f e)
meant_sort ed p (Some (DStartForwardRequest q s v)) a b f e = never f e
meant_sort ed p (Some (DStartForwardResponse s v)) a b f e = never f e

pub meaning_sort : (ed : Edition) (p : ℕ) (i : Option Invoked) (x : Read) (f : Ent) → meaning ed p i x ≡ known f → sort_of i ≡ M.sort_of f.kind
meaning_sort ed p i (got a b) f e = meant_sort ed p i a b f e
meaning_sort ed p i fault f e = never f e

-- ---- what a side writes means what the control sends

-- bytes that were written are read back
pub written : (K : Codec) (ed : Edition) (p : ℕ) (sd : Side) (i : Option Invoked) (a : UserData) (b : Body) (f : Ent) → T (K.fits sd a b) → meant ed p i a b ≡ known f → Means K ed p sd (record { primitive = i; bytes = K.enc sd a b }) f
written K ed p sd i a b f t e = ap (λ (x : Read). meaning ed p i x) (K.back sd a b t) ∙ e

pub start_means : (ed : Edition) (p k : ℕ) (m : Bool) (b : Body) → T (ltb k routing_classes)
    → meant ed p (Some (DStartRequest (qos_asked k) p)) (Start m) b ≡ known (ent (DStart m) b)
unfolding qos_fits
start_means ed p k m b t = yes (ltb k routing_classes && eqb p p) (known (ent (DStart m) b))
    (ap (λ (x : Bool). x && eqb p p) (is_t (ltb k routing_classes) t) ∙ eq-eqb p p refl)

-- the user data of an answer and of an end, as the edition has them (h: is there a message)
send_known : (t h y : Bool) (k : Primitive) (b : Body) → not (t && (y && h)) ≡ true
    → send_of t (not (t && y)) k (cond (t && not h) Absent Send) b ≡ known (ent k b)
send_known true true true k b e = absurd (subst T (sym e) tt)
send_known true true false k b e = refl
send_known true false y k b e = refl
send_known false true y k b e = refl
send_known false false y k b e = refl

end_known : (t h : Bool) (k : Primitive) (b : Body) → send_of t true k (cond (t && not h) Absent Send) b ≡ known (ent k b)
end_known true true k b = refl
end_known true false k b = refl
end_known false true k b = refl
end_known false false k b = refl

pub answer_means : (ed : Edition) (p x s : ℕ) (h : Bool) (b : Body) → answer_fits (spares ed) x h ≡ true → s ≡ p
    → meant ed p (Some (DStartResponse x s)) (unless_spared (spares ed) h) b ≡ known (ent (DStartCnf (reply_of x)) b)
answer_means ed p x s h b t e =
    yes (ltb x results && eqb s p) (answer_of ed x (cond (spares ed && not h) Absent Send) b)
    (ap (λ (y : Bool). y && eqb s p) (both_right (not (spares ed && (eqb x accepted && h))) _ t) ∙ eq-eqb s p e)
    ∙ send_known (spares ed) h (eqb x accepted) (DStartCnf (reply_of x)) b (both_left (not (spares ed && (eqb x accepted && h))) _ t)

pub end_request_means : (ed : Edition) (p : ℕ) (h : Bool) (b : Body)
    → meant ed p (Some DEndRequest) (unless_spared (spares ed) h) b ≡ known (ent DEnd b)
end_request_means ed p h b = end_known (spares ed) h DEnd b

pub end_means : (ed : Edition) (p x : ℕ) (h : Bool) (b : Body) → T (ltb x results)
    → meant ed p (Some (DEndResponse x)) (unless_spared (spares ed) h) b ≡ known (ent (DEndCnf (reply_of x)) b)
end_means ed p x h b t = yes (ltb x results)
    (send_of (spares ed) true (DEndCnf (reply_of x)) (cond (spares ed && not h) Absent Send) b) (is_t (ltb x results) t) ∙
    end_known (spares ed) h (DEndCnf (reply_of x)) b

pub user_means : (ed : Edition) (p x : ℕ) → T (ltb x (user_reasons ed))
    → meant ed p (Some (DAbortRequest user)) (AbortUser x) [] ≡ known (ent DAbort [])
user_means ed p x t = yes (ltb x (user_reasons ed)) (known (ent DAbort [])) (is_t (ltb x (user_reasons ed)) t)

-- a provider abort
pub abort_means : (K : Codec) (ed : Edition) (p : ℕ) (sd : Side) (x : ℕ) → T (ltb x provider_reasons) → Means K ed p sd (record { primitive = Some (DAbortRequest provider); bytes = K.enc sd (AbortProvider x) [] }) (ent DAbort [])
abort_means K ed p sd x t = written K ed p sd (Some (DAbortRequest provider)) (AbortProvider x) [] (ent DAbort [])
    (K.reasons_fit sd x t) (yes (ltb x provider_reasons) (known (ent DAbort [])) (is_t (ltb x provider_reasons) t))
