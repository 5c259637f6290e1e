-- What holds of one end's record on every run: it is formed, by crate machine's laws (t-start runs exactly in START-REQ and FORWARD, the user is
-- active exactly outside IDLE, IDLE has DSC false), the security values are the pair's, and no forward is under way.
-- Assumes nothing.
use mathlib.Core.Path.{◌≡◌, refl, ap, sym, subst}
use mathlib.Core.Bool.{Bool, true, false, cond, ◌&&◌}
use mathlib.Core.List.{[]}
use Prim.Native.Nat.{ℕ}
use lib.Dec.{T}
use Rattle.clauses.proofs.Laws.{step_formed}
use Rattle.editions.specs.declared.Edition.{Edition}
use Rattle.machine.specs.Outcome.{is_none}
use Rattle.machine.specs.Record.{enter}
use Rattle.machine.specs.Run.{Formed}
use Rattle.machine.specs.Step.{step}
use Rattle.machine.specs.declared.record.Record.{Record}
use Rattle.machine.specs.declared.event.Event.{Event}
use Rattle.pair.specs.Names.{Side, State, Idle, StartReq, StartInd, Dialogue, End, Forward, is, is_idle, awaits_response, entered, closed}
use Rattle.pair.specs.Carrier.{Body, nothing, puts, message}
use Rattle.pair.specs.Carrier as C
use Rattle.pair.proofs.ControlMachine.{Held, held, Ent}
use Rattle.pair.specs.Wires.{Wire}
use Rattle.pair.proofs.StepMachine.{Codec, taken, happens, calls}
use Rattle.pair.proofs.Agree.{OutRel, Still, Follows, stays, does}

pub record Local (ed : Edition) (p : ℕ) (r : Record) : Type 0 where
  pub edition : r.edition ≡ ed
  pub formed : Formed r
  pub policy : r.policy ≡ p
  pub request : T (is r.control.state StartReq) → r.request ≡ p
  pub dialogue : awaits_response r.control ≡ false

abbrev pub low_of : Record → Held
low_of r = held r.control r.highest

-- q is the control's record for r
pub record Same (ed : Edition) (p : ℕ) (r : Record) (q : Held) : Type 0 where
  pub low : low_of r ≡ q
  pub local : Local ed p r

-- the same, but for being formed: that every step keeps that is known
pub record Low (ed : Edition) (p : ℕ) (r : Record) (q : Held) : Type 0 where
  pub edition : r.edition ≡ ed
  pub low : low_of r ≡ q
  pub policy : r.policy ≡ p
  pub request : T (is r.control.state StartReq) → r.request ≡ p
  pub dialogue : awaits_response r.control ≡ false

pub closed_low : (ed : Edition) (p : ℕ) (r : Record) → Local ed p r → Low ed p (enter r closed) (held closed r.highest)
unfolding enter
closed_low ed p r h = record { edition = h.edition; low = refl; policy = h.policy; request = λ (x : T false). absurd x; dialogue = refl }

-- in IDLE closing changes nothing of the control
closed_only : (s : State) (d : Bool) → is s Idle ≡ true → d ≡ false → closed ≡ entered s d
closed_only Idle d i e = ap (entered Idle) (sym e)
closed_only StartReq d i e = absurd (subst T (sym i) tt)
closed_only StartInd d i e = absurd (subst T (sym i) tt)
closed_only Dialogue d i e = absurd (subst T (sym i) tt)
closed_only End d i e = absurd (subst T (sym i) tt)
closed_only Forward d i e = absurd (subst T (sym i) tt)

pub closed_is_idle : (r : Record) → Formed r → is_idle r.control ≡ true → closed ≡ r.control
closed_is_idle r h i = closed_only r.control.state r.control.dsc i (h.idle i)

-- ---- what a step leaves is formed

abbrev pub FormedOut : C.Outcome Record Wire → Type 0
FormedOut C.refused = Unit {0}
FormedOut (C.acts r l w) = Formed r

pub happens_formed : (K : Codec) (sd : Side) (r : Record) (e : Event) (x : Body) → Formed r → FormedOut (happens K sd (step sd r e) x)
happens_formed K sd r e x h = go (is_none (step sd r e).refusal)
  where
    go : (b : Bool) → FormedOut (cond b (taken K sd (step sd r e) [] 0 x) C.refused)
    go true = step_formed sd r e h
    go false = tt

pub calls_formed : (K : Codec) (sd : Side) (r : Record) (e : Event) (b : Body) (j : ℕ) → Formed r → FormedOut (calls K sd (step sd r e) b j)
calls_formed K sd r e b j h = go (is_none (step sd r e).refusal && K.fits sd (step sd r e).apdu b)
  where
    go : (t : Bool) → FormedOut (cond t (taken K sd (step sd r e) b j []) C.refused)
    go true = step_formed sd r e h
    go false = tt

low_same : (ed : Edition) (p : ℕ) (r : Record) (q : Held) → Formed r → Low ed p r q → Same ed p r q
low_same ed p r q f h = record { low = h.low; local = record { edition = h.edition; formed = f; policy = h.policy; request = h.request; dialogue = h.dialogue } }

pub same_out : (ed : Edition) (p : ℕ) (EE : Wire → Ent → Type 0) (o : C.Outcome Record Wire) (z : C.Outcome Held Ent)
    → FormedOut o → OutRel (Low ed p) EE o z → OutRel (Same ed p) EE o z
same_out ed p EE C.refused C.refused f x = x
same_out ed p EE C.refused (C.acts q k s) f x = x
same_out ed p EE (C.acts r l w) C.refused f x = x
same_out ed p EE (C.acts r l w) (C.acts q k s) f x = (low_same ed p r q f x.0, x.1, x.2)

same_still : (ed : Edition) (p : ℕ) (o : C.Outcome Record Wire) (q : Held) → FormedOut o → Still (Low ed p) o q → Still (Same ed p) o q
same_still ed p C.refused q f x = x
same_still ed p (C.acts r l nothing) q f x = (low_same ed p r q f x.0, x.1)
same_still ed p (C.acts r l (puts e)) q f x = x
same_still ed p (C.acts r l (message e b j)) q f x = x

pub same_follows : {X : Type 0} (ed : Edition) (p : ℕ) (EE : Wire → Ent → Type 0) (o : C.Outcome Record Wire) (q : Held) (event : X → C.Outcome Held Ent) → FormedOut o → Follows (Low ed p) EE o q event → Follows (Same ed p) EE o q event
same_follows ed p EE o q event f (stays x) = stays (same_still ed p o q f x)
same_follows ed p EE o q event f (does a x) = does a (same_out ed p EE o (event a) f x)
