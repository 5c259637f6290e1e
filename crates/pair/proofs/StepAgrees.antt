-- The machines as they are agree with the control, so demand 3 holds of them: over any codec that reads back what it wrote.
-- Assumes nothing.
use mathlib.Core.Path.{◌≡◌, ap, sym, subst}
use mathlib.Core.List.{List, []}
use Prim.Native.Nat.{ℕ}
use lib.Dec.{T, ltb}
use Rattle.editions.specs.Editions.{secures}
use Rattle.editions.specs.declared.Edition.{Edition}
use Rattle.machine.specs.Codes.{security_values}
use Rattle.machine.specs.Step.{step}
use Rattle.machine.specs.declared.record.Record.{Record}
use Rattle.machine.specs.declared.event.UserData.{UserData}
use Rattle.machine.specs.declared.event.UserData.TheVariants.{Absent}
use Rattle.machine.specs.declared.event.ServicePrimitive.{ServicePrimitive}
use Rattle.machine.specs.declared.event.ServicePrimitive.TheVariants.{DPAbortIndication}
use Rattle.machine.specs.declared.event.Event.{Event}
use Rattle.machine.specs.declared.event.Event.TheVariants.{User, Service, TimerExpires, UnrecoverableSystemError}
use Rattle.pair.specs.Names.{Side, Control, is_idle, closed, TimerExpiry, SystemError, DTurnedAway, DPAbort, other, Call}
use Rattle.pair.specs.Carrier.{Body, Turn}
use Rattle.pair.proofs.OneDialogue.{Sys, fresh, run, Claims}
use Rattle.pair.specs.Carrier as C
use Rattle.pair.proofs.ControlMachine.{Held, held, Ent, ent, ask, call_of, receives, control}
use Rattle.pair.specs.Wires.{Wire, arrives, rejects}
use Rattle.pair.proofs.StepMachine.{Codec, apdu_of, body_of, happens, Order, asked, data_of, job_of, calls, step_machine}
use Rattle.machine.specs.Calls.{security_sent}
use Rattle.pair.proofs.Finite.{is_t}
use Rattle.pair.proofs.Agree.{OutRel, Follows, Agree}
use Rattle.pair.proofs.EveryMachine.{followed, machine_holds}
use Rattle.pair.proofs.NoAbortAnswers.{BothQuiet, none_answered}
use Rattle.pair.proofs.StepLocal.{Local, low_of, Same, Low, closed_is_idle, happens_formed, calls_formed, same_out, same_follows}
use Rattle.pair.proofs.StepMeans.{Means, meaning_sort}
use Rattle.pair.proofs.StepCalls.{call_rel, expiry_rel, error_rel}
use Rattle.pair.proofs.StepReceives.{receive_rel, away_rel, p_abort_rel}

-- p is a security value
module _ (K : Codec) (ed : Edition) (p : ℕ) (fair : security_sent (secures ed) p ≡ p) (v : T (ltb p security_values)) where
  -- what a primitive does to a formed record leaves a formed one
  pub formed_service : (sd : Side) (r : Record) (e : ServicePrimitive) (a : UserData) (x : Body) (z : C.Outcome Held Ent)
      → Local ed p r → OutRel (Low ed p) (Means K ed p sd) (happens K sd (step sd r (Service e a)) x) z
      → OutRel (Same ed p) (Means K ed p sd) (happens K sd (step sd r (Service e a)) x) z
  formed_service sd r e a x z h y = same_out ed p (Means K ed p sd) (happens K sd (step sd r (Service e a)) x) z
      (happens_formed K sd r (Service e a) x h.formed) y

  pub receive_at : (sd : Side) (r : Record) (w : Wire) (f : Ent) → Local ed p r → Means K ed p (other sd) w f
      → OutRel (Same ed p) (Means K ed p sd) ((step_machine K p).receive sd r w) (receives sd (low_of r) f)
  receive_at sd r w f h e =
      let x = K.dec (other sd) w.bytes in
      formed_service sd r (arrives sd w.primitive) (apdu_of x) (body_of x) (receives sd (low_of r) f) h
      (receive_rel K ed p sd r w.primitive x f h (is_t (ltb p security_values) v) e)

  -- a report: an expiry, a system error
  pub formed_report : (sd : Side) (r : Record) (e : Event) (u : Call) → Local ed p r → Follows {X = Unit {0}} (Low ed p) (Means K ed p sd) (happens K sd (step sd r e) []) (low_of r) (λ (y : Unit {0}). call_of sd (low_of r) (ask u [] 0)) → Follows {X = Unit {0}} (Same ed p) (Means K ed p sd) (happens K sd (step sd r e) []) (low_of r) (λ (y : Unit {0}). call_of sd (low_of r) (ask u [] 0))
  formed_report sd r e u h x = same_follows ed p (Means K ed p sd) (happens K sd (step sd r e) []) (low_of r) (λ (y : Unit {0}). call_of sd (low_of r) (ask u [] 0)) (happens_formed K sd r e [] h.formed) x

  pub call_at : (sd : Side) (r : Record) (a : Order) → Local ed p r
      → Follows (Same ed p) (Means K ed p sd) (calls K sd (step sd r (User (asked K p a))) (data_of a) (job_of a)) (low_of r) (call_of sd (low_of r))
  call_at sd r a h = same_follows ed p (Means K ed p sd)
      (calls K sd (step sd r (User (asked K p a))) (data_of a) (job_of a)) (low_of r) (call_of sd (low_of r))
      (calls_formed K sd r (User (asked K p a)) (data_of a) (job_of a) h.formed) (call_rel K ed p fair sd r a h)

  abbrev pub agrees : Agree (step_machine K p) control
  agrees = record {
    RR = λ (sd : Side) (r : Record) (q : Held). Same ed p r q;
    EE = Means K ed p;
    ctl_is = λ (sd : Side) (r : Record) (q : Held) (h : Same ed p r q). ap (λ (x : Held). x.ctl) h.low;
    sort_is = λ (sd : Side) (w : Wire) (f : Ent) (e : Means K ed p sd w f). meaning_sort ed p w.primitive (K.dec sd w.bytes) f e;
    call_is = λ (sd : Side) (r : Record) (q : Held) (a : Order) (h : Same ed p r q).
        subst (λ (x : Held). Follows (Same ed p) (Means K ed p sd)
        (calls K sd (step sd r (User (asked K p a))) (data_of a) (job_of a)) x (call_of sd x)) h.low
        (call_at sd r a h.local);
    receive_is = λ (sd : Side) (r : Record) (q : Held) (w : Wire) (f : Ent) (h : Same ed p r q) (e : Means K ed p (other sd) w f).
        subst (λ (x : Held). OutRel (Same ed p) (Means K ed p sd) ((step_machine K p).receive sd r w) (receives sd x f))
        h.low (receive_at sd r w f h.local e);
    expiry_is = λ (sd : Side) (r : Record) (q : Held) (h : Same ed p r q).
        subst (λ (x : Held). Follows {X = Unit {0}} (Same ed p) (Means K ed p sd) (happens K sd (step sd r TimerExpires) []) x (λ (y : Unit {0}). call_of sd x (ask TimerExpiry [] 0))) h.low (formed_report sd r TimerExpires TimerExpiry h.local (expiry_rel K ed p sd r h.local));
    error_is = λ (sd : Side) (r : Record) (q : Held) (h : Same ed p r q).
        subst (λ (x : Held). Follows {X = Unit {0}} (Same ed p) (Means K ed p sd) (happens K sd (step sd r UnrecoverableSystemError) []) x (λ (y : Unit {0}). call_of sd x (ask SystemError [] 0))) h.low (formed_report sd r UnrecoverableSystemError SystemError h.local (error_rel K ed p sd r h.local));
    away_is = λ (sd : Side) (r : Record) (q : Held) (h : Same ed p r q).
        subst (λ (x : Held). OutRel (Same ed p) (Means K ed p sd) ((step_machine K p).away sd r)
        (receives sd x (ent DTurnedAway []))) h.low (formed_service sd r rejects Absent []
        (receives sd (low_of r) (ent DTurnedAway [])) h.local (away_rel K ed p sd r h.local));
    p_abort_is_law = λ (sd : Side) (r : Record) (q : Held) (h : Same ed p r q).
        subst (λ (x : Held). OutRel (Same ed p) (Means K ed p sd) ((step_machine K p).p_abort sd r)
        (receives sd x (ent DPAbort []))) h.low (formed_service sd r DPAbortIndication Absent []
        (receives sd (low_of r) (ent DPAbort [])) h.local (p_abort_rel K ed p sd r h.local));
  }

  -- an IDLE record, whatever its highest job
  pub idle_same : (r : Record) → Local ed p r → T (is_idle r.control) → Same ed p r (held closed r.highest)
  idle_same r h i = record { low = ap (λ (c : Control). held c r.highest) (sym (closed_is_idle r h.formed (is_t (is_idle r.control) i))); local = h }

  -- from any two IDLE records of the pair
  module _ (r q : Record) (h : Local ed p r) (i : T (is_idle r.control)) (k : Local ed p q) (j : T (is_idle q.control)) where
    abbrev pub after : List (Turn Order) → Sys (step_machine K p)
    after ts = run (step_machine K p) (fresh (step_machine K p) r q) ts

    -- demand 3 for the machines of crate machine
    pub step_holds : (ts : List (Turn Order)) → Claims (step_machine K p) r.highest q.highest (after ts)
    step_holds ts = machine_holds (step_machine K p) agrees r.highest q.highest r q (idle_same r h i) (idle_same q k j) ts

    -- and on every run t-start runs exactly in START-REQ, the user is active exactly outside IDLE, and IDLE has DSC false
    pub step_local : (ts : List (Turn Order)) → Local ed p (after ts).here.rec × Local ed p (after ts).there.rec
    step_local ts =
        let f = (followed (step_machine K p) control agrees r q (held closed r.highest) (held closed q.highest)
        (idle_same r h i) (idle_same q k j) ts).rel in
        (f.here.rec.local, f.there.rec.local)

    -- and no machine answers an entry that is handed over by a D-ABORT
    pub step_quiet : (ts : List (Turn Order)) → BothQuiet (step_machine K p) (after ts)
    step_quiet ts = none_answered (step_machine K p) agrees r.highest q.highest r q (idle_same r h i) (idle_same q k j) ts
