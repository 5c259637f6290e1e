-- A user call, an expiry and a system error keep the invariant.
-- Assumes nothing.
use mathlib.Core.Path.{◌≡◌, refl, ap, sym, ◌∙◌, subst}
use mathlib.Core.Bool.{Bool, true, false, not, cond, ◌||◌}
use mathlib.Core.List.{List, [], ◌∷◌, ◌++◌, append-nil, append_assoc}
use Prim.Native.Nat.{ℕ}
use lib.Dec.{T}
use Rattle.pair.specs.Names.{Side, Control, Call, is_idle, other, takes, goes, sends}
use Rattle.pair.specs.Carrier.{Body, puts, message, Outcome, refused, acts, Sort, begins, breaks, plain, begins?, starts}
use Rattle.pair.proofs.OneDialogue.{Sys, is_nil, cut, put, took, left, did, ready, called}
use Rattle.pair.proofs.ControlMachine.{Held, held, Ent, ent, Ask, sort_of, handed, may_call, sent_by, call_of, control}
use Rattle.pair.proofs.Finite.{and_l, and_r, or_l, no_T, T_is}
use Rattle.pair.proofs.Drain.{is_start, starting, calm, cuts, mild, says, recv, front, fine, sound, front_snoc, drain_fine, sound_left, sound_right, breaks?}
use Rattle.pair.proofs.Tests.{good_at, start_at, goes_wf, calm_at, send_at, none_at, data_at}
use Rattle.pair.proofs.Flow.{flow, pre_nil, pre_refl, pre_more, flow_snoc, ahead, no_start, kept_front, cut_front}
use Rattle.pair.proofs.Lines.{cut_loses_youngest}
use Rattle.pair.proofs.Cut.{first_snoc, cut_closes, cut_hands_beginning, cut_first}
use Rattle.pair.proofs.Invariant.{Data, start_first, Inv, lost_data, no_data, nil_is, closed_is, either}

-- ---- a call that is no start

module _ (sd : Side) (s : Sys control) (u : Call) (b : Body) (j keep : ℕ) (h : Inv sd s) (t : T (takes sd s.here.rec.ctl u)) (n : T (calm u)) where
  abbrev od : Side
  od = other sd

  abbrev c : Control
  c = s.here.rec.ctl

  abbrev g : Control
  g = s.there.rec.ctl

  abbrev ag : List Ent
  ag = s.here.line

  abbrev ga : List Ent
  ga = s.there.line

  abbrev e : Ent
  e = ent (sends u) b

  in-fine : T (fine (front sd c ga))
  in-fine = sound_left sd s.broken (front sd c ga) (front od g ag) h.con

  out_fine : T (fine (front od g ag))
  out_fine = sound_right sd s.broken (front sd c ga) (front od g ag) h.con

  no_first : (l : List Ent) → T (fine (front sd c l)) → T (start_first l) → ⊥
  no_first [] f i = i
  no_first (z ∷ l) f i = subst T (no_T (is_start z.kind) (no_start sd u c t n z.kind (drain_fine sd (recv sd c z.kind) l f))) i

  con_mild : T (mild u) → T (sound sd s.broken (front sd (goes c u) ga) (front od g (ag ++ (e ∷ []))))
  con_mild m =
      rw (front_snoc od g ag e (calm_at u n))
      (good_at sd u n m s.broken (front sd c ga) (front sd (goes c u) ga) (front od g ag) (ahead sd u c t n ga) h.con)

  con_abort : T (cuts u) → T (sound sd true (front sd (goes c u) ga) (front od g (cut control keep ag e)))
  con_abort k = cut_closes u b ag (cut control keep ag e) (cut_loses_youngest control keep ag e) sd (front sd c ga)
      (front sd (goes c u) ga) g n k (ahead sd u c t n ga) in-fine out_fine

  in-mild : T (mild u) → Data s.broken (s.here.handed ++ []) (flow sd (goes c u) ga) s.there.taken
  in-mild m = rw (append-nil s.here.handed, ← kept_front sd u c t n m ga in-fine) h.data_i

  out_plain : T (not (says u)) → Data s.broken s.there.handed (flow od g (ag ++ (e ∷ []))) s.here.taken
  out_plain k = rw (flow_snoc od g ag e, none_at od u k (front od g ag), append-nil (flow od g ag)) h.data_o

  -- broken: the other end will not hand it out; unbroken: it will
  out_message : T (says u) → Data s.broken s.there.handed (flow od g (ag ++ (e ∷ []))) (s.here.taken ++ (b ∷ []))
  out_message k =
      rw (
        flow_snoc od g ag e,
        send_at sd u k s.broken (front sd c ga) (front sd (goes c u) ga) (front od g ag)
            (ahead sd u c t n ga) h.con,
      )
      (go s.broken h.data_o)
    where
      go : (x : Bool) → Data x s.there.handed (flow od g ag) s.here.taken
          → Data x s.there.handed (flow od g ag ++ handed (not x) b) (s.here.taken ++ (b ∷ []))
      go true d =
          rw (append-nil (flow od g ag))
          (record { pre = pre_more _ s.here.taken (b ∷ []) d.pre; all = λ (e : true ≡ false). absurd (subst T e tt) })
      go false d =
          let q = sym (append_assoc s.there.handed (flow od g ag) (b ∷ [])) ∙ ap (λ (l : List Body). l ++ (b ∷ [])) (d.all refl) in
          record { pre = rw q (pre_refl _); all = λ (e : false ≡ false). q }

  -- a call that neither starts nor breaks a dialogue; tk: the messages taken after it
  mild_keeps : T (mild u) → (tk : List Body) (js : List ℕ) → Data s.broken s.there.handed (flow od g (ag ++ (e ∷ []))) tk
      → Inv sd (record { here = record { rec = held (goes c u) j; line = ag ++ (e ∷ []); taken = tk; handed = s.here.handed ++ []; jobs = js }; there = s.there; broken = s.broken })
  mild_keeps m tk js d =
      record {
        con = con_mild m;
        wf_h = goes_wf sd u c t;
        wf_t = h.wf_t;
        head_o = λ (i : T (start_first (ag ++ (e ∷ [])))). h.head_o (first_snoc ag e (calm_at u n) i);
        head_i = λ (i : T (start_first ga)). absurd (no_first ga in-fine i);
        data_o = d;
        data_i = in-mild m;
      }

  pub plain_keeps : T (mild u) → T (not (says u)) → Inv sd (left control (put control plain s e keep) (held (goes c u) j) [])
  plain_keeps m k = mild_keeps m s.here.taken s.here.jobs (out_plain k)

  pub message_keeps : T (mild u) → T (says u) → Inv sd (left control (took control (put control plain s e keep) b j) (held (goes c u) j) [])
  message_keeps m k = mild_keeps m (s.here.taken ++ (b ∷ [])) (s.here.jobs ++ (j ∷ [])) (out_message k)

  pub abort_keeps : T (cuts u) → T (not (says u)) → Inv sd (left control (put control breaks s e keep) (held (goes c u) j) [])
  abort_keeps k i =
      record {
        con = con_abort k;
        wf_h = goes_wf sd u c t;
        wf_t = h.wf_t;
        head_o = λ (x : T (start_first (cut control keep ag e))). h.head_o
            (cut_first u b ag (cut control keep ag e) (cut_loses_youngest control keep ag e) n x);
        head_i = λ (x : T (start_first ga)). absurd (no_first ga in-fine x);
        data_o = lost_data s.broken s.there.handed (flow od g ag) (flow od g (cut control keep ag e))
            s.here.taken h.data_o
            (cut_hands_beginning u b ag (cut control keep ag e) (cut_loses_youngest control keep ag e) od g i);
        data_i =
            rw (append-nil s.here.handed, cut_front sd u c t n k ga in-fine)
            (lost_data s.broken s.here.handed (flow sd c ga) [] s.there.taken h.data_i (pre_nil _));
      }

-- ---- a start

start_keeps : (sd : Side) (s : Sys control) (u : Call) (b : Body) (j keep : ℕ) → Inv sd s
    → T (takes sd s.here.rec.ctl u) → T (starting u) → T (not (says u)) → T (ready control s)
    → Inv sd (left control (put control begins s (ent (sends u) b) keep) (held (goes s.here.rec.ctl u) j) [])
start_keeps sd s u b j keep h t k i a =
    let c = s.here.rec.ctl in
    let g = s.there.rec.ctl in
    let a1 = and_r (is_idle c) _ a in
    let a2 = and_r (is_idle g) _ a1 in
    let p = nil_is s.here.line (and_l (is_nil s.here.line) _ a2) in
    let q = nil_is s.there.line (and_r (is_nil s.here.line) _ a2) in
    let ch = closed_is c (and_l (is_idle c) _ a) h.wf_h in
    let ct = closed_is g (and_l (is_idle g) _ a1) h.wf_t in
    record {
      con = rw (p, q) (start_at sd u c ch t k g ct);
      wf_h = goes_wf sd u c t;
      wf_t = h.wf_t;
      head_o = λ (x : T (start_first (s.here.line ++ (ent (sends u) b ∷ [])))). q;
      head_i = λ (x : T (start_first s.there.line)). absurd (subst (λ (l : List Ent). T (start_first l)) q x);
      data_o =
          rw (
            flow_snoc (other sd) g s.here.line (ent (sends u) b),
            none_at (other sd) u i
                (front (other sd) g s.here.line),
            append-nil (flow (other sd) g s.here.line),
            p,
          )
          (no_data false);
      data_i = rw q (no_data false);
    }

-- ---- a user call

-- the entry's sort is the primitive's
put_keeps : (sd : Side) (s : Sys control) (u : Call) (b : Body) (j keep : ℕ) → Inv sd s
    → T (takes sd s.here.rec.ctl u) → T (not (says u)) → (so : Sort) → sort_of (sends u) ≡ so
    → T (not (begins? so) || ready control s)
    → Inv sd (left control (put control so s (ent (sends u) b) keep) (held (goes s.here.rec.ctl u) j) [])
put_keeps sd s u b j keep h t i begins q a = start_keeps sd s u b j keep h t (subst (λ (x : Sort). T (begins? x)) (sym q) tt) i a
put_keeps sd s u b j keep h t i breaks q a = abort_keeps sd s u b j keep h t
    (subst (λ (x : Sort). T (not (begins? x))) (sym q) tt) (subst (λ (x : Sort). T (breaks? x)) (sym q) tt) i
put_keeps sd s u b j keep h t i plain q a = plain_keeps sd s u b j keep h t
    (subst (λ (x : Sort). T (not (begins? x))) (sym q) tt) (subst (λ (x : Sort). T (not (breaks? x))) (sym q) tt) i

took_keeps : (sd : Side) (s : Sys control) (u : Call) (b : Body) (j keep : ℕ) → Inv sd s
    → T (takes sd s.here.rec.ctl u) → T (says u)
    → Inv sd (left control (took control (put control (sort_of (sends u)) s (ent (sends u) b) keep) b j) (held (goes s.here.rec.ctl u) j) [])
took_keeps sd s u b j keep h t i =
    let q = data_at u i in
    subst (λ (so : Sort). Inv sd (left control (took control (put control so s (ent (sends u) b) keep) b j)
    (held (goes s.here.rec.ctl u) j) [])) (sym q)
    (message_keeps sd s u b j keep h t (subst (λ (x : Sort). T (not (begins? x))) (sym q) tt)
    (subst (λ (x : Sort). T (not (breaks? x))) (sym q) tt) i)

module _ (sd : Side) (s : Sys control) (a : Ask) (keep : ℕ) (h : Inv sd s) where
  abbrev w : Ent
  w = ent (sends a.what) a.body

  -- the record after it and what it sends; d: it sends a message
  abbrev outcome : Bool → Outcome Held Ent
  outcome d = acts (held (goes s.here.rec.ctl a.what) (cond d a.job s.here.rec.job)) []
      (cond d (message w a.body a.job) (puts w))

  acts_keeps : T (takes sd s.here.rec.ctl a.what) → T (calm a.what || ready control s)
      → Inv sd (did control s (outcome (says a.what)) keep)
  acts_keeps t x = go (says a.what) refl
    where
      go : (d : Bool) → says a.what ≡ d → Inv sd (did control s (outcome d) keep)
      go true q = took_keeps sd s a.what a.body a.job keep h t (T_is _ q)
      go false q = put_keeps sd s a.what a.body s.here.rec.job keep h t
          (subst (λ (d : Bool). T (not d)) (sym q) tt) (sort_of (sends a.what)) refl x

  starts_is : (d : Bool) → starts control (cond d (message w a.body a.job) (puts w)) ≡ starting a.what
  starts_is true = refl
  starts_is false = refl

  pub call_keeps : Inv sd (called control s (call_of sd s.here.rec a) keep)
  call_keeps = go (may_call sd s.here.rec a) refl
    where
      go : (x : Bool) → may_call sd s.here.rec a ≡ x → Inv sd (called control s (cond x (outcome (says a.what)) refused) keep)
      go false q = h
      go true q =
          either sd (not (starts control (sent_by a)) || ready control s) (did control s (outcome (says a.what)) keep) s
          (λ (x : T (not (starts control (sent_by a)) || ready control s)).
          acts_keeps (and_l (takes sd s.here.rec.ctl a.what) _ (T_is _ q))
          (subst (λ (b : Bool). T (not b || ready control s)) (starts_is (says a.what)) x))
          h

  -- an expiry, a system error
  pub report_keeps : T (calm a.what) → Inv sd (did control s (call_of sd s.here.rec a) keep)
  report_keeps n = go (may_call sd s.here.rec a) refl
    where
      go : (x : Bool) → may_call sd s.here.rec a ≡ x → Inv sd (did control s (cond x (outcome (says a.what)) refused) keep)
      go false q = h
      go true q = acts_keeps (and_l (takes sd s.here.rec.ctl a.what) _ (T_is _ q)) (or_l (calm a.what) _ n)
