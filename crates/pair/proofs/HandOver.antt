-- Handing over the oldest entry of a line keeps the invariant: on a run no entry that is handed over meets a fault.
-- Assumes nothing.
use mathlib.Core.Path.{◌≡◌, refl, ap, sym, ◌∙◌, subst}
use mathlib.Core.Bool.{Bool, true, false, cond, ◌&&◌, ◌||◌}
use mathlib.Core.List.{List, [], ◌∷◌, ◌++◌, append-nil, append_assoc}
use Prim.Native.Nat.{ℕ}
use lib.Dec.{T}
use Rattle.control.specs.Control as M
use Rattle.pair.specs.Names.{Side, Control, Primitive, is_idle, closed, other, expects, after, Did, quiet, aborts, meets}
use Rattle.pair.specs.Carrier.{Body}
use Rattle.pair.proofs.OneDialogue.{Sys, is_nil, did, off, handed_over}
use Rattle.pair.proofs.ControlMachine.{Ent, met, receives, control}
use Rattle.control.proofs.Finite.{imp}
use Rattle.pair.proofs.Finite.{Dr, ok, dead, bad, and_l, and_r, is_t, T_is, imp_e}
use Rattle.pair.proofs.Drain.{is_start, deaf, is_loss, recv, later, drain, front, is_closed, wf, still, fine, sound, drain_fine, sound_left, later_start_is, front_of}
use Rattle.pair.proofs.Tests.{after_wf, over_gives, rest_at, dead_at, view_at}
use Rattle.pair.proofs.Flow.{got, flow_d, flow, pre_cons, pre_trans, pre_front, over_flow}
use Rattle.pair.proofs.Invariant.{Data, start_first, Inv, closed_is, closed_wf}

drained_dead : (sd : Side) (l : List Ent) → T (fine (drain sd dead l)) → drain sd dead l ≡ dead
drained_dead sd [] f = refl
drained_dead sd (z ∷ l) f =
    let n = later_start_is sd dead z.kind (drain_fine sd (later sd dead z.kind) l f) in
    let q : later sd dead z.kind ≡ dead = rw n in
    rw q (drained_dead sd l (subst (λ (x : Dr). T (fine (drain sd x l))) q f))

recv_closed : (sd : Side) (c : Control) (k : Primitive) → T (is_idle c) → is_start k ≡ false → recv sd c k ≡ dead
recv_closed sd c k i n = rw (is_t (is_idle c) i, n)

-- a closed end before a line that leaves a dead one dead
after_dead : (sd : Side) (c : Control) (l : List Ent) → T (is_closed c) → T (fine (drain sd dead l)) → T (still (front sd c l))
after_dead sd c [] i f = i
after_dead sd c (z ∷ l) i f =
    let n = later_start_is sd dead z.kind (drain_fine sd (later sd dead z.kind) l f) in
    let q : later sd dead z.kind ≡ dead = rw n in
    rw (recv_closed sd c z.kind (and_l (is_idle c) _ i) n, drained_dead sd l (subst (λ (x : Dr). T (fine (drain sd x l))) q f)) tt

flow_dead : (sd : Side) (c : Control) (l : List Ent) → T (is_closed c) → T (fine (drain sd dead l)) → flow sd c l ≡ []
flow_dead sd c [] i f = refl
flow_dead sd c (z ∷ l) i f =
    let n = later_start_is sd dead z.kind (drain_fine sd (later sd dead z.kind) l f) in
    rw (
      over_gives sd (ok c) (subst (λ (b : Bool). T (b || false)) (sym (is_t (is_closed c) i)) tt) z.kind,
      recv_closed sd c z.kind (and_l (is_idle c) _ i) n,
    )
    (over_flow sd dead l tt)

lost_b : (b : Bool) (gv ws fl tk : List Body) → T b → Data b gv (ws ++ fl) tk → Data b (gv ++ ws) [] tk
lost_b b gv ws fl tk t d =
    record {
      pre = rw (append-nil (gv ++ ws)) (pre_trans (gv ++ ws) (gv ++ (ws ++ fl)) tk (pre_cons gv ws (ws ++ fl) (pre_front ws fl)) d.pre);
      all = λ (e : b ≡ false). absurd (subst T e t);
    }

no_second : (sd : Side) (x : Dr) (l : List Ent) → T (fine (drain sd x l)) → T (start_first l) → ⊥
no_second sd x [] f i = i
no_second sd x (z ∷ l) f i = subst T (later_start_is sd x z.kind (drain_fine sd (later sd x z.kind) l f)) i

nil_cons : (z : Ent) (l : List Ent) → [] ≡ z ∷ l → ⊥
nil_cons z l e = subst (λ (k : List Ent). T (is_nil k)) e tt

flow_of : (sd : Side) (c : Control) (l : List Ent) → T (fine (drain sd (ok c) l)) → flow sd c l ≡ flow_d sd (ok c) l
flow_of sd c [] f = refl
flow_of sd c (e ∷ l) f =
    let n = later_start_is sd (ok c) e.kind (drain_fine sd (later sd (ok c) e.kind) l f) in
    ap (λ (b : Bool). got sd (ok c) e ++ flow_d sd (cond b bad (recv sd c e.kind)) l) (sym n)

pub meets_is : (sd : Side) (c : Control) (k : Primitive) → T (expects sd c k) → meets sd c k ≡ quiet (after c k)
meets_is sd c k t = ap (λ (b : Bool). cond b (quiet (after c k)) (cond (M.deaf c k) (quiet closed) (aborts closed)))
    (is_t (expects sd c k) t)

module _ (sd : Side) (s : Sys control) (z : Ent) (l : List Ent) (e : s.there.line ≡ z ∷ l) (h : Inv sd s) where
  abbrev c : Control
  c = s.here.rec.ctl

  abbrev w : Dr
  w = front (other sd) s.there.rec.ctl s.here.line

  abbrev x : Dr
  x = drain sd (recv sd c z.kind) l

  -- the message in it, if the end hands it out
  abbrev new : List Body
  new = got sd (ok c) z

  -- the end goes to q without a word
  abbrev quietly : Control → ℕ → Sys control
  quietly q keep = did control (off control s l) (met s.here.rec (quiet q) new) keep

  con_now : T (sound sd s.broken x w)
  con_now = subst (λ (k : List Ent). T (sound sd s.broken (front sd c k) w)) e h.con

  data_now : Data s.broken s.here.handed (new ++ flow_d sd (recv sd c z.kind) l) s.there.taken
  data_now = subst (λ (k : List Ent). Data s.broken s.here.handed (flow sd c k) s.there.taken) e h.data_i

  fine_now : T (fine x)
  fine_now = sound_left sd s.broken x w con_now

  no_out : T (start_first s.here.line) → l ≡ []
  no_out i = absurd (nil_cons z l (sym (h.head_o i) ∙ e))

  broken_now : recv sd c z.kind ≡ dead → T (s.broken && still w)
  broken_now r =
      let f : T (fine (drain sd dead l)) = subst (λ (y : Dr). T (fine (drain sd y l))) r fine_now in
      dead_at sd s.broken w (subst (λ (y : Dr). T (sound sd s.broken y w)) (drained_dead sd l f)
      (subst (λ (y : Dr). T (sound sd s.broken (drain sd y l) w)) r con_now))

  -- the end is closed after an entry that leaves it dead
  dead_con : (q : Control) → recv sd c z.kind ≡ dead → T (is_closed q) → T (sound sd s.broken (front sd q l) w)
  dead_con q r i =
      let f : T (fine (drain sd dead l)) = subst (λ (y : Dr). T (fine (drain sd y l))) r fine_now in
      let v = broken_now r in
      subst (λ (y : Bool). T (sound sd y (front sd q l) w)) (sym (is_t s.broken (and_l s.broken _ v)))
      (rest_at sd (front sd q l) w (after_dead sd q l i f) (and_r s.broken _ v))

  dead_first : recv sd c z.kind ≡ dead → T (start_first l) → ⊥
  dead_first r i = no_second sd dead l (subst (λ (y : Dr). T (fine (drain sd y l))) r fine_now) i

  dead_flow : (q : Control) → recv sd c z.kind ≡ dead → T (is_closed q) → flow sd q l ≡ []
  dead_flow q r i = flow_dead sd q l i (subst (λ (y : Dr). T (fine (drain sd y l))) r fine_now)

  discard_keeps : deaf c z.kind ≡ true → Inv sd (off control s l)
  discard_keeps q =
      let r : recv sd c z.kind ≡ dead = rw q in
      let i = closed_is c (and_l (is_idle c) _ (T_is _ q)) h.wf_h in
      let b = and_l s.broken _ (broken_now r) in
      record {
        con = dead_con c r i;
        wf_h = h.wf_h;
        wf_t = h.wf_t;
        head_o = no_out;
        head_i = λ (y : T (start_first l)). absurd (dead_first r y);
        data_o = h.data_o;
        data_i = rw (dead_flow c r i) (rw (append-nil s.here.handed) at
            (lost_b s.broken s.here.handed [] (flow sd c s.there.line) s.there.taken b h.data_i));
      }

  loss_keeps : (q : Control) (keep : ℕ) → recv sd c z.kind ≡ dead → T (is_closed q) → Inv sd (quietly q keep)
  loss_keeps q keep r i =
      record {
        con = dead_con q r i;
        wf_h = closed_wf q i;
        wf_t = h.wf_t;
        head_o = no_out;
        head_i = λ (y : T (start_first l)). absurd (dead_first r y);
        data_o = h.data_o;
        data_i = rw (dead_flow q r i) (lost_b s.broken s.here.handed new (flow_d sd (recv sd c z.kind) l)
            s.there.taken (and_l s.broken _ (broken_now r)) data_now);
      }

  norm_keeps : (q : Control) (keep : ℕ) → recv sd c z.kind ≡ ok q → T (wf q) → Inv sd (quietly q keep)
  norm_keeps q keep r i =
      let f : T (fine (drain sd (ok q) l)) = subst (λ (y : Dr). T (fine (drain sd y l))) r fine_now in
      let d = subst (λ (y : Dr). Data s.broken s.here.handed (new ++ flow_d sd y l) s.there.taken) r data_now in
      record {
        con = rw (front_of sd q l f) (subst (λ (y : Dr). T (sound sd s.broken (drain sd y l) w)) r con_now);
        wf_h = i;
        wf_t = h.wf_t;
        head_o = no_out;
        head_i = λ (y : T (start_first l)). absurd (no_second sd (ok q) l f y);
        data_o = h.data_o;
        data_i =
            rw (flow_of sd q l f)
            (record {
              pre = rw (append_assoc s.here.handed new (flow_d sd (ok q) l)) d.pre;
              all = λ (y : s.broken ≡ false). append_assoc s.here.handed new (flow_d sd (ok q) l) ∙ d.all y;
            });
      }

  met_keeps : (keep : ℕ) → deaf c z.kind ≡ false → Inv sd (did control (off control s l) (receives sd s.here.rec z) keep)
  met_keeps keep q =
      let v = view_at sd c z.kind q (drain_fine sd (recv sd c z.kind) l fine_now) in
      let y = and_l (expects sd c z.kind) _ v in
      subst (λ (d : Did). Inv sd (did control (off control s l) (met s.here.rec d new) keep)) (sym (meets_is sd c z.kind y))
      (go y (and_r (expects sd c z.kind) _ v) (is_loss z.kind) refl)
    where
      go : T (expects sd c z.kind) → T (imp (is_loss z.kind) (is_closed (after c z.kind))) → (b : Bool)
          → is_loss z.kind ≡ b → Inv sd (quietly (after c z.kind) keep)
      go y v true i = loss_keeps (after c z.kind) keep (rw (q, i)) (imp_e _ _ v (T_is _ i))
      go y v false i = norm_keeps (after c z.kind) keep (rw (q, i, is_t (expects sd c z.kind) y)) (after_wf sd c z.kind y)

pub hand_over_keeps : (sd : Side) (s : Sys control) (keep : ℕ) (l : List Ent) → s.there.line ≡ l → Inv sd s
    → Inv sd (handed_over control sd s l keep)
hand_over_keeps sd s keep [] e h = h
hand_over_keeps sd s keep (z ∷ l) e h = go (deaf s.here.rec.ctl z.kind) refl
  where
    go : (b : Bool) → deaf s.here.rec.ctl z.kind ≡ b
        → Inv sd (cond b (off control s l) (did control (off control s l) (receives sd s.here.rec z) keep))
    go true q = discard_keeps sd s z l e h q
    go false q = met_keeps sd s z l e h keep q
