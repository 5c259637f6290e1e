-- Turning away an undelivered start keeps the invariant: the start is alone on its line, and the other end never saw it.
-- Assumes nothing.
use mathlib.Core.Path.{◌≡◌, refl, ap, sym, subst}
use mathlib.Core.Bool.{Bool, true, false, not, cond, ◌&&◌, ◌||◌}
use mathlib.Core.List.{List, [], ◌∷◌, ◌++◌, append-nil}
use Prim.Native.Nat.{ℕ}
use lib.Dec.{T}
use Rattle.pair.specs.Names.{Side, StartReq, Control, DTurnedAway, is, closed, other, expects, Did}
use Rattle.pair.specs.Carrier.{Body}
use Rattle.pair.proofs.OneDialogue.{Sys, did, with_line, has_start, without_start, may_turn_away, recalled, turned_away}
use Rattle.pair.proofs.ControlMachine.{Ent, ent, handed, met, receives, control}
use Rattle.pair.proofs.Finite.{Dr, ok, and_l, and_r, no_T, T_is}
use Rattle.pair.proofs.Drain.{is_start, recv, later, drain, front, is_closed, fine, sound, drain_fine, sound_right, later_start_is}
use Rattle.pair.proofs.Tests.{is_ind, ind_at, taken_at, turn_at, fresh_at, apart_at}
use Rattle.pair.proofs.Flow.{flow}
use Rattle.pair.proofs.Invariant.{Data, start_first, Inv, closed_is}
use Rattle.pair.proofs.HandOver.{meets_is}

-- a start can only be the first entry of a line
start_is_first : (sd : Side) (x : Dr) (l : List Ent) → T (fine (drain sd x l)) → T (has_start control l) → ⊥
start_is_first sd x [] f i = i
start_is_first sd x (z ∷ l) f i =
    start_is_first sd (later sd x z.kind) l f (subst (λ (b : Bool). T (b || has_start control l))
    (later_start_is sd x z.kind (drain_fine sd (later sd x z.kind) l f)) i)

never_ind : (sd : Side) (x : Dr) (l : List Ent) → is_ind x ≡ false → is_ind (drain sd x l) ≡ false
never_ind sd x [] e = e
never_ind sd x (z ∷ l) e = never_ind sd (later sd x z.kind) l (ind_at sd x z.kind)

only_start : (sd : Side) (x : Dr) (l : List Ent) → T (is_ind (drain sd x l)) → l ≡ []
only_start sd x [] t = refl
only_start sd x (z ∷ l) t = absurd (subst T (never_ind sd (later sd x z.kind) l (ind_at sd x z.kind)) t)

alone : (sd : Side) (g : Control) (b : Bool) (gv tk : List Body) (z : Ent) (l : List Ent) → T (is_start z.kind)
    → l ≡ [] → Data b gv (flow sd g (z ∷ l)) tk → Data b gv [] tk
alone sd g b gv tk z l i o d =
    let k : flow sd g (z ∷ []) ≡ [] = ap (λ (x : Bool). handed (x && expects sd g z.kind) z.body ++ []) (apart_at z.kind i) in
    subst (λ (y : List Body). Data b gv y tk) k (subst (λ (m : List Ent). Data b gv (flow sd g (z ∷ m)) tk) o d)

-- the system with the line l leaving `here`
abbrev on : Sys control → List Ent → Sys control
on s l = record { here = with_line control s.here l; there = s.there; broken = s.broken }

module _ (sd : Side) (s : Sys control) (keep : ℕ) (h : Inv sd s) (r : T (is s.here.rec.ctl.state StartReq)) where
  abbrev od : Side
  od = other sd

  abbrev c : Control
  c = s.here.rec.ctl

  abbrev g : Control
  g = s.there.rec.ctl

  away : (z : Ent) (l : List Ent) → s.here.line ≡ z ∷ l → T (is_start z.kind)
      → Inv sd (did control (on s l) (receives sd s.here.rec (ent DTurnedAway [])) keep)
  away z l e i =
      let w : Dr = drain od (recv od g z.kind) l in
      let n : s.there.line ≡ [] = h.head_o (subst (λ (k : List Ent). T (start_first k)) (sym e) i) in
      let q : T (sound sd s.broken (ok c) w) =
      subst (λ (k : List Ent). T (sound sd s.broken (front sd c k) w)) n
      (subst (λ (k : List Ent). T (sound sd s.broken (front sd c s.there.line) (front od g k))) e h.con) in
      let v = turn_at sd s.broken c w q r in
      let u = and_r (not s.broken) _ v in
      let b : s.broken ≡ false = no_T s.broken (and_l (not s.broken) _ v) in
      let o : l ≡ [] = only_start od (recv od g z.kind) l (and_l (is_ind w) _ u) in
      let x : T (expects sd c DTurnedAway) = and_r (is_ind w) _ u in
      let f = drain_fine od (recv od g z.kind) l (sound_right sd s.broken (ok c) w q) in
      let i' : T (is_closed g) = closed_is g (taken_at od g z.kind i f) h.wf_t in
      let d : Data s.broken s.there.handed [] s.here.taken =
      alone od g s.broken s.there.handed s.here.taken z l i o
      (subst (λ (k : List Ent). Data s.broken s.there.handed (flow od g k) s.here.taken) e h.data_o)
      in
      subst (λ (y : Did). Inv sd (did control (on s l) (met s.here.rec y []) keep)) (sym (meets_is sd c DTurnedAway x))
      (record {
        con = rw (n, o, b) (fresh_at sd closed g tt i');
        wf_h = tt;
        wf_t = h.wf_t;
        head_o = λ (y : T (start_first l)). n;
        head_i = λ (y : T (start_first s.there.line)). o;
        data_o = rw o d;
        data_i = rw (append-nil s.here.handed, n)
            (subst (λ (k : List Ent). Data s.broken s.here.handed (flow sd c k) s.there.taken) n h.data_i);
      })

  away_any : (l : List Ent) → s.here.line ≡ l → T (has_start control l)
      → Inv sd (did control (on s (without_start control l)) (receives sd s.here.rec (ent DTurnedAway [])) keep)
  away_any [] e i = absurd i
  away_any (z ∷ l) e i = go (is_start z.kind) refl
    where
      f : T (fine (drain od (recv od g z.kind) l))
      f = subst (λ (k : List Ent). T (fine (front od g k))) e
          (sound_right sd s.broken (front sd c s.there.line) (front od g s.here.line) h.con)

      go : (b : Bool) → is_start z.kind ≡ b
          → Inv sd (did control (on s (cond b l (z ∷ without_start control l))) (receives sd s.here.rec (ent DTurnedAway [])) keep)
      go true q = away z l e (T_is _ q)
      go false q = absurd (start_is_first od (recv od g z.kind) l f (subst (λ (b : Bool). T (b || has_start control l)) q i))

pub turn_away_keeps : (sd : Side) (s : Sys control) (keep : ℕ) → Inv sd s → Inv sd (turned_away control sd s keep)
turn_away_keeps sd s keep h = go (may_turn_away control s) refl
  where
    go : (b : Bool) → may_turn_away control s ≡ b
        → Inv sd (cond b (did control (recalled control s) (receives sd s.here.rec (ent DTurnedAway [])) keep) s)
    go false q = h
    go true q = away_any sd s keep h
        (and_l (is s.here.rec.ctl.state StartReq) (has_start control s.here.line) (T_is _ q)) s.here.line
        refl (and_r (is s.here.rec.ctl.state StartReq) (has_start control s.here.line) (T_is _ q))
