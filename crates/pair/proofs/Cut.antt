-- The line of an end that invoked D-ABORT: whatever was lost before it, the other end will be closed by it, and hands out
-- the beginning of what it would have handed out.
-- Assumes nothing.
use mathlib.Core.Path.{sym, subst}
use mathlib.Core.Bool.{true, not}
use mathlib.Core.List.{List, [], ◌∷◌, ◌++◌, append-nil}
use lib.Dec.{T}
use Rattle.pair.specs.Names.{Side, Control, Call, other, sends}
use Rattle.pair.specs.Carrier.{Body}
use Rattle.pair.specs.Claims.{Prefix}
use Rattle.pair.proofs.ControlMachine.{Ent, ent}
use Rattle.pair.proofs.Finite.{Dr, ok, no_T}
use Rattle.pair.proofs.Drain.{is_start, calm, cuts, says, recv, later, drain, front, fine, sound, front_snoc, drain_fine}
use Rattle.pair.proofs.Tests.{commutes, abort_at, calm_at, none_at}
use Rattle.pair.proofs.Flow.{got, flow_d, flow, pre_nil, pre_cons, flow_snoc}
use Rattle.pair.proofs.Invariant.{start_first}
use Rattle.pair.proofs.Lines.{Left}

-- ---- the beginning of a line

drain_begin : (sd : Side) (x : Dr) (l k : List Ent) → T (fine (drain sd x (l ++ k))) → T (fine (drain sd x l))
drain_begin sd x [] k t = drain_fine sd x k t
drain_begin sd x (e ∷ l) k t = drain_begin sd (later sd x e.kind) l k t

front_begin : (sd : Side) (c : Control) (l k : List Ent) → T (fine (front sd c (l ++ k))) → T (fine (front sd c l))
front_begin sd c [] k t = tt
front_begin sd c (e ∷ l) k t = drain_begin sd (recv sd c e.kind) l k t

flow_d_begin : (sd : Side) (x : Dr) (l k : List Ent) → Prefix (flow_d sd x l) (flow_d sd x (l ++ k))
flow_d_begin sd x [] k = pre_nil _
flow_d_begin sd x (e ∷ l) k = pre_cons (got sd x e) _ _ (flow_d_begin sd (later sd x e.kind) l k)

flow_begin : (sd : Side) (c : Control) (l k : List Ent) → Prefix (flow sd c l) (flow sd c (l ++ k))
flow_begin sd c [] k = pre_nil _
flow_begin sd c (e ∷ l) k = pre_cons (got sd (ok c) e) _ _ (flow_d_begin sd (recv sd c e.kind) l k)

first_begin : (l k : List Ent) → T (start_first l) → T (start_first (l ++ k))
first_begin [] k t = absurd t
first_begin (z ∷ l) k t = t

pub first_snoc : (l : List Ent) (e : Ent) → T (not (is_start e.kind)) → T (start_first (l ++ (e ∷ []))) → T (start_first l)
first_snoc [] e n t = absurd (subst T (no_T (is_start e.kind) n) t)
first_snoc (z ∷ l) e n t = t

-- ---- what an abort leaves of it

module _ (u : Call) (b : Body) (l k : List Ent) (h : Left l (ent (sends u) b) k) where
  abbrev e : Ent
  e = ent (sends u) b

  pub cut_closes : (sd : Side) (x y : Dr) (g : Control) → T (calm u) → T (cuts u) → T (commutes sd u x y) → T (fine x)
      → T (fine (front (other sd) g l)) → T (sound sd true y (front (other sd) g k))
  cut_closes sd x y g n c p f w =
      rw (h.is, front_snoc (other sd) g h.kept e (calm_at u n))
      (abort_at sd u c x y (front (other sd) g h.kept) p f (front_begin (other sd) g h.kept h.lost
      (subst (λ (z : List Ent). T (fine (front (other sd) g z))) (sym h.whole) w)))

  pub cut_hands_beginning : (sd : Side) (g : Control) → T (not (says u)) → Prefix (flow sd g k) (flow sd g l)
  cut_hands_beginning sd g i =
      rw (h.is, flow_snoc sd g h.kept e, none_at sd u i (front sd g h.kept), append-nil (flow sd g h.kept))
      (subst (λ (z : List Ent). Prefix (flow sd g h.kept) (flow sd g z)) h.whole (flow_begin sd g h.kept h.lost))

  pub cut_first : T (calm u) → T (start_first k) → T (start_first l)
  cut_first n t =
      subst (λ (z : List Ent). T (start_first z)) h.whole
      (first_begin h.kept h.lost (first_snoc h.kept e (calm_at u n) (subst (λ (z : List Ent). T (start_first z)) h.is t)))
