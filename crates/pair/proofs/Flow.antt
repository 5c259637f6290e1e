-- What a line will still hand out, and how a call of the end that reads it changes that.
-- Assumes nothing.
use mathlib.Core.Path.{◌≡◌, refl, ap, sym, ◌∙◌, subst}
use mathlib.Core.Bool.{Bool, true, false, not, ◌||◌}
use mathlib.Core.List.{List, [], ◌∷◌, ◌++◌, append-nil, append_assoc}
use lib.Dec.{T}
use Rattle.pair.specs.Names.{Side, Control, Primitive, Call, other, takes, goes, sends}
use Rattle.pair.specs.Carrier.{Body}
use Rattle.pair.specs.Claims.{Prefix}
use Rattle.pair.proofs.ControlMachine.{Ent, handed}
use Rattle.pair.proofs.Finite.{Dr, ok, dead, bad, and_l, and_r, is_t}
use Rattle.pair.proofs.Drain.{is_start, calm, cuts, mild, recv, later, drain, front, still, fine, matched, drain_fine, later_ok}
use Rattle.pair.proofs.Tests.{commutes, gives, over, first_nil, first_at, closed_at, abort_at, head_at, alike_at, over_gives, over_later}

-- ---- prefixes

pub pre_nil : (ys : List Body) → Prefix [] ys
pre_nil ys = record { rest = ys; joined = refl }

pub pre_refl : (ys : List Body) → Prefix ys ys
pre_refl ys = record { rest = []; joined = append-nil ys }

pub pre_cons : (ws xs ys : List Body) → Prefix xs ys → Prefix (ws ++ xs) (ws ++ ys)
pre_cons ws xs ys p = record { rest = p.rest; joined = append_assoc ws xs p.rest ∙ ap (λ (l : List Body). ws ++ l) p.joined }

pub pre_trans : (xs ys zs : List Body) → Prefix xs ys → Prefix ys zs → Prefix xs zs
pre_trans xs ys zs p q = record { rest = p.rest ++ q.rest; joined = sym (append_assoc xs p.rest q.rest) ∙ ap (λ (l : List Body). l ++ q.rest) p.joined ∙ q.joined }

pub pre_front : (xs ws : List Body) → Prefix xs (xs ++ ws)
pre_front xs ws = record { rest = ws; joined = refl }

pub pre_more : (xs ys ws : List Body) → Prefix xs ys → Prefix xs (ys ++ ws)
pre_more xs ys ws p = pre_trans xs ys (ys ++ ws) p (pre_front ys ws)

-- ---- what a line will hand out

abbrev pub got : Side → Dr → Ent → List Body
got sd x e = handed (gives sd x e.kind) e.body

abbrev pub flow_d : Side → Dr → List Ent → List Body
flow_d sd x [] = []
flow_d sd x (e ∷ l) = got sd x e ++ flow_d sd (later sd x e.kind) l

abbrev pub flow : Side → Control → List Ent → List Body
flow sd c [] = []
flow sd c (e ∷ l) = got sd (ok c) e ++ flow_d sd (recv sd c e.kind) l

flow_d_snoc : (sd : Side) (x : Dr) (l : List Ent) (e : Ent) → flow_d sd x (l ++ (e ∷ [])) ≡ flow_d sd x l ++ got sd (drain sd x l) e
flow_d_snoc sd x [] e = append-nil (got sd x e)
flow_d_snoc sd x (z ∷ l) e = ap (λ (k : List Body). got sd x z ++ k) (flow_d_snoc sd (later sd x z.kind) l e) ∙ sym
    (append_assoc (got sd x z) _ _)

pub flow_snoc : (sd : Side) (c : Control) (l : List Ent) (e : Ent) → flow sd c (l ++ (e ∷ [])) ≡ flow sd c l ++ got sd (front sd c l) e
flow_snoc sd c [] e = append-nil (got sd (ok c) e)
flow_snoc sd c (z ∷ l) e = ap (λ (k : List Body). got sd (ok c) z ++ k) (flow_d_snoc sd (recv sd c z.kind) l e) ∙ sym
    (append_assoc (got sd (ok c) z) _ _)

-- a closed end hands out nothing
pub over_flow : (sd : Side) (x : Dr) (l : List Ent) → T (over x) → flow_d sd x l ≡ []
over_flow sd x [] t = refl
over_flow sd x (e ∷ l) t = ap (λ (b : Bool). handed b e.body ++ flow_d sd (later sd x e.kind) l)
    (over_gives sd x t e.kind) ∙ over_flow sd (later sd x e.kind) l (over_later sd x t e.kind)

pub still_over : (x : Dr) → T (still x) → T (over x)
still_over bad t = tt
still_over dead t = tt
still_over (ok c) t = subst (λ (b : Bool). T (b || false)) (sym (is_t (still (ok c)) t)) tt

-- ---- a call of the end that reads the line

pub along : (sd : Side) (u : Call) → T (calm u) → (x y : Dr) (l : List Ent) → T (commutes sd u x y)
    → T (commutes sd u (drain sd x l) (drain sd y l))
along sd u n x y [] p = p
along sd u n x y (z ∷ l) p = along sd u n (later sd x z.kind) (later sd y z.kind) l (closed_at sd u n x y p z.kind)

pub ahead : (sd : Side) (u : Call) (c : Control) → T (takes sd c u) → T (calm u) → (l : List Ent)
    → T (commutes sd u (front sd c l) (front sd (goes c u) l))
ahead sd u c t n [] = first_nil sd u c t n
ahead sd u c t n (z ∷ l) = along sd u n (recv sd c z.kind) (recv sd (goes c u) z.kind) l (first_at sd u c t n z.kind)

kept : (sd : Side) (u : Call) → T (calm u) → T (mild u) → (x y : Dr) (l : List Ent) → T (commutes sd u x y)
    → T (fine (drain sd x l)) → flow_d sd x l ≡ flow_d sd y l
kept sd u n m x y [] p w = refl
kept sd u n m x y (z ∷ l) p w =
    ap (λ (b : Bool). handed b z.body ++ flow_d sd (later sd x z.kind) l)
    (alike_at sd u n m x y p z.kind (drain_fine sd (later sd x z.kind) l w))
    ∙ ap (λ (k : List Body). got sd y z ++ k)
    (kept sd u n m (later sd x z.kind) (later sd y z.kind) l (closed_at sd u n x y p z.kind) w)

-- who may call is not about to be handed a start
pub no_start : (sd : Side) (u : Call) (c : Control) → T (takes sd c u) → T (calm u) → (z : Primitive)
    → T (fine (recv sd c z)) → T (not (is_start z))
no_start sd u c t n z w = go (is_start z) refl
  where
    go : (b : Bool) → is_start z ≡ b → T (not (is_start z))
    go false e = subst (λ (b : Bool). T (not b)) (sym e) tt
    go true e = absurd (subst T (head_at sd u c t n z (subst T (sym e) tt)) w)

pub kept_front : (sd : Side) (u : Call) (c : Control) → T (takes sd c u) → T (calm u) → T (mild u) → (l : List Ent)
    → T (fine (front sd c l)) → flow sd c l ≡ flow sd (goes c u) l
kept_front sd u c t n m [] w = refl
kept_front sd u c t n m (z ∷ l) w =
    let f = drain_fine sd (recv sd c z.kind) l w in
    let g = subst (λ (x : Dr). T (fine x)) (later_ok sd c z.kind (no_start sd u c t n z.kind f)) f in
    ap (λ (b : Bool). handed b z.body ++ flow_d sd (recv sd c z.kind) l)
    (alike_at sd u n m (ok c) (ok (goes c u)) (first_nil sd u c t n) z.kind g)
    ∙ ap (λ (k : List Body). got sd (ok (goes c u)) z ++ k)
    (kept sd u n m (recv sd c z.kind) (recv sd (goes c u) z.kind) l (first_at sd u c t n z.kind) w)

-- an abort: nothing more is handed out
stills : (sd : Side) (u : Call) → T (cuts u) → (x y : Dr) → T (commutes sd u x y) → T (fine x) → T (over y)
stills sd u k x y p f =
    let q = abort_at sd u k x y dead p f tt in
    still_over y (and_l (still y) _ (and_r (matched sd y (later (other sd) dead (sends u))) _ q))

pub cut_front : (sd : Side) (u : Call) (c : Control) → T (takes sd c u) → T (calm u) → T (cuts u) → (l : List Ent)
    → T (fine (front sd c l)) → flow sd (goes c u) l ≡ []
cut_front sd u c t n k [] w = refl
cut_front sd u c t n k (z ∷ l) w =
    let f = drain_fine sd (recv sd c z.kind) l w in
    ap (λ (b : Bool). handed b z.body ++ flow_d sd (recv sd (goes c u) z.kind) l)
    (over_gives sd (ok (goes c u)) (stills sd u k (ok c) (ok (goes c u)) (first_nil sd u c t n) tt) z.kind)
    ∙ over_flow sd (recv sd (goes c u) z.kind) l
    (stills sd u k (recv sd c z.kind) (recv sd (goes c u) z.kind) (first_at sd u c t n z.kind) f)
