-- Request E9's pair statement: after every run of two ends that hold dialogue numbers, with old entries on the lines, the claims
-- hold by number. For any machine that has what NumberedNeeds asks, so for the control of both machines.
-- Assumes nothing.
use mathlib.Core.Path.{◌≡◌, refl, ap, sym, ◌∙◌, subst}
use mathlib.Core.Bool.{Bool, true, false, not, cond, ◌&&◌}
use mathlib.Core.List.{List, [], ◌∷◌, ◌++◌}
use Prim.Native.Nat.{ℕ, ◌<◌}
use lib.Dec.{T, eqb, le→leb}
use Rattle.pair.specs.Names.{Side, Air, Ground, Control, closed, is_idle}
use Rattle.pair.specs.Carrier.{Machine, Step, Turn}
use Rattle.pair.proofs.OneDialogue.{fresh}
use Rattle.pair.specs.Claims.{matching, rising}
use Rattle.pair.proofs.ControlMachine.{Ask, held, control}
use Rattle.pair.specs.Numbered.{NMachine, NSys, NClaims, Numbered, mark, starter, not_below, n_swap, n_fresh, n_stepped, n_turned, n_run}
use Rattle.pair.proofs.NumberedMachine.{numbered}
use Rattle.pair.proofs.Finite.{both, or_l}
use Rattle.pair.proofs.Jobs.{no_repeat}
use Rattle.pair.proofs.NoAbortAnswers.{HeadQuiet}
use Rattle.pair.proofs.NumberedLines.{yes, nay, self, differ, pick}
use Rattle.pair.proofs.NumberedNeeds.{Base, control_base}
use Rattle.pair.proofs.NumberedView.{seen_rec, Got}
use Rattle.pair.proofs.NumberedOrder.{Led}
use Rattle.pair.proofs.NumberedStepsKeep.{NInv, flip_inv, n_step_keeps, n_quiet, match_left, match_right}
use Rattle.pair.proofs.NumberedJobs.{Tallies, control_tallies, NBoth, n_run_jobs, n_fresh_jobs}

-- what is handed over next is not answered, at either end
abbrev pub NQuiet : (m : NMachine) → NSys m → Type 0
NQuiet m s = HeadQuiet m.at Air s.here.rec s.there.line × HeadQuiet m.at Ground s.there.rec s.here.line

module _ (m : Machine) (B : Base m) where
  turn_keeps : (from sd : Side) (s : NSys (numbered m)) (c : Step (Numbered m.A)) → NInv m B Air (starter from Air) s
      → NInv m B Air (starter from Air) (n_turned (numbered m) from sd s c)
  turn_keeps from Air s c h = n_step_keeps m B Air (starter from Air) s c h
  turn_keeps Air Ground s c h = flip_inv m B Ground false (n_stepped (numbered m) false Ground (n_swap (numbered m) s) c)
      (n_step_keeps m B Ground false (n_swap (numbered m) s) c (flip_inv m B Air true s h))
  turn_keeps Ground Ground s c h = flip_inv m B Ground true (n_stepped (numbered m) true Ground (n_swap (numbered m) s) c)
      (n_step_keeps m B Ground true (n_swap (numbered m) s) c (flip_inv m B Air false s h))

  pub n_run_keeps : (from : Side) (ts : List (Turn (Numbered m.A))) (s : NSys (numbered m))
      → NInv m B Air (starter from Air) s → NInv m B Air (starter from Air) (n_run (numbered m) from s ts)
  unfolding n_run
  n_run_keeps from [] s h = h
  n_run_keeps from (t ∷ ts) s h = n_run_keeps from ts (n_turned (numbered m) from t.side s t.step)
      (turn_keeps from t.side s t.step h)

  -- ---- at the beginning

  fresh_led : (from : Side) (r q : Numbered m.R) → not_below from r.no q.no → Led m (starter from Air) (n_fresh (numbered m) r q)
  fresh_led Air r q h = record { up = le→leb q.no r.no h; low = tt; new = λ (j : ℕ) (w : r.no < j). record { taken = refl; handed = refl; taken_t = refl; given_t = refl; whole = refl } }
  fresh_led Ground r q h = record { up = le→leb r.no q.no h; low = tt; new = λ (j : ℕ) (w : q.no < j). record { taken = refl; handed = refl; taken_t = refl; given_t = refl; whole = refl } }

  seen_closed : (j : ℕ) (r : Numbered m.R) → m.ctl r.it ≡ closed → m.ctl (seen_rec m B j r) ≡ closed
  seen_closed j r e = go (eqb r.no j)
    where
      go : (b : Bool) → m.ctl (cond b r.it B.none) ≡ closed
      go true = e
      go false = B.none_closed

  n_fresh_is : (from : Side) (r q : Numbered m.R) → m.ctl r.it ≡ closed → m.ctl q.it ≡ closed
      → not_below from r.no q.no → NInv m B Air (starter from Air) (n_fresh (numbered m) r q)
  n_fresh_is from r q a b h =
      record {
        led = fresh_led from r q h;
        all = λ (j : ℕ). record {
          sys = fresh m (seen_rec m B j r) (seen_rec m B j q);
          sim = record {
            near = refl;
            most = record { here = record { line = refl; taken = refl; handed = refl }; there = record { line = refl; taken = refl; handed = refl }; far = refl; broken = refl };
          };
          keeps = B.begin Air (seen_rec m B j r) (seen_rec m B j q) (seen_closed j r a) (seen_closed j q b);
        };
      }

  -- ---- what it says

  -- dialogue j with both lines empty
  pairs : (s : NSys (numbered m)) (j : ℕ) → Got m B Air j s → s.here.line ≡ [] → s.there.line ≡ []
      → T (matching (m.ctl (seen_rec m B j s.here.rec)) (m.ctl (seen_rec m B j s.there.rec)))
  pairs s j g p q =
      subst (λ (r : m.R). T (matching (m.ctl r) (m.ctl (seen_rec m B j s.there.rec)))) (sym g.sim.near)
      (subst (λ (r : m.R). T (matching (m.ctl g.sys.here.rec) (m.ctl r))) (sym g.sim.most.far)
      ((B.core g.sys g.keeps).ends_match (sym g.sim.most.here.line ∙ ap (pick m j) p)
      (sym g.sim.most.there.line ∙ ap (pick m j) q)))

  -- as dialogue j sees them
  seen_at : (s : NSys (numbered m)) → ((j : ℕ) → Got m B Air j s) → s.here.line ≡ [] → s.there.line ≡ []
      → (j : ℕ) (x y : m.R) → seen_rec m B j s.here.rec ≡ x → seen_rec m B j s.there.rec ≡ y
      → T (matching (m.ctl x) (m.ctl y))
  seen_at s h p q j x y e f = subst (λ (r : m.R). T (matching (m.ctl r) (m.ctl y))) e
      (subst (λ (r : m.R). T (matching (m.ctl (seen_rec m B j s.here.rec)) (m.ctl r))) f (pairs s j (h j) p q))

  -- both lines empty: the ends hold the same number, or both are IDLE
  pub same_number : (s : NSys (numbered m)) → ((j : ℕ) → Got m B Air j s) → s.here.line ≡ [] → s.there.line ≡ []
      → (s.here.rec.no ≡ s.there.rec.no → ⊥)
      → T (is_idle (m.ctl s.here.rec.it) && is_idle (m.ctl s.there.rec.it))
  same_number s h p q d =
      let n = s.here.rec.no in
      let k = s.there.rec.no in
      let e = nay (eqb n k) s.here.rec.it B.none (differ n k d) in
      let f = nay (eqb k n) s.there.rec.it B.none (differ k n (λ (x : k ≡ n). d (sym x))) in
      both (is_idle (m.ctl s.here.rec.it)) _
      (match_left (m.ctl s.here.rec.it) (subst (λ (c : Control). T (matching (m.ctl s.here.rec.it) c))
      B.none_closed (seen_at s h p q n s.here.rec.it B.none (yes (eqb n n) _ _ (self n)) f)))
      (match_right (m.ctl s.there.rec.it) (subst (λ (c : Control). T (matching c (m.ctl s.there.rec.it)))
      B.none_closed (seen_at s h p q k B.none s.there.rec.it e (yes (eqb k k) _ _ (self k)))))

  ends : (s : NSys (numbered m)) → ((j : ℕ) → Got m B Air j s) → s.here.line ≡ [] → s.there.line ≡ []
      → T (matching (m.ctl s.here.rec.it) (m.ctl s.there.rec.it))
  ends s h p q = go (eqb s.there.rec.no s.here.rec.no) refl
    where
      go : (c : Bool) → eqb s.there.rec.no s.here.rec.no ≡ c
          → T (matching (m.ctl s.here.rec.it) (m.ctl s.there.rec.it))
      go true f = seen_at s h p q s.here.rec.no s.here.rec.it s.there.rec.it
          (yes (eqb s.here.rec.no s.here.rec.no) _ _ (self s.here.rec.no))
          (yes (eqb s.there.rec.no s.here.rec.no) _ _ f)
      go false f =
          or_l (is_idle (m.ctl s.here.rec.it) && is_idle (m.ctl s.there.rec.it)) _
          (same_number s h p q (λ (x : s.here.rec.no ≡ s.there.rec.no). absurd (subst T
          (sym (self s.there.rec.no) ∙ subst (λ (i : ℕ). eqb s.there.rec.no i ≡ false) x f)
          tt)))

  n_holds : {f g : ℕ} (K : Tallies m) (s : NSys (numbered m)) → ((j : ℕ) → Got m B Air j s) → NBoth m K f g s → NClaims (numbered m) f g s
  n_holds K s h b =
      record {
        ends_match = ends s h;
        handed_in_order = λ (j : ℕ). let g = h j in rw (
          g.sim.most.there.handed,
          g.sim.most.here.taken,
          g.sim.most.here.handed,
          g.sim.most.there.taken,
        ) (B.core g.sys g.keeps).handed_in_order;
        handed_all = λ (j : ℕ) (p : s.here.line ≡ []) (q : s.there.line ≡ []) (e : s.broken j ≡ false).
            let g = h j in
            rw (g.sim.most.there.handed, g.sim.most.here.taken, g.sim.most.here.handed, g.sim.most.there.taken)
            ((B.core g.sys g.keeps).handed_all (sym g.sim.most.here.line ∙ ap (pick m j) p)
            (sym g.sim.most.there.line ∙ ap (pick m j) q) (sym g.sim.most.broken ∙ e));
        jobs_rise = (b.near.up, b.far.up);
      }

  -- from: the side that all starts come from; r, q: the records of the air and the ground end, IDLE
  pub numbered_holds : (K : Tallies m) (from : Side) (r q : Numbered m.R) → m.ctl r.it ≡ closed
      → m.ctl q.it ≡ closed → not_below from r.no q.no → (ts : List (Turn (Numbered m.A)))
      → NClaims (numbered m) (K.job r.it) (K.job q.it) (n_run (numbered m) from (n_fresh (numbered m) r q) ts)
  numbered_holds K from r q a b h ts = n_holds K (n_run (numbered m) from (n_fresh (numbered m) r q) ts)
      (n_run_keeps from ts (n_fresh (numbered m) r q) (n_fresh_is from r q a b h)).all
      (n_run_jobs m K from ts (n_fresh (numbered m) r q) (n_fresh_jobs m K r q))

  -- no end answers what the other sent by a D-ABORT: the oldest entry is discarded, stale, or has its action there
  pub numbered_quiet : (from : Side) (r q : Numbered m.R) → m.ctl r.it ≡ closed → m.ctl q.it ≡ closed
      → not_below from r.no q.no → (ts : List (Turn (Numbered m.A)))
      → NQuiet (numbered m) (n_run (numbered m) from (n_fresh (numbered m) r q) ts)
  numbered_quiet from r q a b h ts =
      let s = n_run (numbered m) from (n_fresh (numbered m) r q) ts in
      let v = n_run_keeps from ts (n_fresh (numbered m) r q) (n_fresh_is from r q a b h) in (
        n_quiet m B Air (starter from Air) s s.there.line refl v,
        n_quiet m B Ground (not (starter from Air))
            (n_swap (numbered m) s) s.here.line refl (flip_inv m B Air (starter from Air) s v),
      )

-- request E9 for the control of both machines: n, k the numbers and i, j the highest jobs at the beginning
pub control_numbered : (from : Side) (n k i j : ℕ) → not_below from n k → (ts : List (Turn (Numbered Ask)))
    → NClaims (numbered control) i j (n_run (numbered control) from (n_fresh (numbered control) (mark n (held closed i)) (mark k (held closed j))) ts)
control_numbered from n k i j h ts = numbered_holds control control_base control_tallies from (mark n (held closed i))
    (mark k (held closed j)) refl refl h ts

pub control_numbered_quiet : (from : Side) (n k i j : ℕ) → not_below from n k → (ts : List (Turn (Numbered Ask)))
    → NQuiet (numbered control) (n_run (numbered control) from (n_fresh (numbered control) (mark n (held closed i)) (mark k (held closed j))) ts)
control_numbered_quiet from n k i j h ts = numbered_quiet control control_base from (mark n (held closed i))
    (mark k (held closed j)) refl refl h ts

-- no job is taken twice at an end
pub n_taken_once : {f g : ℕ} (m : NMachine) (s : NSys m) → NClaims m f g s → (xs ys zs : List ℕ) (j : ℕ) → (s.here.jobs ≡ xs ++ (j ∷ (ys ++ (j ∷ zs))) → ⊥) × (s.there.jobs ≡ xs ++ (j ∷ (ys ++ (j ∷ zs))) → ⊥)
n_taken_once {f} {g} m s c xs ys zs j = (
  λ (e : s.here.jobs ≡ xs ++ (j ∷ (ys ++ (j ∷ zs)))). no_repeat f xs ys zs j (subst (λ (l : List ℕ). T (rising f l)) e c.jobs_rise.0),
  λ (e : s.there.jobs ≡ xs ++ (j ∷ (ys ++ (j ∷ zs)))). no_repeat g xs ys zs j
      (subst (λ (l : List ℕ). T (rising g l)) e c.jobs_rise.1),
)
