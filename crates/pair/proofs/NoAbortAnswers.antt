-- On a run no entry that is handed over is answered by a D-ABORT: provider aborts come from an expiry and a system error only.
-- Assumes nothing.
use mathlib.Core.Path.{◌≡◌, ap, sym, ◌∙◌, subst}
use mathlib.Core.Bool.{Bool, false, not, ◌&&◌, ◌||◌}
use mathlib.Core.List.{List, [], ◌∷◌}
use Prim.Native.Nat.{ℕ}
use lib.Dec.{T}
use Rattle.pair.specs.Names.{Side, Air, Ground, Control, Did, is_idle, closed, other, expects, hands}
use Rattle.pair.specs.Carrier.{nothing, puts, message, Outcome, refused, acts, Sort, begins?, Machine, Turn, discards}
use Rattle.pair.proofs.OneDialogue.{Sys, fresh, run}
use Rattle.pair.proofs.ControlMachine.{Held, held, Ent, Ask, handed, met, control, both_idle}
use Rattle.pair.proofs.Drain.{deaf}
use Rattle.pair.proofs.HandOver.{meets_is}
use Rattle.pair.proofs.Pair.{head_fits, none_unexpected}
use Rattle.pair.proofs.Lines.{LL}
use Rattle.pair.proofs.Agree.{OutRel, Agree}
use Rattle.pair.proofs.Simulate.{SysRel}
use Rattle.pair.proofs.EveryMachine.{followed}

-- nothing is sent
abbrev pub Quiet : {R E : Type 0} → Outcome R E → Type 0
Quiet refused = Unit {0}
Quiet (acts r l nothing) = Unit {0}
Quiet (acts r l (puts e)) = ⊥
Quiet (acts r l (message e b j)) = ⊥

-- the oldest entry of a line, unless an IDLE end discards it, is received without an answer
abbrev pub HeadQuiet : (m : Machine) → Side → m.R → List m.E → Type 0
HeadQuiet m sd r [] = Unit {0}
HeadQuiet m sd r (e ∷ l) = discards m r e ≡ false → Quiet (m.receive sd r e)

-- at either end
abbrev pub BothQuiet : (m : Machine) → Sys m → Type 0
BothQuiet m s = HeadQuiet m Air s.here.rec s.there.line × HeadQuiet m Ground s.there.rec s.here.line

pub control_quiet : (sd : Side) (q : Held) (l : List Ent) → T (head_fits sd q.ctl l) → HeadQuiet control sd q l
control_quiet sd q [] t = tt
control_quiet sd q (e ∷ l) t = λ (d : deaf q.ctl e.kind ≡ false).
    subst (λ (x : Did). Quiet (met q x (handed (hands sd q.ctl e.kind) e.body)))
    (sym (meets_is sd q.ctl e.kind (subst (λ (b : Bool). T (b || expects sd q.ctl e.kind)) d t))) tt

module _ (m n : Machine) (g : Agree m n) where
  same_quiet : (sd : Side) (o : Outcome m.R m.E) (z : Outcome n.R n.E) → OutRel (g.RR sd) (g.EE sd) o z → Quiet z → Quiet o
  same_quiet sd refused z x y = tt
  same_quiet sd (acts r l nothing) z x y = tt
  same_quiet sd (acts r l (puts e)) refused x y = x
  same_quiet sd (acts r l (puts e)) (acts q k nothing) x y = x.2
  same_quiet sd (acts r l (puts e)) (acts q k (puts f)) x y = y
  same_quiet sd (acts r l (puts e)) (acts q k (message f c j)) x y = y
  same_quiet sd (acts r l (message e b i)) refused x y = x
  same_quiet sd (acts r l (message e b i)) (acts q k nothing) x y = x.2
  same_quiet sd (acts r l (message e b i)) (acts q k (puts f)) x y = y
  same_quiet sd (acts r l (message e b i)) (acts q k (message f c j)) x y = y

  pub head_quiet : (sd : Side) (r : m.R) (q : n.R) (l : List m.E) (k : List n.E) → g.RR sd r q
      → LL (g.EE (other sd)) l k → HeadQuiet n sd q k → HeadQuiet m sd r l
  head_quiet sd r q [] k x y h = tt
  head_quiet sd r q (e ∷ l) [] x y h = absurd y
  head_quiet sd r q (e ∷ l) (f ∷ k) x y h = λ (d : discards m r e ≡ false).
      same_quiet sd (m.receive sd r e) (n.receive sd q f) (g.receive_is sd r q e f x y.0)
      (h (ap (λ (c : Control). is_idle c && not (begins? (n.sort f))) (sym (g.ctl_is sd r q x)) ∙ ap
      (λ (so : Sort). is_idle (m.ctl r) && not (begins? so)) (sym (g.sort_is (other sd) e f y.0)) ∙ d))

  -- where the second answers nothing that is handed over, the first does not
  pub quiet_through : (s : Sys m) (t : Sys n) → SysRel m n g Air s t → BothQuiet n t → BothQuiet m s
  quiet_through s t h f = (
    head_quiet Air s.here.rec t.here.rec s.there.line t.there.line h.here.rec h.there.line f.0,
    head_quiet Ground s.there.rec t.there.rec s.here.line t.here.line h.there.rec h.here.line f.1,
  )

control_both : (i j : ℕ) (ts : List (Turn Ask)) → BothQuiet control (run control (both_idle i j) ts)
control_both i j ts =
    let t = run control (both_idle i j) ts in
    let f = none_unexpected i j ts in
    (control_quiet Air t.here.rec t.there.line f.0, control_quiet Ground t.there.rec t.here.line f.1)

-- after every run
pub none_answered : (m : Machine) (g : Agree m control) (i j : ℕ) (r q : m.R) → g.RR Air r (held closed i)
    → g.RR Ground q (held closed j) → (ts : List (Turn m.A)) → BothQuiet m (run m (fresh m r q) ts)
none_answered m g i j r q near far ts =
    let v = followed m control g r q (held closed i) (held closed j) near far ts in
    quiet_through m control g (run m (fresh m r q) ts) (run control (both_idle i j) v.turns) v.rel (control_both i j v.turns)
