-- A failure of the carrier keeps the invariant: both ends are closed and both lines empty.
-- Assumes nothing.
use mathlib.Core.Path.{◌≡◌, refl, ap, sym, ◌∙◌, subst}
use mathlib.Core.Bool.{Bool, true, false, not, cond, ◌&&◌}
use mathlib.Core.List.{List, [], append-nil}
use lib.Dec.{T}
use Rattle.pair.specs.Names.{Side, is_idle, closed, other, quiet, aborts}
use Rattle.pair.specs.Carrier.{Body}
use Rattle.pair.proofs.OneDialogue.{Party, Sys, swap, did, emptied, told_lost, failed}
use Rattle.pair.specs.Claims.{Prefix}
use Rattle.pair.proofs.ControlMachine.{met, control}
use Rattle.pair.proofs.Finite.{ok, T_is}
use Rattle.pair.proofs.Drain.{is_closed, wf}
use Rattle.pair.proofs.Tests.{rest_at}
use Rattle.pair.proofs.Flow.{pre_front, pre_trans}
use Rattle.pair.proofs.Invariant.{Data, start_first, Inv, closed_is, closed_wf}

-- ---- two closed ends with empty lines, the dialogue broken

ended : (gv tk : List Body) → Prefix gv tk → Data true gv [] tk
ended gv tk p = record { pre = rw (append-nil gv) p; all = λ (e : true ≡ false). absurd (subst T e tt) }

rest_keeps : (sd : Side) (s : Sys control) → s.broken ≡ true → s.here.line ≡ [] → s.there.line ≡ []
    → T (is_closed s.here.rec.ctl) → T (is_closed s.there.rec.ctl) → Prefix s.there.handed s.here.taken
    → Prefix s.here.handed s.there.taken → Inv sd s
rest_keeps sd s b p q i j x y =
    record {
      con = rw (b, p, q) (rest_at sd (ok s.here.rec.ctl) (ok s.there.rec.ctl) i j);
      wf_h = closed_wf s.here.rec.ctl i;
      wf_t = closed_wf s.there.rec.ctl j;
      head_o = λ (z : T (start_first s.here.line)). q;
      head_i = λ (z : T (start_first s.there.line)). p;
      data_o = rw (b, p) (ended s.there.handed s.here.taken x);
      data_i = rw (b, q) (ended s.here.handed s.there.taken y);
    }

-- ---- an end is told that the carrier failed

-- t is s with `here` closed
record Told (s t : Sys control) : Type 0 where
  closes : T (wf s.here.rec.ctl) → T (is_closed t.here.rec.ctl)
  line : t.here.line ≡ s.here.line
  taken : t.here.taken ≡ s.here.taken
  handed : t.here.handed ≡ s.here.handed
  there : t.there ≡ s.there
  broken : t.broken ≡ s.broken

told : (sd : Side) (s : Sys control) → Told s (told_lost control sd s)
told sd s = go (is_idle s.here.rec.ctl) refl
  where
    go : (b : Bool) → is_idle s.here.rec.ctl ≡ b
        → Told s (cond b s (did control s (met s.here.rec (cond (not (is_idle s.here.rec.ctl)) (quiet closed) (cond (is_idle s.here.rec.ctl && true) (quiet closed) (aborts closed))) []) 0))
    go true e = record { closes = λ (w : T (wf s.here.rec.ctl)). closed_is s.here.rec.ctl (T_is _ e) w; line = refl; taken = refl; handed = refl; there = refl; broken = refl }
    go false e =
        subst (λ (b : Bool). Told s (did control s (met s.here.rec
        (cond (not b) (quiet closed) (cond (b && true) (quiet closed) (aborts closed))) []) 0)) (sym e)
        (record { closes = λ (w : T (wf s.here.rec.ctl)). tt; line = refl; taken = refl; handed = append-nil s.here.handed; there = refl; broken = refl })

module _ (sd : Side) (s : Sys control) (h : Inv sd s) where
  abbrev x : Sys control
  x = told_lost control sd (emptied control s)

  one : Told (emptied control s) x
  one = told sd (emptied control s)

  two : Told (swap control x) (told_lost control (other sd) (swap control x))
  two = told (other sd) (swap control x)

  pub fail_keeps : Inv sd (failed control sd s)
  fail_keeps =
      rest_keeps sd (failed control sd s) (two.broken ∙ one.broken)
      (ap (λ (p : Party control). p.line) two.there ∙ one.line) (two.line ∙ ap (λ (p : Party control). p.line) one.there)
      (subst (λ (p : Party control). T (is_closed p.rec.ctl)) (sym two.there) (one.closes h.wf_h))
      (two.closes (subst (λ (p : Party control). T (wf p.rec.ctl)) (sym one.there) h.wf_t))
      (rw (
        two.handed,
        ap (λ (p : Party control). p.handed) one.there,
        ap (λ (p : Party control). p.taken)
            two.there,
        one.taken,
      ) (pre_trans _ _ _ (pre_front _ _) h.data_o.pre))
      (rw (
        ap (λ (p : Party control). p.handed) two.there,
        one.handed,
        two.taken,
        ap
            (λ (p : Party control). p.taken) one.there,
      ) (pre_trans _ _ _ (pre_front _ _) h.data_i.pre))
