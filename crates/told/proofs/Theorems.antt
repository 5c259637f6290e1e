-- "Told once": what holds of the history of every sequence of events from a fresh record (document 02, E12).
-- Assumes nothing.
use mathlib.Core.Path.{◌≡◌, refl, ap}
use mathlib.Core.Bool.{false}
use mathlib.Core.List.{List, [], ◌∷◌}
use native.Mathlib.Omega.{arith}
use Rattle.control.specs.declared.Side.{Side}
use Rattle.machine.specs.Record.{fresh_record}
use Rattle.machine.specs.Outcome.{is_none}
use Rattle.machine.specs.declared.record.Configuration.{Configuration}
use Rattle.machine.specs.declared.record.Record.{Record}
use Rattle.machine.specs.declared.outcome.Outcome.{Outcome}
use Rattle.clauses.proofs.Laws.{fresh_formed}
use Rattle.told.specs.Histories.{NumberedEvent, End, end, fresh, entry, outcome_of, next, history, reaches, one, activations, closings, ToldOnce}
use Rattle.told.proofs.Chains.{Chain, refused_uncounted, chain_told_once}
use Rattle.told.proofs.Single.{Runs, event_law, event_runs, numbered_refused}

-- ---- the theorem

chained : (sd : Side) (bs : List NumberedEvent) (h : End) → Runs sd h.dialogue
    → Chain sd h.dialogue.active (history sd h bs) (reaches sd h bs).dialogue.active
unfolding history reaches
chained sd [] h f = refl
chained sd (b ∷ bs) h f = record { after = (next sd h b).dialogue.active; law = event_law sd h b f; rest = chained sd bs (next sd h b) (event_runs sd h b f) }

-- a fresh record is one of a run
pub fresh_runs : (sd : Side) (g : Configuration) → Runs sd (fresh_record g)
fresh_runs sd g = record { formed = fresh_formed g; ground = λ a. refl }

pub told_once : (sd : Side) (g : Configuration) (bs : List NumberedEvent)
    → ToldOnce sd (reaches sd (fresh g) bs).dialogue.active (history sd (fresh g) bs)
told_once sd g bs = chain_told_once sd (reaches sd (fresh g) bs).dialogue.active (history sd (fresh g) bs)
    (chained sd bs (fresh g) (fresh_runs sd g))

-- ---- "Refused events count as nothing": they change neither the record nor its number, and the history without them counts the same

kept : (sd : Side) (h : End) (b : NumberedEvent) → is_none (outcome_of sd h b).refusal ≡ false → (outcome_of sd h b).next ≡ h.dialogue
kept sd h b n = ap (λ (o : Outcome). o.next) (numbered_refused sd h.dialogue h.number b.event b.number n)

pub refused_leaves : (sd : Side) (h : End) (b : NumberedEvent) → is_none (outcome_of sd h b).refusal ≡ false → next sd h b ≡ h
refused_leaves sd h b n = rw n (ap (λ (r : Record). end r h.number) (kept sd h b n))

-- an event that is refused may be left out of a sequence, anywhere
pub left_out : (sd : Side) (b : NumberedEvent) (cs : List NumberedEvent) (h : End) → is_none (outcome_of sd h b).refusal ≡ false
    → (reaches sd h (b ∷ cs) ≡ reaches sd h cs) ×
    (activations sd (history sd h (b ∷ cs)) ≡ activations sd (history sd h cs)) ×
    (closings sd (history sd h (b ∷ cs)) ≡ closings sd (history sd h cs))
unfolding reaches history activations closings
left_out sd b cs h n =
    let k = refused_leaves sd h b n in
    let u = refused_uncounted sd (entry b.event (outcome_of sd h b)) n in (
      ap (λ (q : End). reaches sd q cs) k,
      omega (arith, ap one u.0, ap (λ (q : End). activations sd (history sd q cs)) k),
      omega (arith, ap one u.1, ap (λ (q : End). closings sd (history sd q cs)) k),
    )
