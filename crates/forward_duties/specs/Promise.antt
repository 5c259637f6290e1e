-- What is promised of two centres whose hosts keep their duties, after every move.
use Rattle.std.specs.Prelude.{ℕ, ◌+◌, ◌≤◌, ◌≡◌, true, cond, List, [], ◌∷◌, T, eqb}
use Rattle.pair.specs.Carrier.{idle}
use Rattle.pair.specs.Claims.{rising}
use Rattle.pair.specs.Numbered.{NMachine}
use Rattle.duties.specs.Memory.{is_decided, one, count, fates, says_ended, says_refused, Took, jobs_of}
use Rattle.forward_duties.specs.Desks.{Desks}

-- the numbers of the forwards that were sent, oldest first
abbrev pub numbers : List Took → List ℕ
numbers [] = []
numbers (t ∷ l) = t.no ∷ numbers l

-- how often the forward of job j was shown: seen n is how often the one of number n was
abbrev pub often : (ℕ → ℕ) → ℕ → List Took → ℕ
often seen j [] = 0
often seen j (t ∷ l) = cond (eqb t.job j) (seen t.no) 0 + often seen j l

pub record ForwardPromise (m : NMachine) (d : Desks m) : Type 0 where
  -- 1: a job's forward is shown at most once, over all restarts, however often the job is delivered
  pub at_most_once : (j : ℕ) → often d.both.there.seen j d.both.here.log ≤ 1
  -- each forward has a number of its own, and what is shown under a number was sent under it
  pub numbers_rise : T (rising 0 (numbers d.both.here.log))
  pub shown_sent : (n : ℕ) → 1 ≤ d.both.there.seen n → 1 ≤ count n (numbers d.both.here.log)
  -- 2: a job that was told as refused was never sent
  pub refused_unsent : (j : ℕ) → 1 ≤ says_refused j d.both.here.notes.notices → count j (jobs_of d.both.here.log) ≡ 0
  -- 3: one that was told "answered: success" was shown, once; one that was told another result was answered and not shown
  pub success_shown : (j : ℕ) → 1 ≤ says_ended j d.both.here.notes.notices → count j d.declined ≡ 0 → often d.both.there.seen j d.both.here.log ≡ 1
  pub declined_unshown : (j : ℕ) → 1 ≤ count j d.declined → often d.both.there.seen j d.both.here.log ≡ 0
  pub declined_answered : (j : ℕ) → count j d.declined ≤ says_ended j d.both.here.notes.notices
  -- 4: what was acknowledged was decided, on stable storage; and what was decided has one fate, or is open
  pub acknowledged_decided : (j : ℕ) → d.both.here.done j ≡ true → is_decided (d.both.here.kept.decision j) ≡ true
  pub one_fate : (j : ℕ) → fates j d.both.here.kept.notices + count j d.both.here.kept.opened ≡ one (is_decided (d.both.here.kept.decision j))
  -- 5: with nothing on its way both centres are IDLE (what is unsent is on the line of crate pair)
  pub both_idle : d.both.ends.here.line ≡ [] → d.both.ends.there.line ≡ [] → (idle m.at d.both.ends.here.rec ≡ true) × (idle m.at d.both.ends.there.rec ≡ true)
