-- A recorded day whose every move lands on the pages that the program holds is a run of two hosts that keep their duties: the promise holds of its last pages.
-- Assumes nothing.
use mathlib.Core.Path.{◌≡◌, ap, ◌∙◌, subst}
use mathlib.Core.Bool.{false}
use mathlib.Core.List.{List, [], ◌∷◌}
use Prim.Native.Nat.{ℕ}
use Rattle.pair.specs.Names.{Side, Air, Ground, closed}
use Rattle.pair.specs.Carrier.{Body}
use Rattle.pair.specs.Numbered.{Numbered, not_below}
use Rattle.pair.proofs.ControlMachine.{Held, Ask}
use Rattle.duties.specs.Memory.{blank}
use Rattle.duties.specs.Host.{right, up, Hosts, Act, Move, d_swap, d_turned, d_run}
use Rattle.duties.specs.Promise.{DutyPromise}
use Rattle.duties.proofs.EndConfirmed.{answers_yes}
use Rattle.duties.proofs.ControlHosts.{letters, control_duties}
use Rattle.moves.specs.Machine.{holding}
use Rattle.moves_laws.specs.Pages.{Beside, Sheet, sheet_state, Makes, MakesAll, Promised}
use Rattle.moves_laws.proofs.Steps.{M, page}

module _ (text : Side → ℕ → Body) (fresh : Side → Numbered Held) (from : Side) where
  -- a run ends at this sheet, with something beside it
  record Ends (s : Hosts M) (e : Sheet M) : Type 0 where
    near : Beside
    far : Beside
    at : s ≡ sheet_state M e near far

  made : (sd : Side) (a : Act (Numbered Ask)) (c e : Sheet M) (g k : Beside)
      → Makes M (letters text) fresh answers_yes from sd a c e
      → Ends (d_turned M right (letters text) fresh answers_yes from sd (sheet_state M c g k) a) e
  made Air a c e g k h = let w = h g k in record { near = w.near; far = w.far; at = w.lands }
  made Ground a c e g k h = let w = h k g in record { near = w.far; far = w.near; at = ap (d_swap M right (letters text) fresh answers_yes) w.lands }

  run : (vs : List (Move (Numbered Ask))) (c e : Sheet M) (g k : Beside)
      → MakesAll M (letters text) fresh answers_yes from vs c e
      → Ends (d_run M right (letters text) fresh answers_yes from (sheet_state M c g k) vs) e
  unfolding MakesAll d_run
  run [] c e g k h = record { near = g; far = k; at = ap (λ (d : Sheet M). sheet_state M d g k) h }
  run (v ∷ vs) c e g k h =
      let w : Ends (d_turned M right (letters text) fresh answers_yes from v.side (sheet_state M c g k) v.act)
      h.at = made v.side v.act c h.at g k h.first in
      let z : Ends (d_run M right (letters text) fresh answers_yes from (sheet_state M h.at w.near w.far) vs) e =
      run vs h.at e w.near w.far h.rest in
      record { near = z.near; far = z.far; at = ap (λ (s : Hosts M). d_run M right (letters text) fresh answers_yes from s vs) w.at ∙ z.at }

  -- the sheet at the beginning: two IDLE records with these numbers and highest jobs
  abbrev pub begun : ℕ → ℕ → ℕ → ℕ → Sheet M
  begun n i k j = record { air = page (holding closed n i) [] blank 0 false up; ground = page (holding closed k j) [] blank 0 false up; broken = λ (v : ℕ). false }

  abbrev nothing_yet : Beside
  nothing_yet = record { taken = λ (v : ℕ). []; handed = λ (v : ℕ). []; jobs = []; done = λ (v : ℕ). false; log = []; seen = λ (v : ℕ). 0 }

  -- THE theorem: the promise holds at the last sheet
  pub day_holds : (n i k j : ℕ) → not_below from n k → (vs : List (Move (Numbered Ask))) (e : Sheet M)
      → MakesAll M (letters text) fresh answers_yes from vs (begun n i k j) e → Promised M e
  day_holds n i k j b vs e h =
      let w : Ends
      (d_run M right (letters text) fresh answers_yes from (sheet_state M (begun n i k j) nothing_yet nothing_yet) vs)
      e = run vs (begun n i k j) e nothing_yet nothing_yet h in
      record { near = w.near; far = w.far; promise = subst (DutyPromise M) w.at (control_duties text fresh from n k i j b vs) }
