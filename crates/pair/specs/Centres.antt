-- Two ground ends joined by the carrier (document 02, E8 and E9). The steps are those of Numbered. A forward request counts as a start, and
-- between two ground ends it is the only one, so the machine that is put here has no other; all starts come from one end, `here`. A start
-- may be turned away while its end is in START-REQ or FORWARD.
use Rattle.std.specs.Prelude.{ℕ, Bool, true, false, cond, ◌&&◌, ◌||◌, List, [], ◌∷◌}
use Rattle.pair.specs.Names.{Ground, Control, is_idle, waits, awaits_response}
use Rattle.pair.specs.Carrier.{Step, user_call, hand_over, timer_expires_of, error_reported, turn_away, fail}
use Rattle.pair.specs.Numbered.{NMachine, NSys, n_swap, n_did, n_called, n_handed_over, n_has_start, n_recalled, n_emptied, n_told_lost}

-- a turn is one of the two ends, the starting one or the other, and a step there
pub record CentreTurn (A : Type 0) : Type 0 where
  pub starting : Bool
  pub step : Step A

module _ (m : NMachine) where
  abbrev pub may_recall : NSys m → Bool
  may_recall s = waits (m.at.ctl s.here.rec).state && n_has_start m (m.holds s.here.rec) s.here.line

  abbrev pub recall : NSys m → ℕ → NSys m
  recall s keep = cond (may_recall s) (n_did m (n_recalled m s) (m.at.away Ground s.here.rec) keep) s

  abbrev pub both_fail : NSys m → NSys m
  both_fail s = n_swap m (n_told_lost m Ground (n_swap m (n_told_lost m Ground (n_emptied m s))))

  -- may: all starts come from this end
  abbrev pub centre_stepped : Bool → NSys m → Step m.at.A → NSys m
  centre_stepped may s (user_call a keep) = n_called m may s (m.at.call Ground s.here.rec a) keep
  centre_stepped may s (hand_over keep) = n_handed_over m Ground s s.there.line keep
  centre_stepped may s (timer_expires_of keep) = n_did m s (m.at.expiry Ground s.here.rec) keep
  centre_stepped may s (error_reported keep) = n_did m s (m.at.error Ground s.here.rec) keep
  centre_stepped may s (turn_away keep) = recall s keep
  centre_stepped may s fail = both_fail s

  abbrev pub centre_turned : Bool → NSys m → Step m.at.A → NSys m
  centre_turned true s c = centre_stepped true s c
  centre_turned false s c = n_swap m (centre_stepped false (n_swap m s) c)

  unfoldable pub centre_run : NSys m → List (CentreTurn m.at.A) → NSys m
  centre_run s [] = s
  centre_run s (t ∷ ts) = centre_run (centre_turned t.starting s t.step) ts

-- document 02, E8: "IDLE with IDLE, or FORWARD with the receiver still to answer"
abbrev pub forward_pair : Control → Control → Bool
forward_pair a b = (is_idle a && is_idle b) || ((awaits_response a && is_idle b) || (is_idle a && awaits_response b))
