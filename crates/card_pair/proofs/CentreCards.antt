-- Two ground cards: the exported calls are a machine whose records rest (IDLE) or are away (FORWARD), as crate pair asks of it (TwoCentres).
-- Assumes nothing.
use mathlib.Core.Path.{◌≡◌, ap, ◌∙◌}
use mathlib.Core.Bool.{true, false}
use Prim.Native.Nat.{ℕ, ◌≤◌, ◌<◌}
use native.Mathlib.Omega.{arith}
use Rattle.editions.specs.Editions.{secures}
use Rattle.editions.specs.declared.Edition.{Edition}
use Rattle.machine.specs.Calls.{security_sent}
use Rattle.pair.specs.Names.{Control, is_idle, waits}
use Rattle.pair.specs.Carrier.{is_start}
use Rattle.pair.specs.Numbered.{Numbered}
use Rattle.pair.specs.Wires.{Wire}
use Rattle.pair.proofs.TwoCentres.{Centre}
use Rattle.card_pair.specs.CardMachine.{control_in, held_by}
use Rattle.card_pair.specs.CentreMachine.{CentreAsked, Desk, centre_machine}
use Rattle.card_pair.specs.Promise.{Rests}
use Rattle.card_pair.proofs.Ends.{number_in}
use Rattle.card_pair.proofs.CentreEntries.{Away, Good, Rest}
use Rattle.card_pair.proofs.CentreRests.{rest_answers, rest_asks, rest_errs, rest_expires, rest_stale}
use Rattle.card_pair.proofs.CentreAway.{away_asks, away_away, away_errs, away_expires, away_p_abort, away_stale, away_takes}
use Rattle.std.specs.Prelude.{Option}
use Rattle.stored.specs.declared.Stored.{Stored}

-- ---- so they are a machine as pair asks for

abbrev pub centre : (p : ℕ) (ed : Edition) (ver : ℕ) → security_sent (secures ed) p ≡ p → Centre (centre_machine p)
centre p ed ver fair = record {
  Rest = Rest p ed ver;
  Away = Away p ed ver;
  Good = Good p ed ver;
  rest_idle = λ (d : Desk) (h : Rests p ed ver d.kept.bytes). ap (λ (l : Option Stored). is_idle (control_in l))
      h.begins.load ∙ ap is_idle h.begins.idle;
  rest_waits = λ (d : Desk) (h : Rests p ed ver d.kept.bytes). ap (λ (l : Option Stored). waits (control_in l).state)
      h.begins.load ∙ ap (λ (c : Control). waits c.state) h.begins.idle;
  away_idle = λ (d : Desk) (h : Away p ed ver d). ap (λ (l : Option Stored). is_idle (control_in l)) h.at.load ∙ ap is_idle h.control;
  call_rest = λ (d : Desk) (a : CentreAsked) (h : Rests p ed ver d.kept.bytes). rest_asks p ed ver fair d h a;
  call_away = λ (d : Desk) (a : CentreAsked) (h : Away p ed ver d). away_asks p ed ver d h a;
  start_answered = λ (d : Desk) (w : Numbered Wire) (h : Rests p ed ver d.kept.bytes) (g : Good p ed ver w)
      (s : is_start (centre_machine p).at w ≡ true) (b : held_by d.kept.bytes < w.no). rest_answers p ed ver fair d
      h w g s (let e = ap number_in h.begins.load in omega arith);
  start_stale = λ (d : Desk) (w : Numbered Wire) (h : Rests p ed ver d.kept.bytes) (g : Good p ed ver w)
      (s : is_start (centre_machine p).at w ≡ true) (b : w.no ≤ held_by d.kept.bytes). rest_stale p ed ver fair d h
      w g s (let e = ap number_in h.begins.load in omega arith);
  answer_taken = λ (d : Desk) (w : Numbered Wire) (h : Away p ed ver d) (g : Good p ed ver w)
      (s : is_start (centre_machine p).at w ≡ false) (m : w.no ≡ held_by d.kept.bytes). away_takes p ed ver d h w g
      s m;
  answer_stale = λ (d : Desk) (w : Numbered Wire) (h : Away p ed ver d) (g : Good p ed ver w)
      (s : is_start (centre_machine p).at w ≡ false) (m : w.no ≡ held_by d.kept.bytes → ⊥). away_stale p ed ver d h
      w g s m;
  expiry_rest = λ (d : Desk) (h : Rests p ed ver d.kept.bytes). rest_expires p ed ver fair d h;
  expiry_away = λ (d : Desk) (h : Away p ed ver d). away_expires p ed ver d h;
  error_rest = λ (d : Desk) (h : Rests p ed ver d.kept.bytes). rest_errs p ed ver fair d h;
  error_away = λ (d : Desk) (h : Away p ed ver d). away_errs p ed ver d h;
  away_away = λ (d : Desk) (h : Away p ed ver d). away_away p ed ver d h;
  p_abort_away = λ (d : Desk) (h : Away p ed ver d). away_p_abort p ed ver d h;
}
