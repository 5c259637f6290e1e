-- The promise, of the exported calls: two ground cards, a carrier with bytes on its lines, two hosts that keep the cards' records, and a broker.
-- Assumes nothing.
use mathlib.Core.Path.{◌≡◌, refl, ap, sym, ◌∙◌}
use mathlib.Core.Bool.{Bool, true, false, cond}
use mathlib.Core.List.{List}
use Prim.Native.Nat.{ℕ, ◌≤◌, ◌<◌, ◌/◌, ◌%◌}
use native.Mathlib.Omega.{arith}
use lib.Dec.{eqb}
use Rattle.editions.specs.Editions.{secures}
use Rattle.editions.specs.declared.Edition.{Edition}
use Rattle.apdu.specs.Pdus.{lent}
use Rattle.pdus.specs.declared.PduType.TheVariants as pdu
use Rattle.apdu.specs.declared.Apdu.{Apdu}
use Rattle.apdu.specs.declared.Apdu.TheVariants.{AbortUser, AbortProvider, Start, Send, Forward, ForwardResponse}
use Rattle.codec.specs.Codec.{apdu_at}
use Rattle.machine.specs.Codes.{success}
use Rattle.machine.specs.Calls.{security_sent}
use Rattle.packed.specs.Packed.{codes}
use Rattle.pair.specs.Names.{Side, Ground}
use Rattle.pair.specs.Carrier.{Body, nothing, puts, message, Outcome, refused, acts, is_start}
use Rattle.pair.specs.Numbered.{Numbered}
use Rattle.pair.specs.Wires.{Wire, arrives}
use Rattle.card_pair.specs.Answered.{told_part_of}
use Rattle.card_pair.specs.CardMachine.{Buffers, held_by}
use Rattle.card_pair.specs.CentreMachine.{CentreAsked, Desk, new_desk, does, hears, centre_machine}
use Rattle.card_pair.specs.Promise.{Rests}
use Rattle.card_pair.proofs.Ends.{number_in}
use Rattle.card_pair.proofs.CentreEntries.{Rest, Away, Good}
use Rattle.card_pair.proofs.CentreRests.{rest_tells}
use Rattle.card_pair.proofs.CentreAway.{away_tells}
use Rattle.card_pair.proofs.CentreCards.{centre}
use Rattle.duties.specs.Host.{right}
use Rattle.forward_duties.specs.Desks.{none, another, Move, f_run, f_fresh}
use Rattle.forward_duties.specs.Desks.{success as succeeded}
use Rattle.forward_duties.specs.Promise.{ForwardPromise}
use Rattle.forward_duties.specs.CardWords.{answer_to, card_words}
use Rattle.forward_duties.proofs.Laws.{Truth, result_of}
use Rattle.forward_duties.proofs.Theorem.{forwards_hold}
use Rattle.std.specs.Prelude.{Err, Ok, Result}
use Rattle.fields.specs.declared.Refusal.{Refusal}

-- ---- what an answer says

abbrev says_in : Apdu → Bool
says_in (AbortUser x) = false
says_in (AbortProvider x) = false
says_in (Start x d) = false
says_in (Send d) = false
says_in (Forward f) = false
says_in (ForwardResponse x) = eqb x success

abbrev is_said : Result Apdu Refusal → Bool
is_said (Ok a) = says_in a
is_said (Err r) = false

-- the entry that an outcome sends, if it sends one
abbrev sent_in : Numbered Wire → Outcome Desk (Numbered Wire) → Numbered Wire
sent_in w refused = w
sent_in w (acts r l nothing) = w
sent_in w (acts r l (puts f)) = f
sent_in w (acts r l (message f b i)) = f

card_truth : (p : ℕ) (ed : Edition) (v : ℕ) (fair : security_sent (secures ed) p ≡ p)
    → Truth (centre_machine p) (centre p ed v fair) (card_words p)
card_truth p ed v fair = record {
  says = says;
  answer_says = λ (r q : Desk) (e f : Numbered Wire) (l : List Body) (h : Rest p ed v r) (g : Good p ed v e)
      (s : is_start (centre_machine p).at e ≡ true) (a : held_by r.kept.bytes < e.no)
      (o : does r (hears r (arrives Ground e.it.primitive) e.no 1 e.it.bytes) ≡ acts q l (puts f)).
      let z = rest_tells p ed v fair r h e g s a in
      ap says (ap (sent_in f) (sym o ∙ z.sends)) ∙ ap is_said z.reads ∙ sym z.tells;
  result_is = λ (r : Desk) (f : Numbered Wire) (h : Away p ed v r) (g : Good p ed v f)
      (s : is_start (centre_machine p).at f ≡ false) (n : f.no ≡ held_by r.kept.bytes).
      let z = away_tells p ed v r h f g s n in
      ap (λ (i : ℕ). cond (eqb i 9) (cond (eqb (told_part_of (answer_to r f) / codes % codes) success) succeeded another) none) z.code
      ∙ (ap (λ (i : ℕ). cond (eqb i success) succeeded another) z.parameter ∙
      (choice (eqb z.result success) ∙ ap result_of (sym (ap is_said z.reads))));
}
  where
    says : Numbered Wire → Bool
    says w = is_said (apdu_at ed pdu.GroundPdus (lent w.it.bytes))

    choice : (b : Bool) → cond b succeeded another ≡ result_of b
    choice true = refl
    choice false = refl

-- ---- two ground cards

-- p: the security value of both ends; ed: their edition, which sends that value (fair); v: the version of both ends; u, w: the buffers that each end lends; order: the call that a job asks for, whatever a host chooses; a right one is peat_forward_request with the number above the record's
module _ (p : ℕ) (ed : Edition) (v : ℕ) (fair : security_sent (secures ed) p ≡ p) (u w : ℕ → Buffers) (order : Desk → ℕ → CentreAsked) (fresh : Side → Desk) where
  -- from the bytes of any two ground records that are IDLE, of which the one that forwards holds a number not below the other's
  pub card_forwards : (r q : List ℕ) (a : Rests p ed v r) (g : Rests p ed v q) → g.begins.number ≤ a.begins.number
      → (vs : List (Move CentreAsked))
      → ForwardPromise (centre_machine p) (f_run (centre_machine p) (card_words p) right order fresh (f_fresh (centre_machine p) (card_words p) right order fresh (new_desk r u) (new_desk q w)) vs)
  card_forwards r q a g b vs =
      forwards_hold (centre_machine p) (centre p ed v fair) (card_words p) (card_truth p ed v fair) order fresh
      (new_desk r u) (new_desk q w) a g
      (let e = ap number_in a.begins.load in let f = ap number_in g.begins.load in omega arith) vs
