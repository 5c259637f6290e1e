-- What the answers of two ground cards tell their users: the user primitive in an answer's number and its parameter (crate packed).
use Rattle.std.specs.Prelude.{ℕ, ◌/◌, ◌%◌, cond, eqb}
use Rattle.machine.specs.Codes.{success}
use Rattle.packed.specs.Packed.{codes}
use Rattle.pair.specs.Names.{Ground}
use Rattle.pair.specs.Numbered.{Numbered}
use Rattle.pair.specs.Wires.{Wire, arrives}
use Rattle.card_pair.specs.Answered.{told_part_of}
use Rattle.card_pair.specs.CentreMachine.{Desk, hears, centre_machine}
use Rattle.forward_duties.specs.Desks.{none, another, Words}
use Rattle.forward_duties.specs.Desks.{success as succeeded}

-- the answer of the call that hands the entry w to the record d
abbrev pub answer_to : Desk → Numbered Wire → ℕ
answer_to d w = (hears d (arrives Ground w.it.primitive) w.no 1 w.it.bytes).number

-- 8: forward indication; 9: forward confirmation, with its result
abbrev pub card_words : (p : ℕ) → Words (centre_machine p)
card_words p = record {
  indicates = λ (d : Desk) (w : Numbered Wire). eqb (told_part_of (answer_to d w) % codes) 8;
  confirms = λ (d : Desk) (w : Numbered Wire). cond (eqb (told_part_of (answer_to d w) % codes) 9) (cond (eqb (told_part_of (answer_to d w) / codes % codes) success) succeeded another) none;
}
