-- The rules by number (crate replay, rules.rt), as the equations of crates tables and replay have them; 0: no rule is broken.
use Rattle.std.specs.Prelude.{ℕ, Ok, Err, Result}
use Rattle.replay.specs.declared.rules.Rule.{Rule}
use Rattle.replay.specs.declared.rules.Rule.TheVariants.{Kept, Fresh, Restart, Fate, LookUp, Once, Book, Number, Counted, Shown, Whole, Position, Expected, Card, Carrier, Unreadable, Room, Another, Kind, Behind}

abbrev pub rule_number : Rule → ℕ
rule_number Kept = 1
rule_number Fresh = 2
rule_number Restart = 3
rule_number Fate = 4
rule_number LookUp = 6
rule_number Once = 7
rule_number Book = 11
rule_number Number = 12
rule_number Counted = 13
rule_number Shown = 14
rule_number Whole = 15
rule_number Position = 16
rule_number Expected = 17
rule_number Card = 20
rule_number Carrier = 21
rule_number Unreadable = 22
rule_number Room = 23
rule_number Another = 24
rule_number Kind = 25
rule_number Behind = 26

abbrev pub number_of : Result Unit Rule → ℕ
number_of (Ok u) = 0
number_of (Err r) = rule_number r
