-- A rule that is broken has a number above 0, and what found no room is not answered with Ok.
-- Assumes nothing.
use mathlib.Core.Path.{◌≡◌, refl, sym}
use mathlib.Core.Bool.{false}
use lib.Dec.{eqb}
use Rattle.std.specs.Prelude.{Ok, Err, Result, IsErr, is_ok}
use Rattle.replay.specs.Rules.{rule_number}
use Rattle.replay.specs.declared.rules.Full.{Full}
use Rattle.replay.specs.declared.rules.Rule.{Rule}
use Rattle.replay.specs.declared.rules.Rule.TheVariants.{Kept, Fresh, Restart, Fate, LookUp, Once, Book, Number, Counted, Shown, Whole, Position, Expected, Card, Carrier, Unreadable, Room, Another, Kind, Behind}

pub broken : (r : Rule) → eqb (rule_number r) 0 ≡ false
broken Kept = refl
broken Fresh = refl
broken Restart = refl
broken Fate = refl
broken LookUp = refl
broken Once = refl
broken Book = refl
broken Number = refl
broken Counted = refl
broken Shown = refl
broken Whole = refl
broken Position = refl
broken Expected = refl
broken Card = refl
broken Carrier = refl
broken Unreadable = refl
broken Room = refl
broken Another = refl
broken Kind = refl
broken Behind = refl

pub not_ok : (x : Result Unit Full) → IsErr x → is_ok x ≡ false
not_ok (Ok u) h = sym h
not_ok (Err e) h = refl
