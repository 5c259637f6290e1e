use mathlib.Core.Path.{sym, ◌∙◌}
use Prim.Native.Nat.{◌+◌, ◌*◌, min}
use native.Mathlib.Omega.{arith}
use lib.ListN.{length}
use Rattle.elements.proofs.Gathered.{room_is, no_room, too_many}
use Rattle.elements.proofs.numbers.have_room.Goals as goal

pub returns-then-end-items : goal.returns-then-end-items
returns-then-end-items c =
    too_many (c.args.at + 7 * length c.args.items.now)
    (min c.args.end (8 * c.args.len)) _ (omega arith)

pub returns-then-within : goal.returns-then-within
returns-then-within c =
    room_is (c.args.at + 7 * length c.args.items.now) (min c.args.end (8 * c.args.len)) _ _
    (sym c.within.ensures ∙ c.if-within.true) c.all_most.ensures

pub returns : goal.returns
returns c =
    no_room (c.args.at + 7 * length c.args.items.now) (min c.args.end (8 * c.args.len)) _
    (sym c.within.ensures ∙ c.if-within.false)
