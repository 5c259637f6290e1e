use mathlib.Core.Path.{◌≡◌, sym, ◌∙◌}
use mathlib.Core.Bool.{true, ◌&&◌}
use Prim.Native.Nat.{◌+◌, ◌*◌, min}
use lib.Dec.{leb}
use lib.ListN.{length}
use borrow.Author.Tests.{leb-true}
use Rattle.words.proofs.Laws.{both_left, both_right}
use Rattle.elements.specs.Arguments.{characters_fit}
use Rattle.elements.proofs.numbers.put_characters.Goals as goal

pub put_sixteens-requires : goal.put_sixteens-requires
put_sixteens-requires c =
    let room = leb (c.args.at + 7 * length c.args.items.now) (min c.args.end (8 * length c.args.buf.now)) in
    let fit = characters_fit c.args.items.now in
    let both : (room && fit) ≡ true = sym c.have_room.ensures ∙ c.if-have_room.true in
    (both_right room fit both, leb-true _ _ (both_left room fit both))
