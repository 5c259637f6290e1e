-- The promise, of the exported calls and several hosts at each end that share a journal under the fence.
-- Assumes nothing.
use mathlib.Core.Path.{◌≡◌, sym, subst}
use mathlib.Core.Bool.{true}
use mathlib.Core.List.{List}
use Prim.Native.Nat.{ℕ}
use Rattle.editions.specs.Editions.{secures}
use Rattle.editions.specs.declared.Edition.{Edition}
use Rattle.machine.specs.Calls.{security_sent}
use Rattle.pair.specs.Names.{Side, Air, Ground}
use Rattle.pair.specs.Numbered.{not_below}
use Rattle.card_pair.specs.CardMachine.{Buffers, Given, Asked, Kept, newly, card_machine}
use Rattle.card_pair.specs.Promise.{Begins}
use Rattle.duties.specs.Host.{right, d_fresh}
use Rattle.duties.specs.Leases.{LMove, l_run, alone_first}
use Rattle.duties.specs.Promise.{DutyPromise}
use Rattle.duties.proofs.CardWholes.{card_accepts}
use Rattle.duties.proofs.CardHosts.{card_letter, card_duties}
use Rattle.duties.proofs.Takeover.{moves_of, takeover_is_run}

pub card_leases : (p : ℕ) (host : Side → ℕ → Buffers) (ed : Edition) → security_sent (secures ed) p ≡ p
    → (data_of : Side → ℕ → Given) (fresh : Side → Kept) (from : Side) (r q : List ℕ) (a : Begins p ed Air r) (g : Begins p ed Ground q)
    → not_below from a.number g.number → (vs : List (LMove Asked))
    → DutyPromise (card_machine p host) (l_run (card_machine p host) right (card_letter data_of) fresh card_accepts true from (
    alone_first (card_machine p host) right (card_letter data_of) fresh card_accepts true
    (d_fresh (card_machine p host) right (card_letter data_of) fresh card_accepts (newly r) (newly q)))
    vs).hosts
card_leases p host ed fair data_of fresh from r q a g b vs =
    subst (DutyPromise (card_machine p host)) (sym (takeover_is_run (card_machine p host) right (card_letter data_of) fresh
    card_accepts from (alone_first (card_machine p host) right (card_letter data_of) fresh card_accepts true
    (d_fresh (card_machine p host) right (card_letter data_of) fresh card_accepts (newly r) (newly q))) vs))
    (card_duties p host ed fair data_of fresh from r q a g b (moves_of vs))
