-- Two ground cards and a carrier: with both lines empty both are IDLE. It is demand 3 as document 02's E8 words it for two ground ends, and says more: the receiver
-- answers in the event that hands it the forward, so no end is found waiting.
-- Assumes nothing.
use mathlib.Core.Path.{◌≡◌, ap}
use mathlib.Core.List.{List, []}
use Prim.Native.Nat.{ℕ, ◌≤◌, ◌<◌}
use native.Mathlib.Omega.{arith}
use lib.Dec.{T}
use lib.ListN.{length}
use Rattle.editions.specs.Editions.{secures, type_of}
use Rattle.editions.specs.declared.Edition.{Edition}
use Rattle.machine.specs.Codes.{security_values, versions}
use Rattle.machine.specs.Calls.{security_sent}
use Rattle.stored.specs.Stored.{record_bytes, load_at}
use Rattle.card.specs.Face.{fresh_call}
use Rattle.pair.specs.Names.{Ground}
use Rattle.pair.specs.Numbered.{NSys, n_fresh}
use Rattle.pair.specs.Centres.{CentreTurn, centre_run, forward_pair}
use Rattle.pair.proofs.TwoCentres.{centres_rest, centres_pair}
use Rattle.card_pair.specs.CardMachine.{Buffers, held_by, control_in}
use Rattle.card_pair.specs.CentreMachine.{CentreAsked, new_desk, centre_machine}
use Rattle.card_pair.specs.Promise.{Rests}
use Rattle.card_pair.proofs.Ends.{number_in}
use Rattle.card_pair.proofs.CentreCards.{centre}
use Rattle.card_pair.proofs.Beginnings.{fresh_begins, fresh_number, fresh_version}

-- p: the security value of both ends; ed: their edition, which sends that value (fair); v: the version of both ends; u, w: the buffers that each end lends to each call, of full size and with any bytes in them
module _ (p : ℕ) (ed : Edition) (v : ℕ) (fair : security_sent (secures ed) p ≡ p) (u w : ℕ → Buffers) where
  -- from the bytes of two records, as the host keeps them; all starts come from the first
  abbrev pub after : List ℕ → List ℕ → List (CentreTurn CentreAsked) → NSys (centre_machine p)
  after r q ts = centre_run (centre_machine p) (n_fresh (centre_machine p) (new_desk r u) (new_desk q w)) ts

  -- any two that are IDLE, of which the first holds a number not below the other's
  module _ (r q : List ℕ) (a : Rests p ed v r) (g : Rests p ed v q) (b : g.begins.number ≤ a.begins.number) where
    below : held_by q ≤ held_by r
    below =
        let e = ap number_in a.begins.load in
        let f = ap number_in g.begins.load in
        omega arith

    -- THE theorem: after any steps, where nothing is on its way, both ends' bytes are ground records of the edition that are IDLE, as at the beginning
    pub centres_hold : (ts : List (CentreTurn CentreAsked)) → (after r q ts).here.line ≡ []
        → (after r q ts).there.line ≡ []
        → Rests p ed v (after r q ts).here.rec.kept.bytes × Rests p ed v (after r q ts).there.rec.kept.bytes
    centres_hold ts = centres_rest (centre_machine p) (centre p ed v fair) (new_desk r u) (new_desk q w) a g below ts

    -- and E8's own words, which say less
    pub centres_match : (ts : List (CentreTurn CentreAsked)) → (after r q ts).here.line ≡ []
        → (after r q ts).there.line ≡ []
        → T (forward_pair (control_in (load_at (after r q ts).here.rec.kept.bytes))
        (control_in (load_at (after r q ts).there.rec.kept.bytes)))
    centres_match ts = centres_pair (centre_machine p) (centre p ed v fair) (new_desk r u) (new_desk q w) a g below ts

  -- two records that peat_fresh made, in any two ranges of a record's size; each with its own word about forwarding (e, f)
  module _ (vp : p < security_values) (e f : ℕ) (we : e ≤ 1) (wf : f ≤ 1) (lv : 1 ≤ v) (hv : v < versions) (r q : List ℕ) (hr : length r ≡ record_bytes) (hq : length q ≡ record_bytes) where
    one : Rests p ed v (fresh_call r 2 p e v (type_of ed)).bytes
    one = record { begins = fresh_begins p ed e v Ground r vp we lv hv hr; version = fresh_version p ed e v Ground r vp we lv hv hr }

    other : Rests p ed v (fresh_call q 2 p f v (type_of ed)).bytes
    other = record { begins = fresh_begins p ed f v Ground q vp wf lv hv hq; version = fresh_version p ed f v Ground q vp wf lv hv hq }

    not_below_is : other.begins.number ≤ one.begins.number
    unfolding one other
    not_below_is =
        let x = fresh_number p ed e v Ground r vp we lv hv hr in
        let y = fresh_number p ed f v Ground q vp wf lv hv hq in
        omega arith

    abbrev pub fresh_after : List (CentreTurn CentreAsked) → NSys (centre_machine p)
    fresh_after ts = after (fresh_call r 2 p e v (type_of ed)).bytes (fresh_call q 2 p f v (type_of ed)).bytes ts

    pub fresh_centres_hold : (ts : List (CentreTurn CentreAsked)) → (fresh_after ts).here.line ≡ []
        → (fresh_after ts).there.line ≡ []
        → Rests p ed v (fresh_after ts).here.rec.kept.bytes × Rests p ed v (fresh_after ts).there.rec.kept.bytes
    fresh_centres_hold ts = centres_hold (fresh_call r 2 p e v (type_of ed)).bytes
        (fresh_call q 2 p f v (type_of ed)).bytes one other not_below_is ts
