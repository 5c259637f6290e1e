-- What an accepted end finds, of the exported calls: from the control, over the machines that agree with it.
-- Assumes nothing.
use mathlib.Core.Path.{◌≡◌, refl, ap, subst}
use mathlib.Core.Bool.{Bool, true, false, cond}
use mathlib.Core.List.{List}
use Prim.Native.Nat.{ℕ}
use borrow.Author.Tests.{lt-ltb}
use lib.Dec.{T, eqb, ltb}
use Rattle.editions.specs.Editions.{secures, spares}
use Rattle.editions.specs.declared.Edition.{Edition}
use Rattle.machine.specs.Codes.{accepted, results, security_values}
use Rattle.machine.specs.Calls.{reply_of, security_sent}
use Rattle.machine.specs.declared.record.Record.{Record}
use Rattle.machine.specs.declared.event.UserData.{UserData}
use Rattle.machine.specs.declared.event.UserData.TheVariants.{Absent, NotValid, Start, Send, AbortUser, AbortProvider, Forward, ForwardResponse}
use Rattle.machine.specs.declared.outcome.Invoked.{Invoked}
use Rattle.machine.specs.declared.outcome.Invoked.TheVariants.{DStartRequest, DStartResponse, DDataRequest, DEndRequest, DEndResponse, DAbortRequest, DStartForwardRequest, DStartForwardResponse}
use Rattle.pair.specs.Names.{Side, Air, Ground, Accepted, Rejected, Primitive, DEndCnf, closed}
use Rattle.pair.specs.Carrier.{Body, Turn}
use Rattle.pair.specs.Numbered.{NSys, Numbered, mark, not_below, n_swap, n_fresh, n_run}
use Rattle.pair.specs.Wires.{Wire}
use Rattle.pair.proofs.Finite.{T_is}
use Rattle.pair.proofs.ControlMachine.{held, Ent, ent, control}
use Rattle.pair.proofs.NumberedMachine.{numbered}
use Rattle.pair.proofs.NumberedSimulate.{n_followed}
use Rattle.pair.proofs.NumberedAgree.{With, with_number}
use Rattle.pair.proofs.NumberedStepAgrees.{step_numbered, same_step}
use Rattle.pair.proofs.StepMachine.{Read, got, fault, step_machine}
use Rattle.pair.proofs.StepMeans.{Meaning, known, ent_of, send_of, meaning, Means, never, known_if}
use Rattle.pair.proofs.StepAgrees.{agrees, idle_same}
use Rattle.card_pair.specs.CardMachine.{Buffers, Asked, newly, card_machine}
use Rattle.card_pair.specs.Promise.{Begins}
use Rattle.card_pair.proofs.Codec.{card_codec}
use Rattle.card_pair.proofs.Entries.{Carries}
use Rattle.card_pair.proofs.Beginnings.{begins_keeps, begins_idle, begins_local, begins_valid}
use Rattle.card_pair.proofs.Card.{agrees as card-agrees}
use Rattle.duties.proofs.EndConfirmed.{says_yes, answers_yes}
use Rattle.duties.proofs.Heard.{Hands}
use Rattle.duties.proofs.Steps.{Whole}
use Rattle.duties.proofs.Wholes.{control_whole, both_whole_too, control_hands, both_hands_too}
use Rattle.std.specs.Prelude.{None, Option, Some}

-- the primitive is the answer "accepted" to D-END
abbrev pub agrees_to : Option Invoked → Bool
agrees_to None = false
agrees_to (Some (DStartRequest q s)) = false
agrees_to (Some (DStartResponse x s)) = false
agrees_to (Some DDataRequest) = false
agrees_to (Some DEndRequest) = false
agrees_to (Some (DEndResponse x)) = eqb x accepted
agrees_to (Some (DAbortRequest o)) = false
agrees_to (Some (DStartForwardRequest q s v)) = false
agrees_to (Some (DStartForwardResponse s v)) = false

abbrev pub card_accepts : Numbered Wire → Bool
card_accepts w = agrees_to w.it.primitive

-- ---- it is one to the control

reply_yes : (x : ℕ) → T (eqb x accepted) → T (says_yes (DEndCnf (reply_of x)))
unfolding reply_of
reply_yes x t = go (eqb x accepted) t
  where
    go : (b : Bool) → T b → T (says_yes (DEndCnf (cond b Accepted Rejected)))
    go true u = tt
    go false u = absurd u

send_kind : (t u : Bool) (k : Primitive) (a : UserData) (b : Body) (f : Ent) → send_of t u k a b ≡ known f → k ≡ f.kind
send_kind t u k Absent b f e = ap (λ (x : Meaning). (ent_of x).kind) (known_if t (known (ent k b)) f e).1
send_kind t u k NotValid b f e = never f e
send_kind t u k (Start m) b f e = never f e
send_kind t u k Send b f e = ap (λ (x : Meaning). (ent_of x).kind) (known_if u (known (ent k b)) f e).1
send_kind t u k (AbortUser x) b f e = never f e
send_kind t u k (AbortProvider x) b f e = never f e
send_kind t u k Forward b f e = never f e
send_kind t u k (ForwardResponse x) b f e = never f e

means_yes : (ed : Edition) (p : ℕ) (i : Option Invoked) (x : Read) (f : Ent) → meaning ed p i x ≡ known f → T (agrees_to i) → T (says_yes f.kind)
means_yes ed p None x f e t = absurd t
means_yes ed p (Some (DStartRequest q s)) x f e t = absurd t
means_yes ed p (Some (DStartResponse y s)) x f e t = absurd t
means_yes ed p (Some DDataRequest) x f e t = absurd t
means_yes ed p (Some DEndRequest) x f e t = absurd t
means_yes ed p (Some (DEndResponse y)) fault f e t = never f e
means_yes ed p (Some (DEndResponse y)) (got a b) f e t =
    subst (λ (k : Primitive). T (says_yes k)) (send_kind (spares ed) true (DEndCnf (reply_of y)) a b f
    (known_if (ltb y results) (send_of (spares ed) true (DEndCnf (reply_of y)) a b) f e).1) (reply_yes y t)
means_yes ed p (Some (DAbortRequest o)) x f e t = absurd t
means_yes ed p (Some (DStartForwardRequest q s v)) x f e t = absurd t
means_yes ed p (Some (DStartForwardResponse s v)) x f e t = absurd t

-- ---- so it holds of the cards

-- ed: the edition of both ends; one without security values sends none, so its ends' value is that one (fair)
module _ (p : ℕ) (ed : Edition) (host : Side → ℕ → Buffers) (fair : security_sent (secures ed) p ≡ p) (from : Side) (r q : List ℕ) (a : Begins p ed Air r) (g : Begins p ed Ground q) (b : not_below from a.number g.number) where
  valued : T (ltb p security_values)
  valued = T_is (ltb p security_values) (lt-ltb p security_values (begins_valid p ed Air r a))

  abbrev Reached : List (Turn Asked) → NSys (card_machine p host)
  Reached ts = n_run (card_machine p host) from (n_fresh (card_machine p host) (newly r) (newly q)) ts

  -- what every end finds that is told that its end is accepted; and that a message is handed out in a dialogue alone
  record Cards (s : NSys (card_machine p host)) : Type 0 where
    wholes : Whole (card_machine p host) card_accepts Air s × Whole (card_machine p host) card_accepts Ground (n_swap (card_machine p host) s)
    hands : Hands (card_machine p host) Air s × Hands (card_machine p host) Ground (n_swap (card_machine p host) s)

  cards : (ts : List (Turn Asked)) → Cards (Reached ts)
  cards ts =
      let x : Numbered Record = mark a.number a.held in
      let y : Numbered Record = mark g.number g.held in
      let u = mark a.number (held closed a.held.highest) in
      let v = mark g.number (held closed g.held.highest) in
      let K = step_numbered (card_codec ed) p in
      let N = numbered (step_machine (card_codec ed) p) in
      let same = same_step (card_codec ed) ed p in
      let low = with_number (step_machine (card_codec ed) p) control (agrees (card_codec ed) ed p fair valued) in
      let f = n_followed (card_machine p host) K (card-agrees p ed host) from (newly r) (newly q) x y
      (begins_keeps p ed Air r a) (begins_keeps p ed Ground q g) ts in
      let h = n_followed K N same from x y x y refl refl f.turns in
      let i = n_followed N (numbered control) low from x y u v (
        refl,
        idle_same (card_codec ed) ed p fair valued
            a.held (begins_local p ed Air r a) (begins_idle p ed Air r a),
      ) (
        refl,
        idle_same (card_codec ed) ed p
            fair valued g.held (begins_local p ed Ground q g) (begins_idle p ed Ground q g),
      ) h.turns in
      let s1 = n_run K from (n_fresh K x y) f.turns in
      let s2 = n_run N from (n_fresh N x y) h.turns in
      let s3 = n_run (numbered control) from (n_fresh (numbered control) u v) i.turns in
      record {
        wholes =
            both_whole_too (card_machine p host) K (card-agrees p ed host) card_accepts card_accepts
            (λ (sd : Side) (e w : Numbered Wire) (z : Carries ed sd e w). subst (λ (j : Option Invoked). T (agrees_to j))
            z.primitive) (Reached ts) s1 f.rel
            (both_whole_too K N same card_accepts card_accepts (λ (sd : Side) (e w : Numbered Wire) (z : e ≡ w). subst (λ (j : Numbered Wire). T (card_accepts j)) z) s1 s2 h.rel
            (both_whole_too N (numbered control) low card_accepts answers_yes
            (λ (sd : Side) (e : Numbered Wire) (w : Numbered Ent) (z : With (Means (card_codec ed) ed p sd) e w).
            means_yes ed p e.it.primitive ((card_codec ed).dec sd e.it.bytes) w.it z.1) s2 s3
            i.rel
            (control_whole from u v refl refl b i.turns)));
        hands =
            both_hands_too (card_machine p host) K (card-agrees p ed host) (Reached ts) s1 f.rel
            (both_hands_too K N same s1 s2 h.rel (both_hands_too N (numbered control) low s2 s3 i.rel
            (control_hands Air s3, control_hands Ground (n_swap (numbered control) s3))));
      }

  pub card_whole : (ts : List (Turn Asked))
      → Whole (card_machine p host) card_accepts Air (n_run (card_machine p host) from (n_fresh (card_machine p host) (newly r) (newly q)) ts) × Whole (card_machine p host) card_accepts Ground (n_swap (card_machine p host) (n_run (card_machine p host) from (n_fresh (card_machine p host) (newly r) (newly q)) ts))
  card_whole ts = (cards ts).wholes

  pub card_hands : (ts : List (Turn Asked))
      → Hands (card_machine p host) Air (n_run (card_machine p host) from (n_fresh (card_machine p host) (newly r) (newly q)) ts) × Hands (card_machine p host) Ground (n_swap (card_machine p host) (n_run (card_machine p host) from (n_fresh (card_machine p host) (newly r) (newly q)) ts))
  card_hands ts = (cards ts).hands
