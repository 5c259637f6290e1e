-- What a taken call puts on a line and hands out is what the machine's step puts there and hands out.
-- Assumes nothing.
use mathlib.Core.Path.{◌≡◌, refl, ap, sym, subst, ◌∙◌}
use mathlib.Core.Bool.{Bool, true, false, cond, ◌||◌}
use mathlib.Core.List.{List, [], ◌∷◌}
use Prim.Native.Nat.{ℕ, suc, ◌^◌, ◌<◌}
use lib.Dec.{T}
use Rattle.bits.proofs.Numbers.{Bits}
use Rattle.apdu.specs.Pdus.{lent, content_in}
use Rattle.apdu.specs.Writing.{data_fits}
use Rattle.editions.specs.Editions.{spares}
use Rattle.editions.specs.declared.Edition.{Edition}
use Rattle.editions.specs.declared.Edition.TheVariants.{Plain, Protected}
use Rattle.codec.specs.Codec.{content_bits, apdu_at}
use Rattle.codec.proofs.Stated.{content_fits, must_hold, is_body_is, carries}
use Rattle.codec.proofs.Instance.{laws}
use Rattle.machine.specs.Outcome.{is_none}
use Rattle.machine.specs.UserData.{is_send}
use Rattle.machine.specs.declared.record.Record.{Record}
use Rattle.machine.specs.declared.event.UserData.{UserData}
use Rattle.machine.specs.declared.event.UserData.TheVariants.{Absent, NotValid, Start, Send, AbortUser, AbortProvider, Forward, ForwardResponse}
use Rattle.machine.specs.declared.event.Event.{Event}
use Rattle.machine.specs.declared.outcome.Invoked.{Invoked}
use Rattle.machine.specs.declared.outcome.Invoked.TheVariants.{DStartRequest, DStartResponse, DDataRequest, DEndRequest, DEndResponse, DAbortRequest, DStartForwardRequest, DStartForwardResponse}
use Rattle.machine.specs.declared.outcome.Outcome.{Outcome}
use Rattle.numbered.specs.Numbers.{is_start, held_after, numbered_step}
use Rattle.step.specs.Call.{Carried, Called, pdus_of, concluded}
use Rattle.step.proofs.Taken.{never, writable, with_body, Brings, brings, GoesOut, is_ddata, Fit, JobLow, is_dialogue, roomy_dialogue, numbered_fits}
use Rattle.pair.specs.Names.{Side}
use Rattle.pair.specs.Carrier.{Body, Sent, message}
use Rattle.pair.specs.Carrier as C
use Rattle.pair.specs.Numbered.{Numbered, mark}
use Rattle.pair.specs.Wires.{Wire}
use Rattle.pair.proofs.OneDialogue.{is_nil}
use Rattle.pair.proofs.NumberedMachine.{tag, leaves}
use Rattle.pair.proofs.StepMachine.{Read, got, fault, sent_by, taken, happens}
use Rattle.pair.proofs.Agree.{SentRel, OutRel}
use Rattle.card_pair.specs.Answered.{handed_of}
use Rattle.card_pair.specs.CardMachine.{Buffers, Kept, marked_entry, put_on, sent_of, left, simply}
use Rattle.card_pair.proofs.Codec.{fits, apdu_bits, zeros, front_of, enc, read_of, dec, is_read, back, true_holds, card_codec}
use Rattle.card_pair.proofs.Ends.{number_in, Keeps, Ended, concluded_is, concluded_refused}
use Rattle.std.specs.Prelude.{Err, Ok, Result, None, Option, Some}
use Rattle.fields.specs.declared.Refusal.{Refusal}
use Rattle.apdu.specs.declared.Apdu.{Apdu}

-- ---- entries

-- bytes that the other side takes: none, or some that are read as a PDU
abbrev pub readable : Edition → Side → List ℕ → Bool
readable ed sd w = is_nil w || is_read (apdu_at ed (pdus_of sd) (lent w))

-- two entries that side sd sent: the same primitive with the same dialogue number, which eight bytes hold, and the same bits, which are no user data or read as a PDU
pub record Carries (ed : Edition) (sd : Side) (e f : Numbered Wire) : Type 0 where
  pub number : e.no ≡ f.no
  pub low : f.no < 2 ^ 64
  pub primitive : e.it.primitive ≡ f.it.primitive
  pub bits : lent e.it.bytes ≡ lent f.it.bytes
  pub read : readable ed sd f.it.bytes ≡ true
  pub dialogue : is_dialogue f.it.primitive ≡ true

abbrev is_fault : Read → Bool
is_fault fault = true
is_fault (got a b) = false

-- what was written is read, or is nothing
read_from : (ed : Edition) (sd : Side) (w : List ℕ) (a : UserData) (y : Body) → dec ed sd w ≡ got a y → readable ed sd w ≡ true
read_from ed sd [] a y e = refl
read_from ed sd (x ∷ w) a y e = go (apdu_at ed (pdus_of sd) (lent (x ∷ w))) e
  where
    go : (z : Result Apdu Refusal) → read_of ed (lent (x ∷ w)) z ≡ got a y → is_read z ≡ true
    go (Ok z) k = refl
    go (Err r) k = absurd (subst (λ (q : Read). T (is_fault q)) k tt)

-- what a host keeps, and the record with its number
abbrev pub KeepsAt : Edition → Side → Kept → Numbered Record → Type 0
KeepsAt ed sd r q = Keeps ed sd r.bytes q.it q.no

pub held_low : (n : ℕ) (e : Event) (v : ℕ) → n < 2 ^ 64 → v < 2 ^ 64 → held_after n e v < 2 ^ 64
unfolding held_after
held_low n e v h l = go (is_start e)
  where
    go : (b : Bool) → cond b v n < 2 ^ 64
    go true = l
    go false = h

-- ---- message data that go out

-- a send of type 2 goes out with a message alone
must : (ed : Edition) (h : Bool) → (spares ed ≡ true → h ≡ true) → must_hold ed h ≡ true
must Plain h f = f refl
must Protected h f = refl

fits_is : (ed : Edition) (sd : Side) (a : UserData) (b : Body) → writable ed sd a ≡ true
    → (with_body a ≡ true → is_body_is ed (pdus_of sd) b ≡ true) → (is_send a ≡ true → must_hold ed (carries ed b) ≡ true)
    → fits ed sd a (cond (with_body a) b []) ≡ true
fits_is ed sd Absent b e h m = refl
fits_is ed sd NotValid b e h m = never e
fits_is ed sd (Start x) b e h m = rw (e, h refl)
fits_is ed sd Send b e h m = rw (h refl, m refl)
fits_is ed sd (AbortUser x) b e h m = rw e
fits_is ed sd (AbortProvider x) b e h m = rw e
fits_is ed sd Forward b e h m = never e
fits_is ed sd (ForwardResponse x) b e h m = never e

-- an APDU without message data is written without
bits_same : (ed : Edition) (sd : Side) (a : UserData) (b : Body) → apdu_bits ed sd a (cond (with_body a) b []) ≡ apdu_bits ed sd a b
unfolding apdu_bits
bits_same ed sd Absent b = refl
bits_same ed sd NotValid b = refl
bits_same ed sd (Start m) b = refl
bits_same ed sd Send b = refl
bits_same ed sd (AbortUser x) b = refl
bits_same ed sd (AbortProvider x) b = refl
bits_same ed sd Forward b = refl
bits_same ed sd (ForwardResponse x) b = refl

-- ---- what is sent

module _ (ed : Edition) (sd : Side) (u : Bool) (a : UserData) (w : Numbered Wire) (m : ℕ) (ys : List ℕ) (y : Body) (j : ℕ) where
  abbrev pub Entered : Option Invoked → Type 0
  Entered i = writable ed sd a ≡ true → Carries ed sd w (mark m (record { primitive = i; bytes = ys }))

  plain : (i : Option Invoked) → GoesOut ed u sd i a → is_ddata i ≡ false → Entered i
      → SentRel (Carries ed sd) (put_on w i) (tag m (sent_by i ys y j))
  plain None g n f = tt
  plain (Some (DStartRequest q s)) g n f = f g
  plain (Some (DStartResponse x s)) g n f = f g
  plain (Some DDataRequest) g n f = never (sym n)
  plain (Some DEndRequest) g n f = f g
  plain (Some (DEndResponse x)) g n f = f g
  plain (Some (DAbortRequest o)) g n f = f g
  plain (Some (DStartForwardRequest q s v)) g n f = absurd g
  plain (Some (DStartForwardResponse s v)) g n f = absurd g

  pub sent_plain : (i : Option Invoked) → w.it.primitive ≡ i → GoesOut ed u sd i a → is_ddata i ≡ false → Entered i
      → SentRel (Carries ed sd) (put_on w w.it.primitive) (tag m (sent_by i ys y j))
  sent_plain i e g n f = subst (λ (z : Option Invoked). SentRel (Carries ed sd) (put_on w z) (tag m (sent_by i ys y j))) (sym e) (plain i g n f)

  -- by a message request
  pub sent_message : (i : Option Invoked) → GoesOut ed u sd i a → is_ddata i ≡ true → Entered i
      → SentRel (Carries ed sd) (message w y j) (tag m (sent_by i ys y j))
  sent_message None g n f = never n
  sent_message (Some (DStartRequest q s)) g n f = never n
  sent_message (Some (DStartResponse x s)) g n f = never n
  sent_message (Some DDataRequest) g n f = (f g, refl, refl)
  sent_message (Some DEndRequest) g n f = never n
  sent_message (Some (DEndResponse x)) g n f = never n
  sent_message (Some (DAbortRequest o)) g n f = never n
  sent_message (Some (DStartForwardRequest q s v)) g n f = never n
  sent_message (Some (DStartForwardResponse s v)) g n f = never n

-- ---- a call that was taken

-- hb, hs: message data that go out are a body of the side's own, with a message in it where the call says so
module _ (ed : Edition) (sd : Side) (v : Brings) (m : ℕ) (o : Outcome) (b : Body) (c : Called) (t : Ended ed sd v m o b c) (k : Fit ed sd v o) (hb : v.body ≡ true → is_body_is ed (pdus_of sd) b ≡ true) (hs : v.holds ≡ true → carries ed b ≡ true) (y : Body) (ey : y ≡ cond v.body b []) where
  y_is : y ≡ cond (with_body o.apdu) b []
  y_is = ey ∙ ap (λ (h : Bool). cond h b []) (sym k.body)

  pub fits_y : writable ed sd o.apdu ≡ true → fits ed sd o.apdu y ≡ true
  fits_y e = rw y_is (fits_is ed sd o.apdu b e (λ (h : with_body o.apdu ≡ true). hb (sym k.body ∙ h))
      (λ (h : is_send o.apdu ≡ true). must ed (carries ed b) (λ (x : spares ed ≡ true). hs (k.sends x h))))

  enc_y : enc ed sd o.apdu y ≡ enc ed sd o.apdu b
  enc_y = ap (front_of zeros) (ap (apdu_bits ed sd o.apdu) y_is ∙ bits_same ed sd o.apdu b)

  pub entry_is : writable ed sd o.apdu ≡ true → Carries ed sd (marked_entry c) (mark m (record { primitive = o.invoked; bytes = enc ed sd o.apdu y }))
  entry_is e =
      record {
        number = ap number_in t.keeps.load;
        low = t.keeps.low;
        primitive = t.primitive;
        bits = t.bits ∙ ap lent (sym enc_y);
        read = read_from ed sd (enc ed sd o.apdu y) o.apdu y
            (back ed sd o.apdu y (true_holds (fits ed sd o.apdu y) (fits_y e)));
        dialogue = roomy_dialogue o.invoked k.roomy;
      }

  pub taken_rel : (n : ℕ) (x : Body) → (is_send v.apdu ≡ true → b ≡ x) → (j : ℕ) (s : Sent (Numbered Wire))
      → SentRel (Carries ed sd) s (tag m (sent_by o.invoked (enc ed sd o.apdu y) y j))
      → OutRel (KeepsAt ed sd) (Carries ed sd) (left n c s) (leaves m (taken (card_codec ed) sd o y j x))
  taken_rel n x f j s h =
      subst (λ (q : Bool). OutRel (KeepsAt ed sd) (Carries ed sd) (cond q (C.acts (record { bytes = c.kept; calls = suc n }) (handed_of c) s) C.refused) (leaves m (taken (card_codec ed) sd o y j x))) (sym t.taken)
      (t.keeps, t.handed x f, h)

-- ---- an event at a record q. h: the dialogue number that the record holds; v: the one that the event brings. own: message data that go out are the side's own

module _ (r : List ℕ) (w : Buffers) (sd : Side) (q : Record) (h : ℕ) (e : Event) (v : ℕ) (li lm lc : List ℕ) (d : Carried) (keeps : Keeps q.edition sd r q h) (lv : v < 2 ^ 64) (hi : Bits li) (hm : Bits lm) (hc : Bits lc) (sh : data_fits li lm lc d.content ≡ true)
    (own : (brings q.edition e).body ≡ true → content_fits q.edition (pdus_of sd) (content_in li lm lc d.content) ≡ true) where
  abbrev O : Outcome
  O = numbered_step sd q h e v

  abbrev M : ℕ
  M = held_after h e v

  abbrev B : Body
  B = content_bits q.edition (content_in li lm lc d.content)

  abbrev K : Called
  K = concluded r w.first w.second q.edition sd (held_after h e v) (numbered_step sd q h e v) li lm lc d

  pub bodied : (brings q.edition e).body ≡ true
      → is_body_is q.edition (pdus_of sd) (content_bits q.edition (content_in li lm lc d.content)) ≡ true
  bodied x = (laws q.edition).is_body (pdus_of sd) (content_in li lm lc d.content) (own x)
      ((laws q.edition).content_are_bits li lm lc d.content hi hm hc)

  pub ended : JobLow sd e → is_none (numbered_step sd q h e v).refusal ≡ true
      → Ended q.edition sd (brings q.edition e) (held_after h e v) (numbered_step sd q h e v)
      (content_bits q.edition (content_in li lm lc d.content))
      (concluded r w.first w.second q.edition sd (held_after h e v) (numbered_step sd q h e v) li lm lc d)
  ended j n = concluded_is r w.first w.second q.edition sd (brings q.edition e) M O li lm lc d
      w.first_full w.second_full keeps.size (held_low h e v keeps.low lv) hi hm hc sh own n
      (numbered_fits sd q keeps.coded keeps.dialogue h e v j n)

  -- it is no user primitive
  pub happens_rel : (calls : ℕ) (x : Body) → JobLow sd e → (brings q.edition e).body ≡ false
      → (brings q.edition e).holds ≡ false → (brings q.edition e).message ≡ false
      → (is_send (brings q.edition e).apdu ≡ true → content_bits q.edition (content_in li lm lc d.content) ≡ x)
      → OutRel (KeepsAt q.edition sd) (Carries q.edition sd) (simply calls (concluded r w.first w.second
      q.edition sd (held_after h e v) (numbered_step sd q h e v) li lm lc d))
      (leaves (held_after h e v) (happens (card_codec q.edition) sd (numbered_step sd q h e v) x))
  happens_rel calls x j hb hh hm f = go (is_none (numbered_step sd q h e v).refusal) refl
    where
      unheld : (brings q.edition e).holds ≡ true → carries q.edition B ≡ true
      unheld z = never (sym hh ∙ z)

      go : (n : Bool) → is_none (numbered_step sd q h e v).refusal ≡ n
          → OutRel (KeepsAt q.edition sd) (Carries q.edition sd) (simply calls K) (leaves M (happens (card_codec q.edition) sd O x))
      go true n =
          let k = numbered_fits sd q keeps.coded keeps.dialogue h e v j n in
          let t = ended j n in
          let ey : [] ≡ cond (brings q.edition e).body B [] = rw hb in
          subst (λ (z : Bool). OutRel (KeepsAt q.edition sd) (Carries q.edition sd) (simply calls K)
          (leaves M (cond z (taken (card_codec q.edition) sd O [] 0 x) C.refused))) (sym n)
          (taken_rel q.edition sd (brings q.edition e) M O B K t k bodied unheld [] ey calls x f 0 (sent_of K)
          (sent_plain q.edition sd (brings q.edition e).user O.apdu (marked_entry K) M (enc q.edition sd O.apdu []) [] 0 O.invoked t.primitive k.apdu (k.invokes ∙ hm)
          (entry_is q.edition sd (brings q.edition e) M O B K t k bodied unheld [] ey)))
      go false n =
          subst (λ (z : Bool). OutRel (KeepsAt q.edition sd) (Carries q.edition sd) (simply calls K)
          (leaves M (cond z (taken (card_codec q.edition) sd O [] 0 x) C.refused))) (sym n)
          (subst (λ (z : Bool). OutRel (KeepsAt q.edition sd) (Carries q.edition sd) (cond z (C.acts (record { bytes = K.kept; calls = suc calls }) (handed_of K) (sent_of K)) C.refused) C.refused) (sym (concluded_refused r w.first w.second q.edition sd M O li lm lc d n)) tt)
