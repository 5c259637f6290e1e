-- What a call that was taken leaves, read as the host reads it: the record's bytes, the primitive, the APDU's bytes and the message data are those of
-- the machine's outcome.
-- Assumes nothing.
use mathlib.Core.Path.{◌≡◌, refl, ap, sym, subst, ◌∙◌}
use mathlib.Core.Bool.{Bool, true, false, not, cond, ◌&&◌, ◌||◌}
use mathlib.Core.List.{List, [], ◌∷◌, ◌++◌}
use Prim.Native.Nat.{ℕ, ◌+◌, ◌*◌, ◌^◌, ◌%◌, ◌≤◌, ◌<◌}
use native.Mathlib.Omega.{arith}
use lib.Dec.{T, eqb}
use borrow.Author.Tests.{eq-eqb, le-leb, lt-ltb}
use lib.ListN.{length, take}
use lib.Seq.{take_at}
use Rattle.bits.specs.Bits.{bits_n, bits_of, bits_to}
use Rattle.bits.proofs.Numbers.{Bits}
use Rattle.editions.specs.declared.Edition.{Edition}
use Rattle.apdu.specs.Sizes.{buffer_least}
use Rattle.apdu.specs.Pdus.{lent, content_in, pdu_in}
use Rattle.apdu.specs.Encoding.{mode_bits, alternative, padded, bytes_for, padding}
use Rattle.apdu.specs.Writing.{Done, write_out, data_fits}
use Rattle.control.specs.Control.{awaits_response}
use Rattle.apdu.specs.declared.Apdu.{Apdu}
use Rattle.apdu.specs.declared.Apdu.TheVariants as is
use Rattle.apdu.specs.declared.Kind.TheVariants as kind
use Rattle.apdu.proofs.Theorems.{front, writes}
use Rattle.codec.specs.Codec.{content_bits, pdu_bits, apdu_fits}
use Rattle.codec.proofs.Stated.{content_fits}
use Rattle.codec.proofs.Instance.{laws}
use Rattle.machine.specs.Codes.{security_values, versions}
use Rattle.machine.specs.Outcome.{is_none, refusal_number}
use Rattle.machine.specs.declared.event.Qos.{Qos}
use Rattle.machine.specs.UserData.{is_send}
use Rattle.machine.specs.declared.record.Record.{Record}
use Rattle.machine.specs.declared.event.UserData.{UserData}
use Rattle.machine.specs.declared.event.UserData.TheVariants.{Absent, NotValid, Start, Send, AbortUser, AbortProvider, Forward, ForwardResponse}
use Rattle.machine.specs.declared.outcome.StepRefusal.{StepRefusal}
use Rattle.machine.specs.declared.outcome.StepRefusal.TheVariants.{Shape, Stale, Prohibited, NoMessage, Repeat}
use Rattle.machine.specs.declared.outcome.Invoked.{Invoked}
use Rattle.machine.specs.declared.outcome.Invoked.TheVariants.{DStartRequest, DStartResponse, DDataRequest, DEndRequest, DEndResponse, DAbortRequest, DStartForwardRequest, DStartForwardResponse}
use Rattle.machine.specs.declared.outcome.Told.{Told}
use Rattle.machine.specs.declared.outcome.Told.TheVariants.{StartIndication, StartConfirmation, MessageIndication, EndIndication, EndConfirmation, UserAbortIndication, ProviderAbortIndication, ForwardIndication, ForwardConfirmation}
use Rattle.machine.specs.declared.outcome.Outcome.{Outcome}
use Rattle.stored.specs.Stored.{record_bytes, flag, load_at, store_at, is_stored}
use Rattle.packed.specs.Packed.{refusals, codes, primitives, counts, packed, invoked_number, told_number, version_number}
use Rattle.step.specs.Call.{Carried, Called, passes, pdus_of, bits_of_written, nothing_to, pdu_to, first_takes, second_takes, finished, concluded}
use Rattle.stored.proofs.Storing.{length_stored, loaded_stored}
use Rattle.packed.proofs.Unpacked.{invoked_low, told_low, refusal_unpacked, invoked_unpacked, told_unpacked, sent_unpacked, given_unpacked, code_unpacked, parameter_unpacked, last_unpacked}
use Rattle.step.proofs.Taken.{never, Coded, writable, with_body, Brings, GoesOut, Roomy, quiet, Fit}
use Rattle.pair.specs.Names.{Side}
use Rattle.pair.specs.Carrier.{Body}
use Rattle.pair.proofs.StepMachine.{handed_by}
use Rattle.card_pair.specs.Answered.{is_taken, invoked_part, told_part_of, sent_bits, given_bits, invoked_of, entry_of, data_in, handed_of}
use Rattle.card_pair.specs.CardMachine.{in_record}
use Rattle.card_pair.proofs.Codec.{apdu_bits, zeros, full, front_of, enc}
use Rattle.std.specs.Prelude.{None, Option, Some}
use Rattle.stored.specs.declared.Stored.{Stored}

-- ---- a buffer: bs were written to it

pub record Wrote (bs : List ℕ) (x : Done) : Type 0 where
  pub count : bits_of_written x.answer ≡ length bs
  pub bytes : lent (take (bytes_for (length bs)) x.bytes) ≡ padded bs
  pub zeroed : lent (front_of zeros bs) ≡ padded bs
  pub small : length bs < counts

write_is : (ok : Bool) (s bs : List ℕ) → ok ≡ true → Bits bs → length bs + 7 ≤ 8 * buffer_least → buffer_least ≤ length s
    → Wrote bs (write_out ok s bs)
write_is ok s bs e b h g = rw (e, writes s bs g) (record { count = refl; bytes = (front s bs b h g).bits; zeroed = (front zeros bs b h full).bits; small = omega arith })

nothing_is : (s : List ℕ) → Wrote [] (nothing_to s)
unfolding bits_to bits_of padded bits_n
nothing_is s = record { count = refl; bytes = refl; zeroed = refl; small = omega arith }

module _ (ed : Edition) (sd : Side) (li lm lc : List ℕ) (d : Carried) (hi : Bits li) (hm : Bits lm) (hc : Bits lc) (sh : data_fits li lm lc d.content ≡ true) where
  abbrev pub body : Body
  body = content_bits ed (content_in li lm lc d.content)

  body_bits : Bits (content_bits ed (content_in li lm lc d.content))
  body_bits = (laws ed).content_are_bits li lm lc d.content hi hm hc

  pdu_is : (a : Apdu) (s : List ℕ) → apdu_fits ed (pdus_of sd) li lm lc a ≡ true → buffer_least ≤ length s
      → Wrote (pdu_bits ed (pdus_of sd) (pdu_in li lm lc a)) (pdu_to ed (pdus_of sd) li lm lc a s)
  pdu_is a s e g =
      let m = (laws ed).pdu_most_is (pdus_of sd) li lm lc a e in
      write_is (apdu_fits ed (pdus_of sd) li lm lc a) s (pdu_bits ed (pdus_of sd) (pdu_in li lm lc a)) e
      ((laws ed).pdu_are_bits (pdus_of sd) li lm lc a hi hm hc) (omega arith) g

  -- the first buffer takes an APDU that is writable; message data that go out in it are the side's own
  first_is : (a : UserData) (s : List ℕ) → writable ed sd a ≡ true
      → (with_body a ≡ true → content_fits ed (pdus_of sd) (content_in li lm lc d.content) ≡ true)
      → buffer_least ≤ length s → Wrote (apdu_bits ed sd a body) (first_takes ed sd li lm lc d a s)
  unfolding first_takes apdu_bits pdu_bits pdu_in apdu_fits
  first_is Absent s e own g = nothing_is s
  first_is NotValid s e own g = never e
  first_is (Start m) s e own g =
      subst (λ (z : List ℕ). Wrote (alternative (pdus_of sd) kind.Start ++ (mode_bits (pdus_of sd) (flag m) ++ z))
      (first_takes ed sd li lm lc d (Start m) s))
      ((laws ed).start_of_is (pdus_of sd) (content_in li lm lc d.content) (own refl) body_bits)
      (pdu_is (is.Start (flag m) d.content) s (rw (e, sh)) g)
  first_is Send s e own g = pdu_is (is.Send d.content) s sh g
  first_is (AbortUser x) s e own g = pdu_is (is.AbortUser x) s e g
  first_is (AbortProvider x) s e own g = pdu_is (is.AbortProvider x) s e g
  first_is Forward s e own g = never e
  first_is (ForwardResponse x) s e own g = never e

  absent_is : (a : UserData) (s : List ℕ) → a ≡ Absent → Wrote (apdu_bits ed sd a body) (first_takes ed sd li lm lc d a s)
  unfolding first_takes apdu_bits
  absent_is a s e = subst (λ (z : UserData). Wrote (apdu_bits ed sd z body) (first_takes ed sd li lm lc d z s)) (sym e) (nothing_is s)

  goes_is : (u : Bool) (i : Option Invoked) (a : UserData) (s : List ℕ) → GoesOut ed u sd i a
      → (with_body a ≡ true → content_fits ed (pdus_of sd) (content_in li lm lc d.content) ≡ true)
      → buffer_least ≤ length s → Wrote (apdu_bits ed sd a body) (first_takes ed sd li lm lc d a s)
  goes_is u None a s h own g = absent_is a s h.1
  goes_is u (Some (DStartRequest q x)) a s h own g = first_is a s h own g
  goes_is u (Some (DStartResponse x y)) a s h own g = first_is a s h own g
  goes_is u (Some DDataRequest) a s h own g = first_is a s h own g
  goes_is u (Some DEndRequest) a s h own g = first_is a s h own g
  goes_is u (Some (DEndResponse x)) a s h own g = first_is a s h own g
  goes_is u (Some (DAbortRequest o)) a s h own g = first_is a s h own g
  goes_is u (Some (DStartForwardRequest q x v)) a s h own g = absurd h
  goes_is u (Some (DStartForwardResponse x v)) a s h own g = absurd h

  -- the second takes message data that are delivered
  second_is : (passed delivers : Bool) (s : List ℕ) → passed ≡ false → buffer_least ≤ length s
      → Wrote (cond delivers body []) (second_takes ed li lm lc d passed delivers s)
  unfolding second_takes
  second_is true delivers s e g = absurd (subst T e tt)
  second_is false true s e g =
      let m = (laws ed).content_most_is li lm lc d.content sh in
      write_is (data_fits li lm lc d.content) s body sh body_bits (omega arith) g
  second_is false false s e g = nothing_is s

-- ---- the number's parts

invoked_back : (i : Option Invoked) → Roomy i → invoked_of (invoked_number i) ≡ i
unfolding invoked_number
invoked_back None h = refl
invoked_back (Some (DStartRequest q s)) h =
    rw (
      code_unpacked 1 q.routing s (omega arith),
      parameter_unpacked 1 q.routing s (omega arith) h.1,
      last_unpacked 1 q.routing s (omega arith) h.2,
    ) (ap (λ (z : Qos). Some (DStartRequest z s)) (sym h.0))
invoked_back (Some (DStartResponse x s)) h = rw (
  code_unpacked 2 x s (omega arith),
  parameter_unpacked 2 x s (omega arith)
      h.0,
  last_unpacked 2 x s (omega arith) h.1,
)
invoked_back (Some DDataRequest) h = refl
invoked_back (Some DEndRequest) h = refl
invoked_back (Some (DEndResponse x)) h = rw (code_unpacked 5 x 0 (omega arith), parameter_unpacked 5 x 0 (omega arith) h)
invoked_back (Some (DAbortRequest o)) h = rw (code_unpacked 6 o 0 (omega arith), parameter_unpacked 6 o 0 (omega arith) h)
invoked_back (Some (DStartForwardRequest q s v)) h = absurd h
invoked_back (Some (DStartForwardResponse s v)) h = absurd h

-- a message indication is told
abbrev is_message : ℕ → Bool
is_message t = eqb (t % codes) 3

told_back : (t : Option Told) → is_message (told_number t) ≡ not (quiet t)
unfolding told_number
told_back None = refl
told_back (Some (StartIndication m k)) = rw (code_unpacked 1 k (flag m) (omega arith))
told_back (Some (StartConfirmation m x)) = rw (code_unpacked 2 x (flag m) (omega arith))
told_back (Some MessageIndication) = refl
told_back (Some (EndIndication m)) = rw (code_unpacked 4 0 (flag m) (omega arith))
told_back (Some (EndConfirmation m x)) = rw (code_unpacked 5 x (flag m) (omega arith))
told_back (Some (UserAbortIndication x)) = rw (code_unpacked 6 x 0 (omega arith))
told_back (Some (ProviderAbortIndication x)) = rw (code_unpacked 7 x 0 (omega arith))
told_back (Some ForwardIndication) = refl
told_back (Some (ForwardConfirmation x v)) = rw (code_unpacked 9 x 0 (omega arith))

-- ---- the record

-- the dialogue number in it
abbrev pub number_in : Option Stored → ℕ
number_in l = in_record (λ (r : Record) (n : ℕ). n) 0 l

-- the bytes b are those of the record r at side sd and of edition ed, which holds the dialogue number n
pub record Keeps (ed : Edition) (sd : Side) (b : List ℕ) (r : Record) (n : ℕ) : Type 0 where
  pub load : load_at b ≡ is_stored sd r n
  pub edition : r.edition ≡ ed
  pub size : length b ≡ record_bytes
  pub coded : Coded r
  pub low : n < 2 ^ 64
  -- no forward is under way
  pub dialogue : awaits_response r.control ≡ false

pub stored_keeps : (ed : Edition) (sd : Side) (r : List ℕ) (x : Record) (n : ℕ) → length r ≡ record_bytes → Coded x
    → n < 2 ^ 64 → awaits_response x.control ≡ false → x.edition ≡ ed → Keeps ed sd (store_at r sd x n).bytes x n
unfolding store_at
stored_keeps ed sd r x n h k l w e =
    rw (
      eq-eqb (length r) record_bytes h,
      lt-ltb x.request security_values k.request,
      lt-ltb x.policy
          security_values k.policy,
      le-leb 1 x.version k.least,
      lt-ltb x.version versions k.most,
    )
    (record { load = loaded_stored sd x n k l; edition = e; size = length_stored sd x n k l; coded = k; low = l; dialogue = w })

-- ---- all of it

-- b: the message data that the APDU was made with, and that are delivered; m: the dialogue number that the record holds now
pub record Ended (ed : Edition) (sd : Side) (v : Brings) (m : ℕ) (o : Outcome) (b : Body) (c : Called) : Type 0 where
  pub taken : is_taken c.number ≡ true
  pub keeps : Keeps ed sd c.kept o.next m
  pub primitive : (entry_of c).primitive ≡ o.invoked
  pub bits : lent (entry_of c).bytes ≡ lent (enc ed sd o.apdu b)
  pub handed : (x : Body) → (is_send v.apdu ≡ true → b ≡ x) → handed_of c ≡ cond o.delivers (handed_by o.told x) []

take_padded : (bs : List ℕ) → take (length bs) (padded bs) ≡ bs
unfolding padded
take_padded bs = take_at bs (bits_n (padding (length bs)) 0) (length bs) refl

handed_told : (t : Option Told) (delivers sends : Bool) (b x z : Body) → (quiet t || (delivers && sends)) ≡ true
    → (delivers ≡ true → z ≡ b) → (sends ≡ true → b ≡ x)
    → cond (not (quiet t)) (z ∷ []) [] ≡ cond delivers (handed_by t x) []
handed_told None true s b x z h e f = refl
handed_told None false s b x z h e f = refl
handed_told (Some (StartIndication m k)) true s b x z h e f = refl
handed_told (Some (StartIndication m k)) false s b x z h e f = refl
handed_told (Some (StartConfirmation m k)) true s b x z h e f = refl
handed_told (Some (StartConfirmation m k)) false s b x z h e f = refl
handed_told (Some MessageIndication) true s b x z h e f = ap (λ (y : Body). y ∷ []) (e refl ∙ f h)
handed_told (Some MessageIndication) false s b x z h e f = never h
handed_told (Some (EndIndication m)) true s b x z h e f = refl
handed_told (Some (EndIndication m)) false s b x z h e f = refl
handed_told (Some (EndConfirmation m k)) true s b x z h e f = refl
handed_told (Some (EndConfirmation m k)) false s b x z h e f = refl
handed_told (Some (UserAbortIndication k)) true s b x z h e f = refl
handed_told (Some (UserAbortIndication k)) false s b x z h e f = refl
handed_told (Some (ProviderAbortIndication k)) true s b x z h e f = refl
handed_told (Some (ProviderAbortIndication k)) false s b x z h e f = refl
handed_told (Some ForwardIndication) true s b x z h e f = refl
handed_told (Some ForwardIndication) false s b x z h e f = refl
handed_told (Some (ForwardConfirmation k v)) true s b x z h e f = refl
handed_told (Some (ForwardConfirmation k v)) false s b x z h e f = refl

module _ (i t s g v : ℕ) (hi : i < primitives) (ht : t < primitives) (hs : s < counts) (hg : g < counts) where
  pub is_taken_is : is_taken (packed i t s g v) ≡ true
  is_taken_is = eq-eqb (packed i t s g v % refusals) 0 (refusal_unpacked i t s g v)

  pub invoked_part_is : invoked_part (packed i t s g v) ≡ i
  invoked_part_is = invoked_unpacked i t s g v hi

  pub told_part : told_part_of (packed i t s g v) ≡ t
  told_part = told_unpacked i t s g v hi ht

  pub sent_part : sent_bits (packed i t s g v) ≡ s
  sent_part = sent_unpacked i t s g v hi ht hs

  pub given_part : given_bits (packed i t s g v) ≡ g
  given_part = given_unpacked i t s g v hi ht hg

-- from what the two buffers took
module _ (r a b : List ℕ) (ed : Edition) (sd : Side) (v : Brings) (m : ℕ) (o : Outcome) (y : Body) (one two : Done) (size : length r ≡ record_bytes) (low : m < 2 ^ 64) (k : Fit ed sd v o) (w : Wrote (apdu_bits ed sd o.apdu y) one) (z : Wrote (cond o.delivers y []) two) where
  abbrev N : ℕ
  N = packed (invoked_number o.invoked) (told_number o.told) (length (apdu_bits ed sd o.apdu y))
      (length (cond o.delivers y [])) (version_number o.invoked o.told)

  hi : invoked_number o.invoked < primitives
  hi = invoked_low o.invoked

  ht : told_number o.told < primitives
  ht = told_low o.told

  number_is : (finished r a b sd m o one two).number ≡ N
  unfolding finished
  number_is = rw (w.count, z.count)

  number_taken : is_taken (finished r a b sd m o one two).number ≡ true
  number_taken = ap is_taken number_is ∙ is_taken_is _ _ _ _ _ hi ht w.small z.small

  number_sent : sent_bits (finished r a b sd m o one two).number ≡ length (apdu_bits ed sd o.apdu y)
  number_sent = ap sent_bits number_is ∙ sent_part _ _ _ _ _ hi ht w.small z.small

  number_given : given_bits (finished r a b sd m o one two).number ≡ length (cond o.delivers y [])
  number_given = ap given_bits number_is ∙ given_part _ _ _ _ _ hi ht w.small z.small

  number_invoked : invoked_of (invoked_part (finished r a b sd m o one two).number) ≡ o.invoked
  number_invoked = ap (λ (n : ℕ). invoked_of (invoked_part n)) number_is ∙ ap invoked_of
      (invoked_part_is _ _ _ _ _ hi ht w.small z.small) ∙ invoked_back o.invoked k.roomy

  number_told : is_message (told_part_of (finished r a b sd m o one two).number) ≡ not (quiet o.told)
  number_told = ap (λ (n : ℕ). is_message (told_part_of n)) number_is ∙ ap is_message
      (told_part _ _ _ _ _ hi ht w.small z.small) ∙ told_back o.told

  -- the message data in the second buffer
  data_is : data_in (finished r a b sd m o one two) ≡ cond o.delivers y []
  unfolding finished
  data_is = ap (λ (n : ℕ). take n (lent (take (bytes_for n) two.bytes))) number_given ∙ ap
      (take (length (cond o.delivers y []))) z.bytes ∙ take_padded (cond o.delivers y [])

  finished_is : Ended ed sd v m o y (finished r a b sd m o one two)
  unfolding finished
  finished_is =
      record {
        taken = number_taken;
        keeps = stored_keeps ed sd r o.next m size k.coded low k.dialogue k.edition;
        primitive = number_invoked;
        bits = ap (λ (n : ℕ). lent (take (bytes_for n) one.bytes)) number_sent ∙ w.bytes ∙ sym w.zeroed;
        handed = λ (x : Body) (f : is_send v.apdu ≡ true → y ≡ x).
            ap (λ (t : Bool). cond t (data_in (finished r a b sd m o one two) ∷ []) []) number_told
            ∙ handed_told o.told o.delivers (is_send v.apdu) y x (data_in (finished r a b sd m o one two))
            k.told (λ (e : o.delivers ≡ true). data_is ∙ ap (λ (t : Bool). cond t y []) e) f;
      }

-- a step that was taken
pub concluded_is : (r a b : List ℕ) (ed : Edition) (sd : Side) (v : Brings) (m : ℕ) (o : Outcome) (li lm lc : List ℕ) (d : Carried)
    → buffer_least ≤ length a → buffer_least ≤ length b → length r ≡ record_bytes → m < 2 ^ 64 → Bits li → Bits lm
    → Bits lc → data_fits li lm lc d.content ≡ true
    → (v.body ≡ true → content_fits ed (pdus_of sd) (content_in li lm lc d.content) ≡ true) → is_none o.refusal ≡
    true → Fit ed sd v o → Ended ed sd v m o (content_bits ed (content_in li lm lc d.content))
    (concluded r a b ed sd m o li lm lc d)
unfolding concluded
concluded_is r a b ed sd v m o li lm lc d ha hb size low hi hm hc sh own n k =
    rw n (finished_is r a b ed sd v m o (content_bits ed (content_in li lm lc d.content)) (first_takes ed sd li lm lc d o.apdu a) (second_takes ed li lm lc d (passes o.told) o.delivers b) size low k
    (goes_is ed sd li lm lc d hi hm hc sh v.user o.invoked o.apdu a k.apdu
    (λ (e : with_body o.apdu ≡ true). own (sym k.body ∙ e)) ha)
    (second_is ed sd li lm lc d hi hm hc sh (passes o.told) o.delivers b k.plain hb))

refusal_told : (w : Option StepRefusal) → is_none w ≡ false → is_taken (refusal_number w) ≡ false
refusal_told None e = never (sym e)
refusal_told (Some Shape) e = refl
refusal_told (Some Stale) e = refl
refusal_told (Some Prohibited) e = refl
refusal_told (Some NoMessage) e = refl
refusal_told (Some Repeat) e = refl

-- one that was refused
pub concluded_refused : (r a b : List ℕ) (ed : Edition) (sd : Side) (m : ℕ) (o : Outcome) (li lm lc : List ℕ) (d : Carried)
    → is_none o.refusal ≡ false → is_taken (concluded r a b ed sd m o li lm lc d).number ≡ false
unfolding concluded
concluded_refused r a b ed sd m o li lm lc d n = rw n (refusal_told o.refusal n)
