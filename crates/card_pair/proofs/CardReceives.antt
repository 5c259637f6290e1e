-- An entry that is handed over does at the record's bytes what it does at the record: its bytes are read as the side that sent them wrote them.
-- Assumes nothing.
use mathlib.Core.Path.{◌≡◌, refl, ap, sym, subst, ◌∙◌}
use mathlib.Core.Bool.{Bool, true, false, cond}
use mathlib.Core.List.{List, [], ◌∷◌}
use Prim.Native.Nat.{ℕ, ◌^◌, ◌<◌}
use native.Mathlib.Omega.{arith}
use lib.Dec.{eqb}
use lib.ListN.{length}
use Rattle.words.proofs.Laws.{both_right}
use Rattle.bits.proofs.Numbers.{Bits}
use Rattle.bits.proofs.Bytes.{bits_to_is, length_to}
use Rattle.apdu.specs.Sizes.{all_bits}
use Rattle.apdu.specs.Pdus.{lent, content_in, pdu_in}
use Rattle.apdu.specs.Encoding.{mode_fits}
use Rattle.apdu.specs.Writing.{data_fits}
use Rattle.pdus.specs.declared.PduType.{PduType}
use Rattle.pdus.specs.declared.PduType.TheVariants as pdu
use Rattle.apdu.specs.declared.Apdu.TheVariants as is
use Rattle.editions.specs.declared.Edition.{Edition}
use Rattle.codec.specs.Codec.{content_bits, apdu_fits, apdu_at}
use Rattle.codec.proofs.Instance.{laws}
use Rattle.machine.specs.Codes.{provider}
use Rattle.machine.specs.UserData.{is_send}
use Rattle.machine.specs.declared.record.Record.{Record}
use Rattle.machine.specs.declared.event.UserData.{UserData}
use Rattle.machine.specs.declared.event.UserData.TheVariants.{Absent}
use Rattle.machine.specs.declared.event.ServicePrimitive.{ServicePrimitive}
use Rattle.machine.specs.declared.event.Event.TheVariants.{Service}
use Rattle.machine.specs.declared.outcome.Invoked.{Invoked}
use Rattle.machine.specs.declared.outcome.Invoked.TheVariants.{DStartRequest, DStartResponse, DDataRequest, DEndRequest, DEndResponse, DAbortRequest, DStartForwardRequest, DStartForwardResponse}
use Rattle.machine.specs.declared.outcome.Outcome.{Outcome}
use Rattle.numbered.specs.Numbers.{numbered_step}
use Rattle.step.specs.Call.{Called, pdus_of, no_data, carries_data, carried_by, reads_as, reads_again, or_abort, read_pdu, meaning, data_of, event_step, data_step, bare_step, service_step, service_call, service_by}
use Rattle.step.proofs.Taken.{never, JobLow, is_dialogue}
use Rattle.pair.specs.Names.{Side, Air, Ground, Control, awaits_response, other}
use Rattle.pair.specs.Carrier.{Body}
use Rattle.pair.specs.Numbered.{Numbered, mark}
use Rattle.pair.specs.Wires.{Wire, arrives}
use Rattle.pair.proofs.NumberedStepAgrees.{numberedly}
use Rattle.pair.proofs.StepMachine.{Read, apdu_of, body_of, happens}
use Rattle.pair.proofs.Agree.{OutRel}
use Rattle.card_pair.specs.CardMachine.{Buffers, held_by, simply, given_of}
use Rattle.card_pair.proofs.Codec.{read_of, dec, is_read, card_codec}
use Rattle.card_pair.proofs.Ends.{number_in, Keeps}
use Rattle.card_pair.proofs.Entries.{readable, KeepsAt, Carries, happens_rel}
use Rattle.card_pair.proofs.CardCalls.{entered, itself, none_fits}
use Rattle.std.specs.Prelude.{Err, Ok, Result, None, Option, Some}
use Rattle.fields.specs.declared.Refusal.{Refusal}
use Rattle.apdu.specs.declared.Apdu.{Apdu}

-- ---- one reading is enough

or_first : (x y : Result Apdu Refusal) → is_read x ≡ true → or_abort x y ≡ x
unfolding or_abort
or_first (Ok a) y e = refl
or_first (Err r) y e = never e

-- a D-ABORT of a provider
again : (b : Bool) (x y : Result Apdu Refusal) → is_read x ≡ true → cond b (or_abort x y) x ≡ x
again true x y e = or_first x y e
again false x y e = refl

pub reads_once : (ed : Edition) (sd : Side) (c : Control) (i : Option Invoked) (l : List ℕ) → awaits_response c ≡ false
    → is_dialogue i ≡ true → is_read (apdu_at ed (pdus_of (other sd)) l) ≡ true
    → read_pdu ed sd c (arrives sd i) l ≡ apdu_at ed (pdus_of (other sd)) l
unfolding read_pdu reads_as reads_again
reads_once ed Air c i l w d e = refl
reads_once ed Ground c None l w d e = refl
reads_once ed Ground c (Some (DStartRequest q s)) l w d e = refl
reads_once ed Ground c (Some (DStartResponse x s)) l w d e = ap (λ (b : Bool). apdu_at ed (cond b pdu.GroundPdus pdu.AircraftPdus) l) w
reads_once ed Ground c (Some DDataRequest) l w d e = refl
reads_once ed Ground c (Some DEndRequest) l w d e = refl
reads_once ed Ground c (Some (DEndResponse x)) l w d e = refl
reads_once ed Ground c (Some (DAbortRequest o)) l w d e = again (eqb o provider) (apdu_at ed pdu.AircraftPdus l) (apdu_at ed pdu.GroundPdus l) e
reads_once ed Ground c (Some (DStartForwardRequest q s v)) l w d e = never d
reads_once ed Ground c (Some (DStartForwardResponse s v)) l w d e = never d

-- what the other end of a dialogue sends is no start of a centre
arrives_low : (sd : Side) (i : Option Invoked) (a : UserData) → is_dialogue i ≡ true → JobLow sd (Service (arrives sd i) a)
arrives_low sd None a d = tt
arrives_low Air (Some (DStartRequest q s)) a d = refl
arrives_low Ground (Some (DStartRequest q s)) a d = refl
arrives_low sd (Some (DStartResponse x s)) a d = tt
arrives_low sd (Some DDataRequest) a d = tt
arrives_low sd (Some DEndRequest) a d = tt
arrives_low sd (Some (DEndResponse x)) a d = tt
arrives_low sd (Some (DAbortRequest o)) a d = tt
arrives_low sd (Some (DStartForwardRequest q s v)) a d = never d
arrives_low sd (Some (DStartForwardResponse s v)) a d = tt

-- ---- the APDU and its message data

apdu_same : (ed : Edition) (l : List ℕ) (x : Result Apdu Refusal) → meaning x ≡ apdu_of (read_of ed l x)
unfolding meaning pdu_in
apdu_same ed l (Err r) = refl
apdu_same ed l (Ok (is.AbortUser r)) = refl
apdu_same ed l (Ok (is.AbortProvider r)) = refl
apdu_same ed l (Ok (is.Start m d)) = refl
apdu_same ed l (Ok (is.Send d)) = refl
apdu_same ed l (Ok (is.Forward f)) = refl
apdu_same ed l (Ok (is.ForwardResponse y)) = refl

body_same : (ed : Edition) (l : List ℕ) (x : Result Apdu Refusal) → is_send (meaning x) ≡ true
    → content_bits ed (content_in l l l (data_of x)) ≡ body_of (read_of ed l x)
unfolding meaning data_of pdu_in
body_same ed l (Err r) e = never e
body_same ed l (Ok (is.AbortUser r)) e = never e
body_same ed l (Ok (is.AbortProvider r)) e = never e
body_same ed l (Ok (is.Start m d)) e = never e
body_same ed l (Ok (is.Send d)) e = refl
body_same ed l (Ok (is.Forward f)) e = never e
body_same ed l (Ok (is.ForwardResponse y)) e = never e

-- message data that were read are within the sizes
data_fits_is : (ed : Edition) (pdus : PduType) (l : List ℕ) → Bits l → (x : Result Apdu Refusal) → apdu_at ed pdus l ≡ x → data_fits l l l (data_of x) ≡ true
unfolding data_of apdu_fits
data_fits_is ed pdus l b (Err r) e = none_fits l l l
data_fits_is ed pdus l b (Ok (is.AbortUser r)) e = none_fits l l l
data_fits_is ed pdus l b (Ok (is.AbortProvider r)) e = none_fits l l l
data_fits_is ed pdus l b (Ok (is.Start m d)) e = both_right (mode_fits pdus m) (data_fits l l l d)
    ((laws ed).accepted pdus l (is.Start m d) b e).placed_fits
data_fits_is ed pdus l b (Ok (is.Send d)) e = ((laws ed).accepted pdus l (is.Send d) b e).placed_fits
data_fits_is ed pdus l b (Ok (is.Forward f)) e = none_fits l l l
data_fits_is ed pdus l b (Ok (is.ForwardResponse y)) e = none_fits l l l

-- ---- equal bits

-- bytes with bits are some
some_bits : {A : Type 0} (x : ℕ) (w : List ℕ) → length (lent (x ∷ w)) ≡ 0 → A
some_bits x w e = absurd (let n = length_to (x ∷ w) all_bits in omega arith)

no_length : length (lent []) ≡ 0
no_length = let n = length_to [] all_bits in omega arith

-- are read alike
read_alike : (ed : Edition) (sd : Side) (w u : List ℕ) → lent w ≡ lent u → dec ed sd w ≡ dec ed sd u
read_alike ed sd [] [] e = refl
read_alike ed sd [] (y ∷ u) e = some_bits y u (ap length (sym e) ∙ no_length)
read_alike ed sd (x ∷ w) [] e = some_bits x w (ap length e ∙ no_length)
read_alike ed sd (x ∷ w) (y ∷ u) e = ap (λ (l : List ℕ). read_of ed l (apdu_at ed (pdus_of sd) l)) e

readable_alike : (ed : Edition) (sd : Side) (w u : List ℕ) → lent w ≡ lent u → readable ed sd w ≡ readable ed sd u
readable_alike ed sd [] [] e = refl
readable_alike ed sd [] (y ∷ u) e = some_bits y u (ap length (sym e) ∙ no_length)
readable_alike ed sd (x ∷ w) [] e = some_bits x w (ap length e ∙ no_length)
readable_alike ed sd (x ∷ w) (y ∷ u) e = ap (λ (l : List ℕ). is_read (apdu_at ed (pdus_of sd) l)) e

-- ---- calls

module _ (n : ℕ) (r : List ℕ) (w : Buffers) (sd : Side) (q : Record) (h : ℕ) (keeps : Keeps q.edition sd r q h) where
  abbrev at : Edition
  at = q.edition

  -- the call c does what the primitive p with the dialogue number v, the APDU a and the message data x does at the record
  abbrev Does : Called → ServicePrimitive → ℕ → UserData → Body → Type 0
  Does c p v a x = OutRel (KeepsAt at sd) (Carries at sd) (simply n c)
      (numberedly sd (mark h q) (Service p a) v (λ (o : Outcome). happens (card_codec at) sd o x))

  -- the call when the user data in the bits l is read as x
  abbrev Read_as : Option Invoked → ℕ → List ℕ → Result Apdu Refusal → Called
  Read_as i v l x = event_step numbered_step r w.first w.second (Service (arrives sd i) (meaning x)) v l l l (carried_by x) sd q h

  reading : (i : Option Invoked) (v : ℕ) (l : List ℕ) (x : Result Apdu Refusal) → is_dialogue i ≡ true → v < 2 ^ 64 → Bits l
      → data_fits l l l (data_of x) ≡ true
      → Does (Read_as i v l x) (arrives sd i) v (apdu_of (read_of at l x)) (body_of (read_of at l x))
  reading i v l x z lv b sh =
      subst (λ (a : UserData). Does (Read_as i v l x) (arrives sd i) v a (body_of (read_of at l x))) (apdu_same at l x)
      (happens_rel r w sd q h (Service (arrives sd i) (meaning x)) v l l l (carried_by x) keeps lv b b b sh
      (λ y. never y) n (body_of (read_of at l x)) (arrives_low sd i (meaning x) z) refl refl refl
      (body_same at l x))

  -- as the other side wrote it
  abbrev heard : List ℕ → Result Apdu Refusal
  heard l = apdu_at at (pdus_of (other sd)) l

  received : (i : Option Invoked) (v : ℕ) (s : List ℕ) → is_dialogue i ≡ true → v < 2 ^ 64 → is_read (heard (lent s)) ≡ true
      → Does (service_call r w.first w.second (arrives sd i) v 1 s) (arrives sd i) v (apdu_of (read_of at (lent s) (heard (lent s)))) (body_of (read_of at (lent s) (heard (lent s))))
  unfolding service_by service_step data_step
  received i v s z lv e =
      subst (λ (c : Called). Does c (arrives sd i) v (apdu_of (read_of at (lent s) (heard (lent s))))
      (body_of (read_of at (lent s) (heard (lent s))))) (sym (entered at r w sd q h keeps
      (service_step numbered_step r w.first w.second (arrives sd i) v 1 (lent s))))
      (subst (λ (x : Result Apdu Refusal). Does (Read_as i v (lent s) x) (arrives sd i) v (apdu_of (read_of at (lent s) (heard (lent s)))) (body_of (read_of at (lent s) (heard (lent s))))) (sym (reads_once at sd q.control i (lent s) keeps.dialogue z e))
      (reading i v (lent s) (heard (lent s)) z lv (bits_to_is s all_bits)
      (data_fits_is at (pdus_of (other sd)) (lent s) (bits_to_is s all_bits) (heard (lent s)) refl)))

  -- without user data
  bare_rel : (p : ServicePrimitive) (v : ℕ) → JobLow sd (Service p Absent) → v < 2 ^ 64
      → Does (service_call r w.first w.second p v 0 []) p v Absent []
  unfolding service_by service_step bare_step
  bare_rel p v j lv =
      subst (λ (c : Called). Does c p v Absent [])
      (sym (entered at r w sd q h keeps (service_step numbered_step r w.first w.second p v 0 (lent []))))
      (happens_rel r w sd q h (Service p Absent) v (lent []) (lent []) (lent []) (carries_data no_data) keeps lv
      (bits_to_is [] all_bits) (bits_to_is [] all_bits) (bits_to_is [] all_bits) (none_fits (lent []) (lent []) (lent []))
      (λ y. never y) n [] j refl refl refl (λ g. never g))

  -- either way
  abbrev Does_as : Called → Option Invoked → ℕ → Read → Type 0
  Does_as c i v z = Does c (arrives sd i) v (apdu_of z) (body_of z)

  taken_over : (i : Option Invoked) (v : ℕ) (s : List ℕ) → is_dialogue i ≡ true → v < 2 ^ 64 → readable at (other sd) s ≡ true
      → Does_as (service_call r w.first w.second (arrives sd i) v (given_of s) s) i v (dec at (other sd) s)
  taken_over i v [] z lv e = bare_rel (arrives sd i) v (arrives_low sd i Absent z) lv
  taken_over i v (x ∷ s) z lv e = received i v (x ∷ s) z lv e

  handed_rel : (e f : Numbered Wire) → Carries at (other sd) e f
      → Does_as (service_call r w.first w.second (arrives sd e.it.primitive) e.no (given_of e.it.bytes) e.it.bytes) f.it.primitive f.no (dec at (other sd) f.it.bytes)
  handed_rel e f x =
      subst (λ (z : Read). Does_as (service_call r w.first w.second (arrives sd e.it.primitive) e.no
      (given_of e.it.bytes) e.it.bytes) f.it.primitive f.no z)
      (read_alike at (other sd) e.it.bytes f.it.bytes x.bits)
      (subst (λ (v : ℕ). Does_as (service_call r w.first w.second (arrives sd e.it.primitive) e.no (given_of e.it.bytes) e.it.bytes) f.it.primitive v (dec at (other sd) e.it.bytes)) x.number
      (subst (λ (i : Option Invoked). Does_as (service_call r w.first w.second (arrives sd e.it.primitive) e.no (given_of e.it.bytes) e.it.bytes) i e.no (dec at (other sd) e.it.bytes)) x.primitive
      (taken_over e.it.primitive e.no e.it.bytes
      (subst (λ (i : Option Invoked). is_dialogue i ≡ true) (sym x.primitive) x.dialogue)
      (subst (λ (v : ℕ). v < 2 ^ 64) (sym x.number) x.low)
      (readable_alike at (other sd) e.it.bytes f.it.bytes x.bits ∙ x.read))))

  -- what the carrier makes, with the number that the end holds
  carrier_rel : (p : ServicePrimitive) → JobLow sd (Service p Absent)
      → Does (service_call r w.first w.second p (held_by r) 0 []) p h Absent []
  carrier_rel p j = subst (λ (v : ℕ). Does (service_call r w.first w.second p v 0 []) p h Absent [])
      (sym (ap number_in keeps.load)) (bare_rel p h j keeps.low)

-- ---- at the record's edition

module _ (n : ℕ) (r : List ℕ) (w : Buffers) (ed : Edition) (sd : Side) (q : Record) (h : ℕ) (keeps : Keeps ed sd r q h) where
  pub receive_rel : (e f : Numbered Wire) → Carries ed (other sd) e f
      → OutRel (KeepsAt ed sd) (Carries ed sd) (simply n (service_call r w.first w.second (arrives sd e.it.primitive) e.no (given_of e.it.bytes) e.it.bytes)) (numberedly sd (mark h q) (Service (arrives sd f.it.primitive) (apdu_of (dec ed (other sd) f.it.bytes))) f.no (λ (o : Outcome). happens (card_codec ed) sd o (body_of (dec ed (other sd) f.it.bytes))))
  receive_rel e f =
      subst (λ (z : Edition). Carries z (other sd) e f → OutRel (KeepsAt z sd) (Carries z sd) (simply n (service_call r
      w.first w.second (arrives sd e.it.primitive) e.no (given_of e.it.bytes)
      e.it.bytes)) (numberedly sd (mark h q)
      (Service (arrives sd f.it.primitive) (apdu_of (dec z (other sd) f.it.bytes))) f.no
      (λ (o : Outcome). happens (card_codec z) sd o (body_of (dec z (other sd) f.it.bytes)))))
      keeps.edition
      (handed_rel n r w sd q h (itself ed sd r q h keeps) e f)

  pub made_rel : (p : ServicePrimitive) → JobLow sd (Service p Absent)
      → OutRel (KeepsAt ed sd) (Carries ed sd) (simply n (service_call r w.first w.second p (held_by r) 0 [])) (numberedly sd (mark h q) (Service p Absent) h (λ (o : Outcome). happens (card_codec ed) sd o []))
  made_rel p j = subst (λ (z : Edition). OutRel (KeepsAt z sd) (Carries z sd)
      (simply n (service_call r w.first w.second p (held_by r) 0 []))
      (numberedly sd (mark h q) (Service p Absent) h (λ (o : Outcome). happens (card_codec z) sd o [])))
      keeps.edition (carrier_rel n r w sd q h (itself ed sd r q h keeps) p j)
