-- An exported user call, an expiry and a system error do at the record's bytes what the machine's step does at the record.
-- Assumes nothing.
use mathlib.Core.Path.{◌≡◌, refl, ap, sym, subst, ◌∙◌}
use mathlib.Core.Bool.{Bool, true, false, not, cond, ◌&&◌}
use mathlib.Core.List.{List, [], ◌∷◌}
use Prim.Native.Nat.{ℕ, suc, ◌+◌, ◌*◌, ◌^◌, ◌<◌}
use native.Mathlib.Omega.{arith}
use borrow.Author.Tests.{le-leb}
use lib.Dec.{T, eqb}
use lib.ListN.{length}
use Rattle.bits.proofs.Bytes.{bits_to_is}
use Rattle.apdu.specs.Sizes.{all_bits, bit}
use Rattle.apdu.specs.Pdus.{lent, part_in, content_in}
use Rattle.apdu.specs.Writing.{items_fit, part_fits, data_fits}
use Rattle.pdus.specs.declared.PduType.{PduType}
use Rattle.apdu.specs.declared.Data.{Data}
use Rattle.editions.specs.Editions.{spares}
use Rattle.editions.specs.declared.Edition.{Edition}
use Rattle.editions.specs.declared.Edition.TheVariants.{Plain, Protected}
use Rattle.plain.specs.Plain as plain
use Rattle.codec.specs.Codec.{content_bits, given_fits}
use Rattle.codec.proofs.Stated.{is_there, is_given, content_fits, carries}
use Rattle.codec.proofs.Instance.{laws}
use Rattle.machine.specs.Calls.{unless_spared}
use Rattle.machine.specs.Outcome.{is_none}
use Rattle.machine.specs.UserData.{is_send}
use Rattle.machine.specs.declared.record.Record.{Record}
use Rattle.machine.specs.declared.event.UserData.{UserData}
use Rattle.machine.specs.declared.event.UserPrimitive.{UserPrimitive}
use Rattle.machine.specs.declared.event.UserPrimitive.TheVariants.{StartServiceRequest, StartServiceResponse, MessageServiceRequest, EndServiceRequest, EndServiceResponse, UserAbortServiceRequest}
use Rattle.machine.specs.declared.event.Event.{Event}
use Rattle.machine.specs.declared.event.Event.TheVariants.{User}
use Rattle.machine.specs.declared.outcome.Invoked.{Invoked}
use Rattle.machine.specs.declared.outcome.Invoked.TheVariants.{DStartRequest, DStartResponse, DDataRequest, DEndRequest, DEndResponse, DAbortRequest, DStartForwardRequest, DStartForwardResponse}
use Rattle.machine.specs.declared.outcome.Outcome.{Outcome}
use Rattle.numbered.specs.Numbers.{held_after, numbered_step}
use Rattle.stored.specs.Stored.{load_at}
use Rattle.step.specs.Call.{Called, called, pdus_of, concluded, entering, user_step, user_call, user_by, no_data, carries_data}
use Rattle.step.proofs.Calling.{with_record_is}
use Rattle.step.proofs.Taken.{never, writable, with_body, brings, GoesOut, is_ddata, JobLow, numbered_fits}
use Rattle.card.specs.Face.{no_count, part_of, given_data, plain_call, message_requested, abort_requested, holds_message}
use Rattle.pair.specs.Names.{Side}
use Rattle.pair.specs.Carrier.{Body, Sent}
use Rattle.pair.specs.Carrier as C
use Rattle.pair.specs.Numbered.{Numbered, mark}
use Rattle.pair.specs.Wires.{Wire}
use Rattle.pair.proofs.NumberedMachine.{tag, leaves}
use Rattle.pair.proofs.NumberedStepAgrees.{numberedly, step_numbered}
use Rattle.pair.proofs.StepMachine.{sent_by, taken, happens, Order, asked, data_of, job_of, calls}
use Rattle.pair.proofs.StepMachine as S
use Rattle.pair.proofs.Agree.{SentRel, OutRel, Follows, stays, does}
use Rattle.card_pair.specs.Answered.{is_taken, entry_of, handed_of}
use Rattle.card_pair.specs.CardMachine.{Buffers, Kept, Given, Asked, start_request_of, start_response_of, message_request_of, end_request_of, end_response_of, user_abort_of, in_record, edition_by, answered, body_given, marked_entry, sent_of, sent_for, left, simply}
use Rattle.card_pair.proofs.Codec.{fits, enc, card_codec}
use Rattle.card_pair.proofs.Ends.{Keeps, concluded_refused}
use Rattle.card_pair.proofs.Entries.{KeepsAt, Carries, sent_plain, sent_message, fits_y, entry_is, taken_rel, bodied, ended, happens_rel}
use Rattle.std.specs.Prelude.{None, Option, Some}
use Rattle.pdus.specs.declared.Span.{Span}

-- ---- the record is loaded, the message data are looked at, the step is taken

module _ (ed : Edition) (r : List ℕ) (w : Buffers) (sd : Side) (q : Record) (h : ℕ) (keeps : Keeps ed sd r q h) where
  pub entered : (k : Side → Record → ℕ → Called) → entering r w.first w.second k ≡ k sd q h
  entered k = sym (with_record_is r w.first w.second k w.first_full w.second_full (load_at r) refl sd q h
      (k sd q h) keeps.load refl)

  pub user_entered : (e : Event) (v : ℕ) (ids msgs checks : List ℕ) (d : Data)
      → user_call r w.first w.second e v ids msgs checks d ≡ user_step numbered_step r w.first w.second e v (lent ids) (lent msgs) (lent checks) d sd q h
  unfolding user_by
  user_entered e v ids msgs checks d = entered (user_step numbered_step r w.first w.second e v (lent ids) (lent msgs) (lent checks) d)

-- the bytes of a record are those of one of its own edition
pub itself : (ed : Edition) (sd : Side) (r : List ℕ) (q : Record) (h : ℕ) → Keeps ed sd r q h → Keeps q.edition sd r q h
itself ed sd r q h k = record { load = k.load; edition = refl; size = k.size; coded = k.coded; low = k.low; dialogue = k.dialogue }

-- message data of which nothing is there are within the sizes
pub none_fits : (li lm lc : List ℕ) → data_fits li lm lc no_data ≡ true
unfolding data_fits part_fits items_fit
none_fits li lm lc = rw (le-leb (0 + bit * 0) (length lc) (omega arith))

-- and SHAPE of no edition
pub none_given : (ed : Edition) (t : PduType) (li lm lc : List ℕ) → given_fits ed t li lm lc no_data ≡ true
unfolding plain.given_fits plain.content_fits content_in part_in
none_given Protected t li lm lc = none_fits li lm lc
none_given Plain t li lm lc = rw (none_fits li lm lc)

-- a user primitive invokes a primitive
user_writable : (ed : Edition) (sd : Side) (i : Option Invoked) (a : UserData) → GoesOut ed true sd i a → writable ed sd a ≡ true
user_writable ed sd None a g = absurd (subst T g.0 tt)
user_writable ed sd (Some (DStartRequest q s)) a g = g
user_writable ed sd (Some (DStartResponse x s)) a g = g
user_writable ed sd (Some DDataRequest) a g = g
user_writable ed sd (Some DEndRequest) a g = g
user_writable ed sd (Some (DEndResponse x)) a g = g
user_writable ed sd (Some (DAbortRequest o)) a g = g
user_writable ed sd (Some (DStartForwardRequest q s v)) a g = absurd g
user_writable ed sd (Some (DStartForwardResponse s v)) a g = absurd g

-- every user primitive is one to `brings`
by_user : (ed : Edition) (u : UserPrimitive) → (brings ed (User u)).user ≡ true
by_user ed (StartServiceRequest m k s) = refl
by_user ed (StartServiceResponse m x h) = refl
by_user ed (MessageServiceRequest h j) = refl
by_user ed (EndServiceRequest m h) = refl
by_user ed (EndServiceResponse m x h) = refl
by_user ed (UserAbortServiceRequest g x) = refl

-- it hears no send
unheard : {A : Type 0} (ed : Edition) (u : UserPrimitive) → is_send (brings ed (User u)).apdu ≡ true → A
unheard ed (StartServiceRequest m k s) e = never e
unheard ed (StartServiceResponse m x h) e = never e
unheard ed (MessageServiceRequest h j) e = never e
unheard ed (EndServiceRequest m h) e = never e
unheard ed (EndServiceResponse m x h) e = never e
unheard ed (UserAbortServiceRequest g x) e = never e

-- ---- a user primitive u that brings the dialogue number v, whose partner is the order a; s: what its answer puts on the line

module _ (p n : ℕ) (r : List ℕ) (w : Buffers) (sd : Side) (q : Record) (h : ℕ) (keeps : Keeps q.edition sd r q h) (u : UserPrimitive) (v : ℕ) (lv : v < 2 ^ 64) (ids msgs checks : List ℕ) (d : Data) (a : Order) (s : Called → Sent (Numbered Wire)) where
  abbrev ed : Edition
  ed = q.edition

  abbrev B : Body
  B = content_bits ed (content_in (lent ids) (lent msgs) (lent checks) d)

  abbrev O : Outcome
  O = numbered_step sd q h (User u) v

  abbrev M : ℕ
  M = held_after h (User u) v

  abbrev E : Called
  E = concluded r w.first w.second ed sd (held_after h (User u) v) (numbered_step sd q h (User u) v) (lent ids)
      (lent msgs) (lent checks) (carries_data d)

  abbrev Shaped : Type 0
  Shaped = given_fits ed (pdus_of sd) (lent ids) (lent msgs) (lent checks) d ≡ true

  -- what the order of a user primitive does
  abbrev pub Ordered : UserPrimitive → C.Outcome (Numbered Record) (Numbered Wire)
  Ordered x = leaves (held_after h (User x) v) (calls (card_codec ed) sd (numbered_step sd q h (User x) v) (data_of a) (job_of a))

  abbrev pub Follow : C.Outcome Kept (Numbered Wire) → Type 0
  Follow o = Follows (KeepsAt ed sd) (Carries ed sd) o (mark h q) ((step_numbered (card_codec ed) p).at.call sd (mark h q))

  abbrev pub Sends : Type 0
  Sends = (c : Called) (m : ℕ) (i : Option Invoked) (z : UserData) (ys : List ℕ) → (entry_of c).primitive ≡ i → GoesOut ed true sd i z → is_ddata i ≡ (brings ed (User u)).message → (writable ed sd z ≡ true → Carries ed sd (marked_entry c) (mark m (record { primitive = i; bytes = ys }))) → SentRel (Carries ed sd) (s c) (tag m (sent_by i ys (data_of a) (job_of a)))

  pub asked_rel : JobLow sd (User u) → (Shaped → asked (card_codec ed) p a ≡ u)
      → (Shaped → data_of a ≡ cond (brings ed (User u)).body B [])
      → (Shaped → (brings ed (User u)).holds ≡ true → carries ed B ≡ true) → Sends
      → Follow (left n (user_call r w.first w.second (User u) v ids msgs checks d)
      (s (user_call r w.first w.second (User u) v ids msgs checks d)))
  unfolding user_step
  asked_rel j same ey held sends =
      subst (λ (c : Called). Follow (left n c (s c)))
      (sym (user_entered ed r w sd q h keeps (User u) v ids msgs checks d))
      (shape (given_fits ed (pdus_of sd) (lent ids) (lent msgs) (lent checks) d) refl)
    where
      refusal : (b : Bool) → is_taken E.number ≡ b → b ≡ false → Follow (cond b (C.acts (record { bytes = E.kept; calls = suc n }) (handed_of E) (s E)) C.refused)
      refusal true e f = absurd (subst T f tt)
      refusal false e f = stays tt

      acts : Shaped → is_none (numbered_step sd q h (User u) v).refusal ≡ true
          → OutRel (KeepsAt ed sd) (Carries ed sd) (left n E (s E)) (Ordered u)
      acts sh u-taken =
          let dh = (laws ed).given_places (pdus_of sd) (lent ids) (lent msgs) (lent checks) d sh in
          let own : (brings ed (User u)).body ≡ true → content_fits ed (pdus_of sd)
          (content_in (lent ids) (lent msgs) (lent checks) d) ≡ true = λ z. (laws ed).given_value (pdus_of sd)
          (lent ids) (lent msgs) (lent checks) d sh in
          let k = numbered_fits sd q keeps.coded keeps.dialogue h (User u) v j u-taken in
          let t = ended r w sd q h (User u) v (lent ids) (lent msgs) (lent checks) (carries_data d) keeps lv
          (bits_to_is ids all_bits) (bits_to_is msgs all_bits) (bits_to_is checks all_bits) dh own j u-taken in
          let x = bodied r w sd q h (User u) v (lent ids) (lent msgs) (lent checks) (carries_data d) keeps lv
          (bits_to_is ids all_bits) (bits_to_is msgs all_bits) (bits_to_is checks all_bits) dh own in
          let g : GoesOut ed true sd O.invoked O.apdu = subst
          (λ (b : Bool). GoesOut ed b sd O.invoked O.apdu) (by_user ed u) k.apdu in
          let f = fits_y ed sd (brings ed (User u)) M O B E t k x (held sh) (data_of a) (ey sh)
          (user_writable ed sd O.invoked O.apdu g) in
          subst (λ (b : Bool). OutRel (KeepsAt ed sd) (Carries ed sd) (left n E (s E)) (leaves M (cond
          (b && fits ed sd O.apdu (data_of a)) (taken (card_codec ed) sd O (data_of a) (job_of a) [])
          C.refused))) (sym u-taken)
          (subst (λ (b : Bool). OutRel (KeepsAt ed sd) (Carries ed sd) (left n E (s E)) (leaves M (cond b (taken (card_codec ed) sd O (data_of a) (job_of a) []) C.refused))) (sym f)
          (taken_rel ed sd (brings ed (User u)) M O B E t k x (held sh) (data_of a) (ey sh) n [] (unheard ed u) (job_of a) (s E)
          (sends E M O.invoked O.apdu (enc ed sd O.apdu (data_of a)) t.primitive g k.invokes
          (entry_is ed sd (brings ed (User u)) M O B E t k x (held sh) (data_of a) (ey sh)))))

      refuses : Shaped → (b : Bool) → is_none (numbered_step sd q h (User u) v).refusal ≡ b → Follow (left n E (s E))
      refuses sh true e = does (mark v a) (subst
          (λ (x : UserPrimitive). OutRel (KeepsAt ed sd) (Carries ed sd) (left n E (s E)) (Ordered x))
          (sym (same sh)) (acts sh e))
      refuses sh false e = refusal (is_taken E.number) refl
          (concluded_refused r w.first w.second ed sd M O (lent ids) (lent msgs) (lent checks) (carries_data d) e)

      shape : (b : Bool) → given_fits ed (pdus_of sd) (lent ids) (lent msgs) (lent checks) d ≡ b
          → Follow (left n (cond b E (called 2 r w.first w.second)) (s (cond b E (called 2 r w.first w.second))))
      shape true sh = refuses sh (is_none (numbered_step sd q h (User u) v).refusal) refl
      shape false sh = stays tt

-- ---- the calls

-- the message data hold a message unless the count says none
part_given : (t : Bool) (m : ℕ) → is_given (part_of t m) ≡ not t
unfolding part_of
part_given true m = refl
part_given false m = refl

given_message : (n m k : ℕ) → is_given (given_data n m k).message ≡ not (eqb m no_count)
unfolding given_data
given_message n m k = part_given (eqb m no_count) m

part_there : (l : List ℕ) (unit : ℕ) (p : Option Span) → is_there (part_in l unit p) ≡ is_given p
unfolding part_in
part_there l unit None = refl
part_there l unit (Some x) = refl

content_there : (li lm lc : List ℕ) (d : Data) → is_there (content_in li lm lc d).message ≡ is_given d.message
unfolding content_in
content_there li lm lc d = part_there lm bit d.message

given_carries : (ed : Edition) (sd : Side) (g : Given)
    → given_fits ed (pdus_of sd) (lent g.ids) (lent g.msgs) (lent g.checks) (given_data (length g.ids) g.bits g.check) ≡ true
    → carries ed (body_given ed g) ≡ holds_message g.bits
given_carries ed sd g sh =
    (laws ed).carries_is (pdus_of sd) (content_in (lent g.ids) (lent g.msgs) (lent g.checks)
    (given_data (length g.ids) g.bits g.check)) ((laws ed).given_value (pdus_of sd) (lent g.ids)
    (lent g.msgs) (lent g.checks) (given_data (length g.ids) g.bits g.check) sh)
    ((laws ed).content_are_bits (lent g.ids) (lent g.msgs) (lent g.checks)
    (given_data (length g.ids) g.bits g.check) (bits_to_is g.ids all_bits) (bits_to_is g.msgs all_bits)
    (bits_to_is g.checks all_bits))
    ∙ content_there (lent g.ids) (lent g.msgs) (lent g.checks) (given_data (length g.ids) g.bits g.check)
    ∙ given_message (length g.ids) g.bits g.check

-- where user data are left out there is no message, and so no bit
no_bits : (b : Body) → carries Plain b ≡ false → b ≡ []
unfolding carries
no_bits [] e = refl
no_bits (x ∷ b) e = never (sym e)

left_out : (ed : Edition) (b : Body) (h : Bool) → carries ed b ≡ h → b ≡ cond (with_body (unless_spared (spares ed) h)) b []
left_out Protected b h e = refl
left_out Plain b true e = refl
left_out Plain b false e = no_bits b e

module _ (p n : ℕ) (r : List ℕ) (w : Buffers) (sd : Side) (q : Record) (h : ℕ) (keeps : Keeps q.edition sd r q h) where
  abbrev at : Edition
  at = q.edition

  abbrev Fits : Given → Type 0
  Fits g = given_fits at (pdus_of sd) (lent g.ids) (lent g.msgs) (lent g.checks)
      (given_data (length g.ids) g.bits g.check) ≡ true

  -- a call with message data that is no message request
  simple_rel : (u : UserPrimitive) (v : ℕ) (lv : v < 2 ^ 64) (g : Given) (a : Order) → JobLow sd (User u)
      → (Fits g → asked (card_codec at) p a ≡ u)
      → (Fits g → data_of a ≡ cond (brings at (User u)).body (body_given at g) [])
      → (Fits g → (brings at (User u)).holds ≡ true → carries at (body_given at g) ≡ true)
      → (brings at (User u)).message ≡ false
      → Follow p n r w sd q h keeps u v lv g.ids g.msgs g.checks
      (given_data (length g.ids) g.bits g.check) a sent_of (simply n (user_call r w.first w.second
      (User u) v g.ids g.msgs g.checks (given_data (length g.ids) g.bits g.check)))
  simple_rel u v lv g a j same ey held x =
      asked_rel p n r w sd q h keeps u v lv g.ids g.msgs g.checks
      (given_data (length g.ids) g.bits g.check) a sent_of j same ey held
      (λ c m i z ys e k d f. sent_plain at sd true z (marked_entry c) m ys (data_of a) (job_of a) i e k (d ∙ x) f)

  none_low : 0 < 2 ^ 64
  none_low = omega arith

  -- its data may be left out
  spared : (g : Given) → Fits g → body_given at g ≡ cond (with_body (unless_spared (spares at) (holds_message g.bits))) (body_given at g) []
  spared g sh = left_out at (body_given at g) (holds_message g.bits) (given_carries at sd g sh)

  called_rel : (a : Asked)
      → Follows (KeepsAt at sd) (Carries at sd) (left n (answered p w r a) (sent_for at a (answered p w r a))) (mark h q) ((step_numbered (card_codec at) p).at.call sd (mark h q))
  called_rel (start_request_of v m k g) = simple_rel (StartServiceRequest m k p) v.number v.low g
      (S.start_request_of m k (body_given at g)) tt (λ sh. refl) (λ sh. refl) (λ sh e. never e) refl
  called_rel (start_response_of m x g) = simple_rel (StartServiceResponse m x (holds_message g.bits)) 0 none_low g
      (S.start_response_of m x (body_given at g)) tt (λ sh. ap (StartServiceResponse m x) (given_carries at sd g sh))
      (spared g) (λ sh e. given_carries at sd g sh ∙ e) refl
  called_rel (message_request_of j g) =
      asked_rel p n r w sd q h keeps (message_requested g.bits j.number) 0 none_low g.ids g.msgs g.checks
      (given_data (length g.ids) g.bits g.check) (S.message_request_of (body_given at g) j.number)
      (λ (c : Called). C.message (marked_entry c) (body_given at g) j.number) j.low
      (λ sh. ap (λ (b : Bool). MessageServiceRequest b j.number) (given_carries at sd g sh)) (λ sh. refl)
      (λ sh e. given_carries at sd g sh ∙ e)
      (λ c m i z ys e k d f. sent_message at sd true z (marked_entry c) m ys (body_given at g) j.number i k d f)
  called_rel (end_request_of m g) = simple_rel (EndServiceRequest m (holds_message g.bits)) 0 none_low g
      (S.end_request_of m (body_given at g)) tt (λ sh. ap (EndServiceRequest m) (given_carries at sd g sh)) (spared g)
      (λ sh e. given_carries at sd g sh ∙ e) refl
  called_rel (end_response_of m x g) = simple_rel (EndServiceResponse m x (holds_message g.bits)) 0 none_low g
      (S.end_response_of m x (body_given at g)) tt (λ sh. ap (EndServiceResponse m x) (given_carries at sd g sh)) (spared g)
      (λ sh e. given_carries at sd g sh ∙ e) refl
  called_rel (user_abort_of x) =
      asked_rel p n r w sd q h keeps (abort_requested x) 0 none_low [] [] [] no_data
      (S.user_abort_of (not (eqb x no_count)) (cond (eqb x no_count) 0 x)) sent_of tt (λ sh. refl) (λ sh. refl)
      (λ sh e. never e)
      (λ c m i z ys e k d f. sent_plain at sd true z (marked_entry c) m ys [] 0 i e k d f)

  -- ---- an expiry, a system error

  reported_rel : (e : Event) → JobLow sd e → (brings at e).body ≡ false → (brings at e).holds ≡ false
      → (brings at e).message ≡ false → is_send (brings at e).apdu ≡ false
      → OutRel (KeepsAt at sd) (Carries at sd) (simply n (plain_call r w.first w.second e)) (numberedly sd (mark h q) e 0 (λ (o : Outcome). happens (card_codec at) sd o []))
  unfolding user_step
  reported_rel e j hb hh hm f =
      subst (λ (c : Called). OutRel (KeepsAt at sd) (Carries at sd) (simply n c)
      (numberedly sd (mark h q) e 0 (λ (o : Outcome). happens (card_codec at) sd o [])))
      (sym (user_entered at r w sd q h keeps e 0 [] [] [] no_data))
      (subst (λ (t : Bool). OutRel (KeepsAt at sd) (Carries at sd) (simply n (cond t (concluded r w.first w.second at sd (held_after h e 0) (numbered_step sd q h e 0) (lent []) (lent []) (lent []) (carries_data no_data)) (called 2 r w.first w.second))) (numberedly sd (mark h q) e 0 (λ (o : Outcome). happens (card_codec at) sd o []))) (sym (none_given at (pdus_of sd) (lent []) (lent []) (lent [])))
      (happens_rel r w sd q h e 0 (lent []) (lent []) (lent []) (carries_data no_data) keeps none_low (bits_to_is [] all_bits)
      (bits_to_is [] all_bits) (bits_to_is [] all_bits) (none_fits (lent []) (lent []) (lent []))
      (λ z. never (sym hb ∙ z)) n [] j hb hh hm (λ g. never (sym f ∙ g))))

-- ---- at the record's edition

module _ (p n : ℕ) (r : List ℕ) (w : Buffers) (ed : Edition) (sd : Side) (q : Record) (h : ℕ) (keeps : Keeps ed sd r q h) where
  pub call_rel : (a : Asked)
      → Follows (KeepsAt ed sd) (Carries ed sd) (left n (answered p w r a) (sent_for (edition_by r) a (answered p w r a))) (mark h q) ((step_numbered (card_codec ed) p).at.call sd (mark h q))
  call_rel a =
      subst (λ (z : Edition). Follows (KeepsAt ed sd) (Carries ed sd)
      (left n (answered p w r a) (sent_for z a (answered p w r a))) (mark h q)
      ((step_numbered (card_codec ed) p).at.call sd (mark h q)))
      (sym (ap (in_record (λ (x : Record) (m : ℕ). x.edition) Protected) keeps.load))
      (subst (λ (z : Edition). Follows (KeepsAt z sd) (Carries z sd)
      (left n (answered p w r a) (sent_for q.edition a (answered p w r a))) (mark h q)
      ((step_numbered (card_codec z) p).at.call sd (mark h q))) keeps.edition
      (called_rel p n r w sd q h (itself ed sd r q h keeps) a))

  pub report_rel : (e : Event) → JobLow sd e → (brings q.edition e).body ≡ false
      → (brings q.edition e).holds ≡ false → (brings q.edition e).message ≡ false
      → is_send (brings q.edition e).apdu ≡ false
      → OutRel (KeepsAt ed sd) (Carries ed sd) (simply n (plain_call r w.first w.second e))
      (numberedly sd (mark h q) e 0 (λ (o : Outcome). happens (card_codec ed) sd o []))
  report_rel e j hb hh hm f =
      subst (λ (z : Edition). OutRel (KeepsAt z sd) (Carries z sd) (simply n (plain_call r w.first w.second e))
      (numberedly sd (mark h q) e 0 (λ (o : Outcome). happens (card_codec z) sd o []))) keeps.edition
      (reported_rel p n r w sd q h (itself ed sd r q h keeps) e j hb hh hm f)
