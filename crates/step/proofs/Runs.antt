-- What came with a primitive, as a run of its bits: it stands in the lent bytes, and it is what the user is delivered.
-- Assumes nothing.
use mathlib.Core.Path.{◌≡◌, refl, ap, sym, subst, ◌∙◌}
use mathlib.Core.Bool.{Bool, true, false, cond, ◌&&◌, ◌||◌}
use mathlib.Core.List.{List, ◌++◌}
use Prim.Native.Nat.{ℕ, ◌+◌, ◌-◌, ◌*◌, ◌^◌, ◌≤◌, ◌<◌}
use native.Mathlib.Omega.{arith}
use borrow.Author.Tests.{ne_eqb, le-leb}
use lib.Dec.{eqb}
use lib.ListN.{length, take, drop, length-append}
use Rattle.words.proofs.Laws.{both_right}
use Rattle.clauses.proofs.Ways.{by_test}
use Rattle.bits.specs.Bits.{bits_n}
use Rattle.bits.proofs.Numbers.{Bits, length_bits_n}
use Rattle.bits.proofs.Bytes.{bits_to_is, length_to}
use Rattle.fields.specs.Fields.{digits_in}
use Rattle.fields.specs.Encodings.{index_bits, whole_bits}
use Rattle.fields.proofs.RoundTrip.{Stands}
use Rattle.fields.proofs.Writers.{length_whole, length_index}
use Rattle.editions.specs.declared.Edition.{Edition}
use Rattle.editions.specs.declared.Edition.TheVariants.{Plain, Protected}
use Rattle.apdu.specs.Sizes.{all_bits, buffer_least, message_most, mode_last, bit}
use Rattle.apdu.specs.Pdus.{lent, last_of, part_in, items_in, content_in}
use Rattle.apdu.specs.Encoding as apdu
use Rattle.apdu.specs.Encoding.{alternative, mode_fits, mode_bits, root_bits}
use Rattle.apdu.specs.InPlace.{bits_in}
use Rattle.apdu.specs.Reading as reading
use Rattle.apdu.specs.Writing.{done, write_out, items_fit, part_fits, data_fits, forward_fits}
use Rattle.pdus.specs.declared.PduType.{PduType}
use Rattle.pdus.specs.declared.PduType.TheVariants.{AircraftPdus, GroundPdus}
use Rattle.pdus.specs.declared.Span.{Span}
use Rattle.apdu.specs.declared.Kind.TheVariants as kind
use Rattle.apdu.specs.declared.Data.{Data}
use Rattle.apdu.specs.declared.Forward.{Forward as Forwarded}
use Rattle.apdu.specs.declared.Apdu.{Apdu}
use Rattle.apdu.specs.declared.Apdu.TheVariants as is
use Rattle.apdu.proofs.Contents.{DataIs}
use Rattle.apdu.proofs.Bounds.{counted, items_fits, data_fits_is, content_most, content_most_is, data_value_fits}
use Rattle.apdu.proofs.Apdus.{apdu_read}
use Rattle.codec.specs.Codec.{content_bits, forward_bits, apdu_fits, apdu_at}
use Rattle.codec.proofs.Instance.{laws}
use Rattle.codec.proofs.Same.{apdu_same}
use Rattle.control.specs.declared.Side.{Side}
use Rattle.control.specs.declared.Control.{Control}
use Rattle.machine.specs.UserData.{is_invalid}
use Rattle.machine.specs.declared.event.UserData.{UserData}
use Rattle.machine.specs.declared.event.UserData.TheVariants.{Absent, Start, Send}
use Rattle.machine.specs.declared.event.ServicePrimitive.{ServicePrimitive}
use Rattle.machine.specs.declared.outcome.Outcome.{Outcome}
use Rattle.step.specs.Call.{Carried, carries, carries_data, no_data, no_forward, passes, second_takes, carried_by, meaning, data_of, forward_of, abort_of, or_abort, reads_as, reads_again, read_pdu}
use Rattle.step.specs.Handing.{came, send_at, start_at, root_of, body_of, arrival_of, abort_in, again, or_again, arrived, led_run, lead_of, delivered_of}
use Rattle.step.specs.declared.arrived.Arrival.{Arrival}
use Rattle.step.proofs.Hands.{Hands}
use Rattle.step.proofs.Taken.{never}
use Rattle.std.specs.Prelude.{Err, None, Ok, Option, Result, Some}
use Rattle.fields.specs.declared.Refusal.{Refusal}

-- ---- where message data begin

alternative_length : (t : PduType) (i : ℕ) → length (index_bits (last_of t) i) ≡ send_at t
unfolding digits_in
alternative_length AircraftPdus i = length_index 3 i
alternative_length GroundPdus i = length_index 5 i

mode_length : (t : PduType) (m : ℕ) → send_at t + length (mode_bits t m) ≡ start_at t m
unfolding mode_bits digits_in
mode_length AircraftPdus m = go (eqb m 0)
  where
    go : (z : Bool) → 3 + length (cond z (bits_n 1 0) (bits_n 1 1 ++ whole_bits 0 mode_last m)) ≡ cond z 4 5
    go true = rw (length_bits_n 1 0) (omega arith)
    go false = rw (length-append, length_bits_n, length_whole) (omega arith)
mode_length GroundPdus m = omega arith

send_place : (t : PduType) (l : List ℕ) (p : ℕ) → Stands l 0 (alternative t kind.Send) p → p ≡ send_at t
send_place t l p s = omega (arith, s.place, alternative_length t 3)

start_place : (t : PduType) (m : ℕ) (l : List ℕ) (p : ℕ) → Stands l 0 (alternative t kind.Start ++ mode_bits t m) p → p ≡ start_at t m
start_place t m l p s = omega
    (arith, s.place, length-append (alternative t kind.Start) (mode_bits t m), alternative_length t 2, mode_length t m)

-- ---- a run that stands in the bits l, and is no larger than a buffer

pub record Run (l : List ℕ) (x : Arrival) : Type 0 where
  pub there : x.from + x.count ≤ length l
  pub few : x.count + 8 ≤ 8 * buffer_least

pub bare_run : (l : List ℕ) (m : UserData) → Run l (came m 0 0)
bare_run l m = record { there = omega arith; few = omega arith }

-- message data of which d says where they stand, read behind the place p: they are in the bits l, and they are what is handed on
pub record Body (ed : Edition) (l : List ℕ) (m : UserData) (p : ℕ) (d : Data) : Type 0 where
  pub fits : data_fits l l l d ≡ true
  pub run : Run l (body_of ed m p d)
  pub bits : content_bits ed (content_in l l l d) ≡ led_run l (lead_of ed) (body_of ed m p d).from (body_of ed m p d).count

-- ---- type 22: behind the extension bit

module _ (l : List ℕ) (p next : ℕ) (d : Data) (i : DataIs l p next d) where
  root_length : length (root_bits (content_in l l l d)) ≡ d.check.at + d.check.count - (p + 1)
  root_length = omega (arith, i.root.place)

  data_ends : (p + 1 ≤ d.check.at + d.check.count) × (d.check.at + d.check.count ≤ length l)
  data_ends = (omega (arith, i.root.place), omega (arith, i.root.place, i.root.within))

  data_bits : content_bits Protected (content_in l l l d) ≡ led_run l 1 (p + 1) (d.check.at + d.check.count - (p + 1))
  unfolding apdu.content_bits
  data_bits = ap (λ (z : List ℕ). bits_n 1 0 ++ z) (rw root_length at (sym i.root.holds))

  data_run : (m : UserData) → Run l (root_of m p d)
  unfolding apdu.content_bits
  data_run m =
      let k : length (bits_n 1 0 ++ root_bits (content_in l l l d)) ≤ content_most = content_most_is (content_in l l l d)
      (data_value_fits l l l d i.placed_fits) in
      let a = length-append (bits_n 1 0) (root_bits (content_in l l l d)) in
      let b = length_bits_n 1 0 in
      let e = data_ends in
      record { there = omega (arith, e.0, e.1); few = omega (arith, k, a, b, root_length) }

  root_body : (m : UserData) → Body Protected l m p d
  root_body m = record { fits = i.placed_fits; run = data_run m; bits = data_bits }

-- ---- type 2: the message as it stands

span_run : (l : List ℕ) (m : UserData) (x : Span) → items_fit l bit 0 message_most x ≡ true → Run l (came m x.at x.count)
span_run l m x h =
    let i = items_fits l bit 0 message_most x h in
    let k = (counted 0 message_most x.count i.fits).high in
    let w = i.held in
    record { there = omega (arith, w); few = omega (arith, k) }

one_each : (n : ℕ) → bit * n ≡ n
one_each n = omega arith

message_body : (l : List ℕ) (m : UserData) (p : ℕ) (d : Data) (x : Option Span) → d.message ≡ x → data_fits l l l d ≡ true
    → part_fits l bit 0 message_most x ≡ true → Body Plain l m p d
unfolding part_fits content_in part_in bits_in bits_n
message_body l m p d None e h f = record { fits = h; run = rw e (bare_run l m); bits = rw e refl }
message_body l m p d (Some x) e h f = record { fits = h; run = rw e (span_run l m x f); bits = rw (e, one_each x.count) refl }

plain_body : (l : List ℕ) (m : UserData) (p : ℕ) (d : Data) → data_fits l l l d ≡ true → Body Plain l m p d
plain_body l m p d h = message_body l m p d d.message refl h (data_fits_is l l l d h).message

-- ---- what is delivered of it

-- a test that can't hold
pub no : (z : Bool) → (z ≡ true → false ≡ true) → z ≡ false
no true h = never (h refl)
no false h = refl

-- no message data are within the sizes
pub none_fits : (li lm lc : List ℕ) → data_fits li lm lc no_data ≡ true
unfolding data_fits part_fits items_fit
none_fits li lm lc = rw (le-leb (0 + 1 * 0) (length lc) (omega arith))

module _ (ed : Edition) (l : List ℕ) (o : Outcome) (b : List ℕ) where
  bare_second : (d : Carried) (x : Arrival) → passes o.told ≡ false → o.delivers ≡ false
      → second_takes ed l l l d (passes o.told) o.delivers b ≡ delivered_of ed l x o b
  unfolding second_takes delivered_of
  bare_second d x p q = rw (p, q)

  data_second : (d : Carried) (x : Arrival) → data_fits l l l d.content ≡ true
      → content_bits ed (content_in l l l d.content) ≡ led_run l (lead_of ed) x.from x.count
      → passes o.told ≡ false → second_takes ed l l l d (passes o.told) o.delivers b ≡ delivered_of ed l x o b
  unfolding second_takes delivered_of
  data_second d x f e p = rw (p, f, e)

  forward_second : (d : Carried) (x : Arrival) → forward_fits l d.forward ≡ true
      → forward_bits ed d.forward.heading (items_in l bit d.forward.message) ≡ led_run l 0 x.from x.count
      → o.delivers ≡ false → second_takes ed l l l d (passes o.told) o.delivers b ≡ delivered_of ed l x o b
  unfolding second_takes delivered_of
  forward_second d x f e q = rw (q, f, e)

-- without user data, where they may be left out, a message of no bits is delivered
pub absent_second : (ed : Edition) (l : List ℕ) (o : Outcome) (b : List ℕ) → Hands ed Absent o
    → second_takes ed l l l (carries_data no_data) (passes o.told) o.delivers b ≡ delivered_of ed l (came Absent 0 0) o b
unfolding content_in part_in bits_in bits_n
absent_second Plain l o b h = data_second Plain l o b (carries_data no_data) (came Absent 0 0) (none_fits l l l) refl (no _ h.forward)
absent_second Protected l o b h = bare_second Protected l o b (carries_data no_data) (came Absent 0 0) (no _ h.forward) (no _ h.body)

-- the extension bit is one bit at the most
pub lead_few : (ed : Edition) (n : ℕ) → n ≡ lead_of ed → n ≤ 1
lead_few Plain n e = omega (arith, e)
lead_few Protected n e = omega (arith, e)

pub record Handed (ed : Edition) (l : List ℕ) (t : PduType) (y : Result Apdu Refusal) : Type 0 where
  pub run : Run l (arrival_of ed t y)
  pub second : (o : Outcome) (b : List ℕ) → Hands ed (meaning y) o
      → second_takes ed l l l (carried_by y) (passes o.told) o.delivers b ≡ delivered_of ed l (arrival_of ed t y) o b

module _ (t : PduType) (s : List ℕ) where
  bits : Bits (lent s)
  bits = bits_to_is s all_bits

  -- a start or a send of type 22
  start_is : (m : ℕ) (d : Data) (e : reading.apdu_at t (lent s) 0 ≡ Ok (is.Start m d))
      → DataIs (lent s) (start_at t m) (apdu_read t (lent s) 0 (is.Start m d) bits e).place d
  start_is m d e =
      let i = (apdu_read t (lent s) 0 (is.Start m d) bits e).stands in
      subst (λ (z : ℕ). DataIs (lent s) z (apdu_read t (lent s) 0 (is.Start m d) bits e).place d)
      (start_place t m (lent s) i.place i.lead) i.held

  send_is : (d : Data) (e : reading.apdu_at t (lent s) 0 ≡ Ok (is.Send d))
      → DataIs (lent s) (send_at t) (apdu_read t (lent s) 0 (is.Send d) bits e).place d
  send_is d e =
      let i = (apdu_read t (lent s) 0 (is.Send d) bits e).stands in
      subst (λ (z : ℕ). DataIs (lent s) z (apdu_read t (lent s) 0 (is.Send d) bits e).place d)
      (send_place t (lent s) i.place i.lead) i.held

  protected_is : (a : Apdu) → apdu_at Protected t (lent s) ≡ Ok a → reading.apdu_at t (lent s) 0 ≡ Ok a
  protected_is a e = sym (apdu_same t (lent s)) ∙ e

  -- of either type
  start_body : (ed : Edition) (u : UserData) (m : ℕ) (d : Data) → apdu_at ed t (lent s) ≡ Ok (is.Start m d)
      → Body ed (lent s) u (start_at t m) d
  unfolding apdu_fits
  start_body Plain u m d e = plain_body (lent s) u (start_at t m) d (both_right (mode_fits t m)
      (data_fits (lent s) (lent s) (lent s) d) ((laws Plain).accepted t (lent s) (is.Start m d) bits e).placed_fits)
  start_body Protected u m d e = root_body (lent s) (start_at t m) _ d (start_is m d (protected_is (is.Start m d) e)) u

  send_body : (ed : Edition) (u : UserData) (d : Data) → apdu_at ed t (lent s) ≡ Ok (is.Send d) → Body ed (lent s) u (send_at t) d
  unfolding apdu_fits
  send_body Plain u d e = plain_body (lent s) u (send_at t) d ((laws Plain).accepted t (lent s) (is.Send d) bits e).placed_fits
  send_body Protected u d e = root_body (lent s) (send_at t) _ d (send_is d (protected_is (is.Send d) e)) u

  module _ (ed : Edition) where
    read_handed : (y : Result Apdu Refusal) → apdu_at ed t (lent s) ≡ y → Handed ed (lent s) t y
    unfolding arrival_of meaning data_of forward_of bits_n
    read_handed (Err r) e = record { run = bare_run (lent s) _; second = λ o b h. bare_second ed (lent s) o b _ _ (no _ h.forward) (no _ h.body) }
    read_handed (Ok (is.AbortUser r)) e = record { run = bare_run (lent s) _; second = λ o b h. bare_second ed (lent s) o b _ _ (no _ h.forward) (no _ h.body) }
    read_handed (Ok (is.AbortProvider r)) e = record { run = bare_run (lent s) _; second = λ o b h. bare_second ed (lent s) o b _ _ (no _ h.forward) (no _ h.body) }
    read_handed (Ok (is.Start m d)) e =
        let i = start_body ed (meaning (Ok (is.Start m d))) m d e in
        record { run = i.run; second = λ o b h. data_second ed (lent s) o b (carries d no_forward) _ i.fits i.bits (no _ h.forward) }
    read_handed (Ok (is.Send d)) e =
        let i = send_body ed (meaning (Ok (is.Send d))) d e in
        record { run = i.run; second = λ o b h. data_second ed (lent s) o b (carries d no_forward) _ i.fits i.bits (no _ h.forward) }
    read_handed (Ok (is.Forward f)) e =
        let i = (laws ed).forward_run t (lent s) f bits e in
        record { run = record { there = omega (arith, i.from, i.within); few = i.few }; second = λ o b h. forward_second ed (lent s) o b (carried_by (Ok (is.Forward f))) _ i.fits i.bits (no _ h.body) }
    read_handed (Ok (is.ForwardResponse x)) e = record { run = bare_run (lent s) _; second = λ o b h. bare_second ed (lent s) o b _ _ (no _ h.forward) (no _ h.body) }

  -- places of what was read are numbers of the machine
  start_ends : (m : ℕ) (d : Data) → reading.apdu_at t (lent s) 0 ≡ Ok (is.Start m d)
      → (start_at t m + 1 ≤ d.check.at + d.check.count) × (d.check.at + d.check.count < 2 ^ 64)
  start_ends m d e =
      let k = data_ends (lent s) (start_at t m) _ d (start_is m d e) in
      (k.0, omega (arith, k.1, length_to s all_bits))

  send_ends : (d : Data) → reading.apdu_at t (lent s) 0 ≡ Ok (is.Send d)
      → (send_at t + 1 ≤ d.check.at + d.check.count) × (d.check.at + d.check.count < 2 ^ 64)
  send_ends d e =
      let k = data_ends (lent s) (send_at t) _ d (send_is d e) in
      (k.0, omega (arith, k.1, length_to s all_bits))

  forward_ends : (ed : Edition) (f : Forwarded) → apdu_at ed t (lent s) ≡ Ok (is.Forward f)
      → (4 ≤ f.message.at + f.message.count) × (f.message.at + f.message.count < 2 ^ 64)
  forward_ends ed f e =
      let i = (laws ed).forward_run t (lent s) f bits e in
      (i.from, omega (arith, i.within, length_to s all_bits))

-- ---- with a second reading

module _ (P : Result Apdu Refusal → Type 0) (k : (r : ℕ) → P (Ok (is.AbortProvider r))) where
  abort_by : (x : Result Apdu Refusal) (a : Apdu) → P x → P (abort_of x a)
  unfolding abort_of
  abort_by x (is.AbortUser r) q = q
  abort_by x (is.AbortProvider r) q = k r
  abort_by x (is.Start m d) q = q
  abort_by x (is.Send d) q = q
  abort_by x (is.Forward f) q = q
  abort_by x (is.ForwardResponse n) q = q

  or_by : (x y : Result Apdu Refusal) → P x → P (or_abort x y)
  unfolding or_abort
  or_by (Ok a) y q = q
  or_by (Err r) (Ok a) q = abort_by (Err r) a q
  or_by (Err r) (Err z) q = q

  read_by : (ed : Edition) (sd : Side) (c : Control) (p : ServicePrimitive) (l : List ℕ)
      → P (apdu_at ed (reads_as sd c p) l) → P (read_pdu ed sd c p l)
  unfolding read_pdu
  read_by ed sd c p l h = by_test P (reads_again sd p) _ _ (λ e. or_by (apdu_at ed (reads_as sd c p) l) (apdu_at ed GroundPdus l) h) (λ e. h)

abort_handed : (ed : Edition) (l : List ℕ) (t : PduType) (r : ℕ) → Handed ed l t (Ok (is.AbortProvider r))
unfolding arrival_of meaning
abort_handed ed l t r = record { run = bare_run l _; second = λ o b h. bare_second ed l o b _ _ (no _ h.forward) (no _ h.body) }

pub pdu_handed : (ed : Edition) (sd : Side) (c : Control) (p : ServicePrimitive) (s : List ℕ)
    → Handed ed (lent s) (reads_as sd c p) (read_pdu ed sd c p (lent s))
pdu_handed ed sd c p s = read_by (Handed ed (lent s) (reads_as sd c p)) (abort_handed ed (lent s) (reads_as sd c p)) ed sd
    c p (lent s) (read_handed (reads_as sd c p) s ed (apdu_at ed (reads_as sd c p) (lent s)) refl)

body_pdu : (ed : Edition) (m : UserData) (p : ℕ) (d : Data) → (body_of ed m p d).pdu ≡ m
body_pdu Plain m p d = go d.message refl
  where
    go : (x : Option Span) → d.message ≡ x → (body_of Plain m p d).pdu ≡ m
    go None e = rw e refl
    go (Some x) e = rw e refl
body_pdu Protected m p d = refl

pub arrival_pdu : (ed : Edition) (t : PduType) (y : Result Apdu Refusal) → (arrival_of ed t y).pdu ≡ meaning y
unfolding arrival_of meaning
arrival_pdu ed t (Err r) = refl
arrival_pdu ed t (Ok (is.AbortUser r)) = refl
arrival_pdu ed t (Ok (is.AbortProvider r)) = refl
arrival_pdu ed t (Ok (is.Start m d)) = body_pdu ed _ (start_at t m) d
arrival_pdu ed t (Ok (is.Send d)) = body_pdu ed _ (send_at t) d
arrival_pdu ed t (Ok (is.Forward f)) = refl
arrival_pdu ed t (Ok (is.ForwardResponse x)) = refl

again_of : (ed : Edition) (t : PduType) (x : Result Apdu Refusal) (a : Apdu) → abort_in (arrival_of ed t x) a ≡ arrival_of ed t (abort_of x a)
unfolding abort_in abort_of arrival_of
again_of ed t x (is.AbortUser r) = refl
again_of ed t x (is.AbortProvider r) = refl
again_of ed t x (is.Start m d) = refl
again_of ed t x (is.Send d) = refl
again_of ed t x (is.Forward f) = refl
again_of ed t x (is.ForwardResponse n) = refl

-- what was read is not read again
read_stays : (x : Arrival) (m : UserData) (y : Result Apdu Refusal) → x.pdu ≡ m → is_invalid m ≡ false → or_again x y ≡ x
unfolding or_again
read_stays x m y e h = rw (e, h)

pub again_same : (ed : Edition) (t : PduType) (x y : Result Apdu Refusal) → or_again (arrival_of ed t x) y ≡ arrival_of ed t (or_abort x y)
unfolding or_again again arrival_of or_abort
again_same ed t (Ok (is.AbortUser r)) y = refl
again_same ed t (Ok (is.AbortProvider r)) y = refl
again_same ed t (Ok (is.Start m d)) y = read_stays _ _ y (body_pdu ed (Start (eqb m 1)) (start_at t m) d) refl
again_same ed t (Ok (is.Send d)) y = read_stays _ _ y (body_pdu ed Send (send_at t) d) refl
again_same ed t (Ok (is.Forward f)) y = refl
again_same ed t (Ok (is.ForwardResponse n)) y = refl
again_same ed t (Err r) (Ok a) = again_of ed t (Err r) a
again_same ed t (Err r) (Err z) = refl

pub arrived_run : (ed : Edition) (sd : Side) (c : Control) (p : ServicePrimitive) (g : ℕ) (s : List ℕ)
    → Run (lent s) (arrived ed sd c p g (lent s))
unfolding arrived
arrived_run ed sd c p g s = by_test (Run (lent s)) (eqb g 1) _ _ (λ e. (pdu_handed ed sd c p s).run) (λ e. bare_run (lent s) _)

pub stands_there : (ed : Edition) (sd : Side) (c : Control) (p : ServicePrimitive) (g : ℕ) (s : List ℕ) (x : Arrival)
    → x ≡ arrived ed sd c p g (lent s) → (x.from + x.count ≤ length (lent s)) × (x.count + 8 ≤ 8 * buffer_least)
stands_there ed sd c p g s x e =
    let k : Run (lent s) x = rw e (arrived_run ed sd c p g s) in
    (k.there, k.few)

-- ---- the ways of reading, as the code has them

module _ (ed : Edition) (t : PduType) (s : List ℕ) (y : Result Apdu Refusal) (a : Apdu) (ey : y ≡ apdu_at ed t (lent s)) (ea : y ≡ Ok a) where
  was_read : (z : Apdu) → a ≡ z → apdu_at ed t (lent s) ≡ Ok z
  was_read z e = sym ey ∙ ea ∙ ap Ok e

  was_protected : (z : Apdu) → a ≡ z → ed ≡ Protected → reading.apdu_at t (lent s) 0 ≡ Ok z
  was_protected z e q = protected_is t s z (subst (λ (x : Edition). apdu_at x t (lent s) ≡ Ok z) q (was_read z e))

  pub start_needs : (m : ℕ) (d : Data) (at : ℕ) → at ≡ start_at t m → a ≡ is.Start m d → ed ≡ Protected
      → (at + 1 ≤ d.check.at + d.check.count) × (d.check.at + d.check.count < 2 ^ 64)
  start_needs m d at p e q =
      let k = start_ends t s m d (was_protected (is.Start m d) e q) in
      (omega (arith, p, k.0), k.1)

  pub send_needs : (d : Data) (at : ℕ) → at ≡ send_at t → a ≡ is.Send d → ed ≡ Protected
      → (at + 1 ≤ d.check.at + d.check.count) × (d.check.at + d.check.count < 2 ^ 64)
  send_needs d at p e q =
      let k = send_ends t s d (was_protected (is.Send d) e q) in
      (omega (arith, p, k.0), k.1)

  pub forward_needs : (f : Forwarded) → a ≡ is.Forward f
      → (4 ≤ f.message.at + f.message.count) × (f.message.at + f.message.count < 2 ^ 64)
  forward_needs f e = forward_ends t s ed f (was_read (is.Forward f) e)

  pub says : (z : Apdu) (x : Arrival) → a ≡ z → x ≡ arrival_of ed t (Ok z) → x ≡ arrival_of ed t (apdu_at ed t (lent s))
  says z x e p = p ∙ ap (arrival_of ed t) (sym (was_read z e))

module _ (ed : Edition) (sd : Side) (c : Control) (p : ServicePrimitive) (g : ℕ) (l : List ℕ) where
  pub no_data_came : (x : Arrival) → (g ≡ 1 → ⊥) → x ≡ came Absent 0 0 → x ≡ arrived ed sd c p g l
  unfolding arrived
  no_data_came x h e = e ∙ rw (ne_eqb g 1 h)

  module _ (h : g ≡ 1) (t : PduType) (et : t ≡ reads_as sd c p) (x : Arrival) (ex : x ≡ arrival_of ed t (apdu_at ed t l)) (q : Bool) (eq : q ≡ reads_again sd p) where
    pub read_once : q ≡ false → x ≡ arrived ed sd c p g l
    unfolding arrived read_pdu
    read_once k = ex ∙ rw (et, h, ← eq, k)

    pub read_twice : q ≡ true → (z : Arrival) → z ≡ or_again x (apdu_at ed GroundPdus l) → z ≡ arrived ed sd c p g l
    unfolding arrived read_pdu
    read_twice k z e = e ∙ ap (λ (w : Arrival). or_again w (apdu_at ed GroundPdus l)) ex ∙ again_same ed t
        (apdu_at ed t l) (apdu_at ed GroundPdus l) ∙ rw (et, h, ← eq, k)
