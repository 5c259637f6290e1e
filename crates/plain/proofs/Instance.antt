-- Application type 2 has the laws of an edition: so every theorem of the front holds of its AircraftPDUs and GroundPDUs.
-- Assumes nothing.
use mathlib.Core.Path.{◌≡◌, refl, ap, sym, ◌∙◌}
use mathlib.Core.Bool.{Bool, true, false, ◌&&◌}
use mathlib.Core.List.{List, ◌++◌}
use Prim.Native.Nat.{ℕ, ◌+◌, ◌-◌, ◌*◌, ◌^◌, ◌≤◌, ◌<◌}
use native.Mathlib.Omega.{arith}
use borrow.Author.Tests.{eqb-true, eq-eqb}
use lib.ListN.{length, take, drop, length-append}
use lib.Seq.{take-length, length-take-le}
use Rattle.words.proofs.Laws.{both_left, both_right, ok_value, ok_place}
use Rattle.bits.proofs.Numbers.{Bits}
use Rattle.fields.specs.Fields.{digits_in, width_of}
use Rattle.fields.specs.Encodings.{whole_bits, whole_fits}
use Rattle.kinds.specs.declared.Direction.{Direction}
use Rattle.kinds.specs.declared.Direction.TheVariants.{Downlink, Uplink}
use Rattle.elements.proofs.Whole.{whole_below}
use Rattle.elements.proofs.Steps.{never}
use Rattle.inner.specs.declared.values.Message.{Message}
use Rattle.inner.specs.Places.{row_bits, row_fits}
use Rattle.inner.specs.Messages.{no_header, body_at, message_at, message_text, message_fits, message_bits}
use Rattle.inner.proofs.MessageLaws.{fits_of, message_stands, one_bit, three_bits}
use Rattle.inner.proofs.MessageWritten.{header_most, row_most, length_message}
use Rattle.inplace.specs.InPlace.{message_span, elements_span}
use Rattle.inplace.proofs.Laws.{InPlace, takes_all, is_all, message_in_place, elements_in_place}
use Rattle.inplace.proofs.Bodies.{body_bits, body_fits, BodyIs, body_found}
use Rattle.apdu.specs.Sizes.{provider_last}
use Rattle.apdu.specs.Headings.{heading_bits, heading_fits}
use Rattle.apdu.proofs.Heads.{heading_most, heading_most_is}
use Rattle.front.specs.Runs.{is_bits}
use Rattle.front.specs.Editions.{aircraft_pdus, ground_pdus}
use Rattle.front.proofs.Laws.{via, BodyLaws, ChoiceLaws, run_most}
use Rattle.front.proofs.Runs.{Ends, RunLaws, run_laws, perhaps_laws, is_bits_is}
use Rattle.front.proofs.Alternatives.{EditionLaws, aircraft_laws, ground_laws}
use Rattle.plain.specs.Plain.{direction_of}
use Rattle.plain.proofs.Bodies.{send_body, start_body, forward_span, user_last, type2}
use Rattle.plain.proofs.Runs.{run_of, ends_by, Forwarded, right, bits_of, forward_found, forward_in_place}
use Rattle.std.specs.Prelude.{Err, Ok, Result}
use Rattle.fields.specs.Fields.{Reading}
use Rattle.fields.specs.declared.Refusal.{Refusal}

-- ---- how long: a message 9,097 bits, the elements of one 9,049

module _ (d : Direction) where
  pub message_most_is : (v : List ℕ) → Bits v → Ends (message_span d v 0) (length v) → length v ≤ 9097
  unfolding message_span
  message_most_is v b e =
      via (length v ≤ 9097) (message_at d v 0) _ (e.value, length v) (λ (m : Message) (k : ℕ) (p : message_at d v 0 ≡ Ok (m, k)) (q : ◌≡◌ {A = Reading ℕ} (Ok (k - 0, k)) (Ok (e.value, length v))).
      let j : k ≡ length v = ok_place q in
      let s = message_stands d v 0 k m b p in
      let f = fits_of d m (message_text d v 0 m) s.fits in
      let c = whole_below 1 5 m.count f.count in
      let five = f.five in
      let n : length (take m.count m.places) ≡ m.count = length-take-le m.count m.places (omega arith) in
      let r = row_most d (take m.count m.places) (message_text d v 0 m) f.row in
      omega (arith, length_message d m (message_text d v 0 m), header_most m, s.place)) e.is

  -- no message has no bits
  pub message_some : (v : List ℕ) → Bits v → Ends (message_span d v 0) (length v) → 0 < length v
  unfolding message_span
  message_some v b e =
      via (0 < length v) (message_at d v 0) _ (e.value, length v) (λ (m : Message) (k : ℕ) (p : message_at d v 0 ≡ Ok (m, k)) (q : ◌≡◌ {A = Reading ℕ} (Ok (k - 0, k)) (Ok (e.value, length v))).
      let j : k ≡ length v = ok_place q in
      let s = message_stands d v 0 k m b p in
      omega (arith, length_message d m (message_text d v 0 m), s.place)) e.is

  elements_most : (v : List ℕ) (n next : ℕ) → Bits v → elements_span d v 0 ≡ Ok (n, next) → n ≡ length v → length v ≤ 9049
  unfolding elements_span
  elements_most v n next b e h =
      via (length v ≤ 9049) (body_at d v no_header 0) _ (n, next) (λ (m : Message) (k : ℕ) (p : body_at d v no_header 0 ≡ Ok (m, k)) (q : ◌≡◌ {A = Reading ℕ} (Ok (k - 0, k)) (Ok (n, next))).
      let j : k - 0 ≡ n = ok_value q in
      let i = body_found d v 0 k no_header m b p in
      let g = i.there.fits in
      let c = whole_below 1 5 (length i.es) (both_left (whole_fits 1 5 (length i.es)) (row_fits d i.es i.text) g) in
      let r = row_most d i.es i.text (both_right (whole_fits 1 5 (length i.es)) (row_fits d i.es i.text) g) in
      let x = length-append (whole_bits 0 1 0) (whole_bits 1 5 (length i.es) ++ row_bits d i.es i.text) in
      let y = length-append (whole_bits 1 5 (length i.es)) (row_bits d i.es i.text) in
      let one = one_bit in
      let three = three_bits (length i.es) in
      let w = i.there.place in
      omega arith) e

  elements_all : (v : List ℕ) (f : Reading ℕ) → Bits v → elements_span d v 0 ≡ f → is_all (length v) f ≡ true → length v ≤ 9049
  elements_all v (Ok (n, next)) b e t = elements_most v n next b e (eqb-true n (length v) t)
  elements_all v (Err r) b e t = never (cc)

forward_most_is : (v : List ℕ) → Bits v → Ends (forward_span v 0) (length v) → length v ≤ 9166
unfolding takes_all
forward_most_is v b e =
    let f = forward_found v 0 e.value (length v) b e.is in
    let x = f.value in
    let g = f.there.fits in
    let h = both_right (heading_fits f.value.heading) (is_bits f.value.elements && takes_all
    (elements_span (direction_of f.value.heading.direction)) f.value.elements) g in
    let m = elements_all (direction_of f.value.heading.direction) f.value.elements _
    (is_bits_is f.value.elements (both_left (is_bits f.value.elements) _ h)) refl
    (both_right (is_bits f.value.elements) _ h) in
    let n = heading_most_is f.value.heading (both_left (heading_fits f.value.heading) _ g) in
    let l = length-append (heading_bits f.value.heading) f.value.elements in
    omega (arith, f.there.place)

-- ---- the bodies

pub message_laws : (d : Direction) → RunLaws (message_span d)
message_laws d = run_of (message_span d) (message_in_place d) (λ (v : List ℕ) (b : Bits v)
    (e : Ends (message_span d v 0) (length v)). let m = message_most_is d v b e in omega arith)

pub elements_few : (d : Direction) (v : List ℕ) → Bits v → Ends (elements_span d v 0) (length v) → length v ≤ 9049
elements_few d v b e =
    let z = ends_by (elements_span d) (elements_in_place d) v 0 e.value (length v) b e.is in
    elements_most d v e.value (length v) b e.is (omega arith)

pub elements_laws : (d : Direction) → RunLaws (elements_span d)
elements_laws d = run_of (elements_span d) (elements_in_place d) (λ (v : List ℕ) (b : Bits v)
    (e : Ends (elements_span d v 0) (length v)). let m = elements_few d v b e in omega arith)

pub forward_laws : RunLaws forward_span
forward_laws = run_of forward_span forward_in_place
    (λ (v : List ℕ) (b : Bits v) (e : Ends (forward_span v 0) (length v)). let m = forward_most_is v b e in omega arith)

pub send_laws : (d : Direction) → BodyLaws (send_body d)
send_laws d = run_laws (message_span d) (message_laws d)

pub start_laws : (d : Direction) → BodyLaws (start_body d)
start_laws d = perhaps_laws (message_span d) (message_laws d)

-- ---- the edition

user_width : width_of user_last ≤ 4
unfolding digits_in
user_width = omega arith

provider_width : width_of provider_last ≤ 4
unfolding digits_in
provider_width = omega arith

pub type2_laws : (d : Direction) → EditionLaws (type2 d)
type2_laws d =
    record {
      user = user_width;
      user_small = omega arith;
      provider = provider_width;
      provider_small = omega arith;
      start = start_laws d;
      send = send_laws d;
      forward = run_laws forward_span forward_laws;
    }

pub aircraft : ChoiceLaws (aircraft_pdus (type2 Downlink))
aircraft = aircraft_laws (type2 Downlink) (type2_laws Downlink)

pub ground : ChoiceLaws (ground_pdus (type2 Uplink))
ground = ground_laws (type2 Uplink) (type2_laws Uplink)
