-- A forward message: what is written reads back as it was, and what is read writes back to the same bits.
-- Three whole numbers in a row are shown once, over their ranges.
-- Assumes nothing.
use mathlib.Core.Path.{◌≡◌, refl}
use mathlib.Core.Bool.{Bool, true, false, ◌&&◌}
use mathlib.Core.List.{List, ◌++◌}
use Prim.Native.Nat.{ℕ, ◌+◌, ◌*◌, ◌/◌, ◌^◌, ◌≤◌, ◌<◌}
use native.Mathlib.Omega.{arith}
use borrow.Author.Tests.{leb-true}
use lib.Dec.{leb}
use lib.ListN.{length}
use Rattle.words.proofs.Laws.{both_left, both_right, ok_value, ok_place}
use Rattle.bits.specs.Bits.{bits_n}
use Rattle.bits.proofs.Numbers.{Bits, bits_bits_n}
use Rattle.bits.proofs.Bytes.{bits_append}
use Rattle.fields.specs.Fields.{Reading, bit_field, whole_number, string_at, then}
use Rattle.fields.specs.Encodings.{whole_bits, whole_fits}
use Rattle.fields.proofs.RoundTrip.{Stands, stands_join, stands_split, bit_field_is, whole_number_is}
use Rattle.apdu.specs.Sizes.{message_most, bit}
use Rattle.apdu.specs.Headings.{triple, date_from, date_to, time_from, time_to, characters_least, characters_most, character, address_bits, direction_last, triple_bits, triple_fits, aircraft_bits, heading_bits, heading_fits}
use Rattle.apdu.specs.Pdus.{items_in}
use Rattle.apdu.specs.Encoding.{string_bits, string_fits, forward_bits, forward_pdu_fits}
use Rattle.apdu.specs.Reading.{span_to, triple_at, heading_at, forward_within, forward_at}
use Rattle.apdu.specs.Writing.{forward_fits}
use Rattle.apdu.specs.declared.Triple.{Triple}
use Rattle.apdu.specs.declared.Heading.{Heading}
use Rattle.apdu.specs.declared.Forward.{Forward}
use Rattle.apdu.proofs.Heads.{heading_fits_is, fits_heading}
use Rattle.apdu.proofs.Contents.{on_value, string_back, items_read}
use Rattle.std.specs.Prelude.{Ok}

-- the count of characters that was read is one that there is
pub characters_few : (l : List ℕ) (at n next : ℕ) → Bits l
    → whole_number l at characters_least characters_most ≡ Ok (n, next) → n ≤ characters_most
characters_few l at n next b e =
    leb-true n characters_most (both_right (leb characters_least n) (leb n characters_most)
    ((whole_number_is characters_least characters_most (omega arith)).read_fits l at n next b e))

-- ---- three whole numbers

pub record TripleIs (lo hi : Triple) (l : List ℕ) (at : ℕ) (v : Triple) (next : ℕ) : Type 0 where
  pub fits : triple_fits lo hi v ≡ true
  pub stands : Stands l at (triple_bits lo hi v) next

pub record Small (hi : Triple) : Type 0 where
  pub one : hi.first < 2 ^ 64
  pub two : hi.second < 2 ^ 64
  pub three : hi.third < 2 ^ 64

module _ (lo hi : Triple) (small : Small hi) where
  pub triple_are_bits : (v : Triple) → Bits (triple_bits lo hi v)
  unfolding triple_bits
  triple_are_bits v =
      bits_append (whole_bits lo.first hi.first v.first) _ ((whole_number_is lo.first hi.first small.one).are_bits v.first)
      (bits_append (whole_bits lo.second hi.second v.second) (whole_bits lo.third hi.third v.third)
      ((whole_number_is lo.second hi.second small.two).are_bits v.second)
      ((whole_number_is lo.third hi.third small.three).are_bits v.third))

  pub triple_written : (l : List ℕ) (at : ℕ) (v : Triple) (next : ℕ) → triple_fits lo hi v ≡ true
      → Stands l at (triple_bits lo hi v) next → triple_at l at lo hi ≡ Ok (v, next)
  unfolding triple_fits triple_bits triple_at
  triple_written l at v next h s =
      let f₁ : Bool = whole_fits lo.first hi.first v.first in
      let f₂ : Bool = whole_fits lo.second hi.second v.second in
      let f₃ : Bool = whole_fits lo.third hi.third v.third in
      let b₁ : List ℕ = whole_bits lo.first hi.first v.first in
      let b₂ : List ℕ = whole_bits lo.second hi.second v.second in
      let b₃ : List ℕ = whole_bits lo.third hi.third v.third in
      let g = both_right f₁ (f₂ && f₃) h in
      let s₁ = stands_split l at next b₁ (b₂ ++ b₃) s in
      let s₂ = stands_split l (at + length b₁) next b₂ b₃ s₁.second in
      let x = (whole_number_is lo.first hi.first small.one).written_read l at v.first (at + length b₁)
      (both_left f₁ (f₂ && f₃) h) s₁.first in
      let y = (whole_number_is lo.second hi.second small.two).written_read l (at + length b₁) v.second
      (at + length b₁ + length b₂) (both_left f₂ f₃ g) s₂.first in
      let z = (whole_number_is lo.third hi.third small.three).written_read l (at + length b₁ + length b₂)
      v.third next (both_right f₂ f₃ g) s₂.second in
      rw (x, y, z)

  triple_made : (l : List ℕ) (at p q next x y z : ℕ) → Bits l → whole_number l at lo.first hi.first ≡ Ok (x, p)
      → whole_number l p lo.second hi.second ≡ Ok (y, q)
      → whole_number l q lo.third hi.third ≡ Ok (z, next) → TripleIs lo hi l at (triple x y z) next
  unfolding triple_fits triple_bits
  triple_made l at p q next x y z b e f g =
      record {
        fits = rw (
          (whole_number_is lo.first hi.first small.one).read_fits l at x p b e,
          (whole_number_is lo.second
              hi.second small.two).read_fits l p y q b f,
        )
            ((whole_number_is lo.third hi.third small.three).read_fits l q z next b g);
        stands = stands_join l at p next _ _
            ((whole_number_is lo.first hi.first small.one).read_written l at x p b e) (stands_join l p q next _ _
            ((whole_number_is lo.second hi.second small.two).read_written l p y q b f)
            ((whole_number_is lo.third hi.third small.three).read_written l q z next b g));
      }

  pub triple_read : (l : List ℕ) (at : ℕ) (v : Triple) (next : ℕ) → Bits l → triple_at l at lo hi ≡ Ok (v, next)
      → TripleIs lo hi l at v next
  unfolding triple_at
  triple_read l at v next b e = on_value (TripleIs lo hi l at v next) (v, next) (whole_number l at lo.first hi.first) _ first e
    where
      third : (x p y q : ℕ) → whole_number l at lo.first hi.first ≡ Ok (x, p)
          → whole_number l p lo.second hi.second ≡ Ok (y, q) → (z n : ℕ)
          → whole_number l q lo.third hi.third ≡ Ok (z, n) → ◌≡◌ {A = Reading Triple} (Ok (triple x y z, n)) (Ok (v, next))
          → TripleIs lo hi l at v next
      third x p y q e₁ e₂ z n e₃ k =
          let u : triple x y z ≡ v = ok_value k in
          let w : n ≡ next = ok_place k in
          rw (← u, ← w) (triple_made l at p q n x y z b e₁ e₂ e₃)

      second : (x p : ℕ) → whole_number l at lo.first hi.first ≡ Ok (x, p) → (y q : ℕ)
          → whole_number l p lo.second hi.second ≡ Ok (y, q)
          → then {B = Triple × ℕ} (whole_number l q lo.third hi.third) (λ (z n : ℕ). Ok (triple x y z, n)) ≡
          Ok (v, next) → TripleIs lo hi l at v next
      second x p e₁ y q e₂ k = on_value (TripleIs lo hi l at v next) (v, next) (whole_number l q lo.third hi.third) _ (third x p y q e₁ e₂) k

      first : (x p : ℕ) → whole_number l at lo.first hi.first ≡ Ok (x, p)
          → then {B = Triple × ℕ} (whole_number l p lo.second hi.second) (λ (y q : ℕ). then
          (whole_number l q lo.third hi.third) (λ (z n : ℕ). Ok (triple x y z, n))) ≡ Ok (v, next) → TripleIs lo hi l at v next
      first x p e₁ k = on_value (TripleIs lo hi l at v next) (v, next) (whole_number l p lo.second hi.second) _ (second x p e₁) k

date_small : Small date_to
date_small = record { one = omega arith; two = omega arith; three = omega arith }

time_small : Small time_to
time_small = record { one = omega arith; two = omega arith; three = omega arith }

-- ---- the heading

pub heading_are_bits : (h : Heading) → Bits (heading_bits h)
unfolding heading_bits aircraft_bits
heading_are_bits h =
    bits_append (triple_bits date_from date_to h.date) _ (triple_are_bits date_from date_to date_small h.date)
    (bits_append (triple_bits time_from time_to h.time) _ (triple_are_bits time_from time_to time_small h.time)
    (bits_append (whole_bits characters_least characters_most h.characters) _ ((whole_number_is characters_least characters_most (omega arith)).are_bits h.characters)
    (bits_append (bits_n (character * h.characters) h.flight) _ (bits_bits_n (character * h.characters) h.flight)
    (bits_append (bits_n address_bits h.address) (whole_bits 0 direction_last h.direction)
    (bits_bits_n address_bits h.address) ((whole_number_is 0 direction_last (omega arith)).are_bits h.direction))
    )))

pub heading_written : (l : List ℕ) (at : ℕ) (h : Heading) (next : ℕ) → heading_fits h ≡ true
    → Stands l at (heading_bits h) next → heading_at l at ≡ Ok (h, next)
unfolding heading_bits aircraft_bits heading_at
heading_written l at h next e s =
    let f = heading_fits_is h e in
    let b₁ : List ℕ = triple_bits date_from date_to h.date in
    let b₂ : List ℕ = triple_bits time_from time_to h.time in
    let b₃ : List ℕ = whole_bits characters_least characters_most h.characters in
    let b₄ : List ℕ = bits_n (character * h.characters) h.flight in
    let b₅ : List ℕ = bits_n address_bits h.address in
    let b₆ : List ℕ = whole_bits 0 direction_last h.direction in
    let p₁ : ℕ = at + length b₁ in
    let p₂ : ℕ = at + length b₁ + length b₂ in
    let p₃ : ℕ = at + length b₁ + length b₂ + length b₃ in
    let p₄ : ℕ = at + length b₁ + length b₂ + length b₃ + length b₄ in
    let p₅ : ℕ = at + length b₁ + length b₂ + length b₃ + length b₄ + length b₅ in
    let s₁ = stands_split l at next b₁ (b₂ ++ (b₃ ++ (b₄ ++ (b₅ ++ b₆)))) s in
    let s₂ = stands_split l p₁ next b₂ (b₃ ++ (b₄ ++ (b₅ ++ b₆))) s₁.second in
    let s₃ = stands_split l p₂ next b₃ (b₄ ++ (b₅ ++ b₆)) s₂.second in
    let s₄ = stands_split l p₃ next b₄ (b₅ ++ b₆) s₃.second in
    let s₅ = stands_split l p₄ next b₅ b₆ s₄.second in
    let r₁ = triple_written date_from date_to date_small l at h.date p₁ f.date s₁.first in
    let r₂ = triple_written time_from time_to time_small l p₁ h.time p₂ f.time s₂.first in
    let r₃ = (whole_number_is characters_least characters_most (omega arith)).written_read l p₂ h.characters p₃ f.characters s₃.first in
    let r₄ = (bit_field_is (character * h.characters)).written_read l p₃ h.flight p₄ f.flight s₄.first in
    let r₅ = (bit_field_is address_bits).written_read l p₄ h.address p₅ f.address s₅.first in
    let r₆ = (whole_number_is 0 direction_last (omega arith)).written_read l p₅ h.direction next f.direction s₅.second in
    rw (r₁, r₂, r₃, r₄, r₅, r₆)

pub record HeadingIs (l : List ℕ) (at : ℕ) (h : Heading) (next : ℕ) : Type 0 where
  pub fits : heading_fits h ≡ true
  pub stands : Stands l at (heading_bits h) next

heading_made : (l : List ℕ) (at p q a b c next n x y z : ℕ) (d t : Triple) → Bits l
    → triple_at l at date_from date_to ≡ Ok (d, p) → triple_at l p time_from time_to ≡ Ok (t, q)
    → whole_number l q characters_least characters_most ≡ Ok (n, a) → bit_field l a (character * n) ≡ Ok (x, b) → bit_field l
    b address_bits ≡ Ok (y, c) → whole_number l c 0 direction_last ≡ Ok (z, next)
    → HeadingIs l at (record { date = d; time = t; characters = n; flight = x; address = y; direction = z }) next
unfolding heading_bits aircraft_bits
heading_made l at p q a b c next n x y z d t bl e₁ e₂ e₃ e₄ e₅ e₆ =
    let d₁ = triple_read date_from date_to date_small l at d p bl e₁ in
    let t₂ = triple_read time_from time_to time_small l p t q bl e₂ in
    record {
      fits =
          fits_heading (record { date = d; time = t; characters = n; flight = x; address = y; direction = z })
          (record {
            date = d₁.fits;
            time = t₂.fits;
            characters = (whole_number_is characters_least characters_most (omega arith)).read_fits l q n a bl e₃;
            flight = (bit_field_is (character * n)).read_fits l a x b bl e₄;
            address = (bit_field_is address_bits).read_fits l b y c bl e₅;
            direction = (whole_number_is 0 direction_last (omega arith)).read_fits l c z next bl e₆;
          });
      stands =
          stands_join l at p next _ _ d₁.stands
          (stands_join l p q next _ _ t₂.stands
          (stands_join l q a next _ _ ((whole_number_is characters_least characters_most (omega arith)).read_written l q n a bl e₃)
          (stands_join l a b next _ _ ((bit_field_is (character * n)).read_written l a x b bl e₄)
          (stands_join l b c next _ _ ((bit_field_is address_bits).read_written l b y c bl e₅)
          ((whole_number_is 0 direction_last (omega arith)).read_written l c z next bl e₆)))));
    }

pub heading_read : (l : List ℕ) (at : ℕ) (h : Heading) (next : ℕ) → Bits l → heading_at l at ≡ Ok (h, next) → HeadingIs l at h next
unfolding heading_at
heading_read l at h next bl e =
    on_value (HeadingIs l at h next) (h, next) (triple_at l at date_from date_to) _ (λ (d : Triple) (p : ℕ) (e₁ : triple_at l at date_from date_to ≡ Ok (d, p)).
    on_value (HeadingIs l at h next) (h, next) (triple_at l p time_from time_to) _ (λ (t : Triple) (q : ℕ) (e₂ : triple_at l p time_from time_to ≡ Ok (t, q)).
    on_value (HeadingIs l at h next) (h, next) (whole_number l q characters_least characters_most) _ (λ (n a : ℕ) (e₃ : whole_number l q characters_least characters_most ≡ Ok (n, a)).
    on_value (HeadingIs l at h next) (h, next) (bit_field l a (character * n)) _ (λ (x b : ℕ) (e₄ : bit_field l a (character * n) ≡ Ok (x, b)).
    on_value (HeadingIs l at h next) (h, next) (bit_field l b address_bits) _ (λ (y c : ℕ) (e₅ : bit_field l b address_bits ≡ Ok (y, c)).
    on_value (HeadingIs l at h next) (h, next) (whole_number l c 0 direction_last) _ (λ (z m : ℕ) (e₆ : whole_number l c 0 direction_last ≡ Ok (z, m)) (k : ◌≡◌ {A = Reading Heading} (Ok (record { date = d; time = t; characters = n; flight = x; address = y; direction = z }, m)) (Ok (h, next))).
    let u : record { date = d; time = t; characters = n; flight = x; address = y; direction = z } ≡ h = ok_value k in
    let w : m ≡ next = ok_place k in
    rw (← u, ← w) (heading_made l at p q a b c m n x y z d t bl e₁ e₂ e₃ e₄ e₅ e₆))))))) e

-- ---- a forward message

pub forward_are_bits : (h : Heading) (m : List ℕ) → Bits (string_bits bit m) → Bits (forward_bits h m)
unfolding forward_bits
forward_are_bits h m b = bits_append (heading_bits h) (string_bits bit m) (heading_are_bits h) b

pub record ForwardRead (l : List ℕ) (at next : ℕ) (h : Heading) (m : List ℕ) : Type 0 where
  pub value : Forward
  pub read : forward_at l at ≡ Ok (value, next)
  pub heading : value.heading ≡ h
  pub message : items_in l bit value.message ≡ m

pub forward_written : (l : List ℕ) (at next : ℕ) (h : Heading) (m : List ℕ) → forward_pdu_fits h m ≡ true
    → Stands l at (forward_bits h m) next → ForwardRead l at next h m
unfolding forward_pdu_fits forward_bits forward_within
forward_written l at next h m e s =
    let w = stands_split l at next (heading_bits h) (string_bits bit m) s in
    let x = heading_written l at h (at + length (heading_bits h))
    (both_left (heading_fits h) (string_fits bit 0 message_most m) e) w.first in
    let y = string_back l (at + length (heading_bits h)) next bit 0 message_most m
    (both_right (heading_fits h) (string_fits bit 0 message_most m) e) w.second in
    record { value = record { heading = h; message = span_to bit (length m / bit) next }; read = rw (x, y.0); heading = refl; message = y.1 }

pub record ForwardIs (l : List ℕ) (at : ℕ) (f : Forward) (next : ℕ) : Type 0 where
  pub placed_fits : forward_fits l f ≡ true
  pub stands : Stands l at (forward_bits f.heading (items_in l bit f.message)) next

forward_made : (l : List ℕ) (at p next n : ℕ) (h : Heading) → Bits l → heading_at l at ≡ Ok (h, p) → string_at l p bit 0 message_most ≡ Ok (n, next) → ForwardIs l at (record { heading = h; message = span_to bit n next }) next
unfolding forward_fits forward_bits
forward_made l at p next n h b e f =
    let x = heading_read l at h p b e in
    let y = items_read l p next bit 0 message_most n b (omega arith) f in
    record { placed_fits = rw x.fits y.placed_fits; stands = stands_join l at p next _ _ x.stands y.stands }

pub forward_read : (l : List ℕ) (at : ℕ) (f : Forward) (next : ℕ) → Bits l → forward_at l at ≡ Ok (f, next) → ForwardIs l at f next
unfolding forward_within
forward_read l at f next b e =
    on_value (ForwardIs l at f next) (f, next) (heading_at l at) _ (λ (h : Heading) (p : ℕ) (e₁ : heading_at l at ≡ Ok (h, p)).
    on_value (ForwardIs l at f next) (f, next) (string_at l p bit 0 message_most) _ (λ (n m : ℕ) (e₂ : string_at l p bit 0 message_most ≡ Ok (n, m)) (k : ◌≡◌ {A = Reading Forward} (Ok (record { heading = h; message = span_to bit n m }, m)) (Ok (f, next))).
    let u : record { heading = h; message = span_to bit n m } ≡ f = ok_value k in
    let w : m ≡ next = ok_place k in
    rw (← u, ← w) (forward_made l at p m n h b e₁ e₂))) e
