-- Laws of the writer of a forward message, and of its test of shape, as the code has them.
-- Assumes nothing.
use mathlib.Core.Path.{◌≡◌, refl, ap, sym, ◌∙◌}
use mathlib.Core.Bool.{Bool, true, false, ◌&&◌}
use mathlib.Core.List.{List, ◌++◌}
use Prim.Native.Nat.{ℕ, zero, suc, ◌+◌, ◌*◌, ◌/◌, ◌^◌, ◌≤◌, ◌<◌}
use native.Mathlib.Omega.{arith}
use native.Mathlib.Decide.{dec_lt}
use native.Mathlib.Numerals.{unary_clauses}
use borrow.Author.Tests.{le-leb, lt-leb, lt-ltb, le-ltb, leb-true, ltb-true}
use lib.Dec.{leb, ltb}
use lib.ListN.{length, length-append}
use lib.Pow.{pow_mono}
use Rattle.words.proofs.Laws.{both_left, both_right}
use Rattle.bits.specs.Bits.{bits_n, bits_to}
use Rattle.bits.specs.Put.{Left, left, put_run, put_if, put_number}
use Rattle.bits.proofs.Putting.{put_if_yes}
use Rattle.fields.specs.Fields.{digits_in, width_of}
use Rattle.fields.specs.Encodings.{bits_fit, whole_bits, whole_fits}
use Rattle.fields.proofs.Widths.{width_within}
use Rattle.apdu.specs.Sizes.{all_bits, message_most, length_most, bit}
use Rattle.apdu.specs.Headings.{date_from, date_to, time_from, time_to, characters_least, characters_most, character, address_bits, direction_last, triple_bits, triple_fits, aircraft_bits, heading_bits, heading_fits}
use Rattle.apdu.specs.Pdus.{items_in}
use Rattle.apdu.specs.Encoding.{string_bits, forward_bits}
use Rattle.apdu.specs.Writing.{items_fit, forward_fits, Goes, place_of}
use Rattle.pdus.specs.declared.Span.{Span}
use Rattle.apdu.specs.declared.Triple.{Triple}
use Rattle.apdu.specs.declared.Heading.{Heading}
use Rattle.apdu.specs.declared.Forward.{Forward}
use Rattle.apdu.proofs.Heads.{heading_fits_is}
use Rattle.apdu.proofs.Writers.{On, put_on, number_run, placed, behind, room_behind, same_bits, unled, wider}
use Rattle.std.specs.Prelude.{Option}

-- a whole number in its range
whole_run : (s : List ℕ) (o : Left) (at lo hi v : ℕ) → whole_fits lo hi v ≡ true
    → o ≡ put_if (whole_fits lo hi v) s all_bits at (whole_bits lo hi v) → o ≡ put_run s all_bits at (whole_bits lo hi v)
whole_run s o at lo hi v f p = p ∙ put_if_yes (whole_fits lo hi v) s all_bits at (whole_bits lo hi v) f

-- a number that its bits hold
held_run : (s : List ℕ) (o : Left) (at n v : ℕ) → bits_fit n v ≡ true → o ≡ put_number s all_bits at n v → o ≡ put_run s all_bits at (bits_n n v)
held_run s o at n v f p = number_run s o all_bits at n v (leb-true n 64 (both_left (leb n 64) (ltb v (2 ^ n)) f))
    (ltb-true v (2 ^ n) (both_right (leb n 64) (ltb v (2 ^ n)) f)) p

-- ---- three whole numbers

pub triple_put : (s z₁ z₂ : List ℕ) (o : Left) (at p₁ p₂ : ℕ) (r₁ r₂ : Option ℕ) (lo hi v : Triple)
    → triple_fits lo hi v ≡ true → at + length (triple_bits lo hi v) ≤ length (bits_to s all_bits)
    → left r₁ z₁ ≡ put_if (whole_fits lo.first hi.first v.first) s all_bits at
    (whole_bits lo.first hi.first v.first) → p₁ ≡ place_of r₁
    → left r₂ z₂ ≡ put_if (whole_fits lo.second hi.second v.second) z₁ all_bits p₁
    (whole_bits lo.second hi.second v.second) → p₂ ≡ place_of r₂
    → o ≡ put_if (whole_fits lo.third hi.third v.third) z₂ all_bits p₂ (whole_bits lo.third hi.third v.third)
    → o ≡ put_run s all_bits at (triple_bits lo hi v)
unfolding triple_fits triple_bits
triple_put s z₁ z₂ o at p₁ p₂ r₁ r₂ lo hi v f h w₁ q₁ w₂ q₂ w₃ =
    let f₁ : Bool = whole_fits lo.first hi.first v.first in
    let f₂ : Bool = whole_fits lo.second hi.second v.second in
    let f₃ : Bool = whole_fits lo.third hi.third v.third in
    let b₁ : List ℕ = whole_bits lo.first hi.first v.first in
    let b₂ : List ℕ = whole_bits lo.second hi.second v.second in
    let b₃ : List ℕ = whole_bits lo.third hi.third v.third in
    let g = both_right f₁ (f₂ && f₃) f in
    let o₁ = put_on s z₁ all_bits at p₁ b₁ (b₂ ++ b₃) r₁ h
    (whole_run s (left r₁ z₁) at lo.first hi.first v.first (both_left f₁ (f₂ && f₃) f) w₁) q₁ in
    let o₂ = put_on z₁ z₂ all_bits p₁ p₂ b₂ b₃ r₂ o₁.room
    (whole_run z₁ (left r₂ z₂) p₁ lo.second hi.second v.second (both_left f₂ f₃ g) w₂) q₂ in
    whole_run z₂ o p₂ lo.third hi.third v.third (both_right f₂ f₃ g) w₃ ∙ o₂.whole ∙ o₁.whole

-- ---- the heading

-- room for the whole is room for the front
front_room : (s : List ℕ) (at : ℕ) (xs ys : List ℕ) → at + length (xs ++ ys) ≤ length (bits_to s all_bits)
    → at + length xs ≤ length (bits_to s all_bits)
front_room s at xs ys h =
    let n = length-append xs ys in
    omega arith

-- the aircraft, and the index
pub aircraft_put : (s z₃ z₄ z₅ : List ℕ) (o : Left) (at p₃ p₄ p₅ : ℕ) (r₃ r₄ r₅ : Option ℕ) (h : Heading)
    → heading_fits h ≡ true → at + length (aircraft_bits h) ≤ length (bits_to s all_bits)
    → left r₃ z₃ ≡ put_if (whole_fits characters_least characters_most h.characters) s all_bits at
    (whole_bits characters_least characters_most h.characters) → p₃ ≡ place_of r₃
    → left r₄ z₄ ≡ put_number z₃ all_bits p₃ (character * h.characters) h.flight → p₄ ≡ place_of r₄
    → left r₅ z₅ ≡ put_number z₄ all_bits p₄ address_bits h.address → p₅ ≡ place_of r₅
    → o ≡ put_if (whole_fits 0 direction_last h.direction) z₅ all_bits p₅ (whole_bits 0 direction_last h.direction)
    → o ≡ put_run s all_bits at (aircraft_bits h)
unfolding aircraft_bits
aircraft_put s z₃ z₄ z₅ o at p₃ p₄ p₅ r₃ r₄ r₅ h fits room w₃ q₃ w₄ q₄ w₅ q₅ w₆ =
    let f = heading_fits_is h fits in
    let b₃ : List ℕ = whole_bits characters_least characters_most h.characters in
    let b₄ : List ℕ = bits_n (character * h.characters) h.flight in
    let b₅ : List ℕ = bits_n address_bits h.address in
    let b₆ : List ℕ = whole_bits 0 direction_last h.direction in
    let o₃ = put_on s z₃ all_bits at p₃ b₃ (b₄ ++ (b₅ ++ b₆)) r₃ room
    (whole_run s (left r₃ z₃) at characters_least characters_most h.characters f.characters w₃) q₃ in
    let o₄ = put_on z₃ z₄ all_bits p₃ p₄ b₄ (b₅ ++ b₆) r₄ o₃.room
    (held_run z₃ (left r₄ z₄) p₃ (character * h.characters) h.flight f.flight w₄) q₄ in
    let o₅ = put_on z₄ z₅ all_bits p₄ p₅ b₅ b₆ r₅ o₄.room (held_run z₄ (left r₅ z₅) p₄ address_bits h.address f.address w₅) q₅ in
    whole_run z₅ o p₅ 0 direction_last h.direction f.direction w₆ ∙ o₅.whole ∙ o₄.whole ∙ o₃.whole

module _ (s : List ℕ) (at : ℕ) (h : Heading) (fits : heading_fits h ≡ true) (room : at + length (heading_bits h) ≤ length (bits_to s all_bits)) where
  split_room : at + length
      (triple_bits date_from date_to h.date ++ (triple_bits time_from time_to h.time ++ aircraft_bits h)) ≤ length
      (bits_to s all_bits)
  unfolding heading_bits
  split_room = room

  pub date_asks : (triple_fits date_from date_to h.date ≡ true) ×
      (at + length (triple_bits date_from date_to h.date) ≤ length (bits_to s all_bits))
  date_asks = (
    (heading_fits_is h fits).date,
    front_room s at (triple_bits date_from date_to h.date)
        (triple_bits time_from time_to h.time ++ aircraft_bits h) split_room,
  )

  module _ (z₁ : List ℕ) (p₁ : ℕ) (r₁ : Option ℕ) (w₁ : left r₁ z₁ ≡ put_run s all_bits at (triple_bits date_from date_to h.date)) (q₁ : p₁ ≡ place_of r₁) where
    dated : On s z₁ all_bits at p₁ (triple_bits date_from date_to h.date) (triple_bits time_from time_to h.time ++ aircraft_bits h)
    dated = put_on s z₁ all_bits at p₁ (triple_bits date_from date_to h.date)
        (triple_bits time_from time_to h.time ++ aircraft_bits h) r₁ split_room w₁ q₁

    pub time_asks : (triple_fits time_from time_to h.time ≡ true) ×
        (p₁ + length (triple_bits time_from time_to h.time) ≤ length (bits_to z₁ all_bits))
    time_asks = ((heading_fits_is h fits).time, front_room z₁ p₁ (triple_bits time_from time_to h.time) (aircraft_bits h) dated.room)

    module _ (z₂ : List ℕ) (p₂ : ℕ) (r₂ : Option ℕ) (w₂ : left r₂ z₂ ≡ put_run z₁ all_bits p₁ (triple_bits time_from time_to h.time)) (q₂ : p₂ ≡ place_of r₂) where
      timed : On z₁ z₂ all_bits p₁ p₂ (triple_bits time_from time_to h.time) (aircraft_bits h)
      timed = put_on z₁ z₂ all_bits p₁ p₂ (triple_bits time_from time_to h.time) (aircraft_bits h) r₂ dated.room w₂ q₂

      pub aircraft_asks : (heading_fits h ≡ true) × (p₂ + length (aircraft_bits h) ≤ length (bits_to z₂ all_bits))
      aircraft_asks = (fits, timed.room)

      pub heading_put : (o : Left) → o ≡ put_run z₂ all_bits p₂ (aircraft_bits h) → o ≡ put_run s all_bits at (heading_bits h)
      unfolding heading_bits
      heading_put o k = k ∙ timed.whole ∙ dated.whole

-- the characters are few
pub characters_most_is : (h : Heading) → heading_fits h ≡ true → h.characters ≤ characters_most
characters_most_is h e = leb-true h.characters characters_most (both_right (leb characters_least h.characters)
    (leb h.characters characters_most) (heading_fits_is h e).characters)

-- ---- a forward message

module _ (s lm : List ℕ) (at : ℕ) (f : Forward) (placed_fits : forward_fits lm f ≡ true) (room : at + length (forward_bits f.heading (items_in lm bit f.message)) ≤ length (bits_to s all_bits)) where
  whole_room : at + length (heading_bits f.heading ++ string_bits bit (items_in lm bit f.message)) ≤ length (bits_to s all_bits)
  unfolding forward_bits
  whole_room = room

  pub heading_asks : (heading_fits f.heading ≡ true) × (at + length (heading_bits f.heading) ≤ length (bits_to s all_bits))
  unfolding forward_fits
  heading_asks = (
    both_left (heading_fits f.heading) (items_fit lm bit 0 message_most f.message) placed_fits,
    front_room s at (heading_bits f.heading) (string_bits bit (items_in lm bit f.message)) whole_room,
  )

  pub message_fits : items_fit lm bit 0 length_most f.message ≡ true
  unfolding forward_fits
  message_fits = wider lm bit 0 message_most f.message
      (both_right (heading_fits f.heading) (items_fit lm bit 0 message_most f.message) placed_fits)

  module _ (y : List ℕ) (p : ℕ) (r : Option ℕ) (w : left r y ≡ put_run s all_bits at (heading_bits f.heading)) (q : p ≡ place_of r) where
    headed : Goes s y at p (heading_bits f.heading)
    headed = placed s y at p (heading_bits f.heading) r heading_asks.1 w q

    pub message_room : p + length (bits_n 0 0 ++ string_bits bit (items_in lm bit f.message)) ≤ length (bits_to y all_bits)
    message_room = rw (unled (string_bits bit (items_in lm bit f.message))) (room_behind s y at p
        (heading_bits f.heading) (string_bits bit (items_in lm bit f.message)) whole_room headed)

    pub forward_goes : (z : List ℕ) (n : ℕ) → Goes y z p n (bits_n 0 0 ++ string_bits bit (items_in lm bit f.message))
        → Goes s z at n (forward_bits f.heading (items_in lm bit f.message))
    unfolding forward_bits
    forward_goes z n g = behind s y z at p n (heading_bits f.heading) (string_bits bit (items_in lm bit f.message))
        headed (same_bits y z p n _ _ (unled (string_bits bit (items_in lm bit f.message))) g)

-- ---- shape

two_pow : (d : ℕ) → 2 ^ suc d ≡ 2 * 2 ^ d
two_pow d = simp unary_clauses (omega arith)

-- fewer digits than are looked at: they hold it
digits_hold : (k v : ℕ) → digits_in k v < k → v < 2 ^ digits_in k v
unfolding digits_in
digits_hold zero v h = absurd (omega arith)
digits_hold (suc k) zero h = omega arith
digits_hold (suc k) (suc v) h =
    let i = digits_hold k (suc v / 2) (omega arith) in
    rw (two_pow (digits_in k (suc v / 2))) (omega arith)

-- a number of more digits than bits does not fit them, and one of no more does
too_wide : (n v : ℕ) → n < 64 → n < width_of v → bits_fit n v ≡ false
too_wide n v h k =
    elim (dec_lt v (2 ^ n)) [
      | yes l ↦
          let b : 2 ^ n ≤ 2 ^ 64 = pow_mono {i = n} {j = 64} (omega arith) in
          let z = width_within 64 v n (omega arith) l in
          absurd (omega arith)
      | no l ↦ rw (le-leb n 64 (omega arith), le-ltb v (2 ^ n) (omega arith))
    ]

holds_digits : (n v : ℕ) → n < 64 → width_of v ≤ n → bits_fit n v ≡ true
holds_digits n v h k =
    let a = digits_hold 64 v (omega arith) in
    let b : 2 ^ width_of v ≤ 2 ^ n = pow_mono {i = width_of v} {j = n} k in
    rw (le-leb n 64 (omega arith), lt-ltb v (2 ^ n) (omega arith))

pub bits_held : (n v : ℕ) → n < 64 → leb (width_of v) n ≡ bits_fit n v
bits_held n v h =
    elim (dec_lt n (width_of v)) [
      | yes k ↦ rw (lt-leb (width_of v) n k, too_wide n v h k)
      | no k ↦
          let m : width_of v ≤ n = omega arith in
          rw (le-leb (width_of v) n m, holds_digits n v h m)
    ]
