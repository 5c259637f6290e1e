-- Laws of the writers of contents in place, as the code has them.
-- Assumes nothing.
use mathlib.Core.Path.{◌≡◌, refl, ap, sym, ◌∙◌}
use mathlib.Core.Bool.{Bool, true, false}
use mathlib.Core.List.{List, [], ◌++◌, append_assoc, append-nil}
use Prim.Native.Nat.{ℕ, ◌+◌, ◌*◌, ◌/◌, ◌^◌, ◌≤◌, ◌<◌}
use native.Mathlib.Omega.{arith}
use borrow.Author.Tests.{le-leb, lt-ltb}
use lib.ListN.{length, length-append}
use lib.Arith.{digits_lt}
use lib.Pow.{pow-add}
use Rattle.words.proofs.Laws.{both_left, both_right}
use Rattle.bits.specs.Bits.{bits_n, run}
use Rattle.bits.specs.Put.{left, put_bits, put_run, put_if, put_number, copy_run, put_led}
use Rattle.bits.proofs.Numbers.{length_bits_n}
use Rattle.fields.specs.Encodings.{length_bits}
use Rattle.bits.proofs.Bytes.{length_to, run_to}
use Rattle.bits.proofs.Joining.{bits_n_join}
use Rattle.apdu.specs.Sizes.{buffer_least, message_most, length_most, all_bits, bit}
use Rattle.apdu.specs.Headings.{heading_bits, heading_fits}
use Rattle.apdu.specs.Pdus.{lent, items_in, part_in}
use Rattle.apdu.specs.Encoding.{presence, string_bits, forward_bits, forward_pdu_fits}
use Rattle.apdu.specs.InPlace.{bits_in, perhaps_bits, headed_bits, forward_by}
use Rattle.apdu.specs.Writing.{items_fit, part_fits, data_fits, forward_fits, there, RoomFor, Goes, place_of}
use Rattle.pdus.specs.declared.Span.{Span}
use Rattle.apdu.specs.declared.Data.{Data}
use Rattle.apdu.specs.declared.Heading.{Heading}
use Rattle.apdu.specs.declared.Forward.{Forward}
use Rattle.apdu.proofs.Bounds.{counted as in-sizes, items_fits, length_items, data_fits_is, forward_value_fits, forward_most, forward_most_is}
use Rattle.apdu.proofs.Writers.{placed, behind, room_behind, room_for, number_run, there_lt}
use Rattle.apdu.proofs.ForwardWriters as forward
use Rattle.apdu.proofs.ForwardWriters.{message_fits, forward_goes}
use Rattle.std.specs.Prelude.{None, Option, Some}

-- ---- a run of lent bytes that is within the sizes

module _ (src : List ℕ) (x : Span) (fits : items_fit (lent src) bit 0 message_most x ≡ true) where
  is_there : x.at + x.count ≤ length (lent src)
  is_there = omega (arith, (items_fits (lent src) bit 0 message_most x fits).held)

  in_place : run src x.at x.count ≡ items_in (lent src) bit x
  in_place =
      let one : bit * x.count ≡ x.count = omega arith in
      rw one (sym (run_to src all_bits x.at x.count (omega (arith, is_there, length_to src all_bits))))

  in-place-most : length (items_in (lent src) bit x) ≤ message_most
  in-place-most =
      let f = items_fits (lent src) bit 0 message_most x fits in
      let c = in-sizes 0 message_most x.count f.fits in
      rw (length_items (lent src) bit x f.held) (omega (arith, c.high))

-- ---- a message behind a number of a few bits, or that number alone

no_bits : (l : List ℕ) (p : Option Span) → p ≡ None → bits_in (part_in l bit p) ≡ []
unfolding bits_in part_in
no_bits l p q = rw q

its_bits : (l : List ℕ) (p : Option Span) (x : Span) → p ≡ Some x → bits_in (part_in l bit p) ≡ items_in l bit x
unfolding bits_in part_in
its_bits l p x q = rw q

module _ (s z msgs : List ℕ) (lead led p : ℕ) (m : Option Span) (r : Option ℕ) (few : lead ≤ 6) (low : led < 2 ^ lead) (fits : part_fits (lent msgs) bit 0 message_most m ≡ true)
    (room : RoomFor s 0 (bits_n lead led ++ bits_in (part_in (lent msgs) bit m))) (q : p ≡ place_of r) where
  whole_goes : left r z ≡ put_run s all_bits 0 (bits_n lead led ++ bits_in (part_in (lent msgs) bit m))
      → Goes s z 0 p (bits_n lead led ++ bits_in (part_in (lent msgs) bit m))
  whole_goes w = placed s z 0 p (bits_n lead led ++ bits_in (part_in (lent msgs) bit m)) r room w q

  pub alone : m ≡ None → left r z ≡ put_number s all_bits 0 lead led
      → Goes s z 0 p (bits_n lead led ++ bits_in (part_in (lent msgs) bit m))
  alone n w = whole_goes (number_run s (left r z) all_bits 0 lead led (omega arith) low w ∙ ap (put_run s all_bits 0)
      (rw (no_bits (lent msgs) m n, append-nil)))

  itself : (x : Span) → m ≡ Some x → items_fit (lent msgs) bit 0 message_most x ≡ true
  unfolding part_fits
  itself x g = rw g at fits

  pub led_message : (x : Span) → m ≡ Some x → left r z ≡ put_led s all_bits 0 lead led msgs all_bits x.at x.count
      → Goes s z 0 p (bits_n lead led ++ bits_in (part_in (lent msgs) bit m))
  unfolding put_led put_if
  led_message x g w =
      let f = itself x g in
      let k : left r z ≡ put_run s all_bits 0 (bits_n lead led ++ run msgs x.at x.count) = w ∙ rw (
        le-leb lead 56
            (omega arith),
        lt-ltb led (2 ^ lead) low,
        le-leb (x.at + x.count) (length (lent msgs))
            (is_there msgs x f),
      ) in
      whole_goes (k ∙ ap (λ (l : List ℕ). put_run s all_bits 0 (bits_n lead led ++ l)) (in_place msgs x f ∙ sym (its_bits (lent msgs) m x g)))

-- what has shape fits the buffer, with its padding, behind a few bits
part_most : (src : List ℕ) (p : Option Span) → part_fits (lent src) bit 0 message_most p ≡ true
    → length (bits_in (part_in (lent src) bit p)) ≤ message_most
unfolding part_fits bits_in part_in
part_most src None h = omega arith
part_most src (Some x) h = in-place-most src x h

module _ (li msgs lc : List ℕ) (d : Data) (lead led : ℕ) (few : lead ≤ 6) (h : data_fits li (lent msgs) lc d ≡ true) where
  pub message_pads : length (bits_n lead led ++ bits_in (part_in (lent msgs) bit d.message)) + 7 ≤ 8 * buffer_least
  message_pads = rw (length-append, length_bits_n) (omega (arith, part_most msgs d.message (data_fits_is li (lent msgs) lc d h).message))

  pub message_room : (s : List ℕ) → buffer_least ≤ length s
      → RoomFor s 0 (bits_n lead led ++ bits_in (part_in (lent msgs) bit d.message))
  message_room s b = room_for s _ b (omega (arith, message_pads))

-- ---- the number before a start's message, with the bit of the CHOICE

present : (l : List ℕ) (p : Option Span) → presence (part_in l bit p) ≡ there p
unfolding part_in
present l None = refl
present l (Some x) = refl

module _ (w v t : ℕ) (p : Option Span) (e : t ≡ there p) where
  marked_low : t < 2 ^ 1
  marked_low = omega (arith, e, there_lt p)

  pub marked_lt : v < 2 ^ w → v * 2 + t < 2 ^ (w + 1)
  marked_lt h = rw (pow-add 2 w 1) (digits_lt h marked_low)

  pub marked : (l f : List ℕ) → bits_n w v ≡ f → bits_n (w + 1) (v * 2 + t) ++ bits_in (part_in l bit p) ≡ f ++ perhaps_bits (part_in l bit p)
  unfolding perhaps_bits
  marked l f h =
      let j : bits_n (w + 1) (v * 2 + t) ≡ bits_n w v ++ bits_n 1 t = bits_n_join w 1 v t marked_low in
      rw (j, h, append_assoc, present l p, e)

-- ---- a forward message, its message behind its count or in place

-- without the count it is shorter, and the heading is a part of it
headed_less : (h : Heading) (m : List ℕ) → length (headed_bits h m) ≤ length (forward_bits h m)
unfolding headed_bits forward_bits string_bits
headed_less h m =
    omega (
      arith,
      length-append (heading_bits h) m,
      length-append (heading_bits h) (length_bits (length m / bit) ++ m),
      length-append (length_bits (length m / bit)) m,
    )

by_most : (counted : Bool) (h : Heading) (m : List ℕ) → forward_pdu_fits h m ≡ true → length (forward_by counted h m) ≤ forward_most
by_most true h m e = forward_most_is h m e
by_most false h m e = omega (arith, headed_less h m, forward_most_is h m e)

heading_part : (counted : Bool) (h : Heading) (m : List ℕ) → length (heading_bits h) ≤ length (forward_by counted h m)
unfolding headed_bits forward_bits
heading_part true h m = omega (arith, length-append (heading_bits h) (string_bits bit m))
heading_part false h m = omega (arith, length-append (heading_bits h) m)

module _ (lm : List ℕ) (f : Forward) (lead led : ℕ) (counted : Bool) (few : lead ≤ 5) (h : forward_fits lm f ≡ true) where
  pub forward_pads : length (bits_n lead led ++ forward_by counted f.heading (items_in lm bit f.message)) + 7 ≤ 8 * buffer_least
  forward_pads = rw (length-append, length_bits_n)
      (omega (arith, by_most counted f.heading (items_in lm bit f.message) (forward_value_fits lm f h)))

  pub forward_room : (s : List ℕ) → buffer_least ≤ length s
      → RoomFor s 0 (bits_n lead led ++ forward_by counted f.heading (items_in lm bit f.message))
  forward_room s b = room_for s _ b (omega (arith, forward_pads))

module _ (s msgs : List ℕ) (at : ℕ) (counted : Bool) (f : Forward) (fits : forward_fits (lent msgs) f ≡ true)
    (room : at + length (forward_by counted f.heading (items_in (lent msgs) bit f.message)) ≤ length (lent s)) where
  heading_right : heading_fits f.heading ≡ true
  unfolding forward_fits
  heading_right = both_left (heading_fits f.heading) (items_fit (lent msgs) bit 0 message_most f.message) fits

  items_right : items_fit (lent msgs) bit 0 message_most f.message ≡ true
  unfolding forward_fits
  items_right = both_right (heading_fits f.heading) (items_fit (lent msgs) bit 0 message_most f.message) fits

  pub heading_asked : (heading_fits f.heading ≡ true) × (at + length (heading_bits f.heading) ≤ length (lent s))
  heading_asked = (heading_right, omega (arith, room, heading_part counted f.heading (items_in (lent msgs) bit f.message)))

  counted_room : counted ≡ true → at + length (forward_bits f.heading (items_in (lent msgs) bit f.message)) ≤ length (lent s)
  counted_room k = rw k at room

  placed_room : counted ≡ false → at + length (heading_bits f.heading ++ items_in (lent msgs) bit f.message) ≤ length (lent s)
  unfolding headed_bits
  placed_room k = rw k at room

  module _ (y : List ℕ) (p : ℕ) (r : Option ℕ) (w : left r y ≡ put_run s all_bits at (heading_bits f.heading)) (q : p ≡ place_of r) where
    pub items_fit_is : counted ≡ true → items_fit (lent msgs) bit 0 length_most f.message ≡ true
    items_fit_is k = message_fits s (lent msgs) at f fits (counted_room k)

    pub items_room : counted ≡ true → p + length (bits_n 0 0 ++ string_bits bit (items_in (lent msgs) bit f.message)) ≤ length (lent y)
    items_room k = forward.message_room s (lent msgs) at f fits (counted_room k) y p r w q

    pub counted_goes : counted ≡ true → (z : List ℕ) (n : ℕ)
        → Goes y z p n (bits_n 0 0 ++ string_bits bit (items_in (lent msgs) bit f.message))
        → Goes s z at n (forward_by counted f.heading (items_in (lent msgs) bit f.message))
    counted_goes k z n g = rw k (forward_goes s (lent msgs) at f fits (counted_room k) y p r w q z n g)

    heading_goes : Goes s y at p (heading_bits f.heading)
    heading_goes = placed s y at p (heading_bits f.heading) r heading_asked.1 w q

    items_goes : counted ≡ false → (z : List ℕ) (n : ℕ) (r₂ : Option ℕ)
        → left r₂ z ≡ copy_run y all_bits p msgs all_bits f.message.at f.message.count → n ≡ place_of r₂
        → Goes y z p n (items_in (lent msgs) bit f.message)
    unfolding copy_run put_if
    items_goes k z n r₂ w₂ q₂ =
        let a : left r₂ z ≡ put_run y all_bits p (run msgs f.message.at f.message.count) = w₂ ∙ rw
        (le-leb (f.message.at + f.message.count) (length (lent msgs)) (is_there msgs f.message items_right))
        in
        let e : left r₂ z ≡ put_run y all_bits p (items_in (lent msgs) bit f.message) = a ∙ ap (put_run y all_bits p)
        (in_place msgs f.message items_right) in
        placed y z p n (items_in (lent msgs) bit f.message) r₂ (room_behind s y at p (heading_bits f.heading)
        (items_in (lent msgs) bit f.message) (placed_room k) heading_goes) e q₂

    pub placed_goes : counted ≡ false → (z : List ℕ) (n : ℕ) (r₂ : Option ℕ)
        → left r₂ z ≡ copy_run y all_bits p msgs all_bits f.message.at f.message.count → n ≡ place_of r₂
        → Goes s z at n (forward_by counted f.heading (items_in (lent msgs) bit f.message))
    unfolding headed_bits
    placed_goes k z n r₂ w₂ q₂ = rw k (behind s y z at p n (heading_bits f.heading)
        (items_in (lent msgs) bit f.message) heading_goes (items_goes k z n r₂ w₂ q₂))
