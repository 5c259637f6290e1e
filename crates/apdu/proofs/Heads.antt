-- What stands before a forward message's bits: the parts of what fits, and its size.
-- Assumes nothing.
use mathlib.Core.Path.{◌≡◌}
use mathlib.Core.Bool.{Bool, true, ◌&&◌}
use Prim.Native.Nat.{ℕ, ◌*◌, ◌≤◌}
use native.Mathlib.Omega.{arith}
use borrow.Author.Tests.{leb-true}
use lib.Dec.{leb}
use lib.ListN.{length, length-append}
use Rattle.words.proofs.Laws.{both_left, both_right}
use Rattle.bits.proofs.Numbers.{length_bits_n}
use Rattle.fields.specs.Fields.{digits_in}
use Rattle.fields.specs.Encodings.{bits_fit, whole_fits}
use Rattle.fields.proofs.Writers.{length_whole}
use Rattle.apdu.specs.Headings.{date_from, date_to, time_from, time_to, characters_least, characters_most, character, address_bits, direction_last, triple_bits, triple_fits, aircraft_bits, aircraft_fits, heading_bits, heading_fits}
use Rattle.apdu.specs.declared.Heading.{Heading}

-- the parts of what fits
pub record HeadingFits (h : Heading) : Type 0 where
  pub date : triple_fits date_from date_to h.date ≡ true
  pub time : triple_fits time_from time_to h.time ≡ true
  pub characters : whole_fits characters_least characters_most h.characters ≡ true
  pub flight : bits_fit (character * h.characters) h.flight ≡ true
  pub address : bits_fit address_bits h.address ≡ true
  pub direction : whole_fits 0 direction_last h.direction ≡ true

pub heading_fits_is : (h : Heading) → heading_fits h ≡ true → HeadingFits h
unfolding heading_fits aircraft_fits
heading_fits_is h e =
    let d : Bool = triple_fits date_from date_to h.date in
    let t : Bool = triple_fits time_from time_to h.time in
    let n : Bool = whole_fits characters_least characters_most h.characters in
    let f : Bool = bits_fit (character * h.characters) h.flight in
    let a : Bool = bits_fit address_bits h.address in
    let w : Bool = whole_fits 0 direction_last h.direction in
    let e₁ = both_right d (t && (n && (f && (a && w)))) e in
    let e₂ = both_right t (n && (f && (a && w))) e₁ in
    let e₃ = both_right n (f && (a && w)) e₂ in
    let e₄ = both_right f (a && w) e₃ in
    record {
      date = both_left d (t && (n && (f && (a && w)))) e;
      time = both_left t (n && (f && (a && w))) e₁;
      characters = both_left n (f && (a && w)) e₂;
      flight = both_left f (a && w) e₃;
      address = both_left a w e₄;
      direction = both_right a w e₄;
    }

pub fits_heading : (h : Heading) → HeadingFits h → heading_fits h ≡ true
unfolding heading_fits aircraft_fits
fits_heading h f = rw (f.date, f.time, f.characters, f.flight, f.address, f.direction)

-- ---- its size

-- the largest heading: eight characters
abbrev pub heading_most : ℕ
heading_most = 117

pub heading_most_is : (h : Heading) → heading_fits h ≡ true → length (heading_bits h) ≤ heading_most
unfolding heading_bits aircraft_bits triple_bits digits_in
heading_most_is h e =
    let f = heading_fits_is h e in
    let n = leb-true h.characters characters_most
    (both_right (leb characters_least h.characters) (leb h.characters characters_most) f.characters) in
    simp (length-append, length_bits_n, length_whole) (omega arith)
