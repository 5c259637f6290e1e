-- What stands in place is a run: the laws of a body from those of crate inplace, once over the reader; and a forward message of type 2 stands in place.
-- Assumes nothing.
use mathlib.Core.Path.{◌≡◌, refl, ap, sym, subst, ◌∙◌}
use mathlib.Core.Bool.{Bool, true, false, ◌&&◌}
use mathlib.Core.List.{List, ◌++◌}
use Prim.Native.Nat.{ℕ, ◌+◌, ◌-◌, ◌*◌, ◌^◌, ◌≤◌, ◌<◌}
use native.Mathlib.Omega.{arith}
use borrow.Author.Tests.{eqb-true, eq-eqb}
use lib.Dec.{eqb}
use lib.ListN.{length, take, drop, length-append}
use lib.Seq.{take-length}
use Rattle.words.proofs.Laws.{both_left, both_right, ok_value, ok_place}
use Rattle.bits.specs.Bits.{bits_n}
use Rattle.bits.proofs.Numbers.{Bits, length_bits_n}
use Rattle.bits.proofs.Bytes.{bits_take, bits_drop}
use Rattle.fields.proofs.RoundTrip as trip
use Rattle.kinds.specs.declared.Direction.{Direction}
use Rattle.elements.proofs.Standing.{Stands, as_field, of_field, both_hold}
use Rattle.inplace.specs.InPlace.{elements_span}
use Rattle.inplace.proofs.Laws.{InPlace, Found, is_all, takes_all, in_place, elements_in_place}
use Rattle.apdu.specs.Headings.{address_bits, aircraft_bits, heading_bits, heading_fits}
use Rattle.apdu.specs.Reading.{heading_at}
use Rattle.apdu.specs.declared.Heading.{Heading}
use Rattle.apdu.proofs.Forwards.{heading_written, heading_read}
use Rattle.front.specs.Runs.{is_bits}
use Rattle.front.proofs.Runs.{Ends, Apart, RunLaws, is_bits_is, bits_is}
use Rattle.front.proofs.Laws.{via, run_most}
use Rattle.elements.proofs.Steps.{never}
use Rattle.plain.specs.Plain.{direction_of}
use Rattle.plain.proofs.Bodies.{forward_span}
use Rattle.std.specs.Prelude.{Err, Ok}
use Rattle.fields.specs.Fields.{Reading, then}

-- ---- a run

module _ (rd : List ℕ → ℕ → Reading ℕ) (p : InPlace rd) where
  -- where it ends, by its count
  pub ends_by : (l : List ℕ) (at n next : ℕ) → Bits l → rd l at ≡ Ok (n, next) → next ≡ at + n
  ends_by l at n next b e =
      let s = p.stands l at n next b e in
      let c = p.count l at n next b e in
      omega (arith, s.place)

  whole : (v : List ℕ) (f : Reading ℕ) → Bits v → rd v 0 ≡ f → is_all (length v) f ≡ true → Ends f (length v)
  whole v (Ok (k, m)) b e t =
      let n : k ≡ length v = eqb-true k (length v) t in
      let z = ends_by v 0 k m b e in
      let q : m ≡ length v = omega arith in
      record { value = k; is = ap (λ (place : ℕ). Ok (k, place)) q }
  whole v (Err r) b e t = never (cc)

  run_apart : (l : List ℕ) (at n next : ℕ) → Bits l → rd l at ≡ Ok (n, next) → Apart rd l at next
  unfolding takes_all
  run_apart l at n next b e =
      let s = p.stands l at n next b e in
      let c = p.count l at n next b e in
      let z = ends_by l at n next b e in
      let w = s.within in
      let k : next - at ≡ n = omega arith in
      let a = whole (take n (drop at l)) (rd (take n (drop at l)) 0) (bits_take n (drop at l) (bits_drop at l b)) refl
      (p.takes l at n next b e) in
      record { from = omega arith; within = omega arith; itself = rw k (subst (λ (x : ℕ). Ends (rd (take n (drop at l)) 0) x) c a) }

  run_anywhere : (v l : List ℕ) (at next : ℕ) → Bits v → Ends (rd v 0) (length v) → trip.Stands l at v next → Ends (rd l at) next
  unfolding takes_all
  run_anywhere v l at next b e s =
      let z = ends_by v 0 e.value (length v) b e.is in
      let n : e.value ≡ length v = omega arith in
      let t : is_all (length v) (rd v 0) ≡ true = ap (is_all (length v)) e.is ∙ eq-eqb e.value (length v) n in
      record { value = length v; is = p.reads l v at next b t s }

  pub run_of : ((v : List ℕ) → Bits v → Ends (rd v 0) (length v) → length v ≤ run_most) → RunLaws rd
  run_of most = record { most = most; apart = run_apart; anywhere = run_anywhere }

-- ---- a forward message: the heading, then the elements of its direction

pub record Forwarded : Type 0 where
  pub heading : Heading
  pub elements : List ℕ

abbrev pub right : Forwarded → Bool
right v = heading_fits v.heading && (is_bits v.elements && takes_all (elements_span (direction_of v.heading.direction)) v.elements)

abbrev pub bits_of : Forwarded → List ℕ
bits_of v = heading_bits v.heading ++ v.elements

some_heading : (h : Heading) → 0 < length (heading_bits h)
unfolding heading_bits aircraft_bits
some_heading h = simp length-append (omega (arith, length_bits_n address_bits h.address))

pub forward_found : (l : List ℕ) (at n next : ℕ) → Bits l → forward_span l at ≡ Ok (n, next) → Found right bits_of l at n next
unfolding forward_span
forward_found l at n next b e =
    via (Found right bits_of l at n next) (heading_at l at) _ (n, next) (λ (h : Heading) (p : ℕ) (eh : heading_at l at ≡ Ok (h, p)) (k : then (elements_span (direction_of h.direction) l p) (λ (m q : ℕ). Ok (q - at, q)) ≡ Ok (n, next)).
    via (Found right bits_of l at n next) (elements_span (direction_of h.direction) l p) _ (n, next) (λ (m q : ℕ) (ee : elements_span (direction_of h.direction) l p ≡ Ok (m, q)) (j : ◌≡◌ {A = Reading ℕ} (Ok (q - at, q)) (Ok (n, next))).
    let z : q ≡ next = ok_place j in
    let c : q - at ≡ n = ok_value j in
    let i = heading_read l at h p b eh in
    let pl = elements_in_place (direction_of h.direction) in
    let s = pl.stands l p m q b ee in
    let t = pl.takes l p m q b ee in
    let w = trip.stands_join l at p q (heading_bits h) (take m (drop p l)) i.stands s in
    let some = some_heading h in
    let long = length-append (heading_bits h) (take m (drop p l)) in
    let pw = w.place in
    let ok : right (record { heading = h; elements = take m (drop p l) }) ≡ true = both_hold _ _ i.fits (both_hold _ _ (bits_is (take m (drop p l)) (bits_take m (drop p l) (bits_drop p l b))) t) in
    record { value = record { heading = h; elements = take m (drop p l) }; there = rw (← z) (of_field l at q (right (record { heading = h; elements = take m (drop p l) })) (heading_bits h ++ take m (drop p l)) ok w); some = omega arith; long = omega arith }) k) e

pub forward_back : (l : List ℕ) (at next : ℕ) (v : Forwarded) → Stands l at (right v) (bits_of v) next
    → forward_span l at ≡ Ok (length (bits_of v), next)
unfolding forward_span
forward_back l at next v s =
    let h = v.heading in
    let some = some_heading v.heading in
    let long = length-append (heading_bits v.heading) v.elements in
    let t = as_field l at next (right v) (bits_of v) (omega arith) s in
    let x = trip.stands_split l at next (heading_bits v.heading) v.elements t in
    let f = s.fits in
    let g = both_right (heading_fits v.heading)
    (is_bits v.elements && takes_all (elements_span (direction_of v.heading.direction)) v.elements) f in
    let a = heading_written l at v.heading (at + length (heading_bits v.heading))
    (both_left (heading_fits v.heading) _ f) x.first in
    let b = is_bits_is v.elements (both_left (is_bits v.elements)
    (takes_all (elements_span (direction_of v.heading.direction)) v.elements) g) in
    let c = (elements_in_place (direction_of v.heading.direction)).reads l v.elements
    (at + length (heading_bits v.heading)) next b (both_right (is_bits v.elements)
    (takes_all (elements_span (direction_of v.heading.direction)) v.elements) g) x.second in
    let n : next - at ≡ length (bits_of v) = omega (arith, t.place) in
    rw (a, c, n)

pub forward_in_place : InPlace forward_span
forward_in_place = in_place right bits_of forward_span forward_found forward_back
