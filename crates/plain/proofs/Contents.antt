-- Message data of type 2 as values of crate apdu: what is written reads back as it was, and what is read says where it stands.
-- Assumes nothing.
use mathlib.Core.Path.{◌≡◌, refl, ap, sym, subst, ◌∙◌}
use mathlib.Core.Bool.{Bool, true, false, cond, ◌&&◌}
use mathlib.Core.List.{List, [], ◌∷◌, ◌++◌}
use Prim.Native.Nat.{ℕ, ◌+◌, ◌-◌, ◌*◌, ◌^◌, ◌≤◌, ◌<◌}
use native.Mathlib.Omega.{arith}
use borrow.Author.Tests.{le-leb, lt-ltb, ltb-true, eqb-true, eqb-false}
use lib.Dec.{leb, ltb, eqb}
use lib.ListN.{length, take, drop}
use Rattle.words.proofs.Laws.{both_left, both_right, ok_value, ok_place}
use Rattle.bits.specs.Bits.{bits_n}
use Rattle.bits.proofs.Numbers.{Bits}
use Rattle.bits.proofs.Bytes.{bits_take, bits_drop, length_part}
use Rattle.fields.specs.Fields.{bit_field, then}
use Rattle.fields.specs.Encodings.{within_fits}
use Rattle.fields.specs.declared.Refusal.{Refusal}
use Rattle.fields.proofs.RoundTrip.{Stands, stands_join, stands_split, bit_field_is}
use Rattle.elements.proofs.Standing.{both_hold}
use Rattle.kinds.specs.declared.Direction.{Direction}
use Rattle.inplace.specs.InPlace.{message_span, elements_span}
use Rattle.inplace.proofs.Laws.{InPlace, message_in_place, elements_in_place}
use Rattle.apdu.specs.Sizes.{message_most, check_most, bit}
use Rattle.apdu.specs.Headings.{heading_bits, heading_fits}
use Rattle.apdu.specs.Pdus.{Optional, absent, given, Content, items_in, part_in, content_in}
use Rattle.apdu.specs.Reading.{heading_at}
use Rattle.apdu.specs.InPlace.{bits_in, perhaps_bits, headed_bits}
use Rattle.apdu.specs.Writing.{part_fits, data_fits, forward_fits}
use Rattle.pdus.specs.declared.Span.{Span}
use Rattle.apdu.specs.declared.Data.{Data}
use Rattle.apdu.specs.declared.Heading.{Heading}
use Rattle.apdu.specs.declared.Forward.{Forward}
use Rattle.apdu.proofs.Bounds.{never, fits_items}
use Rattle.apdu.proofs.Contents.{stands_at, stands_none}
use Rattle.front.proofs.Laws.{via}
use Rattle.apdu.proofs.Forwards.{heading_written, heading_read}
use Rattle.front.proofs.Runs.{Ends, RunLaws, ends_at_is, at_end}
use Rattle.plain.specs.Plain.{direction_of, takes_all, is_absent, is_empty, message_fits, content_fits, elements_fit, no_message, message_there, send_at, start_at, forward_at}
use Rattle.plain.proofs.Runs.{ends_by}
use Rattle.plain.proofs.Instance.{message_most_is, message_laws, elements_few, elements_laws}
use Rattle.std.specs.Prelude.{Err, Ok}
use Rattle.fields.specs.Fields.{Reading}

-- ---- values

pub record ContentIs (d : Direction) (c : Content) : Type 0 where
  pub identifier : c.identifier ≡ absent
  pub check : c.check ≡ []
  pub message : message_fits d c.message ≡ true

none_there : (o : Optional) → is_absent o ≡ true → o ≡ absent
none_there absent h = refl
none_there (given l) h = never (cc)

none_listed : (l : List ℕ) → is_empty l ≡ true → l ≡ []
none_listed [] h = refl
none_listed (x ∷ l) h = never (cc)

pub content_is : (d : Direction) (c : Content) → content_fits d c ≡ true → ContentIs d c
unfolding content_fits
content_is d c h =
    let a = both_left (is_absent c.identifier && is_empty c.check) (message_fits d c.message) h in
    record {
      identifier = none_there c.identifier (both_left (is_absent c.identifier) (is_empty c.check) a);
      check = none_listed c.check (both_right (is_absent c.identifier) (is_empty c.check) a);
      message = both_right (is_absent c.identifier && is_empty c.check) (message_fits d c.message) h;
    }

abbrev content : Optional → Optional → List ℕ → Content
content i m k = record { identifier = i; message = m; check = k }

content_same : (c : Content) (m : Optional) → c.identifier ≡ absent → c.check ≡ [] → c.message ≡ m → content absent m [] ≡ c
content_same c m p q r =
    ap (λ (x : Optional). content x m []) (sym p) ∙ ap (λ (x : Optional). content c.identifier x []) (sym r) ∙ ap
    (λ (x : List ℕ). content c.identifier c.message x) (sym q)

-- ---- where they stand

abbrev span : ℕ → ℕ → Span
span at n = record { at = at; count = n }

items_there : (l : List ℕ) (at n : ℕ) → items_in l bit (span at n) ≡ take n (drop at l)
items_there l at n = let k : bit * n ≡ n = omega arith in ap (λ (x : ℕ). take x (drop at l)) k

there_content : (l : List ℕ) (at n : ℕ) → content_in l l l (message_there at n) ≡ content absent (given (take n (drop at l))) []
unfolding content_in part_in
there_content l at n = ap (λ (x : List ℕ). content absent (given x) []) (items_there l at n)

none_content : (l : List ℕ) → content_in l l l no_message ≡ content absent absent []
unfolding content_in part_in
none_content l = refl

within : (n : ℕ) → n ≤ 9097 → within_fits 0 message_most n ≡ true
within n h = rw (le-leb 0 n (omega arith), le-leb n message_most (omega arith), lt-ltb n 16384 (omega arith))

there_placed : (l : List ℕ) (at n : ℕ) → n ≤ 9097 → at + n ≤ length l → data_fits l l l (message_there at n) ≡ true
unfolding data_fits part_fits
there_placed l at n h w =
    rw (fits_items l bit 0 message_most (span at n) (record { fits = within n h; held = omega arith }))
    (fits_items l bit 0 check_most (span 0 0) (record { fits = refl; held = omega arith }))

none_placed : (l : List ℕ) → data_fits l l l no_message ≡ true
unfolding data_fits part_fits
none_placed l = fits_items l bit 0 check_most (span 0 0) (record { fits = refl; held = omega arith })

-- ---- a reader in place

module _ (rd : List ℕ → ℕ → Reading ℕ) (p : InPlace rd) (laws : RunLaws rd) where
  read_there : (l : List ℕ) (at next : ℕ) (m : List ℕ) → Bits l → takes_all rd m ≡ true → Stands l at m next
      → rd l at ≡ Ok (length m, next)
  read_there l at next m b h s =
      let e = ends_at_is (rd m 0) (length m) h in
      let k : Bits m = subst Bits s.holds (bits_take (length m) (drop at l) (bits_drop at l b)) in
      let r = laws.anywhere m l at next k e s in
      let z = ends_by rd p l at r.value next b r.is in
      let n : r.value ≡ length m = omega (arith, s.place) in
      r.is ∙ ap (λ (x : ℕ). Ok (x, next)) n

  record RunIs (l : List ℕ) (at n next : ℕ) : Type 0 where
    end : next ≡ at + n
    held : at + n ≤ length l
    bits : Bits (take n (drop at l))
    ends : Ends (rd (take n (drop at l)) 0) (length (take n (drop at l)))
    whole : takes_all rd (take n (drop at l)) ≡ true
    stands : Stands l at (take n (drop at l)) next

  run_there : (l : List ℕ) (at n next : ℕ) → Bits l → rd l at ≡ Ok (n, next) → RunIs l at n next
  run_there l at n next b e =
      let a = laws.apart l at n next b e in
      let z = ends_by rd p l at n next b e in
      let w = a.within in
      let k : next - at ≡ n = omega arith in
      let long : length (take n (drop at l)) ≡ n = length_part l at n (omega arith) in
      let s : Ends (rd (take n (drop at l)) 0) n = rw k at a.itself in
      let t : Ends (rd (take n (drop at l)) 0) (length (take n (drop at l))) = subst
      (λ (x : ℕ). Ends (rd (take n (drop at l)) 0) x) (sym long) s in
      record { end = z; held = omega arith; bits = bits_take n (drop at l) (bits_drop at l b); ends = t; whole = at_end (rd (take n (drop at l)) 0) (length (take n (drop at l))) t; stands = p.stands l at n next b e }

-- ---- message data, written and read

pub record DataRead (f : Reading Data) (l : List ℕ) (next : ℕ) (c : Content) : Type 0 where
  pub parts : Data
  pub read : f ≡ Ok (parts, next)
  pub same : content_in l l l parts ≡ c

-- bs: the bits of a message, or none, as a send or a start has them
pub record DataIs (d : Direction) (bs : Optional → List ℕ) (l : List ℕ) (at next : ℕ) (x : Data) : Type 0 where
  pub placed_fits : data_fits l l l x ≡ true
  pub fits : content_fits d (content_in l l l x) ≡ true
  pub stands : Stands l at (bs (content_in l l l x).message) next

module _ (d : Direction) where
  pub send_written : (l : List ℕ) (at next : ℕ) (c : Content) (m : List ℕ) → Bits l → ContentIs d c
      → c.message ≡ given m → Stands l at m next → DataRead (send_at d l at) l next c
  unfolding send_at
  send_written l at next c m b i e s =
      let h : takes_all (message_span d) m ≡ true = subst (λ (o : Optional). message_fits d o ≡ true) e i.message in
      let r = read_there (message_span d) (message_in_place d) (message_laws d) l at next m b h s in
      record {
        parts = message_there at (length m);
        read = rw r;
        same = there_content l at (length m) ∙ ap (λ (x : List ℕ). content absent (given x) []) s.holds ∙
            content_same c (given m) i.identifier i.check e;
      }

  pub start_written : (l : List ℕ) (at next : ℕ) (c : Content) → Bits l → ContentIs d c
      → Stands l at (perhaps_bits c.message) next → DataRead (start_at d l at) l next c
  unfolding start_at perhaps_bits bits_in
  start_written l at next c b i s = go c.message refl s
    where
      go : (o : Optional) → c.message ≡ o → Stands l at (perhaps_bits o) next → DataRead (start_at d l at) l next c
      go absent e t =
          let w = stands_split l at next (bits_n 1 0) [] t in
          let p : at + length (bits_n 1 0) ≡ next = omega (arith, w.second.place) in
          let a = (bit_field_is 1).written_read l at 0 next refl (stands_at l at (at + length (bits_n 1 0)) next (bits_n 1 0) p w.first) in
          record { parts = no_message; read = rw a; same = none_content l ∙ content_same c absent i.identifier i.check e }
      go (given m) e t =
          let w = stands_split l at next (bits_n 1 1) m t in
          let a = (bit_field_is 1).written_read l at 1 (at + length (bits_n 1 1)) refl w.first in
          let r = send_written l (at + length (bits_n 1 1)) next c m b i e w.second in
          record { parts = r.parts; read = rw a r.read; same = r.same }

  message_is : (l : List ℕ) (at n next : ℕ) → Bits l → message_span d l at ≡ Ok (n, next) → DataIs d bits_in l at next (message_there at n)
  unfolding content_fits bits_in
  message_is l at n next b e =
      let r = run_there (message_span d) (message_in_place d) (message_laws d) l at n next b e in
      let long : length (take n (drop at l)) ≡ n = length_part l at n r.held in
      let k = message_most_is d (take n (drop at l)) r.bits r.ends in
      record {
        placed_fits = there_placed l at n (omega arith) r.held;
        fits = subst (λ (c : Content). content_fits d c ≡ true) (sym (there_content l at n)) r.whole;
        stands = subst (λ (c : Content). Stands l at (bits_in c.message) next) (sym (there_content l at n)) r.stands;
      }

  pub send_read : (l : List ℕ) (at next : ℕ) (x : Data) → Bits l → send_at d l at ≡ Ok (x, next) → DataIs d bits_in l at next x
  unfolding send_at
  send_read l at next x b e =
      via (DataIs d bits_in l at next x) (message_span d l at) _ (x, next) (λ (n m : ℕ) (f : message_span d l at ≡ Ok (n, m)) (k : ◌≡◌ {A = Reading Data} (Ok (message_there at n, m)) (Ok (x, next))).
      let z : m ≡ next = ok_place k in
      let y : message_there at n ≡ x = ok_value k in
      subst (λ (q : Data). DataIs d bits_in l at next q) y (message_is l at n next b (f ∙ ap (λ (place : ℕ). Ok (n, place)) z))) e

  -- a send has a message
  pub send_there : (l : List ℕ) (at next : ℕ) (x : Data) → send_at d l at ≡ Ok (x, next) → is_absent (content_in l l l x).message ≡ false
  unfolding send_at content_in part_in
  send_there l at next x e =
      via (is_absent (content_in l l l x).message ≡ false) (message_span d l at) _ (x, next) (λ (n m : ℕ) (f : message_span d l at ≡ Ok (n, m)) (k : ◌≡◌ {A = Reading Data} (Ok (message_there at n, m)) (Ok (x, next))).
      let y : message_there at n ≡ x = ok_value k in
      subst (λ (q : Data). is_absent (content_in l l l q).message ≡ false) y refl) e

  none_is : (l : List ℕ) (at next : ℕ) → Stands l at (bits_n 1 0) next → DataIs d perhaps_bits l at next no_message
  unfolding content_fits content_in part_in perhaps_bits bits_in
  none_is l at next s =
      let p = s.place in
      let w = s.within in
      record { placed_fits = none_placed l; fits = refl; stands = stands_join l at next next (bits_n 1 0) [] s (stands_none l next (omega arith)) }

  some_is : (l : List ℕ) (at p next : ℕ) (x : Data) → Stands l at (bits_n 1 1) p
      → is_absent (content_in l l l x).message ≡ false → DataIs d bits_in l p next x → DataIs d perhaps_bits l at next x
  unfolding perhaps_bits
  some_is l at p next x s t i = record { placed_fits = i.placed_fits; fits = i.fits; stands = go (content_in l l l x).message t i.stands }
    where
      go : (o : Optional) → is_absent o ≡ false → Stands l p (bits_in o) next → Stands l at (perhaps_bits o) next
      go absent h k = never (cc)
      go (given m) h k = stands_join l at p next (bits_n 1 1) (bits_in (given m)) s k

  pub start_read : (l : List ℕ) (at next : ℕ) (x : Data) → Bits l → start_at d l at ≡ Ok (x, next) → DataIs d perhaps_bits l at next x
  unfolding start_at
  start_read l at next x b e =
      via (DataIs d perhaps_bits l at next x) (bit_field l at 1) _ (x, next) (λ (i p : ℕ) (f : bit_field l at 1 ≡ Ok (i, p)) (k : cond (eqb i 0) (Ok (no_message, p)) (send_at d l p) ≡ Ok (x, next)).
      go i p f (eqb i 0) refl k) e
    where
      one_bit : (i : ℕ) → i < 2 → eqb i 0 ≡ false → i ≡ 1
      one_bit i h q = let n = eqb-false i 0 q in omega arith

      go : (i p : ℕ) → bit_field l at 1 ≡ Ok (i, p) → (t : Bool) → eqb i 0 ≡ t
          → cond t (Ok (no_message, p)) (send_at d l p) ≡ Ok (x, next) → DataIs d perhaps_bits l at next x
      go i p f true q k =
          let z : i ≡ 0 = eqb-true i 0 q in
          let y : p ≡ next = ok_place k in
          let w : no_message ≡ x = ok_value k in
          subst (λ (v : Data). DataIs d perhaps_bits l at next v) w (none_is l at next
          (stands_at l at p next (bits_n 1 0) y (rw z at ((bit_field_is 1).read_written l at i p b f))))
      go i p f false q k =
          let lt : i < 2 ^ 1 = ltb-true i (2 ^ 1) (both_right (leb 1 64) (ltb i (2 ^ 1)) ((bit_field_is 1).read_fits l at i p b f)) in
          let z : i ≡ 1 = one_bit i (omega arith) q in
          some_is l at p next x (rw z at ((bit_field_is 1).read_written l at i p b f)) (send_there l p next x k) (send_read l p next x b k)

-- ---- a forward message

pub record ForwardRead (f : Reading Forward) (l : List ℕ) (next : ℕ) (h : Heading) (m : List ℕ) : Type 0 where
  pub value : Forward
  pub read : f ≡ Ok (value, next)
  pub heading : value.heading ≡ h
  pub message : items_in l bit value.message ≡ m

pub forward_written : (l : List ℕ) (at next : ℕ) (h : Heading) (m : List ℕ) → Bits l → heading_fits h ≡ true
    → elements_fit h m ≡ true → Stands l at (headed_bits h m) next → ForwardRead (forward_at l at) l next h m
unfolding forward_at headed_bits elements_fit
forward_written l at next h m b e g s =
    let w = stands_split l at next (heading_bits h) m s in
    let x = heading_written l at h (at + length (heading_bits h)) e w.first in
    let y = read_there (elements_span (direction_of h.direction)) (elements_in_place (direction_of h.direction))
    (elements_laws (direction_of h.direction)) l (at + length (heading_bits h)) next m b g w.second in
    record { value = record { heading = h; message = span (at + length (heading_bits h)) (length m) }; read = rw (x, y); heading = refl; message = items_there l (at + length (heading_bits h)) (length m) ∙ w.second.holds }

pub record ForwardIs (l : List ℕ) (at : ℕ) (f : Forward) (next : ℕ) : Type 0 where
  pub placed_fits : forward_fits l f ≡ true
  pub heading : heading_fits f.heading ≡ true
  pub fits : elements_fit f.heading (items_in l bit f.message) ≡ true
  pub stands : Stands l at (headed_bits f.heading (items_in l bit f.message)) next
  pub end : f.message.at + f.message.count ≡ next

elements_is : (l : List ℕ) (at p n next : ℕ) (h : Heading) → Bits l → heading_at l at ≡ Ok (h, p) → elements_span (direction_of h.direction) l p ≡ Ok (n, next) → ForwardIs l at (record { heading = h; message = span p n }) next
unfolding forward_fits headed_bits elements_fit
elements_is l at p n next h b e g =
    let i = heading_read l at h p b e in
    let r = run_there (elements_span (direction_of h.direction)) (elements_in_place (direction_of h.direction))
    (elements_laws (direction_of h.direction)) l p n next b g in
    let long : length (take n (drop p l)) ≡ n = length_part l p n r.held in
    let k = elements_few (direction_of h.direction) (take n (drop p l)) r.bits r.ends in
    record {
      placed_fits = both_hold _ _ i.fits (fits_items l bit 0 message_most (span p n) (record { fits = within n (omega arith); held = omega (arith, r.held) }));
      heading = i.fits;
      fits = subst (λ (v : List ℕ). takes_all (elements_span (direction_of h.direction)) v ≡ true) (sym (items_there l p n)) r.whole;
      stands = subst (λ (v : List ℕ). Stands l at (heading_bits h ++ v) next) (sym (items_there l p n))
          (stands_join l at p next (heading_bits h) (take n (drop p l)) i.stands r.stands);
      end = sym r.end;
    }

pub forward_read : (l : List ℕ) (at : ℕ) (f : Forward) (next : ℕ) → Bits l → forward_at l at ≡ Ok (f, next) → ForwardIs l at f next
unfolding forward_at
forward_read l at f next b e =
    via (ForwardIs l at f next) (heading_at l at) _ (f, next) (λ (h : Heading) (p : ℕ) (q : heading_at l at ≡ Ok (h, p)) (k : then (elements_span (direction_of h.direction) l p) (λ (n m : ℕ). Ok (record { heading = h; message = span p n }, m)) ≡ Ok (f, next)).
    via (ForwardIs l at f next) (elements_span (direction_of h.direction) l p) _ (f, next) (λ (n m : ℕ) (g : elements_span (direction_of h.direction) l p ≡ Ok (n, m)) (j : ◌≡◌ {A = Reading Forward} (Ok (record { heading = h; message = span p n }, m)) (Ok (f, next))).
    subst (λ (x : Forward). ForwardIs l at x next) (ok_value j) (elements_is l at p n next h b q (g ∙ ap (λ (place : ℕ). Ok (n, place)) (ok_place j)))) k) e
