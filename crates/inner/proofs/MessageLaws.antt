-- The message: what is written is read back, and what is read stands there.
-- Assumes nothing.
use mathlib.Core.Path.{◌≡◌, refl, sym, ap, ◌∙◌}
use mathlib.Core.Bool.{Bool, true, false, cond, ◌&&◌}
use mathlib.Core.List.{List, [], ◌∷◌, ◌++◌}
use Prim.Native.Nat.{ℕ, zero, suc, ◌+◌, ◌-◌, ◌≤◌}
use native.Mathlib.Omega.{arith}
use lib.ListN.{length, take, drop, replicate, length-take, length-append, length-drop, take-append-drop}
use lib.Seq.{length-take-le, take_at, drop_at}
use lib.Dec.{eqb}
use borrow.Author.Tests.{eqb-true, eq-eqb}
use Rattle.words.proofs.Laws.{both_left, both_right, ok_place, ok_value}
use Rattle.bits.proofs.Numbers.{Bits, length_bits_n}
use Rattle.fields.specs.Fields.{Reading, refused_at, whole_number, digits_in, then}
use Rattle.fields.specs.Encodings.{whole_bits, whole_fits}
use Rattle.fields.specs.declared.Fault.TheVariants as fault
use Rattle.kinds.specs.declared.Direction.{Direction}
use Rattle.inner.specs.declared.values.Header.{Header}
use Rattle.elements.specs.declared.values.Element.{Element}
use Rattle.inner.specs.declared.values.Message.{Message}
use Rattle.elements.specs.OneElement.{bare, no_level, no_time, no_digits, plain, levels_unused, level_unused, time_unused, zeros, code_unused}
use Rattle.inner.specs.Headers.{header_fits, header_bits, header_at}
use Rattle.inner.specs.Places.{row_at, text_at, row_fits, row_bits, laid}
use Rattle.inner.specs.Messages.{message_of, count_at, body_at, message_at, message_text, empty, all_empty, message_fits, message_bits}
use Rattle.elements.proofs.Standing.{Stands, stands_join, stands_split, stands_as, both_hold}
use Rattle.elements.proofs.Steps.{never, then_is}
use Rattle.elements.proofs.Whole.{ranged, whole_reads, whole_stands, whole_below}
use Rattle.elements.proofs.Unused.{element_is, plain_is}
use Rattle.inner.proofs.HeaderLaws.{header_reads, header_stands}
use Rattle.inner.proofs.Rows.{row_reads, row_text, RowIs, row_is}
use Rattle.std.specs.Prelude.{Err, Ok}

-- ---- places that are not used

pub empty_is : (e : Element) → empty e ≡ true → e ≡ bare 0
unfolding empty
empty_is e h =
    let p = both_left (eqb e.number 0 && plain e) (eqb e.characters 0) h in
    let q = plain_is e (both_right (eqb e.number 0) (plain e) p) in
    let n = eqb-true e.number 0 (both_left (eqb e.number 0) (plain e) p) in
    let c = eqb-true e.characters 0 (both_right (eqb e.number 0 && plain e) (eqb e.characters 0) h) in
    element_is e no_level no_level no_time no_digits 0 q.level q.other q.time q.code c ∙ rw n

empty_places : (es : List Element) → all_empty es ≡ true → es ≡ replicate (length es) (bare 0)
unfolding all_empty
empty_places [] h = refl
empty_places (e ∷ es) h =
    let p = empty_is e (both_left (empty e) (all_empty es) h) in
    let q = empty_places es (both_right (empty e) (all_empty es) h) in
    rw p (ap (λ (x : List Element). bare 0 ∷ x) q)

pub places_empty : (n : ℕ) → all_empty (replicate n (bare 0)) ≡ true
unfolding all_empty empty plain levels_unused level_unused time_unused code_unused zeros
places_empty zero = refl
places_empty (suc n) = places_empty n

-- five places are the elements and empty ones
five_places : (m : Message) → whole_fits 1 5 m.count ≡ true → length m.places ≡ 5
    → all_empty (drop m.count m.places) ≡ true
    → take m.count m.places ++ replicate (5 - length (take m.count m.places)) (bare 0) ≡ m.places
five_places m f five h =
    let k = whole_below 1 5 m.count f in
    let n : length (take m.count m.places) ≡ m.count = length-take-le m.count m.places (omega arith) in
    let d : length (drop m.count m.places) ≡ 5 - m.count = length-drop m.count m.places ∙ ap (λ (x : ℕ). x - m.count) five in
    let e = empty_places (drop m.count m.places) h in
    rw n (rw (← d, ← e) (take-append-drop m.count m.places))

pub one_bit : length (whole_bits 0 1 0) ≡ 1
unfolding whole_bits digits_in
one_bit = length_bits_n 1 0

pub three_bits : (n : ℕ) → length (whole_bits 1 5 n) ≡ 3
unfolding whole_bits digits_in
three_bits n = length_bits_n 3 (n - 1)

pub record Fits (d : Direction) (m : Message) (t : List ℕ) : Type 0 where
  pub header : header_fits m.header ≡ true
  pub count : whole_fits 1 5 m.count ≡ true
  pub five : length m.places ≡ 5
  pub row : row_fits d (take m.count m.places) t ≡ true
  pub unused : all_empty (drop m.count m.places) ≡ true

pub fits_of : (d : Direction) (m : Message) (t : List ℕ) → message_fits d m t ≡ true → Fits d m t
unfolding message_fits
fits_of d m t h =
    let n : ℕ = m.count in
    let a = header_fits m.header in
    let b = whole_fits 1 5 n in
    let c = eqb (length m.places) 5 in
    let r = row_fits d (take n m.places) t in
    let u = all_empty (drop n m.places) in
    let p = both_left (a && b && c && r) u h in
    let q = both_left (a && b && c) r p in
    let o = both_left (a && b) c q in
    record {
      header = both_left a b o;
      count = both_right a b o;
      five = eqb-true (length m.places) 5 (both_right (a && b) c q);
      row = both_right (a && b && c) r p;
      unused = both_right (a && b && c && r) u h;
    }

module _ (d : Direction) (l : List ℕ) (at next : ℕ) (m : Message) (t : List ℕ) (s : Stands l at (message_fits d m t) (message_bits d m t) next) where
  es : List Element
  es = take m.count m.places

  fits : Fits d m t
  fits = fits_of d m t s.fits

  count_is : length es ≡ m.count
  unfolding es
  count_is =
      let k = whole_below 1 5 m.count fits.count in
      let five = fits.five in
      length-take-le m.count m.places (omega arith)

  pub message_reads : message_at d l at ≡ Ok (m, next)
  unfolding message_bits message_at body_at es
  message_reads =
      let h : List ℕ = header_bits m.header in
      let c : List ℕ = whole_bits 1 5 m.count in
      let x = stands_split l at next true true (h ++ whole_bits 0 1 0 ++ c) (row_bits d es t) (stands_as l at next _ _ _ refl s) in
      let y = stands_split l at _ true true (h ++ whole_bits 0 1 0) c x.0 in
      let z = stands_split l at _ true true h (whole_bits 0 1 0) y.0 in
      let r = row_reads d l es t _ next (stands_as l _ next _ _ _ fits.row x.1) in
      let p = five_places m fits.count fits.five fits.unused in
      rw (
        header_reads l at _ m.header (stands_as l at _ _ _ _ fits.header z.0),
        whole_reads l _ 0 1 0 _ (ranged 0 1 tt tt) (stands_as l _ _ _ _ _ refl z.1),
        whole_reads l _ 1 5 m.count _ (ranged 1 5 tt tt) (stands_as l _ _ _ _ _ fits.count y.1),
      )
      (rw (rw count_is at r, p))

  pub message_text_is : message_text d l at m ≡ t
  unfolding message_bits message_text es
  message_text_is =
      let h : List ℕ = header_bits m.header in
      let c : List ℕ = whole_bits 1 5 m.count in
      let x = stands_split l at next true true (h ++ whole_bits 0 1 0 ++ c) (row_bits d es t) (stands_as l at next _ _ _ refl s) in
      let y = stands_split l at _ true true (h ++ whole_bits 0 1 0) c x.0 in
      let z = stands_split l at _ true true h (whole_bits 0 1 0) y.0 in
      let r = row_text d l es t _ next (stands_as l _ next _ _ _ fits.row x.1) in
      let o = one_bit in
      let n = three_bits m.count in
      let a = length-append (h ++ whole_bits 0 1 0) c in
      let b = length-append h (whole_bits 0 1 0) in
      let e : at + length h + 4 ≡ at + length (h ++ whole_bits 0 1 0 ++ c) = omega arith in
      rw (header_reads l at _ m.header (stands_as l at _ _ _ _ fits.header z.0), e) (rw count_is at r)

-- ---- what was read

abbrev made : Header → ℕ → List Element → Message
made h n es = record { header = h; count = n; places = es ++ replicate (5 - length es) (bare 0) }

length_replicate : {A : Type 0} (n : ℕ) (x : A) → length (replicate n x) ≡ n
length_replicate zero x = refl
length_replicate (suc n) x = ap suc (length_replicate n x)

message_made : (d : Direction) (l : List ℕ) (at p q r next n : ℕ) (h : Header) (es : List Element) (t : List ℕ)
    → length es ≡ n → Stands l at (header_fits h) (header_bits h) p → Stands l p true (whole_bits 0 1 0) q
    → Stands l q (whole_fits 1 5 n) (whole_bits 1 5 n) r → Stands l r (row_fits d es t) (row_bits d es t) next
    → Stands l at (message_fits d (made h n es) t) (message_bits d (made h n es) t) next
unfolding message_fits message_bits
message_made d l at p q r next n h es t c sh sp sn sr =
    let k = whole_below 1 5 n sn.fits in
    let o : List Element = replicate (5 - length es) (bare 0) in
    let f : length (es ++ o) ≡ 5 = let a = length-append es o in let b = length_replicate (5 - length es) (bare 0) in omega arith in
    let x = take_at es o n c in
    let y = drop_at es o n c in
    let z = places_empty (5 - length es) in
    rw (x, y)
    (stands_as l at next _ _ _ (rw (sh.fits, sn.fits, eq-eqb (length (es ++ o)) 5 f, sr.fits, z))
    (stands_join l at r next _ _ _ _ (stands_join l at q r _ _ _ _ (stands_join l at p q _ _ _ _ sh sp) sn) sr))

module _ (d : Direction) (l : List ℕ) (at next : ℕ) (m : Message) (bits : Bits l) where
  Goal : Type 0
  Goal = Stands l at (message_fits d m (message_text d l at m)) (message_bits d m (message_text d l at m)) next

  -- the elements were read
  row_found : (x : Header) (p q r n : ℕ) → header_at l at ≡ Ok (x, p) → Stands l p true (whole_bits 0 1 0) q
      → Stands l q (whole_fits 1 5 n) (whole_bits 1 5 n) r → (f : Reading (List Element)) → row_at d l r n ≡ f
      → message_of x n (laid f) ≡ Ok (m, next) → Goal
  unfolding Goal message_text
  row_found x p q r n eh sp sn (Ok (es, k)) er h =
      let i : made x n es ≡ m = ok_value h in
      let j : k ≡ next = ok_place h in
      let e = row_is d l n r k es bits er in
      let a = sp.place in
      let b = sn.place in
      let o = one_bit in
      let u = three_bits n in
      let v : p + 4 ≡ r = omega arith in
      rw (← i, eh, v, ← j) (message_made d l at p q r k n x es _ e.count (header_stands l at p x bits eh) sp sn e.stands)
  row_found x p q r n eh sp sn (Err z) er h = never (cc)

  count_found : (x : Header) (p c q n r : ℕ) → header_at l at ≡ Ok (x, p) → whole_number l p 0 1 ≡ Ok (c, q) → (t : Bool) → eqb c 0 ≡ t
      → cond {A = Reading ℕ} t (whole_number l q 1 5) (refused_at p fault.NotCarried) ≡ Ok (n, r)
      → message_of x n (laid (row_at d l r n)) ≡ Ok (m, next) → Goal
  count_found x p c q n r eh ec true z en h = row_found x p q r n eh
      (stands_as l p q _ _ _ refl (rw (eqb-true c 0 z) at (whole_stands l p 0 1 c q bits ec))) (whole_stands l q 1 5 n r bits en)
      (row_at d l r n) refl h
  count_found x p c q n r eh ec false z en h = never (cc)

  pub message_stands : message_at d l at ≡ Ok (m, next)
      → Stands l at (message_fits d m (message_text d l at m)) (message_bits d m (message_text d l at m)) next
  unfolding message_at body_at Goal
  message_stands h =
      then_is (header_at l at) _ (m, next)
      (λ (x : Header) (p : ℕ) (eh : header_at l at ≡ Ok (x, p)) (g : _). then_is (count_at l p) _ (m, next)
      (λ (n r : ℕ) (en : count_at l p ≡ Ok (n, r)) (z : message_of x n (laid (row_at d l r n)) ≡ Ok (m, next)).
      then_is (whole_number l p 0 1) _ (n, r)
      (λ (c q : ℕ) (ec : whole_number l p 0 1 ≡ Ok (c, q)) (y : _). count_found x p c q n r eh ec (eqb c 0) refl y z)
      en)
      g)
      h

-- document 01, refusal 16: constrained data marked present, before the count of elements is looked at
pub constrained : (d : Direction) (l : List ℕ) (x : Header) (at next : ℕ) → whole_number l at 0 1 ≡ Ok (1, next)
    → body_at d l x at ≡ refused_at at fault.NotCarried
unfolding body_at
constrained d l x at next e = rw e
