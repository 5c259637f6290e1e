-- What stands in place, said once over the reader: what it reads stands there and is taken whole, and what it takes whole it reads wherever it stands.
-- Assumes nothing.
use mathlib.Core.Path.{◌≡◌, refl, sym, ap, subst, ◌∙◌}
use mathlib.Core.Bool.{Bool, true, false}
use mathlib.Core.List.{List, [], ◌∷◌, ◌++◌}
use Prim.Native.Nat.{ℕ, ◌+◌, ◌-◌, ◌≤◌, ◌<◌}
use native.Mathlib.Omega.{arith}
use lib.ListN.{length, take, drop, length-append}
use lib.Seq.{take-length}
use lib.Dec.{eqb}
use borrow.Author.Tests.{eqb-true, eq-eqb}
use Rattle.words.proofs.Laws.{ok_place, ok_value}
use Rattle.bits.proofs.Numbers.{Bits}
use Rattle.fields.specs.Encodings.{whole_bits}
use Rattle.fields.proofs.RoundTrip as trip
use Rattle.kinds.specs.declared.Direction.{Direction}
use Rattle.elements.specs.declared.values.Element.{Element}
use Rattle.elements.proofs.Standing.{Stands, as_field}
use Rattle.elements.proofs.Steps.{never, then_is}
use Rattle.inner.specs.declared.values.Message.{Message}
use Rattle.inner.specs.Places.{row_bits}
use Rattle.inner.specs.Messages.{no_header, body_at, message_at, message_text, message_fits, message_bits}
use Rattle.inner.proofs.MessageLaws.{message_reads, message_stands, one_bit}
use Rattle.inner.proofs.MessageWritten.{length_message}
use Rattle.inplace.specs.InPlace.{message_span, elements_span}
use Rattle.inplace.proofs.Bodies.{body_bits, body_fits, body_reads, BodyIs, body_found}
use Rattle.std.specs.Prelude.{Err, Ok}
use Rattle.fields.specs.Fields.{Reading}

-- ---- the statement

-- bits that a reader takes from the first to the last
abbrev pub is_all : ℕ → Reading ℕ → Bool
is_all n (Ok (k, next)) = eqb k n
is_all n (Err r) = false

unfoldable pub takes_all : (List ℕ → ℕ → Reading ℕ) → List ℕ → Bool
takes_all rd bs = is_all (length bs) (rd bs 0)

pub record InPlace (rd : List ℕ → ℕ → Reading ℕ) : Type 0 where
  -- what was read stands there, and nothing else was looked at
  pub stands : (l : List ℕ) (at n next : ℕ) → Bits l → rd l at ≡ Ok (n, next) → trip.Stands l at (take n (drop at l)) next
  pub takes : (l : List ℕ) (at n next : ℕ) → Bits l → rd l at ≡ Ok (n, next) → takes_all rd (take n (drop at l)) ≡ true
  pub count : (l : List ℕ) (at n next : ℕ) → Bits l → rd l at ≡ Ok (n, next) → length (take n (drop at l)) ≡ n
  -- what is taken whole is read wherever it stands
  pub reads : (l bs : List ℕ) (at next : ℕ) → Bits bs → takes_all rd bs ≡ true → trip.Stands l at bs next
      → rd l at ≡ Ok (length bs, next)

-- ---- from values with bits

pub record Found {Val : Type 0} (ok : Val → Bool) (bits : Val → List ℕ) (l : List ℕ) (at n next : ℕ) : Type 0 where
  pub value : Val
  pub there : Stands l at (ok value) (bits value) next
  pub some : 0 < length (bits value)
  pub long : n ≡ length (bits value)

module _ {Val : Type 0} (ok : Val → Bool) (bits : Val → List ℕ) (rd : List ℕ → ℕ → Reading ℕ) (found : (l : List ℕ) (at n next : ℕ) → Bits l → rd l at ≡ Ok (n, next) → Found ok bits l at n next)
    (back : (l : List ℕ) (at next : ℕ) (v : Val) → Stands l at (ok v) (bits v) next → rd l at ≡ Ok (length (bits v), next)) where
  module _ (l : List ℕ) (at n next : ℕ) (b : Bits l) (e : rd l at ≡ Ok (n, next)) where
    there_is : take n (drop at l) ≡ bits (found l at n next b e).value
    there_is = let f = found l at n next b e in ap (λ (x : ℕ). take x (drop at l)) f.long ∙ f.there.holds

    stands_there : trip.Stands l at (take n (drop at l)) next
    stands_there = let f = found l at n next b e in subst (λ (x : List ℕ). trip.Stands l at x next) (sym there_is)
        (as_field l at next _ (bits f.value) f.some f.there)

    alone : rd (bits (found l at n next b e).value) 0 ≡ Ok (length (bits (found l at n next b e).value), length (bits (found l at n next b e).value))
    alone =
        let f = found l at n next b e in
        let v : Val = (found l at n next b e).value in
        back (bits (found l at n next b e).value) 0 (length (bits (found l at n next b e).value)) (found l at n next b e).value (record { fits = f.there.fits; holds = take-length (bits (found l at n next b e).value); place = omega arith })

    takes_alone : takes_all rd (bits (found l at n next b e).value) ≡ true
    unfolding takes_all
    takes_alone = ap (is_all (length (bits (found l at n next b e).value))) alone ∙ eq-eqb
        (length (bits (found l at n next b e).value)) (length (bits (found l at n next b e).value)) refl

    takes_whole : takes_all rd (take n (drop at l)) ≡ true
    takes_whole = subst (λ (x : List ℕ). takes_all rd x ≡ true) (sym there_is) takes_alone

    counted : length (take n (drop at l)) ≡ n
    counted = let f = found l at n next b e in ap length there_is ∙ sym f.long

  module _ (l bs : List ℕ) (at next : ℕ) (b : Bits bs) (s : trip.Stands l at bs next) where
    from : (f : Reading ℕ) → rd bs 0 ≡ f → is_all (length bs) f ≡ true → rd l at ≡ Ok (length bs, next)
    from (Ok (k, m)) e t =
        let n : k ≡ length bs = eqb-true k (length bs) t in
        let g = found bs 0 k m b e in
        let q : take k (drop 0 bs) ≡ bits g.value = there_is bs 0 k m b e in
        let w : bs ≡ bits g.value = sym (take-length bs) ∙ ap (λ (x : ℕ). take x bs) (sym n) ∙ q in
        let p : next ≡ at + length bs = s.place in
        let h : take (length bs) (drop at l) ≡ bs = s.holds in
        let x : Stands l at (ok g.value) (bits g.value) next = record { fits = g.there.fits; holds = rw (← w) h; place = rw (← w) p } in
        subst (λ (y : List ℕ). rd l at ≡ Ok (length y, next)) (sym w) (back l at next g.value x)
    from (Err r) e t = never (cc)

    reads_there : takes_all rd bs ≡ true → rd l at ≡ Ok (length bs, next)
    unfolding takes_all
    reads_there t = from (rd bs 0) refl t

  pub in_place : InPlace rd
  in_place = record { stands = stands_there; takes = takes_whole; count = counted; reads = λ (l bs : List ℕ) (at next : ℕ) (b : Bits bs) (t : takes_all rd bs ≡ true) (s : trip.Stands l at bs next). reads_there l bs at next b s t }

-- ---- a message

pub record Written : Type 0 where
  pub message : Message
  pub text : List ℕ

module _ (d : Direction) where
  abbrev ok_message : Written → Bool
  ok_message v = message_fits d v.message v.text

  abbrev bits_message : Written → List ℕ
  bits_message v = message_bits d v.message v.text

  message_found : (l : List ℕ) (at n next : ℕ) → Bits l → message_span d l at ≡ Ok (n, next) → Found ok_message bits_message l at n next
  unfolding message_span
  message_found l at n next b e =
      then_is (message_at d l at) _ (n, next)
      (λ (m : Message) (k : ℕ) (p : message_at d l at ≡ Ok (m, k)) (q : Ok (k - at, k) ≡ Ok (n, next)).
      let j : k ≡ next = ok_place q in
      let c : k - at ≡ n = ok_value q in
      let s = message_stands d l at k m b p in
      let long = length_message d m (message_text d l at m) in
      let o = s.place in
      record { value = record { message = m; text = message_text d l at m }; there = rw (← j) s; some = omega arith; long = omega arith })
      e

  message_back : (l : List ℕ) (at next : ℕ) (v : Written) → Stands l at (ok_message v) (bits_message v) next
      → message_span d l at ≡ Ok (length (bits_message v), next)
  unfolding message_span
  message_back l at next v s =
      let e = message_reads d l at next v.message v.text s in
      let o = s.place in
      let c : next - at ≡ length (bits_message v) = omega arith in
      rw (e, c)

  pub message_in_place : InPlace (message_span d)
  message_in_place = in_place ok_message bits_message (message_span d) message_found message_back

-- ---- the elements of a message

pub record Listed : Type 0 where
  pub elements : List Element
  pub text : List ℕ

module _ (d : Direction) where
  abbrev ok_elements : Listed → Bool
  ok_elements v = body_fits d v.elements v.text

  abbrev bits_elements : Listed → List ℕ
  bits_elements v = body_bits d v.elements v.text

  elements_found : (l : List ℕ) (at n next : ℕ) → Bits l → elements_span d l at ≡ Ok (n, next)
      → Found ok_elements bits_elements l at n next
  unfolding elements_span
  elements_found l at n next b e =
      then_is (body_at d l no_header at) _ (n, next)
      (λ (m : Message) (k : ℕ) (p : body_at d l no_header at ≡ Ok (m, k)) (q : Ok (k - at, k) ≡ Ok (n, next)).
      let j : k ≡ next = ok_place q in
      let c : k - at ≡ n = ok_value q in
      let f = body_found d l at k no_header m b p in
      let o = f.there.place in
      let z = length-append (whole_bits 0 1 0) (whole_bits 1 5 (length f.es) ++ row_bits d f.es f.text) in
      let one = one_bit in
      record { value = record { elements = f.es; text = f.text }; there = rw (← j) f.there; some = omega arith; long = omega arith })
      e

  elements_back : (l : List ℕ) (at next : ℕ) (v : Listed) → Stands l at (ok_elements v) (bits_elements v) next
      → elements_span d l at ≡ Ok (length (bits_elements v), next)
  unfolding elements_span
  elements_back l at next v s =
      let e = body_reads d l at next no_header v.elements v.text s in
      let o = s.place in
      let c : next - at ≡ length (bits_elements v) = omega arith in
      rw (e, c)

  pub elements_in_place : InPlace (elements_span d)
  elements_in_place = in_place ok_elements bits_elements (elements_span d) elements_found elements_back
