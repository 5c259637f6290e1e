-- A message's bytes are loaded as the message, and bytes that are loaded are those of the message that they say.
-- Assumes nothing.
use mathlib.Core.Path.{◌≡◌, refl, ap, sym, subst, ◌∙◌}
use mathlib.Core.Bool.{Bool, true, false, cond, ◌&&◌}
use mathlib.Core.List.{List, [], ◌∷◌, ◌++◌}
use Prim.Native.Nat.{ℕ, zero, suc, ◌+◌, ◌*◌}
use native.Mathlib.Omega.{arith}
use borrow.Author.Tests.{eqb-true, ltb-true}
use lib.Dec.{ltb, eqb}
use lib.ListN.{length, take, drop, get_or, length-drop, take-append-drop}
use lib.Seq.{take_at, drop_at, get_or-drop, length-take-le}
use Rattle.words.proofs.Laws.{both_left, both_right}
use Rattle.bits.proofs.Bytes.{Bytes}
use Rattle.elements.specs.declared.values.Element.{Element}
use Rattle.inner.specs.declared.values.Header.{Header}
use Rattle.inner.specs.declared.values.Message.{Message}
use Rattle.layout.specs.Layout.{front_bytes, place_bytes, places_bytes, message_bytes, header_of, element_of, elements_of, message_of, front_stands, place_stands, places_stand, message_stands, load_at}
use Rattle.layout.proofs.StructTypes.{ElementsTyped, none, more, Typed, places_fit, bytes_fit}
use Rattle.layout.proofs.InOrder.{elements_zero, elements_suc, stand_zero, stand_suc, fit_cons, bytes_cons, length_place}
use Rattle.layout.proofs.Pieces.{length_front, header_back, count_back, front_stands_is, place_stands_is, element_back, front_of, place_of, element_typed}
use Rattle.layout.proofs.Laying.{laid_is, length_message}
use Rattle.elements.proofs.Steps.{never}
use Rattle.std.specs.Prelude.{None, Option, Some}

-- the first place, and those behind it
first : (e : Element) (rest : List ℕ) → take 24 (place_bytes e ++ rest) ≡ place_bytes e
first e rest = take_at (place_bytes e) rest 24 (length_place e)

behind : (e : Element) (rest : List ℕ) → drop 24 (place_bytes e ++ rest) ≡ rest
behind e rest = drop_at (place_bytes e) rest 24 (length_place e)

places_stand_is : (es : List Element) → places_stand (length es) (places_bytes es) ≡ true
places_stand_is [] = stand_zero _
places_stand_is (e ∷ es) = rw (bytes_cons, stand_suc, first, behind, place_stands_is, places_stand_is es)

elements_back : (es : List Element) → ElementsTyped es → places_fit es ≡ true → elements_of (length es) (places_bytes es) ≡ es
elements_back [] t h = elements_zero _
elements_back (e ∷ es) (more x xs u us) h =
    let p = both_left (ltb e.characters 65536) (places_fit es) (sym (fit_cons e es) ∙ h) in
    let q = both_right (ltb e.characters 65536) (places_fit es) (sym (fit_cons e es) ∙ h) in
    rw (bytes_cons, elements_suc, first, behind, element_back e u (ltb-true _ 65536 p), elements_back es us q)

module _ (m : Message) (t : Typed m) (h : bytes_fit m ≡ true) where
  rest : drop 12 (message_bytes m) ≡ places_bytes m.places
  unfolding message_bytes
  rest = drop_at (front_bytes m.header m.count) _ 12 (length_front m.header m.count)

  fits : places_fit m.places ≡ true
  unfolding bytes_fit
  fits = both_right (ltb m.count 256) (places_fit m.places) h

  stand : places_stand 5 (places_bytes m.places) ≡ true
  stand = rw t.five at (places_stand_is m.places)

  elements : elements_of 5 (places_bytes m.places) ≡ m.places
  elements = rw t.five at (elements_back m.places t.elements fits)

  header : header_of (message_bytes m) ≡ m.header
  unfolding message_bytes
  header = header_back m.header m.count (places_bytes m.places) t.year

  count : get_or (message_bytes m) 11 0 ≡ m.count
  unfolding message_bytes
  count = count_back m.header m.count (places_bytes m.places)

  front : front_stands (message_bytes m) ≡ true
  unfolding message_bytes
  front = front_stands_is m.header m.count (places_bytes m.places)

  of_bytes : message_of (message_bytes m) ≡ m
  unfolding message_of
  of_bytes = made _ _ _ header count (ap (elements_of 5) rest ∙ elements)
    where
      made : (x : Header) (n : ℕ) (es : List Element) → x ≡ m.header → n ≡ m.count → es ≡ m.places → ◌≡◌ {A = Message} (record { header = x; count = n; places = es }) m
      made x n es p q r = rw (p, q, r)

  pub loaded_bytes : load_at (message_bytes m) ≡ Some m
  unfolding load_at message_stands
  loaded_bytes = rw (length_message m t.five, front, rest, stand, of_bytes)

-- ---- bytes that are a message

bytes_drop : (n : ℕ) (p : List ℕ) → Bytes p → Bytes (drop n p)
bytes_drop n p s k = rw (get_or-drop n p k 0) (s (n + k))

bytes_take : (n : ℕ) (p : List ℕ) → Bytes p → Bytes (take n p)
bytes_take zero p s k = omega arith
bytes_take (suc n) [] s k = omega arith
bytes_take (suc n) (x ∷ p) s zero = s zero
bytes_take (suc n) (x ∷ p) s (suc k) = bytes_take n p (λ (j : ℕ). s (suc j)) k

no_bytes : (p : List ℕ) → length p ≡ 0 → [] ≡ p
no_bytes [] h = refl
no_bytes (x ∷ p) h = absurd (omega arith)

-- n places, with what their bytes say
record Said (n : ℕ) (p : List ℕ) : Type 0 where
  pub bytes : places_bytes (elements_of n p) ≡ p
  pub count : length (elements_of n p) ≡ n
  pub typed : ElementsTyped (elements_of n p)

said : (n : ℕ) (p : List ℕ) → length p ≡ 24 * n → Bytes p → places_stand n p ≡ true → Said n p
unfolding elements_of places_bytes
said zero p h s t = record { bytes = no_bytes p (omega arith); count = refl; typed = none }
said (suc n) p h s t =
    let l : length (take 24 p) ≡ 24 = length-take-le 24 p (omega arith) in
    let d : length (drop 24 p) ≡ 24 * n = length-drop 24 p ∙ omega arith in
    let u : (place_stands (take 24 p) && places_stand n (drop 24 p)) ≡ true = sym (stand_suc n p) ∙ t in
    let b = bytes_take 24 p s in
    let r = said n (drop 24 p) d (bytes_drop 24 p s) (both_right (place_stands (take 24 p)) (places_stand n (drop 24 p)) u) in
    record {
      bytes = rw
          (place_of (take 24 p) l b (both_left (place_stands (take 24 p)) (places_stand n (drop 24 p)) u), r.bytes)
          (take-append-drop 24 p);
      count = ap suc r.count;
      typed = more (element_of (take 24 p)) (elements_of n (drop 24 p)) (element_typed (take 24 p) b) r.typed;
    }

module _ (b : List ℕ) (sized : length b ≡ 132) (s : Bytes b) (front : front_stands b ≡ true) (stand : places_stand 5 (drop 12 b) ≡ true) where
  places : Said 5 (drop 12 b)
  places = said 5 (drop 12 b) (length-drop 12 b ∙ omega arith) (bytes_drop 12 b s) stand

  bytes_are : message_bytes (message_of b) ≡ b
  unfolding message_bytes message_of
  bytes_are = rw (front_of b (omega arith) s front, places.bytes) (take-append-drop 12 b)

  bytes_typed : Typed (message_of b)
  unfolding message_of header_of
  bytes_typed =
      record {
        identification = s 0;
        reference = s 2;
        year = omega (arith, s 3, s 4);
        month = s 5;
        day = s 6;
        hours = s 7;
        minutes = s 8;
        seconds = s 9;
        five = places.count;
        elements = places.typed;
      }

-- what loading a message says
pub record Loaded (b : List ℕ) (m : Message) : Type 0 where
  pub bytes : message_bytes m ≡ b
  pub typed : Typed m
  pub sized : length b ≡ 132

pub loaded : (b : List ℕ) (m : Message) → Bytes b → load_at b ≡ Some m → Loaded b m
unfolding load_at
loaded b m s e = known (message_stands b) refl e
  where
    is : message_stands b ≡ true → Loaded b (message_of b)
    is p =
        let q = laid_is b p in
        record {
          bytes = bytes_are b q.0 s q.1 q.2;
          typed = bytes_typed b q.0 s q.1 q.2;
          sized = q.0;
        }

    known : (t : Bool) → message_stands b ≡ t → cond {A = Option Message} t (Some (message_of b)) None ≡ Some m → Loaded b m
    known true p f = let j : message_of b ≡ m = cc in subst (Loaded b) j (is p)
    known false p f = never (cc)
