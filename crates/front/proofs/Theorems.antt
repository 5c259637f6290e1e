-- What holds of the definitions that the contracts cite, over any choice of bodies: reading what was written gives the value; writing what was read gives
-- the same bytes, or, where it has additions from a later edition, the APDU with the additions gone, which is read as the same value; what a user is delivered.
-- Assumes nothing.
use mathlib.Core.Path.{◌≡◌, refl, ap, sym, subst, ◌∙◌}
use mathlib.Core.Bool.{Bool, true, false, cond, ◌&&◌}
use mathlib.Core.List.{List, ◌++◌}
use Prim.Native.Nat.{ℕ, ◌+◌, ◌-◌, ◌*◌, ◌≤◌, ◌<◌}
use native.Mathlib.Omega.{arith}
use borrow.Author.Tests.{le-ltb, lt-ltb}
use lib.ListN.{length, take, drop, length-append}
use lib.Seq.{take_at, drop_at, take-length}
use Rattle.words.proofs.Laws.{both_left, both_right}
use Rattle.bits.specs.Bits.{bits_n, bits_of}
use Rattle.bits.specs.Put.{put_bits}
use Rattle.bits.proofs.Numbers.{Bits}
use Rattle.bits.proofs.Bytes.{Bytes, bits_append, bits_to_is, length_bits_is, length_to}
use Rattle.fields.specs.Encodings.{index_bits, whole_fits}
use Rattle.fields.specs.Fields.{then}
use Rattle.fields.proofs.RoundTrip.{Stands, stands_join, stands_split, extensible_index_is}
use Rattle.pdus.specs.declared.Content.{Content}
use Rattle.front.specs.declared.Found.{Found}
use Rattle.front.specs.Padding.{all_bits, lent, buffer_least, padding, padded, bytes_for, tail_at}
use Rattle.front.specs.Body.{Lent, one, Body, Alternative, Choice}
use Rattle.front.specs.Apdus.{Apdu, apdu, apdu_fits, apdu_bits, apdu_at, index_of, body_of, found_fits, apdu_in, front_end, extended, strip, whole_at}
use Rattle.front.specs.Writing.{done, write_out}
use Rattle.apdu.proofs.Octets.{all_bits_is, put_bytes}
use Rattle.apdu.proofs.Bounds.{never}
use Rattle.apdu.proofs.Theorems.{pad_bits, length_padded, stands_front, tail_padded, front, ended_whole}
use Rattle.front.proofs.Laws.{via, AreBits, one_bits, BodyLaws, Laws, ChoiceLaws}
use Rattle.front.proofs.Apdus.{index_most, ApduRead, ApduIs, apdu_written, apdu_read}
use Rattle.std.specs.Prelude.{Err, Ok}
use Rattle.fields.specs.Fields.{Reading}
use Rattle.words.specs.declared.Unwritten.TheVariants.{Room}
use Rattle.words.specs.declared.Unwritten.TheVariants.{Shape}

module _ (c : Choice) (laws : ChoiceLaws c) where
  -- ---- sizes, and bits

  apdu_most : (v : Apdu c) → apdu_fits c v ≡ true → length (apdu_bits c v) + 7 ≤ 8 * buffer_least
  unfolding apdu_fits apdu_bits
  apdu_most v h =
      let f = both_left (whole_fits 0 c.last v.index) ((c.body v.index).fits v.held) h in
      let m = (laws.body v.index (index_most c laws v.index f)).most v.held
      (both_right (whole_fits 0 c.last v.index) ((c.body v.index).fits v.held) h) in
      let w = laws.width v.index in
      rw (length-append) (omega arith)

  found_index : (s : Lent) (x : Found) → found_fits c s x ≡ true → index_of x.pdu ≤ c.last
  unfolding found_fits
  found_index s x h = index_most c laws (index_of x.pdu) (both_left (whole_fits 0 c.last (index_of x.pdu)) ((body_of c x).stands s x) h)

  pub found_value_fits : (s : Lent) (x : Found) → AreBits s → found_fits c s x ≡ true → apdu_fits c (apdu_in c s x) ≡ true
  unfolding found_fits apdu_fits
  found_value_fits s x b h =
      rw (both_left (whole_fits 0 c.last (index_of x.pdu)) ((body_of c x).stands s x) h)
      ((laws.body (index_of x.pdu) (found_index s x h)).value_fits s x b
      (both_right (whole_fits 0 c.last (index_of x.pdu)) ((body_of c x).stands s x) h))

  found_are_bits : (s : Lent) (x : Found) → AreBits s → found_fits c s x ≡ true → Bits (apdu_bits c (apdu_in c s x))
  unfolding apdu_bits
  found_are_bits s x b h =
      bits_append (index_bits c.last (index_of x.pdu)) ((body_of c x).bits ((body_of c x).value s x))
      ((extensible_index_is c.last laws.small).are_bits (index_of x.pdu))
      ((laws.body (index_of x.pdu) (found_index s x h)).are_bits s x b)

  -- ---- reading what was written gives the value

  -- bits that are the padded encoding of a value within the sizes are read as that value
  pub encoding_accepted : (l : List ℕ) (v : Apdu c) → Bits (apdu_bits c v) → apdu_fits c v ≡ true
      → l ≡ padded (apdu_bits c v) → ApduRead c l 0 v
  encoding_accepted l v b h e =
      rw e (apdu_written c laws (padded (apdu_bits c v)) 0 (length (apdu_bits c v))
      (length (apdu_bits c v) + padding (length (apdu_bits c v))) v (pad_bits (apdu_bits c v) b) h
      (stands_front (apdu_bits c v)) (tail_padded (apdu_bits c v)))

  -- what is written to a buffer is read as it was
  pub written_read : (v : Apdu c) (t : List ℕ) → Bits (apdu_bits c v) → apdu_fits c v ≡ true → buffer_least ≤ length t
      → ApduRead c (lent (take (bytes_for (length (apdu_bits c v))) (put_bits t 0 (padded (apdu_bits c v))))) 0 v
  written_read v t b h g = encoding_accepted _ v b h (front t (apdu_bits c v) b (apdu_most v h) g).bits

  -- what stands in lent bits, put into a buffer, is read as it was
  pub put_read : (s : Lent) (x : Found) (t : List ℕ) → AreBits s → found_fits c s x ≡ true → buffer_least ≤ length t
      → ApduRead c (lent
      (take (bytes_for (length (apdu_bits c (apdu_in c s x)))) (put_bits t 0 (padded (apdu_bits c (apdu_in c s x))))))
      0 (apdu_in c s x)
  put_read s x t b h g = written_read (apdu_in c s x) t (found_are_bits s x b h) (found_value_fits s x b h) g

  -- one encoding, one value
  pub one_value : (v w : Apdu c) → Bits (apdu_bits c v) → Bits (apdu_bits c w) → apdu_fits c v ≡ true → apdu_fits c w ≡ true
      → padded (apdu_bits c v) ≡ padded (apdu_bits c w) → v ≡ w
  one_value v w bv bw f g e =
      let x = encoding_accepted (padded (apdu_bits c v)) v bv f refl in
      let y = encoding_accepted (padded (apdu_bits c v)) w bw g e in
      let q : Ok x.found ≡ Ok y.found = sym x.read ∙ y.read in
      let z : x.found ≡ y.found = cc in
      sym x.same ∙ ap (apdu_in c (one (padded (apdu_bits c v)))) z ∙ y.same

  -- ---- writing what was read gives the same bytes

  -- Bits that are read as an APDU: with the additions gone they are the padded encoding of its value, which is within the sizes.
  pub record Accepted (l : List ℕ) (x : Found) : Type 0 where
    pub stands : found_fits c (one l) x ≡ true
    pub fits : apdu_fits c (apdu_in c (one l) x) ≡ true
    pub bits : strip c l x ≡ padded (apdu_bits c (apdu_in c (one l) x))

  module _ (l : List ℕ) (x : Found) (b : Bits l) (e : apdu_at c l 0 ≡ Ok x) where
    pub is : ApduIs c l 0 x
    is = apdu_read c laws l 0 x b e

    of : Laws (body_of c x)
    of = laws.body (index_of x.pdu) (index_most c laws (index_of x.pdu) is.index)

    place_is : is.place ≡ front_end c x
    place_is = omega (arith, is.front.place)

    stood : found_fits c (one l) x ≡ true
    unfolding found_fits
    stood = rw is.index (of.read_stands l is.place is.next x b is.body)

    stripped : strip c l x ≡ padded (apdu_bits c (apdu_in c (one l) x))
    unfolding strip apdu_bits
    stripped =
        let p : (body_of c x).plain l (front_end c x) x ≡ (body_of c x).bits ((body_of c x).value (one l) x) = subst
        (λ (n : ℕ). (body_of c x).plain l n x ≡ (body_of c x).bits ((body_of c x).value (one l) x)) place_is
        (of.read_plain l is.place is.next x b is.body) in
        rw (is.front.holds, p)

    pub accepted_encoding : Accepted l x
    accepted_encoding = record { stands = stood; fits = found_value_fits (one l) x (one_bits l b) stood; bits = stripped }

    -- WITH THE ADDITIONS GONE IT IS READ AS THE SAME VALUE
    pub stripped_read : ApduRead c (strip c l x) 0 (apdu_in c (one l) x)
    stripped_read = encoding_accepted (strip c l x) (apdu_in c (one l) x) (found_are_bits (one l) x (one_bits l b) stood)
        accepted_encoding.fits accepted_encoding.bits

    -- what a user is delivered: the body's bits, whatever its extension bit was
    pub delivered : (body_of c x).bits ((body_of c x).value (one l) x) ≡ (body_of c x).plain l (front_end c x) x
    delivered = sym (subst (λ (n : ℕ). (body_of c x).plain l n x ≡ (body_of c x).bits ((body_of c x).value (one l) x))
        place_is (of.read_plain l is.place is.next x b is.body))

    -- to take additions away changes nothing exactly where there are none
    pub strip_plain : strip c l x ≡ l → extended c l x ≡ false
    unfolding extended apdu_bits
    strip_plain k =
        let s = stands_front (apdu_bits c (apdu_in c (one l) x)) in
        let t : Stands l 0 (index_bits c.last (index_of x.pdu) ++ (body_of c x).bits ((body_of c x).value (one l) x)) _
        = subst
        (λ (y : List ℕ). Stands y 0 (apdu_bits c (apdu_in c (one l) x)) (length (apdu_bits c (apdu_in c (one l) x))))
        (sym stripped ∙ k) s in
        let w = stands_split l 0 _ (index_bits c.last (index_of x.pdu)) ((body_of c x).bits ((body_of c x).value (one l) x)) t in
        let z : 0 + length (index_bits c.last (index_of x.pdu)) ≡ front_end c x = omega arith in
        of.clear l (front_end c x) _ x (subst (λ (n : ℕ). Stands l n ((body_of c x).bits ((body_of c x).value (one l) x))
        (length (apdu_bits c (apdu_in c (one l) x)))) z w.second)

    -- ---- without additions

    module _ (none : extended c l x ≡ false) where
      pub plain_body : Stands l (front_end c x) ((body_of c x).bits ((body_of c x).value (one l) x)) is.next
      unfolding extended
      plain_body =
          subst (λ (n : ℕ). Stands l n ((body_of c x).bits ((body_of c x).value (one l) x)) is.next) place_is
          (of.unextended l is.place is.next x b is.body
          (subst (λ (n : ℕ). (body_of c x).extended l n x ≡ false) (sym place_is) none))

      plain_stands : Stands l 0 (apdu_bits c (apdu_in c (one l) x)) is.next
      unfolding apdu_bits
      plain_stands = stands_join l 0 (front_end c x) is.next _ _
          (subst (λ (n : ℕ). Stands l 0 (index_bits c.last (index_of x.pdu)) n) place_is is.front) plain_body

      -- bits without additions that are read as an APDU are the padded encoding of its value
      pub plain_encoding : l ≡ padded (apdu_bits c (apdu_in c (one l) x))
      plain_encoding = ended_whole l _ is.next is.left is.end b plain_stands is.tail

      pub plain_strip : strip c l x ≡ l
      plain_strip = stripped ∙ sym plain_encoding

      -- and so a user is delivered bits of the APDU
      pub delivered_run : (body_of c x).bits ((body_of c x).value (one l) x) ≡ take
          (length ((body_of c x).bits ((body_of c x).value (one l) x))) (drop (front_end c x) l)
      delivered_run = sym plain_body.holds

  module _ (s : List ℕ) (x : Found) (e : apdu_at c (lent s) 0 ≡ Ok x) where
    value : Apdu c
    value = apdu_in c (one (lent s)) x

    accepted : Accepted (lent s) x
    accepted = accepted_encoding (lent s) x (bits_to_is s all_bits) e

    -- every bit of accepted bytes without additions is lent
    accepted_all : extended c (lent s) x ≡ false → lent s ≡ bits_of s
    accepted_all none =
        let m = apdu_most (apdu_in c (one (lent s)) x) accepted.fits in
        let n = length_padded (apdu_bits c (apdu_in c (one (lent s)) x)) in
        let k : length (lent s) ≡ length (padded (apdu_bits c (apdu_in c (one (lent s)) x))) = ap length
        (plain_encoding (lent s) x (bits_to_is s all_bits) e none) in
        let t = length_to s all_bits in
        all_bits_is s all_bits (omega arith)

    -- To write what was read from bytes without additions, with the parts taken from where they stand, leaves those bytes in the buffer, and later bytes as
    -- they were.
    pub read_written : (t : List ℕ) → Bytes s → Bytes t → buffer_least ≤ length t → extended c (lent s) x ≡ false
        → write_out (found_fits c (one (lent s)) x) t (apdu_bits c (apdu_in c (one (lent s)) x)) ≡ done
        (Ok (length (apdu_bits c (apdu_in c (one (lent s)) x)))) (s ++ drop (length s) t)
    unfolding write_out
    read_written t hs ht g none =
        let m = apdu_most (apdu_in c (one (lent s)) x) accepted.fits in
        let n = length_padded (apdu_bits c (apdu_in c (one (lent s)) x)) in
        let q : padded (apdu_bits c (apdu_in c (one (lent s)) x)) ≡ bits_of s = sym
        (plain_encoding (lent s) x (bits_to_is s all_bits) e none) ∙ accepted_all none in
        let k : length (bits_of s) ≡ length (padded (apdu_bits c (apdu_in c (one (lent s)) x))) = ap length (sym q) in
        let z = length_bits_is s in
        let p : put_bits t 0 (padded (apdu_bits c (apdu_in c (one (lent s)) x))) ≡ s ++ drop (length s) t = ap
        (put_bits t 0) q ∙ put_bytes t s ht hs (omega arith) in
        rw (le-ltb (length t) buffer_least g, accepted.stands, p)

    -- To write what was read leaves the APDU with the additions gone at the front of the buffer, and later bytes as they were.
    pub read_stripped : (t : List ℕ) → buffer_least ≤ length t
        → write_out (found_fits c (one (lent s)) x) t (apdu_bits c (apdu_in c (one (lent s)) x)) ≡ done
        (Ok (length (apdu_bits c (apdu_in c (one (lent s)) x)))) (put_bits t 0 (strip c (lent s) x))
    unfolding write_out
    read_stripped t g = rw (le-ltb (length t) buffer_least g, accepted.stands, accepted.bits)

-- ---- the writer's refusals, and no others

pub refuses_room : (ok : Bool) (s bs : List ℕ) → length s < buffer_least → write_out ok s bs ≡ done (Err Room) s
unfolding write_out
refuses_room ok s bs h = rw (lt-ltb (length s) buffer_least h)

pub refuses_shape : (s bs : List ℕ) → buffer_least ≤ length s → write_out false s bs ≡ done (Err Shape) s
unfolding write_out
refuses_shape s bs h = rw (le-ltb (length s) buffer_least h)

pub writes : (s bs : List ℕ) → buffer_least ≤ length s → write_out true s bs ≡ done (Ok (length bs)) (put_bits s 0 (padded bs))
unfolding write_out
writes s bs h = rw (le-ltb (length s) buffer_least h)

-- ---- a body by itself, as it is delivered

pub record Whole (b : Body) (l : List ℕ) (v : b.Value) : Type 0 where
  pub content : Content
  pub read : whole_at b l ≡ Ok (content, length (b.bits v))
  pub same : b.value (one l) content ≡ v

module _ (b : Body) (laws : BodyLaws b) where
  whole_accepted : (v : b.Value) → Bits (b.bits v) → b.fits v ≡ true → Whole b (padded (b.bits v)) v
  unfolding whole_at
  whole_accepted v k h =
      let t = laws.written_read (padded (b.bits v)) 0 (length (b.bits v)) v (pad_bits (b.bits v) k) h (stands_front (b.bits v)) in
      record { content = t.content; read = rw (t.read, tail_padded (b.bits v)); same = t.same }

  pub whole_written_read : (v : b.Value) (t : List ℕ) → Bits (b.bits v) → b.fits v ≡ true → buffer_least ≤ length t
      → Whole b (lent (take (bytes_for (length (b.bits v))) (put_bits t 0 (padded (b.bits v))))) v
  whole_written_read v t k h g =
      let m = laws.most v h in
      rw (front t (b.bits v) k (omega arith) g).bits (whole_accepted v k h)

  -- what was read by itself was read at 0
  pub whole_read_is : (l : List ℕ) (c : Content) (next : ℕ) → whole_at b l ≡ Ok (c, next) → b.read l 0 ≡ Ok (c, next)
  unfolding whole_at
  whole_read_is l c next e =
      via (b.read l 0 ≡ Ok (c, next)) (b.read l 0) _ (c, next) (λ (d : Content) (n : ℕ) (f : b.read l 0 ≡ Ok (d, n)) (k : then (tail_at l n) (λ (v m : ℕ). Ok (d, n)) ≡ Ok (c, next)).
      via (b.read l 0 ≡ Ok (c, next)) (tail_at l n) _ (c, next) (λ (v m : ℕ) (t : tail_at l n ≡ Ok (v, m)) (j : ◌≡◌ {A = Reading Content} (Ok (d, n)) (Ok (c, next))). f ∙ j) k) e
