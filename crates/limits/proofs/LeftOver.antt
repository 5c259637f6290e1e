-- "A length of 16,384 could come only in fragments and gets 13, so 14 is left for the integrity check and the algorithm identifier": at the card's limit no
-- length passes it, and an APDU that is refused with LIMIT is refused for one of these two.
-- Assumes nothing.
use mathlib.Core.Path.{◌≡◌, refl, ap, ◌∙◌}
use mathlib.Core.Bool.{Bool, true, false, cond, ◌&&◌}
use mathlib.Core.List.{List}
use Prim.Native.Nat.{ℕ, zero, suc, ◌+◌, ◌-◌, ◌*◌, ◌%◌}
use native.Mathlib.Omega.{arith}
use borrow.Author.Tests.{le-leb, ltb-true}
use lib.Count.{ones}
use lib.Dec.{leb, ltb, eqb}
use lib.ListN.{length}
use Rattle.bits.specs.Read.{read_bits}
use Rattle.bits.proofs.Numbers.{Bits}
use Rattle.fields.specs.Additions.{addition_count, additions_there, addition_at, stepped_over, additions_at}
use Rattle.fields.specs.Fields.{refused_at, then, field_of, bit_field, extension_bit, width_of, whole_number, extensible_index, length_at, length_from, long_length, length_within, run_at, string_at, Reading}
use Rattle.fields.specs.declared.Fault.{Fault}
use Rattle.fields.specs.declared.Fault.TheVariants.{Short, Range, Extension, LengthForm, Limit, Tail, Default}
use Rattle.fields.specs.declared.Refusal.{Refusal}
use Rattle.fields.proofs.RoundTrip.{length_determinant}
use Rattle.apdu.specs.Sizes.{identifier_least, identifier_most, message_most, check_most, user_last, provider_last, mode_last, octet, bit}
use Rattle.apdu.specs.Headings.{triple, date_from, date_to, time_from, time_to, characters_least, characters_most, character, address_bits, direction_last, response_last}
use Rattle.apdu.specs.Pdus.{last_of, kind_of}
use Rattle.apdu.specs.Encoding.{padding}
use Rattle.apdu.specs.Reading.{optional_at, span_to, parts_within, with_additions, data_within, triple_at, heading_at, forward_within, forward_at, mode_value, mode_at, kind_mode, leading_at, tail_at, ended_at, rest_within, apdu_within, apdu_at, data_at, parts_at, whole_within, whole_data, whole_forward_within, whole_forward}
use Rattle.pdus.specs.declared.PduType.{PduType}
use Rattle.pdus.specs.declared.PduType.TheVariants.{AircraftPdus, GroundPdus}
use Rattle.apdu.specs.declared.Kind.{Kind}
use Rattle.apdu.specs.declared.Kind.TheVariants as kind
use Rattle.apdu.specs.declared.Data.{Data}
use Rattle.apdu.specs.declared.Triple.{Triple}
use Rattle.apdu.specs.declared.Heading.{Heading}
use Rattle.apdu.specs.declared.Forward.{Forward}
use Rattle.apdu.specs.declared.Apdu.{Apdu}
use Rattle.apdu.specs.declared.Apdu.TheVariants as apdu
use Rattle.apdu.proofs.Bounds.{never}
use Rattle.limits.specs.Claims.{holds_data, InRoot, identifier, check, LeftFor}
use Rattle.std.specs.Prelude.{Err, None, Ok, Option, Result, Some}

module _ (l : List ℕ) (G : Refusal → Type 0) where
  -- where an answer is the refusal LIMIT, then G: what is to be shown of it
  abbrev Spares : {A : Type 0} → Result A Refusal → Type 0
  Spares {A} a = (r : Refusal) → ◌≡◌ {A = Result A Refusal} a (Err r) → r.fault ≡ Limit → G r

  -- ---- fields

  value_spares : {A : Type 0} (v : A) → Spares (Ok v)
  value_spares v r e f = never (cc)

  other_spares : (at : ℕ) (x : Fault) → (x ≡ Limit → ⊥) → Spares (refused_at {A = ℕ × ℕ} at x)
  other_spares at x h r e f = absurd (h (ap (λ (y : Reading ℕ). fault_in y) e ∙ f))
    where
      fault_in : Reading ℕ → Fault
      fault_in (Ok z) = x
      fault_in (Err y) = y.fault

  cond_spares : {A : Type 0} (t : Bool) (x y : Result A Refusal) → Spares x → Spares y → Spares (cond t x y)
  cond_spares true x y a b = a
  cond_spares false x y a b = b

  one : {A : Type 0} (r x : Refusal) → ◌≡◌ {A = Result A Refusal} (Err r) (Err x) → r ≡ x
  one r x e = cc

  -- behind a field; what follows may ask what was read
  read_spares : {A B : Type 0} (f : Reading A) (k : A → ℕ → Result B Refusal) → Spares f
      → ((v : A) (n : ℕ) → f ≡ Ok (v, n) → Spares (k v n)) → Spares (then f k)
  read_spares (Ok (v, n)) k a b = b v n refl
  read_spares (Err r) k a b = λ (x : Refusal) e f. a x (ap Err (one r x e)) f

  then_spares : {A B : Type 0} (f : Reading A) (k : A → ℕ → Result B Refusal) → Spares f
      → ((v : A) (n : ℕ) → Spares (k v n)) → Spares (then f k)
  then_spares f k a b = read_spares f k a (λ v n e. b v n)

  short : (at : ℕ) → Spares (refused_at {A = ℕ × ℕ} at Short)
  short at = other_spares at Short (λ (e : Short ≡ Limit). never (cc))

  form : (at : ℕ) → Spares (refused_at {A = ℕ × ℕ} at LengthForm)
  form at = other_spares at LengthForm (λ (e : LengthForm ≡ Limit). never (cc))

  bits_spare : (at n : ℕ) → Spares (bit_field l at n)
  unfolding bit_field
  bits_spare at n = go (read_bits l at n)
    where
      go : (r : Option (ℕ × ℕ)) → Spares (field_of at r)
      go (Some (v, m)) = value_spares (v, m)
      go None = short at

  extension_spares : (at : ℕ) → Spares (extension_bit l at)
  unfolding extension_bit
  extension_spares at = then_spares (bit_field l at 1) _ (bits_spare at 1) (λ (b n : ℕ). cond_spares (eqb b 0) _ _ (value_spares (0, n))
      (other_spares at Extension (λ (e : Extension ≡ Limit). never (cc))))

  whole_spares : (at lo hi : ℕ) → Spares (whole_number l at lo hi)
  unfolding whole_number
  whole_spares at lo hi = then_spares (bit_field l at (width_of (hi - lo))) _ (bits_spare at (width_of (hi - lo))) (λ
      (d n : ℕ). cond_spares (leb (lo + d) hi) _ _ (value_spares ((lo + d), n))
      (other_spares at Range (λ (e : Range ≡ Limit). never (cc))))

  index_spares : (at last : ℕ) → Spares (extensible_index l at last)
  unfolding extensible_index
  index_spares at last = then_spares (extension_bit l at) _ (extension_spares at) (λ (b n : ℕ). whole_spares n 0 last)

  -- ---- lengths: none is refused with LIMIT, and none that is read passes the card's limit

  length_spares : (at : ℕ) → Spares (length_at l at)
  unfolding length_at
  length_spares at =
      then_spares (bit_field l at 8) (length_from l at) (bits_spare at 8) (λ (b n : ℕ).
      cond_spares (ltb b 128) _ _ (value_spares (b, n))
      (cond_spares (leb 192 b) _ _ (form at)
      (then_spares (bit_field l at 16) (long_length at) (bits_spare at 16) (λ (v m : ℕ). cond_spares
      (ltb v (32768 + 128)) (refused_at at LengthForm) (Ok (v - 32768, m)) (form at)
      (value_spares ((v - 32768), m))))))

  pub message_length : (at : ℕ) → Bits l → length_within l at 0 message_most ≡ length_at l at
  unfolding length_within
  message_length at b = go (length_at l at) refl
    where
      go : (f : Reading ℕ) → length_at l at ≡ f
          → then {B = ℕ × ℕ} f (λ (n next : ℕ). cond (leb 0 n && leb n message_most) (Ok (n, next)) (refused_at at Limit)) ≡ f
      go (Ok (n, next)) p =
          let k = ltb-true n 16384 (length_determinant.read_fits l at n next b p) in
          rw (le-leb 0 n (omega arith), le-leb n message_most (omega arith))
      go (Err r) p = refl

  string_spares : Bits l → (at : ℕ) → Spares (string_at l at bit 0 message_most)
  unfolding string_at run_at
  string_spares b at =
      rw (message_length at b)
      (then_spares (length_at l at) _ (length_spares at) (λ (n from : ℕ).
      cond_spares (leb (from + bit * n) (length l)) _ _
      (value_spares (n, (from + bit * n))) (short from)))

  message_spares : Bits l → (there : Bool) (at : ℕ) → Spares (optional_at l there at bit 0 message_most)
  unfolding optional_at
  message_spares b there at = cond_spares there _ _ (string_spares b at) (value_spares (0, at))

  -- ---- what is left

  identifier_left : (there : Bool) (at : ℕ)
      → ((r : Refusal) → there ≡ true → string_at l at octet identifier_least identifier_most ≡ Err r → G r)
      → Spares (optional_at l there at octet identifier_least identifier_most)
  unfolding optional_at
  identifier_left true at h r e f = h r refl e
  identifier_left false at h r e f = never (cc)

  -- ---- message data

  parts_spare : Bits l → (at : ℕ) (i m : Bool)
      → ((r : Refusal) → i ≡ true → string_at l at octet identifier_least identifier_most ≡ Err r → G r)
      → ((r : Refusal) (n p k q : ℕ) → optional_at l i at octet identifier_least identifier_most ≡ Ok (n, p) → optional_at l
      m p bit 0 message_most ≡ Ok (k, q) → string_at l q bit 0 check_most ≡ Err r → G r)
      → Spares (parts_at l at i m)
  unfolding parts_within
  parts_spare b at i m h g =
      read_spares (optional_at l i at octet identifier_least identifier_most) _ (identifier_left i at h) (λ (octets p : ℕ) (u : optional_at l i at octet identifier_least identifier_most ≡ Ok (octets, p)).
      read_spares (optional_at l m p bit 0 message_most) _ (message_spares b m p) (λ (bits q : ℕ) (w : optional_at l m p bit 0 message_most ≡ Ok (bits, q)).
      then_spares (string_at l q bit 0 check_most) _ (λ (r : Refusal)
      (e : string_at l q bit 0 check_most ≡ Err r) (f : r.fault ≡ Limit). g r octets p bits q u w e)
      (λ (n next : ℕ). value_spares _)))

  -- additions have no limit
  count_spares : (at : ℕ) → Spares (addition_count l at)
  unfolding addition_count
  count_spares at = then_spares (extension_bit l at) _ (extension_spares at)
      (λ (b p : ℕ). then_spares (bit_field l at 7) _ (bits_spare at 7) (λ (v n : ℕ). value_spares ((v + 1), n)))

  there_spares : (at n : ℕ) → Spares (additions_there l at n)
  unfolding additions_there
  there_spares at n =
      then_spares (bit_field l at n) _ (bits_spare at n) (λ (v m : ℕ).
      cond_spares (eqb v 0) _ _
      (other_spares at Extension (λ (e : Extension ≡ Limit). never (cc))) (value_spares (v, m)))

  addition_spares : (at : ℕ) → Spares (addition_at l at)
  unfolding addition_at run_at
  addition_spares at =
      then_spares (length_at l at) _ (length_spares at) (λ (n from : ℕ). cond_spares (leb (from + 8 * n) (length l)) _ _ (value_spares (n, (from + 8 * n))) (short from))

  stepped_spares : (k at : ℕ) → Spares (stepped_over l at k)
  unfolding stepped_over
  stepped_spares zero at = value_spares (0, at)
  stepped_spares (suc k) at = then_spares (addition_at l at) _ (addition_spares at) (λ (n next : ℕ). stepped_spares k next)

  additions_spare : (at : ℕ) → Spares (additions_at l at)
  unfolding additions_at
  additions_spare at =
      then_spares (addition_count l at) _ (count_spares at) (λ (n p : ℕ). then_spares (additions_there l p n) _
      (there_spares p n) (λ (v q : ℕ). stepped_spares (ones v) q))

  added_spares : (plain : Bool) (t : Reading Data) → Spares t → Spares (cond plain t (with_additions l t))
  unfolding with_additions
  added_spares true t a = a
  added_spares false t a = then_spares t _ a (λ (d : Data) (n : ℕ).
      then_spares (additions_at l n) _ (additions_spare n) (λ (v after : ℕ). value_spares (d, after)))

  data_spares : Bits l → (at : ℕ) → ((r : Refusal) → InRoot l at r → G r) → Spares (data_at l at)
  unfolding data_within
  data_spares b at g =
      read_spares (bit_field l at 1) _ (bits_spare at 1) (λ (e p : ℕ) (u : bit_field l at 1 ≡ Ok (e, p)).
      read_spares (bit_field l p 2) _ (bits_spare p 2) (λ (v q : ℕ) (w : bit_field l p 2 ≡ Ok (v, q)).
      added_spares (eqb e 0) (parts_at l q (leb 2 v) (eqb (v % 2) 1)) (parts_spare b q (leb 2 v) (eqb (v % 2) 1)
      (λ (r : Refusal) (t : leb 2 v ≡ true) (f : string_at l q octet identifier_least identifier_most ≡ Err r). g r
      (identifier e p v q u w t f))
      (λ (r : Refusal) (n x k y : ℕ) (i : optional_at l (leb 2 v) q octet identifier_least identifier_most ≡ Ok (n, x))
      (m : optional_at l (eqb (v % 2) 1) x bit 0 message_most ≡ Ok (k, y))
      (f : string_at l y bit 0 check_most ≡ Err r). g r (check e p v q u w n x k y i m f)))))

  -- ---- a forward message

  triple_spares : (at : ℕ) (lo hi : Triple) → Spares (triple_at l at lo hi)
  unfolding triple_at
  triple_spares at lo hi =
      then_spares (whole_number l at lo.first hi.first) _ (whole_spares at lo.first hi.first) (λ (x p : ℕ).
      then_spares (whole_number l p lo.second hi.second) _ (whole_spares p lo.second hi.second) (λ (y q : ℕ).
      then_spares (whole_number l q lo.third hi.third) _
      (whole_spares q lo.third hi.third) (λ (z n : ℕ). value_spares (triple x y z, n))))

  heading_spares : (at : ℕ) → Spares (heading_at l at)
  unfolding heading_at
  heading_spares at =
      then_spares (triple_at l at date_from date_to) _ (triple_spares at date_from date_to) (λ (d : Triple) (p : ℕ).
      then_spares (triple_at l p time_from time_to) _ (triple_spares p time_from time_to) (λ (t : Triple) (q : ℕ).
      then_spares (whole_number l q characters_least characters_most) _ (whole_spares q characters_least characters_most) (λ (n a : ℕ).
      then_spares (bit_field l a (character * n)) _ (bits_spare a (character * n)) (λ (x b : ℕ).
      then_spares (bit_field l b address_bits) _ (bits_spare b address_bits) (λ (y c : ℕ).
      then_spares (whole_number l c 0 direction_last) _ (whole_spares c 0 direction_last) (λ (z m : ℕ).
      value_spares (record { date = d; time = t; characters = n; flight = x; address = y; direction = z }, m)))))))

  forward_spares : Bits l → (at : ℕ) → Spares (forward_at l at)
  unfolding forward_within
  forward_spares b at =
      then_spares (heading_at l at) _ (heading_spares at) (λ (h : Heading) (p : ℕ).
      then_spares (string_at l p bit 0 message_most) _ (string_spares b p) (λ (n m : ℕ). value_spares (record { heading = h; message = span_to bit n m }, m)))

  -- ---- the leading fields, the tail

  mode_spares : (pdus : PduType) (at : ℕ) → Spares (mode_at pdus l at)
  unfolding mode_at mode_value
  mode_spares GroundPdus at = value_spares (0, at)
  mode_spares AircraftPdus at =
      then_spares (bit_field l at 1) _ (bits_spare at 1) (λ (p n : ℕ).
      cond_spares (eqb p 0) _ _ (value_spares (0, n))
      (then_spares (whole_number l n 0 mode_last) _ (whole_spares n 0 mode_last) (λ (m k : ℕ). cond_spares (eqb m 0) _ _ (other_spares n Default (λ (e : Default ≡ Limit). never (cc)))
      (value_spares (m, k)))))

  kind_spares : (pdus : PduType) (k : Kind) (at : ℕ) → Spares (kind_mode pdus l k at)
  unfolding kind_mode
  kind_spares pdus kind.AbortUser at = value_spares (0, at)
  kind_spares pdus kind.AbortProvider at = value_spares (0, at)
  kind_spares pdus kind.Start at = mode_spares pdus at
  kind_spares pdus kind.Send at = value_spares (0, at)
  kind_spares pdus kind.Forward at = value_spares (0, at)
  kind_spares pdus kind.ForwardResponse at = value_spares (0, at)

  leading_spares : (pdus : PduType) (at : ℕ) → Spares (leading_at pdus l at)
  unfolding leading_at
  leading_spares pdus at =
      then_spares (extensible_index l at (last_of pdus)) _ (index_spares at (last_of pdus)) (λ (i p : ℕ).
      then_spares (kind_mode pdus l (kind_of i) p) _ (kind_spares pdus (kind_of i) p)
      (λ (m q : ℕ). value_spares ((kind_of i, m), q)))

  tail_spares : (at : ℕ) → Spares (tail_at l at)
  unfolding tail_at
  tail_spares at =
      then_spares (bit_field l at (padding at)) _ (bits_spare at (padding at)) (λ (v next : ℕ).
      cond_spares (eqb v 0) _ _ (cond_spares (leb (next + 1) (length l)) _ _
      (tail next) (value_spares (0, next))) (tail (next - width_of v)))
    where
      tail : (n : ℕ) → Spares (refused_at {A = ℕ × ℕ} n Tail)
      tail n = other_spares n Tail (λ (e : Tail ≡ Limit). never (cc))

  ended_spares : (at : ℕ) (a : Apdu) → Spares (ended_at l at a)
  unfolding ended_at
  ended_spares at a = then_spares (tail_at l at) _ (tail_spares at) (λ (v next : ℕ). value_spares a)

  -- ---- an APDU, and message data by itself

  rest_spares : Bits l → (k : Kind) (m at : ℕ) → (holds_data k ≡ true → (r : Refusal) → InRoot l at r → G r)
      → Spares (rest_within message_most l k m at)
  unfolding rest_within
  rest_spares b kind.AbortUser m at g = then_spares (extensible_index l at user_last) _
      (index_spares at user_last) (λ (r next : ℕ). ended_spares next (apdu.AbortUser r))
  rest_spares b kind.AbortProvider m at g = then_spares (extensible_index l at provider_last) _
      (index_spares at provider_last) (λ (r next : ℕ). ended_spares next (apdu.AbortProvider r))
  rest_spares b kind.Start m at g = then_spares (data_at l at) _ (data_spares b at (g refl))
      (λ (d : Data) (next : ℕ). ended_spares next (apdu.Start m d))
  rest_spares b kind.Send m at g = then_spares (data_at l at) _ (data_spares b at (g refl))
      (λ (d : Data) (next : ℕ). ended_spares next (apdu.Send d))
  rest_spares b kind.Forward m at g = then_spares (forward_at l at) _ (forward_spares b at)
      (λ (y : Forward) (next : ℕ). ended_spares next (apdu.Forward y))
  rest_spares b kind.ForwardResponse m at g = then_spares (extensible_index l at response_last) _
      (index_spares at response_last) (λ (r next : ℕ). ended_spares next (apdu.ForwardResponse r))

  lead_left : Bits l → (pdus : PduType)
      → ((k : Kind) (m at : ℕ) → leading_at pdus l 0 ≡ Ok ((k, m), at) → holds_data k ≡ true → (r : Refusal) → InRoot l at r → G r)
      → Spares (apdu_at pdus l 0)
  unfolding apdu_within
  lead_left b pdus g = read_spares (leading_at pdus l 0) _ (leading_spares pdus 0)
      (λ (x : Kind × ℕ) (next : ℕ) (q : leading_at pdus l 0 ≡ Ok (x, next)). rest_spares b x.0 x.1 next (g x.0 x.1 next q))

  whole_left : Bits l → ((r : Refusal) → InRoot l 0 r → G r) → Spares (whole_data l)
  unfolding whole_within
  whole_left b g = then_spares (data_at l 0) _ (data_spares b 0 g) (λ (d : Data) (next : ℕ).
      then_spares (tail_at l next) _ (tail_spares next) (λ (v m : ℕ). value_spares (d, next)))

  forward_whole : Bits l → Spares (whole_forward l)
  unfolding whole_forward_within
  forward_whole b =
      then_spares (forward_at l 0) _ (forward_spares b 0) (λ (y : Forward) (next : ℕ).
      then_spares (tail_at l next) _ (tail_spares next) (λ (v m : ℕ). value_spares (y, next)))

-- 14 of an APDU: that of the identifier or of the check of its message data, where they stand
pub apdu_left : (l : List ℕ) → Bits l → (pdus : PduType) (r : Refusal) → apdu_at pdus l 0 ≡ Err r
    → r.fault ≡ Limit → LeftFor pdus l r
apdu_left l b pdus r e f =
    lead_left l (λ (x : Refusal). LeftFor pdus l x) b pdus (λ (k : Kind) (m at : ℕ) (q : leading_at pdus l 0 ≡ Ok ((k, m), at)) (h : holds_data k ≡ true) (x : Refusal) (i : InRoot l at x). record { kind = k; mode = m; begin = at; led = q; holds = h; field = i }) r e f

-- of message data by itself
pub data_left : (l : List ℕ) → Bits l → (r : Refusal) → whole_data l ≡ Err r → r.fault ≡ Limit → InRoot l 0 r
data_left l b r e f = whole_left l (λ (x : Refusal). InRoot l 0 x) b (λ (x : Refusal) (i : InRoot l 0 x). i) r e f

-- a forward message by itself never gets it
pub forward_left : (l : List ℕ) → Bits l → (r : Refusal) → whole_forward l ≡ Err r → r.fault ≡ Limit → ⊥
forward_left l b r e f = forward_whole l (λ (x : Refusal). ⊥) b r e f
