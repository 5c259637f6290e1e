-- Which refusals a reader does not have, over any refusal: where its fault is none of SHORT, RANGE, LENGTH-FORM, LIMIT and DEFAULT, no field has it that asks no
-- extension bit.
-- Assumes nothing.
use mathlib.Core.Path.{◌≡◌, ap}
use mathlib.Core.Bool.{Bool, true, false, cond, ◌&&◌}
use mathlib.Core.List.{List}
use Prim.Native.Nat.{ℕ, zero, suc, ◌+◌, ◌-◌, ◌*◌}
use lib.Dec.{leb, ltb, eqb}
use lib.ListN.{length}
use Rattle.bits.specs.Read.{read_bits}
use Rattle.fields.specs.Additions.{addition_at, stepped_over}
use Rattle.fields.specs.Fields.{Reading, refused_at, onto, then, field_of, bit_field, width_of, whole_number, length_at, length_from, long_length, length_within, run_at, string_at}
use Rattle.fields.specs.declared.Refusal.{Refusal}
use Rattle.fields.specs.declared.Fault.{Fault}
use Rattle.fields.specs.declared.Fault.TheVariants.{Short, Range, LengthForm, Limit, Default}
use Rattle.apdu.specs.Sizes.{identifier_least, identifier_most, message_most, check_most, mode_last, octet, bit}
use Rattle.apdu.specs.Headings.{triple, date_from, date_to, time_from, time_to, characters_least, characters_most, character, address_bits, direction_last}
use Rattle.apdu.specs.Reading.{optional_at, span_to, parts_within, parts_at, triple_at, heading_at, forward_within, forward_at, mode_value, mode_at, kind_mode}
use Rattle.pdus.specs.declared.PduType.{PduType}
use Rattle.pdus.specs.declared.PduType.TheVariants.{AircraftPdus, GroundPdus}
use Rattle.apdu.specs.declared.Kind.{Kind}
use Rattle.apdu.specs.declared.Kind.TheVariants as kind
use Rattle.apdu.specs.declared.Triple.{Triple}
use Rattle.apdu.specs.declared.Heading.{Heading}
use Rattle.apdu.proofs.Bounds.{never}
use Rattle.std.specs.Prelude.{Err, None, Ok, Option, Result, Some}

-- the fault in an answer that is a refusal
abbrev fault_in : Reading ℕ → Fault
fault_in (Ok (v, n)) = Short
fault_in (Err r) = r.fault

pub record Not (bad : Refusal) : Type 0 where
  pub short : Short ≡ bad.fault → ⊥
  pub range : Range ≡ bad.fault → ⊥
  pub form : LengthForm ≡ bad.fault → ⊥
  pub limit : Limit ≡ bad.fault → ⊥
  pub default : Default ≡ bad.fault → ⊥

module _ (bad : Refusal) (not : Not bad) where
  abbrev pub Spared : {B : Type 0} → Result B Refusal → Type 0
  Spared f = f ≡ Err bad → ⊥

  pub spared_value : {A : Type 0} (v : A) (n : ℕ) → Spared {B = A × ℕ} (Ok (v, n))
  spared_value v n e = never (cc)

  pub spared_fault : (f : Fault) (at : ℕ) → (f ≡ bad.fault → ⊥) → Spared (refused_at {A = ℕ × ℕ} at f)
  spared_fault f at h e = h (ap fault_in e)

  pub spared_then : {A B : Type 0} (f : Reading A) (k : A → ℕ → Result B Refusal) → Spared f → ((v : A) (n : ℕ) → Spared (k v n)) → Spared (then f k)
  spared_then (Ok (v, n)) k h g e = g v n e
  spared_then (Err r) k h g e =
      let s : r ≡ bad = cc in
      h (ap Err s)

  pub spared_cond : {B : Type 0} (t : Bool) (x y : Result B Refusal) → Spared x → Spared y → Spared (cond t x y)
  spared_cond true x y h g e = h e
  spared_cond false x y h g e = g e

  -- over any way up that tells refusals apart
  pub spared_on : {A B : Type 0} (up : Refusal → B) (one : (r : Refusal) → up r ≡ up bad → r ≡ bad) (f : Reading A) (k : A → ℕ → B) → Spared f → ((v : A) (n : ℕ) → k v n ≡ up bad → ⊥) → onto up f k ≡ up bad → ⊥
  spared_on up one (Ok (v, n)) k h g e = g v n e
  spared_on up one (Err r) k h g e = h (ap Err (one r e))

  -- ---- fields

  pub bits_spared : (l : List ℕ) (at n : ℕ) → Spared (bit_field l at n)
  unfolding bit_field
  bits_spared l at n = go (read_bits l at n)
    where
      go : (r : Option (ℕ × ℕ)) → Spared (field_of at r)
      go (Some (v, m)) = spared_value v m
      go None = spared_fault Short at not.short

  pub whole_spared : (l : List ℕ) (at lo hi : ℕ) → Spared (whole_number l at lo hi)
  unfolding whole_number
  whole_spared l at lo hi =
      spared_then (bit_field l at (width_of (hi - lo))) _ (bits_spared l at (width_of (hi - lo)))
      (λ (d n : ℕ). spared_cond (leb (lo + d) hi) (Ok (lo + d, n)) (refused_at at Range) (spared_value (lo + d) n)
      (spared_fault Range at not.range))

  length_spared : (l : List ℕ) (at : ℕ) → Spared (length_at l at)
  unfolding length_at
  length_spared l at =
      spared_then (bit_field l at 8) (length_from l at) (bits_spared l at 8) (λ (b n : ℕ).
      spared_cond (ltb b 128) (Ok (b, n)) _ (spared_value b n)
      (spared_cond (leb 192 b) (refused_at at LengthForm) _ (spared_fault LengthForm at not.form)
      (spared_then (bit_field l at 16) (long_length at) (bits_spared l at 16)
      (λ (v m : ℕ). spared_cond (ltb v (32768 + 128)) (refused_at at LengthForm) (Ok (v - 32768, m))
      (spared_fault LengthForm at not.form) (spared_value (v - 32768) m)))))

  run_spared : (l : List ℕ) (at count n : ℕ) → Spared (run_at l at count n)
  unfolding run_at
  run_spared l at count n = spared_cond (leb (at + count) (length l)) (Ok (n, at + count)) (refused_at at Short)
      (spared_value n (at + count)) (spared_fault Short at not.short)

  string_spared : (l : List ℕ) (at unit least most : ℕ) → Spared (string_at l at unit least most)
  unfolding string_at length_within
  string_spared l at unit least most =
      spared_then (then (length_at l at) (λ (n next : ℕ). cond (leb least n && leb n most) (Ok (n, next)) (refused_at at Limit))) _
      (spared_then (length_at l at) _ (length_spared l at) (λ (n m : ℕ). spared_cond (leb least n && leb n most)
      (Ok (n, m)) (refused_at at Limit) (spared_value n m) (spared_fault Limit at not.limit)))
      (λ (n from : ℕ). run_spared l from (unit * n) n)

  optional_spared : (l : List ℕ) (t : Bool) (at unit least most : ℕ) → Spared (optional_at l t at unit least most)
  unfolding optional_at
  optional_spared l t at unit least most = spared_cond t (string_at l at unit least most) (Ok (0, at))
      (string_spared l at unit least most) (spared_value 0 at)

  mode_value_spared : (l : List ℕ) (at : ℕ) → Spared (mode_value l at)
  unfolding mode_value
  mode_value_spared l at =
      spared_then (whole_number l at 0 mode_last) _ (whole_spared l at 0 mode_last)
      (λ (m n : ℕ). spared_cond (eqb m 0) (refused_at at Default) (Ok (m, n)) (spared_fault Default at not.default) (spared_value m n))

  mode_spared : (pdus : PduType) (l : List ℕ) (at : ℕ) → Spared (mode_at pdus l at)
  unfolding mode_at
  mode_spared GroundPdus l at = spared_value 0 at
  mode_spared AircraftPdus l at = spared_then (bit_field l at 1) _ (bits_spared l at 1)
      (λ (p n : ℕ). spared_cond (eqb p 0) (Ok (0, n)) (mode_value l n) (spared_value 0 n) (mode_value_spared l n))

  pub kind_mode_spared : (pdus : PduType) (l : List ℕ) (c : Kind) (at : ℕ) → Spared (kind_mode pdus l c at)
  unfolding kind_mode
  kind_mode_spared pdus l kind.AbortUser at = spared_value 0 at
  kind_mode_spared pdus l kind.AbortProvider at = spared_value 0 at
  kind_mode_spared pdus l kind.Start at = mode_spared pdus l at
  kind_mode_spared pdus l kind.Send at = spared_value 0 at
  kind_mode_spared pdus l kind.Forward at = spared_value 0 at
  kind_mode_spared pdus l kind.ForwardResponse at = spared_value 0 at

  -- ---- additions that are there, and the parts of message data

  addition_spared : (l : List ℕ) (at : ℕ) → Spared (addition_at l at)
  unfolding addition_at
  addition_spared l at = spared_then (length_at l at) _ (length_spared l at) (λ (n from : ℕ). run_spared l from (8 * n) n)

  pub stepped_spared : (l : List ℕ) (k at : ℕ) → Spared (stepped_over l at k)
  unfolding stepped_over
  stepped_spared l zero at = spared_value 0 at
  stepped_spared l (suc k) at = spared_then (addition_at l at) _ (addition_spared l at) (λ (n next : ℕ). stepped_spared l k next)

  pub parts_spared : (l : List ℕ) (at : ℕ) (i m : Bool) → Spared (parts_at l at i m)
  unfolding parts_within
  parts_spared l at i m =
      spared_then (optional_at l i at octet identifier_least identifier_most) _ (optional_spared l i at octet identifier_least identifier_most) (λ (n₁ p : ℕ).
      spared_then (optional_at l m p bit 0 message_most) _ (optional_spared l m p bit 0 message_most) (λ (n₂ q : ℕ).
      spared_then (string_at l q bit 0 check_most) _ (string_spared l q bit 0 check_most)
      (λ (n₃ k : ℕ). spared_value _ k)))

  -- ---- a forward message

  triple_spared : (l : List ℕ) (at : ℕ) (lo hi : Triple) → Spared (triple_at l at lo hi)
  unfolding triple_at
  triple_spared l at lo hi =
      spared_then (whole_number l at lo.first hi.first) _ (whole_spared l at lo.first hi.first) (λ (x p : ℕ).
      spared_then (whole_number l p lo.second hi.second) _ (whole_spared l p lo.second hi.second) (λ (y q : ℕ).
      spared_then (whole_number l q lo.third hi.third) _
      (whole_spared l q lo.third hi.third) (λ (z n : ℕ). spared_value (triple x y z) n)))

  heading_spared : (l : List ℕ) (at : ℕ) → Spared (heading_at l at)
  unfolding heading_at
  heading_spared l at =
      spared_then (triple_at l at date_from date_to) _ (triple_spared l at date_from date_to) (λ (d : Triple) (p : ℕ).
      spared_then (triple_at l p time_from time_to) _ (triple_spared l p time_from time_to) (λ (t : Triple) (q : ℕ).
      spared_then (whole_number l q characters_least characters_most) _ (whole_spared l q characters_least characters_most) (λ (n a : ℕ).
      spared_then (bit_field l a (character * n)) _ (bits_spared l a (character * n)) (λ (x b : ℕ).
      spared_then (bit_field l b address_bits) _ (bits_spared l b address_bits) (λ (y c : ℕ).
      spared_then (whole_number l c 0 direction_last) _ (whole_spared l c 0 direction_last) (λ (z m : ℕ).
      spared_value (record { date = d; time = t; characters = n; flight = x; address = y; direction = z }) m))))))

  pub forward_spared : (l : List ℕ) (at : ℕ) → Spared (forward_at l at)
  unfolding forward_within
  forward_spared l at =
      spared_then (heading_at l at) _ (heading_spared l at) (λ (h : Heading) (p : ℕ).
      spared_then (string_at l p bit 0 message_most) _ (string_spared l p bit 0 message_most) (λ (n m : ℕ). spared_value (record { heading = h; message = span_to bit n m }) m))
