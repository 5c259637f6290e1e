-- An APDU that a later edition wrote is read, and is the value that it is without the additions; and what is read with the extension bit 1 has that form.
-- Assumes nothing.
use mathlib.Core.Path.{◌≡◌, refl, ap, sym, subst, ◌∙◌}
use mathlib.Core.Bool.{Bool, true, false, cond, ◌&&◌}
use mathlib.Core.List.{List, [], ◌∷◌, ◌++◌}
use Prim.Native.Nat.{ℕ, zero, suc, ◌+◌, ◌-◌, ◌*◌, ◌/◌, ◌%◌, ◌^◌, ◌≤◌, ◌<◌}
use native.Mathlib.Omega.{arith}
use lib.Dec.{leb, ltb, eqb}
use lib.ListN.{length, take, drop, get_or}
use Rattle.words.proofs.Laws.{both_left, both_right}
use Rattle.bits.specs.Bits.{bits_n}
use Rattle.bits.proofs.Numbers.{Bits, length_bits_n}
use Rattle.fields.specs.Additions.{additions_at}
use Rattle.fields.specs.Fields.{bit_field, extensible_index, string_at}
use Rattle.fields.specs.Encodings.{index_bits}
use Rattle.fields.proofs.RoundTrip.{Stands, stands_split, bit_field_is, extensible_index_is}
use Rattle.fields.proofs.Editions.{Addition, additions_bits, additions_fit, given as given_of, later_stepped}
use Rattle.apdu.specs.Sizes.{identifier_least, identifier_most, message_most, check_most, octet, bit}
use Rattle.apdu.specs.Pdus.{Optional, Content, Pdu, start, send, last_of, kind_of, content_in, pdu_in}
use Rattle.apdu.specs.Encoding.{string_bits, string_fits, optional_bits, optional_fits, presence, root_bits, content_fits, alternative, mode_bits, mode_fits, pdu_fits, padded, padding}
use Rattle.apdu.specs.Reading.{span_to, part_at, optional_at, parts_within, parts_at, with_additions, data_within, data_at, kind_mode, leading_at, tail_at, ended_at, rest_within, apdu_within, apdu_at}
use Rattle.pdus.specs.declared.PduType.{PduType}
use Rattle.apdu.specs.declared.Data.{Data}
use Rattle.apdu.specs.declared.Apdu.{Apdu}
use Rattle.apdu.specs.declared.Apdu.TheVariants as apdu
use Rattle.apdu.proofs.Contents.{is_there, OptionalRead, optional_written, there_identifier, there_message, presence_fits, string_back, DataRead}
use Rattle.apdu.proofs.Apdus.{mode_written, small, has, ended_well, FieldsRead, ApduRead}
use Rattle.apdu.proofs.Theorems.{stands_front, tail_padded}
use Rattle.places.specs.Later.{later_bits, later_start, later_send}
use Rattle.std.specs.Prelude.{Ok}

-- ---- message data

-- the root, read behind its presence bits
record RootRead (l : List ℕ) (at next : ℕ) (c : Content) : Type 0 where
  flags : ℕ
  from : ℕ
  presence_read : bit_field l at 2 ≡ Ok (flags, from)
  parts : Data
  read : parts_at l from (leb 2 flags) (eqb (flags % 2) 1) ≡ Ok (parts, next)
  content : content_in l l l parts ≡ c

root_written : (l : List ℕ) (at next : ℕ) (c : Content) → content_fits c ≡ true → Stands l at (root_bits c) next → RootRead l at next c
unfolding content_fits parts_within content_in
root_written l p₁ next c h s =
    let v : ℕ = 2 * presence c.identifier + presence c.message in
    let fi : Bool = optional_fits octet identifier_least identifier_most c.identifier in
    let fm : Bool = optional_fits bit 0 message_most c.message in
    let fc : Bool = string_fits bit 0 check_most c.check in
    let f = both_left (fi && fm) fc h in
    let p₂ : ℕ = p₁ + length (bits_n 2 (2 * presence c.identifier + presence c.message)) in
    let p₃ : ℕ = p₁ + length (bits_n 2 (2 * presence c.identifier + presence c.message)) + length
    (optional_bits octet c.identifier) in
    let p₄ : ℕ = p₁ + length (bits_n 2 (2 * presence c.identifier + presence c.message)) + length
    (optional_bits octet c.identifier) + length (optional_bits bit c.message) in
    let s₂ = stands_split l p₁ next (bits_n 2 v)
    (optional_bits octet c.identifier ++ (optional_bits bit c.message ++ string_bits bit c.check)) s in
    let s₃ = stands_split l p₂ next (optional_bits octet c.identifier)
    (optional_bits bit c.message ++ string_bits bit c.check) s₂.second in
    let s₄ = stands_split l p₃ next (optional_bits bit c.message) (string_bits bit c.check) s₃.second in
    let b = (bit_field_is 2).written_read l p₁ v p₂ (presence_fits c.identifier c.message) s₂.first in
    let x = optional_written l p₂ p₃ octet identifier_least identifier_most c.identifier (both_left fi fm f) s₃.first in
    let y = optional_written l p₃ p₄ bit 0 message_most c.message (both_right fi fm f) s₄.first in
    let z = string_back l p₄ next bit 0 check_most c.check (both_right (fi && fm) fc h) s₄.second in
    record {
      flags = 2 * presence c.identifier + presence c.message;
      from = p₁ + length (bits_n 2 (2 * presence c.identifier + presence c.message));
      presence_read = b;
      parts = record { identifier = part_at (is_there c.identifier) octet x.n p₃; message = part_at (is_there c.message) bit y.n p₄; check = span_to bit (length c.check / bit) next };
      read = rw (there_identifier c.identifier c.message, there_message c.identifier c.message, x.read, y.read, z.0);
      content = rw (x.part, y.part, z.1);
    }

-- an extension bit of 1, a root that fits, and additions that are stepped over: read as the root's value
module _ (xs : List Addition) (few : length xs ≤ 64) (some : 0 < given_of xs) (fit : additions_fit xs ≡ true) where
  pub later_data : (l : List ℕ) (at next : ℕ) (c : Content) → content_fits c ≡ true
      → Stands l at (later_bits c (additions_bits xs)) next → DataRead l at next c
  unfolding data_within with_additions
  later_data l at next c h s =
      let s₁ = stands_split l at next (bits_n 1 1) (root_bits c ++ additions_bits xs) s in
      let s₂ = stands_split l _ next (root_bits c) (additions_bits xs) s₁.second in
      let a = (bit_field_is 1).written_read l at 1 _ refl s₁.first in
      let r = root_written l _ _ c h s₂.first in
      let k = later_stepped l _ next xs few some fit s₂.second in
      record { parts = r.parts; read = rw (a, r.presence_read, r.read, k); content = r.content }

  -- ---- an APDU

  pub later_start_fields : (pdus : PduType) (l : List ℕ) (at m v : ℕ) (c : Content) → pdu_fits pdus (start v c) ≡ true
      → Stands l at (later_start pdus v c (additions_bits xs)) m → FieldsRead pdus l at m (start v c)
  unfolding pdu_fits apdu_within leading_at kind_mode rest_within pdu_in
  later_start_fields pdus l at m v c h s =
      let p : ℕ = at + length (index_bits (last_of pdus) 2) in
      let q : ℕ = at + length (index_bits (last_of pdus) 2) + length (mode_bits pdus v) in
      let w = stands_split l at m (index_bits (last_of pdus) 2) (mode_bits pdus v ++ later_bits c (additions_bits xs)) s in
      let u = stands_split l p m (mode_bits pdus v) (later_bits c (additions_bits xs)) w.second in
      let a = (extensible_index_is (last_of pdus) (small pdus)).written_read l at 2 p (has pdus 2 (omega arith)) w.first in
      let b = mode_written pdus l p v q (both_left (mode_fits pdus v) (content_fits c) h) u.first in
      let d = later_data l q m c (both_right (mode_fits pdus v) (content_fits c) h) u.second in
      record { value = apdu.Start v d.parts; read = rw (a, b, d.read); same = ap (start v) d.content }

  pub later_send_fields : (pdus : PduType) (l : List ℕ) (at m : ℕ) (c : Content) → pdu_fits pdus (send c) ≡ true
      → Stands l at (later_send pdus c (additions_bits xs)) m → FieldsRead pdus l at m (send c)
  unfolding pdu_fits apdu_within leading_at kind_mode rest_within pdu_in
  later_send_fields pdus l at m c h s =
      let p : ℕ = at + length (index_bits (last_of pdus) 3) in
      let w = stands_split l at m (index_bits (last_of pdus) 3) (later_bits c (additions_bits xs)) s in
      let a = (extensible_index_is (last_of pdus) (small pdus)).written_read l at 3 p (has pdus 3 (omega arith)) w.first in
      let d = later_data l p m c h w.second in
      record { value = apdu.Send d.parts; read = rw (a, d.read); same = ap send d.content }

  read_whole : (pdus : PduType) (bs : List ℕ) (v : Pdu) → FieldsRead pdus (padded bs) 0 (length bs) v → ApduRead pdus (padded bs) 0 v
  read_whole pdus bs v f = record { value = f.value; read = f.read ∙ ended_well (padded bs) (length bs) 0 (length bs + padding (length bs)) f.value (tail_padded bs); same = f.same }

  -- AN APDU WITH ADDITIONS IS READ, AND IS THE VALUE THAT IT IS WITHOUT THEM
  pub later_start_is : (pdus : PduType) (m : ℕ) (c : Content) → pdu_fits pdus (start m c) ≡ true
      → ApduRead pdus (padded (later_start pdus m c (additions_bits xs))) 0 (start m c)
  later_start_is pdus m c h = read_whole pdus (later_start pdus m c (additions_bits xs)) (start m c)
      (later_start_fields pdus _ 0 _ m c h (stands_front (later_start pdus m c (additions_bits xs))))

  pub later_send_is : (pdus : PduType) (c : Content) → pdu_fits pdus (send c) ≡ true
      → ApduRead pdus (padded (later_send pdus c (additions_bits xs))) 0 (send c)
  later_send_is pdus c h = read_whole pdus (later_send pdus c (additions_bits xs)) (send c)
      (later_send_fields pdus _ 0 _ c h (stands_front (later_send pdus c (additions_bits xs))))
