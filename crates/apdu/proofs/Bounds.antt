-- What shape gives, and how large an encoding is at most.
-- Assumes nothing.
use mathlib.Core.Path.{◌≡◌, refl, ap}
use mathlib.Core.Bool.{Bool, true, false, cond, ◌&&◌}
use mathlib.Core.List.{List, ◌++◌}
use Prim.Native.Nat.{ℕ, ◌+◌, ◌*◌, ◌/◌, ◌≤◌, ◌<◌}
use native.Mathlib.Omega.{arith}
use native.Mathlib.Decide.{dec_lt}
use native.Mathlib.Nat.{mul-div_cancel_left, mul-le-mul_left}
use borrow.Author.Tests.{le-leb, eq-eqb, leb-true, ltb-true, eqb-true}
use lib.Dec.{leb, ltb, eqb}
use lib.ListN.{length, length-append}
use Rattle.words.proofs.Laws.{both_left, both_right}
use Rattle.bits.specs.Bits.{bits_n}
use Rattle.bits.proofs.Numbers.{length_bits_n}
use Rattle.bits.proofs.Bytes.{length_part}
use Rattle.fields.specs.Fields.{digits_in, width_of}
use Rattle.fields.specs.Encodings.{index_bits, length_bits, whole_bits, whole_fits, within_fits}
use Rattle.fields.proofs.Writers.{length_index, length_whole, width_short, width_long}
use Rattle.apdu.specs.Sizes.{identifier_least, identifier_most, message_most, check_most, user_last, provider_last, mode_last, octet, bit}
use Rattle.apdu.specs.Headings.{response_last, heading_bits, heading_fits}
use Rattle.apdu.specs.Pdus.{Optional, absent, given, Content, Pdu, abort_user, abort_provider, start, send, forward, forward_response, last_of, forwards, items_in, part_in, content_in, pdu_in}
use Rattle.apdu.specs.Encoding.{string_bits, string_fits, optional_bits, optional_fits, content_bits, content_fits, forward_bits, forward_pdu_fits, mode_bits, mode_fits, pdu_bits, pdu_fits}
use Rattle.apdu.specs.Writing.{items_fit, part_fits, data_fits, forward_fits, apdu_fits}
use Rattle.pdus.specs.declared.PduType.{PduType}
use Rattle.pdus.specs.declared.PduType.TheVariants.{AircraftPdus, GroundPdus}
use Rattle.pdus.specs.declared.Span.{Span}
use Rattle.apdu.specs.declared.Data.{Data}
use Rattle.apdu.specs.declared.Heading.{Heading}
use Rattle.apdu.specs.declared.Forward.{Forward}
use Rattle.apdu.specs.declared.Apdu.{Apdu}
use Rattle.apdu.specs.declared.Apdu.TheVariants as apdu
use Rattle.apdu.proofs.Heads.{heading_most, heading_most_is}
use Rattle.std.specs.Prelude.{None, Option, Some}

-- zero is not one
pub never : {A : Type 0} → ◌≡◌ {A = ℕ} 0 1 → A
never z = absurd (omega arith)

-- ---- a count within its sizes

pub record Counted (least most n : ℕ) : Type 0 where
  pub low : least ≤ n
  pub high : n ≤ most
  pub small : n < 16384

pub counted : (least most n : ℕ) → within_fits least most n ≡ true → Counted least most n
counted least most n h =
    let a : leb least n && leb n most ≡ true = both_left (leb least n && leb n most) (ltb n 16384) h in
    record {
      low = leb-true least n (both_left (leb least n) (leb n most) a);
      high = leb-true n most (both_right (leb least n) (leb n most) a);
      small = ltb-true n 16384 (both_right (leb least n && leb n most) (ltb n 16384) h);
    }

-- ---- items that stand in bits

pub record ItemsFit (l : List ℕ) (unit least most : ℕ) (x : Span) : Type 0 where
  pub fits : within_fits least most x.count ≡ true
  pub held : x.at + unit * x.count ≤ length l

pub items_fits : (l : List ℕ) (unit least most : ℕ) (x : Span) → items_fit l unit least most x ≡ true → ItemsFit l unit least most x
unfolding items_fit
items_fits l unit least most x h =
    record {
      fits = both_left (within_fits least most x.count) (leb (x.at + unit * x.count) (length l)) h;
      held = leb-true _ _ (both_right (within_fits least most x.count) (leb (x.at + unit * x.count) (length l)) h);
    }

pub fits_items : (l : List ℕ) (unit least most : ℕ) (x : Span) → ItemsFit l unit least most x → items_fit l unit least most x ≡ true
unfolding items_fit
fits_items l unit least most x s = rw (s.fits, le-leb _ _ s.held)

pub length_items : (l : List ℕ) (unit : ℕ) (x : Span) → x.at + unit * x.count ≤ length l → length (items_in l unit x) ≡ unit * x.count
length_items l unit x h = length_part l x.at (unit * x.count) h

pub items_count : (l : List ℕ) (unit : ℕ) (x : Span) → 0 < unit → x.at + unit * x.count ≤ length l
    → length (items_in l unit x) / unit ≡ x.count
items_count l unit x pos h = rw (length_items l unit x h) (mul-div_cancel_left x.count pos)

pub string_is : (l : List ℕ) (unit : ℕ) (x : Span) → 0 < unit → x.at + unit * x.count ≤ length l
    → string_bits unit (items_in l unit x) ≡ length_bits x.count ++ items_in l unit x
unfolding string_bits
string_is l unit x pos h = ap (λ (n : ℕ). length_bits n ++ items_in l unit x) (items_count l unit x pos h)

pub items_value_fits : (l : List ℕ) (unit least most : ℕ) (x : Span) → 0 < unit → ItemsFit l unit least most x
    → string_fits unit least most (items_in l unit x) ≡ true
items_value_fits l unit least most x pos s =
    rw (items_count l unit x pos s.held, length_items l unit x s.held, eq-eqb (unit * x.count) (unit * x.count) refl) s.fits

pub part_value_fits : (l : List ℕ) (unit least most : ℕ) (p : Option Span) → 0 < unit → part_fits l unit least most p ≡ true
    → optional_fits unit least most (part_in l unit p) ≡ true
unfolding part_fits optional_fits part_in
part_value_fits l unit least most None pos h = refl
part_value_fits l unit least most (Some x) pos h = items_value_fits l unit least most x pos (items_fits l unit least most x h)

-- ---- message data

pub record DataFits (li lm lc : List ℕ) (d : Data) : Type 0 where
  pub identifier : part_fits li octet identifier_least identifier_most d.identifier ≡ true
  pub message : part_fits lm bit 0 message_most d.message ≡ true
  pub check : items_fit lc bit 0 check_most d.check ≡ true

pub data_fits_is : (li lm lc : List ℕ) (d : Data) → data_fits li lm lc d ≡ true → DataFits li lm lc d
unfolding data_fits
data_fits_is li lm lc d h =
    let i : Bool = part_fits li octet identifier_least identifier_most d.identifier in
    let m : Bool = part_fits lm bit 0 message_most d.message in
    let a = both_left (i && m) (items_fit lc bit 0 check_most d.check) h in
    record { identifier = both_left i m a; message = both_right i m a; check = both_right (i && m) (items_fit lc bit 0 check_most d.check) h }

pub data_value_fits : (li lm lc : List ℕ) (d : Data) → data_fits li lm lc d ≡ true → content_fits (content_in li lm lc d) ≡ true
unfolding content_fits content_in
data_value_fits li lm lc d h =
    let s = data_fits_is li lm lc d h in
    rw (
      part_value_fits li octet identifier_least identifier_most d.identifier (omega arith) s.identifier,
      part_value_fits lm bit 0 message_most d.message (omega arith) s.message,
    )
    (items_value_fits lc bit 0 check_most d.check (omega arith) (items_fits lc bit 0 check_most d.check s.check))

-- a forward message

pub forward_value_fits : (lm : List ℕ) (f : Forward) → forward_fits lm f ≡ true
    → forward_pdu_fits f.heading (items_in lm bit f.message) ≡ true
unfolding forward_fits forward_pdu_fits
forward_value_fits lm f e =
    rw (both_left (heading_fits f.heading) (items_fit lm bit 0 message_most f.message) e)
    (items_value_fits lm bit 0 message_most f.message (omega arith) (items_fits lm bit 0 message_most f.message
    (both_right (heading_fits f.heading) (items_fit lm bit 0 message_most f.message) e)))

pub apdu_value_fits : (pdus : PduType) (li lm lc : List ℕ) (a : Apdu) → apdu_fits pdus li lm lc a ≡ true
    → pdu_fits pdus (pdu_in li lm lc a) ≡ true
unfolding apdu_fits pdu_fits pdu_in
apdu_value_fits pdus li lm lc (apdu.AbortUser r) h = h
apdu_value_fits pdus li lm lc (apdu.AbortProvider r) h = h
apdu_value_fits pdus li lm lc (apdu.Start m d) h = rw (both_left (mode_fits pdus m) (data_fits li lm lc d) h)
    (data_value_fits li lm lc d (both_right (mode_fits pdus m) (data_fits li lm lc d) h))
apdu_value_fits pdus li lm lc (apdu.Send d) h = data_value_fits li lm lc d h
apdu_value_fits pdus li lm lc (apdu.Forward f) h = rw (both_left (forwards pdus) (forward_fits lm f) h)
    (forward_value_fits lm f (both_right (forwards pdus) (forward_fits lm f) h))
apdu_value_fits pdus li lm lc (apdu.ForwardResponse x) h = h

-- ---- sizes

-- a longer string takes no fewer bits for its length
length_mono : (m n : ℕ) → m ≤ n → length (length_bits m) ≤ length (length_bits n)
length_mono m n h =
    elim (dec_lt n 128) [
      | yes l ↦
          let a = width_short n l in
          let b = width_short m (omega arith) in
          omega arith
      | no l ↦
          let a = width_long n (omega arith) in
          elim (dec_lt m 128) [
            | yes k ↦ let b = width_short m k in omega arith
            | no k ↦ let b = width_long m (omega arith) in omega arith
          ]
    ]

pub string_most : (unit least most : ℕ) (l : List ℕ) → string_fits unit least most l ≡ true
    → length (string_bits unit l) ≤ length (length_bits most) + unit * most
unfolding string_bits
string_most unit least most l h =
    let q : ℕ = length l / unit in
    let e : unit * (length l / unit) ≡ length l = eqb-true _ _
    (both_left (eqb (unit * (length l / unit)) (length l)) (within_fits least most (length l / unit)) h) in
    let c = counted least most (length l / unit)
    (both_right (eqb (unit * (length l / unit)) (length l)) (within_fits least most (length l / unit)) h) in
    let m : unit * (length l / unit) ≤ unit * most = mul-le-mul_left unit c.high in
    let w = length_mono (length l / unit) most c.high in
    let n = length-append (length_bits (length l / unit)) l in
    omega arith

pub optional_most : (unit least most : ℕ) (o : Optional) → optional_fits unit least most o ≡ true
    → length (optional_bits unit o) ≤ length (length_bits most) + unit * most
unfolding optional_fits optional_bits
optional_most unit least most absent h = omega arith
optional_most unit least most (given l) h = string_most unit least most l h

-- the largest message data
abbrev pub content_most : ℕ
content_most = 3 + (8 + octet * identifier_most) + (16 + bit * message_most) + (8 + bit * check_most)

pub content_most_is : (c : Content) → content_fits c ≡ true → length (content_bits c) ≤ content_most
unfolding content_fits content_bits
content_most_is c h =
    let i : Bool = optional_fits octet identifier_least identifier_most c.identifier in
    let m : Bool = optional_fits bit 0 message_most c.message in
    let k : Bool = string_fits bit 0 check_most c.check in
    let a = both_left (i && m) k h in
    let x = optional_most octet identifier_least identifier_most c.identifier (both_left i m a) in
    let y = optional_most bit 0 message_most c.message (both_right i m a) in
    let z = string_most bit 0 check_most c.check (both_right (i && m) k h) in
    let xw = width_short identifier_most (omega arith) in
    let yw = width_long message_most (omega arith) in
    let zw = width_short check_most (omega arith) in
    simp (length-append, length_bits_n) (omega arith)

abbrev pub forward_most : ℕ
forward_most = heading_most + (16 + bit * message_most)

pub forward_most_is : (h : Heading) (m : List ℕ) → forward_pdu_fits h m ≡ true → length (forward_bits h m) ≤ forward_most
unfolding forward_pdu_fits forward_bits
forward_most_is h m e =
    let x = heading_most_is h (both_left (heading_fits h) (string_fits bit 0 message_most m) e) in
    let y = string_most bit 0 message_most m (both_right (heading_fits h) (string_fits bit 0 message_most m) e) in
    let w = width_long message_most (omega arith) in
    rw (length-append) (omega arith)

-- the largest APDU: a startdown with mode dsc
abbrev pub pdu_most : ℕ
pdu_most = 5 + content_most

-- the bits of the alternative
pub width : PduType → ℕ
width AircraftPdus = 3
width GroundPdus = 4

pub length_alternative : (pdus : PduType) (i : ℕ) → length (index_bits (last_of pdus) i) ≡ width pdus
unfolding digits_in width
length_alternative AircraftPdus i = length_index 3 i
length_alternative GroundPdus i = length_index 5 i

mode_most : (m : ℕ) → length (mode_bits AircraftPdus m) ≤ 2
unfolding mode_bits digits_in
mode_most m = go (eqb m 0)
  where
    go : (t : Bool) → length (cond t (bits_n 1 0) (bits_n 1 1 ++ whole_bits 0 mode_last m)) ≤ 2
    go true = rw (length_bits_n 1 0) (omega arith)
    go false = rw (length-append, length_bits_n, length_whole) (omega arith)

pub lead_most : (pdus : PduType) (m : ℕ) → width pdus + length (mode_bits pdus m) ≤ 5
unfolding width mode_bits
lead_most AircraftPdus m = omega (arith, mode_most m)
lead_most GroundPdus m = omega arith

pub width_most : (pdus : PduType) → width pdus ≤ 4
unfolding width
width_most AircraftPdus = omega arith
width_most GroundPdus = omega arith

pub reason_most : (last r : ℕ) → width_of last ≤ 4 → length (index_bits last r) ≤ 5
reason_most last r h = rw (length_index last r) (omega arith)

pub pdu_most_is : (pdus : PduType) (v : Pdu) → pdu_fits pdus v ≡ true → length (pdu_bits pdus v) ≤ pdu_most
unfolding pdu_fits pdu_bits digits_in
pdu_most_is pdus (abort_user r) h = rw (length-append, length_alternative)
    (omega (arith, width_most pdus, reason_most user_last r (omega arith)))
pdu_most_is pdus (abort_provider r) h = rw (length-append, length_alternative)
    (omega (arith, width_most pdus, reason_most provider_last r (omega arith)))
pdu_most_is pdus (start m c) h =
    let k = content_most_is c (both_right (mode_fits pdus m) (content_fits c) h) in
    rw (length-append, length_alternative, length-append) (omega (arith, lead_most pdus m))
pdu_most_is pdus (send c) h =
    let k = content_most_is c h in
    rw (length-append, length_alternative) (omega (arith, width_most pdus))
pdu_most_is pdus (forward x m) h =
    let k = forward_most_is x m (both_right (forwards pdus) (forward_pdu_fits x m) h) in
    rw (length-append, length_alternative) (omega (arith, width_most pdus))
pdu_most_is pdus (forward_response x) h = rw (length-append, length_alternative)
    (omega (arith, width_most pdus, reason_most response_last x (omega arith)))
