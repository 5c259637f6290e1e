-- The number that the bits of a header say, as the code puts it together; written as one number, a header leaves what its pieces leave.
-- Assumes nothing.
use mathlib.Core.Path.{◌≡◌, refl, sym, ap, ◌∙◌}
use mathlib.Core.Bool.{Bool, true, false, ◌&&◌}
use mathlib.Core.List.{List, [], ◌++◌, append_assoc, append-nil}
use Prim.Native.Nat.{ℕ, ◌+◌, ◌-◌, ◌*◌, ◌^◌, ◌≤◌, ◌<◌, min}
use native.Mathlib.Omega.{arith}
use lib.ListN.{length}
use lib.Dec.{leb}
use Rattle.words.proofs.Laws.{both_left, both_right}
use Rattle.bits.specs.Bits.{num_of}
use Rattle.bits.specs.Put.{left, put_number}
use Rattle.bits.proofs.Numbers.{num_append, num_lt}
use Rattle.bits.proofs.Inside.{is_within}
use Rattle.fields.specs.Fields.{width_of, digits_in}
use Rattle.fields.specs.Encodings.{whole_bits, whole_fits}
use Rattle.elements.specs.Arguments.{flag, time_fits, time_bits}
use Rattle.elements.specs.Writing.{put_pieces}
use Rattle.elements.proofs.Joined.{joined_put, num_whole, whole_behind}
use Rattle.elements.proofs.Whole.{whole_above, whole_below}
use Rattle.inner.specs.declared.values.DateTime.{DateTime}
use Rattle.inner.specs.declared.values.Header.{Header}
use Rattle.inner.specs.Headers.{presence, date_time_fits, date_time_bits, reference_fits, reference_bits, acknowledgement_bits, header_fits, header_bits}
use Rattle.inner.specs.Writing.{header_pieces}
use Rattle.inner.proofs.AreBits.{date_time_are_bits, header_are_bits}
use Rattle.inner.proofs.HeaderLaws.{presence_fits}
use Rattle.inner.proofs.HeaderPieces.{flag_most}
use Rattle.inner.proofs.HeaderWritten.{header_bits_is, header_fit, date_length, length_header}
use Rattle.inner.proofs.RowPieces.{sized, sized_yes}
use Rattle.std.specs.Prelude.{Option, Some}

-- a whole number behind others, by how many numbers its bits hold
behind : (xs : List ℕ) (lo hi v k p : ℕ) → hi < 2 ^ 64 → width_of (hi - lo) ≡ k → 2 ^ k ≡ p → whole_fits lo hi v ≡ true
    → num_of (xs ++ whole_bits lo hi v) ≡ num_of xs * p + (v - lo)
behind xs lo hi v k p s w q f = rw (← q, ← w) (whole_behind xs lo hi v s f)

-- ---- date and time

record Dated (x : DateTime) : Type 0 where
  year : whole_fits 1996 2095 x.year ≡ true
  month : whole_fits 1 12 x.month ≡ true
  day : whole_fits 1 31 x.day ≡ true
  hours : whole_fits 0 23 x.time.hours ≡ true
  minutes : whole_fits 0 59 x.time.minutes ≡ true
  seconds : whole_fits 0 59 x.seconds ≡ true

dated : (x : DateTime) → date_time_fits x ≡ true → Dated x
unfolding date_time_fits time_fits
dated x h =
    let y : Bool = whole_fits 1996 2095 x.year in
    let m : Bool = whole_fits 1 12 x.month in
    let d : Bool = whole_fits 1 31 x.day in
    let o : Bool = whole_fits 0 23 x.time.hours in
    let i : Bool = whole_fits 0 59 x.time.minutes in
    let s : Bool = whole_fits 0 59 x.seconds in
    let p = both_left (y && m && d && (o && i)) s h in
    let q = both_left (y && m && d) (o && i) p in
    let t = both_right (y && m && d) (o && i) p in
    let r = both_left (y && m) d q in
    record {
      year = both_left y m r;
      month = both_right y m r;
      day = both_right (y && m) d q;
      hours = both_left o i t;
      minutes = both_right o i t;
      seconds = both_right (y && m && d && (o && i)) s h;
    }

module _ (x : DateTime) (h : date_time_fits x ≡ true) where
  pub date_above : (1996 ≤ x.year) × (1 ≤ x.month) × (1 ≤ x.day)
  date_above = let d = dated x h in (
    whole_above 1996 2095 x.year d.year,
    whole_above 1 12 x.month d.month,
    whole_above 1 31 x.day d.day,
  )

  pub date_said :
      (((((x.year - 1996) * 16 + (x.month - 1)) * 32 + (x.day - 1)) * 32 + x.time.hours) * 64 + x.time.minutes) *
      64 + x.seconds ≡ num_of (date_time_bits x)
  unfolding date_time_bits time_bits digits_in
  date_said =
      let d = dated x h in
      let y : List ℕ = whole_bits 1996 2095 x.year in
      let m : List ℕ = y ++ whole_bits 1 12 x.month in
      let a : List ℕ = m ++ whole_bits 1 31 x.day in
      let o : List ℕ = a ++ whole_bits 0 23 x.time.hours in
      let i : List ℕ = o ++ whole_bits 0 59 x.time.minutes in
      let ey : num_of y ≡ x.year - 1996 = num_whole 1996 2095 x.year (omega arith) d.year in
      let em : num_of m ≡ num_of y * 16 + (x.month - 1) = behind y 1 12 x.month 4 16 (omega arith) refl refl d.month in
      let ea : num_of a ≡ num_of m * 32 + (x.day - 1) = behind m 1 31 x.day 5 32 (omega arith) refl refl d.day in
      let eo : num_of o ≡ num_of a * 32 + (x.time.hours - 0) = behind a 0 23 x.time.hours 5 32 (omega arith) refl refl d.hours in
      let ei : num_of i ≡ num_of o * 64 + (x.time.minutes - 0) = behind o 0 59 x.time.minutes 6 64 (omega arith)
      refl refl d.minutes in
      let es : num_of (i ++ whole_bits 0 59 x.seconds) ≡ num_of i * 64 + (x.seconds - 0) = behind i 0 59 x.seconds 6
      64 (omega arith) refl refl d.seconds in
      let j : num_of
      (a ++ (whole_bits 0 23 x.time.hours ++ whole_bits 0 59 x.time.minutes) ++ whole_bits 0 59 x.seconds) ≡
      num_of (i ++ whole_bits 0 59 x.seconds) = ap (λ (l : List ℕ). num_of (l ++ whole_bits 0 59 x.seconds))
      (sym (append_assoc a (whole_bits 0 23 x.time.hours) (whole_bits 0 59 x.time.minutes))) in
      sym (j ∙ omega (arith, ey, em, ea, eo, ei, es))

-- it lies in 33 bits
pub date_small : (h : Header) → num_of (date_time_bits h.dated) < 8589934592
date_small h = rw (date_length h h.dated) at (num_lt (date_time_bits h.dated) (date_time_are_bits h.dated))

-- ---- the header

abbrev front : Header → List ℕ
front x = whole_bits 0 3 (presence x.referenced x.acknowledged) ++ whole_bits 0 63 x.identification ++
    reference_bits x.referenced x.reference

module _ (x : Header) (h : header_fits x ≡ true) where
  number_fits : whole_fits 0 63 x.identification ≡ true
  unfolding header_fits
  number_fits = both_left (whole_fits 0 63 x.identification) (reference_fits x.referenced x.reference) (both_left
      (whole_fits 0 63 x.identification && reference_fits x.referenced x.reference) (date_time_fits x.dated)
      h)

  pub reference_fits_is : reference_fits x.referenced x.reference ≡ true
  unfolding header_fits
  reference_fits_is = both_right (whole_fits 0 63 x.identification) (reference_fits x.referenced x.reference) (
      both_left (whole_fits 0 63 x.identification && reference_fits x.referenced x.reference)
      (date_time_fits x.dated) h)

  pub dated_fits : date_time_fits x.dated ≡ true
  unfolding header_fits
  dated_fits = both_right (whole_fits 0 63 x.identification && reference_fits x.referenced x.reference) (date_time_fits x.dated) h

  pub number_most : x.identification ≤ 63
  number_most = whole_below 0 63 x.identification number_fits

  module _ (f g : ℕ) (hf : f ≡ flag x.referenced) (hg : g ≡ flag x.acknowledged) where
    lead : num_of (whole_bits 0 3 (presence x.referenced x.acknowledged) ++ whole_bits 0 63 x.identification) ≡
        (2 * f + g) * 64 + x.identification
    unfolding digits_in
    lead =
        let p : List ℕ = whole_bits 0 3 (presence x.referenced x.acknowledged) in
        let a : num_of p ≡ presence x.referenced x.acknowledged - 0 = num_whole 0 3
        (presence x.referenced x.acknowledged) (omega arith) (presence_fits x.referenced x.acknowledged)
        in
        let b : num_of (p ++ whole_bits 0 63 x.identification) ≡ num_of p * 64 + (x.identification - 0) = behind p 0 63
        x.identification 6 64 (omega arith) refl refl number_fits in
        omega (arith, a, b, hf, hg)

    bounds : (f ≤ 1) × (g ≤ 1)
    bounds = (flag_most x.referenced f hf, flag_most x.acknowledged g hg)

    pub front_with : x.referenced ≡ true
        → (((2 * f + g) * 64 + x.identification) * 64 + x.reference < 16384) × (((2 * f + g) * 64 + x.identification) * 64 + x.reference ≡ num_of (front x))
    unfolding reference_fits reference_bits digits_in
    front_with t =
        let e : whole_fits 0 63 x.reference ≡ true = rw t at reference_fits_is in
        let l : List ℕ = whole_bits 0 3 (presence x.referenced x.acknowledged) ++ whole_bits 0 63 x.identification in
        let b : num_of (l ++ whole_bits 0 63 x.reference) ≡ num_of l * 64 + (x.reference - 0) = behind l 0 63
        x.reference 6 64 (omega arith) refl refl e in
        let r : reference_bits x.referenced x.reference ≡ whole_bits 0 63 x.reference = rw t in (
          omega (arith, number_most, bounds, whole_below 0 63 x.reference e),
          omega (arith, lead, b) ∙ ap
              (λ (k : List ℕ). num_of (l ++ k)) (sym r),
        )

    pub front_without : x.referenced ≡ false
        → ((2 * f + g) * 64 + x.identification < 16384) × ((2 * f + g) * 64 + x.identification ≡ num_of (front x))
    unfolding reference_bits
    front_without t =
        let l : List ℕ = whole_bits 0 3 (presence x.referenced x.acknowledged) ++ whole_bits 0 63 x.identification in
        let r : reference_bits x.referenced x.reference ≡ [] = rw t in
        (omega (arith, number_most, bounds), sym lead ∙ ap num_of (sym (append-nil l)) ∙ ap (λ (k : List ℕ). num_of (l ++ k)) (sym r))

  module _ (v w : ℕ) (hv : (v < 16384) × (v ≡ num_of (front x))) (hw : w ≡ num_of (date_time_bits x.dated)) where
    pub number_small : v * 8589934592 + w < 140737488355328
    number_small = omega (arith, hv.0, date_small x)

    joint : v * 8589934592 + w ≡ num_of (front x ++ date_time_bits x.dated)
    joint = sym (num_append (front x) (date_time_bits x.dated) ∙ rw (date_length x x.dated, ← hw, ← hv.1))

    pub header_plain : x.acknowledged ≡ false → v * 8589934592 + w ≡ num_of (header_bits x)
    unfolding header_bits acknowledgement_bits
    header_plain t =
        let l : List ℕ = front x ++ date_time_bits x.dated in
        let r : acknowledgement_bits x.acknowledged ≡ [] = rw t in
        joint ∙ ap num_of (sym (append-nil l)) ∙ ap (λ (k : List ℕ). num_of (l ++ k)) (sym r)

    pub header_acknowledged : x.acknowledged ≡ true → (v * 8589934592 + w) * 2 ≡ num_of (header_bits x)
    unfolding header_bits acknowledgement_bits digits_in
    header_acknowledged t =
        let l : List ℕ = front x ++ date_time_bits x.dated in
        let b : num_of (l ++ whole_bits 0 1 0) ≡ num_of l * 2 + (0 - 0) = behind l 0 1 0 1 2 (omega arith) refl refl refl in
        let r : acknowledgement_bits x.acknowledged ≡ whole_bits 0 1 0 = rw t in
        omega (arith, joint, b) ∙ ap (λ (k : List ℕ). num_of (l ++ k)) (sym r)

-- ---- written as one number

pub header_joined : (x : Header) (s t : List ℕ) (e at n v : ℕ) (a : Option ℕ) → left a t ≡ put_number s e at n v
    → (header_fits x ≡ true) × (n ≡ length (header_bits x)) → v ≡ num_of (header_bits x) → (b : Bool)
    → b ≡ leb (at + n) (min e (8 * length s)) → b ≡ true → left a t ≡ put_pieces s e at (header_pieces x)
header_joined x s t e at n v a h f pv b p q =
    let bs = header_bits_is x in
    joined_put (header_pieces x) s t e at n v a (header_fit x f.0) (rw bs (header_are_bits x)) (rw bs f.1)
    (rw bs pv)
    (omega (arith, f.1, length_header x, flag_most x.referenced _ refl, flag_most x.acknowledged _ refl))
    (is_within s e at n b p q) h

pub header_sized : (x : Header) (o : Option ℕ) (n : ℕ) → o ≡ sized (header_fits x) (header_bits x) → o ≡ Some n
    → (header_fits x ≡ true) × (n ≡ length (header_bits x))
header_sized x o n p q = sized_yes (header_fits x) (header_bits x) n (sym q ∙ p)
