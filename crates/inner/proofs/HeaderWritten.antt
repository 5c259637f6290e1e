-- The pieces of a header are its bits, and each of them fits where the header does; how many bits a header has.
-- Assumes nothing.
use mathlib.Core.Path.{◌≡◌, refl}
use mathlib.Core.Bool.{Bool, true, false, cond, ◌&&◌}
use mathlib.Core.List.{List, [], ◌∷◌, ◌++◌, append_assoc, append-nil}
use Prim.Native.Nat.{ℕ, ◌+◌, ◌*◌, ◌-◌}
use native.Mathlib.Omega.{arith}
use lib.ListN.{length, length-append}
use Rattle.words.proofs.Laws.{both_left, both_right}
use Rattle.fields.specs.Fields.{digits_in}
use Rattle.fields.specs.Encodings.{whole_bits, whole_fits}
use Rattle.fields.proofs.Writers.{length_whole}
use Rattle.elements.specs.Arguments.{flag, time_fits, time_bits}
use Rattle.elements.specs.Writing.{Piece, whole, pieces_fit, pieces_bits, time_pieces}
use Rattle.elements.proofs.Written.{bits_append, time_bits_is}
use Rattle.elements.proofs.Fitting.{time_fit}
use Rattle.elements.proofs.Standing.{both_hold}
use Rattle.inner.specs.declared.values.DateTime.{DateTime}
use Rattle.inner.specs.declared.values.Header.{Header}
use Rattle.inner.specs.Headers.{presence, date_time_fits, date_time_bits, reference_fits, reference_bits, acknowledgement_bits, header_fits, header_bits}
use Rattle.inner.specs.Writing.{date_time_pieces, reference_pieces, acknowledgement_pieces, header_pieces}
use Rattle.inner.proofs.HeaderLaws.{presence_fits}
use Rattle.std.specs.Prelude.{None, Some}

-- ---- the bits

pub bits_cons : (x : Piece) (xs : List Piece) → pieces_bits (x ∷ xs) ≡ x.bits ++ pieces_bits xs
unfolding pieces_bits
bits_cons x xs = refl

pub bits_one : (x : Piece) → pieces_bits (x ∷ []) ≡ x.bits
unfolding pieces_bits
bits_one x = append-nil x.bits

pub bits_none : pieces_bits [] ≡ []
unfolding pieces_bits
bits_none = refl

pub date_time_bits_is : (x : DateTime) → pieces_bits (date_time_pieces x) ≡ date_time_bits x
unfolding date_time_pieces date_time_bits
date_time_bits_is x = simp (bits_cons, bits_append, bits_none, time_bits_is, append_assoc, append-nil)

pub reference_bits_is : (b : Bool) (n : ℕ) → pieces_bits (reference_pieces b n) ≡ reference_bits b n
unfolding reference_pieces reference_bits
reference_bits_is true n = bits_one (whole 0 63 n)
reference_bits_is false n = bits_none

pub acknowledgement_bits_is : (b : Bool) → pieces_bits (acknowledgement_pieces b) ≡ acknowledgement_bits b
unfolding acknowledgement_pieces acknowledgement_bits
acknowledgement_bits_is true = bits_one (whole 0 1 0)
acknowledgement_bits_is false = bits_none

pub header_bits_is : (x : Header) → pieces_bits (header_pieces x) ≡ header_bits x
unfolding header_pieces header_bits
header_bits_is x = simp (bits_cons, bits_append, reference_bits_is, date_time_bits_is, acknowledgement_bits_is, append_assoc)

-- ---- each piece fits

pub fit_cons : (x : Piece) (xs : List Piece) → x.fits ≡ true → pieces_fit xs ≡ true → pieces_fit (x ∷ xs) ≡ true
unfolding pieces_fit
fit_cons x xs p q = both_hold x.fits (pieces_fit xs) p q

pub fit_none : pieces_fit [] ≡ true
unfolding pieces_fit
fit_none = refl

pub fit_join : (xs ys : List Piece) → pieces_fit xs ≡ true → pieces_fit ys ≡ true → pieces_fit (xs ++ ys) ≡ true
unfolding pieces_fit
fit_join [] ys p q = q
fit_join (x ∷ xs) ys p q = both_hold x.fits (pieces_fit (xs ++ ys)) (both_left x.fits (pieces_fit xs) p)
    (fit_join xs ys (both_right x.fits (pieces_fit xs) p) q)

pub date_time_fit : (x : DateTime) → date_time_fits x ≡ true → pieces_fit (date_time_pieces x) ≡ true
unfolding date_time_pieces date_time_fits
date_time_fit x h =
    let y : Bool = whole_fits 1996 2095 x.year in
    let m : Bool = whole_fits 1 12 x.month in
    let d : Bool = whole_fits 1 31 x.day in
    let p = both_left (y && m && d && time_fits x.time) (whole_fits 0 59 x.seconds) h in
    let q = both_left (y && m && d) (time_fits x.time) p in
    let r = both_left (y && m) d q in
    fit_cons (whole 1996 2095 x.year) _ (both_left y m r)
    (fit_cons (whole 1 12 x.month) _ (both_right y m r)
    (fit_cons (whole 1 31 x.day) _ (both_right (y && m) d q)
    (fit_join (time_pieces x.time) _ (time_fit x.time (both_right (y && m && d) (time_fits x.time) p))
    (fit_cons (whole 0 59 x.seconds) [] (both_right (y && m && d && time_fits x.time) (whole_fits 0 59 x.seconds) h) fit_none))))

reference_fit : (b : Bool) (n : ℕ) → reference_fits b n ≡ true → pieces_fit (reference_pieces b n) ≡ true
unfolding reference_pieces reference_fits
reference_fit true n h = fit_cons (whole 0 63 n) [] h fit_none
reference_fit false n h = fit_none

acknowledgement_fit : (b : Bool) → pieces_fit (acknowledgement_pieces b) ≡ true
unfolding acknowledgement_pieces
acknowledgement_fit true = fit_cons (whole 0 1 0) [] refl fit_none
acknowledgement_fit false = fit_none

pub header_fit : (x : Header) → header_fits x ≡ true → pieces_fit (header_pieces x) ≡ true
unfolding header_pieces header_fits
header_fit x h =
    let i : Bool = whole_fits 0 63 x.identification in
    let r : Bool = reference_fits x.referenced x.reference in
    let p = both_left (i && r) (date_time_fits x.dated) h in
    fit_cons (whole 0 3 (presence x.referenced x.acknowledged)) _ (presence_fits x.referenced x.acknowledged)
    (fit_cons (whole 0 63 x.identification) _ (both_left i r p)
    (fit_join (reference_pieces x.referenced x.reference) _ (reference_fit x.referenced x.reference (both_right i r p))
    (fit_join (date_time_pieces x.dated) _ (date_time_fit x.dated (both_right (i && r) (date_time_fits x.dated) h))
    (acknowledgement_fit x.acknowledged))))

-- ---- how many bits there are: 41, six for a reference, one for an acknowledgement

module _ (x : Header) where
  reference_length : (b : Bool) (n : ℕ) → length (reference_bits b n) ≡ 6 * flag b
  unfolding reference_bits digits_in
  reference_length true n = length_whole 0 63 n
  reference_length false n = refl

  acknowledgement_length : (b : Bool) → length (acknowledgement_bits b) ≡ flag b
  unfolding acknowledgement_bits digits_in
  acknowledgement_length true = length_whole 0 1 0
  acknowledgement_length false = refl

  pub date_length : (x : DateTime) → length (date_time_bits x) ≡ 33
  unfolding date_time_bits time_bits digits_in
  date_length x = simp (length-append, length_whole)

  pub length_header : length (header_bits x) ≡ 41 + 6 * flag x.referenced + flag x.acknowledged
  unfolding header_bits digits_in
  length_header =
      let a : length (whole_bits 0 3 (presence x.referenced x.acknowledged)) ≡ 2 = length_whole 0 3
      (presence x.referenced x.acknowledged) in
      let b : length (whole_bits 0 63 x.identification) ≡ 6 = length_whole 0 63 x.identification in
      simp (length-append) (omega (
        arith,
        reference_length x.referenced x.reference,
        date_length x.dated,
        acknowledgement_length x.acknowledged,
      ))

-- ---- the header measured, as the code has it

module _ (x : Header) (ok : Bool) (h : ok ≡ header_fits x) where
  pub header_measured : (f g : ℕ) → ok ≡ true → f ≡ flag x.referenced → g ≡ flag x.acknowledged
      → Some (41 + (6 * f + g)) ≡ cond (header_fits x) (Some (length (header_bits x))) None
  header_measured f g t p q =
      let n : 41 + (6 * f + g) ≡ length (header_bits x) = let l = length_header x in omega arith in
      rw (← h, t, n)

  pub header_shapeless : ok ≡ false → None ≡ cond (header_fits x) (Some (length (header_bits x))) None
  header_shapeless t = rw (← h, t)
