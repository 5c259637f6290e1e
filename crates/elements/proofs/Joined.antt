-- Pieces that stand together, written as one number: the number that their bits say.
-- Assumes nothing.
use mathlib.Core.Path.{◌≡◌, refl, ap, sym, ◌∙◌}
use mathlib.Core.Bool.{true, false}
use mathlib.Core.List.{List, [], ◌∷◌, ◌++◌, append-nil, append_assoc}
use Prim.Native.Nat.{ℕ, zero, suc, ◌+◌, ◌-◌, ◌*◌, ◌%◌, ◌^◌, ◌≤◌, ◌<◌}
use native.Mathlib.Omega.{arith}
use native.Mathlib.Nat.{mod-eq_of_lt, mul-le-mul}
use lib.Arith.{digits_lt}
use lib.Dec.{leb}
use lib.ListN.{length, get_or}
use lib.Pow.{pow-add, pow_mono}
use borrow.Author.Tests.{le-leb, leb-true}
use Rattle.words.proofs.Laws.{both_left, both_right}
use Rattle.bits.specs.Bits.{bits_n, bits_to, num_of}
use Rattle.bits.specs.Put.{left, put_number}
use Rattle.bits.proofs.Numbers.{Bits, bits_n_zero, length_bits_n, num_append, num_bits_n, num_lt, bits_n_num, bits_bits_n}
use Rattle.bits.proofs.Joining.{bits_n_join}
use Rattle.bits.proofs.Bytes.{bits_append}
use Rattle.bits.proofs.Inside.{Within}
use Rattle.bits.proofs.Putting.{put_fits, put_if_yes}
use Rattle.fields.specs.Fields.{width_of, digits_in}
use Rattle.fields.specs.Encodings.{index_bits, whole_bits, whole_fits}
use Rattle.fields.proofs.Widths.{width_holds}
use Rattle.fields.proofs.Writers.{as_number}
use Rattle.elements.specs.declared.values.LevelType.{LevelType}
use Rattle.elements.specs.declared.values.Level.{Level}
use Rattle.elements.specs.declared.values.Time.{Time}
use Rattle.elements.specs.declared.values.Element.{Element}
use Rattle.kinds.specs.declared.ArgumentKind.{ArgumentKind}
use Rattle.kinds.specs.declared.Direction.{Direction}
use Rattle.kinds.specs.declared.Direction.TheVariants as direction
use Rattle.elements.specs.Arguments.{lowest, highest, level_type_fits, level_type_bits, level_bits, time_fits, time_bits, digits_fit, digits_bits}
use Rattle.elements.specs.OneElement.{last_of}
use Rattle.elements.specs.Writing.{Piece, OneNumber, put_pieces, pieces_fit, pieces_bits, level_pieces, time_pieces, number_pieces, argument_pieces, element_pieces_as}
use Rattle.elements.proofs.Fitting.{fit_append, level_type_fit, choice_fits, no_piece, time_fit, code_fit}
use Rattle.elements.proofs.Standing.{both_hold}
use Rattle.elements.proofs.Indices.{last_small}
use Rattle.elements.proofs.Levels.{highest_small}
use Rattle.elements.proofs.Measured.{widest, length_single, level_type_most}
use Rattle.elements.proofs.Pieces.{pieces_left}
use Rattle.elements.proofs.Whole.{length_whole, whole_above, whole_below}
use Rattle.elements.proofs.Written.{level_bits_is, time_bits_is, code_bits}
use Rattle.std.specs.Prelude.{Option}

-- ---- any pieces

pub one_put : (xs : List Piece) (s z : List ℕ) (e at n v : ℕ) (a : Option ℕ) → pieces_fit xs ≡ true → pieces_bits xs ≡ bits_n n v
    → v < 2 ^ n → n ≤ 64 → Within s e at n → left a z ≡ put_number s e at n v → left a z ≡ put_pieces s e at xs
one_put xs s z e at n v a f q l m w h =
    let bs : List ℕ = pieces_bits xs in
    let c : n ≡ length bs = sym (ap length q ∙ length_bits_n n v) in
    let k : at + length bs ≤ length (bits_to s e) = rw c at (leb-true (at + n) (length (bits_to s e)) w.test) in
    h ∙ as_number s e at n v true bs m l refl q ∙ put_if_yes true s e at bs refl ∙ put_fits s e at bs k ∙ sym (pieces_left xs s e at f k)

pub joined_put : (xs : List Piece) (s z : List ℕ) (e at n v : ℕ) (a : Option ℕ) → pieces_fit xs ≡ true → Bits (pieces_bits xs)
    → n ≡ length (pieces_bits xs) → v ≡ num_of (pieces_bits xs) → n ≤ 64 → Within s e at n
    → left a z ≡ put_number s e at n v → left a z ≡ put_pieces s e at xs
joined_put xs s z e at n v a f b pn pv m w h =
    let bs : List ℕ = pieces_bits xs in
    one_put xs s z e at n v a f (rw (pn, pv) (sym (bits_n_num bs b))) (rw (pn, pv) (num_lt bs b)) m w h

-- ---- a whole number behind others

pub whole_are_bits : (lo hi v : ℕ) → Bits (whole_bits lo hi v)
unfolding whole_bits
whole_are_bits lo hi v = bits_bits_n (width_of (hi - lo)) (v - lo)

pub num_whole : (lo hi v : ℕ) → hi < 2 ^ 64 → whole_fits lo hi v ≡ true → num_of (whole_bits lo hi v) ≡ v - lo
unfolding whole_bits
num_whole lo hi v s f =
    let a = whole_above lo hi v f in
    let b = whole_below lo hi v f in
    let k : hi - lo < 2 ^ width_of (hi - lo) = width_holds 64 (hi - lo) (omega arith) in
    num_bits_n (width_of (hi - lo)) (v - lo) ∙ mod-eq_of_lt (omega arith)

pub whole_behind : (xs : List ℕ) (lo hi v : ℕ) → hi < 2 ^ 64 → whole_fits lo hi v ≡ true
    → num_of (xs ++ whole_bits lo hi v) ≡ num_of xs * 2 ^ width_of (hi - lo) + (v - lo)
whole_behind xs lo hi v s f = rw (num_append, length_whole, num_whole lo hi v s f)

pub nothing_said : OneNumber [] 0 0
unfolding pieces_fit pieces_bits
nothing_said = record { all_fit = refl; said = sym (bits_n_zero 0); small = omega arith; few = omega arith }

-- ---- a level in one unit

-- what the unit's shift holds
scaled : (u : ℕ) → u ≤ 3 → u * 2 ^ width_of (highest u - lowest u) ≤ 98304
unfolding lowest highest digits_in
scaled zero h = omega arith
scaled (suc zero) h = omega arith
scaled (suc (suc zero)) h = omega arith
scaled (suc (suc (suc zero))) h = omega arith
scaled (suc (suc (suc (suc u)))) h = absurd (omega arith)

module _ (x : LevelType) (f : level_type_fits x ≡ true) where
  unit_fits : whole_fits 0 3 x.unit ≡ true
  unfolding level_type_fits
  unit_fits = both_left (whole_fits 0 3 x.unit) (whole_fits (lowest x.unit) (highest x.unit) x.number) f

  number_fits : whole_fits (lowest x.unit) (highest x.unit) x.number ≡ true
  unfolding level_type_fits
  number_fits = both_right (whole_fits 0 3 x.unit) (whole_fits (lowest x.unit) (highest x.unit) x.number) f

  module _ (low high n : ℕ) (pl : low ≡ lowest x.unit) (ph : high ≡ highest x.unit) (pn : n ≡ width_of (high - low)) where
    pub number_above : low ≤ x.number
    number_above = rw pl (whole_above (lowest x.unit) (highest x.unit) x.number number_fits)

    pub width_few : n ≤ 15
    width_few = rw (pn, pl, ph) (widest x.unit)

    shifted : x.unit * 2 ^ n ≤ 98304
    shifted = rw (pn, pl, ph) (scaled x.unit (whole_below 0 3 x.unit unit_fits))

    unit_shifted : x.unit * 2 ^ n % 2 ^ 64 ≡ x.unit * 2 ^ n
    unit_shifted = mod-eq_of_lt (omega (arith, shifted))

    pub type_small : x.unit * 2 ^ n % 2 ^ 64 + (x.number - low) < 2 ^ 64
    type_small = rw unit_shifted (omega (
      arith,
      shifted,
      whole_below (lowest x.unit) (highest x.unit) x.number
          number_fits,
      highest_small x.unit,
    ))

    pub type_said : x.unit * 2 ^ n % 2 ^ 64 + (x.number - low) ≡ num_of (level_type_bits x)
    unfolding level_type_bits
    type_said =
        let small : highest x.unit < 2 ^ 64 = omega (arith, highest_small x.unit) in
        let u : num_of (whole_bits 0 3 x.unit) ≡ x.unit = num_whole 0 3 x.unit (omega arith) unit_fits ∙ omega arith in
        rw unit_shifted (rw (pn, pl, ph) (sym (whole_behind (whole_bits 0 3 x.unit) (lowest x.unit)
        (highest x.unit) x.number small number_fits ∙ rw u)))

-- ---- a level that is no block

type_are_bits : (x : LevelType) → Bits (level_type_bits x)
unfolding level_type_bits
type_are_bits x = bits_append (whole_bits 0 3 x.unit) _ (whole_are_bits 0 3 x.unit)
    (whole_are_bits (lowest x.unit) (highest x.unit) x.number)

level_are_bits : (x : Level) → x.block ≡ false → Bits (level_bits x)
unfolding level_bits
level_are_bits x b = rw (b, append-nil)
    (bits_append (whole_bits 0 1 0) (level_type_bits x.first) (whole_are_bits 0 1 0) (type_are_bits x.first))

level_single_fit : (x : Level) → x.block ≡ false → level_type_fits x.first ≡ true → pieces_fit (level_pieces x) ≡ true
unfolding level_pieces
level_single_fit x b f = rw b (fit_append _ _ (fit_append _ _ (choice_fits false) (level_type_fit x.first f)) no_piece)

level_number : (x : Level) → x.block ≡ false → num_of (level_type_bits x.first) ≡ num_of (level_bits x)
unfolding level_bits
level_number x b =
    let z : num_of (whole_bits 0 1 0) ≡ 0 = num_whole 0 1 0 (omega arith) refl in
    rw (b, append-nil, num_append, z) (omega arith)

pub level_said : (x : Level) (n v : ℕ) → (x.block ≡ false) × (level_type_fits x.first ≡ true) → n ≡ length (level_bits x)
    → v ≡ num_of (level_type_bits x.first) → OneNumber (level_pieces x) n v
level_said x n v f pn pv =
    let q : v ≡ num_of (level_bits x) = pv ∙ level_number x f.0 in
    let b = level_are_bits x f.0 in
    record {
      all_fit = level_single_fit x f.0 f.1;
      said = rw (level_bits_is x, pn, q) (sym (bits_n_num (level_bits x) b));
      small = rw (pn, q) (num_lt (level_bits x) b);
      few = omega (arith, pn, length_single x f.0, level_type_most x.first);
    }

-- ---- a time, a code

from_zero : (hi v : ℕ) → whole_bits 0 hi v ≡ bits_n (width_of (hi - 0)) v
unfolding whole_bits
from_zero hi v = let z : v - 0 ≡ v = omega arith in rw z

time_two : (x : Time) → time_bits x ≡ bits_n 5 x.hours ++ bits_n 6 x.minutes
unfolding time_bits digits_in
time_two x = rw (from_zero 23 x.hours, from_zero 59 x.minutes)

pub time_said : (x : Time) → time_fits x ≡ true → OneNumber (time_pieces x) 11 (x.hours * 64 + x.minutes)
unfolding time_fits
time_said x f =
    let h = whole_below 0 23 x.hours (both_left (whole_fits 0 23 x.hours) (whole_fits 0 59 x.minutes) f) in
    let m = whole_below 0 59 x.minutes (both_right (whole_fits 0 23 x.hours) (whole_fits 0 59 x.minutes) f) in
    record {
      all_fit = time_fit x f;
      said = time_bits_is x ∙ time_two x ∙ sym (bits_n_join 5 6 x.hours x.minutes (omega (arith, m)));
      small = omega (arith, h, m);
      few = omega arith;
    }

digit_below : (d : ℕ) (ds : List ℕ) → digits_fit (d ∷ ds) ≡ true → d ≤ 7
unfolding digits_fit
digit_below d ds f = whole_below 0 7 d (both_left (whole_fits 0 7 d) (digits_fit ds) f)

digits_behind : (d : ℕ) (ds : List ℕ) → digits_fit (d ∷ ds) ≡ true → digits_fit ds ≡ true
unfolding digits_fit
digits_behind d ds f = both_right (whole_fits 0 7 d) (digits_fit ds) f

pub four : (a b c d : ℕ) → b ≤ 7 → c ≤ 7 → d ≤ 7 → digits_bits (a ∷ b ∷ c ∷ d ∷ []) ≡ bits_n 12 (((a * 8 + b) * 8 + c) * 8 + d)
unfolding digits_bits digits_in
four a b c d p q r =
    let x : bits_n 12 (((a * 8 + b) * 8 + c) * 8 + d) ≡ bits_n 9 ((a * 8 + b) * 8 + c) ++ bits_n 3 d = bits_n_join 9 3
    ((a * 8 + b) * 8 + c) d (omega (arith, r)) in
    let y : bits_n 9 ((a * 8 + b) * 8 + c) ≡ bits_n 6 (a * 8 + b) ++ bits_n 3 c = bits_n_join 6 3 (a * 8 + b) c (omega (arith, q)) in
    let z : bits_n 6 (a * 8 + b) ≡ bits_n 3 a ++ bits_n 3 b = bits_n_join 3 3 a b (omega (arith, p)) in
    rw (x, y, z, from_zero 7 a, from_zero 7 b, from_zero 7 c, from_zero 7 d, append-nil, append_assoc, append_assoc)

-- each of four digits is at most 7
pub record Digits (xs : List ℕ) : Type 0 where
  pub first : get_or xs 0 0 ≤ 7
  pub second : get_or xs 1 0 ≤ 7
  pub third : get_or xs 2 0 ≤ 7
  pub fourth : get_or xs 3 0 ≤ 7

pub four_digits : (xs : List ℕ) → length xs ≡ 4 → digits_fit xs ≡ true → Digits xs
four_digits (a ∷ b ∷ c ∷ d ∷ []) l f =
    let g = digits_behind a _ f in
    let h = digits_behind b _ g in
    record { first = digit_below a _ f; second = digit_below b _ g; third = digit_below c _ h; fourth = digit_below d _ (digits_behind c _ h) }
four_digits [] l f = absurd (omega (arith, l))
four_digits (a ∷ []) l f = absurd (omega (arith, l))
four_digits (a ∷ b ∷ []) l f = absurd (omega (arith, l))
four_digits (a ∷ b ∷ c ∷ []) l f = absurd (omega (arith, l))
four_digits (a ∷ b ∷ c ∷ d ∷ e ∷ xs) l f = absurd (omega (arith, l))

pub code_said : (xs : List ℕ) → length xs ≡ 4 → digits_fit xs ≡ true
    → OneNumber (number_pieces 7 xs) 12 (((get_or xs 0 0 * 8 + get_or xs 1 0) * 8 + get_or xs 2 0) * 8 + get_or xs 3 0)
code_said (a ∷ b ∷ c ∷ d ∷ []) l f =
    let o = four_digits (a ∷ b ∷ c ∷ d ∷ []) l f in
    record {
      all_fit = code_fit (a ∷ b ∷ c ∷ d ∷ []) f;
      said = code_bits (a ∷ b ∷ c ∷ d ∷ []) ∙ four a b c d o.second o.third o.fourth;
      small = omega (arith, o.first, o.second, o.third, o.fourth);
      few = omega arith;
    }
code_said [] l f = absurd (omega (arith, l))
code_said (a ∷ []) l f = absurd (omega (arith, l))
code_said (a ∷ b ∷ []) l f = absurd (omega (arith, l))
code_said (a ∷ b ∷ c ∷ []) l f = absurd (omega (arith, l))
code_said (a ∷ b ∷ c ∷ d ∷ e ∷ xs) l f = absurd (omega (arith, l))

-- ---- an element whose argument is one number

pub record ElementNumber (d : Direction) (k : ArgumentKind) (e : Element) (t : List ℕ) (n v : ℕ) : Type 0 where
  pub all_fit : pieces_fit (element_pieces_as d k e t) ≡ true
  pub said : pieces_bits (element_pieces_as d k e t) ≡ bits_n n v
  pub small : v < 2 ^ n
  pub few : n ≤ 64

element_with : (d : Direction) (k : ArgumentKind) (e : Element) (t : List ℕ) (w n v : ℕ) → last_of d < 2 ^ w → w ≤ 8
    → w ≡ width_of (last_of d - 0)
    → e.number ≤ last_of d → OneNumber (argument_pieces k e t) n v
    → ElementNumber d k e t (1 + w + n) (e.number * 2 ^ n + v)
unfolding pieces_fit pieces_bits index_bits
element_with d k e t w n v z y x l o =
    let i : ℕ = e.number in
    let j : bits_n (1 + w) (0 * 2 ^ w + i) ≡ bits_n 1 0 ++ bits_n w i = bits_n_join 1 w 0 i (omega (arith, l, z)) in
    let m : bits_n (1 + w + n) (i * 2 ^ n + v) ≡ bits_n (1 + w) i ++ bits_n n v = bits_n_join (1 + w) n i v o.small in
    let g : 0 * 2 ^ w + i ≡ i = omega arith in
    let h : 2 ^ w ≤ 2 ^ (1 + w) = pow_mono {i = w} {j = 1 + w} (omega arith) in
    let u : i * 2 ^ n + v < 2 ^ (1 + w) * 2 ^ n = digits_lt (omega (arith, l, z, h)) o.small in
    record {
      all_fit = both_hold (whole_fits 0 (last_of d) i) _
          (both_hold (leb 0 i) (leb i (last_of d)) (le-leb 0 i (omega arith)) (le-leb i (last_of d) l)) o.all_fit;
      said = rw (o.said, from_zero, ← x, m) (ap (λ (b : List ℕ). b ++ bits_n n v) (sym (rw g at j)));
      small = rw (pow-add 2 (1 + w) n) u;
      few = omega (arith, y, o.few);
    }

pub element_said : (d : Direction) (k : ArgumentKind) (e : Element) (t : List ℕ) (w n v : ℕ) → w ≡ width_of (last_of d - 0)
    → e.number ≤ last_of d → OneNumber (argument_pieces k e t) n v
    → ElementNumber d k e t (1 + w + n) (e.number * 2 ^ n + v)
unfolding digits_in last_of
element_said direction.Downlink k e t w n v p l o = rw p (element_with direction.Downlink k e t 7 n v (omega arith) (omega arith) refl l o)
element_said direction.Uplink k e t w n v p l o = rw p (element_with direction.Uplink k e t 8 n v (omega arith) (omega arith) refl l o)

module _ (d : Direction) (k : ArgumentKind) (e : Element) (t : List ℕ) (last w n v : ℕ) (pl : last ≡ last_of d) (pw : w ≡ width_of (last - 0)) (o : OneNumber (argument_pieces k e t) n v) (l : e.number ≤ last) where
  shifted_small : e.number * 2 ^ n ≤ 236 * 262144
  shifted_small =
      let b : 2 ^ n ≤ 2 ^ 18 = pow_mono {i = n} {j = 18} o.few in
      let i : e.number ≤ 236 = omega (arith, l, pl, last_small d) in
      mul-le-mul i b

  not_cut : e.number * 2 ^ n % 2 ^ 64 ≡ e.number * 2 ^ n
  not_cut = mod-eq_of_lt (omega (arith, shifted_small))

  pub element_fits_one : e.number * 2 ^ n % 2 ^ 64 + v < 2 ^ 64
  element_fits_one =
      let b : 2 ^ n ≤ 2 ^ 18 = pow_mono {i = n} {j = 18} o.few in
      rw not_cut (omega (arith, shifted_small, b, o.small))

  pub element_put : (s z : List ℕ) (end at : ℕ) (a : Option ℕ) → Within s end at (1 + w + n)
      → left a z ≡ put_number s end at (1 + w + n) (e.number * 2 ^ n % 2 ^ 64 + v)
      → left a z ≡ put_pieces s end at (element_pieces_as d k e t)
  element_put s z end at a h q =
      let u = element_said d k e t w n v (rw pl at pw) (rw pl at l) o in
      one_put (element_pieces_as d k e t) s z end at (1 + w + n) (e.number * 2 ^ n + v) a u.all_fit u.said u.small
      u.few h (rw not_cut at q)
