-- A message that the writer takes, and so each that was read, is of the struct's types, and its numbers fit into their bytes.
-- Assumes nothing.
use mathlib.Core.Path.{◌≡◌, refl, ap, sym, subst}
use mathlib.Core.Bool.{Bool, true, false, cond, ◌&&◌}
use mathlib.Core.List.{List, [], ◌∷◌, ◌++◌}
use Prim.Native.Nat.{ℕ, zero, suc, ◌≤◌, ◌<◌}
use native.Mathlib.Omega.{arith}
use borrow.Author.Tests.{eqb-true, lt-ltb}
use lib.Dec.{eqb}
use lib.ListN.{length, get_or, take, drop, take-append-drop}
use Rattle.words.proofs.Laws.{both_left, both_right}
use Rattle.fields.specs.Encodings.{whole_fits}
use Rattle.elements.specs.Arguments.{lowest, highest, level_type_fits, level_fits, no_type, same?, time_fits, digits_fit, code_fits_of, characters_fit, sized_fits, facility_fits, atis_fits}
use Rattle.kinds.specs.Elements.{kind_of}
use Rattle.elements.specs.OneElement.{no_level, no_time, no_digits, last_of, level_unused, time_unused, code_unused, levels_unused, plain, no_text_of, argument_fits, element_fits}
use Rattle.kinds.specs.declared.Direction.{Direction}
use Rattle.kinds.specs.declared.Direction.TheVariants.{Downlink, Uplink}
use Rattle.kinds.specs.declared.ArgumentKind.{ArgumentKind}
use Rattle.kinds.specs.declared.ArgumentKind.TheVariants as kind
use Rattle.elements.specs.declared.values.LevelType.{LevelType}
use Rattle.elements.specs.declared.values.Level.{Level}
use Rattle.elements.specs.declared.values.Time.{Time}
use Rattle.elements.specs.declared.values.Element.{Element}
use Rattle.elements.proofs.Whole.{whole_below}
use Rattle.elements.proofs.Levels.{highest_small, same_is}
use Rattle.elements.proofs.Unused.{level_unused_is, time_unused_is, code_unused_is, plain_is, no_text}
use Rattle.inner.specs.Headers.{date_time_fits, reference_fits, header_fits}
use Rattle.inner.specs.Places.{row_fits}
use Rattle.inner.specs.Messages.{empty, all_empty, message_fits}
use Rattle.inner.proofs.MessageLaws.{fits_of}
use Rattle.inner.specs.declared.values.Header.{Header}
use Rattle.inner.specs.declared.values.DateTime.{DateTime}
use Rattle.inner.specs.declared.values.Message.{Message}
use Rattle.layout.proofs.StructTypes.{LevelTyped, ElementTyped, ElementsTyped, none, more, Typed, places_fit, bytes_fit}
use Rattle.layout.proofs.InOrder.{fit_cons}

never : {A : Type 0} → false ≡ true → A
never e = let z : ◌≡◌ {A = ℕ} 0 1 = cc in absurd (omega arith)

-- ---- levels, times and codes

record TypeTyped (y : LevelType) : Type 0 where
  unit : y.unit < 256
  number : y.number < 65536

type_typed : (y : LevelType) → level_type_fits y ≡ true → TypeTyped y
unfolding level_type_fits
type_typed y h =
    let a = whole_below 0 3 y.unit
    (both_left (whole_fits 0 3 y.unit) (whole_fits (lowest y.unit) (highest y.unit) y.number) h) in
    let b = whole_below (lowest y.unit) (highest y.unit) y.number
    (both_right (whole_fits 0 3 y.unit) (whole_fits (lowest y.unit) (highest y.unit) y.number) h) in
    let c = highest_small y.unit in
    record { unit = omega arith; number = omega arith }

none_typed : (y : LevelType) → y ≡ no_type → TypeTyped y
none_typed y e = let a = ap (λ (z : LevelType). z.unit) e in let b = ap (λ (z : LevelType). z.number) e in record { unit = omega arith; number = omega arith }

second_typed : (b : Bool) (y : LevelType) → cond b (level_type_fits y) (same? y no_type) ≡ true → TypeTyped y
second_typed true y h = type_typed y h
second_typed false y h = none_typed y (same_is y no_type h)

two_typed : (x : Level) → TypeTyped x.first → TypeTyped x.second → LevelTyped x
two_typed x p q = record { unit = p.unit; number = p.number; second_unit = q.unit; second_number = q.number }

level_fits_is : (x : Level) → level_fits x ≡ true → LevelTyped x
unfolding level_fits
level_fits_is x h =
    let a = level_type_fits x.first in
    let b = cond x.block (level_type_fits x.second) (same? x.second no_type) in
    two_typed x (type_typed x.first (both_left a b h)) (second_typed x.block x.second (both_right a b h))

level_none : (x : Level) → x ≡ no_level → LevelTyped x
level_none x e = two_typed x (none_typed x.first (ap (λ (z : Level). z.first) e))
    (none_typed x.second (ap (λ (z : Level). z.second) e))

record TimeTyped (x : Time) : Type 0 where
  hours : x.hours < 256
  minutes : x.minutes < 256

time_fits_is : (x : Time) → time_fits x ≡ true → TimeTyped x
unfolding time_fits
time_fits_is x h =
    let a = whole_below 0 23 x.hours (both_left (whole_fits 0 23 x.hours) (whole_fits 0 59 x.minutes) h) in
    let b = whole_below 0 59 x.minutes (both_right (whole_fits 0 23 x.hours) (whole_fits 0 59 x.minutes) h) in
    record { hours = omega arith; minutes = omega arith }

time_none : (x : Time) → x ≡ no_time → TimeTyped x
time_none x e = let a = ap (λ (z : Time). z.hours) e in let b = ap (λ (z : Time). z.minutes) e in record { hours = omega arith; minutes = omega arith }

record CodeTyped (c : List ℕ) : Type 0 where
  digits : length c ≡ 4
  digit : (k : ℕ) → get_or c k 0 < 256

digits_low : (c : List ℕ) → digits_fit c ≡ true → (k : ℕ) → get_or c k 0 < 256
unfolding digits_fit
digits_low [] h k = omega arith
digits_low (x ∷ c) h zero = let a = whole_below 0 7 x (both_left (whole_fits 0 7 x) (digits_fit c) h) in omega arith
digits_low (x ∷ c) h (suc k) = digits_low c (both_right (whole_fits 0 7 x) (digits_fit c) h) k

code_fits : (c : List ℕ) → code_fits_of c ≡ true → CodeTyped c
unfolding code_fits_of
code_fits c h =
    record {
      digits = eqb-true (length c) 4 (both_left (eqb (length c) 4) (digits_fit c) h);
      digit = digits_low c (both_right (eqb (length c) 4) (digits_fit c) h);
    }

code_none : (c : List ℕ) → c ≡ no_digits → CodeTyped c
code_none c e = subst CodeTyped (sym e) (record { digits = refl; digit = zeros })
  where
    zeros : (k : ℕ) → get_or no_digits k 0 < 256
    zeros zero = omega arith
    zeros (suc zero) = omega arith
    zeros (suc (suc zero)) = omega arith
    zeros (suc (suc (suc zero))) = omega arith
    zeros (suc (suc (suc (suc k)))) = omega arith

-- ---- an argument, by its kind

record Argument (e : Element) (t : List ℕ) : Type 0 where
  level : LevelTyped e.level
  other : LevelTyped e.other
  time : TimeTyped e.time
  code : CodeTyped e.code
  short : length t ≤ 256

plain_argument : (e : Element) (t : List ℕ) → plain e ≡ true → length t ≤ 256 → Argument e t
plain_argument e t h n =
    let p = plain_is e h in
    record {
      level = level_none e.level p.level;
      other = level_none e.other p.other;
      time = time_none e.time p.time;
      code = code_none e.code p.code;
      short = n;
    }

no_characters : (t : List ℕ) → no_text_of t ≡ true → length t ≤ 256
no_characters t h = let a = ap length (no_text t h) in omega arith

sized_short : (least most : ℕ) (t : List ℕ) → most ≤ 256 → sized_fits least most t ≡ true → length t ≤ 256
unfolding sized_fits
sized_short least most t n h = let a = whole_below least most (length t)
    (both_left (whole_fits least most (length t)) (characters_fit t) h) in omega arith

facility_short : (t : List ℕ) → facility_fits t ≡ true → length t ≤ 256
unfolding facility_fits
facility_short [] h = omega arith
facility_short (c ∷ cs) h = sized_short 4 8 (c ∷ cs) (omega arith) h

atis_short : (t : List ℕ) → atis_fits t ≡ true → length t ≤ 256
unfolding atis_fits
atis_short t h = let a = eqb-true (length t) 1 (both_left (eqb (length t) 1) (characters_fit t) h) in omega arith

no_levels : (e : Element) → levels_unused e ≡ true → (LevelTyped e.level × LevelTyped e.other)
unfolding levels_unused
no_levels e h = (
  level_none e.level (level_unused_is e.level (both_left (level_unused e.level) (level_unused e.other) h)),
  level_none e.other
      (level_unused_is e.other (both_right (level_unused e.level) (level_unused e.other) h)),
)

-- levels and nothing else, and a time or a code
with_levels : (e : Element) (t : List ℕ) (a b : Bool) → (a ≡ true → LevelTyped e.level)
    → (b ≡ true → LevelTyped e.other) → (a && b && time_unused e.time && code_unused e.code && no_text_of t) ≡ true
    → Argument e t
with_levels e t a b x y h =
    let c = time_unused e.time in
    let d = code_unused e.code in
    let p = both_left (a && b && c && d) (no_text_of t) h in
    let q = both_left (a && b && c) d p in
    let r = both_left (a && b) c q in
    record {
      level = x (both_left a b r);
      other = y (both_right a b r);
      time = time_none e.time (time_unused_is e.time (both_right (a && b) c q));
      code = code_none e.code (code_unused_is e.code (both_right (a && b && c) d p));
      short = no_characters t (both_right (a && b && c && d) (no_text_of t) h);
    }

without_levels : (e : Element) (t : List ℕ) (b c : Bool) → (b ≡ true → TimeTyped e.time)
    → (c ≡ true → CodeTyped e.code) → (levels_unused e && b && c && no_text_of t) ≡ true → Argument e t
without_levels e t b c x y h =
    let a = levels_unused e in
    let p = both_left (a && b && c) (no_text_of t) h in
    let q = both_left (a && b) c p in
    let l = no_levels e (both_left a b q) in
    record {
      level = l.0;
      other = l.1;
      time = x (both_right a b q);
      code = y (both_right (a && b) c p);
      short = no_characters t (both_right (a && b && c) (no_text_of t) h);
    }

argument : (k : ArgumentKind) (e : Element) (t : List ℕ) → argument_fits k e t ≡ true → Argument e t
unfolding argument_fits
argument kind.NotCarried e t h = never h
argument kind.None e t h = plain_argument e t (both_left (plain e) (no_text_of t) h) (no_characters t (both_right (plain e) (no_text_of t) h))
argument kind.Level e t h = with_levels e t _ _ (level_fits_is e.level)
    (λ (p : level_unused e.other ≡ true). level_none e.other (level_unused_is e.other p)) h
argument kind.TwoLevels e t h = with_levels e t _ _ (level_fits_is e.level) (level_fits_is e.other) h
argument kind.Time e t h = without_levels e t _ _ (time_fits_is e.time)
    (λ (p : code_unused e.code ≡ true). code_none e.code (code_unused_is e.code p)) h
argument kind.Code e t h = without_levels e t _ _
    (λ (p : time_unused e.time ≡ true). time_none e.time (time_unused_is e.time p)) (code_fits e.code) h
argument kind.FreeText e t h = plain_argument e t (both_left (plain e) (sized_fits 1 256 t) h)
    (sized_short 1 256 t (omega arith) (both_right (plain e) (sized_fits 1 256 t) h))
argument kind.Facility e t h = plain_argument e t (both_left (plain e) (facility_fits t) h)
    (facility_short t (both_right (plain e) (facility_fits t) h))
argument kind.FacilityDesignation e t h = plain_argument e t (both_left (plain e) (sized_fits 4 8 t) h)
    (sized_short 4 8 t (omega arith) (both_right (plain e) (sized_fits 4 8 t) h))
argument kind.AtisCode e t h = plain_argument e t (both_left (plain e) (atis_fits t) h) (atis_short t (both_right (plain e) (atis_fits t) h))

-- ---- an element, and a row of them

record Good (e : Element) : Type 0 where
  typed : ElementTyped e
  short : e.characters < 65536

good : (e : Element) (t : List ℕ) → e.number < 256 → e.characters ≡ length t → Argument e t → Good e
good e t n c a =
    let s = a.short in
    record {
      typed =
          record {
            number = n;
            level = a.level;
            other = a.other;
            hours = a.time.hours;
            minutes = a.time.minutes;
            digits = a.code.digits;
            digit = a.code.digit;
          };
      short = omega arith;
    }

last_low : (d : Direction) → last_of d < 256
unfolding last_of
last_low Downlink = omega arith
last_low Uplink = omega arith

element_good : (d : Direction) (e : Element) (t : List ℕ) → element_fits d e t ≡ true → Good e
unfolding element_fits
element_good d e t h =
    let a = whole_fits 0 (last_of d) e.number in
    let b = eqb e.characters (length t) in
    let c = argument_fits (kind_of d e.number) e t in
    let p = both_left (a && b) c h in
    let n = whole_below 0 (last_of d) e.number (both_left a b p) in
    let l = last_low d in
    good e t (omega arith) (eqb-true e.characters (length t) (both_right a b p))
    (argument (kind_of d e.number) e t (both_right (a && b) c h))

empty_good : (e : Element) → empty e ≡ true → Good e
unfolding empty
empty_good e h =
    let a = eqb e.number 0 in
    let c = eqb e.characters 0 in
    let p = both_left (a && plain e) c h in
    let n = eqb-true e.number 0 (both_left a (plain e) p) in
    good e [] (omega arith) (eqb-true e.characters 0 (both_right (a && plain e) c h))
    (plain_argument e [] (both_right a (plain e) p) (omega arith))

record AllGood (es : List Element) : Type 0 where
  typed : ElementsTyped es
  fit : places_fit es ≡ true

good_none : AllGood []
unfolding places_fit
good_none = record { typed = none; fit = refl }

good_more : (e : Element) (es : List Element) → Good e → AllGood es → AllGood (e ∷ es)
good_more e es p q = record { typed = more e es p.typed q.typed; fit = rw (fit_cons e es, lt-ltb e.characters 65536 p.short) q.fit }

-- elements, and empty places behind them
row_good : (d : Direction) (es us : List Element) (t : List ℕ) → row_fits d es t ≡ true → AllGood us → AllGood (es ++ us)
unfolding row_fits
row_good d [] us t h q = q
row_good d (e ∷ es) us t h q =
    let a = element_fits d e (take e.characters t) in
    let b = row_fits d es (drop e.characters t) in
    good_more e (es ++ us) (element_good d e (take e.characters t) (both_left a b h))
    (row_good d es us (drop e.characters t) (both_right a b h) q)

empties_good : (us : List Element) → all_empty us ≡ true → AllGood us
unfolding all_empty
empties_good [] h = good_none
empties_good (e ∷ us) h = good_more e us (empty_good e (both_left (empty e) (all_empty us) h))
    (empties_good us (both_right (empty e) (all_empty us) h))

-- ---- the header

reference_low : (b : Bool) (n : ℕ) → reference_fits b n ≡ true → n < 256
unfolding reference_fits
reference_low true n h = let a = whole_below 0 63 n h in omega arith
reference_low false n h = let a = eqb-true n 0 h in omega arith

record DateTyped (x : DateTime) : Type 0 where
  year : x.year < 65536
  month : x.month < 256
  day : x.day < 256
  time : TimeTyped x.time
  seconds : x.seconds < 256

date_fits : (x : DateTime) → date_time_fits x ≡ true → DateTyped x
unfolding date_time_fits
date_fits x h =
    let a = whole_fits 1996 2095 x.year in
    let b = whole_fits 1 12 x.month in
    let c = whole_fits 1 31 x.day in
    let d = time_fits x.time in
    let e = whole_fits 0 59 x.seconds in
    let p = both_left (a && b && c && d) e h in
    let q = both_left (a && b && c) d p in
    let r = both_left (a && b) c q in
    let y = whole_below 1996 2095 x.year (both_left a b r) in
    let m = whole_below 1 12 x.month (both_right a b r) in
    let k = whole_below 1 31 x.day (both_right (a && b) c q) in
    let s = whole_below 0 59 x.seconds (both_right (a && b && c && d) e h) in
    record { year = omega arith; month = omega arith; day = omega arith; time = time_fits_is x.time (both_right (a && b && c) d p); seconds = omega arith }

record HeaderTyped (x : Header) : Type 0 where
  identification : x.identification < 256
  reference : x.reference < 256
  dated : DateTyped x.dated

header_fits_is : (x : Header) → header_fits x ≡ true → HeaderTyped x
unfolding header_fits
header_fits_is x h =
    let a = whole_fits 0 63 x.identification in
    let b = reference_fits x.referenced x.reference in
    let c = date_time_fits x.dated in
    let p = both_left (a && b) c h in
    let i = whole_below 0 63 x.identification (both_left a b p) in
    record {
      identification = omega arith;
      reference = reference_low x.referenced x.reference (both_right a b p);
      dated = date_fits x.dated (both_right (a && b) c h);
    }

-- ---- the message

pub record Storable (m : Message) : Type 0 where
  pub typed : Typed m
  pub fit : bytes_fit m ≡ true

pub storable : (d : Direction) (m : Message) (t : List ℕ) → message_fits d m t ≡ true → Storable m
unfolding bytes_fit
storable d m t h =
    let f = fits_of d m t h in
    let k = whole_below 1 5 m.count f.count in
    let x = header_fits_is m.header f.header in
    let g = row_good d (take m.count m.places) (drop m.count m.places) t f.row
    (empties_good (drop m.count m.places) f.unused) in
    let l : AllGood m.places = subst AllGood (take-append-drop m.count m.places) g in
    record {
      typed =
          record {
            identification = x.identification;
            reference = x.reference;
            year = x.dated.year;
            month = x.dated.month;
            day = x.dated.day;
            hours = x.dated.time.hours;
            minutes = x.dated.time.minutes;
            seconds = x.dated.seconds;
            five = f.five;
            elements = l.typed;
          };
      fit = rw (lt-ltb m.count 256 (omega arith)) l.fit;
    }
